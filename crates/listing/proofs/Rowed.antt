-- Rowed: the lines of rows from their records, row after row.
-- Assumes nothing.
use mathlib.Core.Path.{◌≡◌, refl, sym, ap, ◌∙◌}
use mathlib.Core.Bool.{Bool, true, false, ◌&&◌}
use mathlib.Core.List.{List, [], ◌∷◌, ◌++◌, append-nil, append_assoc}
use Prim.Native.Nat.{ℕ, zero, suc, ◌+◌, ◌≤◌, ◌<◌}
use native.Mathlib.Nat.{le_of_suc-le-suc, not-suc-le-zero}
use native.Mathlib.Omega.{arith}
use lib.ListN.{take, drop, get_or, drop_of_length-le}
use lib.Seq.{drop-drop}
use Rattle.paper.specs.Lists.{bytes, if}
use Rattle.paper.specs.Fields.{Kind, M, W, is, Field, fields_of}
use Rattle.paper.specs.Plan.{Slots, Row}
use Rattle.paper.specs.Judging.{all_empty}
use Rattle.paper.specs.Layout.{shown_all}
use Rattle.paper.specs.Writing.{decimal}
use Rattle.paper.specs.Listing.{Line, line, path, field_lines, element_lines, w_lines, row_mark, row_lines, rows_lines, print}
use Rattle.paper.proofs.Small.{both}
use Rattle.plan.specs.Numbers.{record_at, spans_of, kind_shown, own_spans, twos, before, to_last, row_with, show_row, show_rows, in_text, known_kind, spare_absent, fit_record, fit_rows, span_place}
use Rattle.plan.proofs.Records.{records_behind}
use Rattle.plan.proofs.Shown.{row_next, rows_shown}
use Rattle.listing.specs.Numbered.{given, lines_of, plain_row, substance_lines, medication_row}
use Rattle.plan.proofs.Numbered.{part_of_row}
use Rattle.fields.proofs.Parts.{row_fields}
use Rattle.room.specs.Numbered.{spans_at}
use Rattle.fields.specs.Places.{fields_from}
use Rattle.listing.proofs.Fielded.{print_append}

-- ---- a row's lines

plain_with : (k : Kind) (n : ℕ) (vs : Slots) → is k M ≡ false → row_lines (row_with k n vs) ≡ line (bytes "row") (row_mark k) ∷ element_lines k (take (own_spans k) vs)
plain_with k n vs e = rw e (ap (λ (r : List Line). line (bytes "row") (row_mark k) ∷ r) (append-nil (element_lines k (take (own_spans k) vs))))

-- a row that is no medication
pub plain_is : (t rows : List ℕ) (i : ℕ) (k : Kind) (first : ℕ) → kind_shown (get_or (record_at rows i) 0 0) ≡ k → is k M ≡ false → own_spans k ≤ 19 → fields_of k ≡ fields_from first (own_spans k)
    → row_lines (show_row t (record_at rows i)) ≡ plain_row (row_mark k) (path k) first (own_spans k) t rows i
unfolding show_row
plain_is t rows i k first e m h f =
    let l : List ℕ = record_at rows i in
    let vs : Slots = shown_all t (spans_of l) in
    ap (λ (q : Kind). row_lines (row_with q (get_or l 1 0) vs)) e
    ∙ plain_with k (get_or l 1 0) vs m
    ∙ ap (λ (q : List Field). line (bytes "row") (row_mark k) ∷ field_lines (path k) q (take (own_spans k) vs)) f
    ∙ ap (λ (q : Slots). line (bytes "row") (row_mark k) ∷ field_lines (path k) (fields_from first (own_spans k)) q) (part_of_row t rows i (own_spans k) 0 (omega arith))

med_lines : (v : List ℕ) (vs : Slots) → element_lines M (v ∷ vs) ≡ given (bytes "MP.S.M.p") v ++ field_lines (path M) (fields_from 34 13) vs
unfolding fields_of fields_from
med_lines [] vs = refl
med_lines (c ∷ v) vs = refl

-- a W without values has no lines
none_lines : (k : List ℕ) (fs : List Field) (w : Slots) → all_empty w ≡ true → field_lines k fs w ≡ []
none_lines k [] w e = refl
none_lines k (f ∷ fs) [] e = refl
none_lines k (f ∷ fs) ([] ∷ w) e = none_lines k fs w e
none_lines k (f ∷ fs) ((c ∷ v) ∷ w) e = let z : ◌≡◌ {A = ℕ} 0 1 = cc in absurd (omega arith)

last_lines : (w : Slots) (ws : List Slots) → w_lines (before w ws) ≡ element_lines W w ++ w_lines ws
last_lines w [] = at (all_empty w) refl
  where
    at : (b : Bool) → all_empty w ≡ b → w_lines (if b [] (w ∷ [])) ≡ element_lines W w ++ []
    at true e = rw (none_lines (path W) (fields_of W) w e)
    at false e = refl
last_lines w (v ∷ ws) = refl

-- the absent W behind the last present one have no lines
to_last_lines : (ws : List Slots) → w_lines (to_last ws) ≡ w_lines ws
to_last_lines [] = refl
to_last_lines (w ∷ ws) = last_lines w (to_last ws) ∙ ap (λ (r : List Line). element_lines W w ++ r) (to_last_lines ws)

-- the lines of a record's W
substances_are : (t rows : List ℕ) (i : ℕ) → w_lines (to_last (twos 3 (drop 13 (shown_all t (spans_of (record_at rows i)))))) ≡ substance_lines t rows i
substances_are t rows i =
    let vs : Slots = shown_all t (spans_of (record_at rows i)) in
    let b : take 2 (drop 2 (drop 13 vs)) ≡ shown_all t (spans_at 2 (span_place i 15) rows) = ap (take 2) (drop-drop 2 13 vs) ∙ part_of_row t rows i 2 15 (omega arith) in
    let c : take 2 (drop 2 (drop 2 (drop 13 vs))) ≡ shown_all t (spans_at 2 (span_place i 17) rows) = ap (take 2) (ap (drop 2) (drop-drop 2 13 vs) ∙ drop-drop 2 15 vs) ∙ part_of_row t rows i 2 17 (omega arith) in
    to_last_lines (twos 3 (drop 13 vs))
    ∙ rw (part_of_row t rows i 2 13 (omega arith), b, c, row_fields.3, append-nil (lines_of (path W) 47 2 t (span_place i 17) rows))

-- a medication row
pub medication_is : (t rows : List ℕ) (i : ℕ) → kind_shown (get_or (record_at rows i) 0 0) ≡ M → row_lines (show_row t (record_at rows i)) ≡ medication_row t rows i
unfolding show_row
medication_is t rows i e =
    let l : List ℕ = record_at rows i in
    let vs : Slots = shown_all t (spans_of l) in
    let n : List ℕ = decimal (get_or l 1 0) in
    let own : take 13 vs ≡ shown_all t (spans_at 13 (span_place i 0) rows) = part_of_row t rows i 13 0 (omega arith) in
    let g : List Line = given (bytes "MP.S.M.p") n in
    let f : List Line = lines_of (path M) 34 13 t (span_place i 0) rows in
    let fields_are : element_lines M (n ∷ take 13 vs) ≡ g ++ f = med_lines n (take 13 vs) ∙ ap (λ (q : Slots). g ++ field_lines (path M) (fields_from 34 13) q) own in
    ap (λ (q : Kind). row_lines (row_with q (get_or l 1 0) vs)) e
    ∙ ap (λ (q : List Line). line (bytes "row") (bytes "M") ∷ (q ++ w_lines (to_last (twos 3 (drop 13 vs))))) fields_are
    ∙ ap (λ (q : List Line). line (bytes "row") (bytes "M") ∷ ((g ++ f) ++ q)) (substances_are t rows i)
    ∙ ap (λ (q : List Line). line (bytes "row") (bytes "M") ∷ q) (append_assoc g f (substance_lines t rows i))

-- ---- the rows in a loop

-- each of the rows points nowhere outside the text
pub row_inside : (t : List ℕ) (n : ℕ) (rows : List ℕ) (i : ℕ) → i < n → fit_rows t n rows ≡ true → in_text t (record_at rows i) ≡ true
row_inside t zero rows i h e = absurd (not-suc-le-zero h)
row_inside t (suc n) rows zero h e =
    let (a, b) = both (fit_record t (take 48 rows)) (fit_rows t n (drop 48 rows)) e in
    let (c, d) = both (known_kind (get_or (take 48 rows) 0 0)) (in_text t (take 48 rows) && spare_absent (take 48 rows)) a in
    (both (in_text t (take 48 rows)) (spare_absent (take 48 rows)) d).0
row_inside t (suc n) rows (suc i) h e =
    let (a, b) = both (fit_record t (take 48 rows)) (fit_rows t n (drop 48 rows)) e in
    ap (λ (l : List ℕ). in_text t (take 48 l)) (sym (records_behind i rows)) ∙ row_inside t n (drop 48 rows) i (le_of_suc-le-suc h) b

-- the lines of the rows from row i on
abbrev pub rows_left : List ℕ → ℕ → List ℕ → ℕ → List ℕ
rows_left t n rows i = print (rows_lines (drop i (show_rows t n rows)))

-- the next row's lines are printed first
pub next_row : (t : List ℕ) (n : ℕ) (rows : List ℕ) (i : ℕ) → i < n → rows_left t n rows i ≡ print (row_lines (show_row t (record_at rows i))) ++ rows_left t n rows (i + 1)
next_row t n rows i h =
    ap (λ (q : List Row). print (rows_lines q)) (row_next t n rows i h)
    ∙ print_append (row_lines (show_row t (record_at rows i))) (rows_lines (drop (i + 1) (show_rows t n rows)))

-- nothing is left behind the last row
pub no_row : (t : List ℕ) (n : ℕ) (rows : List ℕ) (i : ℕ) → n ≤ i → rows_left t n rows i ≡ []
no_row t n rows i h = let l = rows_shown t n rows in ap (λ (q : List Row). print (rows_lines q)) (drop_of_length-le (show_rows t n rows) {i = i} (omega arith))
