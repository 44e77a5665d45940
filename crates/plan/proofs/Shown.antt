-- Shown: the numbers that the reader lays out for a plan show that plan, lie within its text, and hold nothing to spare.
-- Assumes nothing.
use mathlib.Core.Path.{◌≡◌, refl, sym, ap, ◌∙◌, subst}
use mathlib.Core.Bool.{true, false, ◌&&◌, ◌||◌}
use mathlib.Core.List.{List, [], ◌∷◌, ◌++◌, map, append_assoc, append-nil}
use Prim.Native.Nat.{ℕ, zero, suc, ◌+◌, ◌*◌, ◌≤◌, ◌<◌}
use native.Mathlib.Nat.{le_of_suc-le-suc, not-suc-le-zero}
use native.Mathlib.Numerals.{add-one}
use native.Mathlib.Omega.{arith}
use lib.Dec.{eqb}
use lib.ListN.{length, take, drop, get_or, length-append, drop_of_length-le}
use lib.Seq.{take_at, drop_at, take_all, drop-drop, drop-nil, get_or-take}
use borrow.Author.Tests.{le-leb, ne_eqb}
use Rattle.paper.specs.Lists.{every, concat}
use Rattle.paper.specs.Fields.{Kind, unknown, P, A, O, S, M, W, R, X, is, Field, fields_of}
use Rattle.paper.specs.Plan.{Slots, Head, Row, Plan}
use Rattle.paper.specs.Judging.{all_empty, missing}
use Rattle.paper.specs.Writing.{good_slot, good_slots, good_element, sound_head, sound_row, sound, decimal}
use Rattle.paper.specs.Layout.{Span, head_values, row_values, rows_values, plan_values, text_of, spans_from, shown, shown_all}
use Rattle.paper.proofs.Small.{no, both}
use Rattle.paper.proofs.Element.{good_slots_lem, good_whole}
use Rattle.paper.proofs.Rows.{row, View, head, med, rec, free, AllSound, all_sound}
use Rattle.paper.proofs.Sheets.{SoundHead, head_sound_lem}
use Rattle.plan.specs.Numbers.{record_at, kind_shown, own_spans, twos, before, to_last, row_with, show_row, show_rows, paper_span, head_with, show_head, show_plan, absent, within, in_text, head_in_text, known_kind, has_spans, spare_absent, fit_record, fit_rows, kind_number, padded, record_with, row_numbers, rows_numbers, code_span, plan_numbers, plan_rows}
use Rattle.plan.proofs.Records.{records_behind}
use Rattle.plan.proofs.Spans.{none, record_size, spans_back, front_spans, padded_long, padded_front, padded_behind}

-- ---- values that lie without gaps

-- values that lie without gaps from place n on are what their spans show
pub shown_again : (pre : List ℕ) (vs : Slots) (post : List ℕ) (n : ℕ) → length pre ≡ n → shown_all (pre ++ (concat vs ++ post)) (spans_from n vs) ≡ vs
shown_again pre [] post n e = refl
shown_again pre ([] ∷ vs) post n e = ap (λ (l : Slots). [] ∷ l) (shown_again pre vs post (n + 0) (omega arith))
shown_again pre ((c ∷ v) ∷ vs) post n e =
    let x : List ℕ = c ∷ v in
    let t : List ℕ = pre ++ ((x ++ concat vs) ++ post) in
    let here : take (suc (length v)) (drop n t) ≡ x =
    ap (take (suc (length v))) (drop_at pre ((x ++ concat vs) ++ post) n e ∙ append_assoc x (concat vs) post) ∙ take_at x (concat vs ++ post) (suc (length v)) refl in
    let along : t ≡ (pre ++ x) ++ (concat vs ++ post) = ap (λ (l : List ℕ). pre ++ l) (append_assoc x (concat vs) post) ∙ sym (append_assoc pre x (concat vs ++ post)) in
    let long : length (pre ++ x) ≡ n + length x = length-append pre x ∙ ap (λ (m : ℕ). m + length x) e in
    let rest : shown_all t (spans_from (n + length x) vs) ≡ vs = ap (λ (l : List ℕ). shown_all l (spans_from (n + length x) vs)) along ∙ shown_again (pre ++ x) vs post (n + length x) long in
    ap (λ (l : List ℕ). l ∷ shown_all t (spans_from (n + length x) vs)) here ∙ ap (λ (l : Slots). x ∷ l) rest

-- their spans lie within any text that is long enough
pub spans_inside : (m n : ℕ) (vs : Slots) → n + length (concat vs) ≤ m → every (within m) (spans_from n vs) ≡ true
spans_inside m n [] h = refl
spans_inside m n ([] ∷ vs) h = spans_inside m (n + 0) vs (omega arith)
spans_inside m n ((c ∷ v) ∷ vs) h =
    let long = length-append (c ∷ v) (concat vs) in
    rw (ne_eqb (suc (length v)) 0 (omega arith), le-leb (n + suc (length v)) m (omega arith), spans_inside m (n + suc (length v)) vs (omega arith))

-- absent spans in the place of those that lack show absent values
shown_padded : (t : List ℕ) (k : ℕ) (ss : List Span) → shown_all t (padded k none ss) ≡ padded k [] (shown_all t ss)
shown_padded t zero ss = refl
shown_padded t (suc k) [] = ap (λ (l : Slots). [] ∷ l) (shown_padded t k [])
shown_padded t (suc k) (s ∷ ss) = ap (λ (l : Slots). shown t s ∷ l) (shown_padded t k ss)

-- and they lie within any text
inside_padded : (m k : ℕ) (ss : List Span) → every (within m) ss ≡ true → every (within m) (padded k none ss) ≡ true
inside_padded m zero ss e = refl
inside_padded m (suc k) [] e = inside_padded m k [] e
inside_padded m (suc k) (s ∷ ss) e = let (a, b) = both (within m s) (every (within m) ss) e in rw (a, inside_padded m k ss b)

-- ---- rows

-- the W of a row: each has its two slots, and one of them is present
abbrev pub Whole : List Slots → Type 0
Whole [] = Unit {0}
Whole (w ∷ ws) = ((length w ≡ 2) × (all_empty w ≡ false)) × Whole ws

-- a row with just what its kind has: its slots, and for a medication a package number and at most three W
pub data Shape : Row → Type 0 where
  heading : (vs : Slots) → length vs ≡ 2 → Shape (row S 0 vs [])
  medication : (n : ℕ) (vs : Slots) (ws : List Slots) → length vs ≡ 13 → length ws ≤ 3 → Whole ws → Shape (row M n vs ws)
  recipe : (vs : Slots) → length vs ≡ 2 → Shape (row R 0 vs [])
  note : (vs : Slots) → length vs ≡ 1 → Shape (row X 0 vs [])

-- good slots are as many as the element has fields
good_long : (fs : List Field) (vs : Slots) → good_slots fs vs ≡ true → length vs ≡ length fs
good_long [] [] e = refl
good_long [] (v ∷ vs) e = no (sym e)
good_long (f ∷ fs) [] e = no (sym e)
good_long (f ∷ fs) (v ∷ vs) e = ap suc (good_long fs vs (both (good_slot f v) (good_slots fs vs) e).1)

-- a good element has as many slots as the table has fields
pub element_long : (k : Kind) (vs : Slots) → good_element k vs ≡ true → length vs ≡ length (fields_of k)
element_long k vs g = good_long (fields_of k) vs (good_slots_lem k vs g)

-- a W that is good has its two slots, and its w is present
whole_w : (w : Slots) → good_element W w ≡ true → (length w ≡ 2) × (all_empty w ≡ false)
unfolding fields_of
whole_w w g = (element_long W w g, there w (element_long W w g) (good_whole W w g).0)
  where
    there : (w : Slots) → length w ≡ 2 → missing (fields_of W) w ≡ false → all_empty w ≡ false
    there [] h m = absurd (omega arith)
    there ([] ∷ v) h m = no m
    there ((c ∷ u) ∷ v) h m = refl

whole_ws : (ws : List Slots) → every (good_element W) ws ≡ true → Whole ws
whole_ws [] e = tt
whole_ws (w ∷ ws) e = let (a, b) = both (good_element W w) (every (good_element W) ws) e in (whole_w w a, whole_ws ws b)

-- a sound row has just what a record has room for
pub shape : {r : Row} → View r → Shape r
unfolding fields_of
shape (head vs e g) = heading vs (element_long S vs g)
shape (med n vs ws l w e g) = medication n vs ws (let h = element_long M (decimal n ∷ vs) g in omega arith) l (whole_ws ws w)
shape (rec vs g) = recipe vs (element_long R vs g)
shape (free vs g) = note vs (element_long X vs g)

-- twice a number, by clauses
abbrev dbl : ℕ → ℕ
dbl zero = 0
dbl (suc k) = suc (suc (dbl k))

-- no W at all
no_ws : (k : ℕ) → to_last (twos k (padded (dbl k) [] [])) ≡ []
no_ws zero = refl
no_ws (suc k) = rw (no_ws k, to_last)

-- a W in front of whole ones
in_front : (w : Slots) (ws : List Slots) → all_empty w ≡ false → before w ws ≡ w ∷ ws
in_front w [] e = rw e
in_front w (v ∷ ws) e = refl

-- two slots, and what lies behind them
first_two : (w l : Slots) (m : ℕ) → length w ≡ 2 → (take 2 (padded (suc (suc m)) [] (w ++ l)) ≡ w) × (drop 2 (padded (suc (suc m)) [] (w ++ l)) ≡ padded m [] l)
first_two [] l m h = absurd (omega arith)
first_two (a ∷ []) l m h = absurd (omega arith)
first_two (a ∷ b ∷ []) l m h = (refl, refl)
first_two (a ∷ b ∷ c ∷ w) l m h = absurd (omega arith)

-- the W of a row are those of its values, two by two
ws_back : (ws : List Slots) (k : ℕ) → Whole ws → length ws ≤ k → to_last (twos k (padded (dbl k) [] (concat ws))) ≡ ws
ws_back [] k h l = no_ws k
ws_back (w ∷ ws) zero h l = absurd (omega arith)
ws_back (w ∷ ws) (suc k) h l =
    let two = first_two w (concat ws) (dbl k) h.0.0 in
    rw (two.0, two.1, ws_back ws k h.1 (omega arith)) (in_front w ws h.0.1)

-- the slots of a row are its first values
front : (vs l : Slots) (m : ℕ) → length vs ≡ m → m ≤ 19 → take m (padded 19 [] (vs ++ l)) ≡ vs
front vs l m e h = ap (λ (k : ℕ). take k (padded 19 [] (vs ++ l))) (sym e) ∙ padded_front [] vs l 19 (omega arith)

-- the W's slots lie behind a medication's own
behind : (vs l : Slots) → length vs ≡ 13 → drop 13 (padded 19 [] (vs ++ l)) ≡ padded 6 [] l
behind vs l e = subst (λ (m : ℕ). drop m (padded (m + 6) [] (vs ++ l)) ≡ padded 6 [] l) e (padded_behind [] vs l 6)

-- the row with the values of a row is the row
with_back : {r : Row} → Shape r → row_with r.kind r.pzn (padded 19 [] (row_values r)) ≡ r
with_back (heading vs h) = ap (λ (l : Slots). row S 0 l []) (front vs [] 2 h (omega arith))
with_back (medication n vs ws h l w) =
    ap (λ (x : Slots). row M n x (to_last (twos 3 (drop 13 (padded 19 [] (vs ++ concat ws)))))) (front vs (concat ws) 13 h (omega arith))
    ∙ ap (λ (x : Slots). row M n vs (to_last (twos 3 x))) (behind vs (concat ws) h)
    ∙ ap (λ (x : List Slots). row M n vs x) (ws_back ws 3 w l)
with_back (recipe vs h) = ap (λ (l : Slots). row R 0 l []) (front vs [] 2 h (omega arith))
with_back (note vs h) = ap (λ (l : Slots). row X 0 l []) (front vs [] 1 h (omega arith))

-- the number of a row's kind shows the kind
kind_back : {r : Row} → Shape r → kind_shown (kind_number r.kind) ≡ r.kind
kind_back (heading vs h) = refl
kind_back (medication n vs ws h l w) = refl
kind_back (recipe vs h) = refl
kind_back (note vs h) = refl

-- what a record that was made shows
made_shown : (t : List ℕ) (k n : ℕ) (ss : List Span) → show_row t (record_with k n ss) ≡ row_with (kind_shown k) n (shown_all t (padded 19 none ss))
unfolding show_row record_with
made_shown t k n ss = ap (λ (l : List Span). row_with (kind_shown k) n (shown_all t l)) (spans_back k n ss)

-- the record of a row, whose values lie in the text, shows the row
pub row_back : (pre post : List ℕ) (n : ℕ) {r : Row} → length pre ≡ n → Shape r → show_row (pre ++ (concat (row_values r) ++ post)) (row_numbers n r) ≡ r
row_back pre post n {r} e h =
    let t : List ℕ = pre ++ (concat (row_values r) ++ post) in
    let ss : List Span = spans_from n (row_values r) in
    made_shown t (kind_number r.kind) r.pzn ss
    ∙ ap (λ (k : Kind). row_with k r.pzn (shown_all t (padded 19 none ss))) (kind_back h)
    ∙ ap (row_with r.kind r.pzn) (shown_padded t 19 ss ∙ ap (padded 19 []) (shown_again pre (row_values r) post n e))
    ∙ with_back h

-- a record's first 40 numbers show the row
of_front : (t l : List ℕ) → show_row t (take 40 l) ≡ show_row t l
unfolding show_row
of_front t l = rw (get_or-take 40 l 0 0 (omega arith), get_or-take 40 l 1 0 (omega arith), front_spans l)

-- two records that agree in their first 40 numbers show the same row, wherever the rows came from
pub same_row : (t l m : List ℕ) → take 40 l ≡ take 40 m → show_row t l ≡ show_row t m
same_row t l m e = sym (of_front t l) ∙ ap (show_row t) e ∙ of_front t m

-- ---- records of no kind

-- a number that stands for no kind shows none
pub unknown_shown : (n : ℕ) → known_kind n ≡ false → kind_shown n ≡ unknown
unknown_shown n e =
    let other : (k : ℕ) → known_kind k ≡ true → eqb n k ≡ false = λ k t. ne_eqb n k (λ q. no (sym t ∙ sym (ap known_kind q) ∙ e)) in
    rw (other 1 refl, other 2 refl, other 3 refl, other 4 refl)

-- a row of no kind is not sound
pub unknown_refused : (t l : List ℕ) → known_kind (get_or l 0 0) ≡ false → sound_row (show_row t l) ≡ false
unfolding sound_row show_row
unknown_refused t l e = rw (unknown_shown (get_or l 0 0) e)

-- ---- what a record holds beside its row

-- the record of a row points nowhere outside a text that is long enough
row_inside : (t : List ℕ) (n : ℕ) (r : Row) → n + length (concat (row_values r)) ≤ length t → in_text t (row_numbers n r) ≡ true
unfolding in_text
row_inside t n r h =
    ap (every (within (length t))) (spans_back (kind_number r.kind) r.pzn (spans_from n (row_values r)))
    ∙ inside_padded (length t) 19 (spans_from n (row_values r)) (spans_inside (length t) n (row_values r) h)

-- spans that are made up for those that lack are absent
absent_behind : (k : ℕ) (ss : List Span) (m : ℕ) → length ss ≡ m → every absent (drop m (padded k none ss)) ≡ true
absent_behind zero ss m e = rw (drop-nil {A = Span} m)
absent_behind (suc k) [] zero e = absent_behind k [] zero e
absent_behind (suc k) [] (suc m) e = absurd (omega arith)
absent_behind (suc k) (s ∷ ss) zero e = absurd (omega arith)
absent_behind (suc k) (s ∷ ss) (suc m) e = absent_behind k ss m (omega arith)

-- each value has its span
pub spans_count : (n : ℕ) (vs : Slots) → length (spans_from n vs) ≡ length vs
spans_count n [] = refl
spans_count n (v ∷ vs) = ap suc (spans_count (n + length v) vs)

-- what a record that was made has to spare
made_spare : (k n : ℕ) (ss : List Span) → spare_absent (record_with k n ss) ≡ (every absent (drop (has_spans (kind_shown k)) (padded 19 none ss)) && (is (kind_shown k) M || eqb n 0))
unfolding spare_absent record_with
made_spare k n ss = ap (λ (l : List Span). every absent (drop (has_spans (kind_shown k)) l) && (is (kind_shown k) M || eqb n 0)) (spans_back k n ss)

-- of a row without W only its kind's own spans can be present
own_only : (n : ℕ) (vs : Slots) (m : ℕ) → length vs ≡ m → every absent (drop m (padded 19 none (spans_from n (vs ++ [])))) ≡ true
own_only n vs m e = absent_behind 19 (spans_from n (vs ++ [])) m (spans_count n (vs ++ []) ∙ ap length (append-nil vs) ∙ e)

-- the record of a row has nothing to spare
row_spare : (n : ℕ) {r : Row} → Shape r → spare_absent (row_numbers n r) ≡ true
row_spare n (heading vs h) = made_spare 1 0 (spans_from n (vs ++ [])) ∙ rw (own_only n vs 2 h)
row_spare n (medication p vs ws h l w) = made_spare 2 p (spans_from n (vs ++ concat ws)) ∙ rw (drop_of_length-le (padded 19 none (spans_from n (vs ++ concat ws))) {i = 19} (omega (arith, padded_long none 19 (spans_from n (vs ++ concat ws)))))
row_spare n (recipe vs h) = made_spare 3 0 (spans_from n (vs ++ [])) ∙ rw (own_only n vs 2 h)
row_spare n (note vs h) = made_spare 4 0 (spans_from n (vs ++ [])) ∙ rw (own_only n vs 1 h)

-- the record of a row has the number of a kind
row_known : (n : ℕ) {r : Row} → Shape r → known_kind (get_or (row_numbers n r) 0 0) ≡ true
unfolding record_with
row_known n (heading vs h) = refl
row_known n (medication p vs ws h l w) = refl
row_known n (recipe vs h) = refl
row_known n (note vs h) = refl

-- the record of a row is fit
pub row_fit : (t : List ℕ) (n : ℕ) {r : Row} → Shape r → n + length (concat (row_values r)) ≤ length t → fit_record t (row_numbers n r) ≡ true
row_fit t n {r} h l = rw (row_known n h, row_inside t n r l, row_spare n h)

-- ---- all rows

-- each row has just what its kind has
abbrev pub Shapes : List Row → Type 0
Shapes [] = Unit {0}
Shapes (r ∷ rs) = Shape r × Shapes rs

-- sound rows do
pub shapes : (rs : List Row) → AllSound rs → Shapes rs
shapes [] h = tt
shapes (r ∷ rs) h = (shape h.0, shapes rs h.1)

-- values of two lists, one list behind the other
pub concat_append : (a b : Slots) → concat (a ++ b) ≡ concat a ++ concat b
concat_append [] b = refl
concat_append (v ∷ a) b = ap (λ (l : List ℕ). v ++ l) (concat_append a b) ∙ sym (append_assoc v (concat a) (concat b))

-- the record of a first row stands first, and the records of the others behind it
records : (n m : ℕ) (r : Row) (rs : List Row) (more : List ℕ)
    → (take 48 ((row_numbers n r ++ rows_numbers m rs) ++ more) ≡ row_numbers n r) × (drop 48 ((row_numbers n r ++ rows_numbers m rs) ++ more) ≡ rows_numbers m rs ++ more)
records n m r rs more =
    let l : List ℕ = row_numbers n r in
    let long : length l ≡ 48 = record_size (kind_number r.kind) r.pzn (spans_from n (row_values r)) in
    let along : (l ++ rows_numbers m rs) ++ more ≡ l ++ (rows_numbers m rs ++ more) = append_assoc l (rows_numbers m rs) more in
    (ap (take 48) along ∙ take_at l (rows_numbers m rs ++ more) 48 long, ap (drop 48) along ∙ drop_at l (rows_numbers m rs ++ more) 48 long)

-- the records of rows, whose values lie in the text, show the rows
pub rows_back : (pre : List ℕ) (rs : List Row) (post more : List ℕ) (n : ℕ) → length pre ≡ n → Shapes rs
    → show_rows (pre ++ (concat (rows_values rs) ++ post)) (length rs) (rows_numbers n rs ++ more) ≡ rs
rows_back pre [] post more n e h = refl
rows_back pre (r ∷ rs) post more n e h =
    let v : List ℕ = concat (row_values r) in
    let w : List ℕ = concat (rows_values rs) in
    let m : ℕ = n + length v in
    let t : List ℕ = pre ++ (concat (row_values r ++ rows_values rs) ++ post) in
    let apart = records n m r rs more in
    let here-lies : t ≡ pre ++ (v ++ (w ++ post)) = ap (λ (x : List ℕ). pre ++ (x ++ post)) (concat_append (row_values r) (rows_values rs)) ∙ ap (λ (x : List ℕ). pre ++ x) (append_assoc v w post) in
    let rest-lies : t ≡ (pre ++ v) ++ (w ++ post) = here-lies ∙ sym (append_assoc pre v (w ++ post)) in
    let here : show_row t (take 48 ((row_numbers n r ++ rows_numbers m rs) ++ more)) ≡ r =
    ap (show_row t) apart.0 ∙ ap (λ (x : List ℕ). show_row x (row_numbers n r)) here-lies ∙ row_back pre (w ++ post) n e h.0 in
    let rest : show_rows t (length rs) (drop 48 ((row_numbers n r ++ rows_numbers m rs) ++ more)) ≡ rs =
    ap (show_rows t (length rs)) apart.1 ∙ ap (λ (x : List ℕ). show_rows x (length rs) (rows_numbers m rs ++ more)) rest-lies
    ∙ rows_back (pre ++ v) rs post more m (length-append pre v ∙ ap (λ (k : ℕ). k + length v) e) h.1 in
    ap (λ (x : Row). x ∷ show_rows t (length rs) (drop 48 ((row_numbers n r ++ rows_numbers m rs) ++ more))) here ∙ ap (λ (x : List Row). r ∷ x) rest

-- the records of rows are fit
pub rows_fit : (t : List ℕ) (rs : List Row) (more : List ℕ) (n : ℕ) → Shapes rs → n + length (concat (rows_values rs)) ≤ length t → fit_rows t (length rs) (rows_numbers n rs ++ more) ≡ true
rows_fit t [] more n h l = refl
rows_fit t (r ∷ rs) more n h l =
    let m : ℕ = n + length (concat (row_values r)) in
    let apart = records n m r rs more in
    let long = ap length (concat_append (row_values r) (rows_values rs)) ∙ length-append (concat (row_values r)) (concat (rows_values rs)) in
    rw (apart.0, apart.1, row_fit t n h.0 (omega arith), rows_fit t rs more m h.1 (omega arith))

-- ---- one row after the other

-- the rows that are shown from row i on are those that the records from record i on show
rows_from_lem : (t : List ℕ) (n : ℕ) (rows : List ℕ) (i : ℕ) → i < n → drop i (show_rows t n rows) ≡ show_row t (record_at rows i) ∷ drop (suc i) (show_rows t n rows)
rows_from_lem t zero rows i h = absurd (not-suc-le-zero h)
rows_from_lem t (suc n) rows zero h = refl
rows_from_lem t (suc n) rows (suc i) h =
    rows_from_lem t n (drop 48 rows) i (le_of_suc-le-suc h) ∙ ap (λ (l : List ℕ). show_row t (take 48 l) ∷ drop (suc i) (show_rows t n (drop 48 rows))) (records_behind i rows)

-- as many rows are shown as there are records
pub rows_shown : (t : List ℕ) (n : ℕ) (rows : List ℕ) → length (show_rows t n rows) ≡ n
rows_shown t zero rows = refl
rows_shown t (suc n) rows = ap suc (rows_shown t n (drop 48 rows))

-- the next row of those from row i on
pub row_next : (t : List ℕ) (n : ℕ) (rows : List ℕ) (i : ℕ) → i < n → drop i (show_rows t n rows) ≡ show_row t (record_at rows i) ∷ drop (i + 1) (show_rows t n rows)
row_next t n rows i h = rows_from_lem t n rows i h ∙ ap (λ (k : ℕ). show_row t (record_at rows i) ∷ drop k (show_rows t n rows)) (sym (add-one i))

-- a row's record has as many numbers as the rows' stride, so rows have as many as their count times that
pub rows_size : (n : ℕ) (rs : List Row) → length (rows_numbers n rs) ≡ length rs * 48
rows_size n [] = refl
rows_size n (r ∷ rs) =
    let m : ℕ = n + length (concat (row_values r)) in
    length-append (row_numbers n r) (rows_numbers m rs) ∙ omega (arith, record_size (kind_number r.kind) r.pzn (spans_from n (row_values r)), rows_size m rs)

-- ---- the fields that the layout names are those of document 01's table

-- each kind's own spans are its fields, but for the package number of a medication; a W has two
pub own_fields : (own_spans S ≡ length (fields_of S)) × ((suc (own_spans M) ≡ length (fields_of M)) × ((own_spans R ≡ length (fields_of R)) × ((own_spans X ≡ length (fields_of X)) × (2 ≡ length (fields_of W)))))
unfolding fields_of
own_fields = (refl, (refl, (refl, (refl, refl))))

-- ---- the head, and the plan

-- a head with just the fields of P, A and O
pub record HeadShape (h : Head) : Type 0 where
  pub person_long : length h.person ≡ 8
  pub author_long : length h.author ≡ 10
  pub measures_long : length h.measures ≡ 7

-- a sound head has
pub head_shape : (h : Head) → SoundHead h → HeadShape h
unfolding fields_of
head_shape h s = record { person_long = element_long P h.person s.person_ok; author_long = element_long A h.author s.author_ok; measures_long = element_long O h.measures s.measures_ok }

-- the head with the values of a head is the head
head_with_back : (h : Head) → HeadShape h → head_with h.patch (head_values h) ≡ h
head_with_back h s =
    let am : Slots = h.author ++ h.measures in
    let person-is : take 8 (h.person ++ am) ≡ h.person = take_at h.person am 8 s.person_long in
    let past : drop 8 (h.person ++ am) ≡ am = drop_at h.person am 8 s.person_long in
    let author-is : take 10 (drop 8 (h.person ++ am)) ≡ h.author = ap (take 10) past ∙ take_at h.author h.measures 10 s.author_long in
    let measures_is : take 7 (drop 18 (h.person ++ am)) ≡ h.measures =
    ap (take 7) (sym (drop-drop 10 8 (h.person ++ am)) ∙ ap (drop 10) past ∙ drop_at h.author h.measures 10 s.author_long) ∙ take_all 7 h.measures (omega arith) in
    rw (person-is, author-is, measures_is)

-- a span of document 01 is the same after it was a span of the code
spans_same : (ss : List Span) → map paper_span (map code_span ss) ≡ ss
spans_same [] = refl
spans_same (s ∷ ss) = ap (λ (l : List Span). s ∷ l) (spans_same ss)

-- the spans of a head, whose values lie at the text's beginning, show the head
pub head_back : (p : Plan) (post : List ℕ) → HeadShape p.head → show_head (concat (head_values p.head) ++ post) (plan_numbers p) ≡ p.head
unfolding show_head
head_back p post s =
    let h : Head = p.head in
    ap (λ (l : List Span). head_with h.patch (shown_all (concat (head_values h) ++ post) l)) (spans_same (spans_from 0 (head_values h)))
    ∙ ap (head_with h.patch) (shown_again [] (head_values h) post 0 refl)
    ∙ head_with_back h s

-- a plan with just what its head and each row's kind have
pub record PlanShape (p : Plan) : Type 0 where
  pub head_has : HeadShape p.head
  pub rows_have : Shapes p.rows

-- a sound plan has
pub plan_shape : (p : Plan) → sound p ≡ true → PlanShape p
plan_shape p e = let (a, b) = both (sound_head p.head) (every sound_row p.rows) e in record { head_has = head_shape p.head (head_sound_lem p.head a); rows_have = shapes p.rows (all_sound p.rows b) }

-- a plan's text is the head's values, and then the rows'
pub text_parts : (p : Plan) → text_of p ≡ concat (head_values p.head) ++ concat (rows_values p.rows)
unfolding text_of plan_values
text_parts p = concat_append (head_values p.head) (rows_values p.rows)

-- the numbers that the reader lays out for a plan show that plan, whatever lies behind them in text and rows
pub plan_back : (p : Plan) (rest more : List ℕ) → PlanShape p → show_plan (text_of p ++ rest) (plan_numbers p) (plan_rows p ++ more) ≡ p
plan_back p rest more s =
    let hv : List ℕ = concat (head_values p.head) in
    let rv : List ℕ = concat (rows_values p.rows) in
    let lies : text_of p ++ rest ≡ hv ++ (rv ++ rest) = ap (λ (x : List ℕ). x ++ rest) (text_parts p) ∙ append_assoc hv rv rest in
    rw (lies, head_back p (rv ++ rest) s.head_has, rows_back hv p.rows rest more (length hv) refl s.rows_have)

-- so they do for a sound plan
pub sound_back : (p : Plan) (rest more : List ℕ) → sound p ≡ true → show_plan (text_of p ++ rest) (plan_numbers p) (plan_rows p ++ more) ≡ p
sound_back p rest more e = plan_back p rest more (plan_shape p e)

-- they point nowhere outside the text, and hold nothing to spare
pub plan_fit : (p : Plan) (rest more : List ℕ) → sound p ≡ true
    → (head_in_text (text_of p ++ rest) (plan_numbers p) ≡ true) × (fit_rows (text_of p ++ rest) (length p.rows) (plan_rows p ++ more) ≡ true)
unfolding head_in_text
plan_fit p rest more e =
    let hv : List ℕ = concat (head_values p.head) in
    let rv : List ℕ = concat (rows_values p.rows) in
    let t : List ℕ = text_of p ++ rest in
    let long : length t ≡ length hv + length rv + length rest = length-append (text_of p) rest ∙ ap (λ (k : ℕ). k + length rest) (ap length (text_parts p) ∙ length-append hv rv) in
    (ap (every (within (length t))) (spans_same (spans_from 0 (head_values p.head))) ∙ spans_inside (length t) 0 (head_values p.head) (omega arith), rows_fit t p.rows more (length hv) (plan_shape p e).rows_have (omega arith))
