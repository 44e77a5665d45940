-- Told: what the code finds of a cell tells the cell of the numbers.
-- Assumes nothing.
use Rattle.std.specs.Prelude.{Some, None, Option as Maybe}
use mathlib.Core.Path.{◌≡◌, refl, sym, ap, ◌∙◌}
use mathlib.Core.Bool.{Bool, true, false, not, ◌&&◌}
use mathlib.Core.List.{List, [], ◌∷◌, map}
use mathlib.Core.Option.{Option, none, some}
use Prim.Native.Nat.{ℕ, zero, suc, ◌+◌, ◌-◌, ◌*◌, ◌≤◌}
use native.Mathlib.Omega.{arith}
use lib.Dec.{eqb, leb}
use lib.ListN.{length, get_or, replicate}
use borrow.Author.Tests.{leb-true}
use Rattle.paper.specs.Lists.{bytes, if, is_empty}
use Rattle.paper.specs.Fields.{Kind, M, is}
use Rattle.paper.specs.Plan.{Row, scheme, free_text, unstated, timed, dose_from}
use Rattle.paper.specs.Layout.{Span, shown}
use Rattle.paper.specs.Cells.{CellField, name, form, morning, midday, evening, night, free_dose, substance, strength, Cell, cell, no_cell, of_w, cut_to, own_or, time_cell, free_cell, of_three, cell_of, cell_in}
use Rattle.paper.proofs.Small.{both, if_same}
use Rattle.paper.proofs.Told.{is_eq}
use Rattle.paper.proofs.CellLaws.{RowAt, cell_row, no_other_row}
use Rattle.paper.proofs.ByKind.{alike}
use Rattle.plan.specs.Numbers.{record_at, span_in, spans_of, kind_shown, row_with, absent, within, code_span, paper_span}
use Rattle.plan.specs.Records.{no_span, code_span_in, code_kind, texts_in, row_in, dose_in}
use Rattle.plan.specs.Records as R
use Rattle.plan.specs.declared.Span as Code
use Rattle.plan.specs.declared.Times.{Times}
use Rattle.plan.specs.declared.Dose.TheVariants.{Scheme, Free, Unstated}
use Rattle.cell.specs.declared.Cell as Found
use Rattle.cell.specs.Numbered.{field_of, row_there, stands_for, row_for, rows_for, no_value, in_range, cell_for, cell_at}
use Rattle.cell.specs.Found.{text_found, dose_found, time_of, time_found, free_found, three_found, field_found, held, is_medication, row_found, found}
use Rattle.cell.proofs.Values.{stands, medication, named, formed, dosed, substances, row_numbered}

-- the cell that is told, with that text and that catalogue: of one that is found, and where there may be none
abbrev pub told_shown : List ℕ → List ℕ → Found.Cell → Cell
told_shown t k c = if (eqb c.limit 0) (cell (shown t (paper_span c.own)) false 0 c.zero) (cut_to c.limit (own_or (shown t (paper_span c.own)) k))

abbrev pub told : List ℕ → List ℕ → Maybe Found.Cell → Cell
told t k None = no_cell
told t k (Some c) = told_shown t k c

-- ---- a cell with a limit

module _ (t k : List ℕ) where
  -- it is refused where its value points outside the text
  limit_told : (s : Span) (n : ℕ) → eqb n 0 ≡ false → told t k (held (length t) (Some (text_found (code_span s) n))) ≡ if (within (length t) s) (cut_to n (own_or (stands_for t s) k)) no_cell
  limit_told s n e = at (within (length t) s)
    where
      at : (b : Bool) → told t k (if b (Some (text_found (code_span s) n)) None) ≡ if b (cut_to n (own_or (if b (shown t s) (replicate s.len 0)) k)) no_cell
      at true = rw e
      at false = refl

  -- one of three
  three_told : (texts : List Code.Span) (j i n : ℕ) (s : Span) (v : List ℕ) → eqb n 0 ≡ false → (1 ≤ i → i ≤ 3 → (get_or texts (j + 2 * i) no_span ≡ code_span s) × (v ≡ stands_for t s))
      → told t k (held (length t) (three_found texts j i n)) ≡ if (within (length t) s) (if (of_three i) (cut_to n (own_or v k)) no_cell) no_cell
  three_told texts j i n s v e f = at (of_three i) refl
    where
      at : (b : Bool) → of_three i ≡ b → told t k (held (length t) (if b (Some (text_found (get_or texts (j + 2 * i) no_span) n)) None)) ≡ if (within (length t) s) (if b (cut_to n (own_or v k)) no_cell) no_cell
      at false q = sym (if_same (within (length t) s) no_cell)
      at true q =
          let (a, b) = both (leb 1 i) (leb i 3) q in
          let (x, y) = f (leb-true 1 i a) (leb-true i 3 b) in
          rw (x, y) (limit_told s n e)

  -- ---- a dose

  -- document 01's dose, by tests
  by_tests : (m d v h x : List ℕ) → dose_from m d v h x ≡ if (is_empty x) (timed m d v h) (free_text x)
  by_tests m d v h [] = refl
  by_tests m d v h (c ∷ x) = refl

  -- a dose cell is refused where its value points outside the text
  value_told : (s : Span) (v : List ℕ) (z y : Bool) → v ≡ stands_for t s → y ≡ z → told t k (held (length t) (Some (dose_found (code_span s) z))) ≡ if (within (length t) s) (cell v false 0 y) no_cell
  value_told s v z y e f = rw (e, f) (at (within (length t) s))
    where
      at : (b : Bool) → told t k (if b (Some (dose_found (code_span s) z)) None) ≡ if b (cell (if b (shown t s) (replicate s.len 0)) false 0 z) no_cell
      at true = refl
      at false = refl

  module _ (m d v h x : Span) where
    -- the dose that the code takes from five spans
    abbrev times : Times
    times = record { morning = code_span m; midday = code_span d; evening = code_span v; night = code_span h }

    -- no time is present
    abbrev untimed : Bool
    untimed = absent m && (absent d && (absent v && absent h))

    -- document 01's dose of the five values, with each present by its length
    dose_stands : dose_from (stands_for t m) (stands_for t d) (stands_for t v) (stands_for t h) (stands_for t x)
        ≡ if (absent x) (if untimed unstated (scheme (stands_for t m) (stands_for t d) (stands_for t v) (stands_for t h))) (free_text (stands_for t x))
    dose_stands = by_tests (stands_for t m) (stands_for t d) (stands_for t v) (stands_for t h) (stands_for t x) ∙ rw (stands t m, stands t d, stands t v, stands t h, stands t x)

    -- a time of day
    time_told : (w : Times → Code.Span) (u : List ℕ → List ℕ → List ℕ → List ℕ → List ℕ) (s : Span) → w times ≡ code_span s → u (stands_for t m) (stands_for t d) (stands_for t v) (stands_for t h) ≡ stands_for t s
        → (untimed ≡ true → absent s ≡ true)
        → told t k (held (length t) (Some (time_found w (R.dose_from times (code_span x)))))
        ≡ if (within (length t) (if (not (absent x)) no_value s)) (time_cell u (dose_from (stands_for t m) (stands_for t d) (stands_for t v) (stands_for t h) (stands_for t x))) no_cell
    time_told w u s e f g = rw dose_stands (at (absent x) untimed refl)
      where
        at : (a b : Bool) → untimed ≡ b
            → told t k (held (length t) (Some (time_found w (if a (if b Unstated (Scheme times)) (Free (code_span x))))))
            ≡ if (within (length t) (if (not a) no_value s)) (time_cell u (if a (if b unstated (scheme (stands_for t m) (stands_for t d) (stands_for t v) (stands_for t h))) (free_text (stands_for t x)))) no_cell
        at false b q = refl
        at true true q = rw (g q)
        at true false q = rw e (value_told s (u (stands_for t m) (stands_for t d) (stands_for t v) (stands_for t h)) (absent s) (is_empty (u (stands_for t m) (stands_for t d) (stands_for t v) (stands_for t h))) f (ap is_empty f ∙ stands t s))

    -- the free text
    free_told : told t k (held (length t) (Some (free_found (R.dose_from times (code_span x)))))
        ≡ if (within (length t) x) (free_cell (dose_from (stands_for t m) (stands_for t d) (stands_for t v) (stands_for t h) (stands_for t x))) no_cell
    free_told = rw dose_stands (at (absent x) untimed refl)
      where
        at : (a b : Bool) → absent x ≡ a
            → told t k (held (length t) (Some (free_found (if a (if b Unstated (Scheme times)) (Free (code_span x))))))
            ≡ if (within (length t) x) (free_cell (if a (if b unstated (scheme (stands_for t m) (stands_for t d) (stands_for t v) (stands_for t h))) (free_text (stands_for t x)))) no_cell
        at false b q = value_told x (stands_for t x) false false refl refl
        at true true q = rw q
        at true false q = rw q

-- one of four is absent where all are
pub none_present : (a b c d : Bool) → (a && (b && (c && d))) ≡ true → (a ≡ true) × (b ≡ true) × (c ≡ true) × (d ≡ true)
none_present a b c d e =
    let (p, q) = both a (b && (c && d)) e in
    let (r, s) = both b (c && d) q in
    let (x, y) = both c d s in
    (p, r, x, y)

-- ---- a row

-- the texts of a row are spans of its record, and its dose is the record's
module _ (l : List ℕ) where
  pub texts_are : (get_or (row_in l).texts 0 no_span ≡ code_span_in l 0) × (get_or (row_in l).texts 2 no_span ≡ code_span_in l 2)
  unfolding row_in texts_in
  texts_are = (refl, refl)

  pub dose_is : (row_in l).dose ≡ dose_in l
  unfolding row_in
  dose_is = refl

  kind_is : (row_in l).kind ≡ code_kind (kind_shown (get_or l 0 0))
  unfolding row_in
  kind_is = refl

  pub three_are : (i : ℕ) → 1 ≤ i → i ≤ 3 → (get_or (row_in l).texts (6 + 2 * i) no_span ≡ code_span_in l (11 + 2 * i)) × (get_or (row_in l).texts (7 + 2 * i) no_span ≡ code_span_in l (12 + 2 * i))
  unfolding row_in texts_in
  three_are zero h g = absurd (omega arith)
  three_are (suc zero) h g = (refl, refl)
  three_are (suc (suc zero)) h g = (refl, refl)
  three_are (suc (suc (suc zero))) h g = (refl, refl)
  three_are (suc (suc (suc (suc i)))) h g = absurd (omega arith)

-- the cell of a medication's field
field_told : (t k l : List ℕ) (f : CellField) → told t k (held (length t) (field_found (row_in l) (some f))) ≡ if (in_range t l f) (cell_of (medication t l) f k) no_cell
field_told t k l name = rw ((texts_are l).0, named t l) (limit_told t k (span_in l 0) 50 refl)
field_told t k l form = rw ((texts_are l).1, formed t l) (limit_told t k (span_in l 2) 7 refl)
field_told t k l (substance i) = three_told t k (row_in l).texts 6 i 80 (span_in l (11 + 2 * i)) (of_w (bytes "w") i (medication t l).ws) refl (λ h g. ((three_are l i h g).0, (substances t l i h g).0))
field_told t k l (strength i) = three_told t k (row_in l).texts 7 i 15 (span_in l (12 + 2 * i)) (of_w (bytes "s") i (medication t l).ws) refl (λ h g. ((three_are l i h g).1, (substances t l i h g).1))
field_told t k l morning = rw (dose_is l, dosed t l) (time_told t k (span_in l 3) (span_in l 4) (span_in l 5) (span_in l 6) (span_in l 7) (time_of 5) (λ m d v h. m) (span_in l 3) refl refl (λ e. (none_present (absent (span_in l 3)) (absent (span_in l 4)) (absent (span_in l 5)) (absent (span_in l 6)) e).0))
field_told t k l midday = rw (dose_is l, dosed t l) (time_told t k (span_in l 3) (span_in l 4) (span_in l 5) (span_in l 6) (span_in l 7) (time_of 6) (λ m d v h. d) (span_in l 4) refl refl (λ e. (none_present (absent (span_in l 3)) (absent (span_in l 4)) (absent (span_in l 5)) (absent (span_in l 6)) e).1))
field_told t k l evening = rw (dose_is l, dosed t l) (time_told t k (span_in l 3) (span_in l 4) (span_in l 5) (span_in l 6) (span_in l 7) (time_of 7) (λ m d v h. v) (span_in l 5) refl refl (λ e. (none_present (absent (span_in l 3)) (absent (span_in l 4)) (absent (span_in l 5)) (absent (span_in l 6)) e).2))
field_told t k l night = rw (dose_is l, dosed t l) (time_told t k (span_in l 3) (span_in l 4) (span_in l 5) (span_in l 6) (span_in l 7) (time_of 8) (λ m d v h. h) (span_in l 6) refl refl (λ e. (none_present (absent (span_in l 3)) (absent (span_in l 4)) (absent (span_in l 5)) (absent (span_in l 6)) e).3))
field_told t k l free_dose = rw (dose_is l, dosed t l) (free_told t k (span_in l 3) (span_in l 4) (span_in l 5) (span_in l 6) (span_in l 7))

-- a row is a medication for the code exactly if it is for document 01
is_medication_lem : (j : Kind) → is_medication (code_kind j) ≡ is j M
is_medication_lem j = alike (λ j. is_medication (code_kind j)) (λ j. is j M) refl j

-- the row that a medication's record stands for
pub for_medication : (t l : List ℕ) → kind_shown (get_or l 0 0) ≡ M → row_for t l ≡ medication t l
unfolding row_for
for_medication t l e = ap (λ (j : Kind). row_with j (get_or l 1 0) (map (stands_for t) (spans_of l))) e

-- its kind
pub for_kind : (t l : List ℕ) → (row_for t l).kind ≡ kind_shown (get_or l 0 0)
unfolding row_for
for_kind t l = refl

-- the cell of a row, of the rows among which it stands
row_told : (t k l : List ℕ) (rs : List Row) (i : ℕ) (f : CellField) → RowAt rs i (row_for t l) → told t k (row_found (length t) (row_in l) (some f)) ≡ if (in_range t l f) (cell_in rs i f k) no_cell
row_told t k l rs i f here = ap (λ (b : Bool). told t k (if b (held (length t) (field_found (row_in l) (some f))) None)) (ap is_medication (kind_is l) ∙ is_medication_lem (kind_shown (get_or l 0 0))) ∙ at (is (kind_shown (get_or l 0 0)) M) refl
  where
    at : (b : Bool) → is (kind_shown (get_or l 0 0)) M ≡ b → told t k (if b (held (length t) (field_found (row_in l) (some f))) None) ≡ if (in_range t l f) (cell_in rs i f k) no_cell
    at true e =
        let q : kind_shown (get_or l 0 0) ≡ M = is_eq (kind_shown (get_or l 0 0)) M e in
        let shown-in : cell_in rs i f k ≡ cell_of (medication t l) f k = cell_row rs i (row_for t l) f k here (for_kind t l ∙ q) ∙ ap (λ (r : Row). cell_of r f k) (for_medication t l q) in
        rw shown-in (field_told t k l f)
    at false e =
        let shown-in : cell_in rs i f k ≡ no_cell = no_other_row rs i (row_for t l) f k here (ap (λ (j : Kind). is j M) (for_kind t l) ∙ e) in
        rw shown-in (sym (if_same (in_range t l f) no_cell))

-- what it means that a row is there
pub there : (rows : List ℕ) (count row : ℕ) → row_there rows count row ≡ true → (1 ≤ row) × (row ≤ count) × (row * 48 ≤ length rows)
there rows count row e =
    let (a, q) = both (leb 1 row) (leb row count && leb (row * 48) (length rows)) e in
    let (b, c) = both (leb row count) (leb (row * 48) (length rows)) q in
    (leb-true 1 row a, leb-true row count b, leb-true (row * 48) (length rows) c)

found_told : (t k rows : List ℕ) (count row : ℕ) (o : Option CellField) → told t k (found rows count (length t) row o) ≡ cell_for rows count t k row o
unfolding found
found_told t k rows count row none = at (row_there rows count row)
  where
    at : (b : Bool) → told t k (if b (row_found (length t) (row_in (record_at rows (row - 1))) none) None) ≡ no_cell
    at true = ap (told t k) (if_same (is_medication (row_in (record_at rows (row - 1))).kind) None)
    at false = refl
found_told t k rows count row (some f) = at (row_there rows count row) refl
  where
    at : (b : Bool) → row_there rows count row ≡ b
        → told t k (if b (row_found (length t) (row_in (record_at rows (row - 1))) (some f)) None) ≡ if (b && in_range t (record_at rows (row - 1)) f) (cell_in (rows_for t count rows) row f k) no_cell
    at false e = refl
    at true e =
        let h = there rows count row e in
        row_told t k (record_at rows (row - 1)) (rows_for t count rows) row f (row_numbered (row_for t) (rows_for t) (λ n rs. refl) count rows row h.0 h.1)

-- the cell that a call asks for is what the code's cell tells
pub cell_told_lem : (t k rows : List ℕ) (count row n i : ℕ) → told t k (found rows count (length t) row (field_of n i)) ≡ cell_at rows count t k row n i
unfolding cell_at
cell_told_lem t k rows count row n i = found_told t k rows count row (field_of n i)
