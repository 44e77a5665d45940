-- Plans: where a row's values lie in the text, its cells are document 01's cells of the row that the record shows.
-- Assumes nothing.
use mathlib.Core.Path.{◌≡◌, refl, sym, ap, subst, ◌∙◌}
use mathlib.Core.Bool.{Bool, true, false, not, ◌&&◌}
use mathlib.Core.List.{List, [], ◌∷◌, map}
use mathlib.Core.Option.{some}
use Prim.Native.Nat.{ℕ, ◌-◌, ◌≤◌, ◌<◌}
use native.Mathlib.Nat.{zero-add}
use native.Mathlib.Omega.{arith}
use lib.Dec.{leb}
use lib.ListN.{length, get_or}
use borrow.Author.Tests.{leb-true}
use Rattle.paper.specs.Lists.{if, every}
use Rattle.paper.specs.Fields.{M, is}
use Rattle.paper.specs.Plan.{Row}
use Rattle.paper.specs.Layout.{Span, shown_all}
use Rattle.paper.specs.Cells.{CellField, name, form, morning, midday, evening, night, free_dose, substance, strength, no_cell, of_three, cell_in}
use Rattle.paper.proofs.Small.{both, if_same}
use Rattle.paper.proofs.Told.{is_eq}
use Rattle.paper.proofs.CellLaws.{RowAt, cell_row, no_other_row, no_fourth}
use Rattle.plan.specs.Numbers.{record_at, span_in, spans_of, kind_shown, row_with, show_row, show_rows, absent, within, in_text}
use Rattle.plan.proofs.Doses.{each_span}
use Rattle.cell.specs.Numbered.{row_there, stands_for, row_for, rows_for, is_time, no_value, span_for, in_range, cell_for}
use Rattle.cell.proofs.Values.{row_numbered}
use Rattle.cell.proofs.Told.{there}

-- values that lie in the text are what their spans show
all_shown : (t : List ℕ) (ss : List Span) → every (within (length t)) ss ≡ true → map (stands_for t) ss ≡ shown_all t ss
all_shown t [] e = refl
all_shown t (s ∷ ss) e = let (a, b) = both (within (length t) s) (every (within (length t)) ss) e in rw (a, all_shown t ss b)

-- a record that points nowhere outside the text stands for the row that it shows
pub row_is : (t l : List ℕ) → in_text t l ≡ true → row_for t l ≡ show_row t l
unfolding row_for show_row in_text
row_is t l e = ap (row_with (kind_shown (get_or l 0 0)) (get_or l 1 0)) (all_shown t (spans_of l) e)

-- the value of any cell lies in its text
in_range_lem : (t l : List ℕ) (f : CellField) → in_text t l ≡ true → span_for f < 19 → in_range t l f ≡ true
unfolding in_text
in_range_lem t l f e h =
    let w : within (length t) (span_in l (span_for f)) ≡ true = ap (λ (j : ℕ). within (length t) (span_in l j)) (sym (zero-add (span_for f))) ∙ each_span (within (length t)) 19 0 l e (span_for f) h in
    at (is_time f && not (absent (span_in l 7))) w
  where
    at : (b : Bool) → within (length t) (span_in l (span_for f)) ≡ true → within (length t) (if b no_value (span_in l (span_for f))) ≡ true
    at true w = refl
    at false w = w

-- two lists with one row in the place have one cell there
same_cell : (rs qs : List Row) (n : ℕ) (r : Row) (f : CellField) (k : List ℕ) → RowAt rs n r → RowAt qs n r → cell_in rs n f k ≡ cell_in qs n f k
same_cell rs qs n r f k a b = at (is r.kind M) refl
  where
    at : (z : Bool) → is r.kind M ≡ z → cell_in rs n f k ≡ cell_in qs n f k
    at true e = let q = is_eq r.kind M e in cell_row rs n r f k a q ∙ sym (cell_row qs n r f k b q)
    at false e = no_other_row rs n r f k a e ∙ sym (no_other_row qs n r f k b e)

-- the field's value is one of a record's 19, or the index is none of three
data Placed : CellField → Type 0 where
  placed : {f : CellField} → span_for f < 19 → Placed f
  fourth_substance : (i : ℕ) → of_three i ≡ false → Placed (substance i)
  fourth_strength : (i : ℕ) → of_three i ≡ false → Placed (strength i)

below : (i : ℕ) → of_three i ≡ true → i ≤ 3
below i e = leb-true i 3 (both (leb 1 i) (leb i 3) e).1

place : (f : CellField) → Placed f
place name = placed {f = name} (omega arith)
place form = placed {f = form} (omega arith)
place morning = placed {f = morning} (omega arith)
place midday = placed {f = midday} (omega arith)
place evening = placed {f = evening} (omega arith)
place night = placed {f = night} (omega arith)
place free_dose = placed {f = free_dose} (omega arith)
place (substance i) = at (of_three i) refl
  where
    at : (b : Bool) → of_three i ≡ b → Placed (substance i)
    at true e = let h = below i e in placed {f = substance i} (omega arith)
    at false e = fourth_substance i e
place (strength i) = at (of_three i) refl
  where
    at : (b : Bool) → of_three i ≡ b → Placed (strength i)
    at true e = let h = below i e in placed {f = strength i} (omega arith)
    at false e = fourth_strength i e

-- the cell of a row whose record lies in the lent rows, and whose values lie in the text
pub cell_shown : (rows : List ℕ) (count : ℕ) (t k : List ℕ) (row : ℕ) (f : CellField) → row_there rows count row ≡ true → in_text t (record_at rows (row - 1)) ≡ true
    → cell_for rows count t k row (some f) ≡ cell_in (show_rows t count rows) row f k
cell_shown rows count t k row f e w = ap (λ (b : Bool). if (b && in_range t l f) (cell_in (rows_for t count rows) row f k) no_cell) e ∙ at f (place f) (λ h. in_range_lem t l f w h) ∙ same_cell (rows_for t count rows) (show_rows t count rows) row (show_row t l) f k one other
  where
    l : List ℕ
    l = record_at rows (row - 1)

    one : RowAt (rows_for t count rows) row (show_row t l)
    one = subst (RowAt (rows_for t count rows) row) (row_is t l w) (row_numbered (row_for t) (rows_for t) (λ n rs. refl) count rows row (there rows count row e).0 (there rows count row e).1)

    other : RowAt (show_rows t count rows) row (show_row t l)
    other = row_numbered (show_row t) (show_rows t) (λ n rs. refl) count rows row (there rows count row e).0 (there rows count row e).1

    at : (f : CellField) → Placed f → (span_for f < 19 → in_range t l f ≡ true) → if (in_range t l f) (cell_in (rows_for t count rows) row f k) no_cell ≡ cell_in (rows_for t count rows) row f k
    at f (placed h) g = rw (g h)
    at f (fourth_substance i h) g = rw (no_fourth (rows_for t count rows) row i k h).0 (if_same (in_range t l f) no_cell)
    at f (fourth_strength i h) g = rw (no_fourth (rows_for t count rows) row i k h).1 (if_same (in_range t l f) no_cell)
