-- Sameness: rows that are the same show the same.
-- Assumes nothing.
use mathlib.Core.Path.{◌≡◌, refl, sym, ap, ◌∙◌}
use mathlib.Core.List.{List, ◌∷◌}
use Prim.Native.Nat.{ℕ, zero, suc, ◌+◌, ◌*◌, ◌≤◌, ◌<◌}
use native.Mathlib.Omega.{arith}
use lib.ListN.{take, drop, get_or}
use lib.Seq.{get_or-take}
use Rattle.paper.specs.Plan.{Row}
use Rattle.paper.specs.Layout.{Span, shown_all}
use Rattle.plan.specs.Numbers.{stride, saying, span_in, spans_in, spans_of, kind_shown, row_with, show_row, show_rows, SameRows}

-- a number that has a say
at_say : (l m : List ℕ) → take saying l ≡ take saying m → (i : ℕ) → i < saying → get_or (take stride l) i 0 ≡ get_or (take stride m) i 0
at_say l m e i h =
    get_or-take stride l i 0 (omega arith) ∙ sym (get_or-take saying l i 0 h) ∙ ap (λ (s : List ℕ). get_or s i 0) e ∙ get_or-take saying m i 0 h ∙ sym (get_or-take stride m i 0 (omega arith))

-- the spans of a record have a say
spans_say : (l m : List ℕ) → take saying l ≡ take saying m → (n j : ℕ) → 2 + 2 * (j + n) ≤ saying → spans_in n j (take stride l) ≡ spans_in n j (take stride m)
unfolding spans_in
spans_say l m e zero j h = refl
spans_say l m e (suc n) j h =
    let a = at_say l m e (2 + 2 * j) (omega arith) in
    let b = at_say l m e (3 + 2 * j) (omega arith) in
    let s : span_in (take stride l) j ≡ span_in (take stride m) j = rw (a, b) in
    ap (λ (x : Span). x ∷ spans_in n (suc j) (take stride l)) s ∙ ap (λ (xs : List Span). span_in (take stride m) j ∷ xs) (spans_say l m e n (suc j) (omega arith))

-- one row
row_same : (t l m : List ℕ) → take saying l ≡ take saying m → show_row t (take stride l) ≡ show_row t (take stride m)
unfolding show_row
row_same t l m e =
    ap (λ (k : ℕ). row_with (kind_shown k) (get_or (take stride l) 1 0) (shown_all t (spans_of (take stride l)))) (at_say l m e 0 (omega arith))
    ∙ ap (λ (n : ℕ). row_with (kind_shown (get_or (take stride m) 0 0)) n (shown_all t (spans_of (take stride l)))) (at_say l m e 1 (omega arith))
    ∙ ap (λ (ss : List Span). row_with (kind_shown (get_or (take stride m) 0 0)) (get_or (take stride m) 1 0) (shown_all t ss)) (spans_say l m e 19 0 (omega arith))

-- all rows
pub rows_same : (t : List ℕ) (n : ℕ) (rows rows' : List ℕ) → SameRows n rows rows' → show_rows t n rows ≡ show_rows t n rows'
rows_same t zero rows rows' s = refl
rows_same t (suc n) rows rows' s =
    ap (λ (r : Row). r ∷ show_rows t n (drop stride rows)) (row_same t rows rows' s.0) ∙ ap (λ (rs : List Row). show_row t (take stride rows') ∷ rs) (rows_same t n (drop stride rows) (drop stride rows') s.1)

-- equal numbers are the same rows
pub equal_same : (n : ℕ) (rows rows' : List ℕ) → rows ≡ rows' → SameRows n rows rows'
equal_same zero rows rows' e = tt
equal_same (suc n) rows rows' e = (ap (take saying) e, equal_same n (drop stride rows) (drop stride rows') (ap (drop stride) e))
