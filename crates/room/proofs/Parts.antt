-- Parts: a part of a list from a place up to another: what a function is lent of it, and whether it is empty.
-- Assumes nothing.
use mathlib.Core.Path.{◌≡◌, refl, sym, ap, ◌∙◌}
use mathlib.Core.Bool.{false}
use mathlib.Core.List.{List, [], ◌∷◌}
use Prim.Native.Nat.{ℕ, zero, suc, ◌-◌, ◌≤◌}
use native.Mathlib.Nat.{sub-zero, zero-sub, suc-sub-suc}
use native.Mathlib.Omega.{arith}
use lib.ListN.{length, take, drop}
use lib.Seq.{take-nil, slice, slice_empty, length-slice}
use Rattle.paper.specs.Lists.{is_empty}

-- what a function that is lent a part is lent
pub part_is : (t : List ℕ) (i j : ℕ) → take (j - i) (drop i t) ≡ slice i j t
part_is t zero j = rw (sub-zero j)
part_is [] (suc i) zero = take-nil (zero - suc i)
part_is [] (suc i) (suc j) = take-nil (suc j - suc i)
part_is (c ∷ t) (suc i) zero = rw (zero-sub (suc i))
part_is (c ∷ t) (suc i) (suc j) = rw (suc-sub-suc j i) (part_is t i j)

-- a part from a place up to itself is empty, and any other is not
pub part_empty : (t : List ℕ) (i j : ℕ) → i ≡ j → [] ≡ slice i j t
part_empty t i j e = sym (ap (λ (k : ℕ). slice i k t) (sym e) ∙ slice_empty i t)

pub part_some : (t : List ℕ) (i j : ℕ) → i ≤ j → j ≤ length t → (i ≡ j → ⊥) → is_empty (slice i j t) ≡ false
part_some t i j h l n = go (slice i j t) (length-slice i j t l)
  where
    go : (v : List ℕ) → length v ≡ j - i → is_empty v ≡ false
    go [] e = absurd (n (omega arith))
    go (c ∷ v) e = refl
