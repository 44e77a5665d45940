-- Copied: one list copied over another of the same length, element by element.
-- Assumes nothing.
use mathlib.Core.Path.{◌≡◌, refl, ap, ◌∙◌}
use mathlib.Core.List.{List, [], ◌∷◌, ◌++◌, append-nil}
use Prim.Native.Nat.{ℕ, zero, suc, ◌+◌, ◌<◌}
use native.Mathlib.Nat.{le_of_suc-le-suc, not-suc-le-zero}
use native.Mathlib.Numerals.{add-one}
use lib.ListN.{length, take, drop, get_or, set}
use lib.Seq.{take-length, drop-length}

module _ {A : Type 0} where
  -- a store takes the copy of i elements to the copy of one more
  store : (src dst : List A) (i : ℕ) (d : A) → i < length src → i < length dst → set (take i src ++ drop i dst) i (get_or src i d) ≡ take (suc i) src ++ drop (suc i) dst
  store [] dst i d h k = absurd (not-suc-le-zero h)
  store (x ∷ xs) [] i d h k = absurd (not-suc-le-zero k)
  store (x ∷ xs) (y ∷ ys) zero d h k = refl
  store (x ∷ xs) (y ∷ ys) (suc i) d h k = ap (λ (l : List A). x ∷ l) (store xs ys i d (le_of_suc-le-suc h) (le_of_suc-le-suc k))

  -- the same, with the list as a loop has it
  pub stored : (src dst now : List A) (i : ℕ) (a d : A) → now ≡ take i src ++ drop i dst → a ≡ get_or src i d → i < length src → i < length dst → set now i a ≡ take (i + 1) src ++ drop (i + 1) dst
  stored src dst now i a d e f h k = rw (e, f, add-one i) (store src dst i d h k)

  -- the copy of all of them is the source
  pub finished : (src dst now : List A) (i : ℕ) → now ≡ take i src ++ drop i dst → i ≡ length src → i ≡ length dst → now ≡ src
  finished src dst now i e f g =
      e ∙ ap (λ (n : ℕ). take n src ++ drop i dst) f ∙ ap (λ (l : List A). l ++ drop i dst) (take-length src) ∙ ap (λ (n : ℕ). src ++ drop n dst) g ∙ ap (λ (l : List A). src ++ l) (drop-length dst) ∙ append-nil src
