-- CheckDigit: the check digit's test as `Rules` sets it out (document 02, ask 3) is the test that stood there before, for every byte string:
-- "Every answer stays what it is."
-- Assumes nothing.
use mathlib.Core.Path.{◌≡◌, refl, ap}
use mathlib.Core.Bool.{Bool, ◌&&◌}
use mathlib.Core.List.{List, [], ◌∷◌}
use Prim.Native.Nat.{ℕ, suc, ◌+◌, ◌*◌, ◌-◌, ◌%◌}
use native.Mathlib.Omega.{arith}
use lib.Dec.{eqb, leb}
use lib.ListN.{take, get_or}
use Rattle.paper.specs.Lists.{every, number}
use Rattle.paper.specs.Bytes.{is_digit}
use Rattle.paper.specs.Rules.{weighted_sum, checks, padded, is_package}

-- ---- the test before

-- digits times k, k + 1, …, added
abbrev pub weigh : ℕ → List ℕ → ℕ
weigh k [] = 0
weigh k (c ∷ s) = k * (c - 48) + weigh (suc k) s

-- "The first seven digits times 1 to 7 are added; the remainder by 11 equals the eighth digit."
abbrev pub checked_before : List ℕ → Bool
checked_before v = eqb (weigh 1 (take 7 v) % 11) (get_or v 7 0 - 48)

-- "1 to 8 digits, not zero", and the check digit is right
abbrev pub package_before : List ℕ → Bool
package_before v = every is_digit v && leb 1 (number 0 v) && checked_before (padded v)

-- ---- the same for every byte string

-- the sum, whether there are seven digits, more or fewer
pub same_sum : (v : List ℕ) → weighted_sum v ≡ weigh 1 (take 7 v)
same_sum [] = refl
same_sum (a ∷ []) = omega arith
same_sum (a ∷ b ∷ []) = omega arith
same_sum (a ∷ b ∷ c ∷ []) = omega arith
same_sum (a ∷ b ∷ c ∷ d ∷ []) = omega arith
same_sum (a ∷ b ∷ c ∷ d ∷ e ∷ []) = omega arith
same_sum (a ∷ b ∷ c ∷ d ∷ e ∷ f ∷ []) = omega arith
same_sum (a ∷ b ∷ c ∷ d ∷ e ∷ f ∷ g ∷ v) = omega arith

-- the check digit is right exactly where it was
pub same_check : (v : List ℕ) → checks v ≡ checked_before v
same_check v = ap (λ (n : ℕ). eqb (n % 11) (get_or v 7 0 - 48)) (same_sum v)

-- the same byte strings are package numbers
pub same_package : (v : List ℕ) → is_package v ≡ package_before v
same_package v = ap (λ (b : Bool). every is_digit v && leb 1 (number 0 v) && b) (same_check (padded v))
