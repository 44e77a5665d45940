-- Digits: a number in digits, 0 too, is its last digit behind the tenth of it without leading zeros.
-- Assumes nothing.
use mathlib.Core.Path.{◌≡◌, refl}
use mathlib.Core.Bool.{Bool, true, false}
use mathlib.Core.List.{List, [], ◌∷◌, ◌++◌}
use Prim.Native.Nat.{ℕ, zero, suc, ◌+◌, ◌*◌, ◌/◌, ◌%◌, ◌≤◌, ◌<◌}
use native.Mathlib.Omega.{arith}
use lib.Dec.{ltb}
use borrow.Author.Tests.{lt-ltb, le-ltb}
use Rattle.paper.specs.Lists.{if}
use Rattle.paper.specs.Listing.{line, numeral}
use Rattle.paper.specs.Writing.{digits_of, decimal}
use Rattle.listing.specs.Numbered.{given}

-- ten times itself so often
abbrev tenfold : ℕ → ℕ
tenfold zero = 1
tenfold (suc k) = 10 * tenfold k

-- room for more digits adds none
more_room : (j k n : ℕ) → j ≤ k → n < 10 * tenfold j → digits_of (suc j) n ≡ digits_of (suc k) n
more_room zero k n h l = rw (lt-ltb n 10 (omega arith), digits_of)
more_room (suc j) zero n h l = absurd (omega arith)
more_room (suc j) (suc k) n h l = at (ltb n 10) refl (more_room j k (n / 10) (omega arith))
  where
    at : (b : Bool) → ltb n 10 ≡ b → (n / 10 < 10 * tenfold j → digits_of (suc j) (n / 10) ≡ digits_of (suc k) (n / 10)) → digits_of (suc (suc j)) n ≡ digits_of (suc (suc k)) n
    at true e ih = rw (e, digits_of)
    at false e ih = rw (e, digits_of) (rw (ih (omega arith)))

-- a number of one digit
pub one_digit : (n : ℕ) → n < 10 → numeral n ≡ (48 + n) ∷ []
one_digit n h = rw (lt-ltb n 10 h, digits_of)

above_zero : (n : ℕ) → 1 ≤ n → decimal n ≡ digits_of 9 n
above_zero zero h = absurd (omega arith)
above_zero (suc n) h = refl

-- a number of more digits
pub more_digits : (n : ℕ) → 10 ≤ n → n < 4294967296 → numeral n ≡ decimal (n / 10) ++ ((48 + n % 10) ∷ [])
more_digits n h l =
    let f : 10 * tenfold 8 ≡ 1000000000 = refl in
    rw (le-ltb n 10 h, digits_of) (rw (above_zero (n / 10) (omega arith), more_room 8 18 (n / 10) (omega arith) (omega arith)))

-- a number that is not 0 has its line
pub decimal_given : (key : List ℕ) (n : ℕ) → (n ≡ 0 → ⊥) → given key (decimal n) ≡ line key (decimal n) ∷ []
decimal_given key zero h = absurd (h refl)
decimal_given key (suc n) h = some (ltb (suc n) 10) (digits_of 8 (suc n / 10))
  where
    some : (b : Bool) (front : List ℕ) → given key (if b ((48 + suc n) ∷ []) (front ++ (48 + suc n % 10) ∷ [])) ≡ line key (if b ((48 + suc n) ∷ []) (front ++ (48 + suc n % 10) ∷ [])) ∷ []
    some true front = refl
    some false [] = refl
    some false (d ∷ front) = refl
