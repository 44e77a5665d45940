-- Pages: page numbers as lists and as masks, beside paper's definitions on sheets.
-- Assumes nothing.
use Rattle.std.specs.Prelude.{◌≡◌, Bool, not, List, [], ◌∷◌, ℕ, zero, suc, ◌/◌, ◌%◌, ◌^◌, ◌≤◌, eqb, leb, Option, Some, None}
use Rattle.paper.specs.Lists.{if}
use Rattle.paper.specs.Judging.{Sheet}
use Rattle.paper.specs.Reading.{has}

-- the numbers that the sheets bear
abbrev pub nos_of : List Sheet → List ℕ
nos_of [] = []
nos_of (s ∷ l) = s.no ∷ nos_of l

-- how many sheets stand before the first one of that number; all of them if none has it
abbrev pub place_of : ℕ → List Sheet → ℕ
place_of n [] = 0
place_of n (s ∷ l) = if (eqb s.no n) 0 (suc (place_of n l))

-- of the k numbers from n on, those that pass the test
abbrev pub picked : (ℕ → Bool) → ℕ → ℕ → List ℕ
picked p n zero = []
picked p n (suc k) = if (p n) (n ∷ picked p (suc n) k) (picked p (suc n) k)

-- the numbers 1 to 9 that some sheet has
abbrev pub present : List Sheet → List ℕ
present l = picked (λ n. has n l) 1 9

-- the mask has the number's bit
abbrev pub marked : ℕ → ℕ → Bool
marked mask n = eqb (mask / 2 ^ n % 2) 1

-- the numbers of a mask of sixteen bits
unfoldable pub numbers_in : ℕ → List ℕ
numbers_in mask = picked (marked mask) 0 16

-- of the numbers 1 to z those that the mask has not; none if z is above 9, as it is on no page
unfoldable pub absent : ℕ → ℕ → List ℕ
absent mask z = if (leb z 9) (picked (λ n. not (marked mask n)) 1 z) []

-- the first number of a list, or 0
abbrev pub first_of : List ℕ → ℕ
first_of [] = 0
first_of (n ∷ ns) = n

-- the first number of a list, if it has one
abbrev pub first_in : List ℕ → Option ℕ
first_in [] = None
first_in (n ∷ ns) = Some n

-- an option says a number that may be 0: None says 0
abbrev pub Says : Option ℕ → ℕ → Type 0
Says None n = n ≡ 0
Says (Some k) n = (k ≡ n) × (1 ≤ k)
