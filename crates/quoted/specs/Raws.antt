-- Raws: references and the raw bytes of a value in a page, told by the grammar.
-- Assumes nothing.
use Rattle.std.specs.Prelude.{◌≡◌, Bool, true, false, ◌||◌, List, ℕ, ◌≤◌, ◌<◌, eqb, length, get_or}
use Rattle.std.proofs.Math.Seq.{slice}
use Rattle.paper.specs.Bytes.{is_digit}
use Rattle.paper.specs.Grammar.{is_hex, Ref, Raw}

-- a digit of a reference, hexadecimal or decimal
abbrev pub numeral : Bool → ℕ → Bool
numeral true c = is_hex c
numeral false c = is_digit c

-- a byte that is not ordinary, and may stand in a value in other quotes than itself
abbrev pub rare : ℕ → Bool
rare c = eqb c 126 || (eqb c 10 || (eqb c 13 || (eqb c 9 || (eqb c 34 || eqb c 39))))

-- the bytes of w from a up to r are a reference without its `&`
pub record RefAt (w : List ℕ) (a r : ℕ) : Type 0 where
  pub within : (a < r) × (r ≤ length w)
  pub ref : Ref (slice a r w)

-- the bytes of w from a up to the quote q at r are the raw bytes of a value
pub record RawAt (w : List ℕ) (a q r : ℕ) : Type 0 where
  pub within : (a ≤ r) × (r < length w)
  pub closes : get_or w r 0 ≡ q
  pub raw : Raw q (slice a r w)
