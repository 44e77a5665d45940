-- Decoding: the words in which the contracts of the decoder's own functions tell paper's steps; what `decode` itself promises is paper's `value`.
-- Assumes nothing.
use Rattle.std.specs.Prelude.{◌≡◌, List, [], ◌∷◌, ℕ, ◌+◌, ◌*◌, ◌-◌, ◌≤◌, eqb, ltb, Option, Some, None, option_to_list}
use Rattle.std.proofs.Math.Seq.{slice}
use Rattle.paper.specs.Lists.{bytes, if, same}
use Rattle.paper.specs.Values.{hex_digit, At, text, cr, ref, Put}
use Rattle.markup.specs.declared.values.Given.{Given}
use Rattle.markup.specs.declared.values.Place.{Place}
use Rattle.markup.specs.declared.values.Place.TheVariants.{Text, Cr, Ref}

-- a byte as a digit in base 16, or in any other base
abbrev pub digit_in : ℕ → ℕ → ℕ
digit_in base c = if (eqb base 16) (hex_digit c) (c - 48)

-- digits as a number, behind what is read already; in base 10 and 16 these are paper's `number` and `hex_number`
unfoldable pub numeral_in : ℕ → ℕ → List ℕ → ℕ
numeral_in base a [] = a
numeral_in base a (c ∷ s) = numeral_in base (a * base + digit_in base c) s

-- a number up to 255; none above is a byte
unfoldable pub byte_in : ℕ → Option ℕ
byte_in n = if (ltb n 256) (Some n) None

-- the five named references, as paper's `refers` reads them
unfoldable pub named_of : List ℕ → ℕ
named_of s = if (same s (bytes "amp")) 38 (if (same s (bytes "lt")) 60 (if (same s (bytes "gt")) 62 (if (same s (bytes "quot")) 34 (if (same s (bytes "apos")) 39 0))))

-- where paper's reader stands, where the code's stands there before byte i of w
abbrev pub place_at : List ℕ → ℕ → Place → At
place_at w i Text = text
place_at w i Cr = cr
place_at w i (Ref start) = ref (slice start i w)

-- a reference starts at or before the byte that is read
abbrev pub Sound : ℕ → Place → Type 0
Sound i Text = Unit {0}
Sound i Cr = Unit {0}
Sound i (Ref start) = start ≤ i

-- the code's step r at byte i of w is paper's step p
abbrev pub Gives : List ℕ → ℕ → Put → Given → Type 0
Gives w i p r = (option_to_list r.out ≡ p.out) × (place_at w (i + 1) r.to ≡ p.to) × Sound (i + 1) r.to
