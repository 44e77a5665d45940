-- DateLaws: the days of February, and tests one after the other.
-- Assumes nothing.
use mathlib.Core.Path.{◌≡◌, sym, ◌∙◌}
use mathlib.Core.Bool.{Bool, true, false, ◌||◌}
use Prim.Native.Nat.{ℕ}
use Rattle.paper.specs.Rules.{leap, month_days}
use Rattle.paper.proofs.Small.{no}

-- February in a leap year
pub leap_february : (y m : ℕ) → m ≡ 2 → true ≡ leap y → 29 ≡ month_days y m
leap_february y m e l = rw (e, ← l)

-- February in any other year
pub short_february : (y m : ℕ) → m ≡ 2 → false ≡ leap y → 28 ≡ month_days y m
short_february y m e l = rw (e, ← l)

-- the first of two tests holds
pub either_first : (a b r : Bool) → r ≡ a → r ≡ true → r ≡ (a || b)
either_first true b r e t = e
either_first false b r e t = no (sym t ∙ e)

-- it fails, and the second one decides
pub either_second : (a b r s : Bool) → r ≡ a → r ≡ false → s ≡ b → s ≡ (a || b)
either_second true b r s e f g = no (sym e ∙ f)
either_second false b r s e f g = g
