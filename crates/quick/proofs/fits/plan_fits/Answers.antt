-- v and U are there, and the digits of a and z go together.
use mathlib.Core.Path.{◌≡◌, sym, ap, ◌∙◌}
use mathlib.Core.Bool.{Bool, true, not}
use Prim.Native.Nat.{ℕ}
use Rattle.std.specs.Prelude.{Option, None, Some, is_some}
use Rattle.paper.specs.Causes.{flaw_number}
use Rattle.paper.specs.declared.Cause.{Cause}
use Rattle.paper.proofs.Small.{no}
use Rattle.quick.proofs.FitLaws.{fits_mp}
use Rattle.quick.proofs.fits.plan_fits.Goals as goal

-- no fault has the number 9
none : (r : Option Cause) (b : Bool) (n : ℕ) → is_some r ≡ not b → b ≡ true → flaw_number r ≡ n → n ≡ 9
none None b n h e f = sym f
none (Some x) b n h e f = no (h ∙ ap not e)

pub returns : goal.returns
returns c = λ e.
    fits_mp (sym c.is_there.ensures ∙ c.if-not-is_there.false) (sym c.is_there-else-not-is_there.ensures ∙ c.if-not-is_there-2.false) _ _ c.first_byte-a.ensures c.first_byte-z.ensures
    (none c.digits_flaw.result c.is_none.result _ c.is_none.ensures e c.digits_flaw.ensures)
