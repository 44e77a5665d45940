-- As long as no byte stopped, the value is text just if what is left of it is.
use Rattle.std.proofs.Common.{◌≡◌, ℕ, false, drop}
use Rattle.fields.proofs.RuleLaws.{text_from}
use Rattle.fields.proofs.rules.is_line.Given as goal

abbrev pub invariant-loop-b : goal.invariant-loop-b
invariant-loop-b l = l.stopped ≡ false → (t : ℕ) → text_from t 0 l.v ≡ text_from t 0 (drop l.b-index l.v)
