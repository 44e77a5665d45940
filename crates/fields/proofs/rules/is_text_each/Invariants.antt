-- What stands before is text, and `n` line breaks are passed.
use Rattle.std.proofs.Common.{◌≡◌, ◌≤◌, drop}
use Rattle.fields.proofs.RuleLaws.{text_from}
use Rattle.fields.proofs.rules.is_text_each.Given as goal

abbrev pub invariant-loop-b : goal.invariant-loop-b
invariant-loop-b l = (l.n ≤ l.b-index) × (text_from l.tildes 0 l.v ≡ text_from l.tildes l.n (drop l.b-index l.v))
