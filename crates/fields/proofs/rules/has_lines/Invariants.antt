-- The lines before are not too long, and `n` bytes of this one are passed.
use Rattle.std.proofs.Common.{◌≡◌, ◌≤◌, drop}
use Rattle.paper.specs.Rules.{lines_ok}
use Rattle.fields.proofs.rules.has_lines.Given as goal

abbrev pub invariant-loop-b : goal.invariant-loop-b
invariant-loop-b l = (l.n ≤ l.b-index) × (lines_ok 0 l.v ≡ lines_ok l.n (drop l.b-index l.v))
