-- No byte before is refused, so the first one that is stands among those that are left.
use Rattle.std.proofs.Common.{◌≡◌, ◌+◌, drop}
use Rattle.paper.specs.Bytes.{first_refused}
use Rattle.marks.proofs.first_refused.Given as goal

abbrev pub invariant-loop-i : goal.invariant-loop-i
invariant-loop-i l = first_refused l.s ≡ l.i + first_refused (drop l.i l.s)
