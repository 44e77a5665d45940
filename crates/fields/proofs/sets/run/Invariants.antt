-- What stands before is of the set, so the run ends where the run of what is left does.
use Rattle.std.proofs.Common.{◌≡◌, ◌+◌, drop}
use Rattle.paper.specs.Lists.{until}
use Rattle.fields.specs.Sets.{in_set}
use Rattle.fields.proofs.sets.run.Given as goal

abbrev pub invariant-loop-i : goal.invariant-loop-i
invariant-loop-i l = l.from + until (in_set l.k) (drop l.from l.v) ≡ l.i + until (in_set l.k) (drop l.i l.v)
