-- The run of the whole ends where the run of what is left does.
use Rattle.std.proofs.Common.{◌≡◌, ◌+◌, drop}
use Rattle.paper.specs.Lists.{until}
use Rattle.markup.specs.Walk.{passes}
use Rattle.markup.proofs.walk.run.Given as goal

abbrev pub invariant-loop-i : goal.invariant-loop-i
invariant-loop-i l = l.fn.at + until (passes l.set) (drop l.fn.at l.page) ≡ l.i + until (passes l.set) (drop l.i l.page)
