-- The run of the whole is what is passed and the run of what is left, four bytes a turn and then one.
use Rattle.std.proofs.Common.{◌≡◌, ◌+◌, ◌-◌, ◌≤◌, length, drop}
use Rattle.paper.specs.Lists.{until}
use Rattle.quoted.specs.Plain.{ordinary}
use Rattle.quoted.proofs.ordinary_end.Given as goal

abbrev pub invariant-loop-i : goal.invariant-loop-i
invariant-loop-i l = (l.at ≤ l.i) × (l.i ≤ length l.page) × (l.at + until ordinary (drop l.at l.page) ≡ l.i + until ordinary (drop l.i l.page))

abbrev pub decreases-loop-i : goal.decreases-loop-i
decreases-loop-i l = length l.page - l.i

abbrev pub invariant-loop-j : goal.invariant-loop-j
invariant-loop-j l = l.at + until ordinary (drop l.at l.page) ≡ l.j + until ordinary (drop l.j l.page)
