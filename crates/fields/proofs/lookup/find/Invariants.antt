-- The keys before are others.
use Rattle.std.proofs.Common.{◌≡◌, ◌+◌, ◌-◌, take, drop}
use Rattle.paper.specs.Lists.{until}
use Rattle.fields.specs.Columns.{other}
use Rattle.fields.proofs.lookup.find.Given as goal

abbrev pub invariant-loop-i : goal.invariant-loop-i
invariant-loop-i l = until (other l.k) (take (l.to - l.from) (drop l.from l.keys)) ≡ l.i - l.from + until (other l.k) (take (l.to - l.i) (drop l.i l.keys))
