use Rattle.std.proofs.Common.{◌≡◌, ◌+◌, ◌*◌, ◌-◌, length}
use Rattle.paper.specs.Plan.{same_slots}
use Rattle.tape.specs.Tape.{values_at, Spans}
use Rattle.page.proofs.values.same_slots.Given as goal

-- the values that are left decide
abbrev pub invariant-loop-j : goal.invariant-loop-j
invariant-loop-j l = record {
  one_lie : Spans l.one (length l.side) (l.count - l.j) l.tape (l.x + 2 * l.j);
  two_lie : Spans l.two (length l.side) (l.count - l.j) l.tape (l.y + 2 * l.j);
  so : same_slots (values_at l.one l.side l.count l.tape l.x) (values_at l.two l.side l.count l.tape l.y)
      ≡ same_slots (values_at l.one l.side (l.count - l.j) l.tape (l.x + 2 * l.j)) (values_at l.two l.side (l.count - l.j) l.tape (l.y + 2 * l.j));
}
