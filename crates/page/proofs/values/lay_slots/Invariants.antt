use Rattle.std.proofs.Common.{◌+◌, ◌*◌, ◌-◌, length}
use Rattle.tape.specs.Tape.{values_at, Spans}
use Rattle.page.proofs.ContentLaws.{Going}
use Rattle.page.proofs.values.lay_slots.Given as goal

-- what is to be laid is what is laid and what the numbers that are left tell
abbrev pub invariant-loop-j : goal.invariant-loop-j
invariant-loop-j l = record {
  lie : Spans l.page (length l.side) (l.count - l.j) l.tape (l.base + 2 * l.j);
  going : Going (values_at l.page l.side l.count l.tape l.base) (values_at l.page l.side (l.count - l.j) l.tape (l.base + 2 * l.j)) l.initial.text l.text l.n l.m l.initial.numbers l.numbers l.at (l.at + 2 * l.j);
}
