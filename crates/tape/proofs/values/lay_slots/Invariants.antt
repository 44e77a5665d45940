-- The loop of `tape::values::lay_slots`: the values of the first j fields are laid.
use Rattle.std.proofs.Common.{take}
use Rattle.fields.specs.Places.{kind_at}
use Rattle.sheet.specs.Found.{told}
use Rattle.tape.specs.Making.{LaysSlots}
use Rattle.tape.proofs.values.lay_slots.Given as goal

abbrev pub invariant-loop-j : goal.invariant-loop-j
invariant-loop-j l = LaysSlots l.page (take l.j (told l.page (kind_at l.kind) l.raws)) l.fn.tape l.tape l.at l.fn.side l.side l.used l.m
