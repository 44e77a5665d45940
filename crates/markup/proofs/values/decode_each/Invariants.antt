-- At each byte the value is what is written, the blanks held back, and what the bytes to come give.
use Rattle.markup.proofs.Decodes.{Held}
use Rattle.markup.proofs.values.decode_each.Given as goal

abbrev pub invariant-loop-i : goal.invariant-loop-i
invariant-loop-i l = Held l.page l.fn.out l.out l.from l.to l.at l.i l.n l.blanks l.m
