use Rattle.paper.specs.Calls.{pages_at}
use Rattle.reader.proofs.TakenLaws.{Going}
use Rattle.reader.proofs.taping.take_all.Given as goal

-- the first k pages are taken
abbrev pub invariant-loop-k : goal.invariant-loop-k
invariant-loop-k l = Going (pages_at l.buffer l.starts l.lens) l.tape l.side l.firsts l.used l.k
