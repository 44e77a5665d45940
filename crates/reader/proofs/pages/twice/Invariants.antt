use Rattle.std.proofs.Common.{take}
use Rattle.reader.proofs.PageLaws.{Passed}
use Rattle.reader.proofs.pages.twice.Given as goal

abbrev pub invariant-loop-i : goal.invariant-loop-i
invariant-loop-i l = Passed (take l.n l.nos) l.i
