use Rattle.paper.specs.Calls.{pages_at}
use Rattle.reader.proofs.JoiningLaws.{AlikeTo}
use Rattle.reader.proofs.joining.first_other.Given as goal

abbrev pub invariant-loop-i : goal.invariant-loop-i
invariant-loop-i l = AlikeTo (pages_at l.buffer l.starts l.lens) l.i
