use Rattle.std.proofs.Common.{◌≡◌, length}
use Rattle.paper.specs.Calls.{pages_at}
use Rattle.reader.proofs.JoiningLaws.{Numbered}
use Rattle.reader.proofs.joining.numbers.Given as goal

abbrev pub invariant-loop-i : goal.invariant-loop-i
invariant-loop-i l = (length l.nos ≡ 9) × Numbered (pages_at l.buffer l.starts l.lens) l.nos l.i
