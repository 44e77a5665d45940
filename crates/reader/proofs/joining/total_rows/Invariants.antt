use Rattle.std.proofs.Common.{◌*◌, ◌≤◌}
use Rattle.paper.specs.Calls.{pages_at}
use Rattle.reader.specs.Joining.{sheets_of}
use Rattle.reader.proofs.JoiningLaws.{Counted}
use Rattle.reader.proofs.joining.total_rows.Given as goal

abbrev pub invariant-loop-k : goal.invariant-loop-k
invariant-loop-k l = (l.total ≤ l.k * 65536) × Counted (sheets_of (pages_at l.buffer l.starts l.lens)) l.z l.k l.total
