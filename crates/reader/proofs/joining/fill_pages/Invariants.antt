use Rattle.paper.specs.Calls.{pages_at}
use Rattle.reader.specs.Joining.{sheets_of}
use Rattle.reader.proofs.JoiningLaws.{Filling}
use Rattle.reader.proofs.joining.fill_pages.Given as goal

-- what is to be laid is what is laid and what the numbers that are left give
abbrev pub invariant-loop-k : goal.invariant-loop-k
invariant-loop-k l = Filling (sheets_of (pages_at l.buffer l.starts l.lens)) l.z l.k l.initial.text l.text l.n l.m l.initial.rows l.rows l.i
