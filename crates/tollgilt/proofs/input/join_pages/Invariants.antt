-- `tollgilt::input::join_pages`: what is to be laid is what is laid and the pages that are left, each behind a zero byte.
-- Assumes nothing.
use Rattle.tollgilt.proofs.JoinLaws.{Joining}
use Rattle.tollgilt.proofs.input.join_pages.Given as goal

abbrev pub invariant-loop-k : goal.invariant-loop-k
invariant-loop-k l = Joining l.room l.lens l.count l.initial.out l.initial.at l.initial.n l.out l.at l.n l.k
