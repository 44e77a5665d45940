-- `writer::writing::lay_pages`: what is to be laid is what is laid and the pages that are left.
-- Assumes nothing.
use Rattle.plan.specs.Numbers.{show_head}
use Rattle.writer.proofs.PageLaws.{Laid}
use Rattle.writer.proofs.writing.lay_pages.Given as goal

abbrev pub invariant-loop-k : goal.invariant-loop-k
invariant-loop-k l = Laid (show_head l.text l.plan) l.text l.rows l.ends l.n l.z l.fn.out l.out l.lens l.at l.from l.begin l.k
