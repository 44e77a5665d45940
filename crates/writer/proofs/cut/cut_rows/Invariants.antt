-- `writer::cut::cut_rows`: what is cut is the pages that are full and the cut of the rows that are left.
-- Assumes nothing.
use Rattle.writer.proofs.CutLaws.{Held}
use Rattle.writer.proofs.cut.cut_rows.Given as goal

abbrev pub invariant-loop-i : goal.invariant-loop-i
invariant-loop-i l = Held l.base l.measures l.n l.ends l.full l.used l.i
