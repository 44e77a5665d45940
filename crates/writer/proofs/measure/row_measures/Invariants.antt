-- `writer::measure::row_measures`: the numbers are those that stand in the array and those of the rows that are left.
-- Assumes nothing.
use Rattle.writer.proofs.MeasureLaws.{Measured}
use Rattle.writer.proofs.measure.row_measures.Given as goal

abbrev pub invariant-loop-i : goal.invariant-loop-i
invariant-loop-i l = Measured l.text l.rows l.n l.fn.scratch l.scratch l.measures l.at l.i
