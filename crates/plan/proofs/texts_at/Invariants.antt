-- The loop of `plan::texts_at`: the texts before the one that is next are those of the record.
-- Assumes nothing.
use Rattle.std.proofs.Common.{◌≡◌, ◌++◌, take, drop, replicate}
use Rattle.plan.specs.Numbers.{record_at}
use Rattle.plan.specs.Records.{no_span, texts_in}
use Rattle.plan.proofs.texts_at.Given as goal

abbrev pub invariant-loop-j : goal.invariant-loop-j
invariant-loop-j l = l.text-items ≡ take l.j (texts_in 14 0 (record_at l.rows l.i)) ++ drop l.j (replicate 14 no_span)
