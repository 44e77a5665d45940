-- The pages found so far, by their numbers.
use Rattle.collector.proofs.OrderLaws.{Held}
use Rattle.collector.proofs.reading.read.Given as goal

abbrev pub invariant-loop-k : goal.invariant-loop-k
invariant-loop-k l = Held l.c.lens l.starts l.sizes l.z l.k
