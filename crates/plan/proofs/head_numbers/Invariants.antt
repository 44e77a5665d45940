-- The loop of `plan::head_numbers`: the numbers have the spans before the one that is next.
-- Assumes nothing.
use Rattle.std.proofs.Common.{◌≡◌, map}
use Rattle.plan.specs.Numbers.{paper_span}
use Rattle.plan.proofs.Spans.{head_up_to}
use Rattle.plan.proofs.head_numbers.Given as goal

abbrev pub invariant-loop-j : goal.invariant-loop-j
invariant-loop-j l = l.numbers ≡ head_up_to (map paper_span l.fn.head) l.j
