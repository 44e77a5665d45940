-- What is cut so far makes no difference to the cut.
use Rattle.std.proofs.Common.{◌≡◌}
use Rattle.std.proofs.Math.Seq.{slice}
use Rattle.paper.specs.Values.{cut}
use Rattle.quoted.proofs.trimmed.Given as goal

abbrev pub invariant-loop-i : goal.invariant-loop-i
invariant-loop-i l = cut (slice l.at l.i l.page) ≡ cut (slice l.at l.end l.page)
