-- The loop of `sound::elements::clashes`: two excluded fields are present exactly when they are of the pairs to come.
-- Assumes nothing.
use Rattle.std.proofs.Common.{◌≡◌, drop}
use Rattle.fields.specs.Places.{kind_at, ones_of, others_of}
use Rattle.sound.specs.Judged.{clash_at, clash_there}
use Rattle.sound.proofs.elements.clashes.Given as goal

abbrev pub invariant-loop-i : goal.invariant-loop-i
invariant-loop-i l = clash_at (kind_at l.element) l.numbers l.k ≡ clash_there l.numbers l.k (drop l.i (ones_of (kind_at l.element))) (drop l.i (others_of (kind_at l.element)))
