-- What stands before fits, so all fits just if what is left does.
use Rattle.std.proofs.Common.{◌≡◌, drop}
use Rattle.paper.specs.Rules.{shape}
use Rattle.fields.specs.Sets.{sets}
use Rattle.fields.proofs.sets.fits.Given as goal

abbrev pub invariant-loop-i : goal.invariant-loop-i
invariant-loop-i l = shape (sets l.pattern) l.v ≡ shape (sets (drop l.i l.pattern)) (drop l.i l.v)
