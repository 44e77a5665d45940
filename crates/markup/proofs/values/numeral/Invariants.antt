-- The number of the whole is that of the digits to come, behind what is read.
use Rattle.std.proofs.Common.{◌≡◌, ◌<◌, drop}
use Rattle.markup.specs.Decoding.{numeral_in}
use Rattle.markup.proofs.values.numeral.Given as goal

abbrev pub invariant-loop-b : goal.invariant-loop-b
invariant-loop-b l = (l.n < 256) × (numeral_in l.base 0 l.digits ≡ numeral_in l.base l.n (drop l.b-index l.digits))
