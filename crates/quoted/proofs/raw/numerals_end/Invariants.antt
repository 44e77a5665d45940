-- The run of the whole ends where the run of what is left does.
use Rattle.std.proofs.Common.{◌≡◌, ◌+◌, drop}
use Rattle.paper.specs.Lists.{until}
use Rattle.quoted.specs.Raws.{numeral}
use Rattle.quoted.proofs.raw.numerals_end.Given as goal

abbrev pub invariant-loop-i : goal.invariant-loop-i
invariant-loop-i l = l.at + until (numeral l.hex) (drop l.at l.page) ≡ l.i + until (numeral l.hex) (drop l.i l.page)
