-- The loop of `listing::elements::fields`: what is to be printed is what is printed and the lines of the fields that are left.
-- Assumes nothing.
use Rattle.listing.proofs.Fielded.{Fielding}
use Rattle.listing.proofs.elements.fields.Given as goal

abbrev pub invariant-loop-i : goal.invariant-loop-i
invariant-loop-i l = Fielding l.fn.out l.path l.text l.numbers l.fn.at l.first l.count l.from l.out l.a l.i
