-- The loop of `listing::pages::split_pages`: what is to be stored is what is stored and the pages from here on.
-- Assumes nothing.
use Rattle.listing.proofs.Splits.{Splitting}
use Rattle.listing.proofs.pages.split_pages.Given as goal

abbrev pub invariant-loop-n : goal.invariant-loop-n
invariant-loop-n l = Splitting l.input l.fn.starts l.fn.lens l.starts l.lens l.at l.n
