-- The loop of `listing::pages::next_page`: the page ends where it ends from here on.
-- Assumes nothing.
use Rattle.std.proofs.Common.{◌≡◌, ◌+◌, drop}
use Rattle.listing.specs.Split.{to_zero}
use Rattle.listing.proofs.pages.next_page.Given as goal

abbrev pub invariant-loop-i : goal.invariant-loop-i
invariant-loop-i l = l.at + to_zero (drop l.at l.input) ≡ l.i + to_zero (drop l.i l.input)
