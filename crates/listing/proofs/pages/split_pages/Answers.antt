-- `listing::pages::split_pages`: a page is stored, and another follows or none does.
-- Assumes nothing.
use Rattle.std.proofs.Common.{arith}
use Rattle.listing.proofs.Splits.{split_start, split_last, split_next, split_ten}
use Rattle.listing.proofs.pages.split_pages.Goals as goal

pub loop-n-init : goal.loop-n-init
loop-n-init c = split_start _ _ _ c.requires.0 c.requires.1

pub next_page-e-requires : goal.next_page-e-requires
next_page-e-requires c = c.loop-n.invariant.inside

pub bounds-starts-n : goal.bounds-starts-n
bounds-starts-n c = omega (arith, c.loop-n.invariant.starts_ten, c.loop-n.invariant.starts_laid.long)

pub overflow_sub-lens : goal.overflow_sub-lens
overflow_sub-lens c = omega (arith, c.next_page-e.ensures.0)

pub bounds-lens-n : goal.bounds-lens-n
bounds-lens-n c = omega (arith, c.loop-n.invariant.lens_ten, c.loop-n.invariant.lens_laid.long)

pub returns-then-e-input : goal.returns-then-e-input
returns-then-e-input c = split_last c.loop-n.invariant _ c.next_page-e.ensures.0 c.loop-n-test.true c.if-e-input.true

pub loop-n-preserved : goal.loop-n-preserved
loop-n-preserved c = split_next c.loop-n.invariant _ c.next_page-e.ensures.0 c.loop-n-test.true (omega (arith, c.if-e-input.false, c.next_page-e.ensures.1))

pub returns : goal.returns
returns c = split_ten c.loop-n.invariant c.loop-n-test.false
