-- `reader::alone::numbers_of` meets its contract: the page is laid onto a tape of its own.
-- Assumes nothing.
use native.Mathlib.Omega.{arith}
use Rattle.reader.specs.Joining.{PageFits}
use Rattle.reader.proofs.TakenLaws.{page_good, blank_new, made_read}
use Rattle.reader.proofs.alone.numbers_of.Statement.{statement}
use Rattle.reader.proofs.alone.numbers_of.Tie as tie
use borrow.Author.Rules.{rules}

fits-at : (s : tie.Start) → PageFits s.args.page.now
fits-at s = page_good _ _ s.requires

keys-requires : tie.Need-keys-keys-requires
keys-requires c κs = search rules

slice-aggregate-lay-page : tie.Need-slice_bounds-lay_page-end
slice-aggregate-lay-page c = search rules

slice-aggregate-lay-page-2 : tie.Need-slice_bounds-lay_page-end-2
slice-aggregate-lay-page-2 c = search rules

lay-page-requires : tie.Need-lay_page-made-requires
lay-page-requires c κs = (c.before.before.before.before.before.requires, c.before.before.before.keys-keys.ensures, omega arith, omega arith, omega arith, omega arith)

slice-aggregate-find-head : tie.Need-slice_bounds-find_head-end
slice-aggregate-find-head c = search rules

slice-aggregate-find-head-2 : tie.Need-slice_bounds-find_head-end-2
slice-aggregate-find-head-2 c = search rules

find-head-requires : tie.Need-find_head-h-requires
find-head-requires c κs =
    let at-lay-page = c.before.before.before.before in
    made_read at-lay-page.lay_page-made.ensures.0 (blank_new 4420 (omega arith)) (omega arith) at-lay-page.lay_page-made.auto.tape

slice-aggregate-number-of : tie.Need-slice_bounds-number_of-end
slice-aggregate-number-of c = search rules

slice-aggregate-number-of-2 : tie.Need-slice_bounds-number_of-end-2
slice-aggregate-number-of-2 c = search rules

number-of-requires : tie.Need-number_of-no-requires
number-of-requires c κs = (c.before.before.find_head-h.ensures.mp_at, (fits-at c.before.before.before.before.before.before.before.before.before.before.before.before.before).fit)

slice-aggregate-count-said : tie.Need-slice_bounds-count_said-end
slice-aggregate-count-said c = search rules

slice-aggregate-count-said-2 : tie.Need-slice_bounds-count_said-end-2
slice-aggregate-count-said-2 c = search rules

count-said-requires : tie.Need-count_said-of-requires
count-said-requires c κs = (c.before.before.before.before.before.find_head-h.ensures.mp_at, (fits-at c.before.before.before.before.before.before.before.before.before.before.before.before.before.before.before.before).fit)

cast-t27 : tie.Need-overflow_cast-result
cast-t27 c = omega (arith, c.before.before.before.number_of-no.ensures, (fits-at c.before.before.before.before.before.before.before.before.before.before.before.before.before.before.before.before.before).no_small)

cast-t28 : tie.Need-overflow_cast-result-2
cast-t28 c = omega (arith, c.count_said-of.ensures, (fits-at c.before.before.before.before.before.before.before.before.before.before.before.before.before.before.before.before.before).of_small)

returns : tie.Need-returns
returns c = search rules

pub numbers_of_spec : {M : Type 1} → statement M
numbers_of_spec =
    tie.close
    (tie.spec
    keys-requires
    slice-aggregate-lay-page
    slice-aggregate-lay-page-2
    lay-page-requires
    slice-aggregate-find-head
    slice-aggregate-find-head-2
    find-head-requires
    slice-aggregate-number-of
    slice-aggregate-number-of-2
    number-of-requires
    slice-aggregate-count-said
    slice-aggregate-count-said-2
    count-said-requires
    cast-t27
    cast-t28
    returns)
