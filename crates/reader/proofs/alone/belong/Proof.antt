-- `reader::alone::belong` meets its contract: the two pages are laid onto one tape, one behind the other.
-- Assumes nothing.
use native.Mathlib.Omega.{arith}
use Rattle.reader.proofs.TakenLaws.{page_good, blank_new, made_read, made_still}
use Rattle.reader.proofs.alone.belong.Statement.{statement}
use Rattle.reader.proofs.alone.belong.Tie as tie
use borrow.Author.Rules.{rules}

keys-requires : tie.Need-keys-keys-requires
keys-requires c κs = search rules

slice-aggregate-lay-page : tie.Need-slice_bounds-lay_page-end
slice-aggregate-lay-page c = search rules

slice-aggregate-lay-page-2 : tie.Need-slice_bounds-lay_page-end-2
slice-aggregate-lay-page-2 c = search rules

lay-page-requires : tie.Need-lay_page-a-requires
lay-page-requires c κs = (c.before.before.before.before.before.before.requires.0, c.before.before.before.keys-keys.ensures, omega arith, omega arith, omega arith, omega arith)

slice-aggregate-lay-page-3 : tie.Need-slice_bounds-lay_page-end-3
slice-aggregate-lay-page-3 c = search rules

slice-aggregate-lay-page-4 : tie.Need-slice_bounds-lay_page-end-4
slice-aggregate-lay-page-4 c = search rules

lay-page-requires-2 : tie.Need-lay_page-b-requires
lay-page-requires-2 c κs =
    let A = c.before.before.before.before.before.lay_page-a in
    (c.before.before.before.before.before.before.before.before.before.before.before.before.requires.1, c.before.before.before.before.before.before.before.before.before.keys-keys.ensures, omega (arith, A.ensures.1, A.auto.tape), omega (arith, A.auto.tape), omega (arith, A.ensures.2, A.auto.side), omega (arith, A.auto.side))

slice-aggregate-find-head : tie.Need-slice_bounds-find_head-end
slice-aggregate-find-head c = search rules

slice-aggregate-find-head-2 : tie.Need-slice_bounds-find_head-end-2
slice-aggregate-find-head-2 c = search rules

find-head-requires : tie.Need-find_head-h-requires
find-head-requires c κs =
    let A = c.before.before.before.before.before.before.before.before.before.before.lay_page-a in
    let B = c.before.before.before.before.lay_page-b in
    made_still A.ensures.0 B.ensures.0 (blank_new 8820 (omega arith)) (omega arith) A.auto.tape B.auto.tape

slice-aggregate-find-head-3 : tie.Need-slice_bounds-find_head-end-3
slice-aggregate-find-head-3 c = search rules

slice-aggregate-find-head-4 : tie.Need-slice_bounds-find_head-end-4
slice-aggregate-find-head-4 c = search rules

find-head-requires-2 : tie.Need-find_head-k-requires
find-head-requires-2 c κs =
    let A = c.before.before.before.before.before.before.before.before.before.before.before.before.before.lay_page-a in
    let B = c.before.before.before.before.before.before.before.lay_page-b in
    made_read B.ensures.0 (made_read A.ensures.0 (blank_new 8820 (omega arith)) (omega arith) A.auto.tape).blank (omega (arith, A.ensures.0.taped.some)) B.auto.tape

slice-aggregate-alike : tie.Need-slice_bounds-alike-end
slice-aggregate-alike c = search rules

slice-aggregate-alike-2 : tie.Need-slice_bounds-alike-end-2
slice-aggregate-alike-2 c = search rules

alike-requires : tie.Need-alike-requires
alike-requires c κs =
    let start = c.before.before.before.before.before.before.before.before.before.before.before.before.before.before.before.before.before.before.before.before.before.before.before in
    (c.before.before.before.before.before.find_head-h.ensures, (page_good _ _ start.requires.0).fit, c.before.before.find_head-k.ensures, (page_good _ _ start.requires.1).fit)

returns : tie.Need-returns
returns c = search rules

pub belong_spec : {M : Type 1} → statement M
belong_spec =
    tie.close
    (tie.spec
    keys-requires
    slice-aggregate-lay-page
    slice-aggregate-lay-page-2
    lay-page-requires
    slice-aggregate-lay-page-3
    slice-aggregate-lay-page-4
    lay-page-requires-2
    slice-aggregate-find-head
    slice-aggregate-find-head-2
    find-head-requires
    slice-aggregate-find-head-3
    slice-aggregate-find-head-4
    find-head-requires-2
    slice-aggregate-alike
    slice-aggregate-alike-2
    alike-requires
    returns)
