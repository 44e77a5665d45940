-- `reader::joining::number_at` meets its contract: the page that is handed in is taped.
-- Assumes nothing.
use mathlib.Core.Path.{ap, ◌∙◌}
use mathlib.Core.List.{List}
use Prim.Native.Nat.{ℕ}
use native.Mathlib.Omega.{arith}
use Rattle.markup.specs.Walk.{tags_at}
use Rattle.sheet.specs.Content.{content_of}
use Rattle.reader.specs.Joining.{PageFits}
use Rattle.reader.proofs.JoiningLaws.{page_fits}
use Rattle.reader.proofs.TakenLaws.{called, read_at}
use Rattle.reader.proofs.joining.number_at.Statement.{statement}
use Rattle.reader.proofs.joining.number_at.Tie as tie
use borrow.Author.Rules.{rules}

fits : (c : tie.After-page_at-page) → PageFits c.page_at-page.result.now
fits c = page_fits (called c.before.before.before.before.before.before.requires.1) c.before.before.before.before.before.before.requires.0 c.page_at-page.ensures

page-at-requires : tie.Need-page_at-page-requires
page-at-requires c κs =
    let start = c.before.before.before.before.before in
    (start.requires.0, start.requires.1.lie)

mul-find-head : tie.Need-offset_bounds-firsts-i
mul-find-head c = search rules

element-copy-out-find-head : tie.Need-bounds-firsts-i
element-copy-out-find-head c =
    let start = c.before.before.before.before.before.before.before in
    omega (arith, start.requires.0, start.requires.1.nine)

add-find-head : tie.Need-overflow_add-i
add-find-head c = search rules

mul-find-head-2 : tie.Need-offset_bounds-firsts-i-2
mul-find-head-2 c = search rules

element-copy-out-find-head-2 : tie.Need-bounds-firsts-i-2
element-copy-out-find-head-2 c =
    let start = c.before.before.before.before.before.before.before.before in
    omega (arith, start.requires.0, start.requires.1.nine)

find-head-requires : tie.Need-find_head-h-requires
find-head-requires c κs =
    let start = c.before.before.before.before.before.before.before.before.before in
    read_at start.requires.1 start.args.i start.requires.0 c.before.before.before.page_at-page.ensures

number-of-requires : tie.Need-number_of-no-requires
number-of-requires c κs = (c.find_head-h.ensures.mp_at, (fits c.before.before.before.before).fit)

cast-result : tie.Need-overflow_cast-result
cast-result c = omega (arith, c.number_of-no.ensures, (fits c.before.before.before.before.before).no_small)

returns : tie.Need-returns
returns c = c.number_of-no.ensures ∙ ap (λ (w : List ℕ). (content_of (tags_at w 0)).no) c.before.before.before.before.before.page_at-page.ensures

pub number_at_spec : {M : Type 1} → statement M
number_at_spec =
    tie.close
    (tie.spec
    page-at-requires
    mul-find-head
    element-copy-out-find-head
    add-find-head
    mul-find-head-2
    element-copy-out-find-head-2
    find-head-requires
    number-of-requires
    cast-result
    returns)
