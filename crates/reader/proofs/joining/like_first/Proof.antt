-- `reader::joining::like_first` meets its contract: it compares page i with the first page.
-- Assumes nothing.
use mathlib.Core.Path.{sym, subst}
use mathlib.Core.List.{List}
use Prim.Native.Nat.{ℕ}
use native.Mathlib.Omega.{arith}
use Rattle.paper.specs.Calls.{pages_at}
use Rattle.page.specs.Walking.{HeadAt}
use Rattle.reader.proofs.JoiningLaws.{page_fits, alike_first}
use Rattle.reader.proofs.TakenLaws.{called, read_at}
use Rattle.reader.proofs.joining.like_first.Statement.{statement}
use Rattle.reader.proofs.joining.like_first.Tie as tie
use borrow.Author.Rules.{rules}

page-at-requires : tie.Need-page_at-one-requires
page-at-requires c κs =
    let start = c.before.before.before.before.before in
    (omega (arith, start.requires.0), start.requires.1.lie)

page-at-requires-2 : tie.Need-page_at-two-requires
page-at-requires-2 c κs =
    let start = c.before.before.before.before.before.before in
    (start.requires.0, start.requires.1.lie)

mul-find-head : tie.Need-offset_bounds-firsts-i
mul-find-head c = search rules

element-copy-out-find-head : tie.Need-bounds-firsts-i
element-copy-out-find-head c =
    let start = c.before.before.before.before.before.before.before.before in
    omega (arith, start.requires.0, start.requires.1.nine)

add-find-head : tie.Need-overflow_add-i
add-find-head c = search rules

mul-find-head-2 : tie.Need-offset_bounds-firsts-i-2
mul-find-head-2 c = search rules

element-copy-out-find-head-2 : tie.Need-bounds-firsts-i-2
element-copy-out-find-head-2 c =
    let start = c.before.before.before.before.before.before.before.before.before in
    omega (arith, start.requires.0, start.requires.1.nine)

find-head-requires : tie.Need-find_head-k-requires
find-head-requires c κs =
    let start = c.before.before.before.before.before.before.before.before.before.before in
    read_at start.requires.1 start.args.i start.requires.0 c.before.before.before.page_at-two.ensures

alike-requires : tie.Need-alike-requires
alike-requires c κs =
    let s = c.before.before.before.before.before.before.before.before.before.before.before in
    let T = called s.requires.1 in
    let one = c.before.before.before.before.before.page_at-one.ensures in
    let two = c.before.before.before.before.page_at-two.ensures in (
      subst (λ (w : List ℕ). HeadAt w s.args.side.now s.args.tape.now s.args.h) (sym one) s.requires.2,
      (page_fits {i = 0} T (omega (arith, s.requires.0)) one).fit,
      c.find_head-k.ensures,
      (page_fits T s.requires.0 two).fit,
    )

returns : tie.Need-returns
returns c = let s = c.before.before.before.before.before.before.before.before.before.before.before.before.args in alike_first (pages_at s.buffer.now s.starts.now s.lens.now) s.i _ _ _ c.before.before.before.before.before.before.page_at-one.ensures c.before.before.before.before.before.page_at-two.ensures c.alike.ensures

pub like_first_spec : {M : Type 1} → statement M
like_first_spec =
    tie.close
    (tie.spec
    page-at-requires
    page-at-requires-2
    mul-find-head
    element-copy-out-find-head
    add-find-head
    mul-find-head-2
    element-copy-out-find-head-2
    find-head-requires
    alike-requires
    returns)
