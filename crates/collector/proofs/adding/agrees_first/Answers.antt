-- The page that is kept first decides, where there is one.
use Rattle.std.proofs.Common.{◌+◌, ◌≤◌, length, arith}
use Rattle.markup.specs.Walk.{tags_at}
use Rattle.sheet.specs.Content.{content_of}
use Rattle.collector.proofs.KeepLaws.{place, told_missing, no_first, by_first}
use Rattle.collector.proofs.adding.agrees_first.Goals as goal

pub overflow_add-at : goal.overflow_add-at
overflow_add-at c = omega (arith, (place c.args.lens c.args.first c.in-Some.at c.in-Some.ensures).inside)

pub slice_bounds-agrees-end : goal.slice_bounds-agrees-end
slice_bounds-agrees-end c =
    let h : c.in-Some.at.start + c.in-Some.at.len ≤ length c.args.pages.now = omega (arith, (place c.args.lens c.args.first c.in-Some.at c.in-Some.ensures).inside) in
    h

pub returns-in-Some : goal.returns-in-Some
returns-in-Some c =
    by_first c.args.pages.now c.args.lens c.args.first c.in-Some.at.start c.in-Some.at.len (content_of (tags_at c.args.page.now 0)) c.agrees.result
    (place c.args.lens c.args.first c.in-Some.at c.in-Some.ensures) c.agrees.ensures

pub returns-in-None : goal.returns-in-None
returns-in-None c = no_first c.args.pages.now c.args.lens c.args.first (content_of (tags_at c.args.page.now 0)) (told_missing c.args.lens c.args.first c.in-None.ensures)
