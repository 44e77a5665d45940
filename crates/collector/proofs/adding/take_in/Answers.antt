-- First page, number and bytes decide, and a page that is kept is laid at its place.
use Rattle.std.proofs.Common.{◌≡◌, false, ◌≤◌, length, sym, ap, ◌∙◌, rules, arith}
use Rattle.markup.specs.Walk.{tags_at}
use Rattle.sheet.specs.Content.{content_of}
use Rattle.collector.specs.Keeping.{here}
use Rattle.collector.proofs.KeepLaws.{says, place, told_missing, kept_same, promised_same, takes_other, takes_same, takes_second, takes_new, keeps}
use Rattle.collector.proofs.adding.take_in.Goals as goal

pub returns-then-not-agrees_first : goal.returns-then-not-agrees_first
returns-then-not-agrees_first c =
    promised_same _ _ _ _ _ c.unchanged.ensures.0 c.unchanged.ensures.1 (takes_other c.args.c c.args.page.now (content_of (tags_at c.args.page.now 0)) (sym c.agrees_first.ensures ∙ c.if-not-agrees_first.true))

pub overflow_add-at : goal.overflow_add-at
overflow_add-at c = omega (arith, (place c.args.c.lens c.numbers_of-said.result.no c.in-Some.at c.in-Some.ensures).inside)

pub spells-requires : goal.spells-requires
spells-requires c =
    let long : length c.args.c.pages ≡ 12600 = search rules in
    (omega arith, omega (arith, (place c.args.c.lens c.numbers_of-said.result.no c.in-Some.at c.in-Some.ensures).inside))

pub returns-then-spells : goal.returns-then-spells
returns-then-spells c =
    let s = content_of (tags_at c.args.page.now 0) in
    let e = kept_same c.args.c c.args.page.now s c.numbers_of-said.result.no c.in-Some.at c.spells.result c.numbers_of-said.ensures.0 (search rules) c.in-Some.ensures c.spells.ensures in
    promised_same _ _ _ _ _ c.unchanged-then-spells.ensures.0 c.unchanged-then-spells.ensures.1
    (takes_same c.args.c c.args.page.now s (sym c.agrees_first.ensures ∙ c.if-not-agrees_first.false) e.0 (e.1 ∙ c.if-spells.true))

pub returns-in-Some : goal.returns-in-Some
returns-in-Some c =
    let s = content_of (tags_at c.args.page.now 0) in
    let e = kept_same c.args.c c.args.page.now s c.numbers_of-said.result.no c.in-Some.at c.spells.result c.numbers_of-said.ensures.0 (search rules) c.in-Some.ensures c.spells.ensures in
    promised_same _ _ _ _ _ c.unchanged-in-Some.ensures.0 c.unchanged-in-Some.ensures.1
    (takes_second c.args.c c.args.page.now s (sym c.agrees_first.ensures ∙ c.if-not-agrees_first.false) e.0 (e.1 ∙ c.if-spells.false))

pub overflow_sub-i : goal.overflow_sub-i
overflow_sub-i c = omega (arith, c.numbers_of-said.ensures.0, (says c.args.page.now c.requires).least)

pub lay-requires : goal.lay-requires
lay-requires c =
    let s = says c.args.page.now c.requires in
    let long : length c.args.c.pages ≡ 12600 = search rules in
    omega (arith, c.numbers_of-said.ensures.0, s.fits.short, s.fits.no_small, s.least)

pub overflow_cast-lens : goal.overflow_cast-lens
overflow_cast-lens c = omega (arith, (says c.args.page.now c.requires).fits.short)

pub bounds-lens-i : goal.bounds-lens-i
bounds-lens-i c = let s = says c.args.page.now c.requires in omega (arith, c.numbers_of-said.ensures.0, s.fits.no_small, s.least)

pub returns : goal.returns
returns c =
    let s = content_of (tags_at c.args.page.now 0) in
    let e : here c.args.c.lens s.no ≡ false = ap (here c.args.c.lens) (sym c.numbers_of-said.ensures.0) ∙ told_missing c.args.c.lens c.numbers_of-said.result.no (sym c.in_default.is ∙ c.page_at.ensures) in
    takes_new c.args.c c.args.page.now s (sym c.agrees_first.ensures ∙ c.if-not-agrees_first.false) e _
    (keeps c.args.c c.args.page.now s _ _ _ _ c.numbers_of-said.ensures.0 c.numbers_of-said.ensures.1 c.first_with-first.ensures c.lay.ensures.1)
