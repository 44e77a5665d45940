-- A header, the values behind it, and nothing wrong with them.
use mathlib.Core.Path.{sym, ◌∙◌}
use native.Mathlib.Omega.{arith}
use Rattle.fields.specs.Places.{kind_at}
use Rattle.fields.proofs.TableLaws.{code_back}
use Rattle.quick.proofs.SlotLaws.{so_many}
use Rattle.quick.proofs.ElemLaws.{holds_wide, tag_in}
use Rattle.quick.proofs.pages.take_tag.Goals as goal

pub take_attrs-requires : goal.take_attrs-requires
take_attrs-requires c =
    let S = c.requires in
    let long = c.put_header.auto.tape in
    (S.1, S.2, S.3, S.4, S.5, omega (arith, c.if-next-tape.false, long, c.count_in.ensures.0, so_many (kind_at c.args.kind)), omega (arith, S.7, long), S.8, S.9)

pub tag_fits-requires : goal.tag_fits-requires
tag_fits-requires c =
    let I = c.in_ok-taken.ensures in
    let long = c.take_attrs.auto.tape ∙ c.put_header.auto.tape in
    (c.requires.3, omega (arith, c.if-next-tape.false, long, c.count_in.ensures.0, so_many (kind_at c.args.kind)), omega (arith, c.requires.7, long), (holds_wide I.room I.holds).lie)

pub needs_w-requires : goal.needs_w-requires
needs_w-requires c =
    let long = c.take_attrs.auto.tape ∙ c.put_header.auto.tape in
    (c.requires.3, omega (arith, c.if-next-tape.false, long, c.count_in.ensures.0, so_many (kind_at c.args.kind)), omega (arith, c.requires.7, long))

pub returns-then-tag_fits : goal.returns-then-tag_fits
returns-then-tag_fits c =
    let a = c.args in
    let k = kind_at a.kind in
    let long = c.take_attrs.auto.tape ∙ c.put_header.auto.tape in
    tag_in a.page.now k a.f a.p a.from _ a.tape.now _ _ _ _ _ _ _ a.kind (sym (code_back a.kind c.requires.3)) c.put_header.ensures (omega (arith, c.count_in.ensures.0, so_many k))
    c.if-next-tape.false long _ c.in_ok-taken.ensures (c.tag_fits.ensures c.if-tag_fits.true) (c.needs_w.ensures a.page.now _)
