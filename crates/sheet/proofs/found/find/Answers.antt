-- An attribute is unknown, stands twice, or is one more that the raw values tell.
use Rattle.std.proofs.Common.{◌≡◌, length, ap, ◌∙◌, refl, arith}
use Rattle.paper.specs.Fields.{fields_of}
use Rattle.fields.specs.Places.{kind_at, place_in}
use Rattle.room.proofs.Parts.{part_is}
use Rattle.sheet.proofs.FoundLaws.{count_is, at_start, at_stop, at_unknown, at_twice, at_next}
use Rattle.sheet.proofs.found.find.Goals as goal

pub loop-shut-init : goal.loop-shut-init
loop-shut-init c =
    let k = kind_at c.args.kind in
    let n : c.count_of-count.result ≡ length (fields_of k) = c.count_of-count.ensures.0 ∙ count_is k in
    at_start _ k _ _ c.requires.0 (omega (arith, c.clear.auto.numbers, c.requires.4, count_is k)) (λ j h. c.clear.ensures.1 j (omega arith) (omega (arith, n, h)))

pub next_attr-requires : goal.next_attr-requires
next_attr-requires c = c.loop-shut.invariant.within

pub returns-in-Stop : goal.returns-in-Stop
returns-in-Stop c = at_stop c.loop-shut.invariant _ c.in-Stop.ensures.0

pub returns-then-j-count : goal.returns-then-j-count
returns-then-j-count c =
    let fs = fields_of (kind_at c.args.kind) in
    at_unknown c.loop-shut.invariant _ _ _ c.in-Attribute.ensures.0 _ _ (c.field_in-j.ensures.0 ∙ ap (λ m. place_in m fs) (part_is c.args.page.now c.in-Attribute.name_at c.in-Attribute.name_end))
    c.count_of-count.ensures.0 c.if-j-count.true

pub returns-then-raws-s-ne0 : goal.returns-then-raws-s-ne0
returns-then-raws-s-ne0 c =
    let fs = fields_of (kind_at c.args.kind) in
    at_twice c.loop-shut.invariant _ _ _ c.in-Attribute.ensures.0 _ _ (c.field_in-j.ensures.0 ∙ ap (λ m. place_in m fs) (part_is c.args.page.now c.in-Attribute.name_at c.in-Attribute.name_end))
    c.count_of-count.ensures.0 c.if-j-count.false c.if-raws-s-ne0.true

pub loop-shut-smaller : goal.loop-shut-smaller
loop-shut-smaller c = let h = c.in-Attribute.ensures.1 in omega (arith, h.0, h.1, h.2, h.3, h.4)

pub loop-shut-preserved : goal.loop-shut-preserved
loop-shut-preserved c =
    let fs = fields_of (kind_at c.args.kind) in
    let h = c.in-Attribute.ensures.1 in
    at_next c.loop-shut.invariant _ _ _ c.in-Attribute.ensures.0 _ _ (c.field_in-j.ensures.0 ∙ ap (λ m. place_in m fs) (part_is c.args.page.now c.in-Attribute.name_at c.in-Attribute.name_end))
    c.count_of-count.ensures.0 c.if-j-count.false c.if-raws-s-ne0.false _ _ refl refl (omega (arith, h.2)) h.3 h.4
