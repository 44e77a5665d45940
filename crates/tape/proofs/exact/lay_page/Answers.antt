-- No tag is left, an end tag, or a start tag, whose element is laid.
use Rattle.std.proofs.Common.{◌≡◌, ◌≤◌, length, refl, ◌∙◌, arith}
use Rattle.paper.proofs.ReadSound.{judges}
use Rattle.fields.proofs.ColumnLaws.{part_within}
use Rattle.tape.specs.Tape.{elems_of, sheet_by}
use Rattle.tape.proofs.WalkLaws.{Ends, Starts, ends, starts}
use Rattle.tape.proofs.PageLaws.{Here, here, found_told, on_begin, on_end, elem_room, value_room, on_elem, on_done}
use Rattle.tape.proofs.exact.lay_page.Goals as goal

pub loop-made-init : goal.loop-made-init
loop-made-init c = record { on = on_begin c.args.page.now c.args.tape.now c.args.first c.args.side.now c.args.used c.requires.0; lent = refl }

pub next_tag-requires : goal.next_tag-requires
next_tag-requires c = c.loop-made.invariant.on.inner

pub returns-in-None : goal.returns-in-None
returns-in-None c = on_done c.loop-made.invariant.on c.requires.0 c.in-None.ensures.0 c.requires.2 c.requires.4

pub loop-made-smaller-in-Some-End : goal.loop-made-smaller-in-Some-End
loop-made-smaller-in-Some-End c =
    let E : Ends c.args.page.now c.loop-made.at c.in-Some-End.p = ends (rw c.in-Some-End.field-0-is at c.in-Some-End.ensures) in
    omega (arith, E.low, E.inner)

pub loop-made-preserved-in-Some-End : goal.loop-made-preserved-in-Some-End
loop-made-preserved-in-Some-End c =
    let E : Ends c.args.page.now c.loop-made.at c.in-Some-End.p = ends (rw c.in-Some-End.field-0-is at c.in-Some-End.ensures) in
    rw c.in-Some-End.field-0-is (record { on = on_end c.loop-made.invariant.on E; lent = c.loop-made.invariant.lent })

pub find-requires : goal.find-requires
find-requires c =
    let E : Starts c.args.page.now c.loop-made.at c.in-Some-Start.p c.in-Some-Start.name_end = starts (rw c.in-Some-Start.field-0-is at c.in-Some-Start.ensures) in
    let short : length c.args.page.now ≤ 1400 = (judges c.args.page.now (sheet_by (elems_of c.args.page.now)) c.requires.0).short in
    let k = c.kind_named-kind in
    (omega (arith, E.inner), short, k.ensures.1, c.requires.1, omega (arith, part_within k.result k.ensures.1, c.loop-made.invariant.lent))

pub lay_elem-made-requires : goal.lay_elem-made-requires
lay_elem-made-requires c =
    let E : Starts c.args.page.now c.loop-made.at c.in-Some-Start.p c.in-Some-Start.name_end = starts (rw c.in-Some-Start.field-0-is at c.in-Some-Start.ensures) in
    let short : length c.args.page.now ≤ 1400 = (judges c.args.page.now (sheet_by (elems_of c.args.page.now)) c.requires.0).short in
    let k = c.kind_named-kind in
    let H = c.loop-made.invariant.on in
    let q = rw c.in-Some-Start.field-0-is at k.ensures.0 in
    let N : Here c.args.page.now c.loop-made.at c.in-Some-Start.p c.in-Some-Start.name_end k.result c.find.new.raws =
    here E H.known k.result q (found_told E H.known k.result q _ _ (rw c.in-Some-Start.field-0-is at c.find.ensures))
    in (
      short,
      k.ensures.1,
      omega (arith, E.high, E.inner),
      omega (arith, part_within k.result k.ensures.1, c.find.auto.raws, c.loop-made.invariant.lent),
      N.lie,
      omega (arith, elem_room H N c.requires.0, c.requires.2, H.tape_long),
      omega (arith, c.requires.3, H.tape_long),
      omega (arith, value_room H N c.requires.0, c.requires.4, H.side_long),
      omega (arith, c.requires.5, H.side_long),
    )

pub loop-made-smaller : goal.loop-made-smaller
loop-made-smaller c =
    let E : Starts c.args.page.now c.loop-made.at c.in-Some-Start.p c.in-Some-Start.name_end = starts (rw c.in-Some-Start.field-0-is at c.in-Some-Start.ensures) in
    omega (arith, E.low, E.high, E.inner)

pub loop-made-preserved : goal.loop-made-preserved
loop-made-preserved c =
    let E : Starts c.args.page.now c.loop-made.at c.in-Some-Start.p c.in-Some-Start.name_end = starts (rw c.in-Some-Start.field-0-is at c.in-Some-Start.ensures) in
    let k = c.kind_named-kind in
    let H = c.loop-made.invariant.on in
    let q = rw c.in-Some-Start.field-0-is at k.ensures.0 in
    let N : Here c.args.page.now c.loop-made.at c.in-Some-Start.p c.in-Some-Start.name_end k.result c.find.new.raws =
    here E H.known k.result q (found_told E H.known k.result q _ _ (rw c.in-Some-Start.field-0-is at c.find.ensures))
    in
    rw c.in-Some-Start.field-0-is
    (record {
      on = on_elem H N (omega (arith, E.high, E.inner)) (rw c.in-Some-Start.field-0-is at c.lay_elem-made.ensures) c.lay_elem-made.auto.tape c.lay_elem-made.auto.side;
      lent = c.find.auto.raws ∙ c.loop-made.invariant.lent;
    })
