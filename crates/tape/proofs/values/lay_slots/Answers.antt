-- What is laid next is the next value.
use Rattle.std.proofs.Common.{◌≡◌, ◌+◌, ◌<◌, ◌≤◌, [], length, get_or, sym, ◌∙◌, arith}
use lib.Seq.{take_all}
use Rattle.fields.specs.Places.{kind_at, count_of}
use Rattle.tape.specs.Making.{settled}
use Rattle.sheet.specs.Found.{raw_at, told}
use Rattle.tape.proofs.ValueLaws.{told_long, told_here, lie_at}
use Rattle.tape.proofs.SlotLaws.{slots_none, next_room, next_slot}
use Rattle.tape.proofs.values.lay_slots.Goals as goal

pub loop-j-init : goal.loop-j-init
loop-j-init c = slots_none c.args.page.now c.args.tape.now c.args.at c.args.side.now c.args.used

pub lay_slot-m-requires : goal.lay_slot-m-requires
lay_slot-m-requires c =
    let a = c.args in
    let k = kind_at a.kind in
    let j = c.loop-j.j in
    let vs = told a.page.now k a.raws.now in
    let n = c.count_of-count.ensures in
    let low : j < count_of k = omega (arith, n.0, c.loop-j-test.true) in
    let left : j < length vs = omega (arith, told_long a.page.now k a.raws.now, low) in
    let here : settled (c.first_of-first.result + j) (raw_at a.page.now a.raws.now j) ≡ get_or vs j [] = told_here a.page.now k a.raws.now c.first_of-first.result j c.first_of-first.ensures low in
    let p = lie_at a.page.now (count_of k) a.raws.now j c.requires.3 low in (
      p.0,
      p.1,
      c.requires.0,
      omega (arith, n.0, n.1, c.first_of-first.ensures, low),
      omega (arith, c.loop-j.auto.tape, c.requires.4, low),
      rw here (next_room vs j left c.loop-j.invariant _ (omega (arith, c.loop-j.auto.side, c.requires.5))),
      omega (arith, c.loop-j.auto.side, c.requires.6),
    )

pub loop-j-preserved : goal.loop-j-preserved
loop-j-preserved c =
    let a = c.args in
    let k = kind_at a.kind in
    let j = c.loop-j.j in
    let vs = told a.page.now k a.raws.now in
    let low : j < count_of k = omega (arith, c.count_of-count.ensures.0, c.loop-j-test.true) in
    let left : j < length vs = omega (arith, told_long a.page.now k a.raws.now, low) in
    let here : settled (c.first_of-first.result + j) (raw_at a.page.now a.raws.now j) ≡ get_or vs j [] = told_here a.page.now k a.raws.now c.first_of-first.result j c.first_of-first.ensures low in
    next_slot vs j left c.loop-j.invariant (rw here at c.lay_slot-m.ensures)

pub returns : goal.returns
returns c =
    let a = c.args in
    let vs = told a.page.now (kind_at a.kind) a.raws.now in
    let h : length vs ≤ c.loop-j.j = omega (arith, told_long a.page.now (kind_at a.kind) a.raws.now, c.count_of-count.ensures.0, c.loop-j-test.false) in
    rw (take_all c.loop-j.j vs h) at c.loop-j.invariant
