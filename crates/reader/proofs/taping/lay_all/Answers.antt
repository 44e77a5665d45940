use Rattle.std.proofs.Common.{arith, refl, sym, subst}
use Rattle.paper.specs.Calls.{pages_at}
use Rattle.paper.proofs.CallLaws.{pages_count}
use Rattle.tape.specs.Making.{IsSheet}
use Rattle.reader.proofs.TakenLaws.{begin, again, last, taken}
use Rattle.reader.proofs.taping.lay_all.Goals as goal

pub loop-k-init : goal.loop-k-init
loop-k-init c =
    let a = c.args in
    record { going = begin (pages_at a.buffer.now a.starts.now a.lens.now) a.tape.now a.side.now _ c.requires.3 refl refl; tape_used = omega arith; side_used = omega arith }

pub lay_page-made-requires : goal.lay_page-made-requires
lay_page-made-requires c =
    let L = c.loop-k in
    let v = L.invariant in
    let h = c.loop-k-test.true in
    let n = pages_count c.args.buffer.now c.args.starts.now c.args.lens.now c.requires.1 in (
      subst IsSheet (sym c.page_at-page.ensures) (c.requires.2 _ (omega (arith, h, n))),
      c.keys-keys.ensures,
      omega (arith, L.auto.tape, v.tape_used, h, c.requires.4),
      omega (arith, L.auto.tape, c.requires.5),
      omega (arith, L.auto.side, v.side_used, h, c.requires.6),
      omega (arith, L.auto.side, c.requires.7),
    )

pub loop-k-preserved : goal.loop-k-preserved
loop-k-preserved c =
    let v = c.loop-k.invariant in
    let P = c.lay_page-made in
    record {
      going = again v.going (omega arith) c.page_at-page.ensures P.ensures.0 P.auto.tape P.auto.side;
      tape_used = omega (arith, last v.going (omega arith) c.page_at-page.ensures P.ensures.0 P.auto.tape P.auto.side, P.ensures.1, v.tape_used);
      side_used = omega (arith, P.ensures.2, v.side_used);
    }

pub returns : goal.returns
returns c = taken c.requires.1 c.requires.0 (omega arith) c.loop-k.invariant.going
