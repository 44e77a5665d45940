use Rattle.std.proofs.Common.{arith, refl}
use Rattle.paper.specs.Calls.{pages_at}
use Rattle.reader.proofs.TakenLaws.{begin, again, taken}
use Rattle.reader.proofs.taping.take_all.Goals as goal

pub loop-k-init : goal.loop-k-init
loop-k-init c = let a = c.args in begin (pages_at a.buffer.now a.starts.now a.lens.now) a.tape.now a.side.now _ c.requires.2 refl refl

pub take-requires : goal.take-requires
take-requires c =
    let L = c.loop-k in
    let G = L.invariant in
    (record { keys_are = c.keys-keys.ensures; letters_are = c.letter_table-letters.ensures }, record { odd_is = c.odd_table-odd.ensures; limits_are = c.limits-limits.ensures }, G.inner, omega (arith, L.auto.tape, c.requires.3), G.used, omega (arith, L.auto.side, c.requires.4))

pub loop-k-preserved : goal.loop-k-preserved
loop-k-preserved c = again c.loop-k.invariant (omega arith) c.page_at-page.ensures c.in_ok-made.ensures c.take.auto.tape c.take.auto.side

pub returns : goal.returns
returns c = taken c.requires.1 c.requires.0 (omega arith) c.loop-k.invariant
