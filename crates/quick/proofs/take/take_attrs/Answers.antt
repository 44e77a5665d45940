-- No slot is filled at first; an attribute fills one more, and `>` or `/` ends them.
use Prim.Native.Nat.{◌+◌, ◌<◌}
use native.Mathlib.Omega.{arith}
use lib.ListN.{length}
use Rattle.fields.specs.Places.{kind_at}
use Rattle.quoted.proofs.Pieces.{in_it}
use Rattle.quick.proofs.SlotLaws.{so_many, held_none, again_in_lem, inside_in}
use Rattle.quick.proofs.take.take_attrs.Goals as goal
use Rattle.quick.proofs.take.take_attrs.Goals.{then-c-eq62-via-then-c-eq62, then-c-eq62-via-else-c-eq62+then-c-eq47}

pub clear-requires : goal.clear-requires
clear-requires c = (omega arith, omega (arith, c.requires.5, c.count_in.ensures.0, so_many (kind_at c.args.kind)))

pub loop-i-init : goal.loop-i-init
loop-i-init c =
    let a = c.args in
    let k = kind_at a.kind in
    let C = c.clear in
    held_none a.page.now k a.base a.from a.tape.now C.new.numbers a.side.now a.used c.requires.0 (λ j h l. C.ensures.1 j h (omega (arith, l, c.count_in.ensures.0, so_many k))) C.ensures.0 c.requires.7
    (omega (arith, c.requires.5, C.auto.numbers)) C.auto.numbers

pub returns-then-c-eq62 : goal.returns-then-c-eq62
returns-then-c-eq62 c =
    let w = c.args.page.now in
    let a = c.spaces_end-a.result in
    let b = c.byte_or-c.ensures in
    let R = c.spaces_end-a.ensures in
    let al : a < length w = in_it w a (λ z. elim c.then-c-eq62.branch [
      | then-c-eq62-via-then-c-eq62 v ↦ omega (arith, b, z, v.if-c-eq62.true)
      | then-c-eq62-via-else-c-eq62+then-c-eq47 v ↦ omega (arith, b, z, v.if-c-eq47.true)
    ]) in
    inside_in c.loop-i.invariant a R.0 R.1 al

pub loop-i-preserved : goal.loop-i-preserved
loop-i-preserved c =
    let R = c.spaces_end-a.ensures in
    again_in_lem c.loop-i.invariant c.spaces_end-a.result R.0 _ _ _ _ (omega (arith, R.1, c.if-a-i.false)) c.take_attr.auto.side c.in_ok-taken.ensures
