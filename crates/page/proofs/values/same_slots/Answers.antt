use Rattle.std.proofs.Common.{◌≡◌, ◌<◌, ◌+◌, ◌*◌, ◌-◌, ◌∙◌, not, arith, ap, sym}
use Rattle.page.proofs.SlotLaws.{spans_next, slots_other, slots_same, other_values}
use Rattle.page.proofs.values.same_slots.Goals as goal

pub returns-then-ne : goal.returns-then-ne
returns-then-ne c =
    let left : 0 < c.args.count - c.loop-j.j = omega arith in
    let e = other_values c.ne.result _ _ _ _ c.ne.ensures c.value_of-v.ensures c.value_of-u.ensures in
    sym (c.loop-j.invariant.so ∙ slots_other _ _ _ _ _ _ _ left (e ∙ ap not c.if-ne.true))

pub loop-j-preserved : goal.loop-j-preserved
loop-j-preserved c =
    let a = c.args in
    let j = c.loop-j.j in
    let I = c.loop-j.invariant in
    let left : 0 < a.count - j = omega arith in
    let z : a.count - (j + 1) ≡ a.count - j - 1 = omega arith in
    let p : a.x + 2 * (j + 1) ≡ a.x + 2 * j + 2 = omega arith in
    let q : a.y + 2 * (j + 1) ≡ a.y + 2 * j + 2 = omega arith in
    let e = other_values c.ne.result _ _ _ _ c.ne.ensures c.value_of-v.ensures c.value_of-u.ensures in
    record {
      one_lie = rw (z, p) (spans_next _ a.side.now _ _ _ _ left I.one_lie).1;
      two_lie = rw (z, q) (spans_next _ a.side.now _ _ _ _ left I.two_lie).1;
      so = rw (z, p, q) (I.so ∙ slots_same _ _ _ _ _ _ _ left (e ∙ ap not c.if-ne.false));
    }
