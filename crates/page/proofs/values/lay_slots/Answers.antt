use Rattle.std.proofs.Common.{◌≡◌, ◌<◌, ◌+◌, ◌*◌, ◌-◌, List, [], ◌∷◌, ℕ, arith, ap, sym}
use Rattle.page.proofs.ContentLaws.{finish, relay, reroom}
use Rattle.page.proofs.SlotLaws.{spans_next, next_room, next_laid}
use Rattle.page.proofs.values.lay_slots.Goals as goal

pub lay_one-m-requires : goal.lay_one-m-requires
lay_one-m-requires c =
    let left : 0 < c.args.count - c.loop-j.j = omega arith in
    (reroom (ap (λ (v : List ℕ). v ∷ []) (sym c.value_of-v.ensures)) (next_room _ _ _ _ _ c.loop-j.invariant.going c.requires.2 left), omega (arith, c.loop-j.auto.numbers))

pub loop-j-preserved : goal.loop-j-preserved
loop-j-preserved c =
    let a = c.args in
    let j = c.loop-j.j in
    let I = c.loop-j.invariant in
    let left : 0 < a.count - j = omega arith in
    let z : a.count - (j + 1) ≡ a.count - j - 1 = omega arith in
    let p : a.base + 2 * (j + 1) ≡ a.base + 2 * j + 2 = omega arith in
    let q : a.at + 2 * (j + 1) ≡ a.at + 2 * j + 2 = omega arith in
    let K = relay (ap (λ (u : List ℕ). u ∷ []) c.value_of-v.ensures) c.lay_one-m.ensures in
    record {
      lie = rw (z, p) (spans_next _ a.side.now _ _ _ _ left I.lie).1;
      going = rw (z, p, q) (next_laid _ _ _ _ _ I.going c.requires.2 left K (omega arith));
    }

pub returns : goal.returns
returns c =
    let f = c.requires.2.fits in
    let z : c.args.count - c.loop-j.j ≡ 0 = omega arith in
    finish (rw z at c.loop-j.invariant.going) (omega arith) (omega arith)
