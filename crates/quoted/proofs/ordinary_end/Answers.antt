-- Four ordinary bytes are passed in one turn.
use mathlib.Core.Path.{refl, sym, ◌∙◌}
use Prim.Native.Nat.{◌+◌}
use native.Mathlib.Omega.{arith}
use Rattle.quoted.proofs.PlainLaws.{passed}
use Rattle.quoted.proofs.ordinary_end.Goals as goal

pub loop-i-preserved : goal.loop-i-preserved
loop-i-preserved c =
    let w = c.args.page.now in
    let i = c.loop-i.i in
    let v1 = passed w _ i c.loop-i.invariant.2 (i + 1) refl (omega arith) (sym c.is_odd.ensures ∙ c.if-is_odd.false) in
    let v2 = passed w _ (i + 1) v1 (i + 2) (omega arith) (omega arith) (sym c.is_odd-in-loop-i.ensures ∙ c.if-is_odd-2.false) in
    let v3 = passed w _ (i + 2) v2 (i + 3) (omega arith) (omega arith) (sym c.is_odd-in-loop-i-2.ensures ∙ c.if-is_odd-3.false) in
    let v4 = passed w _ (i + 3) v3 (i + 4) (omega arith) (omega arith) (sym c.is_odd-in-loop-i-3.ensures ∙ c.if-is_odd-4.false) in
    (omega arith, omega arith, v4)
