-- The closing quote ends the value, and an odd byte or a reference goes behind what is laid.
use mathlib.Core.Path.{ap, ◌∙◌}
use mathlib.Core.List.{[], ◌∷◌}
use Prim.Native.Nat.{◌+◌}
use native.Mathlib.Omega.{arith}
use lib.ListN.{length}
use lib.Seq.{length-slice}
use Rattle.room.proofs.Parts.{part_is}
use Rattle.quoted.proofs.CodedLaws.{count_low, coding_lay, coding_odd, coding_done}
use Rattle.quoted.proofs.coded.coded_value.Goals as goal

pub returns-then-page-e : goal.returns-then-page-e
returns-then-page-e c =
    let w = c.args.page.now in
    let i = c.loop-i.i in
    let e = c.ordinary_end-e.result in
    let O = c.ordinary_end-e.ensures in
    let D = c.lay-m.ensures in
    let H = c.loop-i.invariant in
    let R = coding_lay c.requires.3 H e c.lay-m.result c.lay-m.new.out _ O.0 O.1 O.2 (omega (arith, c.if-side-n.false, H.fits)) (part_is w i e) D.0 D.1 in
    let T = c.trimmed-end.ensures in
    coding_done c.requires.3 R c.trimmed-end.result c.requires.4 (omega (arith, O.2, c.if-e-page.false)) c.if-page-e.true T.0 T.1 T.2

pub overflow_add-breaks : goal.overflow_add-breaks
overflow_add-breaks c =
    let H = c.loop-i.invariant in
    omega (arith, H.broken, count_low 126 H.said, H.behind, H.fits, H.long, c.requires.5, c.breaks_of-breaks.ensures, count_low 126 (c.in_ok-o.o.byte ∷ []))

pub loop-i-preserved : goal.loop-i-preserved
loop-i-preserved c =
    let w = c.args.page.now in
    let i = c.loop-i.i in
    let e = c.ordinary_end-e.result in
    let O = c.ordinary_end-e.ensures in
    let D = c.lay-m.ensures in
    let H = c.loop-i.invariant in
    let R = coding_lay c.requires.3 H e c.lay-m.result c.lay-m.new.out _ O.0 O.1 O.2 (omega (arith, c.if-side-n.false, H.fits)) (part_is w i e) D.0 D.1 in
    let l = ap length (part_is w i e) ∙ length-slice i e w O.2 in
    coding_odd c.requires.3 R c.in_ok-o.o.next c.in_ok-o.o.byte _ c.in_ok-o.ensures c.if-page-e.false (omega (arith, l, D.0, c.if-side-n.false, H.fits, H.long, R.long))
    (ap (λ x. c.loop-i.breaks + x) c.breaks_of-breaks.ensures)
