-- An element that may stand here, its tag on the tape, and its end if the tag closes itself.
use mathlib.Core.Path.{◌≡◌, refl, sym, ap, ◌∙◌}
use mathlib.Core.Bool.{Bool}
use Prim.Native.Nat.{◌+◌, ◌<◌}
use lib.Dec.{eqb}
use lib.ListN.{length, get_or}
use borrow.Author.Tests.{ne_eqb}
use Rattle.std.proofs.Common.{eq-eqb}
use Rattle.paper.specs.Lists.{if}
use Rattle.quick.proofs.PassedLaws.{letter_in}
use Rattle.quick.proofs.StepLaws.{step_either}
use Rattle.quick.proofs.pages.take_start.Goals as goal
use Rattle.quick.proofs.pages.take_start.Goals.{then-shut, else-shut}

pub returns : goal.returns
returns c =
    let a = c.args in
    let S = c.requires in
    let w = a.page.now in
    let K = c.in_ok-k.ensures in
    let T = c.in_ok-tag.ensures in
    let E = c.enter_for.ensures in
    let x = c.in_ok-tag.tag.at in
    let g = get_or w x 0 in
    let sl : a.s + 1 < length w = letter_in w (a.s + 1) (rw c.byte_or.ensures at K.letter) in
    let y : c.if-shut.x ≡ if (eqb g 47) (x + 1) x = elim c.if-shut.branch [
      | then-shut v ↦ v.x-is ∙ sym (ap (λ (b : Bool). if b (x + 1) x) (eq-eqb g 47 v.if-shut.true))
      | else-shut v ↦ v.x-is ∙ sym (ap (λ (b : Bool). if b (x + 1) x) (ne_eqb g 47 v.if-shut.false))
    ] in
    step_either a.st S.0 S.1 S.2 S.3 sl (sym c.byte_or.ensures) K (sym c.bars.ensures ∙ c.if-bars.false) T (eqb g 47) _ _ refl y (sym c.byte_or-2.ensures ∙ c.if-byte_or-ne62.false)
    (E.0 T.said T.fine T.needy) E.1
