-- Each byte's step keeps what is held of the bytes decoded so far.
use Rattle.std.proofs.Common.{◌∙◌, ap, Some}
use Rattle.markup.proofs.Decodes.{first, go_quiet, go_blank, go_byte, last}
use Rattle.markup.proofs.values.decode_each.Goals as goal
use Rattle.markup.proofs.values.decode_each.Goals.{in-None, in-Some, in-Some-2}

pub loop-i-init : goal.loop-i-init
loop-i-init c = first _ _ _ _ _ c.requires.0 c.requires.1 c.requires.2

pub loop-i-preserved : goal.loop-i-preserved
loop-i-preserved c =
    let H = c.loop-i.invariant in
    let h = c.loop-i-test.true in
    let E = c.step-s.ensures in
    elim c.match-s.branch [
      | in-None w ↦ rw (w.out-is, w.n-is, w.blanks-is) (go_quiet H h _ _ E.0 E.1 E.2 w.in-None.is)
      | in-Some w ↦ rw (w.out-is, w.n-is, w.blanks-is) (go_blank H h _ _ E.0 E.1 E.2 (w.in-Some.is ∙ ap Some w.if-v-eq-BLANK.true))
      | in-Some-2 w ↦ rw (w.out-is, w.n-is, w.blanks-is) (go_byte H h _ _ E.0 E.1 E.2 _ w.in-Some-2.is (λ q. w.if-v-eq-BLANK.false (cc)) _ _ w.put-n.ensures.0 w.put-n.ensures.1)
    ]

pub returns : goal.returns
returns c = last c.loop-i.invariant c.loop-i-test.false
