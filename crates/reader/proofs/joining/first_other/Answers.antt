use Rattle.std.proofs.Common.{◌∙◌, arith, sym}
use Rattle.paper.specs.Calls.{pages_at}
use Rattle.paper.proofs.CallLaws.{pages_count}
use Rattle.reader.proofs.JoiningLaws.{alike_one, alike_more, other_here_lem, none_other}
use Rattle.reader.proofs.joining.first_other.Goals as goal

pub loop-i-init : goal.loop-i-init
loop-i-init c =
    let a = c.args in
    let h = pages_count a.buffer.now a.starts.now a.lens.now c.requires.2.lie in
    alike_one (pages_at a.buffer.now a.starts.now a.lens.now) (omega (arith, h))

pub returns-then-not-like_first : goal.returns-then-not-like_first
returns-then-not-like_first c =
    let a = c.args in
    let h = pages_count a.buffer.now a.starts.now a.lens.now c.requires.2.lie in
    let e = other_here_lem (pages_at a.buffer.now a.starts.now a.lens.now) c.loop-i.i (omega (arith, h)) c.loop-i.invariant (sym c.like_first.ensures ∙ c.if-not-like_first.true) in
    (sym e, omega arith)

pub loop-i-preserved : goal.loop-i-preserved
loop-i-preserved c =
    let a = c.args in
    let h = pages_count a.buffer.now a.starts.now a.lens.now c.requires.2.lie in
    alike_more (pages_at a.buffer.now a.starts.now a.lens.now) c.loop-i.i (omega (arith, h)) c.loop-i.invariant (sym c.like_first.ensures ∙ c.if-not-like_first.false)

pub returns : goal.returns
returns c =
    let a = c.args in
    let h = pages_count a.buffer.now a.starts.now a.lens.now c.requires.2.lie in
    none_other (pages_at a.buffer.now a.starts.now a.lens.now) c.loop-i.i (omega (arith, h)) c.loop-i.invariant
