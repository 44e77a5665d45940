use Rattle.std.proofs.Common.{◌≡◌, length, arith, subst}
use lib.ListN.{length-set}
use Rattle.paper.specs.Calls.{pages_at}
use Rattle.paper.proofs.CallLaws.{pages_count}
use Rattle.reader.proofs.JoiningLaws.{Numbered, numbered_more, numbered_all}
use Rattle.reader.proofs.joining.numbers.Goals as goal

pub loop-i-preserved : goal.loop-i-preserved
loop-i-preserved c =
    let a = c.args in
    let h = pages_count a.buffer.now a.starts.now a.lens.now c.requires.1.lie in
    let w = c.loop-i.invariant.0 in
    (simp length-set w, numbered_more (pages_at a.buffer.now a.starts.now a.lens.now) c.loop-i.nos c.loop-i.i _ (omega (arith, h)) (omega (arith, w)) c.number_at.ensures c.loop-i.invariant.1)

pub returns : goal.returns
returns c =
    let a = c.args in
    let h = pages_count a.buffer.now a.starts.now a.lens.now c.requires.1.lie in
    let e : c.loop-i.i ≡ length a.starts.now = omega arith in
    numbered_all (pages_at a.buffer.now a.starts.now a.lens.now) c.loop-i.nos (length a.starts.now) h (subst (λ i. Numbered (pages_at a.buffer.now a.starts.now a.lens.now) c.loop-i.nos i) e c.loop-i.invariant.1)
