-- The place before p is the last to look at, or is passed over; before the first place nothing passes.
use Rattle.std.proofs.Common.{◌≡◌, ◌-◌, ◌<◌, ◌≤◌, drop, get_or, sym, ◌∙◌, arith}
use Rattle.std.proofs.Math.Seq.{get_or-drop}
use Rattle.cell.specs.Found.{first_place}
use Rattle.cell.proofs.Cuts.{none_before, cut_here, go_on}
use Rattle.cell.proofs.shown_of.Goals as goal

pub returns-then-buffer-at-eq32 : goal.returns-then-buffer-at-eq32
returns-then-buffer-at-eq32 c =
    let e : get_or (drop c.args.at c.args.buffer.now) (c.loop-p.p - 1) 0 ≡ 32 = get_or-drop c.args.at c.args.buffer.now (c.loop-p.p - 1) 0 ∙ c.if-buffer-at-eq32.true in
    let h : first_place (c.args.limit - 3) < c.loop-p.p = omega (arith, c.first_place-first.ensures) in
    sym (c.loop-p.invariant ∙ cut_here c.args.limit (drop c.args.at c.args.buffer.now) c.loop-p.p h e)

pub loop-p-preserved : goal.loop-p-preserved
loop-p-preserved c =
    let e = get_or-drop c.args.at c.args.buffer.now (c.loop-p.p - 1) 0 in
    let h : first_place (c.args.limit - 3) < c.loop-p.p = omega (arith, c.first_place-first.ensures) in
    c.loop-p.invariant ∙ go_on c.args.limit (drop c.args.at c.args.buffer.now) c.loop-p.p h (λ q. c.if-buffer-at-eq32.false (sym e ∙ q))

pub returns : goal.returns
returns c =
    let h : c.loop-p.p ≤ first_place (c.args.limit - 3) = omega (arith, c.first_place-first.ensures) in
    sym (c.loop-p.invariant ∙ none_before c.args.limit (drop c.args.at c.args.buffer.now) c.loop-p.p h)
