use Rattle.std.proofs.Common.{get_or, sym, ◌∙◌}
use Rattle.marks.proofs.ClassList.{classes}
use Rattle.marks.proofs.ClassLaws.{entry, zero_refused, other_allowed, hit, miss}
use Rattle.marks.proofs.first_refused.Goals as goal

pub returns-then-classes-b-eq0 : goal.returns-then-classes-b-eq0
unfolding classes
returns-then-classes-b-eq0 c =
    let i = c.loop-i.i in
    let b = get_or c.args.s.now i 0 in
    sym (c.loop-i.invariant ∙ hit _ i c.loop-i-test.true (zero_refused b (sym (entry b (c.type_inv.s i).fits) ∙ c.if-classes-b-eq0.true)))

pub loop-i-preserved : goal.loop-i-preserved
unfolding classes
loop-i-preserved c =
    let i = c.loop-i.i in
    let b = get_or c.args.s.now i 0 in
    c.loop-i.invariant ∙ miss _ i c.loop-i-test.true (other_allowed b (λ e. c.if-classes-b-eq0.false (entry b (c.type_inv.s i).fits ∙ e)))
