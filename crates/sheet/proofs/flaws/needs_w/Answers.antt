-- M's first two fields are p and a.
use Rattle.std.proofs.Common.{arith, sym, ap}
use borrow.Author.Tests.{ne_eqb}
use Rattle.paper.specs.Lists.{is_empty}
use Rattle.sheet.proofs.FlawLaws.{none_taken, some_taken, taken_empty, medication_long, no_need, need_by}
use Rattle.sheet.proofs.flaws.needs_w.Goals as goal

pub returns-then-kind-ne-M : goal.returns-then-kind-ne-M
returns-then-kind-ne-M c = λ l T. no_need T c.requires.2 c.if-kind-ne-M.true

pub value_len-requires : goal.value_len-requires
value_len-requires c = (c.requires.1, omega (arith, c.requires.3, medication_long _ c.if-kind-ne-M.false))

pub value_len-requires-then-value_len-eq0 : goal.value_len-requires-then-value_len-eq0
value_len-requires-then-value_len-eq0 c = (omega (arith, c.requires.1, c.value_len.auto.scratch), omega (arith, c.requires.3, medication_long _ c.if-kind-ne-M.false))

pub returns-then-value_len-eq0 : goal.returns-then-value_len-eq0
returns-then-value_len-eq0 c =
    let N = c.value_len in
    let Q = c.value_len-then-value_len-eq0 in
    λ l T. rw (taken_empty _ _ _ _ Q.ensures.0 Q.ensures.1 Q.auto.scratch, sym (ap is_empty (none_taken _ _ _ N.ensures.0 c.if-value_len-eq0.true))) at (need_by T c.if-kind-ne-M.false)

pub returns-else-value_len-eq0 : goal.returns-else-value_len-eq0
returns-else-value_len-eq0 c =
    let N = c.value_len in
    λ l T. rw (ne_eqb _ 0 c.if-value_len-eq0.false) (rw (some_taken _ _ _ _ N.ensures.0 N.ensures.1 N.auto.scratch c.if-value_len-eq0.false) at (need_by T c.if-kind-ne-M.false))
