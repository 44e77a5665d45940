-- A page that lies in the buffer is added as its bytes.
use Rattle.std.proofs.Common.{◌≡◌, ℕ, ◌+◌, ◌-◌, ◌≤◌, length, take, drop, sym, ◌∙◌, subst, arith}
use borrow.Author.Tests.{leb-true}
use Rattle.collector.specs.Keeping.{added_to, added_call}
use Rattle.collector.specs.Promise.{Promised}
use Rattle.collector.proofs.KeepLaws.{promised_same, outside}
use Rattle.collector.proofs.adding.add.Goals as goal

pub returns-then-not-lies_in : goal.returns-then-not-lies_in
returns-then-not-lies_in c =
    promised_same _ _ _ _ _ c.unchanged.ensures.0 c.unchanged.ensures.1 (outside c.args.c c.args.buffer.now c.args.start c.args.len (sym c.lies_in.ensures ∙ c.if-not-lies_in.true))

pub overflow_add-start : goal.overflow_add-start
overflow_add-start c = omega (arith, leb-true (c.args.start + c.args.len) (length c.args.buffer.now) (sym c.lies_in.ensures ∙ c.if-not-lies_in.false))

pub slice_bounds-add_bytes-end : goal.slice_bounds-add_bytes-end
slice_bounds-add_bytes-end c = leb-true (c.args.start + c.args.len) (length c.args.buffer.now) (sym c.lies_in.ensures ∙ c.if-not-lies_in.false)

pub returns : goal.returns
unfolding added_call
returns c =
    let e : c.args.start + c.args.len - c.args.start ≡ c.args.len = omega arith in
    rw (sym c.lies_in.ensures ∙ c.if-not-lies_in.false)
    (subst (λ (n : ℕ). Promised (added_to c.args.c (take n (drop c.args.start c.args.buffer.now))) c.add_bytes.result.answer c.add_bytes.result.collector) e c.add_bytes.ensures)
