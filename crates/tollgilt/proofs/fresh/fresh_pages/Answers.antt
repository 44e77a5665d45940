-- Reading answers the call, and where it gives a plan, the numbers that it laid out are written.
use Rattle.std.proofs.Common.{refl, sym, ◌∙◌, rules, arith}
use borrow.Author.Tests.{leb-true, leb-false}
use Rattle.std.specs.Prelude.{Ok, Err}
use Rattle.std.proofs.lemmas.Result.{err_from_is_err_and}
use Rattle.paper.specs.Calls.{page_room}
use Rattle.tollgilt.proofs.FreshWritten.{no_room, refuses, read_within, not_written, plan_laid}
use Rattle.tollgilt.proofs.fresh.fresh_pages.Goals as goal

pub returns-then-not-pages_fit : goal.returns-then-not-pages_fit
returns-then-not-pages_fit c =
    rw c.one.ensures (refuses _ c.args.out.now 1 0 0 (no_room c.args.out.now _ _ _ (leb-false page_room _ (sym c.pages_fit.ensures ∙ c.if-not-pages_fit.true))))

pub returns-in_err-plan : goal.returns-in_err-plan
returns-in_err-plan c =
    let p = err_from_is_err_and c.from_residual.result c.from_residual.ensures.1 in
    let h = leb-true page_room _ (sym c.pages_fit.ensures ∙ c.if-not-pages_fit.false) in
    rw (p.1, p.2)
    (not_written c.args.out.now c.args.buffer.now c.args.starts.now c.args.lens.now h _ _ _ _ c.in_err-plan.field-0.0
    (read_within c.args.out.now c.args.buffer.now c.args.starts.now c.args.lens.now h _ _ (Err c.in_err-plan.field-0.0) c.in_err-plan.ensures))

pub returns-in_err-write : goal.returns-in_err-write
returns-in_err-write c =
    let p = err_from_is_err_and c.from_residual-in_err-write.result c.from_residual-in_err-write.ensures.1 in
    let h = leb-true page_room _ (sym c.pages_fit.ensures ∙ c.if-not-pages_fit.false) in
    rw (p.1, p.2)
    (plan_laid c.args.out.now c.args.buffer.now c.args.starts.now c.args.lens.now h _ _ _ _ c.in_ok-plan.plan
    (read_within c.args.out.now c.args.buffer.now c.args.starts.now c.args.lens.now h _ _ (Ok c.in_ok-plan.plan) c.in_ok-plan.ensures) (Err c.in_err-write.field-0.0) _ c.in_err-write.ensures)

pub returns : goal.returns
returns c =
    let h = leb-true page_room _ (sym c.pages_fit.ensures ∙ c.if-not-pages_fit.false) in
    plan_laid c.args.out.now c.args.buffer.now c.args.starts.now c.args.lens.now h _ _ _ _ c.in_ok-plan.plan
    (read_within c.args.out.now c.args.buffer.now c.args.starts.now c.args.lens.now h _ _ (Ok c.in_ok-plan.plan) c.in_ok-plan.ensures) (Ok c.in_ok-write.field-0) _ c.in_ok-write.ensures
