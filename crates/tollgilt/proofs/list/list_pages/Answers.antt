-- Reading answers the call, and where it gives a plan, the numbers that it laid out are listed.
use Rattle.std.proofs.Common.{◌≤◌, length, refl, sym, ◌∙◌, rules, arith}
use borrow.Author.Tests.{leb-true, leb-false}
use Rattle.std.proofs.lemmas.Result.{err_from_is_err_and}
use Rattle.paper.specs.Calls.{listing_room}
use Rattle.tollgilt.proofs.ListLaws.{no_room, refuses, nothing_listed, listable, listed_short, listed}
use Rattle.tollgilt.proofs.list.list_pages.Goals as goal

pub returns-then-not-listing_fits : goal.returns-then-not-listing_fits
returns-then-not-listing_fits c =
    rw c.one.ensures (refuses _ c.args.out.now 1 0 0 (no_room c.args.out.now _ _ _ (leb-false listing_room _ (sym c.listing_fits.ensures ∙ c.if-not-listing_fits.true))))

pub returns-in_err-plan : goal.returns-in_err-plan
returns-in_err-plan c =
    let p = err_from_is_err_and c.from_residual.result c.from_residual.ensures.1 in
    rw (p.1, p.2)
    (nothing_listed c.args.out.now c.args.buffer.now c.args.starts.now c.args.lens.now (leb-true listing_room _ (sym c.listing_fits.ensures ∙ c.if-not-listing_fits.false)) _ _ c.in_err-plan.field-0.0 c.in_err-plan.ensures)

pub list_plan-requires : goal.list_plan-requires
list_plan-requires c =
    (listable c.args.out.now c.args.buffer.now c.args.starts.now c.args.lens.now (leb-true listing_room _ (sym c.listing_fits.ensures ∙ c.if-not-listing_fits.false)) _ _ c.in_ok-plan.plan c.in_ok-plan.ensures).asked

pub overflow_cast-result : goal.overflow_cast-result
overflow_cast-result c =
    let L = listable c.args.out.now c.args.buffer.now c.args.starts.now c.args.lens.now (leb-true listing_room _ (sym c.listing_fits.ensures ∙ c.if-not-listing_fits.false)) _ _ c.in_ok-plan.plan c.in_ok-plan.ensures in
    omega (arith, c.list_plan.ensures.0, listed_short L)

pub returns : goal.returns
returns c =
    listed (listable c.args.out.now c.args.buffer.now c.args.starts.now c.args.lens.now (leb-true listing_room _ (sym c.listing_fits.ensures ∙ c.if-not-listing_fits.false)) _ _ c.in_ok-plan.plan c.in_ok-plan.ensures)
    c.list_plan.result _ c.list_plan.ensures
