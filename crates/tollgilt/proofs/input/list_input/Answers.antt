-- The pages that the input is split into are listed, and a refusal is printed in its lines.
use Rattle.std.proofs.Common.{sym, ◌∙◌, rules, arith}
use Rattle.std.proofs.Math.ListN.{length-take}
use Rattle.tollgilt.proofs.InputLaws.{none_printed, list_no_room, plan_printed, refusal_fits, refusal_printed}
use Rattle.tollgilt.proofs.input.list_input.Goals as goal

pub returns-then-not-listing_fits : goal.returns-then-not-listing_fits
returns-then-not-listing_fits c = none_printed c.args.out.now (list_no_room c.args.out.now c.args.input.now (sym c.listing_fits.ensures ∙ c.if-not-listing_fits.true))

pub slice_bounds-list_pages-end : goal.slice_bounds-list_pages-end
slice_bounds-list_pages-end c = simp length-take (omega (arith, c.split-parts.ensures.0))

pub slice_bounds-list_pages-end-2 : goal.slice_bounds-list_pages-end-2
slice_bounds-list_pages-end-2 c = simp length-take (omega (arith, c.split-parts.ensures.1))

pub returns-in-Ok : goal.returns-in-Ok
returns-in-Ok c = plan_printed c.args.out.now c.args.input.now _ _ _ (sym c.listing_fits.ensures ∙ c.if-not-listing_fits.false) c.split-parts.ensures.2 c.in-Ok.length c.in-Ok.ensures

pub list_refusal-requires : goal.list_refusal-requires
list_refusal-requires c = refusal_fits c.args.out.now c.args.input.now _ _ _ (sym c.listing_fits.ensures ∙ c.if-not-listing_fits.false) c.split-parts.ensures.2 c.in-Err.e c.in-Err.ensures

pub returns-in-Err : goal.returns-in-Err
returns-in-Err c =
    refusal_printed c.args.out.now c.args.input.now _ _ _ (sym c.listing_fits.ensures ∙ c.if-not-listing_fits.false) c.split-parts.ensures.2 c.in-Err.e c.in-Err.ensures _ _ c.list_refusal.ensures
