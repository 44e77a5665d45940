-- The pages that the input is split into are written afresh and laid anew, and a refusal is printed in its lines.
use Rattle.std.proofs.Common.{◌≡◌, ℕ, length, rules, arith}
use Rattle.std.proofs.Math.ListN.{replicate, length-take, length-replicate}
use Rattle.tollgilt.proofs.InputLaws.{none_printed}
use Rattle.tollgilt.proofs.FreshInput.{fresh_no_room, joinable, pages_printed, refused_fits, refused_printed}
use Rattle.tollgilt.proofs.input.fresh_input.Goals as goal

pub returns-then-out-lt-SEPARATED : goal.returns-then-out-lt-SEPARATED
returns-then-out-lt-SEPARATED c = none_printed c.args.out.now (fresh_no_room c.args.out.now c.args.input.now c.if-out-lt-SEPARATED.true)

pub slice_bounds-fresh_pages-end : goal.slice_bounds-fresh_pages-end
slice_bounds-fresh_pages-end c = simp length-take (omega (arith, c.split-parts.ensures.0))

pub slice_bounds-fresh_pages-end-2 : goal.slice_bounds-fresh_pages-end-2
slice_bounds-fresh_pages-end-2 c = simp length-take (omega (arith, c.split-parts.ensures.1))

pub join_pages-requires : goal.join_pages-requires
join_pages-requires c =
    let long : length c.fresh_pages.new.out ≡ 12600 = search rules in
    joinable c.args.out.now c.args.input.now _ _ _ _ c.if-out-lt-SEPARATED.false (length-replicate {A = ℕ} 12600 0) c.split-parts.ensures.2 c.in-Ok.fresh c.in-Ok.ensures long

pub returns-in-Ok : goal.returns-in-Ok
returns-in-Ok c =
    pages_printed c.args.out.now c.args.input.now _ _ _ _ c.if-out-lt-SEPARATED.false (length-replicate {A = ℕ} 12600 0) c.split-parts.ensures.2 c.in-Ok.fresh c.in-Ok.ensures _ _ c.join_pages.ensures

pub list_refusal-requires : goal.list_refusal-requires
list_refusal-requires c =
    refused_fits c.args.out.now c.args.input.now (replicate {A = ℕ} 12600 0) _ _ c.fresh_pages.new.out c.if-out-lt-SEPARATED.false (length-replicate {A = ℕ} 12600 0) c.split-parts.ensures.2 c.in-Err.e

pub returns-in-Err : goal.returns-in-Err
returns-in-Err c =
    refused_printed c.args.out.now c.args.input.now _ _ _ _ c.if-out-lt-SEPARATED.false (length-replicate {A = ℕ} 12600 0) c.split-parts.ensures.2 c.in-Err.e c.in-Err.ensures _ _ c.list_refusal.ensures
