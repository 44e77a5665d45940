-- The number is found in the pages that the input is split into, and a refusal is printed in its lines.
use Rattle.std.proofs.Common.{ℕ, length, ap, rules, arith}
use Rattle.std.proofs.Math.ListN.{length-take, length-replicate}
use Rattle.tollgilt.proofs.FindInput.{rows_listed, refusal_listed, bytes_as, found_in_short}
use Rattle.tollgilt.proofs.input.found_in.Goals as goal

pub slice_bounds-find_pages-end : goal.slice_bounds-find_pages-end
slice_bounds-find_pages-end c = simp length-take (omega (arith, c.split-parts.ensures.0))

pub slice_bounds-find_pages-end-2 : goal.slice_bounds-find_pages-end-2
slice_bounds-find_pages-end-2 c = simp length-take (omega (arith, c.split-parts.ensures.1))

pub held_lines-requires : goal.held_lines-requires
held_lines-requires c =
    let L = rows_listed c.args.number c.args.input.now _ _ _ c.find_pages.new.list (length-replicate {A = ℕ} 256 0) c.split-parts.ensures.2 c.in-Ok.count c.in-Ok.ensures in
    (L.0, omega (arith, c.requires, ap length L.1, found_in_short c.args.number c.args.input.now))

pub returns-in-Ok : goal.returns-in-Ok
returns-in-Ok c =
    bytes_as (rows_listed c.args.number c.args.input.now _ _ _ c.find_pages.new.list (length-replicate {A = ℕ} 256 0) c.split-parts.ensures.2 c.in-Ok.count c.in-Ok.ensures).1 c.args.out.now _ _ c.held_lines.ensures

pub list_refusal-requires : goal.list_refusal-requires
list_refusal-requires c =
    omega (
      arith,
      c.requires,
      ap length (refusal_listed c.args.number c.args.input.now _ _ _ c.find_pages.new.list (length-replicate {A = ℕ} 256 0) c.split-parts.ensures.2 c.in-Err.e c.in-Err.ensures),
      found_in_short c.args.number c.args.input.now,
    )

pub returns-in-Err : goal.returns-in-Err
returns-in-Err c =
    bytes_as (refusal_listed c.args.number c.args.input.now _ _ _ c.find_pages.new.list (length-replicate {A = ℕ} 256 0) c.split-parts.ensures.2 c.in-Err.e c.in-Err.ensures) c.args.out.now _ _ c.list_refusal.ensures
