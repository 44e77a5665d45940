-- The cell is that of the pages that the input is split into, and a refusal is printed in its lines.
use Rattle.std.proofs.Common.{ℕ, length, ap, rules, arith}
use Rattle.std.proofs.Math.ListN.{length-take, length-replicate}
use Rattle.tollgilt.proofs.FindInput.{bytes_as}
use Rattle.tollgilt.proofs.CellInput.{printed_short, cell_listed, refusal_shown}
use Rattle.tollgilt.proofs.input.printed_cell.Goals as goal

pub slice_bounds-cell_pages-end : goal.slice_bounds-cell_pages-end
slice_bounds-cell_pages-end c = simp length-take (omega (arith, c.split-parts.ensures.0))

pub slice_bounds-cell_pages-end-2 : goal.slice_bounds-cell_pages-end-2
slice_bounds-cell_pages-end-2 c = simp length-take (omega (arith, c.split-parts.ensures.1))

pub cell_lines-requires : goal.cell_lines-requires
cell_lines-requires c =
    let a = c.args in
    let (x, y, z) = cell_listed a.row a.field a.which a.catalogue.now a.input.now _ _ _ _ (length-replicate {A = ℕ} 80 0) c.requires.0 c.split-parts.ensures.2 c.in-Ok.c c.in-Ok.ensures in
    (x, y, omega (arith, ap length z, c.requires.1, printed_short a.row a.field a.which a.catalogue.now a.input.now c.requires.0))

pub returns-in-Ok : goal.returns-in-Ok
returns-in-Ok c =
    let a = c.args in
    bytes_as (cell_listed a.row a.field a.which a.catalogue.now a.input.now _ _ _ _ (length-replicate {A = ℕ} 80 0) c.requires.0 c.split-parts.ensures.2 c.in-Ok.c c.in-Ok.ensures).2 a.out.now _ _ c.cell_lines.ensures

pub list_refusal-requires : goal.list_refusal-requires
list_refusal-requires c =
    let a = c.args in
    omega (
      arith,
      ap length (refusal_shown a.row a.field a.which a.catalogue.now a.input.now _ _ _ _ (length-replicate {A = ℕ} 80 0) c.requires.0 c.split-parts.ensures.2 c.in-Err.e c.in-Err.ensures),
      c.requires.1,
      printed_short a.row a.field a.which a.catalogue.now a.input.now c.requires.0,
    )

pub returns-in-Err : goal.returns-in-Err
returns-in-Err c =
    let a = c.args in
    bytes_as (refusal_shown a.row a.field a.which a.catalogue.now a.input.now _ _ _ _ (length-replicate {A = ℕ} 80 0) c.requires.0 c.split-parts.ensures.2 c.in-Err.e c.in-Err.ensures) a.out.now _ _ c.list_refusal.ensures
