-- Reading answers the call, and where it gives a plan, the cell of the numbers that it laid out is laid.
use Rattle.std.proofs.Common.{refl, sym, ◌∙◌, rules, arith}
use Rattle.std.proofs.lemmas.Result.{err_from_is_err_and}
use Rattle.tollgilt.proofs.CellLaws.{no_room, refuses, nothing_shown, readable, cell_short, cell_laid}
use Rattle.tollgilt.proofs.cells.cell_pages.Goals as goal

pub returns-then-out-lt-SUBSTANCE : goal.returns-then-out-lt-SUBSTANCE
returns-then-out-lt-SUBSTANCE c =
    rw c.one.ensures
    (refuses _ c.args.out.now 1 0 0 (no_room c.args.out.now c.args.buffer.now c.args.starts.now c.args.lens.now c.args.catalogue.now c.args.row c.args.field c.args.which c.if-out-lt-SUBSTANCE.true))

pub returns-in_err-plan : goal.returns-in_err-plan
returns-in_err-plan c =
    let p = err_from_is_err_and c.from_residual.result c.from_residual.ensures.1 in
    rw (p.1, p.2)
    (nothing_shown c.args.out.now c.args.buffer.now c.args.starts.now c.args.lens.now c.if-out-lt-SUBSTANCE.false _ _ c.args.catalogue.now c.args.row c.args.field c.args.which c.in_err-plan.field-0.0 c.in_err-plan.ensures)

pub lay_cell-requires : goal.lay_cell-requires
lay_cell-requires c =
    cell_short (readable c.args.out.now c.args.buffer.now c.args.starts.now c.args.lens.now c.if-out-lt-SUBSTANCE.false _ _ c.in_ok-plan.plan c.in_ok-plan.ensures)
    c.args.catalogue.now c.args.row c.args.field c.args.which c.args.out.now c.if-out-lt-SUBSTANCE.false

pub returns : goal.returns
returns c =
    cell_laid (readable c.args.out.now c.args.buffer.now c.args.starts.now c.args.lens.now c.if-out-lt-SUBSTANCE.false _ _ c.in_ok-plan.plan c.in_ok-plan.ensures)
    c.args.catalogue.now c.args.row c.args.field c.args.which c.args.out.now c.lay_cell.result _ c.lay_cell.ensures
