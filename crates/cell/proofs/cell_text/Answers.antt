-- The part that the answer tells lies in its buffer; with neither it is the empty beginning of the plan's text.
use Rattle.std.proofs.Common.{rules, arith, ◌+◌, ◌≤◌, length}
use Rattle.cell.specs.declared.answer.Source.TheVariants.{Plan, Catalogue}
use Rattle.cell.proofs.Shows.{part_lies, empty_is}
use Rattle.cell.proofs.cell_text.Goals as goal

pub overflow_add-result : goal.overflow_add-result
overflow_add-result c =
    let h : c.in-Ok.s.at + c.in-Ok.s.len ≤ length c.args.text.now =
    part_lies c.args.rows.now c.args.count c.args.text c.args.catalogue c.args.row c.args.field c.args.which c.in-Ok.s c.in-Ok.ensures Plan c.in-Plan.is in
    search rules

pub slice_bounds-result-end : goal.slice_bounds-result-end
slice_bounds-result-end c = part_lies c.args.rows.now c.args.count c.args.text c.args.catalogue c.args.row c.args.field c.args.which c.in-Ok.s c.in-Ok.ensures Plan c.in-Plan.is

pub overflow_add-result-in-Catalogue : goal.overflow_add-result-in-Catalogue
overflow_add-result-in-Catalogue c =
    let h : c.in-Ok.s.at + c.in-Ok.s.len ≤ length c.args.catalogue.now =
    part_lies c.args.rows.now c.args.count c.args.text c.args.catalogue c.args.row c.args.field c.args.which c.in-Ok.s c.in-Ok.ensures Catalogue c.in-Catalogue.is in
    search rules

pub slice_bounds-result-end-in-Catalogue : goal.slice_bounds-result-end-in-Catalogue
slice_bounds-result-end-in-Catalogue c =
    part_lies c.args.rows.now c.args.count c.args.text c.args.catalogue c.args.row c.args.field c.args.which c.in-Ok.s c.in-Ok.ensures Catalogue c.in-Catalogue.is

pub returns-in-Neither : goal.returns-in-Neither
returns-in-Neither c = empty_is c.args.rows.now c.args.count c.args.text c.args.catalogue c.args.row c.args.field c.args.which c.in-Ok.s c.in-Ok.ensures c.in-Neither.is
