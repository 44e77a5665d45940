-- What is printed for the row that the input asks for, or refusal 1 in its lines.
use Rattle.std.proofs.Common.{rules, arith}
use Rattle.paper.proofs.Rooms.{refusal_short}
use Rattle.tollgilt.proofs.InputLaws.{none_printed}
use Rattle.tollgilt.proofs.FindInput.{asked_none, asked_one}
use Rattle.tollgilt.proofs.CellInput.{behind_row, cell_no_room, cell_printed_lem}
use Rattle.tollgilt.proofs.input.cell_input.Goals as goal

pub returns-then-out-lt-CELL_LINES : goal.returns-then-out-lt-CELL_LINES
returns-then-out-lt-CELL_LINES c = none_printed c.args.out.now (cell_no_room c.args.out.now c.args.input.now c.if-out-lt-CELL_LINES.true)

pub list_refusal-requires : goal.list_refusal-requires
list_refusal-requires c = omega (arith, refusal_short 1 0 0, c.if-out-lt-CELL_LINES.false)

pub returns-in-None : goal.returns-in-None
returns-in-None c = cell_printed_lem c.args.out.now c.args.input.now _ c.if-out-lt-CELL_LINES.false (asked_none behind_row c.args.input.now c.in-None.ensures) _ _ c.list_refusal.ensures

pub slice_bounds-field_asked-count : goal.slice_bounds-field_asked-count
slice_bounds-field_asked-count c = c.in-Some.ensures.inside

pub slice_bounds-field_asked-start : goal.slice_bounds-field_asked-start
slice_bounds-field_asked-start c = c.in-Some.ensures.inside

pub returns-in-Some : goal.returns-in-Some
returns-in-Some c = cell_printed_lem c.args.out.now c.args.input.now _ c.if-out-lt-CELL_LINES.false (asked_one behind_row c.args.input.now _ _ c.in-Some.ensures) _ _ c.field_asked.ensures
