-- What is printed for the number that the input asks for, or refusal 1 in its lines.
use Rattle.std.proofs.Common.{rules, arith}
use Rattle.paper.proofs.Rooms.{refusal_short}
use Rattle.tollgilt.specs.Printed.{cell_behind}
use Rattle.tollgilt.proofs.FindInput.{asked_none, asked_one, bytes_as}
use Rattle.tollgilt.proofs.input.third_asked.Goals as goal

pub list_refusal-requires : goal.list_refusal-requires
list_refusal-requires c = omega (arith, refusal_short 1 0 0, c.requires)

pub returns-in-None : goal.returns-in-None
returns-in-None c = bytes_as (asked_none (cell_behind c.args.row c.args.field) c.args.input.now c.in-None.ensures) c.args.out.now _ _ c.list_refusal.ensures

pub slice_bounds-cell_behind-count : goal.slice_bounds-cell_behind-count
slice_bounds-cell_behind-count c = c.in-Some.ensures.inside

pub slice_bounds-cell_behind-start : goal.slice_bounds-cell_behind-start
slice_bounds-cell_behind-start c = c.in-Some.ensures.inside

pub returns-in-Some : goal.returns-in-Some
returns-in-Some c = bytes_as (asked_one (cell_behind c.args.row c.args.field) c.args.input.now _ _ c.in-Some.ensures) c.args.out.now _ _ c.cell_behind.ensures
