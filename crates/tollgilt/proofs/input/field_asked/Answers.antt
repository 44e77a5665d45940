-- What is printed for the number that the input asks for, or refusal 1 in its lines.
use Rattle.std.proofs.Common.{ℕ, rules, arith}
use Rattle.paper.proofs.Rooms.{refusal_short}
use Rattle.tollgilt.specs.Printed.{asked, cell_behind}
use Rattle.tollgilt.proofs.FindInput.{asked_none, asked_one, bytes_as}
use Rattle.tollgilt.proofs.input.field_asked.Goals as goal

pub list_refusal-requires : goal.list_refusal-requires
list_refusal-requires c = omega (arith, refusal_short 1 0 0, c.requires)

pub returns-in-None : goal.returns-in-None
returns-in-None c = bytes_as (asked_none (λ n. asked (cell_behind c.args.row n)) c.args.input.now c.in-None.ensures) c.args.out.now _ _ c.list_refusal.ensures

pub slice_bounds-third_asked-count : goal.slice_bounds-third_asked-count
slice_bounds-third_asked-count c = c.in-Some.ensures.inside

pub slice_bounds-third_asked-start : goal.slice_bounds-third_asked-start
slice_bounds-third_asked-start c = c.in-Some.ensures.inside

pub returns-in-Some : goal.returns-in-Some
returns-in-Some c = bytes_as (asked_one (λ n. asked (cell_behind c.args.row n)) c.args.input.now _ _ c.in-Some.ensures) c.args.out.now _ _ c.third_asked.ensures
