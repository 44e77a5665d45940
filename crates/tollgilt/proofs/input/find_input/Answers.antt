-- The number that the input asks for is found, or refusal 1 is printed in its lines.
use Rattle.std.proofs.Common.{rules, arith}
use Rattle.paper.proofs.Rooms.{refusal_short}
use Rattle.tollgilt.proofs.InputLaws.{none_printed}
use Rattle.tollgilt.proofs.FindInput.{find_no_room, no_number_printed, found_printed}
use Rattle.tollgilt.proofs.input.find_input.Goals as goal

pub returns-then-out-lt-FOUND : goal.returns-then-out-lt-FOUND
returns-then-out-lt-FOUND c = none_printed c.args.out.now (find_no_room c.args.out.now c.args.input.now c.if-out-lt-FOUND.true)

pub list_refusal-requires : goal.list_refusal-requires
list_refusal-requires c = omega (arith, refusal_short 1 0 0, c.if-out-lt-FOUND.false)

pub returns-in-None : goal.returns-in-None
returns-in-None c = no_number_printed c.args.out.now c.args.input.now c.if-out-lt-FOUND.false c.in-None.ensures _ _ c.list_refusal.ensures

pub slice_bounds-found_in-count : goal.slice_bounds-found_in-count
slice_bounds-found_in-count c = c.in-Some.ensures.inside

pub slice_bounds-found_in-start : goal.slice_bounds-found_in-start
slice_bounds-found_in-start c = c.in-Some.ensures.inside

pub returns-in-Some : goal.returns-in-Some
returns-in-Some c = found_printed c.args.out.now c.args.input.now c.if-out-lt-FOUND.false _ _ c.in-Some.ensures _ _ c.found_in.ensures
