-- What stands before the first zero byte is the catalogue's text, or refusal 1 is printed in its lines.
use Rattle.std.proofs.Common.{sym, rules, arith}
use Rattle.std.proofs.Math.ListN.{length-take}
use Rattle.std.proofs.Math.Seq.{length-take-le}
use Rattle.paper.proofs.Rooms.{refusal_short}
use Rattle.tollgilt.proofs.FindInput.{bytes_as}
use Rattle.tollgilt.proofs.CellInput.{no_end, too_long, a_catalogue}
use Rattle.tollgilt.proofs.input.cell_behind.Goals as goal
use Rattle.std.proofs.Common.{◌≡◌}
use Rattle.paper.specs.Listing.{refusal_lines}
use Rattle.tollgilt.specs.Printed.{cell_behind}
use Rattle.tollgilt.proofs.input.cell_behind.Goals.{then-end-input-via-then-end-input, then-end-input-via-else-end-input+then-end-gt-CATALOGUE}

pub list_refusal-requires : goal.list_refusal-requires
list_refusal-requires c = omega (arith, refusal_short 1 0 0, c.requires)

pub returns-then-end-input : goal.returns-then-end-input
returns-then-end-input c =
    let a = c.args in
    let n = c.next_page-end in
    let e : refusal_lines 1 0 0 ≡ cell_behind a.row a.field a.which a.input.now
    = elim c.then-end-input.branch [
      | then-end-input-via-then-end-input w ↦ no_end a.row a.field a.which a.input.now n.result n.ensures.0 n.ensures.1 w.if-end-input.true
      | then-end-input-via-else-end-input+then-end-gt-CATALOGUE w ↦ too_long a.row a.field a.which a.input.now n.result n.ensures.0 n.ensures.1 w.if-end-input.false w.if-end-gt-CATALOGUE.true
    ] in
    bytes_as e a.out.now _ _ c.list_refusal.ensures

pub printed_cell-requires : goal.printed_cell-requires
printed_cell-requires c = (omega (arith, length-take c.next_page-end.result c.args.input.now, c.if-end-gt-CATALOGUE.false), c.requires)

pub returns : goal.returns
returns c =
    let a = c.args in
    let n = c.next_page-end in
    bytes_as (a_catalogue a.row a.field a.which a.input.now n.result n.ensures.0 n.ensures.1 c.if-end-input.false c.if-end-gt-CATALOGUE.false) a.out.now _ _ c.printed_cell.ensures
