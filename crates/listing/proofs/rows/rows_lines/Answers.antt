-- `listing::rows::rows_lines`: the next row is printed, and at the end none is left.
-- Assumes nothing.
use Rattle.std.proofs.Common.{◌+◌, arith}
use Rattle.paper.specs.Listing.{print, row_lines}
use Rattle.plan.specs.Numbers.{record_at, show_row}
use Rattle.room.proofs.Pieces.{fits, going_start, going_fits, going_on, going_done}
use Rattle.listing.proofs.Rowed.{row_inside, rows_left, next_row, no_row}
use Rattle.listing.proofs.rows.rows_lines.Goals as goal

pub loop-i-init : goal.loop-i-init
loop-i-init c = going_start (fits c.requires.2)

pub row_lines-a-requires : goal.row_lines-a-requires
row_lines-a-requires c =
    let t = c.args.text.now in
    let rows = c.args.rows.now in
    let i = c.loop-i.i in
    let here = print (row_lines (show_row t (record_at rows i))) in
    (omega (arith, c.requires.0, c.loop-i-test.true), row_inside t c.args.n rows i c.loop-i-test.true c.requires.1, going_fits c.loop-i.invariant here (rows_left t c.args.n rows (i + 1)) (next_row t c.args.n rows i c.loop-i-test.true))

pub loop-i-preserved : goal.loop-i-preserved
loop-i-preserved c =
    let t = c.args.text.now in
    let rows = c.args.rows.now in
    let i = c.loop-i.i in
    let here = print (row_lines (show_row t (record_at rows i))) in
    going_on c.loop-i.invariant here (rows_left t c.args.n rows (i + 1)) (next_row t c.args.n rows i c.loop-i-test.true) c.row_lines-a.ensures

pub returns : goal.returns
returns c = going_done (fits c.requires.2) c.loop-i.invariant (no_row c.args.text.now c.args.n c.args.rows.now c.loop-i.i c.loop-i-test.false)
