-- The loop of `listing::rows::rows_lines`: what is to be printed is what is printed and the lines of the rows that are left.
-- Assumes nothing.
use Rattle.room.proofs.Pieces.{Going}
use Rattle.listing.proofs.Rowed.{rows_left}
use Rattle.listing.proofs.rows.rows_lines.Given as goal

abbrev pub invariant-loop-i : goal.invariant-loop-i
invariant-loop-i l = Going l.fn.out l.out l.at l.a (rows_left l.text l.n l.rows 0) (rows_left l.text l.n l.rows l.i)
