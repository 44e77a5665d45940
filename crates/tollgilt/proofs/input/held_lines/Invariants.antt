-- `tollgilt::input::held_lines`: what is to be printed is what is printed and the lines of the rows that are left.
-- Assumes nothing.
use Rattle.std.proofs.Common.{take, drop}
use Rattle.paper.specs.Listing.{print}
use Rattle.room.proofs.Pieces.{Going}
use Rattle.tollgilt.specs.Printed.{row_lines}
use Rattle.tollgilt.proofs.input.held_lines.Given as goal

abbrev pub invariant-loop-row : goal.invariant-loop-row
invariant-loop-row l = Going l.initial.out l.out l.initial.a l.a (print (row_lines (take l.count l.list))) (print (row_lines (drop l.row-index (take l.count l.list))))
