-- Up to place p nothing is decided.
use Rattle.std.proofs.Common.{◌≡◌, drop}
use Rattle.paper.specs.Cells.{shown_of}
use Rattle.cell.proofs.Cuts.{last_of}
use Rattle.cell.proofs.shown_of.Given as goal

abbrev pub invariant-loop-p : goal.invariant-loop-p
invariant-loop-p l = shown_of l.limit (drop l.at l.buffer) ≡ last_of l.limit (drop l.at l.buffer) l.p
