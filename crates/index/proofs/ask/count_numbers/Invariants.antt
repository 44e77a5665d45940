-- The rows from row i on are still to be counted.
use Rattle.std.proofs.Common.{◌≡◌, ◌+◌, ◌≤◌, length}
use Rattle.paper.specs.Index.{pairs_from}
use Rattle.index.specs.Pairs.{rows_in}
use Rattle.index.proofs.AskLaws.{numbers_from}
use Rattle.index.proofs.ask.count_numbers.Given as goal

abbrev pub invariant-loop-i : goal.invariant-loop-i
invariant-loop-i l = record {
  few : l.count ≤ l.i;
  right : length (pairs_from 1 (rows_in l.n l.rows)) ≡ l.count + numbers_from l.i l.n l.rows;
}
