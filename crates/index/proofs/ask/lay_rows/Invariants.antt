-- The first k rows are laid, and behind them the list is as it was.
use Rattle.std.proofs.Common.{◌≡◌, ◌*◌, ◌++◌, take, drop}
use Rattle.index.specs.Pairs.{pairs_in, rows_of}
use Rattle.index.proofs.ask.lay_rows.Given as goal

abbrev pub invariant-loop-k : goal.invariant-loop-k
invariant-loop-k l = l.list ≡ take l.k (rows_of (pairs_in l.count (drop (2 * l.at) l.index))) ++ drop l.k l.fn.list
