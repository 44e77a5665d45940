-- The pairs before pair i are right, so those from it on decide.
use Rattle.std.proofs.Common.{◌≡◌, ◌-◌}
use Rattle.paper.specs.Index.{index_of, same_pairs}
use Rattle.index.specs.Pairs.{pairs_in, rows_in}
use Rattle.index.proofs.AskLaws.{right_from}
use Rattle.index.proofs.ask.is_index.Given as goal

abbrev pub invariant-loop-i : goal.invariant-loop-i
invariant-loop-i l = same_pairs (pairs_in l.len l.index) (index_of (rows_in l.n l.rows)) ≡ right_from (rows_in l.n l.rows) l.index (l.len - l.i) l.i
