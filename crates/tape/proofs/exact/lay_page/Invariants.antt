-- The loop of `tape::exact::lay_page`: the elements before a place lie on the tape, those of the tags from it on are still to come.
use Rattle.std.proofs.Common.{◌≡◌, ◌-◌, length}
use Rattle.tape.proofs.PageLaws.{On}
use Rattle.tape.proofs.exact.lay_page.Given as goal

abbrev pub invariant-loop-made : goal.invariant-loop-made
invariant-loop-made l = record {
  on : On l.page l.fn.tape l.tape l.first l.made.end l.fn.side l.side l.used l.made.used l.at;
  lent : length l.raws ≡ 104;
}

abbrev pub decreases-loop-made : goal.decreases-loop-made
decreases-loop-made l = length l.page - l.at
