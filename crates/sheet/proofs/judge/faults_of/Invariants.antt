-- The loop of `sheet::judge::faults_of`: the least fault of the page's tags is that of the tags still to come, from the state on.
use Rattle.std.proofs.Common.{◌≡◌, ◌-◌, ◌≤◌, length}
use Rattle.markup.specs.Walk.{tags_at}
use Rattle.sheet.specs.Fold.{fold_page, judge_fold}
use Rattle.sheet.specs.Judged.{st_of, Sound}
use Rattle.sheet.proofs.judge.faults_of.Given as goal

abbrev pub invariant-loop-refusal : goal.invariant-loop-refusal
invariant-loop-refusal l = record {
  inner : l.at ≤ length l.page;
  lent : length l.raws ≡ 104;
  sound : Sound l.st;
  right : fold_page (tags_at l.page 0) ≡ judge_fold (st_of l.st) (tags_at l.page l.at);
}

abbrev pub decreases-loop-refusal : goal.decreases-loop-refusal
decreases-loop-refusal l = length l.page - l.at
