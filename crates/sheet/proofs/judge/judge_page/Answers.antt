-- Refusals 2, 3 and 4 one after another, and then the tags.
use Rattle.std.proofs.Common.{sym, arith}
use Rattle.markup.proofs.ExtentLaws.{good_within}
use Rattle.sheet.proofs.JudgeLaws.{page_empty, page_long, page_bytes_lem, page_malformed, page_whole}
use Rattle.sheet.proofs.judge.judge_page.Goals as goal
use Rattle.sheet.proofs.judge.judge_page.Goals.{then-n-eq0-via-then-n-eq0, then-n-eq0-via-else-n-eq0+then-n-gt-PAGE}

pub returns-then-n-eq0 : goal.returns-then-n-eq0
returns-then-n-eq0 c =
    elim c.then-n-eq0.branch [ then-n-eq0-via-then-n-eq0 w ↦ page_empty _ w.if-n-eq0.true | then-n-eq0-via-else-n-eq0+then-n-gt-PAGE w ↦ page_long _ w.if-n-eq0.false w.if-n-gt-PAGE.true ]

pub returns-then-i-n : goal.returns-then-i-n
returns-then-i-n c = page_bytes_lem _ c.if-n-eq0.false c.if-n-gt-PAGE.false _ c.first_refused-i.ensures c.if-i-n.true

pub overflow_cast-result-in-Err : goal.overflow_cast-result-in-Err
overflow_cast-result-in-Err c = let h = good_within _ _ (sym c.in-Err.ensures) in omega (arith, h, c.if-n-gt-PAGE.false)

pub returns-in-Err : goal.returns-in-Err
returns-in-Err c = page_malformed _ c.if-n-eq0.false c.if-n-gt-PAGE.false _ c.first_refused-i.ensures c.if-i-n.false _ c.in-Err.ensures

pub returns : goal.returns
returns c = page_whole _ c.if-n-eq0.false c.if-n-gt-PAGE.false _ c.first_refused-i.ensures c.if-i-n.false c.in_default.ensures _ c.faults_of.ensures
