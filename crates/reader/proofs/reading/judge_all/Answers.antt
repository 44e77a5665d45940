use Rattle.std.proofs.Common.{◌≡◌, ◌<◌, ◌∷◌, ◌∙◌, List, [], ℕ, suc, length, get_or, drop, drop-cons, arith, sym}
use Rattle.paper.specs.Calls.{pages_at}
use Rattle.paper.proofs.CallLaws.{pages_count}
use Rattle.paper.proofs.Judged.{size_place}
use Rattle.reader.proofs.ReadingLaws.{stops, goes_on, none_refused}
use Rattle.reader.proofs.reading.judge_all.Goals as goal

-- the page that is lent is the next one
turn : (ws : List (List ℕ)) (w : List ℕ) (i n : ℕ) → length ws ≡ n → i < n → w ≡ get_or ws i [] → drop i ws ≡ w ∷ drop (suc i) ws
turn ws w i n l h e = rw e (drop-cons ws i [] (omega arith))

pub of_page-requires : goal.of_page-requires
of_page-requires c = size_place c.page_at-page.result.now _ _ c.in-Err.ensures

pub returns-in-Err : goal.returns-in-Err
returns-in-Err c =
    let a = c.args in
    let n = pages_count a.buffer.now a.starts.now a.lens.now c.requires.1 in
    let t = turn (pages_at a.buffer.now a.starts.now a.lens.now) c.page_at-page.result.now c.loop-i.i _ n c.loop-i-test.true c.page_at-page.ensures in
    c.of_page.ensures ∙ sym (c.loop-i.invariant ∙ stops _ c.loop-i.i _ t _ _ c.in-Err.ensures)

pub loop-i-preserved : goal.loop-i-preserved
loop-i-preserved c =
    let a = c.args in
    let n = pages_count a.buffer.now a.starts.now a.lens.now c.requires.1 in
    let t = turn (pages_at a.buffer.now a.starts.now a.lens.now) c.page_at-page.result.now c.loop-i.i _ n c.loop-i-test.true c.page_at-page.ensures in
    c.loop-i.invariant ∙ goes_on _ c.loop-i.i _ t c.in_default.ensures

pub returns : goal.returns
returns c =
    let a = c.args in
    let n = pages_count a.buffer.now a.starts.now a.lens.now c.requires.1 in
    sym (c.loop-i.invariant ∙ none_refused _ c.loop-i.i (omega (arith, n)))
