use Rattle.std.proofs.Common.{◌≡◌, ◌≤◌, ◌∙◌, length, take, arith, sym}
use Rattle.reader.proofs.PageLaws.{place_hit, place_done, place_told}
use Rattle.reader.proofs.pages.page_of.Goals as goal

pub returns-then-nos-place : goal.returns-then-nos-place
returns-then-nos-place c = λ l e.
    let a = c.args in
    let L = c.loop-place in
    let room : a.n ≤ length a.nos = omega arith in
    (place_told a.k (take a.n a.nos) L.place (L.invariant ∙ place_hit a.nos a.n room a.k L.place c.loop-place-test.true c.if-nos-place.true) l e, c.loop-place-test.true)

pub returns : goal.returns
returns c = λ l e.
    let a = c.args in
    let L = c.loop-place in
    let room : a.n ≤ length a.nos = omega arith in
    let end : L.place ≡ a.n = omega arith in
    sym (place_told a.k (take a.n a.nos) a.n (L.invariant ∙ (place_done a.nos a.n room a.k L.place (omega arith) ∙ end)) l e)
