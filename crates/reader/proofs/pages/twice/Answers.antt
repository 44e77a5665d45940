use Rattle.std.proofs.Common.{◌≤◌, ◌+◌, ◌∙◌, length, take, get_or, arith, sym}
use Rattle.reader.proofs.PageLaws.{first_n, is_there, passed_new, passed_old, passed_all, again_told}
use Rattle.reader.proofs.pages.twice.Goals as goal

pub returns-then-is_some : goal.returns-then-is_some
returns-then-is_some c = λ l e.
    let a = c.args in
    let i = c.loop-i.i in
    let room : a.n ≤ length a.nos = omega arith in
    let here = is_there (get_or a.nos i 0) i (take i a.nos) c.page_of.result (first_n a.nos i (omega arith)) c.page_of.ensures in
    (again_told (take a.n a.nos) (i + 1) (passed_old a.nos a.n i room c.loop-i.invariant c.loop-i-test.true (here ∙ (sym c.is_some.ensures ∙ c.if-is_some.true))) l e, omega arith)

pub loop-i-preserved : goal.loop-i-preserved
loop-i-preserved c =
    let a = c.args in
    let i = c.loop-i.i in
    let room : a.n ≤ length a.nos = omega arith in
    let here = is_there (get_or a.nos i 0) i (take i a.nos) c.page_of.result (first_n a.nos i (omega arith)) c.page_of.ensures in
    passed_new a.nos a.n i room c.loop-i.invariant c.loop-i-test.true (here ∙ (sym c.is_some.ensures ∙ c.if-is_some.false))

pub returns : goal.returns
returns c = λ l e.
    let a = c.args in
    let room : a.n ≤ length a.nos = omega arith in
    sym (again_told (take a.n a.nos) 0 (passed_all (take a.n a.nos) c.loop-i.i c.loop-i.invariant (omega (arith, first_n a.nos a.n room))) l e)
