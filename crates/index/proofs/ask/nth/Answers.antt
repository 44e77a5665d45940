-- The k-th of the pairs that were found has the k-th row.
use Rattle.std.proofs.Common.{◌≡◌, ℕ, ◌+◌, ◌-◌, ◌*◌, get_or, sym, ap, ◌∙◌, arith}
use Rattle.std.specs.Prelude.{Ok}
use Rattle.index.specs.Answers.{nth_told}
use Rattle.index.specs.declared.answer.Nth.TheVariants.{Row}
use Rattle.index.proofs.AskLaws.{row_stands, told_nth, kth_row}
use Rattle.index.proofs.ask.nth.Goals as goal

pub returns : goal.returns
returns c =
    let g = c.in_ok-found.found in
    let (is, (e, S)) = c.in_ok-found.ensures in
    let x : g.at + c.args.k - 1 ≡ g.at + (c.args.k - 1) = omega arith in
    let y = ap (λ (j : ℕ). get_or c.args.index.now (2 * j + 1) 0) x ∙ row_stands c.args.index.now is g.at g.count (c.args.k - 1) S (omega arith) in
    let z = told_nth is c.args.k (λ n. c.if-found-eq0.false (sym S.many ∙ n)) ∙ ap Ok (kth_row is c.args.k c.if-k-lt1.false (omega (arith, S.many))) in
    sym (ap (nth_told c.args.k) e ∙ z ∙ ap (λ (i : ℕ). Ok (Row i)) (sym y))
