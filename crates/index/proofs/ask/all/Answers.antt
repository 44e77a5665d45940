-- A list that is too short is refused; into any other the rows of the pairs that were found are laid.
use Rattle.std.proofs.Common.{◌≡◌, ℕ, List, get_or, sym, ap, ◌∙◌}
use Rattle.std.specs.Prelude.{Ok, Some}
use Rattle.std.proofs.lemmas.Result.{err_from_is_err_and}
use Rattle.room.specs.Laid.{laid}
use Rattle.index.specs.Answers.{reply_told, list_after}
use Rattle.index.proofs.AskLaws.{first_stands, told_none, told_first, told_all, list_short, list_fits, list_refused}
use Rattle.index.proofs.ask.all.Goals as goal

pub returns-then-list-lt-ROWS : goal.returns-then-list-lt-ROWS
returns-then-list-lt-ROWS c =
    let e = list_short c.args.list.now c.args.rows.now c.args.count c.args.index.now c.args.length c.args.number c.if-list-lt-ROWS.true in
    (sym (ap reply_told e), sym (ap (λ x. list_after x c.args.list.now) e))

pub returns-in_err-found : goal.returns-in_err-found
returns-in_err-found c =
    let p = err_from_is_err_and c.from_residual.result c.from_residual.ensures.1 in
    rw (p.1, p.2)
    (list_refused c.args.list.now c.args.rows.now c.args.count c.args.index.now c.args.length c.args.number c.in_err-found.field-0.0 c.if-list-lt-ROWS.false c.in_err-found.ensures)

pub returns-then-found-eq0 : goal.returns-then-found-eq0
returns-then-found-eq0 c =
    let (is, (f, S)) = c.in_ok-found.ensures in
    let e = list_fits c.args.list.now c.args.rows.now c.args.count c.args.index.now c.args.length c.args.number c.if-list-lt-ROWS.false ∙ f ∙ told_none is (S.many ∙ c.if-found-eq0.true) in
    (sym (ap reply_told e), sym (ap (λ x. list_after x c.args.list.now) e))

pub returns : goal.returns
returns c =
    let g = c.in_ok-found.found in
    let (is, (f, S)) = c.in_ok-found.ensures in
    let e = list_fits c.args.list.now c.args.rows.now c.args.count c.args.index.now c.args.length c.args.number c.if-list-lt-ROWS.false ∙ f in
    let x = first_stands c.args.index.now is g.at g.count S c.if-found-eq0.false in (
      sym (ap reply_told e ∙ told_first is g.count S.many c.if-found-eq0.false ∙ ap (λ (i : ℕ). Ok (Some (record { first = i; count = g.count }))) (sym x)),
      c.lay_rows.ensures ∙ ap (λ (l : List ℕ). laid c.args.list.now 0 l) S.rows_are ∙ sym (ap (λ y. list_after y c.args.list.now) e ∙ told_all is c.args.list.now (λ z. c.if-found-eq0.false (sym S.many ∙ z))),
    )
