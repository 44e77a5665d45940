-- Reading answers the call, and where it gives a plan, the index of its rows is asked.
use Rattle.std.proofs.Common.{refl, sym, ◌∙◌, rules, arith}
use Rattle.std.proofs.lemmas.Result.{err_from_is_err_and}
use Rattle.tollgilt.proofs.FindLaws.{no_room, refuses, nothing_found, found}
use Rattle.tollgilt.proofs.find.find_pages.Goals as goal

pub returns-then-list-lt-ROWS : goal.returns-then-list-lt-ROWS
returns-then-list-lt-ROWS c =
    rw c.one.ensures (refuses _ c.args.number c.args.list.now 1 0 0 (no_room c.args.list.now _ _ _ c.if-list-lt-ROWS.true))

pub returns-in_err-indexed : goal.returns-in_err-indexed
returns-in_err-indexed c =
    let p = err_from_is_err_and c.from_residual.result c.from_residual.ensures.1 in
    rw (p.1, p.2)
    (nothing_found c.args.list.now c.args.buffer.now c.args.starts.now c.args.lens.now c.args.number c.if-list-lt-ROWS.false _ _ _ c.in_err-indexed.field-0.0 c.in_err-indexed.ensures)

pub returns : goal.returns
returns c =
    found c.args.list.now c.args.buffer.now c.args.starts.now c.args.lens.now c.args.number c.if-list-lt-ROWS.false _ _ _ c.in_ok-indexed.indexed c.in_ok-indexed.ensures
    c.all-reply.result _ c.held.result c.all-reply.ensures c.held.ensures
