-- In the index of rows the pairs of a number stand between the places that two searches find.
use Rattle.std.proofs.Common.{sym, ◌∙◌, arith}
use Rattle.index.proofs.AskLaws.{bad_rows, bad_pairs, other_index, searched, in_turn_there, found_there}
use Rattle.index.proofs.ask.find.Goals as goal

pub returns-then-not-rows_lent : goal.returns-then-not-rows_lent
returns-then-not-rows_lent c = bad_rows c.args.rows.now c.args.count c.args.index.now c.args.length c.args.number (sym c.rows_lent.ensures ∙ c.if-not-rows_lent.true)

pub returns-then-len-index : goal.returns-then-len-index
returns-then-len-index c = bad_pairs c.args.rows.now c.args.count c.args.index.now c.args.length c.args.number c.if-len-index.true

pub returns-then-not-is_index : goal.returns-then-not-is_index
returns-then-not-is_index c =
    other_index c.args.rows.now c.args.count c.args.index.now c.args.length c.args.number (sym c.rows_lent.ensures ∙ c.if-not-rows_lent.false) c.if-len-index.false (sym c.is_index.ensures ∙ c.if-not-is_index.true)

pub ahead_of-at-requires : goal.ahead_of-at-requires
ahead_of-at-requires c =
    searched c.args.rows.now c.args.count c.args.index.now c.args.length c.args.number (sym c.rows_lent.ensures ∙ c.if-not-rows_lent.false) c.if-len-index.false (sym c.is_index.ensures ∙ c.if-not-is_index.false)

pub ahead_of-end-requires : goal.ahead_of-end-requires
ahead_of-end-requires c =
    searched c.args.rows.now c.args.count c.args.index.now c.args.length c.args.number (sym c.rows_lent.ensures ∙ c.if-not-rows_lent.false) c.if-len-index.false (sym c.is_index.ensures ∙ c.if-not-is_index.false)

pub overflow_sub-result : goal.overflow_sub-result
overflow_sub-result c =
    let t = in_turn_there c.args.rows.now c.args.count c.args.index.now c.args.length c.args.number (sym c.rows_lent.ensures ∙ c.if-not-rows_lent.false) c.if-len-index.false (sym c.is_index.ensures ∙ c.if-not-is_index.false) in
    let x = c.ahead_of-at.ensures.0 in
    let y = c.ahead_of-end.ensures.0 in
    omega arith

pub returns : goal.returns
returns c =
    found_there c.args.rows.now c.args.count c.args.index.now c.args.length c.args.number (sym c.rows_lent.ensures ∙ c.if-not-rows_lent.false) c.if-len-index.false (sym c.is_index.ensures ∙ c.if-not-is_index.false)
    c.ahead_of-at.result c.ahead_of-end.result c.ahead_of-at.ensures.0 c.ahead_of-end.ensures.0
