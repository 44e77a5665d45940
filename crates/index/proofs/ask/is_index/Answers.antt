-- Where there are as many pairs as rows with a number, each pair is tested in turn.
use Rattle.std.proofs.Common.{sym, ◌∙◌}
use Rattle.index.specs.Pairs.{rows_in}
use Rattle.index.proofs.AskLaws.{others, as_tested, turn}
use Rattle.index.proofs.ask.is_index.Goals as goal

pub returns-then-count_numbers-len : goal.returns-then-count_numbers-len
returns-then-count_numbers-len c = sym (others (rows_in c.args.n c.args.rows.now) c.args.index.now c.args.len (λ e. c.if-count_numbers-len.true (c.count_numbers.ensures ∙ e)))

pub loop-i-init : goal.loop-i-init
loop-i-init c = as_tested (rows_in c.args.n c.args.rows.now) c.args.index.now c.args.len (sym c.count_numbers.ensures ∙ c.if-count_numbers-len.false)

pub loop-i-preserved : goal.loop-i-preserved
loop-i-preserved c =
    c.loop-i.invariant ∙ turn (rows_in c.args.n c.args.rows.now) c.args.index.now c.args.len c.loop-i.i c.loop-i-test.true
    ∙ rw (sym c.row_right.ensures ∙ c.if-not-row_right.false, sym c.in_place.ensures ∙ c.if-not-in_place.false)
