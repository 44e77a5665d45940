-- `sound::values::fine_value`: a span is absent, or points outside the text, or shows a value.
-- Assumes nothing.
use Rattle.std.proofs.Common.{◌+◌, ◌∙◌, arith}
use borrow.Author.Tests.{lt-leb}
use Rattle.fields.specs.Places.{field_at}
use Rattle.sound.proofs.ValueLaws.{fine_absent, fine_outside, fine_inside}
use Rattle.sound.proofs.values.fine_value.Goals as goal

pub returns-then-len-eq0 : goal.returns-then-len-eq0
returns-then-len-eq0 c = fine_absent c.args.text.now (field_at c.args.id) c.args.at c.args.len c.if-len-eq0.true _ c.good_value.ensures

pub returns-then-to-text : goal.returns-then-to-text
returns-then-to-text c =
    fine_inside c.args.text.now (field_at c.args.id) c.args.at c.args.len c.if-len-eq0.false (omega arith) _ (c.wide-from.result + c.wide.result) c.wide-from.ensures (omega arith) _ c.good_value-then-to-text.ensures

pub returns-else-to-text : goal.returns-else-to-text
returns-else-to-text c =
    lt-leb _ _ c.if-to-text.false ∙ fine_outside c.args.text.now (field_at c.args.id) c.args.at c.args.len c.if-len-eq0.false (omega arith)
