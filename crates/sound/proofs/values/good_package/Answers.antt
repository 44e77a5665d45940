-- `sound::values::good_package`: what is spelled are the digits of the number.
-- Assumes nothing.
use Rattle.std.proofs.Common.{ap, ◌∙◌, arith}
use Rattle.paper.specs.Writing.{decimal}
use Rattle.fields.specs.Places.{field_at}
use Rattle.sound.specs.Judged.{good_value}
use Rattle.sound.proofs.ValueLaws.{decimal_nine, no_mark, spelled}
use Rattle.sound.proofs.values.good_package.Goals as goal

pub spell-w-requires : goal.spell-w-requires
spell-w-requires c = omega (arith, decimal_nine c.args.n)

pub good_value-requires : goal.good_value-requires
good_value-requires c = (omega arith, omega (arith, decimal_nine c.args.n, c.spell-w.ensures.0), omega arith, c.requires)

pub returns : goal.returns
returns c = c.good_value.ensures ∙ ap (good_value (field_at 33)) (spelled c.args.n _ _ _ c.spell-w.ensures.0 c.spell-w.ensures.1) ∙ no_mark (decimal c.args.n)
