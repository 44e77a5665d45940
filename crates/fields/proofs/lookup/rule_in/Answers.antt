use Rattle.std.proofs.Common.{arith, ◌∙◌}
use Rattle.fields.proofs.ColumnLaws.{handed, rule_at_lem, rule_small}
use Rattle.fields.proofs.lookup.rule_in.Goals as goal

pub overflow_cast-result : goal.overflow_cast-result
overflow_cast-result c =
    omega (arith, handed 0 c.args.limits.now c.args.id _ c.requires.0 (rule_at_lem c.args.id c.requires.1), rule_small c.args.id c.requires.1)

pub returns : goal.returns
returns c = c.part.ensures ∙ handed 0 c.args.limits.now c.args.id _ c.requires.0 (rule_at_lem c.args.id c.requires.1)
