use Rattle.std.proofs.Common.{◌∙◌}
use Rattle.fields.proofs.ColumnLaws.{handed, least_at}
use Rattle.fields.proofs.lookup.least_in.Goals as goal

pub returns : goal.returns
returns c = c.part.ensures ∙ handed 1 c.args.limits.now c.args.id _ c.requires.0 (least_at c.args.id c.requires.1)
