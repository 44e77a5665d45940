use Rattle.std.proofs.Common.{◌∙◌}
use Rattle.fields.proofs.ColumnLaws.{handed, most_at}
use Rattle.fields.proofs.lookup.most_in.Goals as goal

pub returns : goal.returns
returns c = c.part.ensures ∙ handed 2 c.args.limits.now c.args.id _ c.requires.0 (most_at c.args.id c.requires.1)
