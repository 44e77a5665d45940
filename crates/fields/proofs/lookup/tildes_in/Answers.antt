use Rattle.std.proofs.Common.{◌∙◌}
use Rattle.fields.proofs.ColumnLaws.{handed, tilde_at}
use Rattle.fields.proofs.lookup.tildes_in.Goals as goal

pub returns : goal.returns
returns c = c.part.ensures ∙ handed 3 c.args.limits.now c.args.id _ c.requires.0 (tilde_at c.args.id c.requires.1)
