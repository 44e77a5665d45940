use Rattle.std.proofs.Common.{◌∙◌, rules}
use Rattle.fields.specs.Columns.{pair_count_column}
use Rattle.fields.proofs.ColumnLaws.{pairs_at_lem}
use Rattle.fields.proofs.lookup.pairs_of.Goals as goal

pub returns : goal.returns
unfolding pair_count_column
returns c = c.entry.ensures ∙ pairs_at_lem c.args.element (search rules)
