use Rattle.std.proofs.Common.{◌∙◌, rules}
use Rattle.paper.specs.Fields.{fields_of}
use Rattle.fields.specs.Places.{first_of}
use Rattle.fields.specs.Columns.{first_column}
use Rattle.fields.proofs.ColumnLaws.{first_at}
use Rattle.fields.proofs.lookup.first_of.Goals as goal

pub returns : goal.returns
unfolding first_column first_of fields_of
returns c = c.entry.ensures ∙ first_at c.args.element (search rules)
