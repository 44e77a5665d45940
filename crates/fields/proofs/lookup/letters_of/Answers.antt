use Rattle.paper.specs.Fields.{fields_of}
use Rattle.fields.specs.Columns.{key_column}
use Rattle.fields.proofs.ColumnLaws.{letters_at}
use Rattle.fields.proofs.lookup.letters_of.Goals as goal

pub returns : goal.returns
unfolding key_column fields_of
returns c = letters_at c.args.id c.requires
