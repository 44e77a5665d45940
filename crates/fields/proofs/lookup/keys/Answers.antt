use Rattle.std.proofs.Common.{refl}
use Rattle.paper.specs.Fields.{fields_of}
use Rattle.fields.specs.Columns.{key_column}
use Rattle.fields.proofs.lookup.keys.Goals as goal

pub returns : goal.returns
unfolding key_column fields_of
returns c = refl
