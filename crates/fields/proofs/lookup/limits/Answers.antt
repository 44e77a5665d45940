use Rattle.std.proofs.Common.{refl}
use Rattle.paper.specs.Fields.{fields_of}
use Rattle.fields.specs.Columns.{limit_column}
use Rattle.fields.proofs.lookup.limits.Goals as goal

pub returns : goal.returns
unfolding limit_column fields_of
returns c = refl
