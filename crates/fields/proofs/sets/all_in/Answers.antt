use Rattle.fields.specs.Sets.{in_set}
use Rattle.fields.proofs.SetLaws.{all_from}
use Rattle.fields.proofs.sets.all_in.Goals as goal

pub returns : goal.returns
returns c = all_from (in_set c.args.k) _ _ _ c.run.ensures
