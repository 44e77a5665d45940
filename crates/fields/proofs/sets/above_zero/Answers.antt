use Rattle.std.proofs.Common.{not, length, ap, ◌∙◌}
use Rattle.fields.specs.Sets.{in_set}
use Rattle.fields.proofs.SetLaws.{all_from, below_not}
use Rattle.fields.proofs.sets.above_zero.Goals as goal

pub returns : goal.returns
unfolding in_set
returns c = below_not c.run.result (length c.args.v.now) ∙ ap not (all_from (in_set 48) _ _ _ c.run.ensures)
