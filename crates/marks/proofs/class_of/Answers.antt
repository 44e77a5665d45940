use Rattle.std.proofs.Common.{rules}
use Rattle.marks.proofs.ClassList.{classes}
use Rattle.marks.proofs.ClassLaws.{entry}
use Rattle.marks.proofs.class_of.Goals as goal

pub returns : goal.returns
unfolding classes
returns c = entry c.args.b (search rules)
