use Rattle.paper.proofs.Small.{no_not}
use Rattle.fields.proofs.RuleLaws.{line_all}
use Rattle.fields.proofs.rules.is_line.Goals as goal

pub returns : goal.returns
returns c h t = line_all t c.args.v.now c.loop-b.b-index c.loop-b-test.false (c.loop-b.invariant (no_not c.loop-b.stopped h) t)
