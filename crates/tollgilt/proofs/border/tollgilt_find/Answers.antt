-- It hands out the numbers of what `find_pages` answers.
use Rattle.std.specs.Prelude.{Ok, Err}
use Rattle.tollgilt.specs.Find.{answered}
use Rattle.tollgilt.proofs.FindLaws.{handed}
use Rattle.tollgilt.proofs.border.tollgilt_find.Goals as goal

pub returns-in-Ok : goal.returns-in-Ok
returns-in-Ok c = handed (answered c.args.list.now c.args.buffer.now c.args.starts.now c.args.lens.now) c.args.number c.args.list.now (Ok c.in-Ok.rows) _ c.in-Ok.ensures

pub returns-in-Err : goal.returns-in-Err
returns-in-Err c = handed (answered c.args.list.now c.args.buffer.now c.args.starts.now c.args.lens.now) c.args.number c.args.list.now (Err c.in-Err.x) _ c.in-Err.ensures
