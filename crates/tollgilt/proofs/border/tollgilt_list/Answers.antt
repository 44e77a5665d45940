-- It hands out the numbers of what `list_pages` answers.
use Rattle.std.specs.Prelude.{Ok, Err}
use Rattle.tollgilt.specs.Promise.{answered}
use Rattle.tollgilt.proofs.ListLaws.{handed}
use Rattle.tollgilt.proofs.border.tollgilt_list.Goals as goal

pub returns-in-Ok : goal.returns-in-Ok
returns-in-Ok c = handed (answered c.args.out.now c.args.buffer.now c.args.starts.now c.args.lens.now) c.args.out.now (Ok c.in-Ok.length) _ c.in-Ok.ensures

pub returns-in-Err : goal.returns-in-Err
returns-in-Err c = handed (answered c.args.out.now c.args.buffer.now c.args.starts.now c.args.lens.now) c.args.out.now (Err c.in-Err.e) _ c.in-Err.ensures
