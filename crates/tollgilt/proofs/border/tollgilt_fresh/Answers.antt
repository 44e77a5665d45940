-- It hands out the numbers of what `fresh_pages` gives.
use Rattle.tollgilt.specs.Fresh.{answered}
use Rattle.tollgilt.proofs.FreshWritten.{handed, refusal_handed}
use Rattle.tollgilt.proofs.border.tollgilt_fresh.Goals as goal

pub returns-in-Ok : goal.returns-in-Ok
returns-in-Ok c = handed (answered c.args.out.now c.args.buffer.now c.args.starts.now c.args.lens.now) c.args.out.now c.in-Ok.p _ c.in-Ok.ensures

pub returns-in-Err : goal.returns-in-Err
returns-in-Err c = refusal_handed (answered c.args.out.now c.args.buffer.now c.args.starts.now c.args.lens.now) c.args.out.now c.in-Err.e _ c.in-Err.ensures
