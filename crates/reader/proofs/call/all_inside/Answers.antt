use Rattle.std.proofs.Common.{sym}
use Rattle.reader.proofs.CallFacts.{unlike}
use Rattle.reader.proofs.call.all_inside.Goals as goal

pub returns-then-lens-starts : goal.returns-then-lens-starts
returns-then-lens-starts c = let a = c.args in sym (unlike a.buffer.now a.starts.now a.lens.now c.if-lens-starts.true)
