use Rattle.std.proofs.Common.{arith}
use Rattle.paper.specs.Calls.{pages_at}
use Rattle.reader.specs.Joining.{said}
use Rattle.reader.proofs.JoiningLaws.{counted_more}
use Rattle.reader.proofs.joining.total_rows.Goals as goal

pub loop-k-preserved : goal.loop-k-preserved
loop-k-preserved c =
    let a = c.args in
    let L = c.loop-k in
    let b = L.invariant.0 in
    let r = c.rows_of-total.ensures.1 in
    (omega (arith, b, r), counted_more (said a.buffer.now a.starts.now a.lens.now) a.z L.k L.total _ c.loop-k-test.true c.rows_of-total.ensures.0 L.invariant.1)
