use Rattle.std.proofs.Common.{◌≡◌, arith}
use lib.ListN.{length-set}
use Rattle.page.specs.Laying.{pairs}
use Rattle.page.proofs.ContentLaws.{pair_turn, pairs_made}
use Rattle.page.proofs.content.spans_of.Goals as goal

pub loop-j-preserved : goal.loop-j-preserved
loop-j-preserved c =
    let N = c.args.numbers.now in
    let L = c.loop-j in
    (simp length-set L.invariant.0, pair_turn N L.spans L.j (pairs 27 N) c.loop-j-test.true L.invariant.0 L.invariant.1)

pub returns : goal.returns
returns c =
    let N = c.args.numbers.now in
    let L = c.loop-j in
    let e : L.j ≡ 27 = omega arith in
    pairs_made N L.spans L.j (pairs 27 N) e L.invariant.0 L.invariant.1
