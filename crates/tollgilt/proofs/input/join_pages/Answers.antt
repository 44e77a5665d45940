-- What is to be laid is what is laid and the pages that are left, each behind a zero byte.
use Rattle.std.proofs.Common.{◌≡◌, ℕ, ◌≤◌, length, sym, rules, arith}
use Rattle.std.proofs.Math.ListN.{length-set}
use Rattle.tollgilt.proofs.JoinLaws.{next_inside, page_fits, join_next, join_done}
use Rattle.tollgilt.proofs.input.join_pages.Goals as goal

pub slice_bounds-lay-end-in-loop-k : goal.slice_bounds-lay-end-in-loop-k
slice_bounds-lay-end-in-loop-k c = omega (arith, next_inside c.loop-k.invariant c.loop-k-test.true)

pub lay-n-requires-in-loop-k : goal.lay-n-requires-in-loop-k
lay-n-requires-in-loop-k c = simp length-set (omega (arith, page_fits c.loop-k.invariant c.loop-k-test.true, c.loop-k.invariant.laying.long))

pub loop-k-preserved : goal.loop-k-preserved
loop-k-preserved c = join_next c.loop-k.invariant c.loop-k-test.true _ _ c.lay-n-in-loop-k.ensures

pub returns : goal.returns
returns c =
    let nine : length c.args.fresh.lens ≡ 9 = search rules in
    let few : c.args.fresh.count ≤ length c.args.fresh.lens = omega (arith, nine, c.requires.1) in
    join_done c.args.room.now c.args.fresh.lens c.args.fresh.count c.args.out.now c.requires.0 few c.requires.2 c.requires.3 _ _ c.lay-n.ensures _ _ _ _ c.loop-k.invariant c.loop-k-test.false
