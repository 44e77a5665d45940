use Rattle.std.proofs.Common.{◌≡◌, ◌+◌, ◌≤◌, length, get_or, take, drop, arith, length-drop, length-take, sym}
use lib.Seq.{length-take-le}
use Rattle.paper.proofs.CallLaws.{inside_true}
use Rattle.reader.proofs.JoiningLaws.{part_at}
use Rattle.reader.proofs.joining.page_at.Goals as goal

pub slice_bounds-result-count : goal.slice_bounds-result-count
slice_bounds-result-count c = let e = (inside_true _ _ _ c.requires.1).ends c.args.i c.requires.0 in omega (arith, e)

pub slice_bounds-result-start : goal.slice_bounds-result-start
slice_bounds-result-start c = let e = (inside_true _ _ _ c.requires.1).ends c.args.i c.requires.0 in omega (arith, e)

pub bounds-lens-i : goal.bounds-lens-i
bounds-lens-i c = let e = (inside_true c.args.buffer.now c.args.starts.now c.args.lens.now c.requires.1).alike in omega (arith, e, c.requires.0)

pub slice_bounds-result-end-2 : goal.slice_bounds-result-end-2
slice_bounds-result-end-2 c =
    let e = (inside_true _ _ _ c.requires.1).ends c.args.i c.requires.0 in
    sym (length-take-le _ _ (simp (length-take, length-drop) (omega (arith, e))))

pub returns : goal.returns
returns c = part_at c.args.buffer.now c.args.starts.now c.args.lens.now c.args.i c.requires.1 c.requires.0
