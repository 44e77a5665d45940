-- There are ten places for starts and lengths, and the pages lie in the input.
use Rattle.std.proofs.Common.{◌≡◌, ◌≤◌, ℕ, length, take, sym, rules, arith}
use Rattle.std.proofs.Math.ListN.{length-take}
use Rattle.std.proofs.Math.Seq.{length-take-le}
use Rattle.paper.specs.Listing.{parted}
use Rattle.tollgilt.proofs.InputLaws.{split_read}
use Rattle.tollgilt.proofs.input.split.Goals as goal

pub slice_bounds-split_pages-end : goal.slice_bounds-split_pages-end
slice_bounds-split_pages-end c = sym (length-take-le _ _ c.counted-n.ensures.0)

pub returns : goal.returns
returns c =
    let ten : length c.split_pages-k.new.starts ≡ 10 = search rules in
    let tens : length c.split_pages-k.new.lens ≡ 10 = search rules in
    let few : c.split_pages-k.result ≤ length c.split_pages-k.new.starts = omega (arith, ten, c.split_pages-k.ensures.0, length-take 10 (parted (take c.counted-n.result c.args.input.now))) in
    (few, omega (arith, ten, tens, few), split_read c.args.input.now c.counted-n.result _ _ _ _ c.split_pages-k.result c.counted-n.ensures.1 c.split_pages-k.ensures (omega (arith, ten)))
