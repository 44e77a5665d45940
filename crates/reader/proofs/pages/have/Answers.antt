use Rattle.std.proofs.Common.{◌≡◌, ℕ, ◌<◌, ◌∙◌, length, take, arith, ap}
use Rattle.paper.specs.Collecting.{mask_of}
use Rattle.reader.specs.Pages.{picked}
use Rattle.reader.proofs.PageLaws.{among, present_told, number_passed}
use Rattle.reader.proofs.pages.have.Goals as goal

pub loop-i-preserved : goal.loop-i-preserved
loop-i-preserved c =
    let L = c.loop-i in
    let room : L.i < length c.args.nos = omega arith in
    c.with_number-mask.ensures ∙ number_passed c.args.nos L.i L.mask room L.invariant

pub returns : goal.returns
returns c =
    let L = c.loop-i in
    let a = c.args in
    let end : L.i ≡ a.n = omega arith in
    present_told (take a.n a.nos) L.mask (L.invariant ∙ ap (λ (j : ℕ). mask_of (picked (λ k. among k (take j a.nos)) 1 9)) end)
