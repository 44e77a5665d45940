use Rattle.std.proofs.Common.{◌≡◌, take}
use Rattle.paper.specs.Collecting.{mask_of}
use Rattle.reader.specs.Pages.{picked}
use Rattle.reader.proofs.PageLaws.{among}
use Rattle.reader.proofs.pages.have.Given as goal

-- the mask is that of the numbers passed
abbrev pub invariant-loop-i : goal.invariant-loop-i
invariant-loop-i l = l.mask ≡ mask_of (picked (λ k. among k (take l.i l.nos)) 1 9)
