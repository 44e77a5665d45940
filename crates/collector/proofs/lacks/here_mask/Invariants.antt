-- The mask is that of the numbers passed whose pages are here.
use Rattle.std.proofs.Common.{◌≡◌, ◌-◌}
use Rattle.paper.specs.Collecting.{mask_of}
use Rattle.reader.specs.Pages.{picked}
use Rattle.collector.proofs.MaskLaws.{up_to}
use Rattle.collector.proofs.lacks.here_mask.Given as goal

abbrev pub invariant-loop-k : goal.invariant-loop-k
invariant-loop-k l = l.mask ≡ mask_of (picked (up_to l.lens l.k) 1 9)
