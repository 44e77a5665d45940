-- `writer::writing::sizes_between`: what all add is what was added and what the rows that are left add.
-- Assumes nothing.
use Rattle.std.proofs.Common.{◌≡◌, ◌≤◌, ◌+◌, ◌*◌, drop}
use Rattle.writer.specs.Cutting.{sizes_in}
use Rattle.writer.proofs.writing.sizes_between.Given as goal

abbrev pub invariant-loop-m : goal.invariant-loop-m
invariant-loop-m l = (l.size ≤ 4294967296 * l.m-index) × (sizes_in l.part ≡ l.size + sizes_in (drop l.m-index l.part))
