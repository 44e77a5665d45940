-- `writer::writing::sizes_between`: behind the last row nothing is left to add.
-- Assumes nothing.
use Rattle.std.proofs.Common.{◌≡◌, ◌-◌, List, ℕ, [], take, drop, ap, arith}
use Rattle.std.proofs.Math.Seq.{slice}
use lib.ListN.{drop_of_length-le}
use Rattle.writer.specs.Cutting.{sizes_in}
use Rattle.writer.proofs.Stretches.{part_from}
use Rattle.writer.proofs.writing.sizes_between.Goals as goal

pub returns : goal.returns
returns c =
    let ms : List ℕ = take (c.args.to - c.args.from) (drop c.args.from c.args.measures.now) in
    let e : ms ≡ slice c.args.from c.args.to c.args.measures.now = part_from c.args.from c.args.to c.args.measures.now c.requires.0 in
    let gone : drop c.loop-m.m-index ms ≡ [] = drop_of_length-le ms {i = c.loop-m.m-index} c.loop-m-test.false in
    rw (← e) (omega (arith, c.loop-m.invariant.1, ap sizes_in gone))
