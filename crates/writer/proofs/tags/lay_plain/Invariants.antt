-- `writer::tags::lay_plain`: while no byte grows, the value is spelled as it is if the bytes to come are; and what is to be laid is what is laid and what is left.
-- Assumes nothing.
use Rattle.std.proofs.Common.{◌≡◌, ◌+◌, drop}
use Rattle.paper.specs.Values.{escape}
use Rattle.room.proofs.LaidLaws.{Laying}
use Rattle.writer.proofs.tags.lay_plain.Given as goal

abbrev pub invariant-loop-i : goal.invariant-loop-i
invariant-loop-i l = (l.grown ≡ 0 → escape (drop l.i l.word) ≡ drop l.i l.word → escape l.word ≡ l.word)
    × Laying l.fn.out l.out l.at (l.at + l.i) l.word (drop l.i l.word)
