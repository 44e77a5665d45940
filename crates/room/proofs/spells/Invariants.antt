-- `room::spells`: the bytes and the word are the same exactly if what is left of both is.
use Rattle.std.proofs.Common.{◌≡◌, ◌+◌, drop}
use Rattle.std.proofs.Math.Seq.{slice}
use Rattle.paper.specs.Lists.{same}
use Rattle.room.proofs.spells.Given as goal

abbrev pub invariant-loop-i : goal.invariant-loop-i
invariant-loop-i l = same (slice l.from l.to l.s) l.word ≡ same (slice (l.from + l.i) l.to l.s) (drop l.i l.word)
