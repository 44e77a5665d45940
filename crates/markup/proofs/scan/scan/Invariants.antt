-- At each byte the two arrays, the mode and the rest of an end tag's name are the machine's state.
use Rattle.markup.proofs.Turns.{Held}
use Rattle.markup.proofs.scan.scan.Given as goal

abbrev pub invariant-loop-i : goal.invariant-loop-i
invariant-loop-i l = Held l.page l.starts l.ends l.depth l.mode l.k l.e l.i
