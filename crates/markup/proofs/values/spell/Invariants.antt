-- The spelling of the whole is what is written and the spelling of the bytes to come.
use Rattle.markup.proofs.Spells.{Held}
use Rattle.markup.proofs.values.spell.Given as goal

abbrev pub invariant-loop-i : goal.invariant-loop-i
invariant-loop-i l = Held l.text l.fn.out l.out l.from l.to l.at l.n l.i
