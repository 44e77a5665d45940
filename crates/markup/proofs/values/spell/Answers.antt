-- Each byte's spelling keeps what is held of the bytes spelled so far.
use Rattle.std.proofs.Common.{arith}
use Rattle.markup.proofs.Spells.{room, turn, last}
use Rattle.markup.proofs.values.spell.Goals as goal

pub spell_byte-n-requires : goal.spell_byte-n-requires
spell_byte-n-requires c = omega (arith, room c.loop-i.invariant c.loop-i-test.true, c.loop-i.invariant.laying.long)

pub loop-i-preserved : goal.loop-i-preserved
loop-i-preserved c = turn c.loop-i.invariant c.loop-i-test.true _ _ c.spell_byte-n.ensures.0 c.spell_byte-n.ensures.1

pub returns : goal.returns
returns c = last c.loop-i.invariant c.loop-i-test.false
