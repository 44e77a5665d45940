use Rattle.std.proofs.Common.{rules, sym, ◌∙◌}
use Rattle.room.proofs.Compared.{other_length, spells_on, spells_off, spells_end}
use Rattle.room.proofs.spells.Goals as goal

pub returns-then-to-from : goal.returns-then-to-from
returns-then-to-from c = sym (other_length c.args.s.now c.args.word.now c.args.from c.args.to (search rules) (search rules) c.if-to-from.true)

pub returns-then-s-from : goal.returns-then-s-from
returns-then-s-from c =
    sym (c.loop-i.invariant ∙ spells_off c.args.s.now c.args.word.now c.args.from c.args.to c.loop-i.i (search rules) (search rules) (search rules) c.if-s-from.true)

pub loop-i-preserved : goal.loop-i-preserved
loop-i-preserved c =
    c.loop-i.invariant ∙ spells_on c.args.s.now c.args.word.now c.args.from c.args.to c.loop-i.i (search rules) (search rules) (search rules) c.if-s-from.false

pub returns : goal.returns
returns c = sym (c.loop-i.invariant ∙ spells_end c.args.s.now c.args.word.now c.args.from c.args.to c.loop-i.i (search rules) (search rules))
