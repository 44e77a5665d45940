-- `probe::probe_spell` is safe: a value is spelled in at most six times its bytes.
-- Assumes nothing.
use native.Mathlib.Omega.{arith}
use lib.Seq.{take-length}
use borrow.Author.Rules.{rules}
use Rattle.markup.proofs.Spells.{escape_short}
use Rattle.probe.proofs.probe_spell.Statement.{statement}
use Rattle.probe.proofs.probe_spell.Tie as tie

returns : tie.Need-returns-then-out-value
returns c = search rules

spell-requires : tie.Need-spell-requires
spell-requires c κs =
    let s = c.before.before.before.before.args.value.now in
    (omega arith, omega arith, rw (take-length s) (omega (arith, escape_short s, c.before.if-out-value.false)))

same_length : tie.Need-shape_of-out
same_length c = search rules

returns-2 : tie.Need-returns
returns-2 c = search rules

pub probe_spell_spec : {M : Type 1} → statement M
probe_spell_spec = tie.close (tie.spec returns spell-requires same_length returns-2)
