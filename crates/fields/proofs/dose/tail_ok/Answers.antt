use Rattle.std.proofs.Common.{sym, ◌∙◌}
use borrow.Author.Tests.{le-ltb}
use Rattle.paper.proofs.Small.{no}
use Rattle.fields.specs.Sets.{in_set}
use Rattle.fields.proofs.DoseLaws.{tail_short, tail_slash, tail_mixed}
use Rattle.fields.proofs.dose.tail_ok.Goals as goal
use Rattle.fields.proofs.dose.tail_ok.Goals.{then-s-v, else-s-v}

pub returns-then-v-n-eq47 : goal.returns-then-v-n-eq47
unfolding in_set
returns-then-v-n-eq47 c = elim c.if-s-v.branch [
  | then-s-v w ↦ c.above_zero.ensures
      ∙ sym (tail_slash c.args.v.now c.args.n c.if-n-v.false w.if-s-v.true (sym w.all_in.ensures ∙ sym w.value-is ∙ c.if-all_in.true) c.if-v-n-eq44.false c.if-v-n-eq47.true)
  | else-s-v w ↦ no (sym c.if-all_in.true ∙ w.value-is ∙ le-ltb _ _ w.if-s-v.false)
]

pub returns-else-all_in : goal.returns-else-all_in
unfolding in_set
returns-else-all_in c = elim c.if-s-v.branch [
  | then-s-v w ↦ c.if-all_in.false ∙ sym (tail_mixed c.args.v.now c.args.n c.if-n-v.false w.if-s-v.true (sym w.all_in.ensures ∙ sym w.value-is ∙ c.if-all_in.false))
  | else-s-v w ↦ c.if-all_in.false ∙ sym (tail_short c.args.v.now c.args.n c.if-n-v.false w.if-s-v.false)
]
