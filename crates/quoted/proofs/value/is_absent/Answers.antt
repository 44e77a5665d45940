-- A value that is not empty counts as absent if it is a dose of 0.
use mathlib.Core.Path.{ap, ◌∙◌}
use Prim.Native.Nat.{ℕ}
use lib.Seq.{slice}
use Rattle.paper.specs.Fields.{Rule}
use Rattle.paper.specs.Rules.{is_zero}
use Rattle.fields.specs.Places.{rule_at, field_at}
use Rattle.fields.proofs.RuleLaws.{rule_back}
use Rattle.room.proofs.Parts.{part_is, part_some}
use Rattle.quoted.proofs.ValueLaws.{absent_zero}
use Rattle.quoted.proofs.value.is_absent.Goals as goal

pub returns-else-from-to : goal.returns-else-from-to
returns-else-from-to c =
    let a = c.args in
    let w = a.room.now in
    let f = field_at a.id in
    let v = slice a.from a.to w in
    c.is_zero.ensures
    ∙ ap (is_zero (rule_at c.rule_in.result)) (part_is w a.from a.to)
    ∙ ap (λ (n : ℕ). is_zero (rule_at n) v) c.rule_in.ensures
    ∙ ap (λ (r : Rule). is_zero r v) (rule_back f.rule)
    ∙ absent_zero f v (part_some w _ _ c.requires.0 c.requires.1 c.if-from-to.false)
