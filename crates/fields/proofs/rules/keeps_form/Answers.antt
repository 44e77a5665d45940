use Rattle.std.proofs.Common.{arith, length, sym, ◌∙◌}
use borrow.Author.Tests.{leb-true, lt-leb}
use Rattle.paper.proofs.Small.{no}
use Rattle.fields.specs.Places.{field_at}
use Rattle.fields.proofs.RuleLaws.{fitting}
use Rattle.fields.proofs.rules.keeps_form.Goals as goal
use Rattle.fields.proofs.rules.keeps_form.Goals.{then-least_in-v, else-least_in-v}

pub returns-else-rule-eq0 : goal.returns-else-rule-eq0
returns-else-rule-eq0 c =
    let v = c.args.v.now in
    elim c.if-least_in-v.branch [
      | then-least_in-v w ↦
          let most = leb-true (length v) w.most_in.result (sym w.value-is ∙ c.if-v-most_in.true) in
          c.keeps_rule.ensures ∙ fitting (field_at c.args.id) v c.rule_in-rule.result (omega (arith, w.if-least_in-v.true, c.least_in.ensures)) (omega (arith, most, w.most_in.ensures)) c.rule_in-rule.ensures
      | else-least_in-v w ↦ no (sym c.if-v-most_in.true ∙ w.value-is ∙ lt-leb _ _ w.if-least_in-v.false)
    ]
