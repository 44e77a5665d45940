-- `sound::values::good_value`: its field decides; a value that is there must be as reading gives it.
-- Assumes nothing.
use Rattle.std.proofs.Common.{◌≡◌, ℕ, List, Bool, true, not, ◌&&◌, sym, ap, ◌∙◌}
use Rattle.std.proofs.Math.Seq.{slice}
use lib.Dec.{eqb}
use borrow.Author.Tests.{eq-eqb}
use Rattle.paper.specs.Lists.{same}
use Rattle.paper.specs.Values.{cut}
use Rattle.paper.specs.Fields.{Rule}
use Rattle.paper.specs.Rules.{is_zero}
use Rattle.fields.specs.Places.{rule_at, field_at, field_flaw}
use Rattle.fields.proofs.RuleLaws.{rule_back}
use Rattle.room.proofs.Parts.{part_is, part_empty, part_some}
use Rattle.sound.proofs.ValueLaws.{told_none, value_absent, value_present, flawed}
use Rattle.sound.proofs.values.good_value.Goals as goal

pub returns-then-from-to : goal.returns-then-from-to
returns-then-from-to c =
    let v = slice c.args.from c.args.to c.args.text.now in
    eq-eqb _ _ c.if-from-to.true ∙ sym (told_none _ _ c.value_flaw.ensures c.is_none.ensures ∙ c.if-is_none.true) ∙ value_absent (field_at c.args.id) v (part_empty _ _ _ c.if-from-to.true)

pub returns-else-from-to : goal.returns-else-from-to
returns-else-from-to c =
    let f = field_at c.args.id in
    let v = slice c.args.from c.args.to c.args.text.now in
    let e : eqb (field_flaw f v) 9 ≡ true = told_none _ _ c.value_flaw.ensures c.is_none.ensures ∙ c.if-is_none.true in
    c.is_as_read.ensures
    ∙ ap (λ (u : List ℕ). same (cut u) u && not (is_zero (rule_at c.rule_in.result) u)) (part_is c.args.text.now c.args.from c.args.to)
    ∙ ap (λ (n : ℕ). same (cut v) v && not (is_zero (rule_at n) v)) c.rule_in.ensures
    ∙ ap (λ (r : Rule). same (cut v) v && not (is_zero r v)) (rule_back f.rule)
    ∙ ap (λ (b : Bool). b && (same (cut v) v && not (is_zero f.rule v))) (sym e)
    ∙ value_present f v (part_some c.args.text.now _ _ c.requires.0 c.requires.1 c.if-from-to.false)

pub returns-else-is_none : goal.returns-else-is_none
returns-else-is_none c =
    let v = slice c.args.from c.args.to c.args.text.now in
    c.if-is_none.false ∙ flawed (field_at c.args.id) v (told_none _ _ c.value_flaw.ensures c.is_none.ensures ∙ c.if-is_none.false)
