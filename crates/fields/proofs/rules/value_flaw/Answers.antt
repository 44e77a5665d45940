use Rattle.std.proofs.Common.{sym, ap, ◌∙◌}
use lib.Seq.{slice}
use Rattle.paper.specs.Rules.{keeps}
use Rattle.fields.specs.Places.{field_at}
use Rattle.fields.proofs.RuleLaws.{flaw_absent, flaw_kept, flaw_broken}
use Rattle.room.proofs.Parts.{part_is, part_empty, part_some}
use Rattle.fields.proofs.rules.value_flaw.Goals as goal

pub returns-then-from-to : goal.returns-then-from-to
returns-then-from-to c =
    let a = c.args in
    flaw_absent (field_at a.id) (slice a.from a.to a.text.now) c.then_some.result c.must_in.result (part_empty a.text.now a.from a.to c.if-from-to.true) c.then_some.ensures c.must_in.ensures

pub returns-then-keeps_in : goal.returns-then-keeps_in
returns-then-keeps_in c =
    let a = c.args in
    flaw_kept (field_at a.id) (slice a.from a.to a.text.now) (part_some a.text.now a.from a.to c.requires.2 c.requires.3 c.if-from-to.false)
    (sym (c.if-keeps_in.ensures ∙ ap (keeps (field_at a.id)) (part_is a.text.now a.from a.to)))

pub returns-else-keeps_in : goal.returns-else-keeps_in
returns-else-keeps_in c =
    let a = c.args in
    flaw_broken (field_at a.id) (slice a.from a.to a.text.now) (part_some a.text.now a.from a.to c.requires.2 c.requires.3 c.if-from-to.false)
    (sym (c.if-keeps_in.ensures ∙ ap (keeps (field_at a.id)) (part_is a.text.now a.from a.to)))
