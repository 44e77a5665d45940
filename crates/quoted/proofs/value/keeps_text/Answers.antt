-- A text keeps its field by its length and form.
use mathlib.Core.Path.{sym, ap, ◌∙◌}
use lib.Seq.{slice}
use borrow.Author.Tests.{le-leb}
use Rattle.paper.specs.Lists.{count}
use Rattle.fields.specs.Places.{formed, field_at}
use Rattle.fields.proofs.RuleLaws.{keeps_by}
use Rattle.room.proofs.Parts.{part_is}
use Rattle.quoted.proofs.value.keeps_text.Goals as goal

pub returns : goal.returns
returns c = λ e.
    let a = c.args in
    let w = a.room.now in
    let f = field_at a.id in
    let v = slice a.at a.end w in
    sym (keeps_by f v (rw (c.requires.4, le-leb (count 126 v) f.tildes c.requires.5))) ∙ sym (c.keeps_form.ensures ∙ ap (formed f) (part_is w a.at a.end)) ∙ e
