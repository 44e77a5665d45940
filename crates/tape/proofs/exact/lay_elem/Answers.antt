-- The header before the values.
use Rattle.std.proofs.Common.{sym, ◌∙◌, arith}
use Rattle.fields.specs.Places.{kind_at}
use Rattle.fields.proofs.TableLaws.{code_back}
use Rattle.sheet.proofs.FoundLaws.{count_is}
use Rattle.tape.proofs.ValueLaws.{told_long}
use Rattle.tape.proofs.SlotLaws.{elem_laid}
use Rattle.tape.proofs.exact.lay_elem.Goals as goal

pub returns : goal.returns
returns c =
    let a = c.args in
    let k = kind_at a.kind in
    let n = c.count_of.ensures.0 in
    elem_laid k a.place a.first _ a.kind (sym (code_back a.kind c.requires.1)) (omega (arith, n, count_is k)) (omega (arith, n, c.requires.5)) (told_long a.page.now k a.raws.now ∙ count_is k) c.lay_slots-used.ensures
