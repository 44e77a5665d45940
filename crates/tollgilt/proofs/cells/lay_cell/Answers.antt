-- It tells what `cell_answer` answers, and lays what `cell_text` gives.
use Rattle.std.proofs.Common.{◌≡◌, length, ap, refl, sym, ◌∙◌, rules, arith}
use Rattle.std.specs.Prelude.{Ok, Err}
use Rattle.cell.specs.Numbered.{cell_at}
use Rattle.cell.specs.Answers.{text_of}
use Rattle.cell.proofs.Promises.{part_of}
use Rattle.tollgilt.proofs.CellLaws.{laid_cell, no_such_cell}
use Rattle.tollgilt.proofs.cells.lay_cell.Goals as goal

pub lay-length-requires : goal.lay-length-requires
lay-length-requires c =
    let a = c.args in
    let e = (part_of a.rows.now a.count a.text a.catalogue a.row a.field a.which (Ok c.in-Ok.s) c.cell_text-shown.result (record { answer_is = c.in-Ok.ensures; text_is = c.cell_text-shown.ensures })).2 in
    omega (arith, c.requires, ap length e)

pub returns-in-Ok : goal.returns-in-Ok
returns-in-Ok c =
    let a = c.args in
    let e = (part_of a.rows.now a.count a.text a.catalogue a.row a.field a.which (Ok c.in-Ok.s) c.cell_text-shown.result (record { answer_is = c.in-Ok.ensures; text_is = c.cell_text-shown.ensures })).2 in
    laid_cell a.rows.now a.count a.text.now a.catalogue.now a.row a.field a.which c.in-Ok.s c.in-Ok.ensures c.cell_text-shown.result.now a.out.now e c.lay-length.result _ c.lay-length.ensures

pub returns-in-Err : goal.returns-in-Err
returns-in-Err c =
    let a = c.args in
    rw c.one.ensures (no_such_cell a.rows.now a.count a.text.now a.catalogue.now a.row a.field a.which c.in-Err.field-0 c.in-Err.ensures a.out.now)
