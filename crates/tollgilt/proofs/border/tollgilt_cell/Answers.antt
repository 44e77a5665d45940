-- It hands out the numbers of what `cell_pages` gives.
use Rattle.std.proofs.Common.{◌≡◌, Bool, true, false, refl}
use mir.Val.{bool_byte}
use Rattle.std.specs.Prelude.{Ok, Err}
use Rattle.tollgilt.specs.Cells.{flag_number, answered}
use Rattle.tollgilt.proofs.CellLaws.{handed}
use Rattle.tollgilt.proofs.border.tollgilt_cell.Goals as goal

flag : (b : Bool) → bool_byte b ≡ flag_number b
flag true = refl
flag false = refl

pub returns-in-Ok : goal.returns-in-Ok
returns-in-Ok c =
    let a = c.args in
    rw (c.number-source.ensures, flag c.in-Ok.c.more, flag c.in-Ok.c.zero)
    (handed (answered a.out.now a.buffer.now a.starts.now a.lens.now a.catalogue.now a.row a.field a.which) a.out.now (Ok c.in-Ok.c) _ c.in-Ok.ensures)

pub returns-in-Err : goal.returns-in-Err
returns-in-Err c =
    let a = c.args in
    handed (answered a.out.now a.buffer.now a.starts.now a.lens.now a.catalogue.now a.row a.field a.which) a.out.now (Err c.in-Err.e) _ c.in-Err.ensures
