use Rattle.std.proofs.Common.{List, length, sym, subst}
use Rattle.paper.specs.Plan.{Row}
use Rattle.paper.specs.Layout.{rows_values}
use Rattle.page.specs.Laying.{Room, Fills}
use Rattle.reader.specs.Joining.{said}
use Rattle.reader.proofs.JoiningLaws.{no_page, page_rows, fills_empty, records_of}
use Rattle.reader.proofs.TakenLaws.{called, read_at}
use Rattle.reader.proofs.joining.fill_number.Goals as goal

pub returns-in_default : goal.returns-in_default
returns-in_default c =
    let a = c.args in
    fills_empty _ a.text.now a.rows.now a.n a.i (no_page (called c.requires.1) a.k (c.in_default.ensures (said a.buffer.now a.starts.now a.lens.now) c.requires.2)) c.requires.3 c.requires.4

pub fill_rows-requires : goal.fill_rows-requires
fill_rows-requires c =
    let a = c.args in
    let P = c.in-Some.ensures (said a.buffer.now a.starts.now a.lens.now) c.requires.2 in
    let q = page_rows (called c.requires.1) a.k P.0 P.1 c.page_at-page.ensures in
    (read_at c.requires.1 c.in-Some.p P.1 c.page_at-page.ensures, subst (λ (r : List Row). Room (rows_values r) a.text.now a.n) q c.requires.3, records_of _ _ a.i (length a.rows.now) q c.requires.4)

pub returns : goal.returns
returns c =
    let a = c.args in
    let P = c.in-Some.ensures (said a.buffer.now a.starts.now a.lens.now) c.requires.2 in
    let q = page_rows (called c.requires.1) a.k P.0 P.1 c.page_at-page.ensures in
    let R = c.fill_rows in
    subst (λ (r : List Row). Fills r a.text.now R.new.text a.n R.result.end a.rows.now R.new.rows a.i R.result.row) (sym q) R.ensures
