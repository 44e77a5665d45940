use Rattle.std.proofs.Common.{◌∙◌, List, length, arith, sym, ap}
use Rattle.paper.specs.Plan.{Row}
use Rattle.reader.specs.Joining.{said}
use Rattle.reader.proofs.JoiningLaws.{no_page, page_rows}
use Rattle.reader.proofs.TakenLaws.{called}
use Rattle.reader.proofs.joining.rows_of.Goals as goal

pub returns-in_default : goal.returns-in_default
returns-in_default c =
    let a = c.args in
    (sym (ap (λ (l : List Row). length l) (no_page (called c.requires.1) a.k (c.in_default.ensures (said a.buffer.now a.starts.now a.lens.now) c.requires.2))), omega arith)

pub returns : goal.returns
returns c =
    let a = c.args in
    let P = c.in-Some.ensures (said a.buffer.now a.starts.now a.lens.now) c.requires.2 in
    (c.count_rows.ensures.0 ∙ sym (ap (λ (l : List Row). length l) (page_rows (called c.requires.1) a.k P.0 P.1 c.page_at-page.ensures)), c.count_rows.ensures.1)
