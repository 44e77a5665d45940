-- Judging decides, then the page is taken in.
use Rattle.tape.proofs.PageLaws.{fine_sheet}
use Rattle.collector.proofs.KeepLaws.{says, promised_same, size_placeless, adds_refused, adds_taken}
use Rattle.collector.proofs.adding.add_bytes.Goals as goal

pub take_in-requires : goal.take_in-requires
take_in-requires c = fine_sheet c.args.page.now c.in-Ok.ensures

pub returns-in-Ok : goal.returns-in-Ok
returns-in-Ok c = rw (← adds_taken c.args.c c.args.page.now (says c.args.page.now (fine_sheet c.args.page.now c.in-Ok.ensures))) c.take_in.ensures

pub of_page-requires : goal.of_page-requires
of_page-requires c = size_placeless c.args.page.now c.in-Err.fault c.in-Err.ensures

pub returns-in-Err : goal.returns-in-Err
returns-in-Err c =
    promised_same _ _ _ _ _ c.unchanged.ensures.0 c.unchanged.ensures.1
    (adds_refused c.args.c c.args.page.now c.in-Err.fault c.of_page.result c.in-Err.ensures c.of_page.ensures)
