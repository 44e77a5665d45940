-- Where the first page has no fault, counts and heads decide.
use Rattle.markup.specs.Walk.{tags_at}
use Rattle.sheet.specs.Content.{content_of}
use Rattle.tape.proofs.PageLaws.{fine_sheet}
use Rattle.collector.proofs.KeepLaws.{says, refused_first, by_heads}
use Rattle.collector.proofs.adding.agrees.Goals as goal

pub belong-requires : goal.belong-requires
belong-requires c = (fine_sheet c.args.first.now c.in-Ok.ensures, c.requires)

pub returns-in-Ok : goal.returns-in-Ok
returns-in-Ok c = by_heads c.args.page.now c.args.first.now c.belong.result (says c.args.first.now (fine_sheet c.args.first.now c.in-Ok.ensures)) c.belong.ensures

pub returns-in-Err : goal.returns-in-Err
returns-in-Err c = refused_first (content_of (tags_at c.args.page.now 0)) c.args.first.now _ _ c.in-Err.ensures
