-- The run of ordinary bytes that a quote ends is a plain value.
use Rattle.quoted.proofs.PlainLaws.{plainly}
use Rattle.quoted.proofs.plain_value.Goals as goal

pub returns-then-page-quote : goal.returns-then-page-quote
returns-then-page-quote c =
    let a = c.args in
    let O = c.ordinary_end-quote.ensures in
    let T = c.trimmed-end.ensures in
    plainly a.page.now a.at a.q _ c.trimmed-end.result c.requires.2 O.0 c.if-quote-page.true c.if-page-quote.true T.0 T.1 T.2
