use Rattle.std.proofs.Common.{◌-◌, arith}
use Rattle.page.proofs.ContentLaws.{room_one, one_laid}
use Rattle.page.proofs.values.lay_one.Goals as goal

pub returns : goal.returns
returns c =
    let a = c.args in
    let L = c.lay-e in
    one_laid a.v.now _ _ a.n L.result (L.result - a.n) c.start_of-start.result _ a.at L.ensures.0 L.ensures.1 (omega (arith, L.ensures.0)) c.start_of-start.ensures c.requires.1
