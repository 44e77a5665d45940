-- Two numbers tell the value, whether it is absent or lies in the side room.
use Rattle.std.proofs.Common.{arith}
use Rattle.tape.proofs.SlotLaws.{one_absent, one_there}
use Rattle.tape.proofs.values.lay_slot.Goals as goal

pub returns-then-e-used : goal.returns-then-e-used
returns-then-e-used c =
    let a = c.args in
    let r = c.requires in
    let X = c.lay_value-e.ensures in
    one_absent a.page.now _ a.tape.now a.side.now _ a.at a.used _ r.4 r.5 X.0 X.1 _ (omega (arith, r.0, r.1)) r.2 c.if-e-used.true

pub returns : goal.returns
returns c =
    let a = c.args in
    let r = c.requires in
    let X = c.lay_value-e.ensures in
    one_there a.page.now _ a.tape.now a.side.now _ a.at a.used _ r.4 r.5 X.0 X.1 r.6 c.if-e-used.false
