use Rattle.paper.specs.Rules.{full_date, partial_date}
use Rattle.fields.proofs.DateLaws.{either_first, either_second}
use Rattle.fields.proofs.dates.born.Goals as goal

pub returns-then-full_date : goal.returns-then-full_date
returns-then-full_date c =
    let a = c.args in
    either_first (full_date a.y a.m a.d) (partial_date a.y a.m a.d) c.full_date.result c.full_date.ensures c.if-full_date.true

pub returns-else-full_date : goal.returns-else-full_date
returns-else-full_date c =
    let a = c.args in
    either_second (full_date a.y a.m a.d) (partial_date a.y a.m a.d) c.full_date.result c.partial_date.result c.full_date.ensures c.if-full_date.false c.partial_date.ensures
