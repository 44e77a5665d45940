use Rattle.fields.proofs.DateLaws.{leap_february, short_february}
use Rattle.fields.proofs.dates.month_days.Goals as goal

pub returns-in-2 : goal.returns-in-2
returns-in-2 c = leap_february c.args.y c.args.m c.in-2.is c.if-is_leap.ensures

pub returns-in-2-2 : goal.returns-in-2-2
returns-in-2-2 c = short_february c.args.y c.args.m c.in-2.is c.if-is_leap.ensures
