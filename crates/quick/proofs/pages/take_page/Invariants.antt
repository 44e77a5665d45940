-- Whatever tags may follow may follow those passed so far.
use Rattle.std.proofs.Common.{◌-◌, length}
use Rattle.quick.specs.Stepped.{On}
use Rattle.quick.proofs.pages.take_page.Given as goal

abbrev pub invariant-loop-st : goal.invariant-loop-st
invariant-loop-st l = On l.page l.fn.tape l.tape l.fn.side l.side l.used l.m l.first l.f l.i l.st

abbrev pub decreases-loop-st : goal.decreases-loop-st
decreases-loop-st l = length l.page - l.i
