-- Each attribute ends behind where it began, within the page.
use Rattle.std.proofs.Common.{◌≤◌, length, ◌-◌}
use Rattle.markup_main.proofs.show_attrs.Given as goal

abbrev pub invariant-loop-shut : goal.invariant-loop-shut
invariant-loop-shut g l = l.i ≤ length l.page

abbrev pub decreases-loop-shut : goal.decreases-loop-shut
decreases-loop-shut g l = length l.page - l.i
