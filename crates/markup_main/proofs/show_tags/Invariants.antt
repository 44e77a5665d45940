-- Each tag stands behind the last, within the page.
use Rattle.std.proofs.Common.{◌≤◌, length, ◌-◌}
use Rattle.markup_main.proofs.show_tags.Given as goal

abbrev pub invariant-loop-at : goal.invariant-loop-at
invariant-loop-at g l = l.i ≤ length l.page

abbrev pub decreases-loop-at : goal.decreases-loop-at
decreases-loop-at g l = length l.page - l.i
