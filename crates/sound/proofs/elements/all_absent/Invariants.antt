-- The loop of `sound::elements::all_absent`: all are absent exactly when the rest is.
-- Assumes nothing.
use Rattle.std.proofs.Common.{◌≡◌, ◌+◌, ◌-◌}
use Rattle.sound.specs.Judged.{absent_from}
use Rattle.sound.proofs.elements.all_absent.Given as goal

abbrev pub invariant-loop-i : goal.invariant-loop-i
invariant-loop-i l = absent_from l.count l.j l.numbers ≡ absent_from (l.count - l.i) (l.j + l.i) l.numbers
