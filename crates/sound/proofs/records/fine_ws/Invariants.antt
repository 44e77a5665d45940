-- The loop of `sound::records::fine_ws`: the W are fine exactly when the rest is.
-- Assumes nothing.
use Rattle.std.proofs.Common.{◌≡◌, ◌+◌, ◌*◌, ◌-◌}
use Rattle.sound.specs.Judged.{fine_ws}
use Rattle.sound.proofs.records.fine_ws.Given as goal

abbrev pub invariant-loop-i : goal.invariant-loop-i
invariant-loop-i l = fine_ws l.text l.n 13 l.numbers ≡ fine_ws l.text (l.n - l.i) (13 + 2 * l.i) l.numbers
