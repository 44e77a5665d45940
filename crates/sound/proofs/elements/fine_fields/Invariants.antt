-- The loop of `sound::elements::fine_fields`: the fields are fine exactly when the rest is.
-- Assumes nothing.
use Rattle.std.proofs.Common.{◌≡◌, ◌+◌, ◌-◌}
use Rattle.sound.specs.Judged.{fine_from}
use Rattle.sound.proofs.elements.fine_fields.Given as goal

abbrev pub invariant-loop-i : goal.invariant-loop-i
invariant-loop-i l = fine_from l.text l.first l.count l.j l.numbers ≡ fine_from l.text (l.first + l.i) (l.count - l.i) (l.j + l.i) l.numbers
