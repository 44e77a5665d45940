-- The loop of `sound::first_bad`: the first bad row is the first one from here on.
-- Assumes nothing.
use Rattle.std.proofs.Common.{◌≡◌, ◌+◌, ◌*◌, ◌-◌, drop}
use Rattle.sound.specs.Sound.{first_bad_in}
use Rattle.sound.proofs.first_bad.Given as goal

abbrev pub invariant-loop-i : goal.invariant-loop-i
invariant-loop-i l = first_bad_in 1 l.text l.n l.rows ≡ first_bad_in (1 + l.i) l.text (l.n - l.i) (drop (l.i * 48) l.rows)
