-- Runs: how far bytes that pass a test go, told from a place on, step by step.
-- Assumes nothing.
use mathlib.Core.Path.{◌≡◌}
use mathlib.Core.Bool.{Bool, true, false}
use mathlib.Core.List.{List}
use Prim.Native.Nat.{ℕ, ◌+◌, ◌≤◌, ◌<◌}
use native.Mathlib.Nat.{add-zero}
use native.Mathlib.Numerals.{add-one}
use native.Mathlib.Omega.{arith}
use lib.ListN.{length, get_or, drop, drop_of_length-le}
use lib.Seq.{drop-cons}
use Rattle.paper.specs.Lists.{until}

module _ (p : ℕ → Bool) (s : List ℕ) (i : ℕ) where
  -- the run ends here
  pub run_ends : i < length s → p (get_or s i 0) ≡ false → i + until p (drop i s) ≡ i
  run_ends h e = rw (drop-cons s i 0, e, until) (add-zero i)

  -- the run goes on
  pub run_on : i < length s → p (get_or s i 0) ≡ true → i + until p (drop i s) ≡ i + 1 + until p (drop (i + 1) s)
  run_on h e = rw (add-one, drop-cons s i 0, e, until) (omega arith)

  -- no byte is left
  pub run_over : length s ≤ i → i + until p (drop i s) ≡ i
  run_over h = rw (drop_of_length-le s h) (add-zero i)
