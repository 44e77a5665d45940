-- Written: what a function that writes into the lent room leaves there. `Wrote` is the interface.
-- Assumes nothing.
use Rattle.std.specs.Prelude.{◌≡◌, List, ℕ, ◌+◌, length}
use Rattle.room.specs.Laid.{laid}

-- the room o has become o': the bytes p stand in it from place a on, r is the place behind them, and all else is as it was
pub record Wrote (o o' : List ℕ) (a r : ℕ) (p : List ℕ) : Type 0 where
  pub behind : r ≡ a + length p
  pub room : o' ≡ laid o a p
