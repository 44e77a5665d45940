-- Tapes: the pages of a call, all of them on a tape.
-- Assumes nothing.
use Rattle.std.specs.Prelude.{◌≡◌, true, List, [], ℕ, ◌+◌, ◌<◌, ◌≤◌, length, get_or}
use Rattle.paper.specs.Calls.{inside, pages_at}
use Rattle.tape.specs.Making.{IsSheet}
use Rattle.page.specs.Walking.{Read}

-- every page is judged to a sheet
abbrev pub AllSheets : List (List ℕ) → Type 0
AllSheets ws = (k : ℕ) → k < length ws → IsSheet (get_or ws k [])

-- the pages of a call lie in its buffer, and page k lies on the tape from number k of `firsts` up to the next
pub record Taken (b ss ns side t firsts : List ℕ) : Type 0 where
  pub lie : inside b ss ns ≡ true
  pub nine : length ss ≤ 9
  pub each : (k : ℕ) → k < length ss → Read (get_or (pages_at b ss ns) k []) side t (get_or firsts k 0) (get_or firsts (k + 1) 0)
