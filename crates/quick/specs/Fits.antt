-- Fits: whether the fields of an element go together, by their numbers on the tape.
-- Assumes nothing.
use Rattle.std.specs.Prelude.{◌≡◌, Bool, not, List, ℕ, ◌+◌, ◌*◌, eqb, length, get_or}
use Rattle.paper.specs.Grammar.{Attr}
use Rattle.paper.specs.Fields.{Kind, fields_of}
use Rattle.paper.specs.Judging.{names, slots_of}
use Rattle.sheet.specs.Fold.{flaw}
use Rattle.tape.specs.Tape.{Holds}

-- field j of the slots that begin at i has a value that counts
abbrev pub present : List ℕ → ℕ → ℕ → Bool
present t i j = not (eqb (get_or t (i + 2 * j) 0) (get_or t (i + 2 * j + 1) 0))

-- whatever attributes the slots hold, they have no fault
abbrev pub Fits : List ℕ → List ℕ → Kind → List ℕ → ℕ → Type 0
Fits w side k t i = (l : List Attr) → Holds w side (length side) k t i l → flaw k (names l) (slots_of (fields_of k) l) ≡ 9
