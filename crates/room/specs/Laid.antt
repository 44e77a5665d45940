-- Laid: bytes or numbers written into a lent room from a place on, all else as it was. `laid` is the interface.
-- Assumes nothing.
use Rattle.std.specs.Prelude.{List, ◌++◌, ℕ, ◌+◌, length, take, drop}

-- the room with p from place `at` on
abbrev pub laid : {A : Type 0} → List A → ℕ → List A → List A
laid room at p = take at room ++ (p ++ drop (at + length p) room)
