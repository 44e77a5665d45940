-- Paired: numbers two by two, from a place on. `pairs_at` and `EachPair` are the interface.
-- Assumes nothing.
use Rattle.std.specs.Prelude.{List, [], ◌∷◌, ℕ, zero, suc, ◌+◌, get_or}

-- what n pairs of numbers tell, from place i of the numbers t on
abbrev pub pairs_at : {A : Type 0} → (ℕ → ℕ → A) → ℕ → List ℕ → ℕ → List A
pairs_at f zero t i = []
pairs_at f (suc n) t i = f (get_or t i 0) (get_or t (i + 1) 0) ∷ pairs_at f n t (i + 2)

-- each of n pairs of numbers has a property, from place i of the numbers t on
abbrev pub EachPair : (ℕ → ℕ → Type 0) → ℕ → List ℕ → ℕ → Type 0
EachPair P zero t i = Unit {0}
EachPair P (suc n) t i = P (get_or t i 0) (get_or t (i + 1) 0) × EachPair P n t (i + 2)
