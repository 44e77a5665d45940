-- Cited: every field that a definition cites by its letters stands in the table. A letter that does not would read as an absent value, without a word.
-- Assumes nothing.
use mathlib.Core.Path.{◌≡◌, refl}
use mathlib.Core.Bool.{Bool, true, ◌&&◌}
use mathlib.Core.List.{List, [], ◌∷◌}
use Prim.Native.Nat.{ℕ}
use Rattle.paper.specs.Lists.{bytes, elem, every}
use Rattle.paper.specs.Fields.{Kind, MP, P, A, O, S, M, W, R, X, fields_of, excluded}
use Rattle.paper.specs.Judging.{letters_of}

-- an element and the letters of one of its fields
pub record Citation : Type 0 where
  pub of : Kind
  pub letters : List ℕ

abbrev cite : Kind → List ℕ → Citation
cite k n = record { of = k; letters = n }

-- the fields that the definitions of `specs` cite by their letters
abbrev pub cited : List Citation
cited =
    cite MP (bytes "v") ∷ cite MP (bytes "p") ∷ cite MP (bytes "U") ∷ cite MP (bytes "l") ∷ cite MP (bytes "a") ∷ cite MP (bytes "z")
    ∷ cite M (bytes "p") ∷ cite M (bytes "a") ∷ cite M (bytes "fd") ∷ cite M (bytes "m") ∷ cite M (bytes "d") ∷ cite M (bytes "v") ∷ cite M (bytes "h") ∷ cite M (bytes "t")
    ∷ cite W (bytes "w") ∷ cite W (bytes "s") ∷ []

-- the letters stand in the element's part of the table
abbrev pub in_table : Citation → Bool
in_table c = elem c.letters (letters_of (fields_of c.of))

-- each of them stands in the table
pub all_cited : every in_table cited ≡ true
unfolding fields_of
all_cited = refl

-- both fields of each excluded pair stand in the table
pub all_excluded : every (λ k. every (λ p. in_table (cite k p.0) && in_table (cite k p.1)) (excluded k)) (MP ∷ P ∷ A ∷ O ∷ S ∷ M ∷ W ∷ R ∷ X ∷ []) ≡ true
unfolding fields_of
all_excluded = refl
