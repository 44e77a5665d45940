-- Alike: lists that begin alike have the same numbers there.
-- Assumes nothing.
use mathlib.Core.Path.{◌≡◌, sym, ap, ◌∙◌}
use mathlib.Core.List.{List}
use Prim.Native.Nat.{ℕ, ◌≤◌, ◌<◌}
use lib.ListN.{take, get_or}
use lib.Seq.{get_or-take, take-take}

-- two lists agree from a place on, up to another
abbrev pub Agree : List ℕ → List ℕ → ℕ → ℕ → Type 0
Agree t u i j = (k : ℕ) → i ≤ k → k < j → get_or u k 0 ≡ get_or t k 0

-- a number before the place up to which two lists are the same
pub same_before : (t u : List ℕ) (n i : ℕ) → take n u ≡ take n t → i < n → get_or u i 0 ≡ get_or t i 0
same_before t u n i e h = sym (get_or-take n u i 0 h) ∙ ap (λ (x : List ℕ). get_or x i 0) e ∙ get_or-take n t i 0 h

-- all numbers from a place on up to there
pub agree : (t u : List ℕ) (i j : ℕ) → take j u ≡ take j t → Agree t u i j
agree t u i j e k a b = same_before t u j k e b

-- lists that are the same up to a place are so up to an earlier one
pub take_more : (s s' : List ℕ) (m b : ℕ) → b ≤ m → take m s' ≡ take m s → take b s' ≡ take b s
take_more s s' m b h e = sym (take-take b m s' h) ∙ ap (take b) e ∙ take-take b m s h
