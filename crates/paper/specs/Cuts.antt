-- Cuts: document 01, "A cut, here and in our demands, divides the rows in their order into pages spelled in just this way." Any such division,
-- not only the one that the writer makes; a part may also be empty.
-- Assumes nothing.
use Rattle.std.specs.Prelude.{◌≡◌, List, [], ◌∷◌, ℕ, suc, ◌≤◌, length}
use Rattle.paper.specs.Lists.{concat}
use Rattle.paper.specs.Plan.{Head, Row}
use Rattle.paper.specs.Writing.{page}
use Rattle.paper.specs.Sizes.{page_bytes}

-- pages a, a + 1, … of z, spelled, are each at most 1,400 bytes long
abbrev pub Fits : Head → ℕ → ℕ → List (List Row) → Type 0
Fits h z a [] = Unit {0}
Fits h z a (q ∷ qs) = (length (page h q a z) ≤ page_bytes) × Fits h z (suc a) qs

-- a cut of the rows into k pages, one at least
pub record Cut (h : Head) (l : List Row) (k : ℕ) : Type 0 where
  pub parts : List (List Row)
  pub whole : concat parts ≡ l
  pub fit : Fits h k 1 parts
  pub count : length parts ≡ k
  pub one : 1 ≤ k

-- a cut into at most n pages
abbrev pub Cut≤ : Head → List Row → ℕ → Type 0
Cut≤ h l n = (k : ℕ) × Cut h l k × (k ≤ n)
