-- Passed: parts of a page that are surely well-formed, told by the grammar: whatever may follow, may follow them.
-- Assumes nothing.
use Rattle.std.specs.Prelude.{◌≡◌, true, false, List, [], ◌∷◌, ℕ, ◌≤◌, ◌<◌, eqb, ltb, length}
use Rattle.std.proofs.Math.Seq.{slice}
use Rattle.paper.specs.Lists.{if}
use Rattle.paper.specs.Bytes.{is_letter}
use Rattle.paper.specs.Grammar.{Attr, Attrs, Tag, Name, Page}
use Rattle.fields.specs.Places.{kind_at}
use Rattle.sheet.specs.Fold.{kind_under}
use Rattle.sheet.specs.Content.{kind_named}

-- ---- attributes

-- the bytes of w from i up to r are what stands in a start tag behind its name
pub record InsideAt (w : List ℕ) (i r : ℕ) : Type 0 where
  pub said : List Attr
  pub within : (i ≤ r) × (r < length w)
  pub derives : Attrs false (slice i r w) said

-- ---- the open elements, told by the number of the innermost

-- the element around an element
abbrev pub parent_of : ℕ → ℕ
parent_of c = if (ltb c 2) 0 (if (ltb c 6) 1 (if (eqb c 7) 6 5))

-- the name of an element
abbrev pub name_of : ℕ → List ℕ
name_of c = if (eqb c 1) (77 ∷ 80 ∷ []) (if (eqb c 2) (80 ∷ []) (if (eqb c 3) (65 ∷ []) (if (eqb c 4) (79 ∷ []) (if (eqb c 5) (83 ∷ [])
    (if (eqb c 6) (77 ∷ []) (if (eqb c 7) (87 ∷ []) (if (eqb c 8) (82 ∷ []) (88 ∷ []))))))))

-- the names of the open elements, innermost first
unfoldable pub open_names : ℕ → List (List ℕ)
open_names c = if (eqb c 0) [] (if (eqb c 1) (name_of 1 ∷ []) (if (ltb c 6) (name_of c ∷ name_of 1 ∷ [])
    (if (eqb c 7) (name_of 7 ∷ name_of 6 ∷ name_of 5 ∷ name_of 1 ∷ []) (name_of c ∷ name_of 5 ∷ name_of 1 ∷ []))))

-- the element of number r, whose name is the letter b, may stand where c is the innermost open one
pub record Kid (c b r : ℕ) : Type 0 where
  pub letter : is_letter b ≡ true
  pub top : List ℕ
  pub rest : List (List ℕ)
  pub around : open_names c ≡ top ∷ rest
  pub names : open_names r ≡ (b ∷ []) ∷ open_names c
  pub outer : parent_of r ≡ c
  pub kind : kind_under c (b ∷ []) ≡ kind_at r
  pub named : kind_named (b ∷ []) ≡ kind_at r
  pub low : r < 10

-- the bytes of w from i up to r are the name of the innermost open element, which is c
pub record NameAt (w : List ℕ) (i c r : ℕ) : Type 0 where
  pub within : (i < r) × (r ≤ length w)
  pub name : Name (slice i r w)
  pub names : open_names c ≡ slice i r w ∷ open_names (parent_of c)

-- the bytes of w are a page
pub record PageAt (w : List ℕ) : Type 0 where
  pub said : List Tag
  pub derives : Page w said
