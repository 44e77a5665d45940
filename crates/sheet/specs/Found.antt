-- Found: the attributes of one start tag by the fields of its element. By the theorem `slots_found` of proofs/FoundLaws they give paper's slots.
-- Assumes nothing.
use Rattle.std.specs.Prelude.{Bool, not, List, [], ◌∷◌, ◌≡◌, ℕ, ◌+◌, ◌*◌, ◌≤◌, eqb, length, get_or}
use Rattle.std.proofs.Math.Seq.{slice}
use Rattle.paper.specs.Lists.{if, same, elem}
use Rattle.paper.specs.Grammar.{Attr}
use Rattle.paper.specs.Fields.{Kind, Field, fields_of}
use Rattle.paper.specs.Values.{value}
use Rattle.paper.specs.Rules.{settle}
use Rattle.paper.specs.Plan.{Slots}
use Rattle.paper.specs.Judging.{names}
use Rattle.room.specs.Paired.{pairs_at, EachPair}

-- the raw bytes of the attribute of that name; none if it is not there
abbrev pub raw_of : List Attr → List ℕ → List ℕ
raw_of [] n = []
raw_of (a ∷ l) n = if (same a.name n) a.raw (raw_of l n)

-- the raw bytes of each field
abbrev pub raws_in : List Field → List Attr → List (List ℕ)
raws_in [] l = []
raws_in (f ∷ fs) l = raw_of l f.letters ∷ raws_in fs l

-- the values that count, field by field, of raw bytes in the table's order
abbrev pub settled_in : List Field → List (List ℕ) → Slots
settled_in [] rs = []
settled_in (f ∷ fs) [] = []
settled_in (f ∷ fs) (r ∷ rs) = settle f (value r) ∷ settled_in fs rs

-- whether each field stands in the tag, empty or not
abbrev pub there_in : List Field → List Attr → List Bool
there_in [] l = []
there_in (f ∷ fs) l = elem f.letters (names l) ∷ there_in fs l

-- ---- what the raw values of a tag tell: numbers t, two to each field of its element: where the value starts in the page and where it ends. No value starts
-- at 0: there are 0 and 0 where the attribute is not there

-- the raw bytes of field j
abbrev pub raw_at : List ℕ → List ℕ → ℕ → List ℕ
raw_at w t j = slice (get_or t (2 * j) 0) (get_or t (2 * j + 1) 0) w

-- the raw bytes of the first n fields
abbrev pub raws_at : List ℕ → ℕ → List ℕ → List (List ℕ)
raws_at w n t = pairs_at (λ (a b : ℕ). slice a b w) n t 0

-- the slots of an element of kind k whose attributes have these raw values in the page w
unfoldable pub told : List ℕ → Kind → List ℕ → Slots
told w k t = settled_in (fields_of k) (raws_at w (length (fields_of k)) t)

-- whether each of n attributes stands in the tag, by numbers from place i on
abbrev pub standing : ℕ → List ℕ → ℕ → List Bool
standing n t i = pairs_at (λ (a b : ℕ). not (eqb a 0)) n t i

-- the first n raw values lie in the page
abbrev pub Lie : List ℕ → ℕ → List ℕ → Type 0
Lie w n t = EachPair (λ (a b : ℕ). (a ≤ b) × (b ≤ length w)) n t 0

-- the raw values tell the attributes l of a tag of kind k in the page w
pub record Tells (w : List ℕ) (k : Kind) (t : List ℕ) (l : List Attr) : Type 0 where
  pub lie : Lie w (length (fields_of k)) t
  pub raws : raws_at w (length (fields_of k)) t ≡ raws_in (fields_of k) l
  pub there : standing (length (fields_of k)) t 0 ≡ there_in (fields_of k) l
