-- Flaws: the words in which the functions tell the faults of an element's own tag by the raw values of its attributes. What `flaw_of` itself promises
-- is Fold's `flaw`.
-- Assumes nothing.
use Rattle.std.specs.Prelude.{Bool, false, ◌&&◌, ◌||◌, List, [], ◌∷◌, ℕ, eqb, ltb, length, get_or}
use Rattle.paper.specs.Lists.{if}
use Rattle.paper.specs.Fields.{Kind, Rule, Field, fields_of}
use Rattle.paper.specs.Rules.{is_zero}
use Rattle.paper.specs.Plan.{Slots}
use Rattle.paper.specs.Judging.{broken, missing, mp_over, mp_half}
use Rattle.fields.specs.Places.{ones_of, others_of}
use Rattle.sheet.specs.Found.{standing}

-- the value that counts under a rule
abbrev pub settle_by : Rule → List ℕ → List ℕ
settle_by r v = if (is_zero r v) [] v

-- the least fault of the fields: 7 if some value breaks its field, else 8 if one is missing, else m
unfoldable pub fields_flaw : ℕ → List Field → Slots → ℕ
fields_flaw m fs vs = if (broken fs vs) 7 (if (missing fs vs) 8 m)

-- the fault of the page's number and the count of pages: 7 if a is above z, else 8 if one stands without the other, else 9
unfoldable pub pages_flaw : Kind → Slots → ℕ
pages_flaw k vs = if (mp_over k vs) 7 (if (mp_half k vs) 8 9)

-- the same of their digits, 0 for an absent one
unfoldable pub digits_flaw : ℕ → ℕ → ℕ
digits_flaw a z = if (eqb z 0) (if (eqb a 0) 9 8) (if (eqb a 0) 8 (if (ltb z a) 7 9))

-- both fields of some pair are there, by the places of the one and of the other
abbrev pub clash_there : List ℕ → List ℕ → List Bool → Bool
clash_there [] others ts = false
clash_there (a ∷ ones) [] ts = false
clash_there (a ∷ ones) (b ∷ others) ts = (get_or ts a false && get_or ts b false) || clash_there ones others ts

-- two excluded fields of an element are there, by numbers from place i on
unfoldable pub clash_at : Kind → List ℕ → ℕ → Bool
clash_at k t i = clash_there (ones_of k) (others_of k) (standing (length (fields_of k)) t i)
