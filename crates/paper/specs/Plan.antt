-- Plan: document 01, "The plan, and when two are the same". A plan is a head and rows, and these are values: two plans are the same exactly
-- when they are equal. A slot is a value's bytes, [] if it is absent; an element's slots stand in the table's order.
-- Assumes nothing.
use Rattle.std.specs.Prelude.{Bool, true, false, ◌&&◌, List, [], ◌∷◌, ℕ, eqb}
use Prim.Native.String as Str
use Rattle.paper.specs.Lists.{bytes, same, is_empty, if}
use Rattle.paper.specs.Fields.{Kind, M, Field, fields_of}

-- the values of an element
abbrev pub Slots : Type 0
Slots = List (List ℕ)

-- "The head is MP without a and z, and P, A, O." (The edition is 027 for every plan.)
pub record Head : Type 0 where
  pub patch : ℕ
  pub ident : List ℕ
  pub lang : List ℕ
  pub person : Slots
  pub author : Slots
  pub measures : Slots

-- a row: kind S is a heading row, else M, R or X. The package number is a number, 0 if there is none, and its field has no slot;
-- ws has the slots of each W.
pub record Row : Type 0 where
  pub kind : Kind
  pub pzn : ℕ
  pub slots : Slots
  pub ws : List Slots

-- a plan
pub record Plan : Type 0 where
  pub head : Head
  pub rows : List Row

-- two elements agree as values
abbrev pub same_slots : Slots → Slots → Bool
same_slots [] [] = true
same_slots [] (y ∷ t) = false
same_slots (x ∷ s) [] = false
same_slots (x ∷ s) (y ∷ t) = same x y && same_slots s t

-- two heads agree as values
abbrev pub same_head : Head → Head → Bool
same_head a b = eqb a.patch b.patch && same a.ident b.ident && same a.lang b.lang
    && same_slots a.person b.person && same_slots a.author b.author && same_slots a.measures b.measures

-- the slot of the field with those letters
abbrev pub slot : List ℕ → List Field → Slots → List ℕ
slot n [] vs = []
slot n (f ∷ fs) [] = []
slot n (f ∷ fs) (v ∷ vs) = if (same n f.letters) v (slot n fs vs)

-- an element that is not there
abbrev pub blank : List Field → Slots
blank [] = []
blank (f ∷ fs) = [] ∷ blank fs

-- the letters of the slots that are present
abbrev pub names_of : List Field → Slots → List (List ℕ)
names_of [] vs = []
names_of (f ∷ fs) [] = []
names_of (f ∷ fs) ([] ∷ vs) = names_of fs vs
names_of (f ∷ fs) ((c ∷ v) ∷ vs) = f.letters ∷ names_of fs vs

-- "So a row's dose is either four times of day, or one free text, or not stated."
pub data Dose : Type 0 where
  scheme : List ℕ → List ℕ → List ℕ → List ℕ → Dose
  free_text : List ℕ → Dose
  unstated : Dose

-- "With all four times absent it is not stated."
abbrev pub timed : List ℕ → List ℕ → List ℕ → List ℕ → Dose
timed m d v h = if (is_empty m && (is_empty d && (is_empty v && is_empty h))) unstated (scheme m d v h)

-- a row whose free text is present has no times
abbrev pub dose_from : List ℕ → List ℕ → List ℕ → List ℕ → List ℕ → Dose
dose_from m d v h [] = timed m d v h
dose_from m d v h (c ∷ t) = free_text (c ∷ t)

-- the dose of a medication row
abbrev pub dose_of : Row → Dose
dose_of r = dose_from (time "m") (time "d") (time "v") (time "h") (time "t")
  where
    time : Str.String → List ℕ
    time n = slot (bytes n) (fields_of M) ([] ∷ r.slots)
