-- Lists: quoted text as bytes, and the few words on lists and tests that the definitions are written in.
-- Assumes nothing.
use Rattle.std.specs.Prelude.{Bool, true, false, ◌&&◌, ◌||◌, List, [], ◌∷◌, ◌++◌, ℕ, suc, ◌+◌, ◌*◌, ◌-◌, eqb}
use Prim.Native.String as Str
use Prim.Native.Char as Chr

-- quoted text as bytes
abbrev pub bytes : Str.String → List ℕ
bytes Str.[] = []
bytes (Str.◌∷◌ c s) = Chr.code c ∷ bytes s

-- the first where the test holds, else the second
abbrev pub if : {A : Type 0} → Bool → A → A → A
if true a b = a
if false a b = b

-- every member has the property
abbrev pub All : (ℕ → Type 0) → List ℕ → Type 0
All P [] = Unit {0}
All P (x ∷ xs) = P x × All P xs

-- two byte lists are the same
abbrev pub same : List ℕ → List ℕ → Bool
same [] [] = true
same [] (y ∷ t) = false
same (x ∷ s) [] = false
same (x ∷ s) (y ∷ t) = eqb x y && same s t

-- no byte at all: an absent value
abbrev pub is_empty : List ℕ → Bool
is_empty [] = true
is_empty (x ∷ s) = false

-- the byte list stands among these
abbrev pub elem : List ℕ → List (List ℕ) → Bool
elem x [] = false
elem x (y ∷ l) = same x y || elem x l

-- some byte list stands here twice
abbrev pub twice : List (List ℕ) → Bool
twice [] = false
twice (x ∷ l) = elem x l || twice l

module _ {A : Type 0} where
  -- every member passes the test
  abbrev pub every : (A → Bool) → List A → Bool
  every p [] = true
  every p (x ∷ l) = p x && every p l

  -- some member passes the test
  abbrev pub some_of : (A → Bool) → List A → Bool
  some_of p [] = false
  some_of p (x ∷ l) = p x || some_of p l

  -- the lists one behind the other
  abbrev pub concat : List (List A) → List A
  concat [] = []
  concat (p ∷ ps) = p ++ concat ps

-- how often a byte stands in a list
abbrev pub count : ℕ → List ℕ → ℕ
count b [] = 0
count b (x ∷ s) = if (eqb x b) (suc (count b s)) (count b s)

-- how many bytes stand before the first one that fails the test; all of them if none fails
abbrev pub until : (ℕ → Bool) → List ℕ → ℕ
until p [] = 0
until p (x ∷ s) = if (p x) (suc (until p s)) 0

-- digits as a number, behind what is read already
abbrev pub number : ℕ → List ℕ → ℕ
number a [] = a
number a (c ∷ s) = number (a * 10 + (c - 48)) s
