-- Grammar: document 01, "Bytes and spelling". What a well-formed page is, as a relation between its bytes and its tags.
-- Assumes nothing.
use Rattle.std.specs.Prelude.{◌≡◌, Bool, true, false, not, ◌&&◌, ◌||◌, List, [], ◌∷◌, ◌++◌, ℕ, ◌-◌, eqb, leb, length}
use Rattle.paper.specs.Lists.{bytes, All}
use Rattle.paper.specs.Bytes.{is_space, is_digit, is_letter, is_allowed}

-- an attribute as it stands: its name, and the bytes between its quotes
pub record Attr : Type 0 where
  pub name : List ℕ
  pub raw : List ℕ

-- a tag; the number of a start tag is how many bytes of the page there are from its `<` on
pub data Tag : Type 0 where
  start : ℕ → List ℕ → List Attr → Tag
  end : Tag

-- one of the four spaces
abbrev pub Space : ℕ → Type 0
Space c = is_space c ≡ true

-- "A name is a letter, then letters or digits; case counts."
abbrev pub is_name_byte : ℕ → Bool
is_name_byte c = is_letter c || is_digit c

-- "hexadecimal in either case"
abbrev pub is_hex : ℕ → Bool
is_hex c = is_digit c || (leb 65 c && leb c 70) || (leb 97 c && leb c 102)

-- the byte passes the test
abbrev pub Pass : (ℕ → Bool) → ℕ → Type 0
Pass p c = p c ≡ true

-- a name: a letter, then letters or digits
abbrev pub Name : List ℕ → Type 0
Name [] = ⊥
Name (c ∷ n) = (is_letter c ≡ true) × All (Pass is_name_byte) n

-- one byte or more, and each passes the test
abbrev pub Some : (ℕ → Bool) → List ℕ → Type 0
Some p [] = ⊥
Some p (c ∷ s) = (p c ≡ true) × All (Pass p) s

-- "References: amp, lt, gt, quot, apos, and decimal or hexadecimal (`&#N;`, `&#xN;`, one digit or more …); any other is malformed."
-- The bytes behind the `&`.
pub data Ref : List ℕ → Type 0 where
  amp : Ref (bytes "amp;")
  lt : Ref (bytes "lt;")
  gt : Ref (bytes "gt;")
  quot : Ref (bytes "quot;")
  apos : Ref (bytes "apos;")
  dec : (s : List ℕ) → Some is_digit s → Ref (35 ∷ (s ++ 59 ∷ []))
  hex : (s : List ℕ) → Some is_hex s → Ref (35 ∷ 120 ∷ (s ++ 59 ∷ []))

-- a byte that stands for itself in a value in quotes q: not that quote, no raw `<`, no `&`
abbrev pub is_plain : ℕ → ℕ → Bool
is_plain q c = is_allowed c && not (eqb c q) && not (eqb c 60) && not (eqb c 38)

-- the bytes between two quotes q
pub data Raw (q : ℕ) : List ℕ → Type 0 where
  end : Raw q []
  plain : {c : ℕ} {r : List ℕ} → is_plain q c ≡ true → Raw q r → Raw q (c ∷ r)
  ref : (s : List ℕ) {r : List ℕ} → Ref s → Raw q r → Raw q (38 ∷ (s ++ r))

-- "A value stands in double or single quotes."
pub data Quote : ℕ → Type 0 where
  double : Quote 34
  single : Quote 39

-- what may stand between a tag's name and its `>` or `/>`: "at least one space stands before each attribute, and spaces may stand
-- around `=` and before `>` or `/>`". The flag says that a space stands before.
pub data Attrs : Bool → List ℕ → List Attr → Type 0 where
  end : {b : Bool} → Attrs b [] []
  space : {b : Bool} {c : ℕ} {w : List ℕ} {l : List Attr} → Space c → Attrs true w l → Attrs b (c ∷ w) l
  attr : (n u v : List ℕ) (q : ℕ) (r : List ℕ) {w : List ℕ} {l : List Attr} → Name n → All Space u → All Space v → Quote q → Raw q r → Attrs false w l
      → Attrs true (n ++ (u ++ 61 ∷ (v ++ q ∷ (r ++ q ∷ w)))) (record { name = n; raw = r } ∷ l)

-- `Rest ns w t`: the names ns are open, innermost first; w is the rest of the page, t its tags. An element is self-closed (bare) or
-- paired (full), an end tag names its start tag (close), between tags stand spaces alone, and when nothing is open nothing but spaces follows.
pub data Rest : List (List ℕ) → List ℕ → List Tag → Type 0 where
  done : Rest [] [] []
  space : {ns : List (List ℕ)} {c : ℕ} {w : List ℕ} {t : List Tag} → Space c → Rest ns w t → Rest ns (c ∷ w) t
  bare : {m : List ℕ} {ns : List (List ℕ)} (n a : List ℕ) {l : List Attr} {w : List ℕ} {t : List Tag} → Name n → Attrs false a l → Rest (m ∷ ns) w t
      → Rest (m ∷ ns) (60 ∷ (n ++ (a ++ 47 ∷ 62 ∷ w))) (start (length (60 ∷ (n ++ (a ++ 47 ∷ 62 ∷ w)))) n l ∷ end ∷ t)
  full : {m : List ℕ} {ns : List (List ℕ)} (n a : List ℕ) {l : List Attr} {w : List ℕ} {t : List Tag} → Name n → Attrs false a l → Rest (n ∷ m ∷ ns) w t
      → Rest (m ∷ ns) (60 ∷ (n ++ (a ++ 62 ∷ w))) (start (length (60 ∷ (n ++ (a ++ 62 ∷ w)))) n l ∷ t)
  close : {ns : List (List ℕ)} (n u : List ℕ) {w : List ℕ} {t : List Tag} → All Space u → Rest ns w t → Rest (n ∷ ns) (60 ∷ 47 ∷ (n ++ (u ++ 62 ∷ w))) (end ∷ t)

-- "A well-formed page is one element, with spaces allowed before and after it and between tags …"
pub data Page : List ℕ → List Tag → Type 0 where
  space : {c : ℕ} {w : List ℕ} {t : List Tag} → Space c → Page w t → Page (c ∷ w) t
  bare : (n a : List ℕ) {l : List Attr} {w : List ℕ} {t : List Tag} → Name n → Attrs false a l → Rest [] w t
      → Page (60 ∷ (n ++ (a ++ 47 ∷ 62 ∷ w))) (start (length (60 ∷ (n ++ (a ++ 47 ∷ 62 ∷ w)))) n l ∷ end ∷ t)
  full : (n a : List ℕ) {l : List Attr} {w : List ℕ} {t : List Tag} → Name n → Attrs false a l → Rest (n ∷ []) w t
      → Page (60 ∷ (n ++ (a ++ 62 ∷ w))) (start (length (60 ∷ (n ++ (a ++ 62 ∷ w)))) n l ∷ t)

-- the tags of a page of k bytes, each with the place of its `<`, counted from 0, for the number of bytes from it on
abbrev pub placed : ℕ → List Tag → List Tag
placed k [] = []
placed k (start i n l ∷ t) = start (k - i) n l ∷ placed k t
placed k (end ∷ t) = end ∷ placed k t
