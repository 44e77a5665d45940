-- Causes: document 01's table of refusal numbers in words. Each says what is the case, not how it is found; the theorems of Refusals say that the
-- numbers are given exactly then.
-- Assumes nothing.
use mathlib.Core.Path.{◌≡◌}
use mathlib.Core.Logic.{◌⊎◌, ◌≢◌}
use mathlib.Core.Bool.{true, false}
use mathlib.Core.List.{List, [], ◌∷◌, ◌++◌}
use Prim.Native.Nat.{ℕ, suc, ◌+◌, ◌≤◌, ◌<◌}
use lib.ListN.{length, take, get_or}
use Rattle.paper.specs.Lists.{bytes, every, number}
use Rattle.paper.specs.Bytes.{is_allowed}
use Rattle.paper.specs.Grammar.{Attr, Tag, start, end, Page, placed}
use Rattle.paper.specs.Fields.{Kind, unknown, MP, P, A, M, W, edition, Field, fields_of, excluded, Pair, most_of, later}
use Rattle.paper.specs.Rules.{keeps, settle}
use Rattle.paper.specs.Plan.{Row, Plan, slot}
use Rattle.paper.specs.Judging.{names, found, letters_of, Frame, Stack, kind_in, how_many, next, Sheet, refused, judge}
use Rattle.paper.specs.Reading.{joined}
use Rattle.paper.specs.Writing.{sound_head, sound_row}
use Rattle.paper.specs.Collecting.{Kept, Collector}
use Rattle.paper.specs.Cells.{CellField, substance, strength}
use Rattle.paper.proofs.Small.{Nth}
use Rattle.paper.proofs.Least.{Among}
use Rattle.paper.proofs.Longest.{IsPage}
use Rattle.paper.proofs.AnyOrder.{Each}

-- ---- the first of its kind

-- no number has the property
abbrev pub None : (ℕ → Type 0) → Type 0
None Q = (n : ℕ) → Q n → ⊥

-- "first such", "lowest": k has the property, and no number below k has it
abbrev pub Lowest : (ℕ → Type 0) → ℕ → Type 0
Lowest Q k = Q k × ((j : ℕ) → j < k → Q j → ⊥)

-- ---- 1

-- a call that hands in pages: "page count not 1..9, page outside the buffer, room too small"; or there are not as many lengths as starts
pub data Unread (TooSmall : Type 0) (b ss ns : List ℕ) : Type 0 where
  no_page : length ss ≡ 0 → Unread TooSmall b ss ns
  many : 9 < length ss → Unread TooSmall b ss ns
  unlike : length ss ≢ length ns → Unread TooSmall b ss ns
  outside : (j : ℕ) → j < length ss → j < length ns → length b < get_or ss j 0 + get_or ns j 0 → Unread TooSmall b ss ns
  no_room : TooSmall → Unread TooSmall b ss ns

-- a cell: "a field or row that does not exist"; rows count from 1, and only a medication has cells
pub data NoSuchCell (rs : List Row) (n : ℕ) (f : CellField) : Type 0 where
  no_row : (n ≡ 0) ⊎ (length rs < n) → NoSuchCell rs n f
  no_medication : (r : Row) → Nth rs n r → r.kind ≢ M → NoSuchCell rs n f
  none_of_three : (i : ℕ) → (f ≡ substance i) ⊎ (f ≡ strength i) → (i ≡ 0) ⊎ (3 < i) → NoSuchCell rs n f

-- ---- 2, 3, 4: the bytes of a page

-- "page empty or above 1,400"
abbrev pub BadSize : List ℕ → Type 0
BadSize w = (length w ≡ 0) ⊎ (1400 < length w)

-- "A page has 1 to 1,400 bytes"
abbrev pub Sized : List ℕ → Type 0
Sized w = (1 ≤ length w) × (length w ≤ 1400)

-- "a byte not allowed" stands at this place; places count from 0
abbrev pub NotAllowed : List ℕ → ℕ → Type 0
NotAllowed w i = (b : ℕ) × Nth w (suc i) b × (is_allowed b ≡ false)

-- all bytes are allowed
abbrev pub Allowed : List ℕ → Type 0
Allowed w = every is_allowed w ≡ true

-- some well-formed page, of whatever length, begins with the first n bytes
abbrev pub Shared : List ℕ → ℕ → Type 0
Shared w n = (n ≤ length w) × (z : List ℕ) × IsPage (take n w ++ z)

-- "length of the longest beginning that some well-formed page of any length shares"
abbrev pub LongestShared : List ℕ → ℕ → Type 0
LongestShared w i = Shared w i × ((n : ℕ) → i < n → Shared w n → ⊥)

-- ---- 5, 6, 7, 8: the elements of a page

-- 1 to 1,400 allowed bytes that are a well-formed page of these tags; a start tag has the place of its `<`
pub record Formed (w : List ℕ) (ts : List Tag) : Type 0 where
  pub sized : Sized w
  pub allowed : Allowed w
  pub tags : List Tag
  pub page : Page w tags
  pub places : placed (length w) tags ≡ ts

-- the elements that are open behind some tags, innermost first
abbrev pub opened : Stack → List Tag → Stack
opened st [] = st
opened st (t ∷ ts) = opened (next st t) ts

-- the kinds of the children that the innermost has so far, the last one first
abbrev pub children_so_far : Stack → List Kind
children_so_far [] = []
children_so_far (F ∷ st) = F.seen

-- an element whose `<` stands at i: the tags before it, its name and its attributes
pub record Element (ts : List Tag) (i : ℕ) : Type 0 where
  pub before : List Tag
  pub name : List ℕ
  pub attrs : List Attr
  pub after : List Tag
  pub whole : before ++ start i name attrs ∷ after ≡ ts

-- the kind that its name has where it stands
abbrev pub kind_of : {ts : List Tag} {i : ℕ} → Element ts i → Kind
kind_of E = kind_in (opened [] E.before) E.name

-- the kinds of its elder siblings
abbrev pub siblings : {ts : List Tag} {i : ℕ} → Element ts i → List Kind
siblings E = children_so_far (opened [] E.before)

-- the value of an attribute by its letters; [] if it is absent
abbrev pub value_of : {ts : List Tag} {i : ℕ} → Element ts i → List ℕ → List ℕ
value_of E n = found E.attrs n

-- the value of a field; [] if it is absent, as a dose of 0 is
abbrev pub given : {ts : List Tag} {i : ℕ} → Element ts i → Field → List ℕ
given E f = settle f (value_of E f.letters)

-- an element that an end tag closes, whose `<` stands at i; it has all its children by then
pub record Closed (ts : List Tag) (i : ℕ) : Type 0 where
  pub before : List Tag
  pub frame : Frame
  pub around : Stack
  pub after : List Tag
  pub whole : before ++ end ∷ after ≡ ts
  pub innermost : opened [] before ≡ frame ∷ around
  pub place : i ≡ frame.at

-- "element unknown, misplaced or too many; attribute unknown or twice"
pub data Five (ts : List Tag) (i : ℕ) : Type 0 where
  unknown_element : (E : Element ts i) → kind_of E ≡ unknown → Five ts i
  misplaced_element : (E : Element ts i) (k : Kind) → Among k (siblings E) → later (kind_of E) k ≡ true → Five ts i
  one_too_many : (E : Element ts i) → 1 ≤ most_of (kind_of E) → most_of (kind_of E) ≤ how_many (kind_of E) (siblings E) → Five ts i
  unknown_attribute : (E : Element ts i) (n : List ℕ) → Among n (names E.attrs) → (Among n (letters_of (fields_of (kind_of E))) → ⊥) → Five ts i
  attribute_twice : (E : Element ts i) (j k : ℕ) (n : List ℕ) → j < k → Nth (names E.attrs) j n → Nth (names E.attrs) k n → Five ts i

-- "v other than 027 or absent"
pub data Six (ts : List Tag) (i : ℕ) : Type 0 where
  other_edition : (E : Element ts i) → kind_of E ≡ MP → value_of E (bytes "v") ≢ edition → Six ts i

-- "value breaks its field, or a above z"
pub data Seven (ts : List Tag) (i : ℕ) : Type 0 where
  breaks_field : (E : Element ts i) (f : Field) → Among f (fields_of (kind_of E)) → given E f ≢ [] → keeps f (given E f) ≡ false → Seven ts i
  a_above_z : (E : Element ts i) → kind_of E ≡ MP → value_of E (bytes "z") ≢ [] → number 0 (value_of E (bytes "z")) < number 0 (value_of E (bytes "a")) → Seven ts i

-- "excluded pair, missing field or element, a without z, z without a"
pub data Eight (ts : List Tag) (i : ℕ) : Type 0 where
  excluded_pair : (E : Element ts i) (p : Pair) → Among p (excluded (kind_of E)) → Among p.0 (names E.attrs) → Among p.1 (names E.attrs) → Eight ts i
  missing_field : (E : Element ts i) (f : Field) → Among f (fields_of (kind_of E)) → f.must ≡ true → given E f ≡ [] → Eight ts i
  a_without_z : (E : Element ts i) → kind_of E ≡ MP → value_of E (bytes "a") ≢ [] → value_of E (bytes "z") ≡ [] → Eight ts i
  z_without_a : (E : Element ts i) → kind_of E ≡ MP → value_of E (bytes "a") ≡ [] → value_of E (bytes "z") ≢ [] → Eight ts i
  no_person : (C : Closed ts i) → C.frame.kind ≡ MP → how_many P C.frame.seen ≡ 0 → Eight ts i
  no_author : (C : Closed ts i) → C.frame.kind ≡ MP → how_many A C.frame.seen ≡ 0 → Eight ts i
  empty_medication : (C : Closed ts i) → C.frame.kind ≡ M → how_many W C.frame.seen ≡ 0
      → slot (bytes "p") (fields_of M) C.frame.slots ≡ [] → slot (bytes "a") (fields_of M) C.frame.slots ≡ [] → Eight ts i

-- ---- 9, 10, 11, 12: pages that are fine, each by itself

-- page k has a refusal of its own; pages count from 1
abbrev pub Refused : List (List ℕ) → ℕ → Type 0
Refused ws k = (w : List ℕ) × (n : ℕ) × (i : ℕ) × Nth ws k w × (judge w ≡ refused n i)

-- 1 to 9 pages, each without a refusal of its own: what the first says, and what the others say
pub record Handed (ws : List (List ℕ)) (s : Sheet) (l : List Sheet) : Type 0 where
  pub nine : length ws ≤ 9
  pub each : Each ws (s ∷ l)

-- "head or z differs"
abbrev pub Differs : Sheet → Sheet → Type 0
Differs t s = (t.head ≢ s.head) ⊎ (t.of ≢ s.of)

-- page k differs "from the first page handed in"
abbrev pub Other : Sheet → List Sheet → ℕ → Type 0
Other s l k = (t : Sheet) × Nth (s ∷ l) k t × Differs t s

-- page k has "a page number already seen": that of an earlier page
abbrev pub Again : List Sheet → ℕ → Type 0
Again l k = (t : Sheet) × (j : ℕ) × (u : Sheet) × Nth l k t × (j < k) × Nth l j u × (u.no ≡ t.no)

-- n is one of the "numbers 1..z", and no page has it
abbrev pub Missing : Sheet → List Sheet → ℕ → Type 0
Missing s l n = (1 ≤ n) × (n ≤ s.of) × ((k : ℕ) (t : Sheet) → Nth (s ∷ l) k t → t.no ≢ n)

-- how many rows the pages have together
abbrev pub row_count : List Sheet → ℕ
row_count [] = 0
row_count (s ∷ l) = length s.rows + row_count l

-- the plan that the pages say: the head of the first, and the rows "in document order, pages by a"
abbrev pub plan_of : Sheet → List Sheet → Plan
plan_of s l = record { head = s.head; rows = joined (s ∷ l) 1 s.of }

-- ---- 9 and 10 of a collector

-- what a page says differs from the collector's "first page"
abbrev pub Stranger : Sheet → Collector → Type 0
Stranger s c = (k : Kept) × Nth c 1 k × Differs s k.says

-- the collector has a page of its number, of other bytes
abbrev pub Second : List ℕ → Sheet → Collector → Type 0
Second w s c = (j : ℕ) × (k : Kept) × Nth c j k × (k.says.no ≡ s.no) × (k.bytes ≢ w)

-- ---- 13: a plan for the writer

-- "breaks a rule above …": "0 for the head", rows count from 1
abbrev pub Bad : Plan → ℕ → Type 0
Bad p r = ((r ≡ 0) × (sound_head p.head ≡ false)) ⊎ ((x : Row) × Nth p.rows r x × (sound_row x ≡ false))
