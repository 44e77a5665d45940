-- Fields: document 01, "Elements and fields". The table of the nine elements, the fields of each in writing order, and the one table of all 52 fields.
-- Assumes nothing.
use Rattle.std.specs.Prelude.{Bool, true, false, ◌&&◌, List, [], ◌∷◌, map, ℕ, eqb, ltb}
use Rattle.paper.specs.Lists.{bytes, if, same, concat}

-- the nine elements, and any other
pub data Kind : Type 0 where
  unknown MP P A O S M W R X : Kind

-- a number for each, to tell them apart
abbrev pub code : Kind → ℕ
code unknown = 0
code MP = 1
code P = 2
code A = 3
code O = 4
code S = 5
code M = 6
code W = 7
code R = 8
code X = 9

-- the two are the same kind
abbrev pub is : Kind → Kind → Bool
is a b = eqb (code a) (code b)

-- all of them, by their numbers, the nine in writing order
abbrev pub kinds : List Kind
kinds = unknown ∷ MP ∷ P ∷ A ∷ O ∷ S ∷ M ∷ W ∷ R ∷ X ∷ []

-- ---- the table of elements

-- an element: its name in its tags, the element it stands in, how many of it may stand there (0 is any number), and its turn in the order there (0 is none)
pub record Element : Type 0 where
  pub name : List ℕ
  pub parent : Kind
  pub most : ℕ
  pub rank : ℕ

-- a line of the table
abbrev pub element : List ℕ → Kind → ℕ → ℕ → Element
element n p m r = record { name = n; parent = p; most = m; rank = r }

-- "Order inside MP: P, A, then at most one O, then any number of S. S holds M, R and X in any order. M holds up to three W."
-- The outermost element, MP, stands in none.
abbrev pub about : Kind → Element
about unknown = element [] unknown 0 0
about MP = element (bytes "MP") unknown 0 0
about P = element (bytes "P") MP 1 1
about A = element (bytes "A") MP 1 2
about O = element (bytes "O") MP 1 3
about S = element (bytes "S") MP 0 4
about M = element (bytes "M") S 0 0
about W = element (bytes "W") M 3 0
about R = element (bytes "R") S 0 0
about X = element (bytes "X") S 0 0

-- an element's name in its tags
abbrev pub tag_name : Kind → List ℕ
tag_name k = (about k).name

-- the kind of that name among these
abbrev pub named : List ℕ → List Kind → Kind
named n [] = unknown
named n (k ∷ ks) = if (same n (tag_name k)) k (named n ks)

-- those of these kinds that stand in that element
abbrev pub held_by : Kind → List Kind → List Kind
held_by k [] = []
held_by k (j ∷ js) = if (is (about j).parent k) (j ∷ held_by k js) (held_by k js)

-- what an element may hold; an unknown one holds nothing
abbrev pub children : Kind → List Kind
children k = if (is k unknown) [] (held_by k kinds)

-- how many of a kind its parent may have (0 is any number)
abbrev pub most_of : Kind → ℕ
most_of k = (about k).most

-- a kind's turn in the order inside its parent (0 is none)
abbrev pub rank_of : Kind → ℕ
rank_of k = (about k).rank

-- "Within MP an element is misplaced when it comes after one of a later kind": the kinds that are later than an element's own
abbrev pub later : Kind → Kind → Bool
later j k = ltb 0 (rank_of j) && ltb (rank_of j) (rank_of k)

-- ---- the table of fields

-- "v* \"027\"": the edition that is read and written
abbrev pub edition : List ℕ
edition = bytes "027"

-- what a field's value must be, beside its length and its line breaks
pub data Rule : Type 0 where
  text version digits hexes language page_no birthday sex insured stamp one lines pzn code3 dose sign : Rule

-- a field: its element, its letters, its rule, its least and greatest length, how many line breaks "~" it may have, and whether it is marked *
pub record Field : Type 0 where
  pub element : Kind
  pub letters : List ℕ
  pub rule : Rule
  pub least : ℕ
  pub most : ℕ
  pub tildes : ℕ
  pub must : Bool

-- a line of the table
abbrev pub field : Kind → List ℕ → Rule → ℕ → ℕ → ℕ → Bool → Field
field e n r a b t m = record { element = e; letters = n; rule = r; least = a; most = b; tildes = t; must = m }

-- the fields of an element, in writing order. Of O.w document 01 has "1–3 digits", source 000 in 6.2.2 "max. 5 Zeichen"; lengths are the source's, so w
-- has 1 to 5.
unfoldable pub fields_of : Kind → List Field
fields_of unknown = []
fields_of MP =
    field MP (bytes "v") version 3 3 0 true ∷ field MP (bytes "p") digits 1 2 0 false ∷ field MP (bytes "U") hexes 32 32 0 true
    ∷ field MP (bytes "l") language 5 5 0 false ∷ field MP (bytes "a") page_no 1 1 0 false ∷ field MP (bytes "z") page_no 1 1 0 false ∷ []
fields_of P =
    field P (bytes "g") text 1 45 0 true ∷ field P (bytes "f") text 1 45 0 true ∷ field P (bytes "b") birthday 8 8 0 true ∷ field P (bytes "s") sex 1 1 0 false
    ∷ field P (bytes "egk") insured 10 10 0 false ∷ field P (bytes "t") text 1 20 0 false ∷ field P (bytes "v") text 1 20 0 false ∷ field P (bytes "z") text 1 20 0 false ∷ []
fields_of A =
    field A (bytes "lanr") digits 9 9 0 false ∷ field A (bytes "idf") digits 7 7 0 false ∷ field A (bytes "kik") digits 9 9 0 false ∷ field A (bytes "n") text 1 50 0 true
    ∷ field A (bytes "s") text 1 30 0 false ∷ field A (bytes "z") digits 5 5 0 false ∷ field A (bytes "c") text 1 20 0 false ∷ field A (bytes "p") text 1 20 0 false
    ∷ field A (bytes "e") text 1 40 0 false ∷ field A (bytes "t") stamp 19 19 0 true ∷ []
fields_of O =
    field O (bytes "ai") text 1 50 0 false ∷ field O (bytes "w") digits 1 5 0 false ∷ field O (bytes "h") digits 1 3 0 false ∷ field O (bytes "c") text 1 5 0 false
    ∷ field O (bytes "p") one 1 1 0 false ∷ field O (bytes "b") one 1 1 0 false ∷ field O (bytes "x") lines 1 77 2 false ∷ []
fields_of S = field S (bytes "c") digits 3 3 0 false ∷ field S (bytes "t") text 1 50 0 false ∷ []
fields_of M =
    field M (bytes "p") pzn 1 8 0 false ∷ field M (bytes "a") text 1 50 0 false ∷ field M (bytes "f") code3 3 3 0 false ∷ field M (bytes "fd") text 1 7 0 false
    ∷ field M (bytes "m") dose 1 4 0 false ∷ field M (bytes "d") dose 1 4 0 false ∷ field M (bytes "v") dose 1 4 0 false ∷ field M (bytes "h") dose 1 4 0 false
    ∷ field M (bytes "t") text 1 20 0 false ∷ field M (bytes "du") sign 1 1 0 false ∷ field M (bytes "dud") text 2 20 0 false
    ∷ field M (bytes "i") text 1 80 1 false ∷ field M (bytes "r") text 1 50 1 false ∷ field M (bytes "x") text 1 200 1 false ∷ []
fields_of W = field W (bytes "w") text 1 80 0 true ∷ field W (bytes "s") text 1 15 0 false ∷ []
fields_of R = field R (bytes "t") text 1 200 1 true ∷ field R (bytes "x") text 1 200 1 false ∷ []
fields_of X = field X (bytes "t") text 1 200 1 true ∷ []

-- the one table: the fields of all elements, in writing order
abbrev pub table : List Field
table = concat (map fields_of kinds)

-- two fields that exclude each other
abbrev pub Pair : Type 0
Pair = List ℕ × List ℕ

-- "Fields joined by 'or' above, and lanr, idf, kik, exclude each other … m, d, v, h each exclude t."
abbrev pub excluded : Kind → List Pair
excluded unknown = []
excluded MP = []
excluded P = []
excluded A = (bytes "lanr", bytes "idf") ∷ (bytes "lanr", bytes "kik") ∷ (bytes "idf", bytes "kik") ∷ []
excluded O = []
excluded S = (bytes "c", bytes "t") ∷ []
excluded M = (bytes "f", bytes "fd") ∷ (bytes "m", bytes "t") ∷ (bytes "d", bytes "t") ∷ (bytes "v", bytes "t") ∷ (bytes "h", bytes "t") ∷ (bytes "du", bytes "dud") ∷ []
excluded W = []
excluded R = []
excluded X = []
