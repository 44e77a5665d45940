-- Listing: document 01, "The listing". A plan, or a refusal, as key=value lines; and what planlist prints for its input.
-- Assumes nothing.
use Rattle.std.specs.Prelude.{List, [], ◌∷◌, ◌++◌, ℕ, zero, suc, length, take}
use Rattle.paper.specs.Lists.{bytes, if}
use Rattle.paper.specs.Fields.{Kind, unknown, MP, P, A, O, S, M, W, R, X, is, about, tag_name, edition, Field, fields_of}
use Rattle.paper.specs.Plan.{Slots, Head, Row, Plan}
use Rattle.paper.specs.Reading.{Answer, refusal, plan, read}
use Rattle.paper.specs.Writing.{digits_of, decimal, row_slots}

-- a line without its `=` and its end
pub record Line : Type 0 where
  pub key : List ℕ
  pub value : List ℕ

-- the same, in one word
abbrev pub line : List ℕ → List ℕ → Line
line k v = record { key = k; value = v }

-- the names of an element and of those around it, the outermost first, a "." behind each; at most n of them
abbrev pub path_of : ℕ → Kind → List ℕ
path_of zero k = []
path_of (suc n) k = if (is k unknown) [] (path_of n (about k).parent ++ (tag_name k ++ bytes "."))

-- what stands before a field's letters in its key: at most four names, "MP.S.M.W."
abbrev pub path : Kind → List ℕ
path k = path_of 4 k

-- a line for each present value, in writing order
abbrev pub field_lines : List ℕ → List Field → Slots → List Line
field_lines k [] vs = []
field_lines k (f ∷ fs) [] = []
field_lines k (f ∷ fs) ([] ∷ vs) = field_lines k fs vs
field_lines k (f ∷ fs) ((c ∷ v) ∷ vs) = line (k ++ f.letters) (c ∷ v) ∷ field_lines k fs vs

-- the lines of an element
abbrev pub element_lines : Kind → Slots → List Line
element_lines k vs = field_lines (path k) (fields_of k) vs

-- "MP.p appears unless 0; a and z never."
abbrev pub mp_listed : Head → Slots
mp_listed h = edition ∷ decimal h.patch ∷ h.ident ∷ h.lang ∷ [] ∷ [] ∷ []

-- "present head fields"
abbrev pub head_lines : Head → List Line
head_lines h = element_lines MP (mp_listed h) ++ (element_lines P h.person ++ (element_lines A h.author ++ element_lines O h.measures))

-- "A W adds `MP.S.M.W.w=` and `.s=` lines after its M."
abbrev pub w_lines : List Slots → List Line
w_lines [] = []
w_lines (w ∷ ws) = element_lines W w ++ w_lines ws

-- "`row=H`, `M`, `R` or `X`"
abbrev pub row_mark : Kind → List ℕ
row_mark S = bytes "H"
row_mark M = bytes "M"
row_mark R = bytes "R"
row_mark X = bytes "X"
row_mark unknown = []
row_mark MP = []
row_mark P = []
row_mark A = []
row_mark O = []
row_mark W = []

-- a row's mark and its fields, a number as without leading zeros
abbrev pub row_lines : Row → List Line
row_lines r = line (bytes "row") (row_mark r.kind) ∷ (element_lines r.kind (row_slots r) ++ w_lines r.ws)

-- the lines of the rows
abbrev pub rows_lines : List Row → List Line
rows_lines [] = []
rows_lines (r ∷ rs) = row_lines r ++ rows_lines rs

-- a number in digits, 0 too
abbrev pub numeral : ℕ → List ℕ
numeral n = digits_of 20 n

-- "present head fields, then per row … its fields, then the row count"
unfoldable pub plan_lines : Plan → List Line
plan_lines p = head_lines p.head ++ (rows_lines p.rows ++ (line (bytes "rows") (numeral (length p.rows)) ∷ []))

-- "key=value lines, each ended by byte 10"
abbrev pub print : List Line → List ℕ
print [] = []
print (l ∷ ls) = l.key ++ (61 ∷ (l.value ++ 10 ∷ print ls))

-- the listing of a plan
unfoldable pub listing : Plan → List ℕ
listing p = print (plan_lines p)

-- "A refusal prints three lines: `refused=`, `page=`, `place=`."
unfoldable pub refusal_lines : ℕ → ℕ → ℕ → List ℕ
refusal_lines n k i = print (line (bytes "refused") (numeral n) ∷ line (bytes "page") (numeral k) ∷ line (bytes "place") (numeral i) ∷ [])

-- an answer's lines
abbrev pub answer_lines : Answer → List ℕ
answer_lines (refusal n k i) = refusal_lines n k i
answer_lines (plan p) = listing p

-- ---- the program

-- a byte before the first page
abbrev pub onto : ℕ → List (List ℕ) → List (List ℕ)
onto c [] = (c ∷ []) ∷ []
onto c (w ∷ ws) = (c ∷ w) ∷ ws

-- "pages …, separated by one zero byte", "none is one empty page"
abbrev pub parted : List ℕ → List (List ℕ)
parted [] = [] ∷ []
parted (zero ∷ s) = [] ∷ parted s
parted (suc c ∷ s) = onto (suc c) (parted s)

-- what planlist prints: "at most 12,609 bytes are read"
unfoldable pub planlist : List ℕ → List ℕ
planlist s = answer_lines (read (parted (take 12609 s)))
