-- Judging: document 01, "Elements and fields" and refusals 2 to 8. A page's faults, each a number and a place; the least of them; and what the
-- page says if it has none.
-- Assumes nothing.
use Rattle.std.specs.Prelude.{Bool, true, false, not, ◌&&◌, ◌||◌, List, [], ◌∷◌, ◌++◌, ℕ, suc, eqb, leb, ltb, length}
use Rattle.std.proofs.Math.Option.{Option, none, some}
use Rattle.paper.specs.Lists.{bytes, if, same, is_empty, elem, twice, every, some_of, number}
use Rattle.paper.specs.Bytes.{is_allowed, first_refused}
use Rattle.paper.specs.Grammar.{Attr, Tag, start, end, placed}
use Rattle.paper.specs.Machine.{scan, eaten, before}
use Rattle.paper.specs.Values.{value}
use Rattle.paper.specs.Fields.{Kind, unknown, MP, P, A, O, S, M, W, R, X, is, edition, Field, fields_of, excluded, Pair, named, children, most_of, later}
use Rattle.paper.specs.Rules.{keeps, settle}
use Rattle.paper.specs.Plan.{Slots, Head, Row, slot, blank}
use Rattle.paper.specs.Sizes.{page_bytes}

-- a refusal number and the place it is given at
pub record Fault : Type 0 where
  pub no : ℕ
  pub place : ℕ

-- a fault if the test holds
abbrev pub fault : Bool → ℕ → ℕ → List Fault
fault true n i = record { no = n; place = i } ∷ []
fault false n i = []

-- ---- one element's attributes

-- the names of the attributes that stand in a tag
abbrev pub names : List Attr → List (List ℕ)
names [] = []
names (a ∷ l) = a.name ∷ names l

-- the value of the attribute of that name; [] if it is not there
abbrev pub found : List Attr → List ℕ → List ℕ
found [] n = []
found (a ∷ l) n = if (same a.name n) (value a.raw) (found l n)

-- an element's slots: per field of the table the value that counts
abbrev pub slots_of : List Field → List Attr → Slots
slots_of [] l = []
slots_of (f ∷ fs) l = settle f (found l f.letters) ∷ slots_of fs l

-- the letters of the fields
abbrev pub letters_of : List Field → List (List ℕ)
letters_of [] = []
letters_of (f ∷ fs) = f.letters ∷ letters_of fs

-- a present value breaks its field
abbrev pub breaks : Field → List ℕ → Bool
breaks f v = not (is_empty v) && not (keeps f v)

-- some present value breaks its field
abbrev pub broken : List Field → Slots → Bool
broken [] vs = false
broken (f ∷ fs) [] = false
broken (f ∷ fs) (v ∷ vs) = breaks f v || broken fs vs

-- some field marked * is not present
abbrev pub missing : List Field → Slots → Bool
missing [] vs = false
missing (f ∷ fs) [] = false
missing (f ∷ fs) (v ∷ vs) = (f.must && is_empty v) || missing fs vs

-- two excluded fields stand in the tag, "even with an empty or zero value"
abbrev pub clash : List Pair → List (List ℕ) → Bool
clash [] ns = false
clash (p ∷ ps) ns = (elem p.0 ns && elem p.1 ns) || clash ps ns

-- MP alone, refusal 6: "v other than 027 or absent"
abbrev pub mp_version : Kind → Slots → Bool
mp_version k vs = is k MP && not (same (slot (bytes "v") (fields_of MP) vs) edition)

-- MP alone, refusal 7: "a above z"
abbrev pub mp_over : Kind → Slots → Bool
mp_over k vs = is k MP && not (is_empty (slot (bytes "z") (fields_of MP) vs)) && ltb (number 0 (slot (bytes "z") (fields_of MP) vs)) (number 0 (slot (bytes "a") (fields_of MP) vs))

-- MP alone, refusal 8: "a without z, z without a"
abbrev pub mp_half : Kind → Slots → Bool
mp_half k vs = is k MP && ((is_empty (slot (bytes "a") (fields_of MP) vs) && not (is_empty (slot (bytes "z") (fields_of MP) vs)))
    || (not (is_empty (slot (bytes "a") (fields_of MP) vs)) && is_empty (slot (bytes "z") (fields_of MP) vs)))

-- the faults of an element's own tag, all at its `<`: an unknown attribute or one that stands twice (5), the edition (6),
-- a value that breaks its field or a above z (7), a missing field, an excluded pair or half of a and z (8)
abbrev pub judge_slots : Kind → ℕ → List (List ℕ) → Slots → List Fault
judge_slots k i ns vs =
    fault (not (every (λ n. elem n (letters_of (fields_of k))) ns) || twice ns) 5 i
    ++ (fault (mp_version k vs) 6 i
    ++ (fault (broken (fields_of k) vs || mp_over k vs) 7 i
    ++ fault (missing (fields_of k) vs || clash (excluded k) ns || mp_half k vs) 8 i))

-- the same from the tag's attributes
abbrev pub own : Kind → ℕ → List Attr → List Fault
own k i l = judge_slots k i (names l) (slots_of (fields_of k) l)

-- ---- the tags, one after another, with the elements that are open

-- an open element: kind, place, the kinds of its children so far, its slots, the slots of its W so far
pub record Frame : Type 0 where
  pub kind : Kind
  pub at : ℕ
  pub seen : List Kind
  pub slots : Slots
  pub ws : List Slots

-- the open elements, innermost first
abbrev pub Stack : Type 0
Stack = List Frame

-- the kind that a name has under its parent; "the outermost element must be MP"
abbrev pub kind_in : Stack → List ℕ → Kind
kind_in [] n = named n (MP ∷ [])
kind_in (F ∷ st) n = named n (children F.kind)

-- how many children of a kind there are so far
abbrev pub how_many : Kind → List Kind → ℕ
how_many k [] = 0
how_many k (j ∷ js) = if (is j k) (suc (how_many k js)) (how_many k js)

-- "misplaced when it comes after one of a later kind", or too many
abbrev pub misplaced : Stack → Kind → Bool
misplaced [] k = false
misplaced (F ∷ st) k = some_of (later k) F.seen || (ltb 0 (most_of k) && leb (most_of k) (how_many k F.seen))

-- an element that has just been opened
abbrev pub frame : Kind → ℕ → Slots → Frame
frame k i vs = record { kind = k; at = i; seen = []; slots = vs; ws = [] }

-- a W's slots are kept for its M
abbrev pub add_w : Kind → Slots → List Slots → List Slots
add_w k vs ws = if (is k W) (ws ++ vs ∷ []) ws

-- an element with one child more
abbrev pub note : Frame → Kind → Slots → Frame
note F k vs = record { kind = F.kind; at = F.at; seen = k ∷ F.seen; slots = F.slots; ws = add_w k vs F.ws }

-- the open elements behind a start tag
abbrev pub enter : Stack → Kind → ℕ → Slots → Stack
enter [] k i vs = frame k i vs ∷ []
enter (F ∷ st) k i vs = frame k i vs ∷ note F k vs ∷ st

-- the open elements behind a tag
abbrev pub next : Stack → Tag → Stack
next st (start i n l) = enter st (kind_in st n) i (slots_of (fields_of (kind_in st n)) l)
next [] end = []
next (F ∷ st) end = st

-- refusal 8 at an element's end: an MP without P or A; "an M needs p, a or a W"
abbrev pub lacks : Kind → List Kind → Slots → Bool
lacks k seen vs = (is k MP && (eqb (how_many P seen) 0 || eqb (how_many A seen) 0))
    || (is k M && (eqb (how_many W seen) 0 && (is_empty (slot (bytes "p") (fields_of M) vs) && is_empty (slot (bytes "a") (fields_of M) vs))))

-- the faults of one tag
abbrev pub here : Stack → Tag → List Fault
here st (start i n l) = fault (is (kind_in st n) unknown || misplaced st (kind_in st n)) 5 i ++ own (kind_in st n) i l
here [] end = []
here (F ∷ st) end = fault (lacks F.kind F.seen F.slots) 8 F.at

-- the faults of the tags, from here on
abbrev pub faults : Stack → List Tag → List Fault
faults st [] = []
faults st (t ∷ ts) = here st t ++ faults (next st t) ts

-- ---- what the tags say: elements with their slots, an M when it ends

-- an element with its slots, an M with those of its W
pub record Item : Type 0 where
  pub kind : Kind
  pub slots : Slots
  pub ws : List Slots

-- the same, in one word
abbrev pub item : Kind → Slots → List Slots → Item
item k vs ws = record { kind = k; slots = vs; ws = ws }

-- said at its start tag
abbrev pub early : Kind → Bool
early k = not (is k M || is k W)

-- what one tag says
abbrev pub says : Stack → Tag → List Item
says st (start i n l) = if (early (kind_in st n)) (item (kind_in st n) (slots_of (fields_of (kind_in st n)) l) [] ∷ []) []
says [] end = []
says (F ∷ st) end = if (is F.kind M) (item M F.slots F.ws ∷ []) []

-- what the tags say, from here on
abbrev pub items : Stack → List Tag → List Item
items st [] = []
items st (t ∷ ts) = says st t ++ items (next st t) ts

-- ---- a page without faults

-- a page's content: its number a, its count z, its head, its rows
pub record Sheet : Type 0 where
  pub no : ℕ
  pub of : ℕ
  pub head : Head
  pub rows : List Row

-- the slots of the first element of a kind; blank if there is none
abbrev pub part : Kind → List Item → Slots
part k [] = blank (fields_of k)
part k (x ∷ xs) = if (is x.kind k) x.slots (part k xs)

-- no value is present
abbrev pub all_empty : Slots → Bool
all_empty [] = true
all_empty (v ∷ vs) = is_empty v && all_empty vs

-- an M's slots without its package number's
abbrev pub tail : Slots → Slots
tail [] = []
tail (v ∷ vs) = vs

-- "each S with c or t gives one heading row, and each M, R, X one row"
abbrev pub row_of : Item → List Row
row_of x = if (is x.kind M) (record { kind = M; pzn = number 0 (slot (bytes "p") (fields_of M) x.slots); slots = tail x.slots; ws = x.ws } ∷ [])
    (if (is x.kind R || is x.kind X || (is x.kind S && not (all_empty x.slots))) (record { kind = x.kind; pzn = 0; slots = x.slots; ws = [] } ∷ []) [])

-- the rows, in document order
abbrev pub rows_of : List Item → List Row
rows_of [] = []
rows_of (x ∷ xs) = row_of x ++ rows_of xs

-- a value, or what stands for an absent one
abbrev pub or : List ℕ → List ℕ → List ℕ
or [] d = d
or (c ∷ v) d = c ∷ v

-- the head: "absent is 0" for the patch, "absent is de-DE" for l; "an O without fields reads as no O", since both are blank
abbrev pub head_of : Slots → List Item → Head
head_of mp xs = record {
  patch = number 0 (slot (bytes "p") (fields_of MP) mp);
  ident = slot (bytes "U") (fields_of MP) mp;
  lang = or (slot (bytes "l") (fields_of MP) mp) (bytes "de-DE");
  person = part P xs;
  author = part A xs;
  measures = part O xs;
}

-- a page's content; "neither is 1 of 1"
abbrev pub sheet_of : List Item → Sheet
sheet_of xs = record {
  no = number 0 (or (slot (bytes "a") (fields_of MP) (part MP xs)) (bytes "1"));
  of = number 0 (or (slot (bytes "z") (fields_of MP) (part MP xs)) (bytes "1"));
  head = head_of (part MP xs) xs;
  rows = rows_of xs;
}

-- ---- the answer for a page

-- a refusal number and its place, or the page's content
pub data Judged : Type 0 where
  refused : ℕ → ℕ → Judged
  sheet : Sheet → Judged

-- "the lowest number of that page first, the lowest place within it"
abbrev pub lower : Fault → Fault → Fault
lower f g = if (ltb g.no f.no || (eqb g.no f.no && ltb g.place f.place)) g f

-- the least of some faults
abbrev pub least : Fault → List Fault → Fault
least f [] = f
least f (g ∷ gs) = least (lower f g) gs

-- the least fault, or what the page says
abbrev pub verdict : List Fault → List Item → Judged
verdict [] xs = sheet (sheet_of xs)
verdict (f ∷ fs) xs = refused (least f fs).no (least f fs).place

-- malformed (4, at the longest beginning that some well-formed page shares), or judged by its tags
abbrev pub judge_tags : Option (List Tag) → List ℕ → Judged
judge_tags none w = refused 4 (eaten before w)
judge_tags (some t) w = verdict (faults [] (placed (length w) t)) (items [] (placed (length w) t))

-- a page: empty or above 1,400 (2), a byte not allowed (3), malformed (4), else by its tags
unfoldable pub judge : List ℕ → Judged
judge w = if (eqb (length w) 0 || ltb page_bytes (length w)) (refused 2 0)
    (if (every is_allowed w) (judge_tags (scan before w) w) (refused 3 (first_refused w)))
