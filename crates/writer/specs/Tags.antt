-- Tags: the pieces of tags and rows as the code lays them, from the numbers in which their values stand. Serves the code's inner contracts.
-- Assumes nothing.
use Rattle.std.specs.Prelude.{◌≡◌, Bool, true, false, ◌&&◌, List, [], ◌∷◌, ◌++◌, ℕ, ◌+◌, ◌≤◌, length, get_or, take, drop}
use Rattle.paper.specs.Lists.{bytes, if, every}
use Rattle.paper.specs.Values.{escape}
use Rattle.paper.specs.Plan.{Dose, scheme, free_text, unstated, Row}
use Rattle.paper.specs.Layout.{shown_all}
use Rattle.paper.specs.Writing.{attrs_of, print_attrs, decimal, heading}
use Rattle.paper.specs.Calls.{page_room}
use Rattle.plan.specs.declared.Dose as Code
use Rattle.plan.specs.declared.Dose.TheVariants.{Scheme, Free, Unstated}
use Rattle.plan.specs.Numbers.{record_at, paper_span, absent, within, span_place}
use Rattle.plan.specs.Records.{dose_in, paper_dose}
use Rattle.room.specs.Numbered.{span_at, spans_at}
use Rattle.fields.specs.Places.{fields_from}
use Rattle.writer.specs.Spelling.{row_text}

-- a name and what stands in quotes behind it
abbrev pub quoted : List ℕ → List ℕ → List ℕ
quoted n raw = 32 ∷ (n ++ (61 ∷ (34 ∷ (raw ++ 34 ∷ []))))

-- an attribute by its name and its value; an absent value has none
abbrev pub attribute : List ℕ → List ℕ → List ℕ
attribute n [] = []
attribute n (c ∷ v) = quoted n (escape (c ∷ v))

-- the attributes of n fields from a place of the table on, with the values that n spans show
unfoldable pub fields_text : ℕ → ℕ → List ℕ → ℕ → List ℕ → List ℕ
fields_text first n t k l = print_attrs (attrs_of (fields_from first n) (shown_all t (spans_at n k l)))

-- a tag: how it begins, the attributes of such fields, and how it ends
unfoldable pub tag_text : List ℕ → ℕ → ℕ → List ℕ → ℕ → List ℕ → List ℕ → List ℕ
tag_text begin first n t k l end = begin ++ (fields_text first n t k l ++ end)

-- ---- a medication

-- the attributes of a dose
abbrev pub dose_text : Dose → List ℕ
dose_text (scheme m d v h) = attribute (bytes "m") m ++ (attribute (bytes "d") d ++ (attribute (bytes "v") v ++ attribute (bytes "h") h))
dose_text (free_text x) = attribute (bytes "t") x
dose_text unstated = []

-- no span of a dose points outside a text of n bytes
abbrev pub dose_within : ℕ → Code.Dose → Bool
dose_within n (Scheme x) = within n (paper_span x.morning) && (within n (paper_span x.midday) && (within n (paper_span x.evening) && within n (paper_span x.night)))
dose_within n (Free s) = within n (paper_span s)
dose_within n Unstated = true

-- a W whose two spans begin at place k; an absent one has nothing
unfoldable pub substance_text : List ℕ → ℕ → List ℕ → List ℕ
substance_text t k l = if (absent (span_at l k)) [] (tag_text (bytes "<W") 47 2 t k l (bytes "/>"))

-- how a medication ends whose first W begins at place k: without one its tag is closed at once
unfoldable pub end_text : List ℕ → ℕ → List ℕ → List ℕ
end_text t k l = if (absent (span_at l k)) (bytes "/>") (62 ∷ (substance_text t k l ++ (substance_text t (k + 4) l ++ (substance_text t (k + 8) l ++ bytes "</M>"))))

-- the medication of record i
unfoldable pub medication_text : List ℕ → List ℕ → ℕ → List ℕ
medication_text t rows i = bytes "<M" ++ (attribute (bytes "p") (decimal (get_or (record_at rows i) 1 0)) ++ (fields_text 34 3 t (span_place i 0) rows
    ++ (dose_text (paper_dose t (dose_in (record_at rows i))) ++ (fields_text 42 5 t (span_place i 8) rows ++ end_text t (span_place i 13) rows))))

-- ---- the head

-- the start tag of MP on page a of z; the spans of U and l stand from place 2 of the numbers on
unfoldable pub start_text : ℕ → ℕ → ℕ → List ℕ → List ℕ → List ℕ
start_text patch a z t l = bytes "<MP v=\"027\"" ++ (attribute (bytes "p") (decimal patch) ++ (fields_text 2 2 t 2 l
    ++ (32 ∷ 97 ∷ 61 ∷ 34 ∷ (48 + a) ∷ 34 ∷ 32 ∷ 122 ∷ 61 ∷ 34 ∷ (48 + z) ∷ 34 ∷ 62 ∷ [])))

-- O, if it has a field; its spans begin at place k
unfoldable pub measures_part : List ℕ → ℕ → List ℕ → List ℕ
measures_part t k l = if (every absent (spans_at 7 k l)) [] (tag_text (bytes "<O") 24 7 t k l (bytes "/>"))

-- ---- rows on a page

-- what stands before a row: a heading closes the S that is open, another row opens one if none is
abbrev pub gap_text : Bool → Bool → List ℕ
gap_text inside heads = if inside (if heads (bytes "</S>") []) (if heads [] (bytes "<S>"))

-- a row on a page, behind what stands before it
unfoldable pub placed_text : Bool → Row → List ℕ
placed_text inside r = gap_text inside (heading r) ++ row_text r

-- rows one behind the other, the first as behind others
unfoldable pub rows_placed : List Row → List ℕ
rows_placed [] = []
rows_placed (r ∷ rs) = placed_text true r ++ rows_placed rs

-- the rows of a page and its end, from rows so spelled: the first opens an S, and the page's end closes it; the flag says that the first is a heading
abbrev pub rows_page : Bool → List ℕ → List ℕ
rows_page heads [] = bytes "</MP>"
rows_page heads (c ∷ w) = gap_text false heads ++ (drop (length (gap_text true heads)) (c ∷ w) ++ bytes "</S></MP>")

-- rows so spelled begin with what stands before a heading, if the first is one
abbrev pub Opened : Bool → List ℕ → Type 0
Opened heads [] = Unit {0}
Opened heads (c ∷ w) = length (gap_text true heads) ≤ length (c ∷ w)

-- the bytes stand at the beginning of a room, if the room of nine pages takes them
abbrev pub Stays : List ℕ → List ℕ → Type 0
Stays room w = length w ≤ page_room → take (length w) room ≡ w
