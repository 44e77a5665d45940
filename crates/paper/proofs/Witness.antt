-- Witness: one plan that has every field, with marks that spelling must change, on two sheets that are full to the last row. What the theorems
-- say of every plan is computed for this one, so that a definition that is altered in meaning is refused here by its own result.
-- Assumes nothing.
use mathlib.Core.Path.{◌≡◌, refl}
use mathlib.Core.List.{List, [], ◌∷◌, ◌++◌}
use Prim.Native.Nat.{ℕ}
use lib.ListN.{length, replicate}
use Rattle.paper.specs.Lists.{bytes}
use Rattle.paper.specs.Fields.{Kind, S, M, R, X, fields_of}
use Rattle.paper.specs.Plan.{Slots, Head, Row, Plan}
use Rattle.paper.specs.Values.{value}
use Rattle.paper.specs.Judging.{judge}
use Rattle.paper.specs.Reading.{refusal, plan, read}
use Rattle.paper.specs.Writing.{Written, bad_call, unsound, too_long, written, good_element, sound_head, sound_row, page, cuttable, place14, fresh}

-- text with each mark that a fresh page spells as a reference
abbrev quoted : List ℕ
quoted = bytes "\"5\" < 6 & 'so'"

abbrev row : Kind → ℕ → Slots → List Slots → Row
row k n vs ws = record { kind = k; pzn = n; slots = vs; ws = ws }

-- a head with every field but the three that exclude each other, of which it has one
abbrev head : Slots → Head
head tag = record {
  patch = 7;
  ident = bytes "00112233445566778899AABBCCDDEEFF";
  lang = bytes "de-AT";
  person = quoted ∷ bytes "Kern" ∷ bytes "19510704" ∷ bytes "W" ∷ bytes "A123456789" ∷ bytes "Dr." ∷ bytes "von" ∷ bytes "Freifrau" ∷ [];
  author = tag ++ (bytes "Praxis Holm" ∷ bytes "Weg 1" ∷ bytes "01234" ∷ bytes "Holm" ∷ bytes "030 1" ∷ bytes "a@b.de" ∷ bytes "2023-03-01T09:30:00" ∷ []);
  measures = bytes "Pollen" ∷ bytes "85" ∷ bytes "180" ∷ bytes "1,1" ∷ bytes "1" ∷ bytes "1" ∷ bytes "a~b~c" ∷ [];
}

-- two medications that have every field between them, a recipe, a note, and the headings in both forms
abbrev full_rows : List Row
full_rows =
    row S 0 (bytes "412" ∷ [] ∷ []) []
    ∷ row M 2394428 (quoted ∷ bytes "TAB" ∷ [] ∷ bytes "1" ∷ bytes "1/2" ∷ bytes "0,5" ∷ bytes "00" ∷ [] ∷ bytes "1" ∷ [] ∷ bytes "hint~two" ∷ bytes "why" ∷ bytes "line" ∷ [])
    ((quoted ∷ bytes "5 mg" ∷ []) ∷ (bytes "two" ∷ [] ∷ []) ∷ (bytes "three" ∷ bytes "1" ∷ []) ∷ [])
    ∷ row S 0 ([] ∷ bytes "Bedarf" ∷ []) []
    ∷ row M 0 (bytes "name" ∷ [] ∷ bytes "Salbe" ∷ [] ∷ [] ∷ [] ∷ [] ∷ bytes "as told" ∷ [] ∷ bytes "ml" ∷ [] ∷ [] ∷ [] ∷ []) []
    ∷ row R 0 (bytes "recipe" ∷ bytes "line" ∷ []) []
    ∷ row X 0 (bytes "note" ∷ []) [] ∷ []

-- a note of n bytes, which takes n + 9 bytes of its page
abbrev note : ℕ → Row
note n = row X 0 (replicate n 110 ∷ []) []

-- the plan: its first page is full to the last byte, and so is its second
abbrev the_plan : Plan
the_plan = record {
  head = head (bytes "123456789" ∷ [] ∷ [] ∷ []);
  rows = full_rows ++ (note 100 ∷ note 200 ∷ note 200 ∷ note 171 ∷ note 100 ∷ note 200 ∷ note 200 ∷ note 200 ∷ note 200 ∷ note 71 ∷ []);
}

-- ten recipes of a hundred quotes each, of which a page takes one: 600 bytes when spelled
abbrev ten_pages : Plan
ten_pages = record { head = the_plan.head; rows = replicate 10 (row R 0 (replicate 100 34 ∷ [] ∷ []) []) }

abbrev theirs : Written → List (List ℕ)
theirs bad_call = []
theirs (unsound r) = []
theirs (too_long r) = []
theirs (written f) = f

abbrev sizes : List (List ℕ) → List ℕ
sizes [] = []
sizes (w ∷ ws) = length w ∷ sizes ws

abbrev backwards : List (List ℕ) → List (List ℕ)
backwards [] = []
backwards (w ∷ ws) = backwards ws ++ w ∷ []

-- the fresh pages
unfoldable sheets : List (List ℕ)
sheets = theirs (fresh the_plan)

-- two pages, as few as can be, each full
full_pages : sizes sheets ≡ 1400 ∷ 1400 ∷ []
unfolding sheets fresh cuttable page sound_head sound_row good_element fields_of
full_pages = refl

-- read, they give the plan
read_back : read sheets ≡ plan the_plan
unfolding sheets read judge fresh cuttable page sound_head sound_row good_element fields_of
read_back = refl

-- handed in the other way round, they give the same plan
read_backwards : read (backwards sheets) ≡ plan the_plan
unfolding sheets read judge fresh cuttable page sound_head sound_row good_element fields_of
read_backwards = refl

-- what needs ten pages is refused at the row that needs the tenth
ten_refused : fresh ten_pages ≡ too_long 10
unfolding fresh cuttable place14 page sound_head sound_row good_element fields_of
ten_refused = refl

-- blanks at a value's end are no part of it
blanks_cut : value (bytes "Kern  ") ≡ bytes "Kern"
blanks_cut = refl

-- a page of a second print, with the same U and another author, is no page of the first
second_print : read (page the_plan.head (note 1 ∷ []) 1 2 ∷ page (head ([] ∷ [] ∷ bytes "987654321" ∷ [])) (note 1 ∷ []) 2 2 ∷ []) ≡ refusal 9 2 0
unfolding read judge page fields_of
second_print = refl
