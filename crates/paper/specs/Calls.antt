-- Calls: document 01, "Sizes" and refusal 1. What a call hands in: one buffer, the starts and lengths of its pages, and the lent room.
-- Assumes nothing.
use Rattle.std.specs.Prelude.{Bool, true, false, ◌&&◌, List, [], ◌∷◌, ℕ, ◌+◌, leb, length, take, drop}
use Rattle.paper.specs.Lists.{if}
use Rattle.paper.specs.Reading.{Answer, refusal, read}

-- "room for 256 rows"
abbrev pub row_room : ℕ
row_room = 256

-- "and 12,600 bytes of text when reading"
abbrev pub text_room : ℕ
text_room = 12600

-- "12,600 bytes for pages when writing"
abbrev pub page_room : ℕ
page_room = 12600

-- "and 25,200 for a listing of pages"
abbrev pub listing_room : ℕ
listing_room = 25200

-- the longest limit of a cell, the substance's: no cell of a plan that was read shows more bytes
abbrev pub cell_room : ℕ
cell_room = 80

-- every page lies in the buffer, and there are as many starts as lengths
abbrev pub inside : List ℕ → List ℕ → List ℕ → Bool
inside b [] [] = true
inside b [] (n ∷ ns) = false
inside b (s ∷ ss) [] = false
inside b (s ∷ ss) (n ∷ ns) = leb (s + n) (length b) && inside b ss ns

-- the pages
abbrev pub pages_at : List ℕ → List ℕ → List ℕ → List (List ℕ)
pages_at b [] ns = []
pages_at b (s ∷ ss) [] = []
pages_at b (s ∷ ss) (n ∷ ns) = take n (drop s b) ∷ pages_at b ss ns

-- the pages of a call, read, where `room` says that the lent room is not too small; "page count not 1..9, page outside the buffer, room too small"
unfoldable pub read_at : Bool → List ℕ → List ℕ → List ℕ → Answer
read_at room b ss ns = if (room && (leb 1 (length ss) && (leb (length ss) 9 && inside b ss ns))) (read (pages_at b ss ns)) (refusal 1 0 0)

-- so many rows and so many bytes of text are room enough
abbrev pub roomy : ℕ → ℕ → Bool
roomy rows text = leb row_room rows && leb text_room text

-- a call that reads pages, with so many rows and so many bytes of text lent
unfoldable pub read_call : ℕ → ℕ → List ℕ → List ℕ → List ℕ → Answer
read_call rows text b ss ns = read_at (roomy rows text) b ss ns

-- a call that lists pages into so many bytes
unfoldable pub list_call : ℕ → List ℕ → List ℕ → List ℕ → Answer
list_call out b ss ns = read_at (leb listing_room out) b ss ns

-- a call that writes pages afresh into so many bytes: what it reads, before `fresh` writes it
unfoldable pub fresh_call : ℕ → List ℕ → List ℕ → List ℕ → Answer
fresh_call out b ss ns = read_at (leb page_room out) b ss ns

-- a call that finds a package number in pages, with room for so many rows in the lent list; document 02, ask 2: "less than its room is 1"
unfoldable pub find_call : ℕ → List ℕ → List ℕ → List ℕ → Answer
find_call list b ss ns = read_at (leb row_room list) b ss ns

-- a call that asks for a cell of the plan in pages, with so many bytes lent for its text
unfoldable pub cell_call : ℕ → List ℕ → List ℕ → List ℕ → Answer
cell_call out b ss ns = read_at (leb cell_room out) b ss ns
