-- Keeping: what is asked of a collector as the code holds it, whatever numbers stand in its fields: which pages are here, a page added, the missing numbers,
-- the pages read. Each definition is total; specs/Shows.antt says when such a value is a collector of document 01.
-- Assumes nothing.
use Rattle.std.specs.Prelude.{Bool, true, false, not, ◌&&◌, List, [], ◌∷◌, ℕ, zero, suc, ◌+◌, ◌-◌, ◌*◌, eqb, leb, length, take, drop, get_or, set, replicate, Option, Some, None}
use Rattle.paper.specs.Lists.{if, same}
use Rattle.paper.specs.Plan.{same_head}
use Rattle.paper.specs.Judging.{Sheet, Judged, refused, sheet, judge}
use Rattle.paper.specs.Calls.{roomy, page_room}
use Rattle.paper.specs.Reading as Paper
use Rattle.paper.specs.Collecting.{Added, added, already_here, refused_with}
use Rattle.paper.specs.Sizes.{page_bytes}
use Rattle.room.specs.Laid.{laid}
use Rattle.plan.specs.Numbers.{rows_lent}
use Rattle.reader.specs.Pages.{picked, first_of}
use Rattle.collector.specs.declared.store.Collector.{Collector}
use Rattle.collector.specs.declared.store.Slot.{Slot}

-- the collector without any page
abbrev pub empty_collector : Collector
empty_collector = record { pages = replicate page_room 0; lens = replicate 9 0; z = 0; first = 0 }

-- ---- which pages are here

-- the page of number n stands from here on
abbrev pub start_of : ℕ → ℕ
start_of n = (n - 1) * page_bytes

-- the length that is kept for number n
abbrev pub len_of : List ℕ → ℕ → ℕ
len_of lens n = get_or lens (n - 1) 0

-- the page of number n is here: the number is one of 1 to 9, and the length is a page's
unfoldable pub here : List ℕ → ℕ → Bool
here lens n = leb 1 n && (leb n 9 && (leb 1 (len_of lens n) && leb (len_of lens n) page_bytes))

-- the page's place and length, or nothing
unfoldable pub page_at : List ℕ → ℕ → Option Slot
page_at lens n = if (here lens n) (Some (record { start = start_of n; len = len_of lens n })) None

-- the bytes that are kept for number n
abbrev pub kept : List ℕ → List ℕ → ℕ → List ℕ
kept pages lens n = take (len_of lens n) (drop (start_of n) pages)

-- ---- a page added

-- a sheet has the head and the count of a page, where that page has no fault
abbrev pub agrees_with : Sheet → Judged → Bool
agrees_with s (refused n i) = false
agrees_with s (sheet t) = eqb s.of t.of && same_head s.head t.head

-- "then 9 against its first page"; there is none where nothing is kept for its number
unfoldable pub agrees_first : List ℕ → List ℕ → ℕ → Sheet → Bool
agrees_first pages lens first s = if (here lens first) (agrees_with s (judge (kept pages lens first))) true

-- the number of the first page, once the page of number n is kept
unfoldable pub first_with : List ℕ → ℕ → ℕ → ℕ
first_with lens first n = if (here lens first) first n

-- what document 01 answers to a page, and the collector afterwards
pub record Answered : Type 0 where
  pub answer : Added
  pub after : Collector

-- "A refusal changes … no collector", nor does "already here"
abbrev pub unchanged : Added → Collector → Answered
unchanged a c = record { answer = a; after = c }

-- the page at its number's place, with its length
abbrev pub kept_with : Collector → List ℕ → Sheet → Collector
kept_with c w s = record {
  pages = laid c.pages (start_of s.no) w;
  lens = set c.lens (s.no - 1) (length w);
  z = s.of;
  first = first_with c.lens c.first s.no;
}

-- a page that says s: 9, "already here", 10, or it is kept
unfoldable pub taken_in : Collector → List ℕ → Sheet → Answered
taken_in c w s = if (not (agrees_first c.pages c.lens c.first s)) (unchanged (refused_with 9 0) c)
    (if (here c.lens s.no) (if (same w (kept c.pages c.lens s.no)) (unchanged already_here c) (unchanged (refused_with 10 0) c))
    (record { answer = added; after = kept_with c w s }))

-- by what judging the page gave: 2 to 8 first
abbrev pub added_as : Collector → List ℕ → Judged → Answered
added_as c w (refused n i) = unchanged (refused_with n i) c
added_as c w (sheet s) = taken_in c w s

-- any bytes as a page
unfoldable pub added_to : Collector → List ℕ → Answered
added_to c w = added_as c w (judge w)

-- a page of a buffer; one that does not lie in it gives 1
unfoldable pub added_call : Collector → List ℕ → ℕ → ℕ → Answered
added_call c b start len = if (leb (start + len) (length b)) (added_to c (take len (drop start b))) (unchanged (refused_with 1 0) c)

-- ---- the missing numbers

-- how many pages there are, as they say; none where that is no count of pages
unfoldable pub count_of : ℕ → ℕ
count_of z = if (leb z 9) z 0

-- "which of the z numbers are missing"
unfoldable pub missing : Collector → List ℕ
missing c = picked (λ n. not (here c.lens n)) 1 (count_of c.z)

-- ---- the pages read

-- what f gives for the k numbers from n on
abbrev pub in_order : {A : Type 0} → (ℕ → A) → ℕ → ℕ → List A
in_order f n zero = []
in_order f n (suc k) = f n ∷ in_order f (suc n) k

-- the pages by their numbers
abbrev pub pages_of : Collector → List (List ℕ)
pages_of c = in_order (kept c.pages c.lens) 1 (count_of c.z)

-- 11 at the lowest missing number, else the pages handed in at once
unfoldable pub read_of : Collector → Paper.Answer
read_of c = Paper.refuse_at 11 (first_of (missing c)) (Paper.read (pages_of c))

-- the same with the rooms that are lent
unfoldable pub collected : List ℕ → List ℕ → Collector → Paper.Answer
collected rows text c = if (roomy (rows_lent (length rows)) (length text)) (read_of c) (Paper.refusal 1 0 0)
