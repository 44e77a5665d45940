-- Collecting: document 01, "Refusal numbers and their order", last paragraph. The collector of single pages, as a state and what is asked of it.
-- Assumes nothing.
use Rattle.std.specs.Prelude.{Bool, true, not, ◌&&◌, List, [], ◌∷◌, ◌++◌, ℕ, zero, suc, ◌+◌, ◌^◌, eqb, leb, length, take, drop}
use Rattle.paper.specs.Lists.{if, same}
use Rattle.paper.specs.Plan.{same_head}
use Rattle.paper.specs.Judging.{Sheet, Judged, refused, sheet, judge}
use Rattle.paper.specs.Reading.{Answer, refusal, has, read}
use Rattle.paper.specs.Calls.{roomy}

-- a page that the collector has taken: its bytes, and what it says
pub record Kept : Type 0 where
  pub bytes : List ℕ
  pub says : Sheet

-- a collector is the pages it has taken, in the order they came
abbrev pub Collector : Type 0
Collector = List Kept

-- "Clearing makes it empty."
abbrev pub cleared : Collector
cleared = []

-- what is answered to a page: taken, "already here", or a refusal, with number and place. Its page is 1, "called page 1 in its refusals", but for refusal 1,
-- whose page and place are 0.
pub data Added : Type 0 where
  added already_here : Added
  refused_with : ℕ → ℕ → Added

-- the answer, and the collector afterwards
pub record Adding : Type 0 where
  pub answer : Added
  pub after : Collector

-- "A refusal changes … no collector", nor does "already here"
abbrev pub unchanged : Added → Collector → Adding
unchanged a c = record { answer = a; after = c }

-- "then 9 against its first page": the same head and the same z, or no page yet
abbrev pub agrees : Sheet → Collector → Bool
agrees s [] = true
agrees s (k ∷ c) = eqb s.of k.says.of && same_head s.head k.says.head

-- the bytes of the page of that number; none if there is no such page
abbrev pub bytes_at : ℕ → Collector → List ℕ
bytes_at n [] = []
bytes_at n (k ∷ c) = if (eqb k.says.no n) k.bytes (bytes_at n c)

-- what the pages say
abbrev pub sheets_in : Collector → List Sheet
sheets_in [] = []
sheets_in (k ∷ c) = k.says ∷ sheets_in c

-- the pages themselves
abbrev pub pages_in : Collector → List (List ℕ)
pages_in [] = []
pages_in (k ∷ c) = k.bytes ∷ pages_in c

-- "A page number it has is answered 'already here' if the bytes are equal, else 10."
abbrev pub take_in : Collector → List ℕ → Sheet → Adding
take_in c w s = if (not (agrees s c)) (unchanged (refused_with 9 0) c)
    (if (has s.no (sheets_in c)) (if (same w (bytes_at s.no c)) (unchanged already_here c) (unchanged (refused_with 10 0) c))
    (record { answer = added; after = c ++ record { bytes = w; says = s } ∷ [] }))

-- by what judging the page gave
abbrev pub add_judged : Collector → List ℕ → Judged → Adding
add_judged c w (refused n i) = unchanged (refused_with n i) c
add_judged c w (sheet s) = take_in c w s

-- "The collector takes one page": 2 to 8, then 9, then "already here" or 10, else the page is added
unfoldable pub add : Collector → List ℕ → Adding
add c w = add_judged c w (judge w)

-- of the k numbers from n on, those that no page has
abbrev pub without : List Sheet → ℕ → ℕ → List ℕ
without l n zero = []
without l n (suc k) = if (has n l) (without l (suc n) k) (n ∷ without l (suc n) k)

-- "which of the z numbers are missing"; "empty, it reports none and 0"
abbrev pub missing_in : List Sheet → List ℕ
missing_in [] = []
missing_in (s ∷ l) = without (s ∷ l) 1 s.of

-- the missing numbers of a collector
unfoldable pub missing_numbers : Collector → List ℕ
missing_numbers c = missing_in (sheets_in c)

-- the numbers as a mask: bit n for page number n
abbrev pub mask_of : List ℕ → ℕ
mask_of [] = 0
mask_of (n ∷ ns) = 2 ^ n + mask_of ns

-- the mask of the missing numbers
abbrev pub missing_mask : Collector → ℕ
missing_mask c = mask_of (missing_numbers c)

-- "and how many"
abbrev pub missing_count : Collector → ℕ
missing_count c = length (missing_numbers c)

-- "Complete, it reads as the same pages handed in at once; incomplete, with 11; empty, with 1."
unfoldable pub read_collected : Collector → Answer
read_collected c = read (pages_in c)

-- ---- calls

-- a page is handed in as a start and a length in a buffer; one that does not lie in it gives 1
unfoldable pub add_call : Collector → List ℕ → ℕ → ℕ → Adding
add_call c b s n = if (leb (s + n) (length b)) (add c (take n (drop s b))) (unchanged (refused_with 1 0) c)

-- the collector's reader needs the room that the reader needs
unfoldable pub collected_call : ℕ → ℕ → Collector → Answer
collected_call rows text c = if (roomy rows text) (read_collected c) (refusal 1 0 0)
