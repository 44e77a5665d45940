-- Cutting: the cut of document 01 ("Fresh pages") on numbers: of each row only its size, and whether it is a heading. Serves the code.
-- Assumes nothing.
use Rattle.std.specs.Prelude.{◌≡◌, Bool, List, [], ◌∷◌, ℕ, suc, ◌+◌, ◌*◌, ◌-◌, ◌/◌, ◌%◌, ◌≤◌, eqb, leb, length, take, Result, IsOkAnd, IsErrAnd}
use Rattle.paper.specs.Lists.{if}
use Rattle.paper.specs.Plan.{Row}
use Rattle.paper.specs.Writing.{heading}
use Rattle.paper.specs.Sizes.{page_bytes}
use Rattle.writer.specs.Spelling.{row_text, rows_between}
use Rattle.writer.specs.declared.cut.PageEnds.{PageEnds}

-- ---- rows as numbers

-- what a row adds to a page: its own bytes; a heading also the `</S>` of its section
abbrev pub row_adds : Row → ℕ
row_adds r = length (row_text r) + if (heading r) 4 0

-- a row as one number: twice what it adds, and one more for a heading
abbrev pub measure_of : Row → ℕ
measure_of r = 2 * row_adds r + if (heading r) 1 0

-- what the row of that number adds
abbrev pub size_in : ℕ → ℕ
size_in m = m / 2

-- what the rows of these numbers add together
abbrev pub sizes_in : List ℕ → ℕ
sizes_in [] = 0
sizes_in (m ∷ ms) = size_in m + sizes_in ms

-- the row of that number is a heading
abbrev pub heading_in : ℕ → Bool
heading_in m = eqb (m % 2) 1

-- a page before its first row, whose number is m: the page without rows, and `<S>` and `</S>` unless a heading opens its section
abbrev pub opens : ℕ → ℕ → ℕ
opens base m = base + if (heading_in m) 0 7

-- ---- the cut

-- how many rows are placed where each page ends; or the row, counted from 1, that nine pages have no place for
pub data Cutting : Type 0 where
  ends : List ℕ → Cutting
  stuck : ℕ → Cutting

-- a page that ends behind i rows, in front of those that follow it
abbrev pub after : ℕ → Cutting → Cutting
after i (ends es) = ends (i ∷ es)
after i (stuck r) = stuck r

-- "Each page takes as many rows as fit into 1,400 bytes": i rows are placed, the page has so many bytes, and k pages more may follow it
unfoldable pub cut_from : ℕ → ℕ → ℕ → ℕ → List ℕ → Cutting
cut_from base k i used [] = ends (i ∷ [])
cut_from base k i used (m ∷ ms) = if (leb (used + size_in m) page_bytes) (cut_from base k (suc i) (used + size_in m) ms)
    (if (eqb k 0) (stuck (suc i)) (if (leb (opens base m + size_in m) page_bytes) (after i (cut_from base (k - 1) (suc i) (opens base m + size_in m) ms)) (stuck (suc i))))

-- all rows, the first page opened for the first of them; "a plan without rows is one page"
abbrev pub cut_of : ℕ → List ℕ → Cutting
cut_of base [] = ends (0 ∷ [])
cut_of base (m ∷ ms) = cut_from base 8 0 (opens base m) (m ∷ ms)

-- what the code gives tells the cut: the pages with their ends, or the row that has no place
abbrev pub Tells : Result PageEnds ℕ → Cutting → Type 0
Tells r (ends es) = IsOkAnd r (λ c. (c.pages ≡ length es) × ((length es ≤ 9) × (take (length es) c.ends ≡ es)))
Tells r (stuck p) = IsErrAnd r (λ i. (i ≡ p) × ((1 ≤ p) × (p ≤ 256)))

-- ---- the pages

-- the ends do not fall, and none is beyond n rows
abbrev pub Rising : ℕ → List ℕ → ℕ → Type 0
Rising from [] n = Unit {0}
Rising from (e ∷ es) n = (from ≤ e) × ((e ≤ n) × Rising e es n)

-- the rows of each page
abbrev pub parted : List ℕ → List ℕ → ℕ → List ℕ → List (List Row)
parted t rows from [] = []
parted t rows from (e ∷ es) = rows_between t rows from e ∷ parted t rows e es
