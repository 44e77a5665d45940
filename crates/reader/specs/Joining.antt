-- Joining: what the pages of a call say together, where none of them has a fault.
-- Assumes nothing.
use Rattle.std.specs.Prelude.{List, [], ◌∷◌, Bool, true, ◌&&◌, ◌≡◌, ℕ, ◌≤◌, eqb, length, get_or}
use Rattle.paper.specs.Lists.{concat}
use Rattle.paper.specs.Plan.{Plan, same_head}
use Rattle.paper.specs.Layout.{head_values}
use Rattle.paper.specs.Calls.{inside, pages_at}
use Rattle.paper.specs.Judging.{Sheet}
use Rattle.paper.specs.Reading.{page9, joined}
use Rattle.paper.specs.Sizes.{page_bytes}
use Rattle.markup.specs.Walk.{tags_at}
use Rattle.sheet.specs.Content.{content_of, head_from}
use Rattle.sheet.specs.Fit.{Fit}

-- what each page says
abbrev pub sheets_of : List (List ℕ) → List Sheet
sheets_of [] = []
sheets_of (w ∷ ws) = content_of (tags_at w 0) ∷ sheets_of ws

-- what the pages of a call say
abbrev pub said : List ℕ → List ℕ → List ℕ → List Sheet
said b ss ns = sheets_of (pages_at b ss ns)

-- what page i says, counted from 0
abbrev pub sheet_at : List (List ℕ) → ℕ → Sheet
sheet_at ws i = content_of (tags_at (get_or ws i []) 0)

-- the head and the count of page i are the first page's
abbrev pub like_first : List (List ℕ) → ℕ → Bool
like_first ws i = eqb (sheet_at ws i).of (sheet_at ws 0).of && same_head (sheet_at ws i).head (sheet_at ws 0).head

-- a page that is short enough and can be laid out: its number and count are page numbers, and its head is no longer than a page
pub record PageFits (w : List ℕ) : Type 0 where
  pub short : length w ≤ page_bytes
  pub fit : Fit (tags_at w 0)
  pub no_small : (content_of (tags_at w 0)).no ≤ 9
  pub of_small : (content_of (tags_at w 0)).of ≤ 9
  pub head_short : length (concat (head_values (head_from (tags_at w 0)))) ≤ page_bytes

-- every page is such a page
abbrev pub AllFit : List (List ℕ) → Type 0
AllFit [] = Unit {0}
AllFit (w ∷ ws) = PageFits w × AllFit ws

-- the pages of a call lie in its buffer, and every one can be laid out
pub record Called (b ss ns : List ℕ) : Type 0 where
  pub lie : inside b ss ns ≡ true
  pub fit : AllFit (pages_at b ss ns)

-- refusal 9: the first page whose head or count is another than the first page's, or 0
abbrev pub first_other : List Sheet → ℕ
first_other [] = 0
first_other (s ∷ l) = page9 s 2 l

-- the count that the first page says
abbrev pub count_said : List Sheet → ℕ
count_said [] = 0
count_said (s ∷ l) = s.of

-- the plan of sheets that belong together: the head of the first, and the rows by page number
abbrev pub plan_of : Sheet → List Sheet → Plan
plan_of s l = record { head = s.head; rows = joined (s ∷ l) 1 s.of }

-- a plan with nothing in it
abbrev pub no_plan : Plan
no_plan = record { head = record { patch = 0; ident = []; lang = []; person = []; author = []; measures = [] }; rows = [] }

-- the plan of all sheets; that of none is of no meaning
abbrev pub plan_in : List Sheet → Plan → Plan
plan_in [] d = d
plan_in (s ∷ l) d = plan_of s l
