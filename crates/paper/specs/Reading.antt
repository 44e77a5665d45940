-- Reading: document 01, "Refusal numbers and their order". Pages to a plan, joined by what they say. The order in which they are handed in
-- appears in refusals alone.
-- Assumes nothing.
use Rattle.std.specs.Prelude.{Bool, false, ◌&&◌, ◌||◌, List, [], ◌∷◌, ◌++◌, ℕ, zero, suc, eqb, leb, length}
use Rattle.paper.specs.Lists.{if}
use Rattle.paper.specs.Plan.{Row, Plan, same_head}
use Rattle.paper.specs.Judging.{Sheet, Judged, refused, sheet, judge}

-- "An answer carries number, page, place."
pub record Numbers : Type 0 where
  pub number : ℕ
  pub page : ℕ
  pub place : ℕ

-- three numbers of an answer
abbrev pub numbers : ℕ → ℕ → ℕ → Numbers
numbers n k i = record { number = n; page = k; place = i }

-- the three numbers of a refusal; else the plan
pub data Answer : Type 0 where
  refusal : ℕ → ℕ → ℕ → Answer
  plan : Plan → Answer

-- the sheets, or the first page that is refused; k is the number of the first page
pub data Judgement : Type 0 where
  stopped : ℕ → ℕ → ℕ → Judgement
  sheets : List Sheet → Judgement

-- a page before the others
abbrev pub cons : Judged → ℕ → Judgement → Judgement
cons (refused n i) k r = stopped n k i
cons (sheet s) k (stopped n j i) = stopped n j i
cons (sheet s) k (sheets l) = sheets (s ∷ l)

-- "each page in order handed in for 2 to 8"
abbrev pub judge_all : ℕ → List (List ℕ) → Judgement
judge_all k [] = sheets []
judge_all k (w ∷ ws) = cons (judge w) k (judge_all (suc k) ws)

-- refusal 9: "head or z differs from the first page handed in"; the first such page, or 0
abbrev pub page9 : Sheet → ℕ → List Sheet → ℕ
page9 s k [] = 0
page9 s k (t ∷ ts) = if (eqb t.of s.of && same_head t.head s.head) (page9 s (suc k) ts) k

-- some page has that number
abbrev pub has : ℕ → List Sheet → Bool
has n [] = false
has n (s ∷ l) = eqb s.no n || has n l

-- refusal 10: "a page number already seen"; the first such page, or 0; `was` are the pages before
abbrev pub page10 : List Sheet → ℕ → List Sheet → ℕ
page10 was k [] = 0
page10 was k (s ∷ l) = if (has s.no was) k (page10 (s ∷ was) (suc k) l)

-- refusal 11: the lowest missing number of the k numbers from n on, or 0
abbrev pub number11 : List Sheet → ℕ → ℕ → ℕ
number11 l n zero = 0
number11 l n (suc k) = if (has n l) (number11 l (suc n) k) n

-- the rows of the page of that number
abbrev pub rows_at : ℕ → List Sheet → List Row
rows_at n [] = []
rows_at n (s ∷ l) = if (eqb s.no n) s.rows (rows_at n l)

-- "in document order, pages by a": the rows of the k pages from number n on
abbrev pub joined : List Sheet → ℕ → ℕ → List Row
joined l n zero = []
joined l n (suc k) = rows_at n l ++ joined l (suc n) k

-- refusal n at the page or number k; where k is 0 there is no such one, and what comes after it decides
abbrev pub refuse_at : ℕ → ℕ → Answer → Answer
refuse_at n zero a = a
refuse_at n (suc k) a = refusal n (suc k) 0

-- refusal 12: "more than 256 rows"
abbrev pub enough : Plan → Answer
enough p = if (leb (length p.rows) 256) (plan p) (refusal 12 0 0)

-- "then 9, 10, 11, 12"
abbrev pub join : List Sheet → Answer
join [] = refusal 1 0 0
join (s ∷ l) = refuse_at 9 (page9 s 2 l) (refuse_at 10 (page10 [] 1 (s ∷ l)) (refuse_at 11 (number11 (s ∷ l) 1 s.of)
    (enough (record { head = s.head; rows = joined (s ∷ l) 1 s.of }))))

-- the first page's refusal, or the join
abbrev pub decide : Judgement → Answer
decide (stopped n k i) = refusal n k i
decide (sheets l) = join l

-- 1 to 9 pages to a plan
unfoldable pub read : List (List ℕ) → Answer
read ws = if (leb 1 (length ws) && leb (length ws) 9) (decide (judge_all 1 ws)) (refusal 1 0 0)
