-- Answers: document 01, "Refusal numbers and their order". The number, page and place of each answer to a page, and which answer of document 01 it is.
-- Assumes nothing.
use Rattle.std.specs.Prelude.{◌≡◌, ℕ, eqb, Result, Ok, Err}
use Rattle.paper.specs.Lists.{if}
use Rattle.paper.specs.Reading.{Numbers, numbers}
use Rattle.paper.specs.Collecting as Paper
use Rattle.reader.specs.declared.answer.Refusal.{Refusal}
use Rattle.reader.specs.Answers as Reader
use Rattle.collector.specs.declared.adding.Kept.{Kept}
use Rattle.collector.specs.declared.adding.Kept.TheVariants.{Added, AlreadyHere}

-- what is answered to a page
abbrev pub Answer : Type 0
Answer = Result Kept Refusal

-- the table of refusals: what each case carries; no refusal is 0, 0, 0
abbrev pub numbers_of : Answer → Numbers
numbers_of (Ok x) = numbers 0 0 0
numbers_of (Err x) = Reader.numbers_of x

-- "The collector takes one page, called page 1 in its refusals"; refusal 1 names no page
abbrev pub page_of : ℕ → ℕ
page_of n = if (eqb n 1) 0 1

-- the answer tells what document 01 answers: the same case, and a refusal its number, page and place
abbrev pub Tells : Paper.Added → Answer → Type 0
Tells Paper.added a = a ≡ Ok Added
Tells Paper.already_here a = a ≡ Ok AlreadyHere
Tells (Paper.refused_with n i) a = (x : Refusal) × (a ≡ Err x) × (numbers_of a ≡ numbers n (page_of n) i)
