-- Promise: what reading promises for any call. `Promised` is the interface: it holds the result and the final state of the lent rooms against
-- what document 01 says of the call.
-- Assumes nothing.
use Rattle.std.specs.Prelude.{◌≡◌, List, ℕ, length, Result, MatchResult}
use Rattle.paper.specs.Reading as Paper
use Rattle.paper.specs.Plan as Said
use Rattle.paper.specs.Layout.{text_of}
use Rattle.paper.specs.Calls.{read_call}
use Rattle.room.specs.Laid.{laid}
use Rattle.plan.specs.Numbers.{rows_lent, plan_numbers, plan_rows}
use Rattle.plan.specs.declared.Plan.{Plan}
use Rattle.reader.specs.Answers.{refused_as}
use Rattle.reader.specs.declared.answer.Refusal.{Refusal}

-- a refusal: document 01's answer is the refusal with its number, page and place, and the rooms are as they were
pub record Refuses (A : Paper.Answer) (x : Refusal) (rows text rows' text' : List ℕ) : Type 0 where
  pub answer_is : A ≡ refused_as x
  pub rows_are : rows' ≡ rows
  pub text_is : text' ≡ text

-- a plan: document 01's answer is a plan, its numbers are given by value, and the rooms begin with the rows' records and the text; behind them they are as they were
pub record Reads (A : Paper.Answer) (q : Plan) (rows text rows' text' : List ℕ) : Type 0 where
  pub plan : Said.Plan
  pub answer_is : A ≡ Paper.plan plan
  pub plan_is : q ≡ plan_numbers plan
  pub rows_are : rows' ≡ laid rows 0 (plan_rows plan)
  pub text_is : text' ≡ laid text 0 (text_of plan)

-- what is promised where document 01 answers so: of the rooms as lent, the result, and the rooms as handed back
abbrev pub Promised : Paper.Answer → List ℕ → List ℕ → Result Plan Refusal → List ℕ → List ℕ → Type 0
Promised A rows text r rows' text' = MatchResult r (λ q. Reads A q rows text rows' text') (λ x. Refuses A x rows text rows' text')

-- document 01's answer for a call that lends these rooms: the rows as numbers, 48 to a row
abbrev pub answered : List ℕ → List ℕ → List ℕ → List ℕ → List ℕ → Paper.Answer
answered rows text buffer starts lens = read_call (rows_lent (length rows)) (length text) buffer starts lens
