-- Find: what finding a package number promises for any call, inside (`Promised`) and at the border (`Handed`): how many rows hold the number, or the refusal, and the
-- final state of the lent list, against what documents 01 and 02 say of the call.
-- Assumes nothing.
use Rattle.std.specs.Prelude.{◌≡◌, List, [], ◌∷◌, ℕ, length, Option, Some, None, Result, Ok, Err}
use Rattle.paper.specs.Reading as Paper
use Rattle.paper.specs.Calls.{find_call}
use Rattle.paper.specs.Index.{holders}
use Rattle.room.specs.Laid.{laid}
use Rattle.reader.specs.Answers.{told}
use Rattle.index.specs.declared.answer.Held.{Held}
use Rattle.index.specs.declared.answer.Refusal as Index
use Rattle.tollgilt.specs.Refused.{refused_with}
use Rattle.tollgilt.specs.declared.refused.Refused.{Refused}

-- the documents' answer for a call that lends this list
abbrev pub answered : List ℕ → List ℕ → List ℕ → List ℕ → Paper.Answer
answered list buffer starts lens = find_call (length list) buffer starts lens

-- how many rows are told: those that hold the number; 0 for a refusal
abbrev pub rows_told : ℕ → Paper.Answer → ℕ
rows_told n (Paper.refusal m k i) = 0
rows_told n (Paper.plan p) = length (holders n p.rows)

-- the list as handed back: a refusal changes no number; else it begins with the rows that hold the number, ascending, and behind them is as it was
abbrev pub list_after : ℕ → Paper.Answer → List ℕ → List ℕ
list_after n (Paper.refusal m k i) list = list
list_after n (Paper.plan p) list = laid list 0 (holders n p.rows)

-- the result where the documents answer so: how many rows hold the number, or the refusal
abbrev pub given : ℕ → Paper.Answer → Result ℕ Refused
given n (Paper.refusal m k i) = Err (refused_with m k i)
given n (Paper.plan p) = Ok (length (holders n p.rows))

-- what is promised where the documents answer so: of the number asked for, the list as lent, the result, and the list as handed back
pub record Promised (a : Paper.Answer) (n : ℕ) (list : List ℕ) (r : Result ℕ Refused) (list' : List ℕ) : Type 0 where
  pub result_is : r ≡ given n a
  pub list_is : list' ≡ list_after n a list

-- the same at the border, in numbers: r is the refusal's number, 0 for a plan; told are how many rows hold the number, and the refusal's page and place
pub record Handed (a : Paper.Answer) (n : ℕ) (list : List ℕ) (r : ℕ) (list' told' : List ℕ) : Type 0 where
  pub number_is : r ≡ (told a).number
  pub told_is : told' ≡ rows_told n a ∷ (told a).page ∷ (told a).place ∷ []
  pub list_is : list' ≡ list_after n a list

-- how many rows an index tells: none but those that hold the number
abbrev pub count_of : Result (Option Held) Index.Refusal → ℕ
count_of (Ok (Some x)) = x.count
count_of (Ok None) = 0
count_of (Err e) = 0
