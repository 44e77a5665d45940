-- Fresh: what writing pages afresh promises for any call, inside (`Promised`) and at the border (`Handed`): the result and the final state of
-- the lent room, against what document 01 says of the call.
-- Assumes nothing.
use Rattle.std.specs.Prelude.{◌≡◌, List, [], ◌∷◌, ℕ, ◌+◌, length, take, Result, Ok, Err}
use Rattle.paper.specs.Lists.{concat}
use Rattle.paper.specs.Reading as Paper
use Rattle.paper.specs.Writing.{Written, bad_call, unsound, too_long, written, fresh}
use Rattle.paper.specs.Calls.{pages_at, fresh_call}
use Rattle.room.specs.Laid.{laid}
use Rattle.plan.specs.Numbers.{padded}
use Rattle.writer.specs.Promise.{pages_told}
use Rattle.writer.specs.declared.writing.Pages.{Pages}
use Rattle.tollgilt.specs.Refused.{refused_with, numbers_of}
use Rattle.tollgilt.specs.declared.refused.Refused.{Refused}

-- ---- document 01's answer

-- the number, page and place of a refusal; or the fresh pages
pub data Answer : Type 0 where
  refusal : ℕ → ℕ → ℕ → Answer
  pages : List (List ℕ) → Answer

-- what the writer answers; its refusals have page 0
abbrev pub writes : Written → Answer
writes bad_call = refusal 1 0 0
writes (unsound i) = refusal 13 0 i
writes (too_long i) = refusal 14 0 i
writes (written f) = pages f

-- what is read is written; a refusal of reading is the answer
abbrev pub afresh : Paper.Answer → Answer
afresh (Paper.refusal n k i) = refusal n k i
afresh (Paper.plan p) = writes (fresh p)

-- document 01's answer for a call that lends this room
abbrev pub answered : List ℕ → List ℕ → List ℕ → List ℕ → Answer
answered out buffer starts lens = afresh (fresh_call (length out) buffer starts lens)

-- ---- the promise

-- the result where document 01 answers so: the pages in numbers, or the refusal
abbrev pub given : Answer → Result Pages Refused
given (refusal n k i) = Err (refused_with n k i)
given (pages f) = Ok (pages_told f)

-- the room as handed back: a refusal changes no byte; else the pages lie in it "one behind the other", from its beginning on, and behind them it is as it was
abbrev pub room_after : Answer → List ℕ → List ℕ
room_after (refusal n k i) out = out
room_after (pages f) out = laid out 0 (concat f)

-- what is promised where document 01 answers so: of the room as lent, the result, and the room as handed back
pub record Promised (a : Answer) (out : List ℕ) (r : Result Pages Refused) (out' : List ℕ) : Type 0 where
  pub result_is : r ≡ given a
  pub room_is : out' ≡ room_after a out

-- what the border tells of a result: the number of pages, the refusal's page and place, and the nine lengths; number and lengths are 0 for a refusal
abbrev pub told_of : Result Pages Refused → List ℕ
told_of (Ok w) = w.count ∷ 0 ∷ 0 ∷ w.lens
told_of (Err e) = 0 ∷ e.page ∷ e.place ∷ padded 9 0 []

-- the same at the border: r is the refusal's number, 0 for pages
pub record Handed (a : Answer) (out : List ℕ) (r : ℕ) (out' told' : List ℕ) : Type 0 where
  pub number_is : r ≡ (numbers_of (given a)).number
  pub told_is : told' ≡ told_of (given a)
  pub room_is : out' ≡ room_after a out

-- ---- the pages that were given

-- their lengths
abbrev pub lens_told : Pages → List ℕ
lens_told w = take w.count w.lens

-- where pages of these lengths begin that lie one behind the other, the first at n
abbrev pub behind : ℕ → List ℕ → List ℕ
behind n [] = []
behind n (l ∷ ls) = n ∷ behind (n + l) ls

-- where they begin
abbrev pub starts_told : Pages → List ℕ
starts_told w = behind 0 (lens_told w)

-- numbers added up
abbrev pub total : List ℕ → ℕ
total [] = 0
total (l ∷ ls) = l + total ls

-- how many bytes they have
abbrev pub bytes_told : Pages → ℕ
bytes_told w = total (lens_told w)

-- the pages as they lie in a room
abbrev pub pages_in : Pages → List ℕ → List (List ℕ)
pages_in w out = pages_at out (starts_told w) (lens_told w)

-- a buffer begins with the pages that lie in a room
abbrev pub Begins : Pages → List ℕ → List ℕ → Type 0
Begins w out buffer = take (bytes_told w) buffer ≡ take (bytes_told w) out
