-- Promise: what listing promises for any call, inside (`Promised`) and at the border (`Handed`): the result and the final state of the lent room, against what
-- document 01 says of the call.
-- Assumes nothing.
use Rattle.std.specs.Prelude.{◌≡◌, List, [], ◌∷◌, ℕ, length, Result, Ok, Err}
use Rattle.paper.specs.Reading as Paper
use Rattle.paper.specs.Listing.{listing}
use Rattle.paper.specs.Calls.{list_call}
use Rattle.room.specs.Laid.{laid}
use Rattle.reader.specs.Answers.{told}
use Rattle.tollgilt.specs.Refused.{refused_with}
use Rattle.tollgilt.specs.declared.refused.Refused.{Refused}

-- document 01's answer for a call that lends this room
abbrev pub answered : List ℕ → List ℕ → List ℕ → List ℕ → Paper.Answer
answered out buffer starts lens = list_call (length out) buffer starts lens

-- the length that is told: of the listing; 0 for a refusal
abbrev pub length_told : Paper.Answer → ℕ
length_told (Paper.refusal n k i) = 0
length_told (Paper.plan p) = length (listing p)

-- the room as handed back: a refusal changes no byte; else it begins with the listing, and behind that is as it was
abbrev pub room_after : Paper.Answer → List ℕ → List ℕ
room_after (Paper.refusal n k i) out = out
room_after (Paper.plan p) out = laid out 0 (listing p)

-- the result where document 01 answers so: the length of the listing, or the refusal
abbrev pub given : Paper.Answer → Result ℕ Refused
given (Paper.refusal n k i) = Err (refused_with n k i)
given (Paper.plan p) = Ok (length (listing p))

-- what is promised where document 01 answers so: of the room as lent, the result, and the room as handed back
pub record Promised (a : Paper.Answer) (out : List ℕ) (r : Result ℕ Refused) (out' : List ℕ) : Type 0 where
  pub result_is : r ≡ given a
  pub room_is : out' ≡ room_after a out

-- the same at the border, in numbers: r is the refusal's number, 0 for a listing; told are the length of the listing, and the refusal's page and place
pub record Handed (a : Paper.Answer) (out : List ℕ) (r : ℕ) (out' told' : List ℕ) : Type 0 where
  pub number_is : r ≡ (told a).number
  pub told_is : told' ≡ length_told a ∷ (told a).page ∷ (told a).place ∷ []
  pub room_is : out' ≡ room_after a out
