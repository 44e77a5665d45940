-- Promise: what writing promises for any call. `Promised` is the interface: it holds the pages' count and lengths, or the refusal, and the final state of the lent
-- room against what document 01 says of the call.
-- Assumes nothing.
use Rattle.std.specs.Prelude.{◌≡◌, Bool, ◌&&◌, List, map, ℕ, leb, length, Result, Ok, Err}
use Rattle.paper.specs.Lists.{if, concat}
use Rattle.paper.specs.Calls.{row_room, page_room}
use Rattle.paper.specs.Writing.{Written, bad_call, unsound, too_long, written, fresh}
use Rattle.room.specs.Laid.{laid}
use Rattle.plan.specs.Numbers.{rows_lent, show_plan, padded}
use Rattle.plan.specs.declared.Plan.{Plan}
use Rattle.sound.specs.Sound.{numbers_sound, bad_place}
use Rattle.writer.specs.declared.answer.Refusal.{Refusal}
use Rattle.writer.specs.declared.answer.Refusal.TheVariants.{NoRoom, Unsound, TooLong}
use Rattle.writer.specs.declared.writing.Pages.{Pages}

-- ---- document 01's answer

-- "room too small, for the writer a row count above 256 or above the rows lent": with so many rows counted and lent, and so many bytes of room, it is none of these
unfoldable pub call_fits : ℕ → ℕ → ℕ → Bool
call_fits count rows room = leb page_room room && (leb count row_room && leb count rows)

-- "Writer: 1, 13, 14.": the call; then numbers that are not sound; then the plan that they show, to its fresh pages or to 14
unfoldable pub answered : List ℕ → Plan → List ℕ → List ℕ → Written
answered out p rows text = if (call_fits p.rows (rows_lent (length rows)) (length out))
    (if (numbers_sound text p rows) (fresh (show_plan text p rows)) (unsound (bad_place text p rows)))
    bad_call

-- ---- the promise

-- pages in numbers: how many there are, and their nine lengths, 0 for those that are not there
abbrev pub pages_told : List (List ℕ) → Pages
pages_told f = record { count = length f; lens = padded 9 0 (map length f) }

-- the result where document 01 answers so: the pages, or the refusal with its number and place (`numbers_of`)
abbrev pub given : Written → Result Pages Refusal
given bad_call = Err NoRoom
given (unsound i) = Err (Unsound i)
given (too_long i) = Err (TooLong i)
given (written f) = Ok (pages_told f)

-- the room as handed back: a refusal changes no byte; else the pages lie in it "one behind the other", from its beginning on, and behind them it is as it was
abbrev pub room_after : Written → List ℕ → List ℕ
room_after bad_call out = out
room_after (unsound i) out = out
room_after (too_long i) out = out
room_after (written f) out = laid out 0 (concat f)

-- what is promised where document 01 answers so: of the room as lent, the result, and the room as handed back
pub record Promised (w : Written) (out : List ℕ) (r : Result Pages Refusal) (out' : List ℕ) : Type 0 where
  pub result_is : r ≡ given w
  pub room_is : out' ≡ room_after w out
