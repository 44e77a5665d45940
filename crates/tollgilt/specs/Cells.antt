-- Cells: what asking for a printed cell promises for any call, inside (`Promised`) and at the border (`Handed`): the result and the final state of
-- the lent room, against what documents 01 and 02 say of the call.
-- Assumes nothing.
use Rattle.std.specs.Prelude.{◌≡◌, Bool, List, [], ◌∷◌, ℕ, length, Result, Ok, Err}
use Rattle.std.proofs.Math.Option.{Option, none, some}
use Rattle.paper.specs.Lists.{if, is_empty}
use Rattle.paper.specs.Reading as Paper
use Rattle.paper.specs.Cells.{CellField, Cell, cell, no_cell, cell_in}
use Rattle.paper.specs.Calls.{cell_call}
use Rattle.room.specs.Laid.{laid}
use Rattle.cell.specs.Numbered.{field_of}
use Rattle.cell.specs.Answers.{source_number, text_of}
use Rattle.cell.specs.declared.answer.Source.{Source}
use Rattle.cell.specs.declared.answer.Source.TheVariants.{Plan, Catalogue, Neither}
use Rattle.tollgilt.specs.Refused.{refused_with, numbers_of}
use Rattle.tollgilt.specs.declared.cells.CellShown.{CellShown}
use Rattle.tollgilt.specs.declared.refused.Refused.{Refused}

-- ---- the documents' answer

-- the number, page and place of a refusal; or a cell: where its text comes from, the text, "a flag that '...' follows", "how many characters were left out", and
-- "a mark that 0 is printed"
pub data Answer : Type 0 where
  refusal : ℕ → ℕ → ℕ → Answer
  shows : Source → List ℕ → Bool → ℕ → Bool → Answer

-- "The cell shows the plan's own text if there …, else the catalogue's …; with neither it is empty": where the text of a cell comes from, by what the same cell
-- shows without any catalogue
abbrev pub source_of : Cell → Cell → Source
source_of alone x = if (is_empty (text_of alone)) (if (is_empty (text_of x)) Neither Catalogue) Plan

-- what is answered of a cell whose text comes from there; "for a cell, a field or row that does not exist" is 1
abbrev pub answer_of : Source → Cell → Answer
answer_of s (cell t d o m) = shows s t d o m
answer_of s no_cell = refusal 1 0 0

-- the cell of the plan that was read: of the row of that number, of a field, and with that catalogue; a refusal of reading is the answer
abbrev pub cell_from : Paper.Answer → ℕ → Option CellField → List ℕ → Answer
cell_from (Paper.refusal n k i) row f catalogue = refusal n k i
cell_from (Paper.plan p) row none catalogue = refusal 1 0 0
cell_from (Paper.plan p) row (some f) catalogue = answer_of (source_of (cell_in p.rows row f []) (cell_in p.rows row f catalogue)) (cell_in p.rows row f catalogue)

-- the documents' answer for a call that lends this room: of the pages' plan, with this catalogue, row number, field number, and which of three
abbrev pub answered : List ℕ → List ℕ → List ℕ → List ℕ → List ℕ → ℕ → ℕ → ℕ → Answer
answered out buffer starts lens catalogue row n i = cell_from (cell_call (length out) buffer starts lens) row (field_of n i) catalogue

-- ---- the promise

-- what a cell shows, in numbers
abbrev pub cell_with : Source → ℕ → Bool → ℕ → Bool → CellShown
cell_with s l d o m = record { source = s; length = l; more = d; omitted = o; zero = m }

-- the result where the documents answer so: what the cell shows, or the refusal
abbrev pub given : Answer → Result CellShown Refused
given (refusal n k i) = Err (refused_with n k i)
given (shows s t d o m) = Ok (cell_with s (length t) d o m)

-- the room as handed back: a refusal changes no byte; else it begins with the cell's text, and behind that is as it was
abbrev pub room_after : Answer → List ℕ → List ℕ
room_after (refusal n k i) out = out
room_after (shows s t d o m) out = laid out 0 t

-- what is promised where the documents answer so: of the room as lent, the result, and the room as handed back
pub record Promised (a : Answer) (out : List ℕ) (r : Result CellShown Refused) (out' : List ℕ) : Type 0 where
  pub result_is : r ≡ given a
  pub room_is : out' ≡ room_after a out

-- a flag or a mark as a number: 1 where it is set
abbrev pub flag_number : Bool → ℕ
flag_number b = if b 1 0

-- what the border tells of a result: the length of the text, the refusal's page and place, the source's number, the flag, the mark, and how much was left out; for a
-- refusal all but page and place are 0
abbrev pub told_of : Result CellShown Refused → List ℕ
told_of (Ok c) = c.length ∷ 0 ∷ 0 ∷ source_number c.source ∷ flag_number c.more ∷ flag_number c.zero ∷ c.omitted ∷ []
told_of (Err e) = 0 ∷ e.page ∷ e.place ∷ 0 ∷ 0 ∷ 0 ∷ 0 ∷ []

-- the same at the border: r is the refusal's number, 0 for a cell
pub record Handed (a : Answer) (out : List ℕ) (r : ℕ) (out' told' : List ℕ) : Type 0 where
  pub number_is : r ≡ (numbers_of (given a)).number
  pub told_is : told' ≡ told_of (given a)
  pub room_is : out' ≡ room_after a out
