-- Printed: what the functions behind planlist, planfresh, planfind and plancell promise for any input (`Prints`): how many bytes are printed and the final state of the lent room,
-- against what is printed. For planlist document 01 says that, for the others this page.
-- Assumes nothing.
use Rattle.std.specs.Prelude.{◌≡◌, Bool, true, false, ◌&&◌, List, [], ◌∷◌, ◌++◌, ℕ, suc, ◌+◌, ◌*◌, ◌≤◌, leb, ltb, length, take, drop, Option, Some, None}
use Rattle.paper.specs.Lists.{bytes, if, every, number}
use Rattle.paper.specs.Bytes.{is_digit}
use Rattle.paper.specs.Calls.{row_room, page_room, listing_room, cell_room}
use Rattle.paper.specs.Reading as Paper
use Rattle.paper.specs.Reading.{Numbers, numbers, read}
use Rattle.paper.specs.Listing.{Line, line, numeral, print, parted, refusal_lines, planlist}
use Rattle.paper.specs.Index.{holders}
use Rattle.room.specs.Laid.{laid}
use Rattle.listing.specs.Split.{to_zero}
use Rattle.cell.specs.Numbered.{field_of}
use Rattle.cell.specs.Answers.{source_number}
use Rattle.tollgilt.specs.Cells as Cells
use Rattle.tollgilt.specs.Cells.{cell_from, flag_number}
use Rattle.tollgilt.specs.Fresh as Fresh
use Rattle.tollgilt.specs.Fresh.{pages, afresh}
use Rattle.tollgilt.specs.declared.input.Question.{Question}

-- ---- what planfresh prints

-- pages, each with one zero byte before it
abbrev pub zero_then : List (List ℕ) → List ℕ
zero_then [] = []
zero_then (w ∷ ws) = 0 ∷ (w ++ zero_then ws)

-- "pages …, separated by one zero byte"
abbrev pub separated : List (List ℕ) → List ℕ
separated [] = []
separated (w ∷ ws) = w ++ zero_then ws

-- fresh pages, or "A refusal prints three lines: `refused=`, `page=`, `place=`."
abbrev pub fresh_lines : Fresh.Answer → List ℕ
fresh_lines (Fresh.refusal n k i) = refusal_lines n k i
fresh_lines (pages f) = separated f

-- what planfresh prints; its input is parted as planlist's
unfoldable pub planfresh : List ℕ → List ℕ
planfresh s = fresh_lines (afresh (read (parted (take 12609 s))))

-- ---- an input that asks for a number

-- a number is asked for in one to eight digits; it may begin with zeros
abbrev pub is_asked : List ℕ → Bool
is_asked w = every is_digit w && (leb 1 (length w) && leb (length w) 8)

-- the input asks for a number: it has a zero byte, and a number before the first one
abbrev pub asks : List ℕ → Bool
asks s = ltb (to_zero s) (length s) && is_asked (take (to_zero s) s)

-- the number that it asks for
abbrev pub number_asked : List ℕ → ℕ
number_asked s = number 0 (take (to_zero s) s)

-- what stands behind the number and its zero byte
abbrev pub behind_number : List ℕ → List ℕ
behind_number s = drop (suc (to_zero s)) s

-- the input asks for the number n, and what stands behind it begins at that place
pub record AsksFor (s : List ℕ) (n at : ℕ) : Type 0 where
  pub asks_one : asks s ≡ true
  pub number_is : n ≡ number_asked s
  pub pages_are : drop at s ≡ behind_number s
  pub inside : at ≤ length s

-- what the input asks for is told so
abbrev pub Asks : List ℕ → Option Question → Type 0
Asks s None = asks s ≡ false
Asks s (Some q) = AsksFor s q.number q.pages

-- what is printed for an input that asks for a number, by what is printed for the number and for what stands behind it; an input that asks for none is refusal 1
abbrev pub asked : (ℕ → List ℕ → List ℕ) → List ℕ → List ℕ
asked f s = if (asks s) (f (number_asked s) (behind_number s)) (refusal_lines 1 0 0)

-- ---- what planfind prints

-- a line for each of these rows
abbrev pub row_lines : List ℕ → List Line
row_lines [] = []
row_lines (i ∷ is) = line (bytes "row") (numeral i) ∷ row_lines is

-- how many rows hold the number, and which
unfoldable pub held_lines : List ℕ → List ℕ
held_lines is = print (line (bytes "held") (numeral (length is)) ∷ row_lines is)

-- the rows that hold the number, or the lines of a refusal
abbrev pub found_lines : ℕ → Paper.Answer → List ℕ
found_lines n (Paper.refusal m k i) = refusal_lines m k i
found_lines n (Paper.plan p) = held_lines (holders n p.rows)

-- what is printed for a number and for pages that are parted as planlist's
unfoldable pub found_in : ℕ → List ℕ → List ℕ
found_in n s = found_lines n (read (parted (take 12609 s)))

-- what planfind prints: its input asks for a package number, and pages stand behind it
unfoldable pub planfind : List ℕ → List ℕ
planfind s = asked found_in s

-- ---- what plancell prints

-- the lines of a cell: where its text comes from, the flag that "..." follows, how many bytes were left out, the mark that 0 is printed, and the text
unfoldable pub shown_lines : ℕ → Bool → ℕ → Bool → List ℕ → List ℕ
shown_lines s d o m t = print (line (bytes "source") (numeral s) ∷ line (bytes "cut") (numeral (flag_number d)) ∷ line (bytes "left") (numeral o) ∷ line (bytes "zero") (numeral (flag_number m)) ∷ line (bytes "text") t ∷ [])

-- a cell, or the lines of a refusal
abbrev pub cell_lines : Cells.Answer → List ℕ
cell_lines (Cells.refusal n k i) = refusal_lines n k i
cell_lines (Cells.shows s t d o m) = shown_lines (source_number s) d o m t

-- what is printed for the numbers of a row and a field, which of three, a catalogue's text, and pages that are parted as planlist's
unfoldable pub cell_printed : ℕ → ℕ → ℕ → List ℕ → List ℕ → List ℕ
cell_printed row n i k s = cell_lines (cell_from (read (parted (take 12609 s))) row (field_of n i) k)

-- a catalogue's text: at most 1,000 bytes before the first zero byte
abbrev pub has_catalogue : List ℕ → Bool
has_catalogue s = ltb (to_zero s) (length s) && leb (to_zero s) 1000

-- what stands behind the three numbers: the catalogue's text, a zero byte, and pages; without such a text it is refusal 1
unfoldable pub cell_behind : ℕ → ℕ → ℕ → List ℕ → List ℕ
cell_behind row n i s = if (has_catalogue s) (cell_printed row n i (take (to_zero s) s) (drop (suc (to_zero s)) s)) (refusal_lines 1 0 0)

-- what plancell prints: its input asks for a row, a field and which of three, one behind the other
unfoldable pub plancell : List ℕ → List ℕ
plancell s = asked (λ row. asked (λ n. asked (cell_behind row n))) s

-- ---- document 01's answer

-- the number, page and place of a refusal; or the bytes that are printed, be they a plan's or the lines of a refusal
pub data Answer : Type 0 where
  refusal : ℕ → ℕ → ℕ → Answer
  prints : List ℕ → Answer

-- what planlist prints for its input; a lent room of less than 25,200 bytes is refusal 1
unfoldable pub list_answer : List ℕ → List ℕ → Answer
list_answer out input = if (leb listing_room (length out)) (prints (planlist input)) (refusal 1 0 0)

-- room for nine full pages, and the zero bytes between them
abbrev pub separated_room : ℕ
separated_room = page_room + 8

-- what planfresh prints for its input; less room is refusal 1
unfoldable pub fresh_answer : List ℕ → List ℕ → Answer
fresh_answer out input = if (leb separated_room (length out)) (prints (planfresh input)) (refusal 1 0 0)

-- room for the line `held=256`, and for 256 lines like `row=256`
abbrev pub found_room : ℕ
found_room = 9 + 8 * row_room

-- what planfind prints for its input; less room is refusal 1
unfoldable pub find_answer : List ℕ → List ℕ → Answer
find_answer out input = if (leb found_room (length out)) (prints (planfind input)) (refusal 1 0 0)

-- room for the lines `source=2`, `cut=1`, `left=1000` and `zero=1`, and for the longest text in its line
abbrev pub cell_lines_room : ℕ
cell_lines_room = 38 + cell_room

-- what plancell prints for its input; less room is refusal 1
unfoldable pub cell_answer : List ℕ → List ℕ → Answer
cell_answer out input = if (leb cell_lines_room (length out)) (prints (plancell input)) (refusal 1 0 0)

-- ---- the promise

-- the number, page and place of a result: no bytes are refusal 1, room too small; what is printed is 0, 0, 0
abbrev pub numbers_of : Option ℕ → Numbers
numbers_of (Some n) = numbers 0 0 0
numbers_of None = numbers 1 0 0

-- how many bytes it tells
abbrev pub length_of : Option ℕ → ℕ
length_of (Some n) = n
length_of None = 0

-- the number, page and place that document 01's answer has
abbrev pub told : Answer → Numbers
told (refusal n k i) = numbers n k i
told (prints w) = numbers 0 0 0

-- how many bytes it prints
abbrev pub length_told : Answer → ℕ
length_told (refusal n k i) = 0
length_told (prints w) = length w

-- the room as handed back: a refusal changes no byte; else it begins with what is printed, and behind that is as it was
abbrev pub room_after : Answer → List ℕ → List ℕ
room_after (refusal n k i) out = out
room_after (prints w) out = laid out 0 w

-- what is promised where document 01 answers so: of the room as lent, the result, and the room as handed back
pub record Prints (a : Answer) (out : List ℕ) (r : Option ℕ) (out' : List ℕ) : Type 0 where
  pub answer_is : numbers_of r ≡ told a
  pub length_is : length_of r ≡ length_told a
  pub room_is : out' ≡ room_after a out
