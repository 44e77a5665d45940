-- Answers: what is answered of a cell: document 01's number and values for each case, and the text as a part of its buffer. `values_of` says what an answer of
-- the code tells, `values_at` what document 01 answers to a call; `slice_of` what a slice is, `text_in` which part of which buffer values tell.
-- Assumes nothing.
use Rattle.std.specs.Prelude.{Bool, true, false, ◌||◌, List, [], ℕ, ◌+◌, ◌-◌, length, take, drop, Result, Ok, Err}
use Rattle.std.proofs.Math.Option.{Option, none, some}
use Rattle.std.specs.Borrow.{Bor}
use Rattle.paper.specs.Lists.{if, is_empty}
use Rattle.paper.specs.Reading.{Numbers, numbers}
use Rattle.paper.specs.Cells.{CellField, name, form, morning, midday, evening, night, free_dose, substance, strength, Cell, cell, no_cell}
use Rattle.plan.specs.Numbers.{record_at, absent}
use Rattle.cell.specs.declared.answer.Source.{Source}
use Rattle.cell.specs.declared.answer.Source.TheVariants.{Plan, Catalogue, Neither}
use Rattle.cell.specs.declared.answer.Shown.{Shown}
use Rattle.cell.specs.declared.answer.NoCell.{NoCell}
use Rattle.cell.specs.Numbered.{field_of, own_span, cell_at}

-- ---- number and values of an answer

-- what is answered: what the cell shows, or that there is none
abbrev pub Answer : Type 0
Answer = Result Shown NoCell

-- the table of refusals: "for a cell, a field or row that does not exist, or a range outside its text" is 1 at 0, 0; a cell is 0, 0, 0
abbrev pub numbers_of : Answer → Numbers
numbers_of (Ok s) = numbers 0 0 0
numbers_of (Err e) = numbers 1 0 0

-- a source as a number
abbrev pub source_number : Source → ℕ
source_number Plan = 1
source_number Catalogue = 2
source_number Neither = 0

-- what an answer says: the refusal's number, page and place; which buffer the text is a part of, where it begins there and how long it is; "a flag that '...'
-- follows"; "how many characters were left out"; "a mark that 0 is printed"
pub record Values : Type 0 where
  pub refusal : Numbers
  pub source : Source
  pub at : ℕ
  pub len : ℕ
  pub more : Bool
  pub omitted : ℕ
  pub zero : Bool

-- the values of a refused cell, which shows nothing
abbrev pub shows_nothing : Numbers → Values
shows_nothing x = record { refusal = x; source = Neither; at = 0; len = 0; more = false; omitted = 0; zero = false }

-- the values of each case
abbrev pub values_of : Answer → Values
values_of (Ok s) = record { refusal = numbers_of (Ok s); source = s.source; at = s.at; len = s.len; more = s.more; omitted = s.omitted; zero = s.zero }
values_of (Err e) = shows_nothing (numbers_of (Err e))

-- the buffer of a source, of the plan's and the catalogue's; an empty cell counts as a part of the plan's
abbrev pub buffer : {A : Type 0} → Source → A → A → A
buffer Plan t k = t
buffer Catalogue t k = k
buffer Neither t k = t

-- the text of a cell
abbrev pub text_of : Cell → List ℕ
text_of (cell t d o m) = t
text_of no_cell = []

-- the cell of document 01 that an answer tells: its text is that part of its buffer
abbrev pub cell_told : List ℕ → List ℕ → Answer → Cell
cell_told t k (Ok s) = cell (take s.len (drop s.at (buffer s.source t k))) s.more s.omitted s.zero
cell_told t k (Err e) = no_cell

-- ---- what document 01 answers

-- a dose cell: a time of day, or the free text
abbrev pub is_dose : CellField → Bool
is_dose morning = true
is_dose midday = true
is_dose evening = true
is_dose night = true
is_dose free_dose = true
is_dose name = false
is_dose form = false
is_dose (substance i) = false
is_dose (strength i) = false

-- "The cell shows the plan's own text if there …, else the catalogue's, as a part of that buffer; with neither it is empty. A dose cell never uses the
-- catalogue": which buffer, and where the text begins there. A value begins where it lies in the plan's text, the catalogue's text at the beginning.
abbrev pub place_for : List ℕ → Option CellField → List ℕ → Source × ℕ
place_for l none k = (Neither, 0)
place_for l (some f) k = if (absent (own_span l f)) (if (is_dose f || is_empty k) (Neither, 0) (Catalogue, 0)) (Plan, (own_span l f).at)

-- the values of document 01's cell whose text begins at that place; refusal 1 at 0, 0 where there is none
abbrev pub values_as : Source × ℕ → Cell → Values
values_as p (cell t d o m) = record { refusal = numbers 0 0 0; source = p.0; at = p.1; len = length t; more = d; omitted = o; zero = m }
values_as p no_cell = shows_nothing (numbers 1 0 0)

-- the values of the cell that a call asks for
unfoldable pub values_at : List ℕ → ℕ → List ℕ → List ℕ → ℕ → ℕ → ℕ → Values
values_at rows count t k row n i = values_as (place_for (record_at rows (row - 1)) (field_of n i) k) (cell_at rows count t k row n i)

-- ---- "as a part of that buffer"

-- a slice, in the logic, is where it points, its bytes, and a name of the logic's own
abbrev pub Lent : Type 0
Lent = Bor (List ℕ)

-- what a caller has of it: where it begins, a block of memory and an offset in it, and its bytes
pub record Slice : Type 0 where
  pub begins : ℕ × ℕ
  pub bytes : List ℕ

abbrev pub slice_of : Lent → Slice
slice_of s = record { begins = s.ref_ptr; bytes = s.now }

-- the part of a slice that begins at byte a of it, and is n bytes long
abbrev pub part : Lent → ℕ → ℕ → Slice
part s a n = record { begins = (s.ref_ptr.0, a + s.ref_ptr.1); bytes = take n (drop a s.now) }

-- the text that values tell, as a part of its buffer
abbrev pub text_in : Lent → Lent → Values → Slice
text_in t k v = part (buffer v.source t k) v.at v.len
