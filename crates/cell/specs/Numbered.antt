-- Numbered: the cell that a call with numbers asks for: document 01's, of the rows that the numbers stand for.
--   a field  is a number: 1 name, 2 substance, 3 strength, 4 form, 5 morning, 6 midday, 7 evening, 8 night, 9 the dose as free text
--   a row    is there if its number, counted from 1, is not above the row count, and its record lies in the lent rows
--   a value  is present by its length alone; only the range of the value asked for is held against the text
-- Assumes nothing.
use Rattle.std.specs.Prelude.{Bool, true, false, not, ◌&&◌, List, [], ◌∷◌, map, ℕ, zero, suc, ◌+◌, ◌-◌, ◌*◌, eqb, leb, length, take, drop, get_or, replicate}
use Rattle.std.proofs.Math.Option.{Option, none, some}
use Rattle.paper.specs.Lists.{if}
use Rattle.paper.specs.Plan.{Row}
use Rattle.paper.specs.Layout.{Span, shown}
use Rattle.paper.specs.Cells.{CellField, name, form, morning, midday, evening, night, free_dose, substance, strength, Cell, no_cell, cell_in}
use Rattle.plan.specs.Numbers.{record_at, span_in, spans_of, kind_shown, row_with, absent, within, stride}

-- ---- what is asked for

-- the field of a number; `i` says which of three, for substance and strength. Any other number is a field that does not exist.
abbrev pub field_of : ℕ → ℕ → Option CellField
field_of n i = if (eqb n 1) (some name) (if (eqb n 2) (some (substance i)) (if (eqb n 3) (some (strength i)) (if (eqb n 4) (some form)
    (if (eqb n 5) (some morning) (if (eqb n 6) (some midday) (if (eqb n 7) (some evening) (if (eqb n 8) (some night) (if (eqb n 9) (some free_dose) none))))))))

-- the row is there
abbrev pub row_there : List ℕ → ℕ → ℕ → Bool
row_there rows count row = leb 1 row && (leb row count && leb (row * stride) (length rows))

-- ---- the rows that numbers stand for

-- the value that a span stands for: what it shows in the text. A span that points outside the text stands for a value all the same, of its length; its bytes
-- are of no meaning, for the cell that would show them is refused.
abbrev pub stands_for : List ℕ → Span → List ℕ
stands_for t s = if (within (length t) s) (shown t s) (replicate s.len 0)

-- the row that a record stands for
unfoldable pub row_for : List ℕ → List ℕ → Row
row_for t l = row_with (kind_shown (get_or l 0 0)) (get_or l 1 0) (map (stands_for t) (spans_of l))

-- the rows that the first n records stand for
abbrev pub rows_for : List ℕ → ℕ → List ℕ → List Row
rows_for t zero rows = []
rows_for t (suc n) rows = row_for t (take stride rows) ∷ rows_for t n (drop stride rows)

-- ---- "a range outside its text": the range of the value asked for

-- the span of the value that a cell shows: of a medication's a, fd, m, d, v, h and t, and of w and s of its i-th W
abbrev pub span_for : CellField → ℕ
span_for name = 0
span_for form = 2
span_for morning = 3
span_for midday = 4
span_for evening = 5
span_for night = 6
span_for free_dose = 7
span_for (substance i) = 11 + 2 * i
span_for (strength i) = 12 + 2 * i

-- a time of day
abbrev pub is_time : CellField → Bool
is_time morning = true
is_time midday = true
is_time evening = true
is_time night = true
is_time name = false
is_time form = false
is_time free_dose = false
is_time (substance i) = false
is_time (strength i) = false

-- an absent value
abbrev pub no_value : Span
no_value = record { at = 0; len = 0 }

-- the range of the plan's own value for a cell; beside a free text the times of day are absent, whatever stands in their spans
abbrev pub own_span : List ℕ → CellField → Span
own_span l f = if (is_time f && not (absent (span_in l 7))) no_value (span_in l (span_for f))

-- the value asked for lies in the text; an absent value has no range
abbrev pub in_range : List ℕ → List ℕ → CellField → Bool
in_range t l f = within (length t) (own_span l f)

-- ---- the cell

-- the cell of a field, or refusal 1
abbrev pub cell_for : List ℕ → ℕ → List ℕ → List ℕ → ℕ → Option CellField → Cell
cell_for rows count t k row none = no_cell
cell_for rows count t k row (some f) = if (row_there rows count row && in_range t (record_at rows (row - 1)) f) (cell_in (rows_for t count rows) row f k) no_cell

-- the cell that a call asks for: of these rows, so many of them, with this text and this catalogue, row number, field number, and which of three
unfoldable pub cell_at : List ℕ → ℕ → List ℕ → List ℕ → ℕ → ℕ → ℕ → Cell
cell_at rows count t k row n i = cell_for rows count t k row (field_of n i)
