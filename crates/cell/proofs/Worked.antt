-- Worked: cells of two rows in numbers: one with a code for its form and one time of day, and one whose free text points outside the text.
-- Assumes nothing.
use mathlib.Core.Path.{◌≡◌, refl}
use mathlib.Core.Bool.{Bool, true, false}
use mathlib.Core.List.{List, [], ◌∷◌, ◌++◌}
use Prim.Native.Nat.{ℕ}
use lib.ListN.{replicate}
use Rattle.paper.specs.Lists.{bytes}
use Rattle.paper.specs.Fields.{fields_of}
use Rattle.paper.specs.Layout.{Span}
use Rattle.paper.specs.Cells.{Cell, cell, no_cell}
use Rattle.plan.specs.Numbers.{spans_in, record_with}
use Rattle.plan.proofs.Spans.{none}
use Rattle.paper.specs.Reading.{numbers}
use Rattle.cell.specs.declared.answer.Source.{Source}
use Rattle.cell.specs.declared.answer.Source.TheVariants.{Plan, Catalogue, Neither}
use Rattle.cell.specs.Numbered.{row_for, cell_at}
use Rattle.std.specs.Prelude.{Err}
use Rattle.cell.specs.Answers.{Values, values_of, values_at}

-- a span
abbrev span : ℕ → ℕ → Span
span a n = record { at = a; len = n }

-- a="ASS" f="TAB" m="1"; then m="1" with a free text that lies elsewhere
abbrev rows : List ℕ
rows = record_with 2 0 (span 0 3 ∷ span 3 3 ∷ none ∷ span 6 1 ∷ []) ++ record_with 2 0 (replicate 3 none ++ (span 6 1 ∷ none ∷ none ∷ none ∷ span 100 2 ∷ []))

abbrev text : List ℕ
text = bytes "ASSTAB1"

-- a cell of these rows, with a catalogue: row, field, which of three
abbrev asked : List ℕ → ℕ → ℕ → ℕ → Cell
asked k row n i = cell_at rows 2 text k row n i

module _ (k : List ℕ) where
  -- the plan's own name, and its own dose, whatever the catalogue says
  own : (asked k 1 1 0 ≡ cell (bytes "ASS") false 0 false) × (asked k 1 5 0 ≡ cell (bytes "1") false 0 false)
  unfolding cell_at row_for record_with spans_in fields_of
  own = (refl, refl)

  -- midday is absent beside morning: 0 is printed; there is no free text
  other_time : (asked k 1 6 0 ≡ cell [] false 0 true) × (asked k 1 9 0 ≡ cell [] false 0 false)
  unfolding cell_at row_for record_with spans_in fields_of
  other_time = (refl, refl)

  -- a free text hides the times, wherever it points; asked for, it is refused
  free_text_lem : (asked k 2 5 0 ≡ cell [] false 0 false) × (asked k 2 9 0 ≡ no_cell)
  unfolding cell_at row_for record_with spans_in fields_of
  free_text_lem = (refl, refl)

  -- no third row, no fourth substance, no tenth field
  nothing : (asked k 3 1 0 ≡ no_cell) × (asked k 1 2 4 ≡ no_cell) × (asked k 1 10 0 ≡ no_cell)
  unfolding cell_at row_for record_with spans_in fields_of
  nothing = (refl, refl, refl)

-- the values of such a cell
abbrev shows : Source → ℕ → ℕ → Bool → ℕ → Bool → Values
shows x a n d o m = record { refusal = numbers 0 0 0; source = x; at = a; len = n; more = d; omitted = o; zero = m }

-- where these texts lie, and the refusals
abbrev values : List ℕ → ℕ → ℕ → ℕ → Values
values k row n i = values_at rows 2 text k row n i

module _ (k : List ℕ) where
  -- the name and the dose in the plan's text; an empty time comes from neither
  own_placed : (values k 1 1 0 ≡ shows Plan 0 3 false 0 false) × (values k 1 5 0 ≡ shows Plan 6 1 false 0 false) × (values k 1 6 0 ≡ shows Neither 0 0 false 0 true)
  unfolding values_at cell_at row_for record_with spans_in fields_of
  own_placed = (refl, refl, refl)

  -- refusal 1 at 0, 0
  no_place : (values k 3 1 0 ≡ values_of (Err (record {}))) × (values k 2 9 0 ≡ values_of (Err (record {})))
  unfolding values_at cell_at row_for record_with spans_in fields_of
  no_place = (refl, refl)

-- the form's text is the catalogue's, from its beginning; without one it is neither's
form_placed : (values (bytes "Tablette") 1 4 0 ≡ shows Catalogue 0 4 true 4 false) × (values [] 1 4 0 ≡ shows Neither 0 0 false 0 false)
unfolding values_at cell_at row_for record_with spans_in fields_of
form_placed = (refl, refl)

-- the form's code is no text: the catalogue's stands in, cut to four bytes and "..."
form_cut : asked (bytes "Tablette") 1 4 0 ≡ cell (bytes "Tabl") true 4 false
unfolding cell_at row_for record_with spans_in fields_of
form_cut = refl
