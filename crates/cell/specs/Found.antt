-- Found: a cell as the code finds it in a row, or none: the range of the plan's own value, the limit, the mark that 0 is printed; and what it shows.
-- A dose cell has limit 0. Serves this crate's contracts; proofs/Told.antt joins it to the cell of `Numbered`, proofs/Shows.antt to the values of `Answers`.
-- Assumes nothing.
use Rattle.std.specs.Prelude.{Bool, true, false, List, ◌≡◌, ℕ, ◌+◌, ◌-◌, ◌*◌, ◌≤◌, eqb, leb, length, drop, get_or, Some, None, Option as Maybe}
use Rattle.std.proofs.Math.Option.{Option, none, some}
use Rattle.paper.specs.Lists.{if}
use Rattle.paper.specs.Cells.{CellField, name, form, morning, midday, evening, night, free_dose, substance, strength, of_three, shown_of}
use Rattle.plan.specs.Numbers.{record_at, within, paper_span}
use Rattle.plan.specs.Records.{no_span, row_in}
use Rattle.plan.specs.declared.Span.{Span}
use Rattle.plan.specs.declared.Times.{Times}
use Rattle.plan.specs.declared.Dose.{Dose}
use Rattle.plan.specs.declared.Dose.TheVariants.{Scheme, Free, Unstated}
use Rattle.plan.specs.declared.Kind.{Kind}
use Rattle.plan.specs.declared.Kind.TheVariants.{Heading, Medication, Recipe, Note, Unknown}
use Rattle.plan.specs.declared.Row.{Row}
use Rattle.cell.specs.declared.Cell.{Cell}
use Rattle.cell.specs.declared.answer.Source.{Source}
use Rattle.cell.specs.declared.answer.Source.TheVariants.{Plan, Catalogue, Neither}
use Rattle.cell.specs.declared.answer.Shown.{Shown}
use Rattle.cell.specs.Numbered.{row_there}

-- a cell with a limit
abbrev pub text_found : Span → ℕ → Cell
text_found s n = record { own = s; limit = n; zero = false }

-- a dose cell
abbrev pub dose_found : Span → Bool → Cell
dose_found s z = record { own = s; limit = 0; zero = z }

-- the time of day of a field's number
abbrev pub time_of : ℕ → Times → Span
time_of n x = if (eqb n 5) x.morning (if (eqb n 6) x.midday (if (eqb n 7) x.evening x.night))

-- one of four times of day: an absent one has the mark
abbrev pub time_found : (Times → Span) → Dose → Cell
time_found w (Scheme x) = dose_found (w x) (eqb (w x).len 0)
time_found w (Free s) = dose_found no_span false
time_found w Unstated = dose_found no_span false

-- the dose as free text
abbrev pub free_found : Dose → Cell
free_found (Scheme x) = dose_found no_span false
free_found (Free s) = dose_found s false
free_found Unstated = dose_found no_span false

-- one of three: w and s of the i-th W are texts 6 + 2 i and 7 + 2 i of a row
abbrev pub three_found : List Span → ℕ → ℕ → ℕ → Maybe Cell
three_found texts j i n = if (of_three i) (Some (text_found (get_or texts (j + 2 * i) no_span) n)) None

-- the cell of a medication's field
abbrev pub field_found : Row → Option CellField → Maybe Cell
field_found r none = None
field_found r (some name) = Some (text_found (get_or r.texts 0 no_span) 50)
field_found r (some form) = Some (text_found (get_or r.texts 2 no_span) 7)
field_found r (some (substance i)) = three_found r.texts 6 i 80
field_found r (some (strength i)) = three_found r.texts 7 i 15
field_found r (some morning) = Some (time_found (time_of 5) r.dose)
field_found r (some midday) = Some (time_found (time_of 6) r.dose)
field_found r (some evening) = Some (time_found (time_of 7) r.dose)
field_found r (some night) = Some (time_found (time_of 8) r.dose)
field_found r (some free_dose) = Some (free_found r.dose)

-- there is none whose value points outside a text of so many bytes
abbrev pub held : ℕ → Maybe Cell → Maybe Cell
held size None = None
held size (Some c) = if (within size (paper_span c.own)) (Some c) None

-- the row is a medication
abbrev pub is_medication : Kind → Bool
is_medication Medication = true
is_medication Heading = false
is_medication Recipe = false
is_medication Note = false
is_medication Unknown = false

-- the cell of a row
abbrev pub row_found : ℕ → Row → Option CellField → Maybe Cell
row_found size r f = if (is_medication r.kind) (held size (field_found r f)) None

-- the cell of the row of that number
unfoldable pub found : List ℕ → ℕ → ℕ → ℕ → Option CellField → Maybe Cell
found rows count size row f = if (row_there rows count row) (row_found size (row_in (record_at rows (row - 1))) f) None

-- ---- what it shows

-- a limit leaves room for "..."
abbrev pub Roomy : Cell → Type 0
Roomy c = (c.limit ≡ 0 → ⊥) → 3 ≤ c.limit

-- n bytes of a buffer from place a on, shown whole
abbrev pub whole_shown : Source → ℕ → ℕ → Bool → Shown
whole_shown s a n z = record { source = s; at = a; len = n; more = false; omitted = 0; zero = z }

-- the first place whose blank a text may be cut before, where so many bytes have room
abbrev pub first_place : ℕ → ℕ
first_place m = if (leb m 10) 1 (m - 10)

-- the first i of n bytes, and the rest left out
abbrev pub begun_shown : Source → ℕ → ℕ → ℕ → Shown
begun_shown s a n i = record { source = s; at = a; len = i; more = true; omitted = n - i; zero = false }

-- n bytes of the buffer b from place a on, up to a limit
abbrev pub cut_shown : Source → List ℕ → ℕ → ℕ → ℕ → Shown
cut_shown s b a n limit = if (leb n limit) (whole_shown s a n false) (begun_shown s a n (shown_of limit (drop a b)))

-- a dose, and a text with a limit beside a catalogue
abbrev pub dose_shown : Span → Bool → Shown
dose_shown s z = if (eqb s.len 0) (whole_shown Neither 0 0 z) (whole_shown Plan s.at s.len z)

abbrev pub text_shown : List ℕ → List ℕ → Span → ℕ → Shown
text_shown t k s limit = if (eqb s.len 0) (if (eqb (length k) 0) (whole_shown Neither 0 0 false) (cut_shown Catalogue k 0 (length k) limit)) (cut_shown Plan t s.at s.len limit)

-- a cell that is found
abbrev pub shown_found : List ℕ → List ℕ → Cell → Shown
shown_found t k c = if (eqb c.limit 0) (dose_shown c.own c.zero) (text_shown t k c.own c.limit)
