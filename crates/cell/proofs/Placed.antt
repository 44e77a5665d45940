-- Placed: the buffer and the place where the code finds a cell's text are document 01's.
-- Assumes nothing.
use Rattle.std.specs.Prelude.{Some, None, Option as Maybe, IfSome}
use mathlib.Core.Path.{◌≡◌, refl}
use mathlib.Core.Bool.{Bool, true, false, not, ◌&&◌, ◌||◌}
use mathlib.Core.List.{List}
use mathlib.Core.Option.{Option, none, some}
use Prim.Native.Nat.{ℕ, ◌+◌, ◌-◌, ◌*◌, ◌≤◌}
use lib.Dec.{eqb, leb}
use lib.ListN.{get_or}
use borrow.Author.Tests.{leb-true}
use Rattle.paper.specs.Lists.{if, is_empty}
use Rattle.paper.specs.Layout.{Span}
use Rattle.paper.specs.Cells.{CellField, name, form, morning, midday, evening, night, free_dose, substance, strength, of_three}
use Rattle.paper.proofs.Small.{no, both}
use Rattle.plan.specs.Numbers.{record_at, span_in, absent, within, code_span, paper_span}
use Rattle.plan.specs.Records.{no_span, code_span_in, times_in, row_in}
use Rattle.plan.specs.declared.Span as Code
use Rattle.plan.specs.declared.Times.{Times}
use Rattle.plan.specs.declared.Dose.{Dose}
use Rattle.plan.specs.declared.Dose.TheVariants.{Scheme, Free, Unstated}
use Rattle.cell.specs.declared.Cell as Found
use Rattle.cell.specs.declared.answer.Source.{Source}
use Rattle.cell.specs.declared.answer.Source.TheVariants.{Plan, Catalogue, Neither}
use Rattle.cell.specs.Numbered.{row_there, no_value}
use Rattle.cell.specs.Answers.{place_for}
use Rattle.cell.specs.Found.{text_found, time_of, time_found, free_found, three_found, field_found, held, is_medication, row_found, found}
use Rattle.cell.proofs.Told.{texts_are, dose_is, three_are, none_present}

-- where the text begins of a cell that is found
abbrev pub place_found : List ℕ → Found.Cell → Source × ℕ
place_found k c = if (eqb c.own.len 0) (if (eqb c.limit 0 || is_empty k) (Neither, 0) (Catalogue, 0)) (Plan, c.own.at)

-- ---- a medication's field

-- a cell is found there, or none is
abbrev FoundThere : List ℕ → List ℕ → Option CellField → Maybe Found.Cell → Type 0
FoundThere k l o c = IfSome c (λ c. place_for l o k ≡ place_found k c)

-- one of three, whose span is span j of the record
three_there : (k l : List ℕ) (texts : List Code.Span) (f : CellField) (j i n : ℕ) (s : Span) → eqb n 0 ≡ false
    → place_for l (some f) k ≡ if (absent s) (if (is_empty k) (Neither, 0) (Catalogue, 0)) (Plan, s.at)
    → (1 ≤ i → i ≤ 3 → get_or texts (j + 2 * i) no_span ≡ code_span s) → FoundThere k l (some f) (three_found texts j i n)
three_there k l texts f j i n s e p g = at (of_three i) refl
  where
    at : (b : Bool) → of_three i ≡ b → FoundThere k l (some f) (if b (Some (text_found (get_or texts (j + 2 * i) no_span) n)) None)
    at false q = tt
    at true q =
        let (a, b) = both (leb 1 i) (leb i 3) q in
        rw (p, g (leb-true 1 i a) (leb-true i 3 b), e)

module _ (k l : List ℕ) where
  -- no time of day is present
  abbrev untimed : Bool
  untimed = absent (span_in l 3) && (absent (span_in l 4) && (absent (span_in l 5) && absent (span_in l 6)))

  none_there : untimed ≡ true → (absent (span_in l 3) ≡ true) × (absent (span_in l 4) ≡ true) × (absent (span_in l 5) ≡ true) × (absent (span_in l 6) ≡ true)
  none_there = none_present (absent (span_in l 3)) (absent (span_in l 4)) (absent (span_in l 5)) (absent (span_in l 6))

  -- the dose of the record, by its tests
  abbrev dose_by : Bool → Bool → Dose
  dose_by a b = if a (if b Unstated (Scheme (times_in l))) (Free (code_span_in l 7))

  -- a time of day, whose span is s
  time_there : (w : Times → Code.Span) (s : Span) → w (times_in l) ≡ code_span s → (untimed ≡ true → absent s ≡ true)
      → let o = if (not (absent (span_in l 7))) no_value s in if (absent o) (Neither, 0) (Plan, o.at) ≡ place_found k (time_found w (row_in l).dose)
  time_there w s e g = rw (dose_is l) (at (absent (span_in l 7)) untimed refl)
    where
      at : (a b : Bool) → untimed ≡ b → let o = if (not a) no_value s in if (absent o) (Neither, 0) (Plan, o.at) ≡ place_found k (time_found w (dose_by a b))
      at false b q = refl
      at true true q = rw (g q)
      at true false q = rw e

  -- the free text
  free_there : if (absent (span_in l 7)) (Neither, 0) (Plan, (span_in l 7).at) ≡ place_found k (free_found (row_in l).dose)
  free_there = rw (dose_is l) (at (absent (span_in l 7)) untimed refl)
    where
      at : (a b : Bool) → absent (span_in l 7) ≡ a → if a (Neither, 0) (Plan, (span_in l 7).at) ≡ place_found k (free_found (dose_by a b))
      at false b q = rw q
      at true true q = refl
      at true false q = refl

  field_there : (o : Option CellField) → FoundThere k l o (field_found (row_in l) o)
  field_there none = tt
  field_there (some name) = rw (texts_are l).0
  field_there (some form) = rw (texts_are l).1
  field_there (some (substance i)) = three_there k l (row_in l).texts (substance i) 6 i 80 (span_in l (11 + 2 * i)) refl refl (λ h g. (three_are l i h g).0)
  field_there (some (strength i)) = three_there k l (row_in l).texts (strength i) 7 i 15 (span_in l (12 + 2 * i)) refl refl (λ h g. (three_are l i h g).1)
  field_there (some morning) = time_there (time_of 5) (span_in l 3) refl (λ e. (none_there e).0)
  field_there (some midday) = time_there (time_of 6) (span_in l 4) refl (λ e. (none_there e).1)
  field_there (some evening) = time_there (time_of 7) (span_in l 5) refl (λ e. (none_there e).2)
  field_there (some night) = time_there (time_of 8) (span_in l 6) refl (λ e. (none_there e).3)
  field_there (some free_dose) = free_there

-- ---- a cell

-- a test that leads to a refusal, or to the cell
tested : (k l : List ℕ) (o : Option CellField) (b : Bool) (c : Maybe Found.Cell) → FoundThere k l o c → FoundThere k l o (if b c None)
tested k l o true c g = g
tested k l o false c g = tt

-- the cell that a call asks for
pub there_found : (k rows : List ℕ) (count size row : ℕ) (o : Option CellField) → FoundThere k (record_at rows (row - 1)) o (found rows count size row o)
unfolding found
there_found k rows count size row o =
    let l = record_at rows (row - 1) in
    let c = field_found (row_in l) o in
    tested k l o (row_there rows count row) (row_found size (row_in l) o)
    (tested k l o (is_medication (row_in l).kind) (held size c) (held_there c (field_there k l o)))
  where
    held_there : (c : Maybe Found.Cell) → FoundThere k (record_at rows (row - 1)) o c → FoundThere k (record_at rows (row - 1)) o (held size c)
    held_there None g = tt
    held_there (Some c) g = tested k (record_at rows (row - 1)) o (within size (paper_span c.own)) (Some c) g
