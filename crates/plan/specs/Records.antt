-- Records: a row as the code holds it, with its dose taken apart; and what the stores into a row's record leave. Serves this crate's contracts.
-- Assumes nothing.
use Rattle.std.specs.Prelude.{◌&&◌, List, [], ◌∷◌, ℕ, zero, suc, ◌+◌, ◌*◌, eqb, ltb, get_or, replicate}
use Rattle.paper.specs.Lists.{if}
use Rattle.paper.specs.Fields as Paper
use Rattle.paper.specs.Plan as P
use Rattle.paper.specs.Layout.{shown}
use Rattle.room.specs.Laid.{laid}
use Rattle.plan.specs.declared.Span.{Span}
use Rattle.plan.specs.declared.Times.{Times}
use Rattle.plan.specs.declared.Dose.{Dose}
use Rattle.plan.specs.declared.Dose.TheVariants.{Scheme, Free, Unstated}
use Rattle.plan.specs.declared.Kind.{Kind}
use Rattle.plan.specs.declared.Kind.TheVariants.{Heading, Medication, Recipe, Note, Unknown}
use Rattle.plan.specs.declared.Row.{Row}
use Rattle.plan.specs.declared.Plan.{Plan}
use Rattle.plan.specs.Numbers.{span_in, kind_shown, paper_span, code_span, stride}

-- ---- kinds and doses

-- document 01's kind for each kind of the code
abbrev pub paper_kind : Kind → Paper.Kind
paper_kind Heading = Paper.S
paper_kind Medication = Paper.M
paper_kind Recipe = Paper.R
paper_kind Note = Paper.X
paper_kind Unknown = Paper.unknown

-- the code's kind for each of document 01's; an element that is no row has none
abbrev pub code_kind : Paper.Kind → Kind
code_kind Paper.S = Heading
code_kind Paper.M = Medication
code_kind Paper.R = Recipe
code_kind Paper.X = Note
code_kind Paper.unknown = Unknown
code_kind Paper.MP = Unknown
code_kind Paper.P = Unknown
code_kind Paper.A = Unknown
code_kind Paper.O = Unknown
code_kind Paper.W = Unknown

-- document 01's dose for each dose of the code, its values shown in a text
abbrev pub paper_dose : List ℕ → Dose → P.Dose
paper_dose t (Scheme x) = P.scheme (shown t (paper_span x.morning)) (shown t (paper_span x.midday)) (shown t (paper_span x.evening)) (shown t (paper_span x.night))
paper_dose t (Free s) = P.free_text (shown t (paper_span s))
paper_dose t Unstated = P.unstated

-- ---- a row taken from its record

-- a span from its two numbers
abbrev pub span_of : ℕ → ℕ → Span
span_of at len = record { at = at; len = len }

-- an absent span
abbrev pub no_span : Span
no_span = span_of 0 0

-- span j of a record, as the code has it
abbrev pub code_span_in : List ℕ → ℕ → Span
code_span_in l j = code_span (span_in l j)

-- the times are stated where one of the four is present
abbrev pub timed : Times → Dose
timed x = if (eqb x.morning.len 0 && (eqb x.midday.len 0 && (eqb x.evening.len 0 && eqb x.night.len 0))) Unstated (Scheme x)

-- "a row's dose is either four times of day, or one free text, or not stated": the free text, where it is present, hides the times
abbrev pub dose_from : Times → Span → Dose
dose_from x t = if (eqb t.len 0) (timed x) (Free t)

-- the four times of a record: m, d, v, h are spans 3 to 6
abbrev pub times_in : List ℕ → Times
times_in l = record { morning = code_span_in l 3; midday = code_span_in l 4; evening = code_span_in l 5; night = code_span_in l 6 }

-- the dose of a record; the free text is span 7
abbrev pub dose_in : List ℕ → Dose
dose_in l = dose_from (times_in l) (code_span_in l 7)

-- text j of a row stands in this span: the dose's five, spans 3 to 7, are left out
abbrev pub text_span : ℕ → ℕ
text_span j = if (ltb j 3) j (j + 5)

-- n texts of a record, from text j on
unfoldable pub texts_in : ℕ → ℕ → List ℕ → List Span
texts_in zero j l = []
texts_in (suc n) j l = code_span_in l (text_span j) ∷ texts_in n (suc j) l

-- the row that a record holds
unfoldable pub row_in : List ℕ → Row
row_in l = record { kind = code_kind (kind_shown (get_or l 0 0)); «package» = get_or l 1 0; dose = dose_in l; texts = texts_in 14 0 l }

-- ---- stores

-- the rows with another record i
abbrev pub with_record : List ℕ → ℕ → List ℕ → List ℕ
with_record rows i l = laid rows (i * stride) l

-- the plan without rows and values
abbrev pub empty_plan : Plan
empty_plan = record { patch = 0; rows = 0; head = replicate 27 no_span }
