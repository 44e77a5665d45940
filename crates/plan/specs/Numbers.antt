-- Numbers: a plan as numbers, the picture that the code works with. Which plan of document 01 they show, and which numbers the reader lays out for a plan.
--
-- A plan is a `Plan` by value, with rows and a text that the caller lends.
--   Plan     the patch, the number of rows, and the 27 spans of the head: U, l, then the fields of P (8), A (10) and O (7), in writing order.
--   a span   a start and a length in the text; the value is absent exactly when the length is 0, and the start is then of no meaning.
--   the rows numbers, 48 to a row. These 48 are the row's record:
--     0        the kind: 1 heading, 2 medication, 3 recipe, 4 note; any other number is no kind
--     1        the package number; 0 is none
--     2 to 39  19 spans of two numbers each, span j at number 2 + 2 * j
--     40, 41   kept for the row's origin
--     42 to 47 kept at 0
-- A row's spans are its element's fields in writing order, M.p left out: of a heading c t; of a medication a f fd m d v h t du dud i r x (spans 0 to 12),
-- then w and s of its first, second and third W (spans 13 to 18); of a recipe t x; of a note t. Spans that the kind does not have are 0.
-- Assumes nothing.
use Rattle.std.specs.Prelude.{◌≡◌, Bool, true, ◌&&◌, ◌||◌, List, [], ◌∷◌, ◌++◌, map, ℕ, zero, suc, ◌+◌, ◌*◌, ◌/◌, eqb, leb, length, take, drop, get_or}
use Rattle.paper.specs.Lists.{if, every, concat}
use Rattle.paper.specs.Fields.{Kind, unknown, MP, P, A, O, S, M, W, R, X, is}
use Rattle.paper.specs.Plan.{Slots, Head, Row}
use Rattle.paper.specs.Plan as Paper
use Rattle.paper.specs.Judging.{all_empty}
use Rattle.paper.specs.Layout.{Span, head_values, row_values, spans_from, shown_all}
use Rattle.plan.specs.declared.Span as Code
use Rattle.plan.specs.declared.Plan.{Plan}

-- ---- records

-- how many numbers a row's record has
abbrev pub stride : ℕ
stride = 48

-- how many rows so many numbers are
abbrev pub rows_lent : ℕ → ℕ
rows_lent numbers = numbers / stride

-- record i of the rows, counted from 0
abbrev pub record_at : List ℕ → ℕ → List ℕ
record_at rows i = take stride (drop (i * stride) rows)

-- span j of a record
abbrev pub span_in : List ℕ → ℕ → Span
span_in l j = record { at = get_or l (2 + 2 * j) 0; len = get_or l (3 + 2 * j) 0 }

-- the place of span j of row i among the numbers of the rows
abbrev pub span_place : ℕ → ℕ → ℕ
span_place i j = i * stride + (2 + 2 * j)

-- n spans of a record, from span j on
unfoldable pub spans_in : ℕ → ℕ → List ℕ → List Span
spans_in zero j l = []
spans_in (suc n) j l = span_in l j ∷ spans_in n (suc j) l

-- all spans of a record
abbrev pub spans_of : List ℕ → List Span
spans_of l = spans_in 19 0 l

-- ---- what numbers show

-- the kind that a number stands for
abbrev pub kind_shown : ℕ → Kind
kind_shown n = if (eqb n 1) S (if (eqb n 2) M (if (eqb n 3) R (if (eqb n 4) X unknown)))

-- how many spans a kind's own fields have; those of a medication's W come behind them
abbrev pub own_spans : Kind → ℕ
own_spans S = 2
own_spans M = 13
own_spans R = 2
own_spans X = 1
own_spans unknown = 0
own_spans MP = 0
own_spans P = 0
own_spans A = 0
own_spans O = 0
own_spans W = 0

-- values two by two, k times: w and s of each W
abbrev pub twos : ℕ → Slots → List Slots
twos zero vs = []
twos (suc k) vs = take 2 vs ∷ twos k (drop 2 vs)

-- a W in front of those that follow it; without one it must itself be there
abbrev pub before : Slots → List Slots → List Slots
before w [] = if (all_empty w) [] (w ∷ [])
before w (v ∷ ws) = w ∷ v ∷ ws

-- the W without the absent ones behind the last present one; an absent one before it stays, without its w
abbrev pub to_last : List Slots → List Slots
to_last [] = []
to_last (w ∷ ws) = before w (to_last ws)

-- the row with that kind, that package number, and these 19 values
abbrev pub row_with : Kind → ℕ → Slots → Row
row_with k n vs = record { kind = k; pzn = n; slots = take (own_spans k) vs; ws = if (is k M) (to_last (twos 3 (drop 13 vs))) [] }

-- the row that a record shows in a text; numbers 40 to 47 have no say in it
unfoldable pub show_row : List ℕ → List ℕ → Row
show_row t l = row_with (kind_shown (get_or l 0 0)) (get_or l 1 0) (shown_all t (spans_of l))

-- the rows that the first n records show
abbrev pub show_rows : List ℕ → ℕ → List ℕ → List Row
show_rows t zero rows = []
show_rows t (suc n) rows = show_row t (take stride rows) ∷ show_rows t n (drop stride rows)

-- a span of the code as document 01's span
abbrev pub paper_span : Code.Span → Span
paper_span s = record { at = s.at; len = s.len }

-- the head with that patch and these 27 values
abbrev pub head_with : ℕ → Slots → Head
head_with n vs = record { patch = n; ident = get_or vs 0 []; lang = get_or vs 1 []; person = take 8 (drop 2 vs); author = take 10 (drop 10 vs); measures = take 7 (drop 20 vs) }

-- the head that a plan's spans show in a text
unfoldable pub show_head : List ℕ → Plan → Head
show_head t p = head_with p.patch (shown_all t (map paper_span p.head))

-- the plan that numbers show: the text, the head's spans, and the rows
abbrev pub show_plan : List ℕ → Plan → List ℕ → Paper.Plan
show_plan t p rows = record { head = show_head t p; rows = show_rows t p.rows rows }

-- ---- when rows are the same

-- how many numbers of a record have a say: its kind, its package number and its spans. The others are kept for the row's origin, or at 0.
abbrev pub saying : ℕ
saying = 40

-- n rows are the same: of each record the numbers that have a say are equal
abbrev pub SameRows : ℕ → List ℕ → List ℕ → Type 0
SameRows zero rows rows' = Unit {0}
SameRows (suc n) rows rows' = (take saying rows ≡ take saying rows') × SameRows n (drop stride rows) (drop stride rows')

-- ---- what must hold of numbers beside the rules for the plan that they show

-- the span is absent
abbrev pub absent : Span → Bool
absent s = eqb s.len 0

-- the span is absent, or lies within a text of n bytes
abbrev pub within : ℕ → Span → Bool
within n s = absent s || leb (s.at + s.len) n

-- no span of the record points outside the text
unfoldable pub in_text : List ℕ → List ℕ → Bool
in_text t l = every (within (length t)) (spans_of l)

-- no span of the head points outside the text
unfoldable pub head_in_text : List ℕ → Plan → Bool
head_in_text t p = every (within (length t)) (map paper_span p.head)

-- the number stands for a kind
abbrev pub known_kind : ℕ → Bool
known_kind n = leb 1 n && leb n 4

-- how many spans a kind has, a medication's W among them
abbrev pub has_spans : Kind → ℕ
has_spans k = if (is k M) 19 (own_spans k)

-- spans that the kind does not have are absent, and only a medication has a package number
unfoldable pub spare_absent : List ℕ → Bool
spare_absent l = every absent (drop (has_spans (kind_shown (get_or l 0 0))) (spans_of l)) && (is (kind_shown (get_or l 0 0)) M || eqb (get_or l 1 0) 0)

-- a record that the rules for the row it shows can be asked of
abbrev pub fit_record : List ℕ → List ℕ → Bool
fit_record t l = known_kind (get_or l 0 0) && (in_text t l && spare_absent l)

-- the first n records are fit
abbrev pub fit_rows : List ℕ → ℕ → List ℕ → Bool
fit_rows t zero rows = true
fit_rows t (suc n) rows = fit_record t (take stride rows) && fit_rows t n (drop stride rows)

-- ---- what the reader lays out

-- the number of a kind
abbrev pub kind_number : Kind → ℕ
kind_number S = 1
kind_number M = 2
kind_number R = 3
kind_number X = 4
kind_number unknown = 0
kind_number MP = 0
kind_number P = 0
kind_number A = 0
kind_number O = 0
kind_number W = 0

-- spans as numbers, two to a span
abbrev pub flat : List Span → List ℕ
flat [] = []
flat (s ∷ ss) = s.at ∷ s.len ∷ flat ss

-- the spans of a head as numbers: span j at number 2 + 2 * j, as in a record, behind two that are 0
abbrev pub head_numbers : List Span → List ℕ
head_numbers ss = 0 ∷ 0 ∷ flat ss

module _ {A : Type 0} where
  -- the first k of a list, with d in the place of those that it lacks
  abbrev pub padded : ℕ → A → List A → List A
  padded zero d l = []
  padded (suc k) d [] = d ∷ padded k d []
  padded (suc k) d (x ∷ l) = x ∷ padded k d l

-- the record with that kind's number, that package number and these spans, and 0 in all other places
unfoldable pub record_with : ℕ → ℕ → List Span → List ℕ
record_with k n ss = k ∷ n ∷ padded 46 0 (flat ss)

-- the record of a row whose values lie without gaps from place n of the text on
abbrev pub row_numbers : ℕ → Row → List ℕ
row_numbers n r = record_with (kind_number r.kind) r.pzn (spans_from n (row_values r))

-- the records of rows whose values lie without gaps from place n on
abbrev pub rows_numbers : ℕ → List Row → List ℕ
rows_numbers n [] = []
rows_numbers n (r ∷ rs) = row_numbers n r ++ rows_numbers (n + length (concat (row_values r))) rs

-- document 01's span as a span of the code
abbrev pub code_span : Span → Code.Span
code_span s = record { at = s.at; len = s.len }

-- the spans of a head whose values lie without gaps from place n on
abbrev pub head_spans : ℕ → Head → List Code.Span
head_spans n h = map code_span (spans_from n (head_values h))

-- the plan by value that is laid out: "head then rows", from the text's beginning on
abbrev pub plan_numbers : Paper.Plan → Plan
plan_numbers p = record { patch = p.head.patch; rows = length p.rows; head = head_spans 0 p.head }

-- the records that are laid out, behind the head's values
abbrev pub plan_rows : Paper.Plan → List ℕ
plan_rows p = rows_numbers (length (concat (head_values p.head))) p.rows
