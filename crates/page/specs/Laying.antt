-- Laying: how what a page says is laid into lent text and numbers. `Lays` and `Fills` are the interface: what then stands in the text and in the numbers.
-- Assumes nothing.
use Rattle.std.specs.Prelude.{Bool, not, ◌&&◌, ◌||◌, ◌≡◌, List, [], ◌∷◌, ℕ, zero, suc, ◌+◌, ◌*◌, ◌≤◌, eqb, length, drop, get_or}
use Rattle.paper.specs.Lists.{bytes, if, concat, number}
use Rattle.paper.specs.Fields.{Kind, M, R, S, X, is, fields_of}
use Rattle.paper.specs.Plan.{Slots, Head, Row, slot}
use Rattle.paper.specs.Judging.{all_empty, tail}
use Rattle.paper.specs.Layout.{spans_from, head_values, row_values, rows_values}
use Rattle.paper.specs.Calls.{text_room}
use Rattle.room.specs.Laid.{laid}
use Rattle.plan.specs.Numbers.{flat, row_numbers, rows_numbers, head_spans, stride}
use Rattle.plan.specs.declared.Span as Code

-- ---- values laid

-- there is room for the values from place n of the text on; no text that is laid out is longer than 12,600 bytes
pub record Room (vs : Slots) (text : List ℕ) (n : ℕ) : Type 0 where
  pub fits : n + length (concat vs) ≤ length text
  pub short : n + length (concat vs) ≤ text_room

-- the start of the span of a value of that length that is laid at n
abbrev pub start_of : ℕ → ℕ → ℕ
start_of n len = if (eqb len 0) 0 n

-- values laid without gaps: their bytes into the text from n on up to e, and their spans into the numbers from `at` on
pub record Lays (vs : Slots) (text text' : List ℕ) (n e : ℕ) (numbers numbers' : List ℕ) (at : ℕ) : Type 0 where
  pub end_is : e ≡ n + length (concat vs)
  pub text_is : text' ≡ laid text n (concat vs)
  pub numbers_are : numbers' ≡ laid numbers at (flat (spans_from n vs))

-- n spans from their numbers, two to a span
abbrev pub pairs : ℕ → List ℕ → List Code.Span
pairs zero l = []
pairs (suc n) l = record { at = get_or l 0 0; len = get_or l 1 0 } ∷ pairs n (drop 2 l)

-- a head laid: its values into the text from n on up to e, its patch, and its spans
pub record LaysHead (h : Head) (text text' : List ℕ) (n e : ℕ) (patch : ℕ) (spans : List Code.Span) : Type 0 where
  pub end_is : e ≡ n + length (concat (head_values h))
  pub text_is : text' ≡ laid text n (concat (head_values h))
  pub patch_is : patch ≡ h.patch
  pub spans_are : spans ≡ head_spans n h

-- ---- rows laid

-- whether a start tag with those values gives a row
unfoldable pub gives_row : Kind → Slots → Bool
gives_row k vs = is k M || (is k R || is k X || (is k S && not (all_empty vs)))

-- the row that it gives, with the W that follow it
unfoldable pub row_from : Kind → Slots → List Slots → Row
row_from k vs ws = if (is k M) (record { kind = M; pzn = number 0 (slot (bytes "p") (fields_of M) vs); slots = tail vs; ws = ws })
    (record { kind = k; pzn = 0; slots = vs; ws = [] })

-- a row laid: its values into the text from n on up to e, and its record into the rows as row i
pub record LaysRow (r : Row) (text text' : List ℕ) (n e : ℕ) (rows rows' : List ℕ) (i : ℕ) : Type 0 where
  pub end_is : e ≡ n + length (concat (row_values r))
  pub text_is : text' ≡ laid text n (concat (row_values r))
  pub rows_are : rows' ≡ laid rows (i * stride) (row_numbers n r)

-- rows laid: their values into the text from n on up to e, and their records into the rows from row i on up to row j
pub record Fills (rs : List Row) (text text' : List ℕ) (n e : ℕ) (rows rows' : List ℕ) (i j : ℕ) : Type 0 where
  pub end_is : e ≡ n + length (concat (rows_values rs))
  pub next_is : j ≡ i + length rs
  pub text_is : text' ≡ laid text n (concat (rows_values rs))
  pub rows_are : rows' ≡ laid rows (i * stride) (rows_numbers n rs)
