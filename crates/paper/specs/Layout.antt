-- Layout: document 01, "The plan, and when two are the same". The text that the reader lays out, and where each value stands in it.
-- Assumes nothing.
use Rattle.std.specs.Prelude.{List, [], ◌∷◌, ◌++◌, ℕ, suc, ◌+◌, length, take, drop}
use Rattle.paper.specs.Lists.{concat}
use Rattle.paper.specs.Plan.{Slots, Head, Row, Plan}

-- "l and every present value but MP.v, MP.p, a, z", in writing order: U, l, then P, A and O
abbrev pub head_values : Head → Slots
head_values h = h.ident ∷ h.lang ∷ (h.person ++ (h.author ++ h.measures))

-- a row's values "but … M.p", in writing order, an M's before those of its W
abbrev pub row_values : Row → Slots
row_values r = r.slots ++ concat r.ws

-- the values of the rows
abbrev pub rows_values : List Row → Slots
rows_values [] = []
rows_values (r ∷ rs) = row_values r ++ rows_values rs

-- "head then rows"; an absent value adds nothing
unfoldable pub plan_values : Plan → Slots
plan_values p = head_values p.head ++ rows_values p.rows

-- the text room's first bytes: the values "without gaps"
unfoldable pub text_of : Plan → List ℕ
text_of p = concat (plan_values p)

-- a value in a text: where it starts, and its length; "absent exactly when the length is 0"
pub record Span : Type 0 where
  pub at : ℕ
  pub len : ℕ

-- the span of a value that is laid at n; an absent one has 0 and 0
abbrev pub span_at : ℕ → List ℕ → Span
span_at n [] = record { at = 0; len = 0 }
span_at n (c ∷ v) = record { at = n; len = suc (length v) }

-- the spans of values that are laid without gaps from n on
abbrev pub spans_from : ℕ → Slots → List Span
spans_from n [] = []
spans_from n (v ∷ vs) = span_at n v ∷ spans_from (n + length v) vs

-- what a span shows in a text
abbrev pub shown : List ℕ → Span → List ℕ
shown t s = take s.len (drop s.at t)

-- what spans show
abbrev pub shown_all : List ℕ → List Span → Slots
shown_all t [] = []
shown_all t (s ∷ ss) = shown t s ∷ shown_all t ss
