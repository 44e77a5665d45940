-- Numbered: spans that stand among numbers, two numbers to a span.
-- Assumes nothing.
use Rattle.std.specs.Prelude.{List, [], ◌∷◌, ℕ, zero, suc, get_or}
use Rattle.paper.specs.Layout.{Span}

-- the span whose two numbers stand at places k and k + 1
abbrev pub span_at : List ℕ → ℕ → Span
span_at l k = record { at = get_or l k 0; len = get_or l (suc k) 0 }

-- n spans, the first at place k
unfoldable pub spans_at : ℕ → ℕ → List ℕ → List Span
spans_at zero k l = []
spans_at (suc n) k l = span_at l k ∷ spans_at n (suc (suc k)) l
