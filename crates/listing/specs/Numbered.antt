-- Numbered: the line of a value that may be absent, and the lines of fields whose values are shown by spans among numbers.
-- Assumes nothing.
use Rattle.std.specs.Prelude.{List, [], ◌∷◌, ◌++◌, ℕ, get_or}
use Rattle.paper.specs.Lists.{bytes}
use Rattle.paper.specs.Fields.{edition, M, W}
use Rattle.paper.specs.Layout.{shown_all}
use Rattle.paper.specs.Listing.{Line, line, path, field_lines}
use Rattle.paper.specs.Writing.{decimal}
use Rattle.plan.specs.Numbers.{record_at, span_place}
use Rattle.room.specs.Numbered.{spans_at}
use Rattle.fields.specs.Places.{fields_from}

-- the line of a value, none if the value is absent
abbrev pub given : List ℕ → List ℕ → List Line
given k [] = []
given k (c ∷ v) = line k (c ∷ v) ∷ []

-- the lines of n fields from a place of the table on, under a path, with the values that n spans show
abbrev pub lines_of : List ℕ → ℕ → ℕ → List ℕ → ℕ → List ℕ → List Line
lines_of path first n t k l = field_lines path (fields_from first n) (shown_all t (spans_at n k l))

-- ---- the lines of a head and of rows, from their numbers

-- the lines of MP: v, p unless it is 0, U and l, the spans of these two from place 2 of the numbers on
abbrev pub mp_lines : ℕ → List ℕ → List ℕ → List Line
mp_lines patch t l = line (bytes "MP.v") edition ∷ (given (bytes "MP.p") (decimal patch) ++ lines_of (bytes "MP.") 2 2 t 2 l)

-- a row's mark, and its first n values under a path
abbrev pub plain_row : List ℕ → List ℕ → ℕ → ℕ → List ℕ → List ℕ → ℕ → List Line
plain_row mark path first n t rows i = line (bytes "row") mark ∷ lines_of path first n t (span_place i 0) rows

-- w and s of each W of a medication
abbrev pub substance_lines : List ℕ → List ℕ → ℕ → List Line
substance_lines t rows i =
    lines_of (path W) 47 2 t (span_place i 13) rows ++ (lines_of (path W) 47 2 t (span_place i 15) rows ++ lines_of (path W) 47 2 t (span_place i 17) rows)

-- a medication's mark, its package number unless it has none, its other fields, and its substances
abbrev pub medication_row : List ℕ → List ℕ → ℕ → List Line
medication_row t rows i =
    line (bytes "row") (bytes "M") ∷ (given (bytes "MP.S.M.p") (decimal (get_or (record_at rows i) 1 0)) ++ (lines_of (path M) 34 13 t (span_place i 0) rows ++ substance_lines t rows i))
