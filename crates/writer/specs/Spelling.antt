-- Spelling: the pieces of a fresh page, cut where the code lays them one behind the other. Paper's `page` is these pieces.
-- Assumes nothing.
use Rattle.std.specs.Prelude.{List, [], ℕ, ◌*◌, ◌-◌, drop}
use Rattle.paper.specs.Lists.{if}
use Rattle.paper.specs.Fields.{MP, P, A, S}
use Rattle.paper.specs.Plan.{Head, Row}
use Rattle.paper.specs.Writing.{mp_slots, row_slots, bare, opening, measures_text, body_text, heading}
use Rattle.plan.specs.Numbers.{show_rows, stride}

-- a row's own bytes: a heading's start tag, or a row that is no heading, whole
unfoldable pub row_text : Row → List ℕ
row_text r = if (heading r) (opening S r.slots []) (body_text r.ws r.kind (row_slots r) [])

-- P, A and O, the same on all pages
abbrev pub people_text : Head → List ℕ
people_text h = bare P h.person (bare A h.author (measures_text h.measures []))

-- page a of z before its rows: the start tag of MP, and P, A, O
unfoldable pub head_text : Head → ℕ → ℕ → List ℕ
head_text h a z = opening MP (mp_slots h a z) (people_text h)

-- the rows that the records from one on up to another show, counted from 0
abbrev pub rows_between : List ℕ → List ℕ → ℕ → ℕ → List Row
rows_between t rows from to = show_rows t (to - from) (drop (from * stride) rows)
