-- BySize: the writer once more, with pages measured by adding up sizes instead of spelling them. `Same` proves it equal to `fresh`; the
-- theorems on cuts are proved of this form.
-- Assumes nothing.
use mathlib.Core.Option.{Option, none, some}
use mathlib.Core.List.{List, [], ◌∷◌}
use Prim.Native.Nat.{ℕ, suc, ◌+◌}
use lib.Dec.{leb}
use lib.ListN.{length}
use Rattle.paper.specs.Lists.{if}
use Rattle.paper.specs.Fields.{S}
use Rattle.paper.specs.Plan.{Head, Row, Plan}
use Rattle.paper.specs.Writing.{Written, bad_call, unsound, too_long, written, sound, opening, body_text, row_slots, heading, page, pages, place13}
use Rattle.paper.proofs.AnyCut as C

-- what a row adds to a page; a heading with the end of its S
unfoldable pub row_size : Row → ℕ
row_size r = if (heading r) (length (opening S r.slots []) + 4) (length (body_text r.ws r.kind (row_slots r) []))

-- a page without rows
abbrev pub base : Head → ℕ
base h = length (page h [] 1 1)

-- the rows on as few pages as can be; none if some row fits on no page
abbrev pub greedy : Plan → Option (List (List Row))
greedy p = C.greedy row_size heading (base p.head) 1400 p.rows

-- behind the last row that nine pages take
abbrev pub none_cut : Plan → Written
none_cut p = too_long (suc (C.place row_size heading (base p.head) 1400 9 1401 p.rows))

abbrev pub lay_sized : Plan → Option (List (List Row)) → Written
lay_sized p none = none_cut p
lay_sized p (some []) = written (pages p.head 1 1 ([] ∷ []))
lay_sized p (some (q ∷ qs)) = if (leb (length (q ∷ qs)) 9) (written (pages p.head (length (q ∷ qs)) 1 (q ∷ qs))) (none_cut p)

unfoldable pub sized : Plan → Written
sized p = if (leb (length p.rows) 256)
    (if (sound p) (if (leb (base p.head) 1400) (lay_sized p (greedy p)) (too_long 0)) (unsound (place13 p)))
    bad_call
