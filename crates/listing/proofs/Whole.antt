-- Whole: the listing of the plan that numbers show is the head's lines, the rows' and the row count's.
-- Assumes nothing.
use mathlib.Core.Path.{◌≡◌, sym, ap, subst}
use mathlib.Core.Bool.{true}
use mathlib.Core.List.{List, [], ◌∷◌, ◌++◌, map}
use Prim.Native.Nat.{ℕ, ◌*◌, ◌≤◌}
use native.Mathlib.Omega.{arith}
use lib.ListN.{length, length-append}
use Rattle.paper.specs.Lists.{bytes, concat}
use Rattle.paper.specs.Plan as Paper
use Rattle.paper.specs.Writing.{sound}
use Rattle.paper.specs.Layout.{head_values, text_of, shown_all}
use Rattle.paper.specs.Listing.{Line, line, numeral, head_lines, rows_lines, plan_lines, print, listing}
use Rattle.plan.specs.Numbers.{paper_span, head_with, show_head, show_rows, show_plan, head_in_text, fit_rows, plan_numbers, plan_rows}
use Rattle.plan.specs.declared.Plan.{Plan}
use Rattle.plan.proofs.Shown.{rows_shown, rows_size, plan_fit, sound_back}

-- the lines of the head that a plan's spans show
abbrev pub head_part : List ℕ → Plan → List Line
head_part t p = head_lines (head_with p.patch (shown_all t (map paper_span p.head)))

-- the lines of the rows that the records show
abbrev pub rows_part : List ℕ → Plan → List ℕ → List Line
rows_part t p rows = rows_lines (show_rows t p.rows rows)

-- the line of the row count
abbrev pub count_part : Plan → List Line
count_part p = line (bytes "rows") (numeral p.rows) ∷ []

-- the listing
pub listing_is : (t : List ℕ) (p : Plan) (rows : List ℕ) → listing (show_plan t p rows) ≡ print (head_part t p ++ (rows_part t p rows ++ count_part p))
unfolding listing plan_lines show_head
listing_is t p rows = ap (λ (n : ℕ). print (head_part t p ++ (rows_part t p rows ++ (line (bytes "rows") (numeral n) ∷ [])))) (rows_shown t p.rows rows)

-- What the listing's function asks for holds of the numbers that the reader lays out for a sound plan, whatever lies behind them, in a room that holds the plan's
-- listing; and those numbers show that plan.
pub read_asked : (p : Paper.Plan) (rest more out : List ℕ) → sound p ≡ true → length (listing p) ≤ length out
    → ((plan_numbers p).rows * 48 ≤ length (plan_rows p ++ more))
    × (head_in_text (text_of p ++ rest) (plan_numbers p) ≡ true)
    × (fit_rows (text_of p ++ rest) (plan_numbers p).rows (plan_rows p ++ more) ≡ true)
    × (length (listing (show_plan (text_of p ++ rest) (plan_numbers p) (plan_rows p ++ more))) ≤ length out)
read_asked p rest more out e h =
    let n : ℕ = length (concat (head_values p.head)) in (
      omega (arith, length-append (plan_rows p) more, rows_size n p.rows),
      (plan_fit p rest more e).0,
      (plan_fit p rest more e).1,
      subst (λ (q : Paper.Plan). length (listing q) ≤ length out) (sym (sound_back p rest more e)) h,
    )
