-- `listing::elements::head_lines` meets its contract: the lines of MP, P, A and O stand one behind the other.
-- Assumes nothing.
use mathlib.Core.Path.{◌≡◌, ap, ◌∙◌}
use mathlib.Core.List.{◌++◌, map}
use Prim.Native.Nat.{ℕ, ◌+◌, ◌*◌, ◌≤◌}
use native.Mathlib.Omega.{arith}
use lib.ListN.{length}
use Rattle.paper.specs.Lists.{bytes, every}
use mathlib.Core.Bool.{true}
use Rattle.paper.specs.Layout.{shown_all}
use Rattle.paper.specs.Listing.{print, head_lines}
use Rattle.plan.specs.Numbers.{within, paper_span, head_with}
use Rattle.room.specs.Numbered.{spans_at}
use Rattle.listing.specs.Numbered.{lines_of, mp_lines}
use Rattle.room.proofs.Pieces.{Fits, fits_as, wrote_as}
use Rattle.listing.proofs.Fielded.{first_lines, other_lines, lines_written}
use Rattle.listing.proofs.Flat.{head_by_lem, spans_long}
use Rattle.plan.proofs.Numbered.{part_every}
use borrow.Author.Rules.{rules}
use Rattle.listing.proofs.elements.head_lines.Statement.{statement}
use Rattle.listing.proofs.elements.head_lines.Tie as tie

-- there are 27 spans
long : (S : tie.Start) → length (map paper_span S.args.head) ≡ 27
long S = let h : length S.args.head ≡ 27 = search rules in spans_long S.args.head ∙ h

-- the head's lines are those of its elements
head-is : (H : tie.After-head_numbers-numbers) → let S = H.before.before.before in head_lines (head_with S.args.patch (shown_all S.args.text.now (map paper_span S.args.head))) ≡ (mp_lines S.args.patch S.args.text.now H.head_numbers-numbers.result) ++ ((lines_of (bytes "MP.P.") 6 8 S.args.text.now 6 H.head_numbers-numbers.result) ++ ((lines_of (bytes "MP.A.") 14 10 S.args.text.now 22 H.head_numbers-numbers.result) ++ (lines_of (bytes "MP.O.") 24 7 S.args.text.now 42 H.head_numbers-numbers.result)))
head-is H = let S = H.before.before.before in head_by_lem S.args.patch S.args.text.now (map paper_span S.args.head) H.head_numbers-numbers.result (long S) H.head_numbers-numbers.ensures

-- the spans of an element lie within the text
inside-at : (H : tie.After-head_numbers-numbers) (j n : ℕ) → j + n ≤ 27 → let S = H.before.before.before in every (within (length S.args.text.now)) (spans_at n (2 + 2 * j) H.head_numbers-numbers.result) ≡ true
inside-at H j n h =
    let S = H.before.before.before in
    rw H.head_numbers-numbers.ensures (part_every (within (length S.args.text.now)) (map paper_span S.args.head) j n (omega (arith, long S)) S.requires.0)

-- all lines fit
fit : (H : tie.After-head_numbers-numbers) → let S = H.before.before.before in Fits S.args.out.now S.args.at (print ((mp_lines S.args.patch S.args.text.now H.head_numbers-numbers.result) ++ ((lines_of (bytes "MP.P.") 6 8 S.args.text.now 6 H.head_numbers-numbers.result) ++ ((lines_of (bytes "MP.A.") 14 10 S.args.text.now 22 H.head_numbers-numbers.result) ++ (lines_of (bytes "MP.O.") 24 7 S.args.text.now 42 H.head_numbers-numbers.result)))))
fit H = fits_as (ap print (head-is H)) (record { inside = H.before.before.before.requires.1 })

-- those of P, A and O fit behind those of MP
person-fits : (c : tie.After-mp_lines-a) → let H = c.before.before.before in let S = H.before.before.before in Fits c.mp_lines-a.new.out c.mp_lines-a.result (print ((lines_of (bytes "MP.P.") 6 8 S.args.text.now 6 H.head_numbers-numbers.result) ++ ((lines_of (bytes "MP.A.") 14 10 S.args.text.now 22 H.head_numbers-numbers.result) ++ (lines_of (bytes "MP.O.") 24 7 S.args.text.now 42 H.head_numbers-numbers.result))))
person-fits c = let H = c.before.before.before in let S = H.before.before.before in other_lines (mp_lines S.args.patch S.args.text.now H.head_numbers-numbers.result) ((lines_of (bytes "MP.P.") 6 8 S.args.text.now 6 H.head_numbers-numbers.result) ++ ((lines_of (bytes "MP.A.") 14 10 S.args.text.now 22 H.head_numbers-numbers.result) ++ (lines_of (bytes "MP.O.") 24 7 S.args.text.now 42 H.head_numbers-numbers.result))) (fit H) c.mp_lines-a.ensures

-- those of A and O behind those of P
author-fits : (c : tie.After-fields-b) → let H = c.before.before.before.before.before.before.before.before.before.before in let S = H.before.before.before in Fits c.fields-b.new.out c.fields-b.result (print ((lines_of (bytes "MP.A.") 14 10 S.args.text.now 22 H.head_numbers-numbers.result) ++ (lines_of (bytes "MP.O.") 24 7 S.args.text.now 42 H.head_numbers-numbers.result)))
author-fits c = let H = c.before.before.before.before.before.before.before.before.before.before in let S = H.before.before.before in other_lines (lines_of (bytes "MP.P.") 6 8 S.args.text.now 6 H.head_numbers-numbers.result) ((lines_of (bytes "MP.A.") 14 10 S.args.text.now 22 H.head_numbers-numbers.result) ++ (lines_of (bytes "MP.O.") 24 7 S.args.text.now 42 H.head_numbers-numbers.result)) (person-fits c.before.before.before.before.before.before.before) c.fields-b.ensures

-- those of O behind those of A
measures-fit : (c : tie.After-fields-c) → let H = c.before.before.before.before.before.before.before.before.before.before.before.before.before.before.before.before.before in let S = H.before.before.before in Fits c.fields-c.new.out c.fields-c.result (print (lines_of (bytes "MP.O.") 24 7 S.args.text.now 42 H.head_numbers-numbers.result))
measures-fit c = let H = c.before.before.before.before.before.before.before.before.before.before.before.before.before.before.before.before.before in let S = H.before.before.before in other_lines (lines_of (bytes "MP.A.") 14 10 S.args.text.now 22 H.head_numbers-numbers.result) (lines_of (bytes "MP.O.") 24 7 S.args.text.now 42 H.head_numbers-numbers.result) (author-fits c.before.before.before.before.before.before.before) c.fields-c.ensures

head-numbers-requires : tie.Need-head_numbers-numbers-requires
head-numbers-requires c κs = search rules

slice-aggregate-mp-lines : tie.Need-slice_bounds-mp_lines-end
slice-aggregate-mp-lines c = search rules

mp-lines-requires : tie.Need-mp_lines-a-requires
mp-lines-requires c κs = let H = c.before.before in let S = H.before.before.before in (search rules, inside-at H 0 2 (omega arith), (first_lines (mp_lines S.args.patch S.args.text.now H.head_numbers-numbers.result) ((lines_of (bytes "MP.P.") 6 8 S.args.text.now 6 H.head_numbers-numbers.result) ++ ((lines_of (bytes "MP.A.") 14 10 S.args.text.now 22 H.head_numbers-numbers.result) ++ (lines_of (bytes "MP.O.") 24 7 S.args.text.now 42 H.head_numbers-numbers.result))) (fit H)).inside)

slice-aggregate-fields : tie.Need-slice_bounds-fields-end-2
slice-aggregate-fields c = search rules

slice-aggregate-fields-2 : tie.Need-slice_bounds-fields-end-4
slice-aggregate-fields-2 c = search rules

fields-requires : tie.Need-fields-b-requires
fields-requires c κs = let T = c.before.before.before.before.before in let H = T.before.before.before.before in let S = H.before.before.before in (search rules, search rules, inside-at H 2 8 (omega arith), (first_lines (lines_of (bytes "MP.P.") 6 8 S.args.text.now 6 H.head_numbers-numbers.result) ((lines_of (bytes "MP.A.") 14 10 S.args.text.now 22 H.head_numbers-numbers.result) ++ (lines_of (bytes "MP.O.") 24 7 S.args.text.now 42 H.head_numbers-numbers.result)) (person-fits T.before)).inside)

slice-aggregate-fields-3 : tie.Need-slice_bounds-fields-end-6
slice-aggregate-fields-3 c = search rules

fields-requires-2 : tie.Need-fields-c-requires
fields-requires-2 c κs = let T = c.before.before.before.before.before in let H = T.before.before.before.before.before.before.before.before.before.before.before in let S = H.before.before.before in (search rules, search rules, inside-at H 10 10 (omega arith), (first_lines (lines_of (bytes "MP.A.") 14 10 S.args.text.now 22 H.head_numbers-numbers.result) (lines_of (bytes "MP.O.") 24 7 S.args.text.now 42 H.head_numbers-numbers.result) (author-fits T.before)).inside)

fields-requires-3 : tie.Need-fields-requires
fields-requires-3 c κs = let T = c.before.before.before.before.before in let H = T.before.before.before.before.before.before.before.before.before.before.before.before.before.before.before in (search rules, search rules, inside-at H.before.before.before 20 7 (omega arith), (measures-fit T.before).inside)

same_length : tie.Need-shape_of-out
same_length c = search rules

returns : tie.Need-returns
returns c =
    let X = c.before.before in
    let Y = X.before.before.before.before.before.before.before in
    let Z = Y.before.before.before.before.before.before.before in
    let T = Z.before.before.before.before.before.before.before in
    let H = T.before.before.before in
    let S = H.before.before.before in
    wrote_as (ap print (head-is H)) (lines_written (mp_lines S.args.patch S.args.text.now H.head_numbers-numbers.result) ((lines_of (bytes "MP.P.") 6 8 S.args.text.now 6 H.head_numbers-numbers.result) ++ ((lines_of (bytes "MP.A.") 14 10 S.args.text.now 22 H.head_numbers-numbers.result) ++ (lines_of (bytes "MP.O.") 24 7 S.args.text.now 42 H.head_numbers-numbers.result))) (fit H) T.mp_lines-a.ensures
    (lines_written (lines_of (bytes "MP.P.") 6 8 S.args.text.now 6 H.head_numbers-numbers.result) ((lines_of (bytes "MP.A.") 14 10 S.args.text.now 22 H.head_numbers-numbers.result) ++ (lines_of (bytes "MP.O.") 24 7 S.args.text.now 42 H.head_numbers-numbers.result)) (person-fits T) Z.fields-b.ensures (lines_written (lines_of (bytes "MP.A.") 14 10 S.args.text.now 22 H.head_numbers-numbers.result) (lines_of (bytes "MP.O.") 24 7 S.args.text.now 42 H.head_numbers-numbers.result) (author-fits Z) Y.fields-c.ensures X.fields.ensures)))

pub head_lines_spec : {M : Type 1} → statement M
head_lines_spec =
    tie.close
    (tie.spec
    head-numbers-requires
    slice-aggregate-mp-lines
    mp-lines-requires
    slice-aggregate-fields
    fields-requires
    slice-aggregate-fields-2
    fields-requires-2
    slice-aggregate-fields-3
    fields-requires-3
    same_length
    returns)
