-- `listing::rows::substance_lines` meets its contract: the lines of the three W stand one behind the other.
-- Assumes nothing.
use mathlib.Core.List.{◌++◌}
use native.Mathlib.Omega.{arith}
use Rattle.paper.specs.Fields.{W}
use Rattle.paper.specs.Listing.{path, print}
use Rattle.listing.specs.Numbered.{lines_of}
use Rattle.plan.specs.Numbers.{span_place}
use Rattle.room.proofs.Pieces.{Fits}
use Rattle.listing.proofs.Fielded.{first_lines, other_lines, lines_written}
use Rattle.plan.proofs.Numbered.{spans_inside}
use borrow.Author.Rules.{rules}
use Rattle.listing.proofs.rows.substance_lines.Statement.{statement}
use Rattle.listing.proofs.rows.substance_lines.Tie as tie

-- all lines fit
fit : (S : tie.Start) → Fits S.args.out.now S.args.at (print ((lines_of (path W) 47 2 S.args.text.now (span_place S.args.i 13) S.args.rows.now) ++ ((lines_of (path W) 47 2 S.args.text.now (span_place S.args.i 15) S.args.rows.now) ++ (lines_of (path W) 47 2 S.args.text.now (span_place S.args.i 17) S.args.rows.now))))
fit S = record { inside = S.requires.2 }

-- those of the second and third fit behind the first
second-fit : (c : tie.After-fields-a) → let S = c.before.before.before.before.before.before.before in Fits c.fields-a.new.out c.fields-a.result (print ((lines_of (path W) 47 2 S.args.text.now (span_place S.args.i 15) S.args.rows.now) ++ (lines_of (path W) 47 2 S.args.text.now (span_place S.args.i 17) S.args.rows.now)))
second-fit c = let S = c.before.before.before.before.before.before.before in other_lines (lines_of (path W) 47 2 S.args.text.now (span_place S.args.i 13) S.args.rows.now) ((lines_of (path W) 47 2 S.args.text.now (span_place S.args.i 15) S.args.rows.now) ++ (lines_of (path W) 47 2 S.args.text.now (span_place S.args.i 17) S.args.rows.now)) (fit S) c.fields-a.ensures

-- those of the third behind the second
third-fit : (c : tie.After-fields-b) → let S = c.before.before.before.before.before.before.before.before.before.before.before.before.before in Fits c.fields-b.new.out c.fields-b.result (print (lines_of (path W) 47 2 S.args.text.now (span_place S.args.i 17) S.args.rows.now))
third-fit c = let S = c.before.before.before.before.before.before.before.before.before.before.before.before.before in other_lines (lines_of (path W) 47 2 S.args.text.now (span_place S.args.i 15) S.args.rows.now) (lines_of (path W) 47 2 S.args.text.now (span_place S.args.i 17) S.args.rows.now) (second-fit c.before.before.before.before.before.before) c.fields-b.ensures

mul-k : tie.Need-overflow_mul-k
mul-k c = search rules

add-fields : tie.Need-overflow_add-k
add-fields c = search rules

fields-requires : tie.Need-fields-a-requires
fields-requires c κs = let S = c.before.before.before.before.before.before in (search rules, omega (arith, S.requires.0), spans_inside S.args.text.now S.args.rows.now S.args.i 2 13 (omega arith) S.requires.1, (first_lines (lines_of (path W) 47 2 S.args.text.now (span_place S.args.i 13) S.args.rows.now) ((lines_of (path W) 47 2 S.args.text.now (span_place S.args.i 15) S.args.rows.now) ++ (lines_of (path W) 47 2 S.args.text.now (span_place S.args.i 17) S.args.rows.now)) (fit S)).inside)

add-fields-2 : tie.Need-overflow_add-k-2
add-fields-2 c = search rules

fields-requires-2 : tie.Need-fields-b-requires
fields-requires-2 c κs = let T = c.before.before.before.before in let S = T.before.before.before.before.before.before.before.before in (search rules, omega (arith, S.requires.0), spans_inside S.args.text.now S.args.rows.now S.args.i 2 15 (omega arith) S.requires.1, (first_lines (lines_of (path W) 47 2 S.args.text.now (span_place S.args.i 15) S.args.rows.now) (lines_of (path W) 47 2 S.args.text.now (span_place S.args.i 17) S.args.rows.now) (second-fit T.before)).inside)

add-fields-3 : tie.Need-overflow_add-k-3
add-fields-3 c = search rules

fields-requires-3 : tie.Need-fields-requires
fields-requires-3 c κs = let T = c.before.before.before.before in let S = T.before.before.before.before.before.before.before.before.before.before.before.before.before.before in (search rules, omega (arith, S.requires.0), spans_inside S.args.text.now S.args.rows.now S.args.i 2 17 (omega arith) S.requires.1, (third-fit T.before).inside)

same_length : tie.Need-shape_of-out
same_length c = search rules

returns : tie.Need-returns
returns c =
    let X = c.before.before in
    let Y = X.before.before.before.before.before.before in
    let Z = Y.before.before.before.before.before.before in
    let S = Z.before.before.before.before.before.before.before in
    lines_written (lines_of (path W) 47 2 S.args.text.now (span_place S.args.i 13) S.args.rows.now) ((lines_of (path W) 47 2 S.args.text.now (span_place S.args.i 15) S.args.rows.now) ++ (lines_of (path W) 47 2 S.args.text.now (span_place S.args.i 17) S.args.rows.now)) (fit S) Z.fields-a.ensures (lines_written (lines_of (path W) 47 2 S.args.text.now (span_place S.args.i 15) S.args.rows.now) (lines_of (path W) 47 2 S.args.text.now (span_place S.args.i 17) S.args.rows.now) (second-fit Z) Y.fields-b.ensures X.fields.ensures)

pub substance_lines_spec : {M : Type 1} → statement M
substance_lines_spec =
    tie.close
    (tie.spec
    mul-k
    add-fields
    fields-requires
    add-fields-2
    fields-requires-2
    add-fields-3
    fields-requires-3
    same_length
    returns)
