-- `listing::rows::plain_row` meets its contract: the mark's line and those of the fields stand one behind the other.
-- Assumes nothing.
use mathlib.Core.List.{[], ◌∷◌, ◌++◌}
use native.Mathlib.Omega.{arith}
use Rattle.paper.specs.Lists.{bytes}
use Rattle.paper.specs.Listing.{line, print}
use Rattle.listing.specs.Numbered.{lines_of}
use Rattle.plan.specs.Numbers.{span_place}
use Rattle.room.proofs.Pieces.{Fits}
use Rattle.listing.proofs.Fielded.{first_lines, other_lines, lines_written}
use Rattle.plan.proofs.Numbered.{spans_inside}
use borrow.Author.Rules.{rules}
use Rattle.listing.proofs.rows.plain_row.Statement.{statement}
use Rattle.listing.proofs.rows.plain_row.Tie as tie

-- all lines fit
fit : (S : tie.Start) → Fits S.args.out.now S.args.at (print ((line (bytes "row") S.args.mark.now ∷ []) ++ (lines_of S.args.path.now S.args.first S.args.count S.args.text.now (span_place S.args.i 0) S.args.rows.now)))
fit S = record { inside = S.requires.4 }

text-line-requires : tie.Need-text_line-a-requires
text-line-requires c κs = let S = c.before.before.before.before.before.before.before.before in (first_lines (line (bytes "row") S.args.mark.now ∷ []) (lines_of S.args.path.now S.args.first S.args.count S.args.text.now (span_place S.args.i 0) S.args.rows.now) (fit S)).inside

mul-fields : tie.Need-overflow_mul-i
mul-fields c = search rules

add-fields : tie.Need-overflow_add-i
add-fields c = search rules

fields-requires : tie.Need-fields-requires
fields-requires c κs =
    let T = c.before.before.before in
    let S = T.before.before.before.before.before.before.before.before.before in
    (S.requires.1, omega (arith, S.requires.0, S.requires.2), spans_inside S.args.text.now S.args.rows.now S.args.i S.args.count 0 (omega (arith, S.requires.2)) S.requires.3, (other_lines (line (bytes "row") S.args.mark.now ∷ []) (lines_of S.args.path.now S.args.first S.args.count S.args.text.now (span_place S.args.i 0) S.args.rows.now) (fit S) T.text_line-a.ensures).inside)

same_length : tie.Need-shape_of-out
same_length c = search rules

returns : tie.Need-returns
returns c = let F = c.before.before in let T = F.before.before.before.before in let S = T.before.before.before.before.before.before.before.before.before in lines_written (line (bytes "row") S.args.mark.now ∷ []) (lines_of S.args.path.now S.args.first S.args.count S.args.text.now (span_place S.args.i 0) S.args.rows.now) (fit S) T.text_line-a.ensures F.fields.ensures

pub plain_row_spec : {M : Type 1} → statement M
plain_row_spec =
    tie.close
    (tie.spec
    text-line-requires
    mul-fields
    add-fields
    fields-requires
    same_length
    returns)
