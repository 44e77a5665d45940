-- `listing::elements::mp_lines` meets its contract: v, p and the fields U and l stand one behind the other.
-- Assumes nothing.
use mathlib.Core.List.{[], ◌∷◌, ◌++◌}
use Rattle.paper.specs.Lists.{bytes}
use Rattle.paper.specs.Fields.{edition}
use Rattle.paper.specs.Writing.{decimal}
use Rattle.paper.specs.Listing.{line, print}
use Rattle.listing.specs.Numbered.{given, lines_of, mp_lines}
use Rattle.room.proofs.Pieces.{Fits}
use Rattle.listing.proofs.Fielded.{first_lines, other_lines, lines_written}
use borrow.Author.Rules.{rules}
use Rattle.listing.proofs.elements.mp_lines.Statement.{statement}
use Rattle.listing.proofs.elements.mp_lines.Tie as tie

-- all lines fit
fit : (S : tie.Start) → Fits S.args.out.now S.args.at (print (mp_lines S.args.patch S.args.text.now S.args.numbers.now))
fit S = record { inside = S.requires.2 }

-- the patch and what is behind it fit
patch-fits : (c : tie.After-text_line-a) → let S = c.before.before.before.before.before.before.before.before.before in Fits c.text_line-a.new.out c.text_line-a.result (print ((given (bytes "MP.p") (decimal S.args.patch)) ++ (lines_of (bytes "MP.") 2 2 S.args.text.now 2 S.args.numbers.now)))
patch-fits c = let S = c.before.before.before.before.before.before.before.before.before in other_lines (line (bytes "MP.v") edition ∷ []) ((given (bytes "MP.p") (decimal S.args.patch)) ++ (lines_of (bytes "MP.") 2 2 S.args.text.now 2 S.args.numbers.now)) (fit S) c.text_line-a.ensures

-- U and l fit
rest-fits : (c : tie.After-number_line-b) → let S = c.before.before.before.before.before.before.before.before.before.before.before.before.before.before.before in Fits c.number_line-b.new.out c.number_line-b.result (print (lines_of (bytes "MP.") 2 2 S.args.text.now 2 S.args.numbers.now))
rest-fits c = let S = c.before.before.before.before.before.before.before.before.before.before.before.before.before.before.before in other_lines (given (bytes "MP.p") (decimal S.args.patch)) (lines_of (bytes "MP.") 2 2 S.args.text.now 2 S.args.numbers.now) (patch-fits c.before.before.before.before.before.before) c.number_line-b.ensures

text-line-requires : tie.Need-text_line-a-requires
text-line-requires c κs = search rules

number-line-requires : tie.Need-number_line-b-requires
number-line-requires c κs = let T = c.before.before.before.before in let S = T.before.before.before.before.before.before.before.before.before.before in (first_lines (given (bytes "MP.p") (decimal S.args.patch)) (lines_of (bytes "MP.") 2 2 S.args.text.now 2 S.args.numbers.now) (patch-fits T.before)).inside

fields-requires : tie.Need-fields-requires
fields-requires c κs = let N = c.before.before.before.before in let S = N.before.before.before.before.before.before.before.before.before.before.before.before.before.before.before.before in (search rules, search rules, S.requires.1, (rest-fits N.before).inside)

same_length : tie.Need-shape_of-out
same_length c = search rules

returns : tie.Need-returns
returns c =
    let F = c.before.before in
    let N = F.before.before.before.before.before.before in
    let T = N.before.before.before.before.before.before in
    let S = T.before.before.before.before.before.before.before.before.before in
    lines_written (line (bytes "MP.v") edition ∷ []) ((given (bytes "MP.p") (decimal S.args.patch)) ++ (lines_of (bytes "MP.") 2 2 S.args.text.now 2 S.args.numbers.now)) (fit S) T.text_line-a.ensures (lines_written (given (bytes "MP.p") (decimal S.args.patch)) (lines_of (bytes "MP.") 2 2 S.args.text.now 2 S.args.numbers.now) (patch-fits T) N.number_line-b.ensures F.fields.ensures)

pub mp_lines_spec : {M : Type 1} → statement M
mp_lines_spec =
    tie.close
    (tie.spec
    text-line-requires
    number-line-requires
    fields-requires
    same_length
    returns)
