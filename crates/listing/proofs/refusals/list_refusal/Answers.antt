-- `listing::refusals::list_refusal`: the three lines stand one behind the other.
-- Assumes nothing.
use Rattle.std.proofs.Common.{List, [], ◌∷◌, ◌++◌}
use Rattle.paper.specs.Lists.{bytes}
use Rattle.paper.specs.Listing.{Line, line, numeral, print, refusal_lines}
use Rattle.room.proofs.Pieces.{fits_whole, written_whole}
use Rattle.listing.proofs.Fielded.{first_lines, other_lines, lines_written}
use Rattle.listing.proofs.refusals.list_refusal.Goals as goal

pub count_line-a-requires : goal.count_line-a-requires
unfolding refusal_lines
count_line-a-requires c =
    let x : List Line = line (bytes "refused") (numeral c.args.number) ∷ [] in
    let y : List Line = line (bytes "page") (numeral c.args.page) ∷ [] in
    let z : List Line = line (bytes "place") (numeral c.args.place) ∷ [] in
    (first_lines x (y ++ z) (fits_whole c.args.out.now (print (x ++ (y ++ z))) c.requires)).inside

pub count_line-b-requires : goal.count_line-b-requires
unfolding refusal_lines
count_line-b-requires c =
    let x : List Line = line (bytes "refused") (numeral c.args.number) ∷ [] in
    let y : List Line = line (bytes "page") (numeral c.args.page) ∷ [] in
    let z : List Line = line (bytes "place") (numeral c.args.place) ∷ [] in
    (first_lines y z (other_lines x (y ++ z) (fits_whole c.args.out.now (print (x ++ (y ++ z))) c.requires) c.count_line-a.ensures)).inside

pub count_line-requires : goal.count_line-requires
unfolding refusal_lines
count_line-requires c =
    let x : List Line = line (bytes "refused") (numeral c.args.number) ∷ [] in
    let y : List Line = line (bytes "page") (numeral c.args.page) ∷ [] in
    let z : List Line = line (bytes "place") (numeral c.args.place) ∷ [] in
    (other_lines y z (other_lines x (y ++ z) (fits_whole c.args.out.now (print (x ++ (y ++ z))) c.requires) c.count_line-a.ensures) c.count_line-b.ensures).inside

pub returns : goal.returns
unfolding refusal_lines
returns c =
    let x : List Line = line (bytes "refused") (numeral c.args.number) ∷ [] in
    let y : List Line = line (bytes "page") (numeral c.args.page) ∷ [] in
    let z : List Line = line (bytes "place") (numeral c.args.place) ∷ [] in
    let all = fits_whole c.args.out.now (print (x ++ (y ++ z))) c.requires in
    written_whole (lines_written x (y ++ z) all c.count_line-a.ensures (lines_written y z (other_lines x (y ++ z) all c.count_line-a.ensures) c.count_line-b.ensures c.count_line.ensures))
