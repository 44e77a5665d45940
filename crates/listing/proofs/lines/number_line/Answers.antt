-- `listing::lines::number_line`: no line for 0, else the key, `=`, the digits and the line's end one behind the other.
-- Assumes nothing.
use Rattle.std.proofs.Common.{[], ◌∷◌, ◌++◌}
use Rattle.paper.specs.Listing.{line, print}
use Rattle.paper.specs.Writing.{decimal}
use Rattle.room.proofs.Pieces.{Fits, fits, wrote, none_written, first_fits}
use Rattle.listing.proofs.Pieces.{equals_fits, value_fits, end_fits, line_written}
use Rattle.listing.proofs.Digits.{decimal_given}
use Rattle.listing.proofs.lines.number_line.Goals as goal

pub returns-then-n-eq0 : goal.returns-then-n-eq0
returns-then-n-eq0 c = rw c.if-n-eq0.true (none_written c.args.out.now c.args.at)

pub lay-a-requires : goal.lay-a-requires
lay-a-requires c =
    let v = decimal c.args.n in
    let all : Fits c.args.out.now c.args.at (print (line c.args.key.now v ∷ [])) = fits (rw (decimal_given c.args.key.now c.args.n c.if-n-eq0.false) at c.requires) in
    (first_fits c.args.key.now (61 ∷ (v ++ 10 ∷ [])) all).inside

pub bounds-out-a : goal.bounds-out-a
bounds-out-a c =
    let v = decimal c.args.n in
    let all : Fits c.args.out.now c.args.at (print (line c.args.key.now v ∷ [])) = fits (rw (decimal_given c.args.key.now c.args.n c.if-n-eq0.false) at c.requires) in
    equals_fits v all (wrote c.lay-a.ensures)

pub spell-b-requires : goal.spell-b-requires
spell-b-requires c =
    let v = decimal c.args.n in
    let all : Fits c.args.out.now c.args.at (print (line c.args.key.now v ∷ [])) = fits (rw (decimal_given c.args.key.now c.args.n c.if-n-eq0.false) at c.requires) in
    (value_fits v all (wrote c.lay-a.ensures)).inside

pub bounds-out-b : goal.bounds-out-b
bounds-out-b c =
    let v = decimal c.args.n in
    let all : Fits c.args.out.now c.args.at (print (line c.args.key.now v ∷ [])) = fits (rw (decimal_given c.args.key.now c.args.n c.if-n-eq0.false) at c.requires) in
    end_fits v all (wrote c.lay-a.ensures) (wrote c.spell-b.ensures)

pub returns : goal.returns
returns c =
    let v = decimal c.args.n in
    let all : Fits c.args.out.now c.args.at (print (line c.args.key.now v ∷ [])) = fits (rw (decimal_given c.args.key.now c.args.n c.if-n-eq0.false) at c.requires) in
    rw (decimal_given c.args.key.now c.args.n c.if-n-eq0.false) (line_written v all (wrote c.lay-a.ensures) (wrote c.spell-b.ensures))
