-- `listing::lines::letters_line`: the path and the letters are the key, and the rest of the line stands behind them.
-- Assumes nothing.
use Rattle.std.proofs.Common.{[], ◌∷◌, ◌++◌}
use Rattle.fields.specs.Places.{name_of}
use Rattle.room.proofs.Pieces.{fits, wrote, first_fits, both_written}
use Rattle.listing.proofs.Pieces.{line_written}
use Rattle.listing.proofs.lines.letters_line.Goals as goal

pub returns : goal.returns
returns c =
    let key = first_fits (c.args.path.now ++ name_of c.args.letters) (61 ∷ (c.args.value.now ++ 10 ∷ [])) (fits c.requires) in
    line_written c.args.value.now (fits c.requires) (both_written key (wrote c.lay-name.ensures) (wrote c.lay_name-sign.ensures)) (wrote c.lay-end.ensures)
