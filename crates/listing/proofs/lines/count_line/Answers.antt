-- `listing::lines::count_line`: the key, `=`, the digits and the line's end stand one behind the other.
-- Assumes nothing.
use Rattle.paper.specs.Listing.{numeral}
use Rattle.room.proofs.Pieces.{fits, wrote}
use Rattle.listing.proofs.Pieces.{line_written}
use Rattle.listing.proofs.lines.count_line.Goals as goal

pub returns : goal.returns
returns c = line_written (numeral c.args.n) (fits c.requires) (wrote c.lay-a.ensures) c.numeral-b.ensures
