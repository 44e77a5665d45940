-- `listing::lines::text_line`: the key, `=`, the value and the line's end stand one behind the other.
-- Assumes nothing.
use Rattle.room.proofs.Pieces.{fits, wrote}
use Rattle.listing.proofs.Pieces.{line_written}
use Rattle.listing.proofs.lines.text_line.Goals as goal

pub returns : goal.returns
returns c = line_written c.args.value.now (fits c.requires) (wrote c.lay-a.ensures) (wrote c.lay-b.ensures)
