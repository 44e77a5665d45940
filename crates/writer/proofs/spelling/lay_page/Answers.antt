-- `writer::spelling::lay_page`: the head, and the rows with the page's end behind it.
-- Assumes nothing.
use Rattle.room.proofs.Pieces.{fits, both_written}
use Rattle.writer.proofs.spelling.lay_page.Goals as goal

pub returns : goal.returns
returns c = both_written (fits c.requires.6) c.lay_front-b.ensures c.lay_rows.ensures
