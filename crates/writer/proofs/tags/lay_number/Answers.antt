-- `writer::tags::lay_number`: the name, the digits and the quote stand one behind the other.
-- Assumes nothing.
use Rattle.std.proofs.Common.{List, ℕ, [], ◌∷◌, ◌++◌, refl}
use Rattle.paper.specs.Lists.{bytes}
use Rattle.paper.specs.Writing.{decimal}
use Rattle.room.proofs.Pieces.{Fits, fits, fits_as, wrote, wrote_as, going_start, going_on, going_done}
use Rattle.writer.specs.Tags.{quoted}
use Rattle.writer.proofs.Spelled.{decimal_quoted, byte_on}
use Rattle.writer.proofs.tags.lay_number.Goals as goal

pub returns : goal.returns
returns c =
    let a = c.args in
    let d : List ℕ = decimal a.n in
    let e = decimal_quoted (bytes "p") a.n c.if-n-eq0.false in
    let f : Fits a.out.now a.at (quoted (bytes "p") d) = fits_as e (fits c.requires) in
    let N = going_on (going_start f) (bytes " p=\"") (d ++ 34 ∷ []) refl (wrote c.lay-a.ensures) in
    wrote_as e (going_done f (byte_on (going_on N d (34 ∷ []) refl (wrote c.spell-b.ensures))) refl)
