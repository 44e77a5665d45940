-- `writer::tags::lay_attribute`: blank, name, `="`, value and `"` stand one behind the other.
-- Assumes nothing.
use Rattle.std.proofs.Common.{List, ℕ, [], ◌∷◌, ◌++◌, refl}
use Rattle.std.proofs.Math.Seq.{slice}
use Rattle.paper.specs.Lists.{bytes}
use Rattle.paper.specs.Values.{escape}
use Rattle.fields.specs.Places.{name_of}
use Rattle.room.proofs.Pieces.{Fits, fits, wrote, going_start, going_on, going_done}
use Rattle.writer.specs.Tags.{quoted}
use Rattle.writer.proofs.Spelled.{byte_on}
use Rattle.writer.proofs.tags.lay_attribute.Goals as goal

pub returns : goal.returns
returns c =
    let a = c.args in
    let n : List ℕ = name_of a.letters in
    let v : List ℕ = escape (slice a.from a.to a.text.now) in
    let f : Fits a.out.now a.at (quoted n v) = fits c.requires.2 in
    let N = going_on (byte_on (going_start f)) n (61 ∷ 34 ∷ (v ++ 34 ∷ [])) refl (wrote c.lay_name-a.ensures) in
    let B = going_on N (bytes "=\"") (v ++ 34 ∷ []) refl (wrote c.lay-b.ensures) in
    going_done f (byte_on (going_on B v (34 ∷ []) refl c.lay_value-c.ensures)) refl
