-- `writer::tags::lay_tag`: the beginning, the attributes and the end stand one behind the other.
-- Assumes nothing.
use Rattle.std.proofs.Common.{List, ℕ, ◌++◌}
use Rattle.room.proofs.Pieces.{Fits, fits, wrote, first_fits, second_fits, both_written}
use Rattle.writer.specs.Tags.{fields_text, tag_text}
use Rattle.writer.proofs.tags.lay_tag.Goals as goal

pub lay-a-requires : goal.lay-a-requires
unfolding tag_text
lay-a-requires c =
    let a = c.args in
    let b : List ℕ = a.begin.now in
    let m : List ℕ = fields_text a.first a.count a.text.now a.from a.numbers.now in
    let e : List ℕ = a.end.now in
    let f : Fits a.out.now a.at (b ++ (m ++ e)) = fits c.requires.4 in
    (first_fits b (m ++ e) f).inside

pub lay_fields-b-requires : goal.lay_fields-b-requires
unfolding tag_text
lay_fields-b-requires c =
    let a = c.args in
    let b : List ℕ = a.begin.now in
    let m : List ℕ = fields_text a.first a.count a.text.now a.from a.numbers.now in
    let e : List ℕ = a.end.now in
    let f : Fits a.out.now a.at (b ++ (m ++ e)) = fits c.requires.4 in
    (c.requires.0, c.requires.1, c.requires.2, c.requires.3, (first_fits m e (second_fits (m ++ e) f (wrote c.lay-a.ensures))).inside)

pub lay-requires : goal.lay-requires
unfolding tag_text
lay-requires c =
    let a = c.args in
    let b : List ℕ = a.begin.now in
    let m : List ℕ = fields_text a.first a.count a.text.now a.from a.numbers.now in
    let e : List ℕ = a.end.now in
    let f : Fits a.out.now a.at (b ++ (m ++ e)) = fits c.requires.4 in
    (second_fits e (second_fits (m ++ e) f (wrote c.lay-a.ensures)) c.lay_fields-b.ensures).inside

pub returns : goal.returns
unfolding tag_text
returns c =
    let a = c.args in
    let b : List ℕ = a.begin.now in
    let m : List ℕ = fields_text a.first a.count a.text.now a.from a.numbers.now in
    let e : List ℕ = a.end.now in
    let f : Fits a.out.now a.at (b ++ (m ++ e)) = fits c.requires.4 in
    both_written f (wrote c.lay-a.ensures) (both_written (second_fits (m ++ e) f (wrote c.lay-a.ensures)) c.lay_fields-b.ensures (wrote c.lay.ensures))
