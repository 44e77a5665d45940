-- `writer::spelling::lay_start`: v, p, U and l, and a and z stand one behind the other.
-- Assumes nothing.
use Rattle.std.proofs.Common.{List, ℕ, ◌+◌, [], ◌∷◌, ◌++◌, rules}
use Rattle.paper.specs.Lists.{bytes}
use Rattle.paper.specs.Writing.{decimal}
use Rattle.room.proofs.Pieces.{Fits, fits, wrote, first_fits, second_fits, both_written}
use Rattle.writer.specs.Tags.{attribute, fields_text, start_text}
use Rattle.writer.proofs.spelling.lay_start.Goals as goal

pub lay-begun-requires : goal.lay-begun-requires
unfolding start_text
lay-begun-requires c =
    let a = c.args in
    let b : List ℕ = bytes "<MP v=\"027\"" in
    let n : List ℕ = attribute (bytes "p") (decimal a.patch) in
    let m : List ℕ = fields_text 2 2 a.text.now 2 a.numbers.now in
    let z : List ℕ = 32 ∷ 97 ∷ 61 ∷ 34 ∷ (48 + a.a) ∷ 34 ∷ 32 ∷ 122 ∷ 61 ∷ 34 ∷ (48 + a.z) ∷ 34 ∷ 62 ∷ [] in
    let f : Fits a.out.now a.at (b ++ (n ++ (m ++ z))) = fits c.requires.5 in
    (first_fits b (n ++ (m ++ z)) f).inside

pub lay_number-patched-requires : goal.lay_number-patched-requires
unfolding start_text
lay_number-patched-requires c =
    let a = c.args in
    let b : List ℕ = bytes "<MP v=\"027\"" in
    let n : List ℕ = attribute (bytes "p") (decimal a.patch) in
    let m : List ℕ = fields_text 2 2 a.text.now 2 a.numbers.now in
    let z : List ℕ = 32 ∷ 97 ∷ 61 ∷ 34 ∷ (48 + a.a) ∷ 34 ∷ 32 ∷ 122 ∷ 61 ∷ 34 ∷ (48 + a.z) ∷ 34 ∷ 62 ∷ [] in
    let f : Fits a.out.now a.at (b ++ (n ++ (m ++ z))) = fits c.requires.5 in
    (first_fits n (m ++ z) (second_fits (n ++ (m ++ z)) f (wrote {p = b} c.lay-begun.ensures))).inside

pub lay_fields-named-requires : goal.lay_fields-named-requires
unfolding start_text
lay_fields-named-requires c =
    let a = c.args in
    let b : List ℕ = bytes "<MP v=\"027\"" in
    let n : List ℕ = attribute (bytes "p") (decimal a.patch) in
    let m : List ℕ = fields_text 2 2 a.text.now 2 a.numbers.now in
    let z : List ℕ = 32 ∷ 97 ∷ 61 ∷ 34 ∷ (48 + a.a) ∷ 34 ∷ 32 ∷ 122 ∷ 61 ∷ 34 ∷ (48 + a.z) ∷ 34 ∷ 62 ∷ [] in
    let f : Fits a.out.now a.at (b ++ (n ++ (m ++ z))) = fits c.requires.5 in
    (c.requires.0, search rules, c.requires.3, c.requires.4, (first_fits m z (second_fits (m ++ z) (second_fits (n ++ (m ++ z)) f (wrote {p = b} c.lay-begun.ensures)) c.lay_number-patched.ensures)).inside)

pub lay-requires : goal.lay-requires
unfolding start_text
lay-requires c =
    let a = c.args in
    let b : List ℕ = bytes "<MP v=\"027\"" in
    let n : List ℕ = attribute (bytes "p") (decimal a.patch) in
    let m : List ℕ = fields_text 2 2 a.text.now 2 a.numbers.now in
    let z : List ℕ = 32 ∷ 97 ∷ 61 ∷ 34 ∷ (48 + a.a) ∷ 34 ∷ 32 ∷ 122 ∷ 61 ∷ 34 ∷ (48 + a.z) ∷ 34 ∷ 62 ∷ [] in
    let f : Fits a.out.now a.at (b ++ (n ++ (m ++ z))) = fits c.requires.5 in
    (second_fits z (second_fits (m ++ z) (second_fits (n ++ (m ++ z)) f (wrote {p = b} c.lay-begun.ensures)) c.lay_number-patched.ensures) c.lay_fields-named.ensures).inside

pub returns : goal.returns
unfolding start_text
returns c =
    let a = c.args in
    let b : List ℕ = bytes "<MP v=\"027\"" in
    let n : List ℕ = attribute (bytes "p") (decimal a.patch) in
    let m : List ℕ = fields_text 2 2 a.text.now 2 a.numbers.now in
    let z : List ℕ = 32 ∷ 97 ∷ 61 ∷ 34 ∷ (48 + a.a) ∷ 34 ∷ 32 ∷ 122 ∷ 61 ∷ 34 ∷ (48 + a.z) ∷ 34 ∷ 62 ∷ [] in
    let f : Fits a.out.now a.at (b ++ (n ++ (m ++ z))) = fits c.requires.5 in
    both_written f (wrote {p = b} c.lay-begun.ensures) (both_written (second_fits (n ++ (m ++ z)) f (wrote {p = b} c.lay-begun.ensures)) c.lay_number-patched.ensures (both_written (second_fits (m ++ z) (second_fits (n ++ (m ++ z)) f (wrote {p = b} c.lay-begun.ensures)) c.lay_number-patched.ensures) c.lay_fields-named.ensures (wrote {p = z} c.lay.ensures)))
