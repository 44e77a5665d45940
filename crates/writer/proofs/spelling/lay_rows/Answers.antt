-- `writer::spelling::lay_rows`: of the rows that are given a heading drops what stands before it, and another row is put into an S.
-- Assumes nothing.
use Rattle.std.proofs.Common.{◌≡◌, Bool, true, false, List, ℕ, [], ◌∷◌, ◌++◌, ◌-◌, length, take, drop, refl, ap, sym, ◌∙◌, arith}
use Rattle.std.proofs.lemmas.Grind.{common_steps}
use lib.ListN.{length-drop}
use lib.Seq.{take_all}
use Rattle.paper.specs.Lists.{bytes}
use Rattle.room.proofs.Pieces.{Fits, fits, fits_as, wrote, wrote_as, second_fits, both_written}
use Rattle.writer.specs.Tags.{rows_page}
use Rattle.writer.proofs.spelling.lay_rows.Goals as goal

-- a heading first
headed : (b : Bool) (w : List ℕ) → (length w ≡ 0 → ⊥) → b ≡ true → rows_page b w ≡ drop 4 w ++ bytes "</S></MP>"
headed b [] h e = absurd (h refl)
headed b (c ∷ w) h e = rw e

-- another row first
other : (b : Bool) (w : List ℕ) → (length w ≡ 0 → ⊥) → b ≡ false → rows_page b w ≡ bytes "<S>" ++ (w ++ bytes "</S></MP>")
other b [] h e = absurd (h refl)
other b (c ∷ w) h e = rw e

-- a part from a place on is what is left behind that place
rest : (w : List ℕ) → take (length w - 4) (drop 4 w) ≡ drop 4 w
rest w = take_all (length w - 4) (drop 4 w) (omega (arith, length-drop 4 w))

pub returns-then-heading : goal.returns-then-heading
returns-then-heading c =
    let w : List ℕ = c.args.placed.now in
    let n : length w ≡ 0 → ⊥ = λ z. grind (arith, common_steps, z, c.if-is_empty.false) in
    let e = headed c.args.heading w n c.if-heading.true ∙ ap (λ (l : List ℕ). l ++ bytes "</S></MP>") (sym (rest w)) in
    wrote_as e (both_written (fits_as e (fits c.requires.1)) (wrote c.lay-a.ensures) (wrote c.lay-then-heading.ensures))

pub lay-requires-2 : goal.lay-requires-2
lay-requires-2 c =
    let w : List ℕ = c.args.placed.now in
    let n : length w ≡ 0 → ⊥ = λ z. grind (arith, common_steps, z, c.if-is_empty.false) in
    let o : List ℕ = bytes "<S>" in
    let z : List ℕ = bytes "</S></MP>" in
    let e = other c.args.heading w n c.if-heading.false in
    let f : Fits c.args.out.now c.args.at (o ++ (w ++ z)) = fits_as e (fits c.requires.1) in
    (second_fits z (second_fits (w ++ z) f (wrote {p = o} c.lay-b.ensures)) (wrote c.lay-c.ensures)).inside

pub returns : goal.returns
returns c =
    let w : List ℕ = c.args.placed.now in
    let n : length w ≡ 0 → ⊥ = λ z. grind (arith, common_steps, z, c.if-is_empty.false) in
    let o : List ℕ = bytes "<S>" in
    let z : List ℕ = bytes "</S></MP>" in
    let e = other c.args.heading w n c.if-heading.false in
    let f : Fits c.args.out.now c.args.at (o ++ (w ++ z)) = fits_as e (fits c.requires.1) in
    wrote_as e (both_written f (wrote {p = o} c.lay-b.ensures) (both_written (second_fits (w ++ z) f (wrote {p = o} c.lay-b.ensures)) (wrote c.lay-c.ensures) (wrote {p = z} c.lay-2.ensures)))
