-- `writer::spelling::lay_end`: `/>` without a W, else `>`, the three W and the end tag one behind the other.
-- Assumes nothing.
use Rattle.std.proofs.Common.{List, ℕ, ◌+◌, ◌∷◌, ◌++◌, refl, arith}
use Rattle.paper.specs.Lists.{bytes}
use Rattle.room.proofs.Pieces.{Fits, fits, fits_as, wrote, wrote_as, going_start, going_fits, going_on}
use Rattle.writer.specs.Tags.{substance_text}
use Rattle.writer.proofs.Spelled.{byte_fits, byte_on, last_fits, last_on}
use Rattle.writer.proofs.Bodied.{end_none, end_some, three_parts}
use Rattle.writer.proofs.spelling.lay_end.Goals as goal

pub lay-requires : goal.lay-requires
lay-requires c = (fits_as (end_none c.args.text.now c.args.from c.args.rows.now c.if-rows-from-eq0.true) (fits c.requires.3)).inside

pub returns-then-rows-from-eq0 : goal.returns-then-rows-from-eq0
returns-then-rows-from-eq0 c = wrote_as (end_none c.args.text.now c.args.from c.args.rows.now c.if-rows-from-eq0.true) (wrote {p = bytes "/>"} c.lay.ensures)

pub bounds-out-at : goal.bounds-out-at
bounds-out-at c =
    let a = c.args in
    let p : List ℕ = substance_text a.text.now a.from a.rows.now in
    let q : List ℕ = substance_text a.text.now (a.from + 4) a.rows.now in
    let r : List ℕ = substance_text a.text.now (a.from + 8) a.rows.now in
    let z : List ℕ = bytes "</M>" in
    let e = end_some a.text.now a.from a.rows.now c.if-rows-from-eq0.false in
    let f : Fits a.out.now a.at (62 ∷ (p ++ (q ++ (r ++ z)))) = fits_as e (fits c.requires.3) in
    byte_fits (going_start f)

pub lay_substance-a-requires : goal.lay_substance-a-requires
lay_substance-a-requires c =
    let a = c.args in
    let p : List ℕ = substance_text a.text.now a.from a.rows.now in
    let q : List ℕ = substance_text a.text.now (a.from + 4) a.rows.now in
    let r : List ℕ = substance_text a.text.now (a.from + 8) a.rows.now in
    let z : List ℕ = bytes "</M>" in
    let e = end_some a.text.now a.from a.rows.now c.if-rows-from-eq0.false in
    let f : Fits a.out.now a.at (62 ∷ (p ++ (q ++ (r ++ z)))) = fits_as e (fits c.requires.3) in
    let G = byte_on (going_start f) in
    (c.requires.0, omega (arith, c.requires.1), (three_parts a.text.now a.rows.now a.from c.requires.2).0, going_fits G p (q ++ (r ++ z)) refl)

pub lay_substance-b-requires : goal.lay_substance-b-requires
lay_substance-b-requires c =
    let a = c.args in
    let p : List ℕ = substance_text a.text.now a.from a.rows.now in
    let q : List ℕ = substance_text a.text.now (a.from + 4) a.rows.now in
    let r : List ℕ = substance_text a.text.now (a.from + 8) a.rows.now in
    let z : List ℕ = bytes "</M>" in
    let e = end_some a.text.now a.from a.rows.now c.if-rows-from-eq0.false in
    let f : Fits a.out.now a.at (62 ∷ (p ++ (q ++ (r ++ z)))) = fits_as e (fits c.requires.3) in
    let G = byte_on (going_start f) in
    let A = going_on G p (q ++ (r ++ z)) refl c.lay_substance-a.ensures in
    (c.requires.0, omega (arith, c.requires.1), (three_parts a.text.now a.rows.now a.from c.requires.2).1.0, going_fits A q (r ++ z) refl)

pub lay_substance-c-requires : goal.lay_substance-c-requires
lay_substance-c-requires c =
    let a = c.args in
    let p : List ℕ = substance_text a.text.now a.from a.rows.now in
    let q : List ℕ = substance_text a.text.now (a.from + 4) a.rows.now in
    let r : List ℕ = substance_text a.text.now (a.from + 8) a.rows.now in
    let z : List ℕ = bytes "</M>" in
    let e = end_some a.text.now a.from a.rows.now c.if-rows-from-eq0.false in
    let f : Fits a.out.now a.at (62 ∷ (p ++ (q ++ (r ++ z)))) = fits_as e (fits c.requires.3) in
    let G = byte_on (going_start f) in
    let A = going_on G p (q ++ (r ++ z)) refl c.lay_substance-a.ensures in
    let B = going_on A q (r ++ z) refl c.lay_substance-b.ensures in
    (c.requires.0, omega (arith, c.requires.1), (three_parts a.text.now a.rows.now a.from c.requires.2).1.1, going_fits B r z refl)

pub lay-requires-2 : goal.lay-requires-2
lay-requires-2 c =
    let a = c.args in
    let p : List ℕ = substance_text a.text.now a.from a.rows.now in
    let q : List ℕ = substance_text a.text.now (a.from + 4) a.rows.now in
    let r : List ℕ = substance_text a.text.now (a.from + 8) a.rows.now in
    let z : List ℕ = bytes "</M>" in
    let e = end_some a.text.now a.from a.rows.now c.if-rows-from-eq0.false in
    let f : Fits a.out.now a.at (62 ∷ (p ++ (q ++ (r ++ z)))) = fits_as e (fits c.requires.3) in
    let G = byte_on (going_start f) in
    let A = going_on G p (q ++ (r ++ z)) refl c.lay_substance-a.ensures in
    let B = going_on A q (r ++ z) refl c.lay_substance-b.ensures in
    let C = going_on B r z refl c.lay_substance-c.ensures in
    last_fits C

pub returns : goal.returns
returns c =
    let a = c.args in
    let p : List ℕ = substance_text a.text.now a.from a.rows.now in
    let q : List ℕ = substance_text a.text.now (a.from + 4) a.rows.now in
    let r : List ℕ = substance_text a.text.now (a.from + 8) a.rows.now in
    let z : List ℕ = bytes "</M>" in
    let e = end_some a.text.now a.from a.rows.now c.if-rows-from-eq0.false in
    let f : Fits a.out.now a.at (62 ∷ (p ++ (q ++ (r ++ z)))) = fits_as e (fits c.requires.3) in
    let G = byte_on (going_start f) in
    let A = going_on G p (q ++ (r ++ z)) refl c.lay_substance-a.ensures in
    let B = going_on A q (r ++ z) refl c.lay_substance-b.ensures in
    let C = going_on B r z refl c.lay_substance-c.ensures in
    wrote_as e (last_on C f (wrote {p = z} c.lay-2.ensures))
