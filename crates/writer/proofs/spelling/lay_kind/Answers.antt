-- `writer::spelling::lay_kind`: each kind of row has its own tags, and a sound row has a kind.
-- Assumes nothing.
use Rattle.std.proofs.Common.{ap, sym, ◌∙◌, arith, rules}
use Rattle.plan.specs.Numbers.{record_at}
use Rattle.plan.specs.Records.{paper_kind}
use Rattle.plan.proofs.Numbered.{spans_inside}
use Rattle.room.proofs.Pieces.{fits, fits_as, wrote_as}
use Rattle.writer.proofs.Bodied.{sound_parts, unknown_never, heading_is, medication_is, recipe_is, note_is}
use Rattle.writer.proofs.spelling.lay_kind.Goals as goal

pub lay_tag-requires : goal.lay_tag-requires
lay_tag-requires c =
    let a = c.args in
    let e = heading_is a.text.now a.rows.now a.i (sym c.requires.3 ∙ ap paper_kind c.in-Heading.is) in
    let s = sound_parts a.text.now (record_at a.rows.now a.i) c.requires.2 in
    (c.requires.0, search rules, omega (arith, c.requires.1), spans_inside a.text.now a.rows.now a.i 2 0 (omega arith) s.0, (fits_as e (fits c.requires.4)).inside)

pub returns-in-Heading : goal.returns-in-Heading
returns-in-Heading c = wrote_as (heading_is c.args.text.now c.args.rows.now c.args.i (sym c.requires.3 ∙ ap paper_kind c.in-Heading.is)) c.lay_tag.ensures

pub lay_medication-requires : goal.lay_medication-requires
lay_medication-requires c =
    let a = c.args in
    let e = medication_is a.text.now a.rows.now a.i (sym c.requires.3 ∙ ap paper_kind c.in-Medication.is) c.requires.2 in
    (c.requires.0, c.requires.1, (sound_parts a.text.now (record_at a.rows.now a.i) c.requires.2).0, (fits_as e (fits c.requires.4)).inside)

pub returns-in-Medication : goal.returns-in-Medication
returns-in-Medication c = wrote_as (medication_is c.args.text.now c.args.rows.now c.args.i (sym c.requires.3 ∙ ap paper_kind c.in-Medication.is) c.requires.2) c.lay_medication.ensures

pub lay_tag-requires-in-Recipe : goal.lay_tag-requires-in-Recipe
lay_tag-requires-in-Recipe c =
    let a = c.args in
    let e = recipe_is a.text.now a.rows.now a.i (sym c.requires.3 ∙ ap paper_kind c.in-Recipe.is) in
    let s = sound_parts a.text.now (record_at a.rows.now a.i) c.requires.2 in
    (c.requires.0, search rules, omega (arith, c.requires.1), spans_inside a.text.now a.rows.now a.i 2 0 (omega arith) s.0, (fits_as e (fits c.requires.4)).inside)

pub returns-in-Recipe : goal.returns-in-Recipe
returns-in-Recipe c = wrote_as (recipe_is c.args.text.now c.args.rows.now c.args.i (sym c.requires.3 ∙ ap paper_kind c.in-Recipe.is)) c.lay_tag-in-Recipe.ensures

pub lay_tag-requires-in-Note : goal.lay_tag-requires-in-Note
lay_tag-requires-in-Note c =
    let a = c.args in
    let e = note_is a.text.now a.rows.now a.i (sym c.requires.3 ∙ ap paper_kind c.in-Note.is) in
    let s = sound_parts a.text.now (record_at a.rows.now a.i) c.requires.2 in
    (c.requires.0, search rules, omega (arith, c.requires.1), spans_inside a.text.now a.rows.now a.i 1 0 (omega arith) s.0, (fits_as e (fits c.requires.4)).inside)

pub returns-in-Note : goal.returns-in-Note
returns-in-Note c = wrote_as (note_is c.args.text.now c.args.rows.now c.args.i (sym c.requires.3 ∙ ap paper_kind c.in-Note.is)) c.lay_tag-in-Note.ensures

pub returns-in-Unknown : goal.returns-in-Unknown
returns-in-Unknown c = absurd (unknown_never c.args.text.now (record_at c.args.rows.now c.args.i) (sym c.requires.3 ∙ ap paper_kind c.in-Unknown.is) c.requires.2)
