-- `listing::rows::row_lines`: each kind of row has the lines of its own.
-- Assumes nothing.
use Rattle.std.proofs.Common.{◌≡◌, ℕ, List, get_or, sym, ap, refl, ◌∙◌, arith, rules}
use Rattle.paper.specs.Fields.{S, R, X, unknown}
use Rattle.paper.specs.Listing.{print}
use Rattle.plan.specs.Numbers.{record_at, kind_shown}
use Rattle.plan.specs.Records.{paper_kind, code_kind}
use Rattle.plan.specs.declared.Kind.{Kind}
use Rattle.plan.proofs.Parts.{kind_is}
use Rattle.fields.proofs.Parts.{row_fields}
use Rattle.room.proofs.Pieces.{fits, fits_as, wrote_as}
use Rattle.listing.proofs.Rowed.{plain_is, medication_is}
use Rattle.listing.proofs.rows.row_lines.Goals as goal

-- the kind that the record shows
shown : (rows : List ℕ) (i : ℕ) (k : Kind) → k ≡ code_kind (kind_shown (get_or (record_at rows i) 0 0)) → kind_shown (get_or (record_at rows i) 0 0) ≡ paper_kind k
shown rows i k e = kind_is (get_or (record_at rows i) 0 0) ∙ ap paper_kind (sym e)

pub plain_row-requires : goal.plain_row-requires
plain_row-requires c =
    let e = plain_is c.args.text.now c.args.rows.now c.args.i S 31 (shown c.args.rows.now c.args.i _ c.in-Heading.ensures) refl (omega arith) row_fields.0 in
    (c.requires.0, search rules, search rules, c.requires.1, (fits_as (ap print e) (fits c.requires.2)).inside)

pub returns-in-Heading : goal.returns-in-Heading
returns-in-Heading c =
    let e = plain_is c.args.text.now c.args.rows.now c.args.i S 31 (shown c.args.rows.now c.args.i _ c.in-Heading.ensures) refl (omega arith) row_fields.0 in
    wrote_as (ap print e) c.plain_row.ensures

pub plain_row-requires-in-Recipe : goal.plain_row-requires-in-Recipe
plain_row-requires-in-Recipe c =
    let e = plain_is c.args.text.now c.args.rows.now c.args.i R 49 (shown c.args.rows.now c.args.i _ c.in-Recipe.ensures) refl (omega arith) row_fields.1 in
    (c.requires.0, search rules, search rules, c.requires.1, (fits_as (ap print e) (fits c.requires.2)).inside)

pub returns-in-Recipe : goal.returns-in-Recipe
returns-in-Recipe c =
    let e = plain_is c.args.text.now c.args.rows.now c.args.i R 49 (shown c.args.rows.now c.args.i _ c.in-Recipe.ensures) refl (omega arith) row_fields.1 in
    wrote_as (ap print e) c.plain_row-in-Recipe.ensures

pub plain_row-requires-in-Note : goal.plain_row-requires-in-Note
plain_row-requires-in-Note c =
    let e = plain_is c.args.text.now c.args.rows.now c.args.i X 51 (shown c.args.rows.now c.args.i _ c.in-Note.ensures) refl (omega arith) row_fields.2 in
    (c.requires.0, search rules, search rules, c.requires.1, (fits_as (ap print e) (fits c.requires.2)).inside)

pub returns-in-Note : goal.returns-in-Note
returns-in-Note c =
    let e = plain_is c.args.text.now c.args.rows.now c.args.i X 51 (shown c.args.rows.now c.args.i _ c.in-Note.ensures) refl (omega arith) row_fields.2 in
    wrote_as (ap print e) c.plain_row-in-Note.ensures

pub plain_row-requires-in-Unknown : goal.plain_row-requires-in-Unknown
plain_row-requires-in-Unknown c =
    let e = plain_is c.args.text.now c.args.rows.now c.args.i unknown 0 (shown c.args.rows.now c.args.i _ c.in-Unknown.ensures) refl (omega arith) row_fields.4 in
    (c.requires.0, search rules, search rules, c.requires.1, (fits_as (ap print e) (fits c.requires.2)).inside)

pub returns-in-Unknown : goal.returns-in-Unknown
returns-in-Unknown c =
    let e = plain_is c.args.text.now c.args.rows.now c.args.i unknown 0 (shown c.args.rows.now c.args.i _ c.in-Unknown.ensures) refl (omega arith) row_fields.4 in
    wrote_as (ap print e) c.plain_row-in-Unknown.ensures

pub medication_row-requires : goal.medication_row-requires
medication_row-requires c =
    let e = medication_is c.args.text.now c.args.rows.now c.args.i (shown c.args.rows.now c.args.i _ c.in-Medication.ensures) in
    (c.requires.0, c.requires.1, (fits_as (ap print e) (fits c.requires.2)).inside)

pub returns-in-Medication : goal.returns-in-Medication
returns-in-Medication c =
    let e = medication_is c.args.text.now c.args.rows.now c.args.i (shown c.args.rows.now c.args.i _ c.in-Medication.ensures) in
    wrote_as (ap print e) c.medication_row.ensures
