-- `writer::spelling::lay_medication`: the row is taken apart; the beginning, the package number, the fields around the dose, the dose and the end stand one behind the other.
-- Assumes nothing.
use Rattle.std.proofs.Common.{◌≡◌, List, ℕ, ◌+◌, ◌*◌, ◌++◌, length, get_or, refl, ap, sym, ◌∙◌, arith, rules}
use Rattle.paper.specs.Lists.{bytes}
use Rattle.paper.specs.Writing.{decimal}
use Rattle.plan.specs.Numbers.{record_at, span_place}
use Rattle.plan.specs.Records.{dose_in, paper_dose, row_in}
use Rattle.plan.specs.declared.Dose.{Dose}
use Rattle.plan.specs.declared.Row.{Row}
use Rattle.plan.proofs.Numbered.{spans_inside}
use Rattle.room.proofs.Pieces.{Fits, fits, wrote, wrote_as, going_start, going_fits, going_on}
use Rattle.writer.specs.Tags.{attribute, fields_text, dose_text, dose_within, end_text, medication_text}
use Rattle.writer.proofs.Spelled.{last_fits, last_on}
use Rattle.writer.proofs.Bodied.{dose_inside}
use Rattle.writer.proofs.spelling.lay_medication.Goals as goal

-- the package number and the dose are those of the record
number_told : (rows : List ℕ) (i : ℕ) (r : Row) → r ≡ row_in (record_at rows i) → r.«package» ≡ get_or (record_at rows i) 1 0
unfolding row_in
number_told rows i r e = ap (λ (x : Row). x.«package») e

dose_told : (rows : List ℕ) (i : ℕ) (r : Row) → r ≡ row_in (record_at rows i) → r.dose ≡ dose_in (record_at rows i)
unfolding row_in
dose_told rows i r e = ap (λ (x : Row). x.dose) e

-- a place behind the row's first span
place : (i n : ℕ) → i * 48 + 2 + n ≡ i * 48 + (2 + n)
place i n = omega arith

pub lay-a-requires : goal.lay-a-requires
unfolding medication_text
lay-a-requires c =
    let a = c.args in
    let d : Dose = dose_in (record_at a.rows.now a.i) in
    let z : List ℕ = end_text a.text.now (span_place a.i 13) a.rows.now in
    let h : List ℕ = fields_text 42 5 a.text.now (span_place a.i 8) a.rows.now in
    let m : List ℕ = dose_text (paper_dose a.text.now d) in
    let v : List ℕ = fields_text 34 3 a.text.now (span_place a.i 0) a.rows.now in
    let n : List ℕ = attribute (bytes "p") (decimal (get_or (record_at a.rows.now a.i) 1 0)) in
    let f : Fits a.out.now a.at (bytes "<M" ++ (n ++ (v ++ (m ++ (h ++ z))))) = fits c.requires.3 in
    going_fits (going_start f) (bytes "<M") (n ++ (v ++ (m ++ (h ++ z)))) refl

pub lay_number-b-requires : goal.lay_number-b-requires
unfolding medication_text
lay_number-b-requires c =
    let a = c.args in
    let d : Dose = dose_in (record_at a.rows.now a.i) in
    let z : List ℕ = end_text a.text.now (span_place a.i 13) a.rows.now in
    let h : List ℕ = fields_text 42 5 a.text.now (span_place a.i 8) a.rows.now in
    let m : List ℕ = dose_text (paper_dose a.text.now d) in
    let v : List ℕ = fields_text 34 3 a.text.now (span_place a.i 0) a.rows.now in
    let n : List ℕ = attribute (bytes "p") (decimal (get_or (record_at a.rows.now a.i) 1 0)) in
    let f : Fits a.out.now a.at (bytes "<M" ++ (n ++ (v ++ (m ++ (h ++ z))))) = fits c.requires.3 in
    let t = number_told a.rows.now a.i c.row_at-row.result c.row_at-row.ensures in
    let A = going_on (going_start f) (bytes "<M") (n ++ (v ++ (m ++ (h ++ z)))) refl (wrote c.lay-a.ensures) in
    rw t (going_fits A n (v ++ (m ++ (h ++ z))) refl)

pub lay_fields-c-requires : goal.lay_fields-c-requires
unfolding medication_text
lay_fields-c-requires c =
    let a = c.args in
    let d : Dose = dose_in (record_at a.rows.now a.i) in
    let z : List ℕ = end_text a.text.now (span_place a.i 13) a.rows.now in
    let h : List ℕ = fields_text 42 5 a.text.now (span_place a.i 8) a.rows.now in
    let m : List ℕ = dose_text (paper_dose a.text.now d) in
    let v : List ℕ = fields_text 34 3 a.text.now (span_place a.i 0) a.rows.now in
    let n : List ℕ = attribute (bytes "p") (decimal (get_or (record_at a.rows.now a.i) 1 0)) in
    let f : Fits a.out.now a.at (bytes "<M" ++ (n ++ (v ++ (m ++ (h ++ z))))) = fits c.requires.3 in
    let t = number_told a.rows.now a.i c.row_at-row.result c.row_at-row.ensures in
    let A = going_on (going_start f) (bytes "<M") (n ++ (v ++ (m ++ (h ++ z)))) refl (wrote c.lay-a.ensures) in
    let B = going_on A n (v ++ (m ++ (h ++ z))) refl (wrote_as (ap (λ (k : ℕ). attribute (bytes "p") (decimal k)) (sym t)) c.lay_number-b.ensures) in
    (c.requires.0, search rules, omega (arith, c.requires.1), spans_inside a.text.now a.rows.now a.i 3 0 (omega arith) c.requires.2, going_fits B v (m ++ (h ++ z)) refl)

pub lay_dose-d-requires : goal.lay_dose-d-requires
unfolding medication_text
lay_dose-d-requires c =
    let a = c.args in
    let d : Dose = dose_in (record_at a.rows.now a.i) in
    let z : List ℕ = end_text a.text.now (span_place a.i 13) a.rows.now in
    let h : List ℕ = fields_text 42 5 a.text.now (span_place a.i 8) a.rows.now in
    let m : List ℕ = dose_text (paper_dose a.text.now d) in
    let v : List ℕ = fields_text 34 3 a.text.now (span_place a.i 0) a.rows.now in
    let n : List ℕ = attribute (bytes "p") (decimal (get_or (record_at a.rows.now a.i) 1 0)) in
    let f : Fits a.out.now a.at (bytes "<M" ++ (n ++ (v ++ (m ++ (h ++ z))))) = fits c.requires.3 in
    let t = number_told a.rows.now a.i c.row_at-row.result c.row_at-row.ensures in
    let u = dose_told a.rows.now a.i c.row_at-row.result c.row_at-row.ensures in
    let A = going_on (going_start f) (bytes "<M") (n ++ (v ++ (m ++ (h ++ z)))) refl (wrote c.lay-a.ensures) in
    let B = going_on A n (v ++ (m ++ (h ++ z))) refl (wrote_as (ap (λ (k : ℕ). attribute (bytes "p") (decimal k)) (sym t)) c.lay_number-b.ensures) in
    let C = going_on B v (m ++ (h ++ z)) refl c.lay_fields-c.ensures in
    (c.requires.0, ap (dose_within (length a.text.now)) u ∙ dose_inside a.text.now (record_at a.rows.now a.i) c.requires.2, rw u (going_fits C m (h ++ z) refl))

pub lay_fields-e-requires : goal.lay_fields-e-requires
unfolding medication_text
lay_fields-e-requires c =
    let a = c.args in
    let d : Dose = dose_in (record_at a.rows.now a.i) in
    let z : List ℕ = end_text a.text.now (span_place a.i 13) a.rows.now in
    let h : List ℕ = fields_text 42 5 a.text.now (span_place a.i 8) a.rows.now in
    let m : List ℕ = dose_text (paper_dose a.text.now d) in
    let v : List ℕ = fields_text 34 3 a.text.now (span_place a.i 0) a.rows.now in
    let n : List ℕ = attribute (bytes "p") (decimal (get_or (record_at a.rows.now a.i) 1 0)) in
    let f : Fits a.out.now a.at (bytes "<M" ++ (n ++ (v ++ (m ++ (h ++ z))))) = fits c.requires.3 in
    let t = number_told a.rows.now a.i c.row_at-row.result c.row_at-row.ensures in
    let u = dose_told a.rows.now a.i c.row_at-row.result c.row_at-row.ensures in
    let A = going_on (going_start f) (bytes "<M") (n ++ (v ++ (m ++ (h ++ z)))) refl (wrote c.lay-a.ensures) in
    let B = going_on A n (v ++ (m ++ (h ++ z))) refl (wrote_as (ap (λ (k : ℕ). attribute (bytes "p") (decimal k)) (sym t)) c.lay_number-b.ensures) in
    let C = going_on B v (m ++ (h ++ z)) refl c.lay_fields-c.ensures in
    let D = going_on C m (h ++ z) refl (wrote_as (ap (λ (x : Dose). dose_text (paper_dose a.text.now x)) (sym u)) c.lay_dose-d.ensures) in
    rw (place a.i 16) (c.requires.0, search rules, omega (arith, c.requires.1), spans_inside a.text.now a.rows.now a.i 5 8 (omega arith) c.requires.2, going_fits D h z refl)

pub lay_end-requires : goal.lay_end-requires
unfolding medication_text
lay_end-requires c =
    let a = c.args in
    let d : Dose = dose_in (record_at a.rows.now a.i) in
    let z : List ℕ = end_text a.text.now (span_place a.i 13) a.rows.now in
    let h : List ℕ = fields_text 42 5 a.text.now (span_place a.i 8) a.rows.now in
    let m : List ℕ = dose_text (paper_dose a.text.now d) in
    let v : List ℕ = fields_text 34 3 a.text.now (span_place a.i 0) a.rows.now in
    let n : List ℕ = attribute (bytes "p") (decimal (get_or (record_at a.rows.now a.i) 1 0)) in
    let f : Fits a.out.now a.at (bytes "<M" ++ (n ++ (v ++ (m ++ (h ++ z))))) = fits c.requires.3 in
    let t = number_told a.rows.now a.i c.row_at-row.result c.row_at-row.ensures in
    let u = dose_told a.rows.now a.i c.row_at-row.result c.row_at-row.ensures in
    let A = going_on (going_start f) (bytes "<M") (n ++ (v ++ (m ++ (h ++ z)))) refl (wrote c.lay-a.ensures) in
    let B = going_on A n (v ++ (m ++ (h ++ z))) refl (wrote_as (ap (λ (k : ℕ). attribute (bytes "p") (decimal k)) (sym t)) c.lay_number-b.ensures) in
    let C = going_on B v (m ++ (h ++ z)) refl c.lay_fields-c.ensures in
    let D = going_on C m (h ++ z) refl (wrote_as (ap (λ (x : Dose). dose_text (paper_dose a.text.now x)) (sym u)) c.lay_dose-d.ensures) in
    let E = going_on D h z refl (wrote_as (ap (λ (k : ℕ). fields_text 42 5 a.text.now k a.rows.now) (sym (place a.i 16))) c.lay_fields-e.ensures) in
    rw (place a.i 26) (c.requires.0, omega (arith, c.requires.1), spans_inside a.text.now a.rows.now a.i 6 13 (omega arith) c.requires.2, last_fits E)

pub returns : goal.returns
unfolding medication_text
returns c =
    let a = c.args in
    let d : Dose = dose_in (record_at a.rows.now a.i) in
    let z : List ℕ = end_text a.text.now (span_place a.i 13) a.rows.now in
    let h : List ℕ = fields_text 42 5 a.text.now (span_place a.i 8) a.rows.now in
    let m : List ℕ = dose_text (paper_dose a.text.now d) in
    let v : List ℕ = fields_text 34 3 a.text.now (span_place a.i 0) a.rows.now in
    let n : List ℕ = attribute (bytes "p") (decimal (get_or (record_at a.rows.now a.i) 1 0)) in
    let f : Fits a.out.now a.at (bytes "<M" ++ (n ++ (v ++ (m ++ (h ++ z))))) = fits c.requires.3 in
    let t = number_told a.rows.now a.i c.row_at-row.result c.row_at-row.ensures in
    let u = dose_told a.rows.now a.i c.row_at-row.result c.row_at-row.ensures in
    let A = going_on (going_start f) (bytes "<M") (n ++ (v ++ (m ++ (h ++ z)))) refl (wrote c.lay-a.ensures) in
    let B = going_on A n (v ++ (m ++ (h ++ z))) refl (wrote_as (ap (λ (k : ℕ). attribute (bytes "p") (decimal k)) (sym t)) c.lay_number-b.ensures) in
    let C = going_on B v (m ++ (h ++ z)) refl c.lay_fields-c.ensures in
    let D = going_on C m (h ++ z) refl (wrote_as (ap (λ (x : Dose). dose_text (paper_dose a.text.now x)) (sym u)) c.lay_dose-d.ensures) in
    let E = going_on D h z refl (wrote_as (ap (λ (k : ℕ). fields_text 42 5 a.text.now k a.rows.now) (sym (place a.i 16))) c.lay_fields-e.ensures) in
    last_on E f (wrote_as (ap (λ (k : ℕ). end_text a.text.now k a.rows.now) (sym (place a.i 26))) c.lay_end.ensures)
