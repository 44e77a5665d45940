-- `writer::spelling::lay_dose`: the times that are present one behind the other, or the free text, or nothing.
-- Assumes nothing.
use Rattle.std.proofs.Common.{◌≡◌, List, ℕ, ◌++◌, length, get_or, refl, ap, sym, ◌∙◌, arith}
use Rattle.paper.specs.Lists.{bytes}
use Rattle.paper.specs.Layout.{shown}
use Rattle.fields.specs.Places.{name_of}
use Rattle.plan.specs.Numbers.{paper_span}
use Rattle.plan.specs.Records.{paper_dose}
use Rattle.plan.specs.declared.Span.{Span}
use Rattle.plan.specs.declared.Dose.{Dose}
use Rattle.room.specs.Written.{Wrote}
use Rattle.room.proofs.Pieces.{Fits, fits, fits_as, wrote_as, going_start, going_fits, going_on}
use Rattle.writer.specs.Tags.{attribute, dose_text, dose_within}
use Rattle.writer.proofs.Spelled.{keys_long, last_fits, last_on}
use Rattle.writer.proofs.Bodied.{dose_names, times_inside}
use Rattle.writer.proofs.spelling.lay_dose.Goals as goal

-- a span's attribute under a name
abbrev part : List ℕ → List ℕ → Span → List ℕ
part t n s = attribute n (shown t (paper_span s))

-- the name in the place of the key
as_named : {o o' : List ℕ} {a r : ℕ} (k : ℕ) (n v : List ℕ) → name_of k ≡ n → Wrote o o' a r (attribute (name_of k) v) → Wrote o o' a r (attribute n v)
as_named k n v e w = wrote_as (ap (λ (m : List ℕ). attribute m v) (sym e)) w

pub bounds-keys-37 : goal.bounds-keys-37
bounds-keys-37 c = omega (arith, keys_long c.args.keys.now c.requires.0)

pub lay_field-a-requires : goal.lay_field-a-requires
lay_field-a-requires c =
    let a = c.args in
    let x = c.in-Scheme.x in
    let N = dose_names a.keys.now c.requires.0 in
    let m : List ℕ = part a.text.now (bytes "m") x.morning in
    let d : List ℕ = part a.text.now (bytes "d") x.midday in
    let v : List ℕ = part a.text.now (bytes "v") x.evening in
    let h : List ℕ = part a.text.now (bytes "h") x.night in
    let e = ap (λ (y : Dose). dose_text (paper_dose a.text.now y)) c.in-Scheme.is in
    let f : Fits a.out.now a.at (m ++ (d ++ (v ++ h))) = fits_as e (fits c.requires.2) in
    let w = times_inside (length a.text.now) x (ap (dose_within (length a.text.now)) (sym c.in-Scheme.is) ∙ c.requires.1) in
    (w.0, rw N.0 (going_fits (going_start f) m (d ++ (v ++ h)) refl))

pub bounds-keys-38 : goal.bounds-keys-38
bounds-keys-38 c = omega (arith, keys_long c.args.keys.now c.requires.0)

pub lay_field-b-requires : goal.lay_field-b-requires
lay_field-b-requires c =
    let a = c.args in
    let x = c.in-Scheme.x in
    let N = dose_names a.keys.now c.requires.0 in
    let m : List ℕ = part a.text.now (bytes "m") x.morning in
    let d : List ℕ = part a.text.now (bytes "d") x.midday in
    let v : List ℕ = part a.text.now (bytes "v") x.evening in
    let h : List ℕ = part a.text.now (bytes "h") x.night in
    let e = ap (λ (y : Dose). dose_text (paper_dose a.text.now y)) c.in-Scheme.is in
    let f : Fits a.out.now a.at (m ++ (d ++ (v ++ h))) = fits_as e (fits c.requires.2) in
    let w = times_inside (length a.text.now) x (ap (dose_within (length a.text.now)) (sym c.in-Scheme.is) ∙ c.requires.1) in
    let A = going_on (going_start f) m (d ++ (v ++ h)) refl (as_named (get_or a.keys.now 37 0) (bytes "m") (shown a.text.now (paper_span x.morning)) N.0 c.lay_field-a.ensures) in
    (w.1, rw N.1 (going_fits A d (v ++ h) refl))

pub bounds-keys-39 : goal.bounds-keys-39
bounds-keys-39 c = omega (arith, keys_long c.args.keys.now c.requires.0)

pub lay_field-c-requires : goal.lay_field-c-requires
lay_field-c-requires c =
    let a = c.args in
    let x = c.in-Scheme.x in
    let N = dose_names a.keys.now c.requires.0 in
    let m : List ℕ = part a.text.now (bytes "m") x.morning in
    let d : List ℕ = part a.text.now (bytes "d") x.midday in
    let v : List ℕ = part a.text.now (bytes "v") x.evening in
    let h : List ℕ = part a.text.now (bytes "h") x.night in
    let e = ap (λ (y : Dose). dose_text (paper_dose a.text.now y)) c.in-Scheme.is in
    let f : Fits a.out.now a.at (m ++ (d ++ (v ++ h))) = fits_as e (fits c.requires.2) in
    let w = times_inside (length a.text.now) x (ap (dose_within (length a.text.now)) (sym c.in-Scheme.is) ∙ c.requires.1) in
    let A = going_on (going_start f) m (d ++ (v ++ h)) refl (as_named (get_or a.keys.now 37 0) (bytes "m") (shown a.text.now (paper_span x.morning)) N.0 c.lay_field-a.ensures) in
    let B = going_on A d (v ++ h) refl (as_named (get_or a.keys.now 38 0) (bytes "d") (shown a.text.now (paper_span x.midday)) N.1 c.lay_field-b.ensures) in
    (w.2, rw N.2 (going_fits B v h refl))

pub bounds-keys-40 : goal.bounds-keys-40
bounds-keys-40 c = omega (arith, keys_long c.args.keys.now c.requires.0)

pub lay_field-requires : goal.lay_field-requires
lay_field-requires c =
    let a = c.args in
    let x = c.in-Scheme.x in
    let N = dose_names a.keys.now c.requires.0 in
    let m : List ℕ = part a.text.now (bytes "m") x.morning in
    let d : List ℕ = part a.text.now (bytes "d") x.midday in
    let v : List ℕ = part a.text.now (bytes "v") x.evening in
    let h : List ℕ = part a.text.now (bytes "h") x.night in
    let e = ap (λ (y : Dose). dose_text (paper_dose a.text.now y)) c.in-Scheme.is in
    let f : Fits a.out.now a.at (m ++ (d ++ (v ++ h))) = fits_as e (fits c.requires.2) in
    let w = times_inside (length a.text.now) x (ap (dose_within (length a.text.now)) (sym c.in-Scheme.is) ∙ c.requires.1) in
    let A = going_on (going_start f) m (d ++ (v ++ h)) refl (as_named (get_or a.keys.now 37 0) (bytes "m") (shown a.text.now (paper_span x.morning)) N.0 c.lay_field-a.ensures) in
    let B = going_on A d (v ++ h) refl (as_named (get_or a.keys.now 38 0) (bytes "d") (shown a.text.now (paper_span x.midday)) N.1 c.lay_field-b.ensures) in
    let C = going_on B v h refl (as_named (get_or a.keys.now 39 0) (bytes "v") (shown a.text.now (paper_span x.evening)) N.2 c.lay_field-c.ensures) in
    (w.3, rw N.3 (last_fits C))

pub returns-in-Scheme : goal.returns-in-Scheme
returns-in-Scheme c =
    let a = c.args in
    let x = c.in-Scheme.x in
    let N = dose_names a.keys.now c.requires.0 in
    let m : List ℕ = part a.text.now (bytes "m") x.morning in
    let d : List ℕ = part a.text.now (bytes "d") x.midday in
    let v : List ℕ = part a.text.now (bytes "v") x.evening in
    let h : List ℕ = part a.text.now (bytes "h") x.night in
    let e = ap (λ (y : Dose). dose_text (paper_dose a.text.now y)) c.in-Scheme.is in
    let f : Fits a.out.now a.at (m ++ (d ++ (v ++ h))) = fits_as e (fits c.requires.2) in
    let w = times_inside (length a.text.now) x (ap (dose_within (length a.text.now)) (sym c.in-Scheme.is) ∙ c.requires.1) in
    let A = going_on (going_start f) m (d ++ (v ++ h)) refl (as_named (get_or a.keys.now 37 0) (bytes "m") (shown a.text.now (paper_span x.morning)) N.0 c.lay_field-a.ensures) in
    let B = going_on A d (v ++ h) refl (as_named (get_or a.keys.now 38 0) (bytes "d") (shown a.text.now (paper_span x.midday)) N.1 c.lay_field-b.ensures) in
    let C = going_on B v h refl (as_named (get_or a.keys.now 39 0) (bytes "v") (shown a.text.now (paper_span x.evening)) N.2 c.lay_field-c.ensures) in
    wrote_as e (last_on C f (as_named (get_or a.keys.now 40 0) (bytes "h") (shown a.text.now (paper_span x.night)) N.3 c.lay_field.ensures))

pub bounds-keys-41 : goal.bounds-keys-41
bounds-keys-41 c = omega (arith, keys_long c.args.keys.now c.requires.0)

pub lay_field-requires-in-Free : goal.lay_field-requires-in-Free
lay_field-requires-in-Free c =
    let a = c.args in
    let f : Fits a.out.now a.at (part a.text.now (bytes "t") c.in-Free.s) = fits_as (ap (λ (y : Dose). dose_text (paper_dose a.text.now y)) c.in-Free.is) (fits c.requires.2) in
    (ap (dose_within (length a.text.now)) (sym c.in-Free.is) ∙ c.requires.1, rw (dose_names a.keys.now c.requires.0).4 f.inside)

pub returns-in-Free : goal.returns-in-Free
returns-in-Free c =
    let a = c.args in
    wrote_as (ap (λ (y : Dose). dose_text (paper_dose a.text.now y)) c.in-Free.is) (as_named (get_or a.keys.now 41 0) (bytes "t") (shown a.text.now (paper_span c.in-Free.s)) (dose_names a.keys.now c.requires.0).4 c.lay_field-in-Free.ensures)
