-- Where no excluded pair stands in the tag, element by element.
use mathlib.Core.Path.{◌≡◌, sym, ◌∙◌, subst}
use mathlib.Core.Bool.{false}
use native.Mathlib.Omega.{arith}
use lib.ListN.{length}
use Rattle.fields.specs.Places.{kind_at}
use Rattle.sheet.specs.Flaws.{clash_at}
use Rattle.tape.specs.Tape.{Spans}
use Rattle.sheet.proofs.FoundLaws.{count_is}
use Rattle.quick.proofs.FitLaws.{counts, count_by, fits_at, fits_numbered, fits_p, one_field, fits_last, fits_rest}
use Rattle.quick.proofs.fits.tag_fits.Goals as goal

pub clashes-requires : goal.clashes-requires
clashes-requires c = (c.requires.0, omega (arith, c.requires.1, count_is (kind_at c.args.kind)))

pub plan_fits-requires : goal.plan_fits-requires
plan_fits-requires c =
    let n = count_by c.args.kind 1 6 c.in-1.is counts.0 in
    (omega (arith, c.requires.1, n), c.requires.2, subst (λ x. Spans c.args.page.now (length c.args.side.now) x c.args.tape.now c.args.base) n c.requires.3)

pub person_fits-requires : goal.person_fits-requires
person_fits-requires c = let n = count_by c.args.kind 2 8 c.in-2.is counts.1 in (omega (arith, c.requires.1, n), c.requires.2)

pub author_fits-requires : goal.author_fits-requires
author_fits-requires c = let n = count_by c.args.kind 3 10 c.in-3.is counts.2 in (omega (arith, c.requires.1, n), c.requires.2)

pub is_there-requires : goal.is_there-requires
is_there-requires c = (omega (arith, c.requires.1, one_field c.args.kind (omega arith) c.requires.0), c.requires.2)

pub returns-in-1 : goal.returns-in-1
returns-in-1 c = λ e. fits_at _ 1 c.in-1.is (fits_numbered.0 (c.plan_fits.ensures e))

pub returns-in-2 : goal.returns-in-2
returns-in-2 c = λ e. fits_at _ 2 c.in-2.is (fits_numbered.1 (fits_p (sym c.person_fits.ensures ∙ e)))

pub returns-in-3 : goal.returns-in-3
returns-in-3 c = λ e. let a = c.args in
    fits_at _ 3 c.in-3.is (fits_numbered.2 (subst (λ x. clash_at (kind_at x) a.tape.now a.base ≡ false) c.in-3.is (sym c.clashes.ensures ∙ c.if-clashes.false)) (sym c.author_fits.ensures ∙ e))

pub returns-in-7 : goal.returns-in-7
returns-in-7 c = λ e. fits_last _ (omega arith) c.requires.0 (sym c.is_there.ensures ∙ e)

pub returns-in_default : goal.returns-in_default
returns-in_default c = λ e. fits_rest _ (sym c.clashes.ensures ∙ c.if-clashes.false) (λ z. omega (arith, z)) (λ z. omega (arith, z)) (λ z. omega (arith, z)) (omega arith)
