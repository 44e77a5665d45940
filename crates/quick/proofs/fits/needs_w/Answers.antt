-- By p and a of an M.
use mathlib.Core.Path.{sym, ap, ◌∙◌}
use mathlib.Core.Bool.{not}
use native.Mathlib.Omega.{arith}
use borrow.Author.Tests.{ne_eqb, not-true, not-false}
use Rattle.paper.proofs.Small.{no}
use Rattle.quick.proofs.FitLaws.{counts, count_by, needs_none, needs_at}
use Rattle.quick.proofs.fits.needs_w.Goals as goal
use Rattle.quick.proofs.fits.needs_w.Goals.{then-kind-eq-M, else-kind-eq-M}

pub is_there-requires : goal.is_there-requires
is_there-requires c = let n = count_by c.args.kind 6 14 c.if-kind-eq-M.true counts.3 in (omega (arith, c.requires.1, n), c.requires.2)

pub is_there-requires-then-not-is_there : goal.is_there-requires-then-not-is_there
is_there-requires-then-not-is_there c =
    elim c.if-kind-eq-M.branch [
      | then-kind-eq-M v ↦ let n = count_by c.args.kind 6 14 v.if-kind-eq-M.true counts.3 in (omega (arith, c.requires.1, n), c.requires.2)
      | else-kind-eq-M v ↦ no (sym c.if-not-is_there.true ∙ v.value-is ∙ ne_eqb _ 6 v.if-kind-eq-M.false)
    ]

pub returns-then-not-is_there : goal.returns-then-not-is_there
returns-then-not-is_there c = λ w side l H.
    elim c.if-kind-eq-M.branch [
      | then-kind-eq-M v ↦
          ap not c.is_there-then-not-is_there.ensures ∙ needs_at.1 _ v.if-kind-eq-M.true H (sym v.is_there.ensures ∙ not-true _ (sym v.value-is ∙ c.if-not-is_there.true))
      | else-kind-eq-M v ↦ no (sym c.if-not-is_there.true ∙ v.value-is ∙ ne_eqb _ 6 v.if-kind-eq-M.false)
    ]

pub returns-else-not-is_there : goal.returns-else-not-is_there
returns-else-not-is_there c = λ w side l H.
    elim c.if-kind-eq-M.branch [
      | then-kind-eq-M v ↦ c.if-not-is_there.false ∙ needs_at.0 _ v.if-kind-eq-M.true H (sym v.is_there.ensures ∙ not-false _ (sym v.value-is ∙ c.if-not-is_there.false))
      | else-kind-eq-M v ↦ c.if-not-is_there.false ∙ needs_none _ _ c.requires.0 v.if-kind-eq-M.false
    ]
