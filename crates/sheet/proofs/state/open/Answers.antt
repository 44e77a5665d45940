-- Each part of the state behind a start tag.
use Rattle.std.proofs.Common.{◌≡◌, ◌||◌, eqb, sym, ◌∙◌}
use borrow.Author.Tests.{eq-eqb, ne_eqb}
use Rattle.paper.specs.Lists.{if}
use Rattle.paper.specs.Causes.{flaw_number}
use Rattle.paper.specs.Judging.{lower}
use Rattle.sheet.specs.Fold.{given}
use Rattle.sheet.specs.Judged.{fault_of, st_of}
use Rattle.sheet.proofs.StateLaws.{best_none, opened_by}
use Rattle.sheet.proofs.state.open.Goals as goal
use Rattle.sheet.proofs.state.open.Goals.{in-Some, in-None, then-kind-eq-P, else-kind-eq-P, then-kind-eq-A, else-kind-eq-A, then-kind-eq-M, else-kind-eq-M}

pub returns-else-kind-eq-MP : goal.returns-else-kind-eq-MP
returns-else-kind-eq-MP c = (
  λ l e f.
      let p : c.if-kind-eq-P.result ≡ (eqb c.args.kind 2 || c.args.st.person) =
      elim c.if-kind-eq-P.branch [ then-kind-eq-P w ↦ w.result-is ∙ rw (eq-eqb _ 2 w.if-kind-eq-P.true) | else-kind-eq-P w ↦ rw (ne_eqb _ 2 w.if-kind-eq-P.false) w.result-is ]
      in
      let a : c.if-kind-eq-A.result ≡ (eqb c.args.kind 3 || c.args.st.author) =
      elim c.if-kind-eq-A.branch [ then-kind-eq-A w ↦ w.result-is ∙ rw (eq-eqb _ 3 w.if-kind-eq-A.true) | else-kind-eq-A w ↦ rw (ne_eqb _ 3 w.if-kind-eq-A.false) w.result-is ]
      in
      let m : c.if-kind-eq-M.result ≡ if (eqb c.args.kind 6) c.args.place c.args.st.from =
      elim c.if-kind-eq-M.branch [ then-kind-eq-M w ↦ rw (eq-eqb _ 6 w.if-kind-eq-M.true) w.result-is | else-kind-eq-M w ↦ rw (ne_eqb _ 6 w.if-kind-eq-M.false) w.result-is ]
      in
      let b : fault_of c.match-cause.best ≡ lower (fault_of c.args.st.best) (given (flaw_number c.args.cause) c.args.place) =
      elim c.match-cause.branch [ in-Some w ↦ rw (w.best-is, w.in-Some.is) w.least-best.ensures | in-None w ↦ rw (w.best-is, w.in-None.is) (sym (best_none c.args.st.best c.args.place)) ]
      in
      opened_by (st_of c.args.st) c.args.kind c.args.place l _ _ _ _ _ _ _ _ _ c.requires.0 e f c.rank_with.ensures p a c.ws_with.ensures.0 m (rw (ne_eqb _ 1 c.if-kind-eq-MP.false)) b,
  record { known = c.requires.0; few = c.ws_with.ensures.1 },
)
