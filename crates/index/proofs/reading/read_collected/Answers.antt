-- The pages are read, and the index of the rows laid out is that of the plan.
use Rattle.std.proofs.Common.{sym, ◌∙◌}
use Rattle.std.proofs.lemmas.Result.{err_from_is_err_and}
use Rattle.collector.specs.Keeping.{collected}
use Rattle.index.proofs.ReadLaws.{too_small, refuses, indexed, collected_asked}
use Rattle.index.proofs.reading.read_collected.Goals as goal

pub returns-then-not-index_fits : goal.returns-then-not-index_fits
returns-then-not-index_fits c = too_small c.args.rows.now c.args.text.now c.args.index.now (collected c.args.rows.now c.args.text.now c.args.c) (sym c.if-not-index_fits.true ∙ c.index_fits.ensures)

pub returns-in_err-plan : goal.returns-in_err-plan
returns-in_err-plan c =
    let p = err_from_is_err_and c.from_residual.result c.from_residual.ensures.1 in
    rw (p.1, p.2)
    (refuses (collected c.args.rows.now c.args.text.now c.args.c) c.in_err-plan.field-0.0 c.args.rows.now c.args.text.now c.args.index.now _ _ (sym c.if-not-index_fits.false ∙ c.index_fits.ensures) c.in_err-plan.ensures)

pub with_index-requires : goal.with_index-requires
with_index-requires c = collected_asked c.args.rows.now c.args.text.now c.args.index.now c.args.c c.in_ok-plan.plan _ _ (sym c.if-not-index_fits.false ∙ c.index_fits.ensures) c.in_ok-plan.ensures

pub returns : goal.returns
returns c =
    indexed (collected c.args.rows.now c.args.text.now c.args.c) c.args.rows.now c.args.text.now c.args.index.now c.in_ok-plan.plan _ _ c.with_index.result _ (sym c.if-not-index_fits.false ∙ c.index_fits.ensures) c.in_ok-plan.ensures
    c.with_index.ensures.0 c.with_index.ensures.1 c.with_index.ensures.2
