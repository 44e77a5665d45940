-- Each run ends where the definition's does.
use Rattle.std.proofs.Common.{◌∙◌, arith}
use Rattle.markup.proofs.WalkLaws.{no_name, field, cut_off}
use Rattle.markup.proofs.walk.next_attr.Goals as goal

pub returns-then-name_end-name_at : goal.returns-then-name_end-name_at
returns-then-name_end-name_at c =
    (no_name c.args.page.now c.args.at _ _ c.run-name_at.ensures.0 c.run-name_end.ensures.0 c.if-name_end-name_at.true ∙ rw c.byte_or.ensures, tt)

pub returns-then-raw_end-page : goal.returns-then-raw_end-page
returns-then-raw_end-page c = (
  field c.args.page.now c.args.at _ _ c.run-name_at.ensures.0 c.run-name_end.ensures.0 _ _ _ c.run-q.ensures.0 c.byte_or-2.ensures
      (rw c.within.ensures at c.run-raw_end.ensures.0) c.if-name_end-name_at.false c.if-raw_end-page.true,
  (omega arith, omega arith, omega arith, omega arith, omega arith),
)

pub returns-else-raw_end-page : goal.returns-else-raw_end-page
returns-else-raw_end-page c = (
  cut_off c.args.page.now c.args.at _ _ c.run-name_at.ensures.0 c.run-name_end.ensures.0 _ _ _ c.run-q.ensures.0 c.byte_or-2.ensures
      (rw c.within.ensures at c.run-raw_end.ensures.0) c.if-name_end-name_at.false c.if-raw_end-page.false,
  tt,
)
