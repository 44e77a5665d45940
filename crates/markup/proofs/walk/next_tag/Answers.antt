-- The next `<` begins the next tag.
use Rattle.std.proofs.Common.{◌∙◌, arith}
use Rattle.markup.proofs.WalkLaws.{no_tag, tag_at, ending, starting}
use Rattle.markup.proofs.walk.next_tag.Goals as goal

pub returns-then-at-page : goal.returns-then-at-page
returns-then-at-page c = (no_tag _ _ _ c.run-at.ensures.0 c.if-at-page.true, tt)

pub returns-then-byte_or-eq47 : goal.returns-then-byte_or-eq47
returns-then-byte_or-eq47 c = (
  tag_at c.args.page.now c.args.at _ c.run-at.ensures.0 (omega arith)
      ∙ ending c.args.page.now c.run-at.result _ _ c.byte_or.ensures c.if-byte_or-eq47.true,
  (c.run-at.ensures.1, omega arith),
)

pub returns : goal.returns
returns c = (
  tag_at c.args.page.now c.args.at _ c.run-at.ensures.0 (omega arith)
      ∙ starting c.args.page.now c.run-at.result _ _ _ c.byte_or.ensures c.if-byte_or-eq47.false c.run-name_end.ensures.0,
  (c.run-at.ensures.1, omega arith, c.run-name_end.ensures.2 (omega arith)),
)
