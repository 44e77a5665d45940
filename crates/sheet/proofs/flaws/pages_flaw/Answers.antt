-- Where MP's a and z keep their fields, each is one digit or absent; no other element has such fields.
use Rattle.std.proofs.Common.{arith, ◌∙◌}
use Rattle.sheet.proofs.FlawLaws.{plan_long, no_pages, pages_by}
use Rattle.sheet.proofs.flaws.pages_flaw.Goals as goal

pub returns-then-kind-ne-MP : goal.returns-then-kind-ne-MP
returns-then-kind-ne-MP c = no_pages _ _ _ c.requires.1 c.if-kind-ne-MP.true

pub first_byte-a-requires : goal.first_byte-a-requires
first_byte-a-requires c = (c.requires.0, omega (arith, c.requires.2, plan_long _ c.if-kind-ne-MP.false))

pub first_byte-z-requires : goal.first_byte-z-requires
first_byte-z-requires c = (omega (arith, c.requires.0, c.first_byte-a.auto.scratch), omega (arith, c.requires.2, plan_long _ c.if-kind-ne-MP.false))

pub returns : goal.returns
returns c = c.digits_flaw.ensures ∙ pages_by c.args.page.now c.args.raws.now _ c.requires.1 c.if-kind-ne-MP.false c.requires.3 _ _ c.first_byte-a.ensures c.first_byte-z.ensures
