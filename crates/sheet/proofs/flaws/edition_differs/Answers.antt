-- MP's first field is v; no other element has an edition.
use Rattle.std.proofs.Common.{arith}
use Rattle.sheet.proofs.FlawLaws.{plan_long, no_edition, edition_by}
use Rattle.sheet.proofs.flaws.edition_differs.Goals as goal

pub returns-then-kind-ne-MP : goal.returns-then-kind-ne-MP
returns-then-kind-ne-MP c = no_edition _ _ _ c.requires.1 c.if-kind-ne-MP.true

pub value_len-n-requires : goal.value_len-n-requires
value_len-n-requires c = (c.requires.0, omega (arith, c.requires.2, plan_long _ c.if-kind-ne-MP.false))

pub returns : goal.returns
returns c = edition_by c.args.page.now c.args.raws.now _ c.requires.1 c.if-kind-ne-MP.false _ c.value_len-n.ensures.0 _ c.spells.ensures
