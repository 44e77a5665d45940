use Rattle.std.proofs.Common.{◌∙◌}
use Rattle.page.proofs.SlotLaws.{same_values}
use Rattle.page.proofs.content.same_language.Goals as goal

pub returns : goal.returns
returns c = c.eq.ensures ∙ same_values _ _ _ _ c.language-l.ensures c.language-m.ensures
