-- The part of the page is the word.
use mathlib.Core.Path.{sym, ◌∙◌}
use Rattle.paper.proofs.Small.{same_eq}
use Rattle.quoted.proofs.raw.reads.Goals as goal

pub returns-then-to-page : goal.returns-then-to-page
returns-then-to-page c = λ e. (c.if-to-page.true, same_eq _ _ (sym c.spells.ensures ∙ e))
