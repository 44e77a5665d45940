-- An absent value has none, any other stands in the page or in the side room.
use Rattle.quick.proofs.FitLaws.{none_first, page_first, side_first}
use Rattle.quick.proofs.fits.first_byte.Goals as goal

pub returns-then-a-b : goal.returns-then-a-b
returns-then-a-b c = none_first c.args.page.now c.args.side.now _ _ c.requires.2 c.if-a-b.true

pub returns-then-a-lt-ASIDE : goal.returns-then-a-lt-ASIDE
returns-then-a-lt-ASIDE c = (page_first c.args.page.now c.args.side.now _ _ c.requires.2 c.if-a-b.false c.if-a-lt-ASIDE.true).1

pub returns-else-a-lt-ASIDE : goal.returns-else-a-lt-ASIDE
returns-else-a-lt-ASIDE c = (side_first c.args.page.now c.args.side.now _ _ c.requires.2 c.if-a-lt-ASIDE.false).1
