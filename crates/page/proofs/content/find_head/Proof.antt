-- `page::content::find_head` meets its contract.
-- Assumes nothing.
use native.Mathlib.Omega.{arith}
use Rattle.fields.specs.Places.{kind_at}
use Rattle.page.proofs.content.find_head.Statement.{statement}
use Rattle.page.proofs.content.find_head.Tie as tie

part-requires : tie.Need-part-mp-requires
part-requires c κs = (c.before.before.before.requires, omega arith)

part-requires-2 : tie.Need-part-person-requires
part-requires-2 c κs = (c.before.before.before.before.requires, omega arith)

part-requires-3 : tie.Need-part-author-requires
part-requires-3 c κs = (c.before.before.before.before.before.requires, omega arith)

part-requires-4 : tie.Need-part-measures-requires
part-requires-4 c κs = (c.before.before.before.before.before.before.requires, omega arith)

returns : tie.Need-returns
unfolding kind_at
returns c = record { mp_at = c.before.before.before.part-mp.ensures; person_at = c.before.before.part-person.ensures; author_at = c.before.part-author.ensures; measures_at = c.part-measures.ensures }

pub find_head_spec : {M : Type 1} → statement M
find_head_spec =
    tie.close (tie.spec part-requires part-requires-2 part-requires-3 part-requires-4 returns)
