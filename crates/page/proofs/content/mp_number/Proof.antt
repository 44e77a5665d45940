-- `page::content::mp_number` meets its contract.
-- Assumes nothing.
use mathlib.Core.Path.{ap, ◌∙◌}
use native.Mathlib.Omega.{arith}
use Rattle.paper.specs.Lists.{number}
use Rattle.page.proofs.WalkLaws.{mp_within, mp_value, mp_span, mp_short}
use Rattle.page.proofs.content.mp_number.Statement.{statement}
use Rattle.page.proofs.content.mp_number.Tie as tie

mul-number-in : tie.Need-overflow_mul-k
mul-number-in c = omega (arith, c.before.before.before.requires.2)

add-number-in : tie.Need-overflow_add-mp
add-number-in c =
    let start = c.before.before.before in
    omega (arith, start.requires.2, mp_within start.requires.0, start.well_formed)

number-in-requires : tie.Need-number_in-requires
number-in-requires c κs = let S = c.before.before.before in (omega (arith, mp_within S.requires.0, S.requires.2), mp_span S.requires.0 S.args.k S.requires.2, mp_short S.requires.0 S.requires.1 S.args.k S.requires.2 S.requires.3)

returns : tie.Need-returns
returns c =
    let start = c.before.before.before.before in
    c.number_in.ensures ∙ ap (number 0) (mp_value start.requires.0 start.args.k start.requires.2)

pub mp_number_spec : {M : Type 1} → statement M
mp_number_spec = tie.close (tie.spec mul-number-in add-number-in number-in-requires returns)
