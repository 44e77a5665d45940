-- `page::values::number_in` meets its contract.
-- Assumes nothing.
use mathlib.Core.Path.{ap, ◌∙◌}
use Prim.Native.Nat.{◌+◌}
use native.Mathlib.Omega.{arith}
use lib.ListN.{length}
use Rattle.page.proofs.SlotLaws.{number_whole}
use Rattle.page.proofs.values.number_in.Statement.{statement}
use Rattle.page.proofs.values.number_in.Tie as tie
use borrow.Author.Rules.{rules}

mul-value-of : tie.Need-offset_bounds-tape-s
mul-value-of c = search rules

shared-slice-read-value-of : tie.Need-bounds-tape-s
shared-slice-read-value-of c = search rules

cast-value-of : tie.Need-overflow_cast-tape
cast-value-of c = omega (arith, c.shared_slice_known-4-1.given c.before.before.before.before.args.s)

add-value-of : tie.Need-overflow_add-s
add-value-of c = search rules

mul-value-of-2 : tie.Need-offset_bounds-tape-s-2
mul-value-of-2 c = search rules

shared-slice-read-value-of-2 : tie.Need-bounds-tape-s-2
shared-slice-read-value-of-2 c = search rules

cast-value-of-2 : tie.Need-overflow_cast-tape-2
cast-value-of-2 c = omega (arith, c.shared_slice_known-5-1.given (c.before.before.before.before.before.args.s + 1))

value-of-requires : tie.Need-value_of-v-requires
value-of-requires c κs = search rules

shown-requires : tie.Need-shown-requires
shown-requires c κs = omega (arith, ap length c.value_of-v.ensures, c.before.before.before.before.before.before.requires.2)

returns : tie.Need-returns
returns c = c.shown.ensures ∙ number_whole _ _ c.before.value_of-v.ensures

pub number_in_spec : {M : Type 1} → statement M
number_in_spec =
    tie.close
    (tie.spec
    mul-value-of
    shared-slice-read-value-of
    cast-value-of
    add-value-of
    mul-value-of-2
    shared-slice-read-value-of-2
    cast-value-of-2
    value-of-requires
    shown-requires
    returns)
