-- `page::content::language` meets its contract.
-- Assumes nothing.
use mathlib.Core.Path.{◌∙◌}
use Prim.Native.Nat.{◌+◌}
use native.Mathlib.Omega.{arith}
use Rattle.page.proofs.WalkLaws.{mp_within, mp_value, mp_span, or_empty, or_value}
use Rattle.page.proofs.content.language.Statement.{statement}
use Rattle.page.proofs.content.language.Tie as tie
use borrow.Author.Rules.{rules}

add-s : tie.Need-overflow_add-s
add-s c =
    let start = c.before.before.before.before in
    omega (arith, mp_within start.requires, start.well_formed)

mul-value-of : tie.Need-offset_bounds-tape-s
mul-value-of c = search rules

shared-slice-read-value-of : tie.Need-bounds-tape-s
shared-slice-read-value-of c = omega (arith, mp_within c.before.before.before.before.before.requires)

cast-value-of : tie.Need-overflow_cast-tape
cast-value-of c = omega (arith, c.shared_slice_known-5-1.given (c.before.before.before.before.before.args.mp + 6))

add-value-of : tie.Need-overflow_add-s-2
add-value-of c =
    let start = c.before.before.before.before.before in
    omega (arith, mp_within start.requires, start.well_formed)

mul-value-of-2 : tie.Need-offset_bounds-tape-s-2
mul-value-of-2 c = search rules

shared-slice-read-value-of-2 : tie.Need-bounds-tape-s-2
shared-slice-read-value-of-2 c = omega (arith, mp_within c.before.before.before.before.before.before.requires)

cast-value-of-2 : tie.Need-overflow_cast-tape-2
cast-value-of-2 c = omega (arith, c.shared_slice_known-6-1.given (c.before.before.before.before.before.before.args.mp + 6 + 1))

value-of-requires : tie.Need-value_of-v-requires
value-of-requires c κs = mp_span c.before.before.before.before.before.before.requires 3 (omega arith)

returns : tie.Need-returns-then-v-eq0
returns c = or_empty _ _ _ (c.before.value_of-v.ensures ∙ mp_value c.before.before.before.before.before.before.before.before.requires 3 (omega arith)) c.if-v-eq0.true

returns-2 : tie.Need-returns
returns-2 c = or_value _ _ _ (c.before.value_of-v.ensures ∙ mp_value c.before.before.before.before.before.before.before.before.requires 3 (omega arith)) c.if-v-eq0.false

pub language_spec : {M : Type 1} → statement M
language_spec =
    tie.close
    (tie.spec
    add-s
    mul-value-of
    shared-slice-read-value-of
    cast-value-of
    add-value-of
    mul-value-of-2
    shared-slice-read-value-of-2
    cast-value-of-2
    value-of-requires
    returns
    returns-2)
