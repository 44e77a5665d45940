-- `page::content::part` meets its contract: the first element of the kind is the first of those that are left.
-- Assumes nothing.
use mathlib.Core.Path.{◌≡◌, refl}
use mathlib.Core.List.{List}
use Prim.Native.Nat.{ℕ, ◌+◌, ◌-◌}
use native.Mathlib.Omega.{arith}
use lib.ListN.{length}
use Rattle.fields.specs.Places.{kind_at}
use Rattle.tape.specs.Tape.{Elem, elems_of, part_by, Lies}
use Rattle.page.proofs.WalkLaws.{Step, step, no_step, part_none, part_here, part_past}
use Rattle.page.proofs.content.part.Statement.{statement}
use Rattle.page.proofs.content.part.Tie as tie
use borrow.Author.Rules.{rules}

-- the elements from f on are left
record Held (w x t : List ℕ) (j k f : ℕ) : Type 0 where
  pub rest : List Elem
  pub lies : Lies w x (length x) t f j rest
  pub so : part_by (kind_at k) (elems_of w) ≡ part_by (kind_at k) rest

abbrev invariant-loop : tie.invariant-loop-f
invariant-loop page side tape i j kind f₀ f = Held page side tape j kind f

abbrev decreases-loop : tie.decreases-loop-f
decreases-loop page side tape i j kind f₀ f = j - f

next : (c : tie.In-loop-f invariant-loop decreases-loop) → Step c.before.before.args.page.now c.before.before.args.side.now c.before.before.args.tape.now c.before.loop-f.f c.before.before.args.j c.before.loop-f.invariant.rest
next c = step _ _ _ _ _ _ c.before.loop-f.invariant.lies c.loop-f-test.true

loop-holds : tie.Need-loop-f-init invariant-loop decreases-loop
loop-holds c = record { rest = elems_of c.args.page.now; lies = c.requires.0.taped.lies; so = refl }

mul-if1 : tie.Need-offset_bounds-tape-f invariant-loop decreases-loop
mul-if1 c = search rules

shared-slice-read-if1 : tie.Need-bounds-tape-f invariant-loop decreases-loop
shared-slice-read-if1 c = let N = next c.before in omega (arith, N.wide, N.high, c.before.before.before.requires.0.taped.within.0)

add-result : tie.Need-overflow_add-result invariant-loop decreases-loop
add-result c = let N = next c.before.before in omega (arith, N.wide, N.high, c.before.before.before.before.well_formed)

returns : tie.Need-returns-then-tape-f invariant-loop decreases-loop
returns c =
    let start = c.before.before.before.before in
    part_here start.requires.0 start.args.kind start.requires.1 (next c.before.before) c.before.before.before.loop-f.invariant.so c.if-tape-f.true start.requires.0.taped.within.0

add-f : tie.Need-overflow_add-f invariant-loop decreases-loop
add-f c = let N = next c.before.before in omega (arith, N.wide, N.high, c.before.before.before.before.well_formed)

mul-f : tie.Need-offset_bounds-tape-f-in-loop-f invariant-loop decreases-loop
mul-f c = search rules

shared-slice-read-f : tie.Need-bounds-tape-f-in-loop-f invariant-loop decreases-loop
shared-slice-read-f c = let N = next c.before.before.before in omega (arith, N.wide, N.high, c.before.before.before.before.before.requires.0.taped.within.0)

cast_f : tie.Need-overflow_cast-f invariant-loop decreases-loop
cast_f c = omega (arith, c.shared_slice_known-in-loop-f-1.given (c.before.before.before.before.loop-f.f + 2))

loop-less : tie.Need-loop-f-smaller invariant-loop decreases-loop
loop-less c =
    let at-loop-test = c.before.before.before in
    let N = next at-loop-test in omega (arith, N.wide, at-loop-test.loop-f-test.true)

loop-again : tie.Need-loop-f-preserved invariant-loop decreases-loop
loop-again c =
    let start = c.before.before.before.before.before in
    let N = next c.before.before.before in record { rest = N.rest; lies = N.behind_it; so = part_past start.requires.0 start.args.kind start.requires.1 N c.before.before.before.before.loop-f.invariant.so c.before.if-tape-f.false }

returns-2 : tie.Need-returns invariant-loop decreases-loop
returns-2 c = part_none c.before.before.requires.0 c.before.before.args.kind c.before.before.requires.1 _ c.before.loop-f.invariant.so (no_step _ _ _ _ _ _ c.before.loop-f.invariant.lies c.loop-f-test.false)

pub part_spec : {M : Type 1} → statement M
part_spec =
    tie.close
    (tie.spec
    invariant-loop
    decreases-loop
    loop-holds
    mul-if1
    shared-slice-read-if1
    add-result
    returns
    add-f
    mul-f
    shared-slice-read-f
    cast_f
    loop-less
    loop-again
    returns-2)
