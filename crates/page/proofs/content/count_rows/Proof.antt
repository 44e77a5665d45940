-- `page::content::count_rows` meets its contract: the rows are those counted and those of the elements that are left.
-- Assumes nothing.
use mathlib.Core.Path.{◌≡◌, sym, ap, ◌∙◌}
use mathlib.Core.List.{List}
use Prim.Native.Nat.{ℕ, ◌+◌, ◌-◌, ◌≤◌, ◌<◌}
use native.Mathlib.Omega.{arith}
use lib.ListN.{length}
use Rattle.markup.specs.Walk.{tags_at}
use Rattle.sheet.specs.Content.{rows_from}
use Rattle.tape.specs.Tape.{Elem, elems_of, rows_by, Lies}
use Rattle.tape.proofs.TapeLaws.{rows_by_lem}
use Rattle.page.proofs.WalkLaws.{Step, step, no_step, row_next, no_row_next, rows_none}
use Rattle.page.proofs.content.count_rows.Statement.{statement}
use Rattle.page.proofs.content.count_rows.Tie as tie
use borrow.Author.Rules.{rules}

-- the elements from f on are left
record Held (w x t : List ℕ) (j count f : ℕ) : Type 0 where
  pub rest : List Elem
  pub lies : Lies w x (length x) t f j rest
  pub low : count ≤ f
  pub small : count < 65536
  pub so : length (rows_from (tags_at w 0)) ≡ count + length (rows_by rest)

abbrev invariant-loop : tie.invariant-loop-f
invariant-loop page side tape i j count₀ f₀ count f = Held page side tape j count f

abbrev decreases-loop : tie.decreases-loop-f
decreases-loop page side tape i j count₀ f₀ count f = j - f

next : (c : tie.In-loop-f invariant-loop decreases-loop) → Step c.before.before.before.before.before.args.page.now c.before.before.before.before.before.args.side.now c.before.before.before.before.before.args.tape.now c.before.loop-f.f c.before.before.before.before.before.args.j c.before.loop-f.invariant.rest
next c = step _ _ _ _ _ _ c.before.loop-f.invariant.lies c.loop-f-test.true

loop-holds : tie.Need-loop-f-init invariant-loop decreases-loop
loop-holds c =
    let start = c.before.before.before in
    let w = start.args.page.now in let e = ap length (rows_by_lem (tags_at w 0)) in record { rest = elems_of w; lies = start.requires.taped.lies; low = omega arith; small = omega arith; so = omega (arith, e) }

mul-kind : tie.Need-offset_bounds-tape-f invariant-loop decreases-loop
mul-kind c = search rules

shared-slice-read-kind : tie.Need-bounds-tape-f invariant-loop decreases-loop
shared-slice-read-kind c = let N = next c.before in omega (arith, N.wide, N.high, c.before.before.before.before.before.before.requires.taped.within.0)

cast-kind : tie.Need-overflow_cast-kind invariant-loop decreases-loop
cast-kind c = let N = next c.before in omega (arith, N.known)

add-next : tie.Need-overflow_add-next invariant-loop decreases-loop
add-next c = let N = next c.before in omega (arith, N.wide, N.high, c.before.before.before.before.before.before.well_formed)

mul_next : tie.Need-offset_bounds-tape-f-in-loop-f invariant-loop decreases-loop
mul_next c = search rules

shared-slice-read-next : tie.Need-bounds-tape-f-in-loop-f invariant-loop decreases-loop
shared-slice-read-next c = let N = next c.before.before in omega (arith, N.wide, N.high, c.before.before.before.before.before.before.before.requires.taped.within.0)

cast-next : tie.Need-overflow_cast-next invariant-loop decreases-loop
cast-next c = omega (arith, c.shared_slice_known-in-loop-f-2-1.given (c.before.before.before.loop-f.f + 2))

add-gives-row : tie.Need-overflow_add-f invariant-loop decreases-loop
add-gives-row c = let N = next c.before.before in omega (arith, N.wide, N.high, c.before.before.before.before.before.before.before.well_formed)

gives-row-requires : tie.Need-gives_row-requires invariant-loop decreases-loop
gives-row-requires c κs = let N = next c.before.before in (N.known, omega (arith, N.wide, N.high, c.before.before.before.before.before.before.before.requires.taped.within.0), N.lie)

add-count : tie.Need-overflow_add-count invariant-loop decreases-loop
add-count c = omega (arith, c.before.before.before.before.before.loop-f.invariant.small)

loop-less : tie.Need-loop-f-smaller-then-gives_row invariant-loop decreases-loop
loop-less c =
    let at-loop-test = c.before.before.before.before in
    let N = next at-loop-test in omega (arith, N.wide, at-loop-test.loop-f-test.true)

loop-again : tie.Need-loop-f-preserved-then-gives_row invariant-loop decreases-loop
loop-again c =
    let at-loop = c.before.before.before.before.before in
    let N = next c.before.before.before.before in
    let v = at-loop.loop-f.invariant in
    let g = c.before.before.shared_slice_known-in-loop-f-2-1.given (at-loop.loop-f.f + 2) in
    record {
      rest = N.rest;
      lies = N.behind_it;
      low = omega (arith, v.low, N.wide);
      small = omega (arith, v.low, N.wide, g);
      so = omega (arith, v.so, ap length (row_next N (sym c.before.gives_row.ensures ∙ c.if-gives_row.true)));
    }

loop-less-2 : tie.Need-loop-f-smaller invariant-loop decreases-loop
loop-less-2 c =
    let at-loop-test = c.before.before.before.before in
    let N = next at-loop-test in omega (arith, N.wide, at-loop-test.loop-f-test.true)

loop-again-2 : tie.Need-loop-f-preserved invariant-loop decreases-loop
loop-again-2 c =
    let N = next c.before.before.before.before in
    let v = c.before.before.before.before.before.loop-f.invariant in
    record {
      rest = N.rest;
      lies = N.behind_it;
      low = omega (arith, v.low, N.wide);
      small = v.small;
      so = omega (arith, v.so, ap length (no_row_next N (sym c.before.gives_row.ensures ∙ c.if-gives_row.false)));
    }

returns : tie.Need-returns invariant-loop decreases-loop
returns c = let v = c.before.loop-f.invariant in (omega (arith, v.so, ap length (rows_none v.rest (no_step _ _ _ _ _ v.rest v.lies c.loop-f-test.false))), v.small)

pub count_rows_spec : {M : Type 1} → statement M
count_rows_spec =
    tie.close
    (tie.spec
    invariant-loop
    decreases-loop
    loop-holds
    mul-kind
    shared-slice-read-kind
    cast-kind
    add-next
    mul_next
    shared-slice-read-next
    cast-next
    add-gives-row
    gives-row-requires
    add-count
    loop-less
    loop-again
    loop-less-2
    loop-again-2
    returns)
