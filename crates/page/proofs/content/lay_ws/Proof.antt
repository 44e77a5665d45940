-- `page::content::lay_ws` meets its contract: the W that are to be laid are those laid and those of the elements that are left.
-- Assumes nothing.
use mathlib.Core.Path.{◌≡◌, ap}
use mathlib.Core.List.{List, ◌∷◌}
use Prim.Native.Nat.{ℕ, ◌+◌, ◌-◌, ◌*◌, ◌≤◌}
use native.Mathlib.Omega.{arith}
use lib.ListN.{length}
use Rattle.paper.specs.Lists.{concat}
use Rattle.page.specs.Laying.{Room}
use Rattle.page.proofs.ContentLaws.{Going, begin, turn, finish, room_left, room_first, reroom, relay, regoing, replaced, going_room}
use Rattle.tape.specs.Tape.{Elem, ws_by, values_at, Lies}
use Rattle.page.proofs.WalkLaws.{Step, step, no_step, lies_same, w_next, w_lie, no_w_lem, ws_none}
use Rattle.page.proofs.content.lay_ws.Statement.{statement}
use Rattle.page.proofs.content.lay_ws.Tie as tie
use borrow.Author.Rules.{rules}

-- the W before f are laid
record Held (w x t : List ℕ) (from j : ℕ) (text₀ text : List ℕ) (n m : ℕ) (numbers₀ numbers : List ℕ) (at b f : ℕ) : Type 0 where
  pub all : List Elem
  pub all_lie : Lies w x (length x) t from j all
  pub rest : List Elem
  pub lies : Lies w x (length x) t f j rest
  pub space : b + 4 * length (ws_by rest) ≤ length numbers₀
  pub going : Going (concat (ws_by all)) (concat (ws_by rest)) text₀ text n m numbers₀ numbers at b

abbrev invariant-loop : tie.invariant-loop-f
invariant-loop page side tape from j text₀ n numbers₀ at f₀ m₀ b₀ text numbers f m b = Held page side tape from j text₀ text n m numbers₀ numbers at b f

abbrev decreases-loop : tie.decreases-loop-f
decreases-loop page side tape from j text₀ n numbers₀ at f₀ m₀ b₀ text numbers f m b = j - f

next : (c : tie.In-loop-f invariant-loop decreases-loop) → Step c.before.before.before.before.before.before.before.args.page.now c.before.before.before.before.before.before.before.args.side.now c.before.before.before.before.before.before.before.args.tape.now c.before.loop-f.f c.before.before.before.before.before.before.before.args.j c.before.loop-f.invariant.rest
next c = step _ _ _ _ _ _ c.before.loop-f.invariant.lies c.loop-f-test.true

-- the room for all
room : (c : tie.At-loop-f invariant-loop decreases-loop) → Room (concat (ws_by c.loop-f.invariant.all)) c.before.before.before.before.before.before.args.text.now c.before.before.before.before.before.before.args.n × (c.before.before.before.before.before.before.args.at + 4 * length (ws_by c.loop-f.invariant.all) ≤ length c.before.before.before.before.before.before.args.numbers.now)
room c = c.before.before.before.before.before.before.requires.1 c.loop-f.invariant.all c.loop-f.invariant.all_lie

-- a W stands next
w-here : (c : tie.Else-tape-f invariant-loop decreases-loop) → ws_by c.before.before.before.loop-f.invariant.rest ≡ values_at c.before.before.before.before.before.before.before.before.before.args.page.now c.before.before.before.before.before.before.before.before.before.args.side.now 2 c.before.before.before.before.before.before.before.before.before.args.tape.now (c.before.before.before.loop-f.f + 3) ∷ ws_by (next c.before.before).rest
w-here c = w_next (next c.before.before) c.if-tape-f.false

loop-holds : tie.Need-loop-f-init invariant-loop decreases-loop
loop-holds c =
    let S = c.before.before.before.before.before in
    let W = S.requires.0 in
    let r = S.requires.1 W.elems W.lies in
    let g = r.0.fits in
    record {
      all = W.elems;
      all_lie = W.lies;
      rest = W.elems;
      lies = W.lies;
      space = r.1;
      going = begin (concat (ws_by W.elems)) S.args.text.now S.args.n S.args.numbers.now S.args.at (omega arith) (omega (arith, r.1));
    }

mul-if1 : tie.Need-offset_bounds-tape-f invariant-loop decreases-loop
mul-if1 c = search rules

shared-slice-read-if1 : tie.Need-bounds-tape-f invariant-loop decreases-loop
shared-slice-read-if1 c = let N = next c.before in omega (arith, N.wide, N.high, c.before.before.before.before.before.before.before.before.requires.0.within)

cast-if1 : tie.Need-overflow_cast-t-17 invariant-loop decreases-loop
cast-if1 c = search rules

same_length : tie.Need-shape_of-text-then-tape-f invariant-loop decreases-loop
same_length c = search rules

same-length-2 : tie.Need-shape_of-numbers-then-tape-f invariant-loop decreases-loop
same-length-2 c = search rules

returns : tie.Need-returns-then-tape-f invariant-loop decreases-loop
returns c =
    let at-loop = c.before.before.before in
    λ es L.
    let v = at-loop.loop-f.invariant in
    let r = room at-loop in
    let g = r.0.fits in
    relay (ap (λ (l : List Elem). concat (ws_by l)) (lies_same _ _ _ _ _ _ v.all es v.all_lie L)) (finish (regoing (ap concat (no_w_lem (next c.before.before) c.if-tape-f.true)) v.going) (omega arith) (omega (arith, r.1)))

add-lay-slots : tie.Need-overflow_add-f invariant-loop decreases-loop
add-lay-slots c = let N = next c.before.before in omega (arith, N.wide, N.high, c.before.before.before.before.before.before.before.before.before.well_formed)

lay-slots-requires : tie.Need-lay_slots-m-requires invariant-loop decreases-loop
lay-slots-requires c κs =
    let at-loop = c.before.before.before.before.before in
    let N = next c.before.before.before.before in
    let v = at-loop.loop-f.invariant in
    let l = w_lie N c.before.before.if-tape-f.false in (
      omega (arith, l.1, N.high, c.before.before.before.before.before.before.before.before.before.before.before.requires.0.within),
      l.0,
      room_first _ (concat (ws_by N.rest)) _ _ (reroom (ap concat (w-here c.before.before)) (room_left v.going (room at-loop).0)),
      omega (arith, v.space, ap length (w-here c.before.before), v.going.numbers_so.long),
    )

add-b : tie.Need-overflow_add-b invariant-loop decreases-loop
add-b c = omega (arith, c.before.before.before.before.before.before.before.before.before.before.loop-f.invariant.space, ap length (w-here c.before.before.before.before.before.before.before), c.before.before.before.before.before.before.before.before.before.before.before.before.before.before.before.before.well_formed)

add-f : tie.Need-overflow_add-f-in-loop-f invariant-loop decreases-loop
add-f c = let N = next c.before.before.before.before.before.before.before.before.before in omega (arith, N.wide, N.high, c.before.before.before.before.before.before.before.before.before.before.before.before.before.before.before.before.well_formed)

mul-f : tie.Need-offset_bounds-tape-f-in-loop-f invariant-loop decreases-loop
mul-f c = search rules

shared-slice-read-f : tie.Need-bounds-tape-f-in-loop-f invariant-loop decreases-loop
shared-slice-read-f c = let N = next c.before.before.before.before.before.before.before.before.before.before in omega (arith, N.wide, N.high, c.before.before.before.before.before.before.before.before.before.before.before.before.before.before.before.before.before.requires.0.within)

cast_f : tie.Need-overflow_cast-f invariant-loop decreases-loop
cast_f c = omega (arith, c.shared_slice_known-in-loop-f-2-1.given (c.before.before.before.before.before.before.before.before.before.before.before.loop-f.f + 2))

loop-less : tie.Need-loop-f-smaller invariant-loop decreases-loop
loop-less c =
    let at-loop-test = c.before.before.before.before.before.before.before.before.before.before in
    let N = next at-loop-test in omega (arith, N.wide, at-loop-test.loop-f-test.true)

loop-again : tie.Need-loop-f-preserved invariant-loop decreases-loop
loop-again c =
    let start = c.before.before.before.before.before.before.before.before in
    let at-loop = start.before.before.before in
    let S = c.before.before.before.before.before.before.before.before.before.before.before.before.before.before.before.before.before in
    let N = next c.before.before.before.before.before.before.before.before.before.before in
    let v = at-loop.loop-f.invariant in
    let us = values_at S.args.page.now S.args.side.now 2 S.args.tape.now (at-loop.loop-f.f + 3) in
    let G = regoing (ap concat (w-here start)) v.going in
    let Q = going_room us (concat (ws_by N.rest)) G (room at-loop).0 in
    record {
      all = v.all;
      all_lie = v.all_lie;
      rest = N.rest;
      lies = N.behind_it;
      space = omega (arith, v.space, ap length (w-here start));
      going = replaced (omega arith) (turn {us = us} G c.before.before.before.before.before.lay_slots-m.ensures Q (omega (arith, v.space, ap length (w-here start))));
    }

same-length-3 : tie.Need-shape_of-text invariant-loop decreases-loop
same-length-3 c = search rules

same-length-4 : tie.Need-shape_of-numbers invariant-loop decreases-loop
same-length-4 c = search rules

returns-2 : tie.Need-returns invariant-loop decreases-loop
returns-2 c = λ es L.
    let v = c.before.loop-f.invariant in
    let r = room c.before in
    let g = r.0.fits in
    relay (ap (λ (l : List Elem). concat (ws_by l)) (lies_same _ _ _ _ _ _ v.all es v.all_lie L)) (finish (regoing (ap concat (ws_none v.rest (no_step _ _ _ _ _ v.rest v.lies c.loop-f-test.false))) v.going) (omega arith) (omega (arith, r.1)))

pub lay_ws_spec : {M : Type 1} → statement M
lay_ws_spec =
    tie.close
    (tie.spec
    invariant-loop
    decreases-loop
    loop-holds
    mul-if1
    shared-slice-read-if1
    cast-if1
    same_length
    same-length-2
    returns
    add-lay-slots
    lay-slots-requires
    add-b
    add-f
    mul-f
    shared-slice-read-f
    cast_f
    loop-less
    loop-again
    same-length-3
    same-length-4
    returns-2)
