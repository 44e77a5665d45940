-- `page::content::fill_rows` meets its contract: the rows that are to be laid are those laid and those of the elements that are left.
-- Assumes nothing.
use mathlib.Core.Path.{sym, ap, ◌∙◌, subst}
use mathlib.Core.List.{List, [], ◌∷◌}
use Prim.Native.Nat.{ℕ, ◌+◌, ◌-◌, ◌≤◌}
use native.Mathlib.Omega.{arith}
use lib.ListN.{length, get_or}
use Rattle.paper.specs.Fields.{M}
use Rattle.paper.specs.Plan.{Row}
use Rattle.paper.specs.Layout.{row_values}
use Rattle.markup.specs.Walk.{tags_at}
use Rattle.fields.specs.Places.{kind_at}
use Rattle.sheet.specs.Content.{rows_from}
use Rattle.page.specs.Laying.{Room, row_from}
use Rattle.page.proofs.RowLaws.{plain_ws, Filling, begin_rows, refill, row_room, row_space, row_turn, finish_rows}
use Rattle.tape.specs.Tape.{Elem, elems_of, ws_by, rows_by, values_at, Lies}
use Rattle.tape.proofs.TapeLaws.{rows_by_lem}
use Rattle.page.specs.Walking.{FitBy}
use Rattle.page.proofs.WalkLaws.{Step, step, no_step, fit_by, page_fits, lies_same, row_next, no_row_next, rows_none, fit_next, Medication, medication_next, here}
use Rattle.page.proofs.content.fill_rows.Statement.{statement}
use Rattle.page.proofs.content.fill_rows.Tie as tie
use borrow.Author.Rules.{rules}

-- the rows before f are laid
record Held (w x t : List ℕ) (j : ℕ) (text₀ text : List ℕ) (n m : ℕ) (rows₀ rows : List ℕ) (r k f : ℕ) : Type 0 where
  pub rest : List Elem
  pub lies : Lies w x (length x) t f j rest
  pub fit : FitBy rest
  pub filling : Filling (rows_from (tags_at w 0)) (rows_by rest) text₀ text n m rows₀ rows r k

abbrev invariant-loop : tie.invariant-loop-f
invariant-loop page side tape i j rows₀ text₀ n r m₀ k₀ f₀ rows text m k f = Held page side tape j text₀ text n m rows₀ rows r k f

abbrev decreases-loop : tie.decreases-loop-f
decreases-loop page side tape i j rows₀ text₀ n r m₀ k₀ f₀ rows text m k f = j - f

next : (c : tie.In-loop-f invariant-loop decreases-loop) → Step c.before.before.before.before.before.before.before.args.page.now c.before.before.before.before.before.before.before.args.side.now c.before.before.before.before.before.before.before.args.tape.now c.before.loop-f.f c.before.before.before.before.before.before.before.args.j c.before.loop-f.invariant.rest
next c = step _ _ _ _ _ _ c.before.loop-f.invariant.lies c.loop-f-test.true

-- the rows that are laid, where those are left
abbrev Left : tie.At-loop-f invariant-loop decreases-loop → List Row → Type 0
Left c rest = let a = c.before.before.before.before.before.before.args in let l = c.loop-f in Filling (rows_from (tags_at a.page.now 0)) rest a.text.now l.text a.n l.m a.rows.now l.rows a.r l.k

-- a medication stands next
med : (c : tie.Then-kind-eq-M invariant-loop decreases-loop) → Medication c.before.before.before.before.before.before.before.before.before.before.args.page.now c.before.before.before.before.before.before.before.before.before.before.args.side.now c.before.before.before.before.before.before.before.before.before.before.args.tape.now c.before.before.before.before.loop-f.f c.before.before.before.before.before.before.before.before.before.before.args.j c.before.before.before.before.loop-f.invariant.rest (next c.before.before.before).rest
med c = medication_next (next c.before.before.before) c.before.before.before.before.loop-f.invariant.fit c.if-kind-eq-M.true

med-filling : (c : tie.Then-kind-eq-M invariant-loop decreases-loop) → Left c.before.before.before.before (row_from M (values_at c.before.before.before.before.before.before.before.before.before.before.args.page.now c.before.before.before.before.before.before.before.before.before.before.args.side.now 14 c.before.before.before.before.before.before.before.before.before.before.args.tape.now (c.before.before.before.before.loop-f.f + 3)) (ws_by (next c.before.before.before).rest) ∷ rows_by (next c.before.before.before).rest)
med-filling c = refill (med c).row_is c.before.before.before.before.loop-f.invariant.filling

-- another row stands next
plain-filling : (c : tie.Then-gives_row invariant-loop decreases-loop) → Left c.before.before.before.before.before.before (row_from (kind_at (get_or c.before.before.before.before.before.before.before.before.before.before.before.before.args.tape.now c.before.before.before.before.before.before.loop-f.f 0)) (here (next c.before.before.before.before.before)) [] ∷ rows_by (next c.before.before.before.before.before).rest)
plain-filling c =
    let N = next c.before.before.before.before.before in
    refill (row_next N (sym c.before.gives_row.ensures ∙ c.if-gives_row.true)
    ∙ ap (λ (r : Row). r ∷ rows_by N.rest) (plain_ws (get_or c.before.before.before.before.before.before.before.before.before.before.before.before.args.tape.now c.before.before.before.before.before.before.loop-f.f 0) N.known c.before.before.if-kind-eq-M.false (here N) (ws_by N.rest))) c.before.before.before.before.before.before.loop-f.invariant.filling

loop-holds : tie.Need-loop-f-init invariant-loop decreases-loop
loop-holds c =
    let S = c.before.before.before.before.before in
    let f = S.requires.1.fits in
    let w = S.args.page.now in
    record {
      rest = elems_of w;
      lies = S.requires.0.taped.lies;
      fit = fit_by (tags_at w 0) (page_fits S.requires.0);
      filling = refill (sym (rows_by_lem (tags_at w 0))) (begin_rows (rows_from (tags_at w 0)) S.args.text.now S.args.n S.args.rows.now S.args.r (omega arith) (omega (arith, S.requires.2)));
    }

mul-kind : tie.Need-offset_bounds-tape-f invariant-loop decreases-loop
mul-kind c = search rules

shared-slice-read-kind : tie.Need-bounds-tape-f invariant-loop decreases-loop
shared-slice-read-kind c = let N = next c.before in omega (arith, N.wide, N.high, c.before.before.before.before.before.before.before.before.requires.0.taped.within.0)

cast-kind : tie.Need-overflow_cast-kind invariant-loop decreases-loop
cast-kind c = let N = next c.before in omega (arith, N.known)

add-next : tie.Need-overflow_add-next invariant-loop decreases-loop
add-next c = let N = next c.before in omega (arith, N.wide, N.high, c.before.before.before.before.before.before.before.before.well_formed)

mul_next : tie.Need-offset_bounds-tape-f-in-loop-f invariant-loop decreases-loop
mul_next c = search rules

shared-slice-read-next : tie.Need-bounds-tape-f-in-loop-f invariant-loop decreases-loop
shared-slice-read-next c = let N = next c.before.before in omega (arith, N.wide, N.high, c.before.before.before.before.before.before.before.before.before.requires.0.taped.within.0)

cast-next : tie.Need-overflow_cast-next invariant-loop decreases-loop
cast-next c = omega (arith, c.shared_slice_known-in-loop-f-2-1.given (c.before.before.before.loop-f.f + 2))

add-lay-medication : tie.Need-overflow_add-f invariant-loop decreases-loop
add-lay-medication c = let N = next c.before.before.before in omega (arith, N.wide, N.high, c.before.before.before.before.before.before.before.before.before.before.well_formed)

lay-medication-requires : tie.Need-lay_medication-m-requires invariant-loop decreases-loop
lay-medication-requires c κs =
    let S = c.before.before.before.before.before.before.before.before.before.before.before.before in
    let L = c.before.before.before.before.before.before in
    let N = next c.before.before.before.before.before in
    let D = med c.before.before in
    let F = med-filling c.before.before in
    let vs = values_at S.args.page.now S.args.side.now 14 S.args.tape.now (L.loop-f.f + 3) in (
      omega (arith, D.wide, N.high, S.requires.0.taped.within.0),
      D.lie,
      D.short,
      record { elems = N.rest; lies = N.behind_it; within = S.requires.0.taped.within.0; fit = (fit_next N L.loop-f.invariant.fit).2 },
      row_space F S.requires.1 S.requires.2,
      λ es K. subst (λ (l : List Elem). (length (ws_by l) ≤ 3) × Room (row_values (row_from M vs (ws_by l))) L.loop-f.text L.loop-f.m) (lies_same _ _ _ _ _ _ N.rest es N.behind_it K)
          (D.few, row_room F S.requires.1 S.requires.2),
    )

add-k : tie.Need-overflow_add-k invariant-loop decreases-loop
add-k c =
    let S = c.before.before.before.before.before.before.before.before.before.before.before.before.before.before.before.before.before in
    let s = row_space (med-filling c.before.before.before.before.before.before.before) S.requires.1 S.requires.2 in
    omega (arith, s, c.before.before.before.before.before.before.before.before.before.before.before.loop-f.invariant.filling.rows_so.long, S.well_formed)

loop-less : tie.Need-loop-f-smaller-then-kind-eq-M invariant-loop decreases-loop
loop-less c =
    let at-loop-test = c.before.before.before.before.before.before.before.before.before.before in
    let N = next at-loop-test in omega (arith, N.wide, at-loop-test.loop-f-test.true)

loop-again : tie.Need-loop-f-preserved-then-kind-eq-M invariant-loop decreases-loop
loop-again c =
    let S = c.before.before.before.before.before.before.before.before.before.before.before.before.before.before.before.before.before in
    let N = next c.before.before.before.before.before.before.before.before.before.before in
    record {
      rest = N.rest;
      lies = N.behind_it;
      fit = (fit_next N c.before.before.before.before.before.before.before.before.before.before.before.loop-f.invariant.fit).2;
      filling = row_turn (med-filling c.before.before.before.before.before.before.before) S.requires.1 S.requires.2 (c.before.before.before.before.lay_medication-m.ensures N.rest N.behind_it);
    }

add-gives-row : tie.Need-overflow_add-f-else-kind-eq-M invariant-loop decreases-loop
add-gives-row c = let N = next c.before.before.before in omega (arith, N.wide, N.high, c.before.before.before.before.before.before.before.before.before.before.well_formed)

gives-row-requires : tie.Need-gives_row-requires invariant-loop decreases-loop
gives-row-requires c κs = let N = next c.before.before.before in (N.known, omega (arith, N.wide, N.high, c.before.before.before.before.before.before.before.before.before.before.requires.0.taped.within.0), N.lie)

add-lay-plain : tie.Need-overflow_add-f-then-gives_row invariant-loop decreases-loop
add-lay-plain c = let N = next c.before.before.before.before.before in omega (arith, N.wide, N.high, c.before.before.before.before.before.before.before.before.before.before.before.before.well_formed)

lay-plain-requires : tie.Need-lay_plain-m-requires invariant-loop decreases-loop
lay-plain-requires c κs =
    let S = c.before.before.before.before.before.before.before.before.before.before.before.before.before.before in
    let N = next c.before.before.before.before.before.before.before in
    let F = plain-filling c.before.before in
    (N.known, c.before.before.before.before.if-kind-eq-M.false, omega (arith, N.wide, N.high, S.requires.0.taped.within.0), N.lie, row_room F S.requires.1 S.requires.2, row_space F S.requires.1 S.requires.2)

add-k-2 : tie.Need-overflow_add-k-then-gives_row invariant-loop decreases-loop
add-k-2 c =
    let S = c.before.before.before.before.before.before.before.before.before.before.before.before.before.before.before.before.before.before.before in
    let s = row_space (plain-filling c.before.before.before.before.before.before.before) S.requires.1 S.requires.2 in
    omega (arith, s, c.before.before.before.before.before.before.before.before.before.before.before.before.before.loop-f.invariant.filling.rows_so.long, S.well_formed)

loop-less-2 : tie.Need-loop-f-smaller-then-gives_row invariant-loop decreases-loop
loop-less-2 c =
    let at-loop-test = c.before.before.before.before.before.before.before.before.before.before.before.before in
    let N = next at-loop-test in omega (arith, N.wide, at-loop-test.loop-f-test.true)

loop-again-2 : tie.Need-loop-f-preserved-then-gives_row invariant-loop decreases-loop
loop-again-2 c =
    let S = c.before.before.before.before.before.before.before.before.before.before.before.before.before.before.before.before.before.before.before in
    let N = next c.before.before.before.before.before.before.before.before.before.before.before.before in
    record {
      rest = N.rest;
      lies = N.behind_it;
      fit = (fit_next N c.before.before.before.before.before.before.before.before.before.before.before.before.before.loop-f.invariant.fit).2;
      filling = row_turn (plain-filling c.before.before.before.before.before.before.before) S.requires.1 S.requires.2 c.before.before.before.before.lay_plain-m.ensures;
    }

loop-less-3 : tie.Need-loop-f-smaller invariant-loop decreases-loop
loop-less-3 c =
    let at-loop-test = c.before.before.before.before.before in
    let N = next at-loop-test in omega (arith, N.wide, at-loop-test.loop-f-test.true)

loop-again-3 : tie.Need-loop-f-preserved invariant-loop decreases-loop
loop-again-3 c =
    let N = next c.before.before.before.before.before in
    let v = c.before.before.before.before.before.before.loop-f.invariant in
    record { rest = N.rest; lies = N.behind_it; fit = (fit_next N v.fit).2; filling = refill (no_row_next N (sym c.before.gives_row.ensures ∙ c.if-gives_row.false)) v.filling }

same_length : tie.Need-shape_of-rows invariant-loop decreases-loop
same_length c = search rules

same-length-2 : tie.Need-shape_of-text invariant-loop decreases-loop
same-length-2 c = search rules

returns : tie.Need-returns invariant-loop decreases-loop
returns c =
    let S = c.before.before.before.before.before.before.before in
    let v = c.before.loop-f.invariant in
    let f = S.requires.1.fits in
    finish_rows (refill (rows_none v.rest (no_step _ _ _ _ _ v.rest v.lies c.loop-f-test.false)) v.filling) (omega arith) (omega (arith, S.requires.2))

pub fill_rows_spec : {M : Type 1} → statement M
fill_rows_spec =
    tie.close
    (tie.spec
    invariant-loop
    decreases-loop
    loop-holds
    mul-kind
    shared-slice-read-kind
    cast-kind
    add-next
    mul_next
    shared-slice-read-next
    cast-next
    add-lay-medication
    lay-medication-requires
    add-k
    loop-less
    loop-again
    add-gives-row
    gives-row-requires
    add-lay-plain
    lay-plain-requires
    add-k-2
    loop-less-2
    loop-again-2
    loop-less-3
    loop-again-3
    same_length
    same-length-2
    returns)
