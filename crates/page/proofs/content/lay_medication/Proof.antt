-- `page::content::lay_medication` meets its contract: the record is open with the package number, and the values of the M and of its W are laid into it.
-- Assumes nothing.
use mathlib.Core.List.{List}
use Prim.Native.Nat.{ℕ, ◌+◌}
use native.Mathlib.Omega.{arith}
use lib.ListN.{get_or}
use Rattle.paper.specs.Lists.{concat}
use Rattle.paper.specs.Plan.{Slots}
use Rattle.page.proofs.ContentLaws.{room_first, room_behind, reroom}
use Rattle.tape.specs.Tape.{ws_by, shown_in, values_at}
use Rattle.page.proofs.SlotLaws.{values_long}
use Rattle.page.proofs.WalkLaws.{ws_twice, medication_laid, medication_values}
use Rattle.page.proofs.content.lay_medication.Statement.{statement}
use Rattle.page.proofs.content.lay_medication.Tie as tie
use borrow.Author.Rules.{rules}

-- the package number, and the other values
abbrev first : tie.Start → List ℕ
first S = shown_in S.args.page.now S.args.side.now (get_or S.args.tape.now S.args.base 0) (get_or S.args.tape.now (S.args.base + 1) 0)

abbrev others : tie.Start → Slots
others S = values_at S.args.page.now S.args.side.now 13 S.args.tape.now (S.args.base + 2)

number-in-requires : tie.Need-number_in-p-requires
number-in-requires c κs = let S = c.before.before.before.before.before in (omega (arith, S.requires.0), S.requires.1.0, S.requires.2)

open-row-requires : tie.Need-open_row-requires
open-row-requires c κs = search rules

add-lay-slots : tie.Need-overflow_add-base
add-lay-slots c = omega (arith, c.before.before.before.before.before.before.before.before.before.before.requires.0)

mul-lay-slots : tie.Need-overflow_mul-r
mul-lay-slots c = search rules

add-lay-slots-2 : tie.Need-overflow_add-r
add-lay-slots-2 c = search rules

lay-slots-requires : tie.Need-lay_slots-m-requires
lay-slots-requires c κs =
    let S = c.before.before.before.before.before.before.before.before.before.before.before.before in
    let W = S.requires.3 in (
      omega (arith, S.requires.0),
      S.requires.1.1,
      room_first (others S) (concat (ws_by W.elems)) _ _ (reroom (medication_values (first S) (others S) (ws_by W.elems)) (S.requires.5 W.elems W.lies).1),
      omega (arith, S.requires.4, c.before.before.before.before.open_row.auto.rows),
    )

mul-lay-ws : tie.Need-overflow_mul-r-2
mul-lay-ws c =
    let start = c.before.before.before.before.before.before.before.before.before.before.before.before.before.before.before.before.before.before.before in
    omega (arith, start.requires.4, start.well_formed)

add-lay-ws : tie.Need-overflow_add-r-2
add-lay-ws c =
    let start = c.before.before.before.before.before.before.before.before.before.before.before.before.before.before.before.before.before.before.before in
    omega (arith, start.requires.4, start.well_formed)

lay-ws-requires : tie.Need-lay_ws-requires
lay-ws-requires c κs =
    let at-lay-slots = c.before.before.before.before.before.before in
    let S = c.before.before.before.before.before.before.before.before.before.before.before.before.before.before.before.before.before.before.before in (
      S.requires.3,
      λ es L. (
        room_behind (others S) (concat (ws_by es)) (reroom (medication_values (first S) (others S) (ws_by es)) (S.requires.5 es L).1) at-lay-slots.lay_slots-m.ensures,
        omega (arith, (S.requires.5 es L).0, S.requires.4, c.before.before.before.before.before.before.before.before.before.before.before.open_row.auto.rows, at-lay-slots.lay_slots-m.auto.numbers),
      ),
    )

same_length : tie.Need-shape_of-text
same_length c = search rules

same-length-2 : tie.Need-shape_of-rows
same-length-2 c = search rules

returns : tie.Need-returns
returns c = λ es L.
    let S = c.before.before.before.before.before.before.before.before.before.before.before.before.before.before.before.before.before.before.before.before.before.before.before.before in
    let d = ws_twice _ S.args.side.now _ _ _ es L in
    let r = S.requires.5 es L in
    medication_laid (first S) (others S) (ws_by es) S.args.r (omega (arith, d, r.0)) (values_long S.args.page.now S.args.side.now 13 S.args.tape.now (S.args.base + 2))
    c.before.before.before.before.before.before.before.before.before.before.before.before.before.before.before.before.before.before.number_in-p.ensures c.before.before.before.before.before.before.before.before.before.before.before.before.before.before.before.before.open_row.ensures S.requires.4 r.1 c.before.before.before.before.before.before.before.before.before.before.before.lay_slots-m.ensures (c.before.before.before.before.lay_ws.ensures es L)

pub lay_medication_spec : {M : Type 1} → statement M
lay_medication_spec =
    tie.close
    (tie.spec
    number-in-requires
    open-row-requires
    add-lay-slots
    mul-lay-slots
    add-lay-slots-2
    lay-slots-requires
    mul-lay-ws
    add-lay-ws
    lay-ws-requires
    same_length
    same-length-2
    returns)
