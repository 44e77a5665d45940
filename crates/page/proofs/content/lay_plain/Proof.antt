-- `page::content::lay_plain` meets its contract: the record is open, and all values of the element are laid into it.
-- Assumes nothing.
use mathlib.Core.Path.{◌≡◌, sym, ap, subst}
use Prim.Native.Nat.{ℕ}
use native.Mathlib.Omega.{arith}
use lib.ListN.{length}
use Rattle.fields.specs.Places.{kind_at, count_of}
use Rattle.page.proofs.ContentLaws.{relay, reroom, count_small}
use Rattle.page.proofs.RowLaws.{plain_values, plain_laid}
use Rattle.tape.specs.Tape.{values_at, Spans}
use Rattle.page.proofs.SlotLaws.{values_long}
use Rattle.page.proofs.content.lay_plain.Statement.{statement}
use Rattle.page.proofs.content.lay_plain.Tie as tie
use borrow.Author.Rules.{rules}

-- all fields are laid
all : (c : tie.After-count_of-count) → values_at c.before.before.before.before.before.before.before.args.page.now c.before.before.before.before.before.before.before.args.side.now (count_of (kind_at c.before.before.before.before.before.before.before.args.kind)) c.before.before.before.before.before.before.before.args.tape.now c.before.before.before.before.before.before.before.args.base
    ≡ values_at c.before.before.before.before.before.before.before.args.page.now c.before.before.before.before.before.before.before.args.side.now c.count_of-count.result c.before.before.before.before.before.before.before.args.tape.now c.before.before.before.before.before.before.before.args.base
all c = ap (λ (n : ℕ). values_at c.before.before.before.before.before.before.before.args.page.now c.before.before.before.before.before.before.before.args.side.now n c.before.before.before.before.before.before.before.args.tape.now c.before.before.before.before.before.before.before.args.base) (sym c.count_of-count.ensures.0)

row-kind-requires : tie.Need-row_kind-k-requires
row-kind-requires c κs = search rules

count-of-requires : tie.Need-count_of-count-requires
count-of-requires c κs = search rules

open-row-requires : tie.Need-open_row-requires
open-row-requires c κs = search rules

mul-lay-slots : tie.Need-overflow_mul-r
mul-lay-slots c = search rules

add-lay-slots : tie.Need-overflow_add-r
add-lay-slots c = search rules

lay-slots-requires : tie.Need-lay_slots-requires
lay-slots-requires c κs =
    let at-count-of = c.before.before.before.before.before.before in
    let S = c.before.before.before.before.before.before.before.before.before.before.before.before.before in
    let k = count_small S.args.kind S.requires.0 in
    let e = at-count-of.count_of-count.ensures.0 in (
      omega (arith, S.requires.2, e),
      subst (λ (n : ℕ). Spans S.args.page.now (length S.args.side.now) n S.args.tape.now S.args.base) (sym e) S.requires.3,
      reroom (all at-count-of) (reroom (plain_values S.args.kind S.requires.0 S.requires.1 _) S.requires.4),
      omega (arith, e, k, S.requires.5, c.before.before.before.before.open_row.auto.rows),
    )

same_length : tie.Need-shape_of-text
same_length c = search rules

same-length-2 : tie.Need-shape_of-rows
same-length-2 c = search rules

returns : tie.Need-returns
returns c =
    let S = c.before.before.before.before.before.before.before.before.before.before.before.before.before.before.before.before.before.before in
    let k = count_small S.args.kind S.requires.0 in
    plain_laid S.args.kind S.requires.0 S.requires.1 _ S.args.r c.before.before.before.before.before.before.before.before.before.before.before.before.row_kind-k.ensures c.before.before.before.before.before.before.before.before.before.open_row.ensures
    (relay (sym (all c.before.before.before.before.before.before.before.before.before.before.before)) c.before.before.before.before.lay_slots.ensures) S.requires.5 (omega (arith, k, values_long S.args.page.now S.args.side.now (count_of (kind_at S.args.kind)) S.args.tape.now S.args.base))

pub lay_plain_spec : {M : Type 1} → statement M
lay_plain_spec =
    tie.close
    (tie.spec
    row-kind-requires
    count-of-requires
    open-row-requires
    mul-lay-slots
    add-lay-slots
    lay-slots-requires
    same_length
    same-length-2
    returns)
