-- The element's part of the keys, searched for the name's key.
use mathlib.Core.Path.{◌≡◌, ap, ◌∙◌}
use native.Mathlib.Omega.{arith}
use lib.ListN.{length}
use Rattle.fields.proofs.ColumnLaws.{part_within, key_length}
use Rattle.fields.proofs.FoundLaws.{field_found}
use Rattle.quick.proofs.names.field_by.Goals as goal

pub find-requires : goal.find-requires
find-requires c =
    let within = part_within c.args.kind c.requires.1 in
    let long : length c.args.keys.now ≡ 52 = ap length c.requires.0 ∙ key_length in
    (omega arith, omega (arith, c.count_in-count.ensures.0, c.first_in-first.ensures))

pub returns : goal.returns
returns c =
    let a = c.args in (
      c.find.ensures.0
          ∙ field_found a.kind a.name.now a.keys.now _ _ _ c.requires.1 (λ i. (c.type_inv.name i).fits) c.requires.0 c.first_in-first.ensures c.count_in-count.ensures.0 c.key.ensures,
      omega (arith, c.find.ensures.1, c.count_in-count.ensures.0),
    )
