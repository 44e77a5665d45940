use Rattle.std.proofs.Common.{◌≡◌, length, arith, ap, ◌∙◌}
use Rattle.fields.proofs.ColumnLaws.{part_within, key_length}
use Rattle.fields.proofs.FoundLaws.{field_found}
use Rattle.fields.proofs.lookup.field_in.Goals as goal

pub overflow_add-first : goal.overflow_add-first
overflow_add-first c = omega (arith, c.count_of-count.ensures.0, c.first_of-first.ensures, part_within c.args.element c.requires.1)

pub find-requires : goal.find-requires
find-requires c =
    let within = part_within c.args.element c.requires.1 in
    let long : length c.args.keys.now ≡ 52 = ap length c.requires.0 ∙ key_length in
    (omega arith, omega (arith, c.count_of-count.ensures.0, c.first_of-first.ensures))

pub returns : goal.returns
returns c = (
  c.find.ensures.0
      ∙ field_found c.args.element c.args.name.now c.args.keys.now _ _ _ c.requires.1 (λ i. (c.type_inv.name i).fits) c.requires.0 c.first_of-first.ensures c.count_of-count.ensures.0 c.key.ensures,
  omega (arith, c.find.ensures.1, c.count_of-count.ensures.0),
)
