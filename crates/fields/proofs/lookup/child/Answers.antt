use Rattle.std.proofs.Common.{arith}
use Rattle.paper.specs.Fields.{named}
use Rattle.paper.proofs.ByKind.{code_small}
use Rattle.fields.specs.Places.{kind_at, under}
use Rattle.fields.specs.Columns.{child_key_column, child_kind_column, child_first_column, child_count_column}
use Rattle.fields.proofs.FoundLaws.{child_found, child_none}
use Rattle.fields.proofs.lookup.child.Goals as goal

pub returns-then-i-count : goal.returns-then-i-count
unfolding child_first_column child_count_column child_key_column child_kind_column under kind_at
returns-then-i-count c =
    let a = c.args in
    let e = child_found a.parent c.find-i.result c.key.result a.name.now c.requires (λ i. (c.type_inv.name i).fits) c.key.ensures c.find-i.ensures.0 c.if-i-count.true in
    (e, rw e (code_small (named a.name.now (under a.parent))))

pub returns-else-i-count : goal.returns-else-i-count
unfolding child_first_column child_count_column child_key_column child_kind_column under kind_at
returns-else-i-count c = (
  child_none c.args.parent c.find-i.result c.key.result c.args.name.now c.requires (λ i. (c.type_inv.name i).fits) c.key.ensures c.find-i.ensures.0 c.if-i-count.false,
  omega arith,
)
