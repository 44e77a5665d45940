use Rattle.std.proofs.Common.{ℕ, ap, ◌∙◌}
use Rattle.std.proofs.Math.Dec.{eqb}
use Rattle.fields.specs.Places.{field_at}
use Rattle.fields.proofs.ColumnLaws.{handed, must_at, bit_one}
use Rattle.fields.proofs.lookup.must_in.Goals as goal

pub returns : goal.returns
returns c =
    ap (λ (n : ℕ). eqb n 1) (c.part.ensures ∙ handed 4 c.args.limits.now c.args.id _ c.requires.0 (must_at c.args.id c.requires.1))
    ∙ bit_one (field_at c.args.id).must
