use Rattle.std.proofs.Common.{ℕ, ◌+◌, arith, ap, ◌∙◌}
use Rattle.paper.specs.Fields.{fields_of}
use Rattle.fields.specs.Places.{ones_of}
use Rattle.fields.specs.Columns.{packed, entry_of, one_column, pair_first_column}
use Rattle.fields.proofs.ColumnLaws.{pairs_within, one_at}
use Rattle.fields.proofs.lookup.pair_one.Goals as goal

pub entry-requires : goal.entry-requires
unfolding pair_first_column ones_of fields_of
entry-requires c = let within = pairs_within c.args.element c.requires.0 in omega (arith, c.entry-first.ensures)

pub returns : goal.returns
unfolding one_column pair_first_column ones_of fields_of
returns c =
    c.entry.ensures
    ∙ ap (λ (f : ℕ). entry_of (packed one_column) (f + c.args.i)) c.entry-first.ensures
    ∙ one_at c.args.element c.args.i c.requires.0 c.requires.1
