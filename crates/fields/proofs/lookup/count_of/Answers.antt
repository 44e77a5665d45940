use Rattle.std.proofs.Common.{◌∙◌, rules}
use Rattle.paper.specs.Fields.{fields_of}
use Rattle.fields.specs.Places.{first_of, count_of}
use Rattle.fields.specs.Columns.{count_column}
use Rattle.fields.proofs.ColumnLaws.{count_at, part_within}
use Rattle.fields.proofs.lookup.count_of.Goals as goal

pub returns : goal.returns
unfolding count_column count_of fields_of first_of
returns c =
    let e = c.entry.ensures ∙ count_at c.args.element (search rules) in
    (e, rw e (part_within c.args.element (search rules)))
