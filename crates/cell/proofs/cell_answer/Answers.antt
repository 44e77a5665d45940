-- The cell that is found is shown as document 01 shows it; where none is found, it has none.
use Rattle.std.proofs.Common.{ap, ◌∙◌}
use Rattle.std.specs.Prelude.{Ok}
use Rattle.cell.specs.declared.answer.Shown as Told
use Rattle.cell.specs.Answers.{values_of}
use Rattle.cell.proofs.Shows.{roomy, refuses, showing}
use Rattle.cell.proofs.cell_answer.Goals as goal

pub shown-requires : goal.shown-requires
shown-requires c = roomy c.args.rows.now c.args.count c.args.text.now c.args.catalogue.now c.args.row c.args.field c.args.which c.in-Some.c c.in-Some.ensures

pub returns-in-Some : goal.returns-in-Some
returns-in-Some c =
    ap (λ (s : Told.Shown). values_of (Ok s)) c.shown.ensures
    ∙ showing c.args.rows.now c.args.count c.args.text.now c.args.catalogue.now c.args.row c.args.field c.args.which c.in-Some.c c.in-Some.ensures

pub returns-in-None : goal.returns-in-None
returns-in-None c = refuses c.args.rows.now c.args.count c.args.text.now c.args.catalogue.now c.args.row c.args.field c.args.which c.in-None.ensures (record {})
