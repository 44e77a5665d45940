-- What is shown is less than the limit, and so less than the text.
use Rattle.std.proofs.Common.{drop, arith}
use Rattle.paper.specs.Cells.{shown_of}
use Rattle.paper.proofs.CellLaws.{begins, begins_near}
use Rattle.cell.proofs.cut.Goals as goal

pub overflow_sub-result : goal.overflow_sub-result
overflow_sub-result c =
    let v = drop c.args.at c.args.buffer.now in
    omega (arith, c.shown_of-shown.ensures, (begins_near c.args.limit v (shown_of c.args.limit v) (begins c.args.limit v)).0)
