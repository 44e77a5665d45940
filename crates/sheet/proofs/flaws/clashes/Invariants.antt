-- The loop of `sheet::flaws::clashes`: no pair so far stands in the tag, and the answer is what the pairs to come give.
use Rattle.std.proofs.Common.{◌≡◌, length, drop}
use Rattle.paper.specs.Fields.{fields_of}
use Rattle.fields.specs.Places.{kind_at, ones_of, others_of}
use Rattle.sheet.specs.Found.{standing}
use Rattle.sheet.specs.Flaws.{clash_there, clash_at}
use Rattle.sheet.proofs.flaws.clashes.Given as goal

abbrev pub invariant-loop-i : goal.invariant-loop-i
invariant-loop-i l =
    clash_at (kind_at l.kind) l.numbers l.base
    ≡ clash_there (drop l.i (ones_of (kind_at l.kind))) (drop l.i (others_of (kind_at l.kind))) (standing (length (fields_of (kind_at l.kind))) l.numbers l.base)
