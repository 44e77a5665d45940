-- The loop of `sheet::flaws::fields_flaw`: the least fault is the worst so far, or what the fields to come give.
use Rattle.std.proofs.Common.{◌≡◌}
use Rattle.paper.specs.Causes.{flaw_number}
use Rattle.fields.specs.Places.{kind_at}
use Rattle.sheet.proofs.FlawLaws.{fields_from}
use Rattle.sheet.proofs.flaws.fields_flaw.Given as goal

abbrev pub invariant-loop-j : goal.invariant-loop-j
invariant-loop-j l = fields_from l.page (kind_at l.kind) l.raws 9 0 ≡ fields_from l.page (kind_at l.kind) l.raws (flaw_number l.worst) l.j
