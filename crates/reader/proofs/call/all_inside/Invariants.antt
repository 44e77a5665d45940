use Rattle.std.proofs.Common.{◌≡◌}
use Rattle.paper.specs.Calls.{inside}
use Rattle.reader.proofs.CallFacts.{inside_from}
use Rattle.reader.proofs.call.all_inside.Given as goal

-- all pages lie in the buffer just if those from here on do
abbrev pub invariant-loop-i : goal.invariant-loop-i
invariant-loop-i l = inside l.buffer l.starts l.lens ≡ inside_from l.buffer l.starts l.lens l.i
