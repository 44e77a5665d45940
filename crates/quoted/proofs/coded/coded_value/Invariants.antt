-- What is laid so far, and what is still to be read, make the value.
use Rattle.std.proofs.Common.{◌-◌, length}
use Rattle.quoted.proofs.CodedLaws.{Coding}
use Rattle.quoted.proofs.coded.coded_value.Given as goal

abbrev pub invariant-loop-i : goal.invariant-loop-i
invariant-loop-i l = Coding l.page l.fn.side l.side l.from l.q l.used l.i l.n l.breaks

abbrev pub decreases-loop-i : goal.decreases-loop-i
decreases-loop-i l = length l.page - l.i
