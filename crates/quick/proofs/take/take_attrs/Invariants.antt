-- Whatever attributes may follow may follow those read so far, and the tape holds these.
use Rattle.std.proofs.Common.{◌-◌, length}
use Rattle.fields.specs.Places.{kind_at}
use Rattle.quick.proofs.SlotLaws.{HeldIn}
use Rattle.quick.proofs.take.take_attrs.Given as goal

abbrev pub invariant-loop-i : goal.invariant-loop-i
invariant-loop-i l = HeldIn l.page (kind_at l.kind) l.base l.from l.i l.fn.tape l.tape l.fn.side l.side l.used l.m

abbrev pub decreases-loop-i : goal.decreases-loop-i
decreases-loop-i l = length l.page - l.i
