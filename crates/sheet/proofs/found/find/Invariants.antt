-- The loop of `sheet::found::find`: behind each attribute the raw values tell those that were read, and none of them was strange.
use Rattle.std.proofs.Common.{◌-◌, length}
use Rattle.fields.specs.Places.{kind_at}
use Rattle.sheet.proofs.FoundLaws.{Held}
use Rattle.sheet.proofs.found.find.Given as goal

abbrev pub invariant-loop-shut : goal.invariant-loop-shut
invariant-loop-shut l = Held l.page (kind_at l.kind) l.at l.i l.raws

abbrev pub decreases-loop-shut : goal.decreases-loop-shut
decreases-loop-shut l = length l.page - l.i
