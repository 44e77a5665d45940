use Rattle.std.proofs.Common.{◌≡◌, ◌*◌, ◌-◌, ◌++◌, length, take, drop}
use Rattle.page.specs.Laying.{pairs}
use Rattle.page.proofs.content.spans_of.Given as goal

-- the spans are those made so far and those that are left
abbrev pub invariant-loop-j : goal.invariant-loop-j
invariant-loop-j l = (length l.spans ≡ 27) × (pairs 27 l.numbers ≡ take l.j l.spans ++ pairs (27 - l.j) (drop (2 * l.j) l.numbers))
