-- `w` - 1 digits are counted, and those of `m` are left.
use Rattle.std.proofs.Common.{◌≡◌, ◌+◌, ◌-◌, length}
use Rattle.paper.specs.Writing.{decimal, digits_of}
use Rattle.fields.proofs.numbers.width.Given as goal

abbrev pub invariant-loop-w : goal.invariant-loop-w
invariant-loop-w l = 1 + length (decimal l.n) ≡ l.w + length (digits_of (10 - l.w) l.m)
