-- What is read shows `a`, which leaves room for the digits that are left.
use Rattle.std.proofs.Common.{◌≡◌, ◌+◌, ◌*◌, ◌-◌, ◌≤◌, take, drop}
use Rattle.paper.specs.Lists.{number}
use Rattle.fields.proofs.NumberLaws.{tens}
use Rattle.fields.proofs.numbers.shown.Given as goal

abbrev pub invariant-loop-i : goal.invariant-loop-i
invariant-loop-i l = record {
  small : l.a + 23 ≤ 23 * tens (l.i - l.from);
  right : number 0 (take (l.to - l.from) (drop l.from l.v)) ≡ number l.a (take (l.to - l.i) (drop l.i l.v));
}
