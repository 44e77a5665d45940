-- The digits from `k` on are laid, those of `m` are left, and nothing before them has changed.
use Rattle.std.proofs.Common.{◌≡◌, ◌+◌, ◌++◌, take, drop}
use Rattle.fields.proofs.NumberLaws.{last_digits}
use Rattle.fields.proofs.numbers.spell.Given as goal

abbrev pub invariant-loop-k : goal.invariant-loop-k
invariant-loop-k l = record {
  front : take (l.at + l.k) l.out ≡ take (l.at + l.k) l.fn.out;
  right : last_digits l.w l.n ++ drop (l.at + l.w) l.fn.out ≡ last_digits l.k l.m ++ drop (l.at + l.k) l.out;
}
