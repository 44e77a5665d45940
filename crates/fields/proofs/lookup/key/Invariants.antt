-- `k` is the key of what stands behind.
use Rattle.std.proofs.Common.{◌≡◌, ◌-◌, ◌<◌, length, drop}
use Rattle.fields.specs.Places.{key_of}
use Rattle.fields.proofs.LookupLaws.{tower}
use Rattle.fields.proofs.lookup.key.Given as goal

abbrev pub invariant-loop-i : goal.invariant-loop-i
invariant-loop-i l = record {
  small : l.k < tower (length l.name - l.i);
  right : l.k ≡ key_of (drop l.i l.name);
}
