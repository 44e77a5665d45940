use Rattle.std.proofs.Common.{◌-◌, arith}
use Rattle.fields.proofs.LookupLaws.{key_room}
use Rattle.fields.proofs.lookup.key.Goals as goal

pub overflow_mul-k : goal.overflow_mul-k
overflow_mul-k c = omega (arith, key_room c.loop-i.k _ c.loop-i.i c.loop-i.invariant.small c.if-name-gt7.false c.loop-i-test.true)

pub overflow_add-k : goal.overflow_add-k
overflow_add-k c =
    omega (arith, key_room c.loop-i.k _ c.loop-i.i c.loop-i.invariant.small c.if-name-gt7.false c.loop-i-test.true, c.type_inv.name (c.loop-i.i - 1))
