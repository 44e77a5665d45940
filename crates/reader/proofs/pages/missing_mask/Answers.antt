use Rattle.std.proofs.Common.{◌+◌, ◌≤◌, arith, rules}
use Prim.Native.Nat.{◌^◌}
use lib.Pow.{pow_mono}
use borrow.Author.Tests.{lt-leb}
use Rattle.reader.specs.Pages.{absent}
use Rattle.reader.proofs.PageLaws.{above_z, lacking}
use Rattle.reader.proofs.pages.missing_mask.Goals as goal

pub returns-then-z-gt9 : goal.returns-then-z-gt9
unfolding absent
returns-then-z-gt9 c = rw (lt-leb _ 9 c.if-z-gt9.true)

pub overflow_sub-result : goal.overflow_sub-result
overflow_sub-result c =
    let z = c.args.z in
    let up : 2 ^ 1 ≤ 2 ^ (z + 1) = pow_mono {i = 1} {j = z + 1} (omega arith) in
    let e = above_z z c.if-z-gt9.false in
    omega arith

pub returns : goal.returns
returns c =
    let a = c.args in
    rw (above_z a.z c.if-z-gt9.false) (lacking a.have a.z (search rules) c.if-z-gt9.false)
