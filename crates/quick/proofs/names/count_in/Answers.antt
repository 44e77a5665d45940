-- It stands in the table.
use mathlib.Core.Path.{◌≡◌}
use mathlib.Core.List.{List}
use Prim.Native.Nat.{ℕ, ◌+◌, ◌*◌, ◌<◌}
use native.Mathlib.Omega.{arith}
use lib.ListN.{get_or}
use Rattle.fields.specs.Places.{kind_at, count_of}
use Rattle.fields.proofs.ColumnLaws.{part_within}
use Rattle.quick.specs.Letters.{letter_table}
use Rattle.quick.proofs.LetterLaws.{count_entry}
use Rattle.quick.proofs.names.count_in.Goals as goal

stands : (l : List ℕ) (k : ℕ) → l ≡ letter_table → k < 10 → get_or l (k * 128) 0 ≡ 128 + count_of (kind_at k)
stands l k e h = rw e (count_entry k h)

pub overflow_sub-result : goal.overflow_sub-result
overflow_sub-result c = omega (arith, stands c.args.letters.now c.args.kind c.requires.1 c.requires.0)

pub returns : goal.returns
returns c =
    let e = stands c.args.letters.now c.args.kind c.requires.1 c.requires.0 in
    let w = part_within c.args.kind c.requires.0 in
    (omega (arith, e), omega (arith, e, w))
