-- It stands in the table.
use mathlib.Core.Path.{◌≡◌}
use mathlib.Core.List.{List}
use Prim.Native.Nat.{ℕ, ◌+◌, ◌*◌, ◌<◌}
use native.Mathlib.Omega.{arith}
use lib.ListN.{get_or}
use Rattle.fields.specs.Places.{kind_at, first_of}
use Rattle.quick.specs.Letters.{letter_table}
use Rattle.quick.proofs.LetterLaws.{first_entry}
use Rattle.quick.proofs.names.first_in.Goals as goal

stands : (l : List ℕ) (k : ℕ) → l ≡ letter_table → k < 10 → get_or l (k * 128 + 1) 0 ≡ 128 + first_of (kind_at k)
stands l k e h = rw e (first_entry k h)

pub overflow_sub-result : goal.overflow_sub-result
overflow_sub-result c = omega (arith, stands c.args.letters.now c.args.kind c.requires.1 c.requires.0)

pub returns : goal.returns
returns c = omega (arith, stands c.args.letters.now c.args.kind c.requires.1 c.requires.0)
