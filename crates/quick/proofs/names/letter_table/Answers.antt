-- The array is the table.
use mathlib.Core.Path.{refl}
use Rattle.quick.specs.Letters.{letter_table}
use Rattle.quick.proofs.names.letter_table.Goals as goal

pub returns : goal.returns
unfolding letter_table
returns c = refl
