-- The array is the table.
use mathlib.Core.Path.{refl}
use Rattle.quoted.specs.Plain.{odd_table}
use Rattle.quoted.proofs.odd_table.Goals as goal

pub returns : goal.returns
unfolding odd_table
returns c = refl
