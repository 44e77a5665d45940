-- Causes: the numbers of the refusals of a page, for the causes that code tells.
-- Assumes nothing.
use Rattle.std.specs.Prelude.{Option, None, Some, ℕ}
use Rattle.paper.specs.declared.Cause.{Cause}
use Rattle.paper.specs.declared.Cause.TheVariants.{Size, Byte, Malformed, OutOfPlace, Edition, Value, Incomplete}

-- the number of a cause
abbrev pub cause_number : Cause → ℕ
cause_number Size = 2
cause_number Byte = 3
cause_number Malformed = 4
cause_number OutOfPlace = 5
cause_number Edition = 6
cause_number Value = 7
cause_number Incomplete = 8

-- the number of a fault that may be none: 9 for none
abbrev pub flaw_number : Option Cause → ℕ
flaw_number None = 9
flaw_number (Some c) = cause_number c
