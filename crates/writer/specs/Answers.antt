-- Answers: document 01, "Refusal numbers and their order". The number, page and place of each refusal that writing gives.
-- Assumes nothing.
use Rattle.std.specs.Prelude.{Result, Ok, Err}
use Rattle.paper.specs.Reading.{Numbers, numbers}
use Rattle.writer.specs.declared.answer.Refusal.{Refusal}
use Rattle.writer.specs.declared.answer.Refusal.TheVariants.{NoRoom, Unsound, TooLong}

-- the table of refusals: what each case carries
abbrev pub numbers_of : Refusal → Numbers
numbers_of NoRoom = numbers 1 0 0
numbers_of (Unsound i) = numbers 13 0 i
numbers_of (TooLong i) = numbers 14 0 i

-- what a result carries: its refusal's numbers; where nothing is refused, 0, 0, 0
abbrev pub numbers_told : {A : Type 0} → Result A Refusal → Numbers
numbers_told (Ok p) = numbers 0 0 0
numbers_told (Err e) = numbers_of e
