-- Answers: document 01, "Refusal numbers and their order". The number, page and place of each refusal that code gives.
-- Assumes nothing.
use Rattle.std.specs.Prelude.{ℕ, Result, Ok, Err}
use Rattle.paper.specs.Reading as Paper
use Rattle.paper.specs.Reading.{Numbers, numbers}
use Rattle.reader.specs.declared.answer.Refusal.{Refusal}
use Rattle.reader.specs.declared.answer.Refusal.TheVariants.{NoRoom, PageSize, ByteRefused, Malformed, OutOfPlace, OtherEdition, BrokenValue, Incomplete, OtherHead, NumberTwice, NumberMissing, TooManyRows}

-- the table of refusals: what each case carries
abbrev pub numbers_of : Refusal → Numbers
numbers_of NoRoom = numbers 1 0 0
numbers_of (PageSize k) = numbers 2 k 0
numbers_of (ByteRefused k i) = numbers 3 k i
numbers_of (Malformed k i) = numbers 4 k i
numbers_of (OutOfPlace k i) = numbers 5 k i
numbers_of (OtherEdition k i) = numbers 6 k i
numbers_of (BrokenValue k i) = numbers 7 k i
numbers_of (Incomplete k i) = numbers 8 k i
numbers_of (OtherHead k) = numbers 9 k 0
numbers_of (NumberTwice k) = numbers 10 k 0
numbers_of (NumberMissing n) = numbers 11 n 0
numbers_of TooManyRows = numbers 12 0 0

-- what a result carries: its refusal's numbers; where nothing is refused, 0, 0, 0
abbrev pub numbers_told : {A : Type 0} → Result A Refusal → Numbers
numbers_told (Ok p) = numbers 0 0 0
numbers_told (Err x) = numbers_of x

-- what the definition of reading says an answer carries
abbrev pub told : Paper.Answer → Numbers
told (Paper.refusal n k i) = numbers n k i
told (Paper.plan p) = numbers 0 0 0

-- the answer of the definition of reading that a refusal is
abbrev pub refused_as : Refusal → Paper.Answer
refused_as x = Paper.refusal (numbers_of x).number (numbers_of x).page (numbers_of x).place

-- what is told of pages judged one by one: the refusal of the first that is refused; else nothing is
abbrev pub told_of : Paper.Judgement → Numbers
told_of (Paper.stopped n k i) = numbers n k i
told_of (Paper.sheets l) = numbers 0 0 0
