-- Refused: a refusal in numbers, as every function of this crate gives it.
-- Assumes nothing.
use Rattle.std.specs.Prelude.{ℕ, Result, Ok, Err}
use Rattle.paper.specs.Reading.{Numbers, numbers}
use Rattle.tollgilt.specs.declared.refused.Refused.{Refused}

-- the refusal of that number, page and place
abbrev pub refused_with : ℕ → ℕ → ℕ → Refused
refused_with n k i = record { number = n; page = k; place = i }

-- the same from the three together
abbrev pub refused : Numbers → Refused
refused t = refused_with t.number t.page t.place

-- what a result carries: its refusal's numbers; where nothing is refused, 0, 0, 0
abbrev pub numbers_of : {A : Type 0} → Result A Refused → Numbers
numbers_of (Ok x) = numbers 0 0 0
numbers_of (Err e) = numbers e.number e.page e.place
