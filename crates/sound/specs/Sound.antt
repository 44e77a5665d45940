-- Sound: refusal 13 of document 01 for a plan in numbers: it "breaks a rule above, holds a value in a form that reading never gives, or points outside
-- its text". Numbers are sound where they are fit to show a plan and the plan that they show is sound.
-- Assumes nothing.
use Rattle.std.specs.Prelude.{Bool, true, ◌&&◌, List, ℕ, zero, suc, take, drop}
use Rattle.paper.specs.Lists.{if}
use Rattle.paper.specs.Writing.{sound_head, sound_row}
use Rattle.plan.specs.Numbers.{show_head, show_row, head_in_text, fit_record, stride}
use Rattle.plan.specs.declared.Plan.{Plan}

-- the head in numbers: no span points outside the text, and the head that it shows is sound
unfoldable pub head_sound : List ℕ → Plan → Bool
head_sound t p = head_in_text t p && sound_head (show_head t p)

-- a row's record: its kind is one, no span points outside the text, nothing stands where the kind has nothing, and the row that it shows is sound
unfoldable pub record_sound : List ℕ → List ℕ → Bool
record_sound t l = fit_record t l && sound_row (show_row t l)

-- the first n records
abbrev pub records_sound : List ℕ → ℕ → List ℕ → Bool
records_sound t zero rows = true
records_sound t (suc n) rows = record_sound t (take stride rows) && records_sound t n (drop stride rows)

-- "first bad row", counted from k, of the first n records; 0 if none is bad
abbrev pub first_bad_in : ℕ → List ℕ → ℕ → List ℕ → ℕ
first_bad_in k t zero rows = 0
first_bad_in k t (suc n) rows = if (record_sound t (take stride rows)) (first_bad_in (suc k) t n (drop stride rows)) k

-- the plan in numbers
abbrev pub numbers_sound : List ℕ → Plan → List ℕ → Bool
numbers_sound t p rows = head_sound t p && records_sound t p.rows rows

-- the place of refusal 13: "first bad row counted from 1, 0 for the head, head first"
abbrev pub bad_place : List ℕ → Plan → List ℕ → ℕ
bad_place t p rows = if (head_sound t p) (first_bad_in 1 t p.rows rows) 0
