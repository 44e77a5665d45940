-- SoundLaws: what sound numbers promise: no first bad row, each record sound, and the plan that they show sound.
-- Assumes nothing.
use mathlib.Core.Path.{◌≡◌, refl, sym, ap, ◌∙◌}
use mathlib.Core.Bool.{Bool, true, false, ◌&&◌}
use mathlib.Core.Logic.{◌↔◌}
use mathlib.Core.List.{List}
use Prim.Native.Nat.{ℕ, zero, suc, ◌<◌}
use native.Mathlib.Nat.{le_of_suc-le-suc, not-suc-le-zero}
use native.Mathlib.Omega.{arith}
use lib.ListN.{take, drop}
use Rattle.paper.specs.Lists.{if, every}
use Rattle.paper.specs.Writing.{sound_head, sound_row, sound}
use Rattle.paper.proofs.Small.{both, no}
use Rattle.plan.specs.Numbers.{record_at, show_head, show_row, show_rows, show_plan, head_in_text, fit_record, fit_rows}
use Rattle.plan.specs.declared.Plan.{Plan}
use Rattle.plan.proofs.Records.{records_behind}
use Rattle.sound.specs.Sound.{head_sound, record_sound, records_sound, first_bad_in, numbers_sound}

-- counted from 1 or above, no row is the first bad one just when all are sound
none_bad : (t : List ℕ) (n k : ℕ) (rows : List ℕ) → (first_bad_in (suc k) t n rows ≡ 0) ↔ (records_sound t n rows ≡ true)
none_bad t zero k rows = (λ e. refl, λ e. refl)
none_bad t (suc n) k rows = go (record_sound t (take 48 rows)) (none_bad t n (suc k) (drop 48 rows))
  where
    go : (b : Bool) → (first_bad_in (suc (suc k)) t n (drop 48 rows) ≡ 0) ↔ (records_sound t n (drop 48 rows) ≡ true)
        → (if b (first_bad_in (suc (suc k)) t n (drop 48 rows)) (suc k) ≡ 0) ↔ ((b && records_sound t n (drop 48 rows)) ≡ true)
    go true ih = ih
    go false ih = (λ e. absurd (omega arith), λ e. no (sym e))

-- no row is the first bad one just when all are sound
pub no_bad_row : (t : List ℕ) (n : ℕ) (rows : List ℕ) → (first_bad_in 1 t n rows ≡ 0) ↔ (records_sound t n rows ≡ true)
no_bad_row t n rows = none_bad t n 0 rows

-- what is tested of the first n records, one after the other, holds of each
module _ (one : List ℕ → Bool) (all : ℕ → List ℕ → Bool) (first : (n : ℕ) (rows : List ℕ) → all (suc n) rows ≡ true → (one (take 48 rows) ≡ true) × (all n (drop 48 rows) ≡ true)) where
  each : (n : ℕ) (rows : List ℕ) (i : ℕ) → i < n → all n rows ≡ true → one (record_at rows i) ≡ true
  each zero rows i h e = absurd (not-suc-le-zero h)
  each (suc n) rows zero h e = (first n rows e).0
  each (suc n) rows (suc i) h e = ap (λ (l : List ℕ). one (take 48 l)) (sym (records_behind i rows)) ∙ each n (drop 48 rows) i (le_of_suc-le-suc h) (first n rows e).1

module _ (t : List ℕ) where
  -- each of sound records is sound
  pub each_sound : (n : ℕ) (rows : List ℕ) (i : ℕ) → i < n → records_sound t n rows ≡ true → record_sound t (record_at rows i) ≡ true
  each_sound = each (record_sound t) (records_sound t) (λ n rows e. both (record_sound t (take 48 rows)) (records_sound t n (drop 48 rows)) e)

  -- each of fit records is fit
  pub each_fit : (n : ℕ) (rows : List ℕ) (i : ℕ) → i < n → fit_rows t n rows ≡ true → fit_record t (record_at rows i) ≡ true
  each_fit = each (fit_record t) (fit_rows t) (λ n rows e. both (fit_record t (take 48 rows)) (fit_rows t n (drop 48 rows)) e)

  -- each record that shows one of sound rows shows a sound row
  pub each_shown : (n : ℕ) (rows : List ℕ) (i : ℕ) → i < n → every sound_row (show_rows t n rows) ≡ true → sound_row (show_row t (record_at rows i)) ≡ true
  each_shown = each (λ l. sound_row (show_row t l)) (λ n rows. every sound_row (show_rows t n rows)) (λ n rows e. both (sound_row (show_row t (take 48 rows))) (every sound_row (show_rows t n (drop 48 rows))) e)

-- a sound record shows a sound row
pub row_shown : (t l : List ℕ) → record_sound t l ≡ true → sound_row (show_row t l) ≡ true
unfolding record_sound
row_shown t l e = (both (fit_record t l) (sound_row (show_row t l)) e).1

rows_shown : (t : List ℕ) (n : ℕ) (rows : List ℕ) → records_sound t n rows ≡ true → every sound_row (show_rows t n rows) ≡ true
rows_shown t zero rows e = refl
rows_shown t (suc n) rows e =
    let (a, b) = both (record_sound t (take 48 rows)) (records_sound t n (drop 48 rows)) e in
    rw (row_shown t (take 48 rows) a, rows_shown t n (drop 48 rows) b)

-- a sound head in numbers shows a sound head
pub head_shown : (t : List ℕ) (p : Plan) → head_sound t p ≡ true → sound_head (show_head t p) ≡ true
unfolding head_sound
head_shown t p e = (both (head_in_text t p) (sound_head (show_head t p)) e).1

-- the plan that sound numbers show is sound
pub plan_sound : (t : List ℕ) (p : Plan) (rows : List ℕ) → numbers_sound t p rows ≡ true → sound (show_plan t p rows) ≡ true
plan_sound t p rows e =
    let (a, b) = both (head_sound t p) (records_sound t p.rows rows) e in
    rw (head_shown t p a, rows_shown t p.rows rows b)
