-- Stretches: some of the records of a plan: those from one on up to another are sound and show rows as all do; and the first bad record is one of them.
-- Assumes nothing.
use mathlib.Core.Path.{◌≡◌, ap, sym, ◌∙◌}
use mathlib.Core.Bool.{Bool, true, false}
use mathlib.Core.List.{List, ◌∷◌, ◌++◌}
use Prim.Native.Nat.{ℕ, zero, suc, ◌+◌, ◌*◌, ◌-◌, ◌≤◌}
use native.Mathlib.Omega.{arith}
use lib.ListN.{take, drop}
use lib.Seq.{slice}
use Rattle.std.proofs.lemmas.List.{drop-take}
use Rattle.paper.specs.Lists.{if}
use Rattle.paper.specs.Plan.{Row}
use Rattle.plan.specs.Numbers.{show_row, show_rows}
use Rattle.plan.proofs.Records.{records_behind}
use Rattle.sound.specs.Sound.{record_sound, first_bad_in}

-- a part of a list, from its place and its length
pub part_from : (from to : ℕ) (l : List ℕ) → from ≤ to → take (to - from) (drop from l) ≡ slice from to l
part_from from to l h = let e : from + (to - from) ≡ to = omega arith in sym (drop-take from (to - from) l) ∙ ap (λ (n : ℕ). drop from (take n l)) e

-- the rows that records show, and those that the records behind them show
pub rows_split : (t : List ℕ) (m n k : ℕ) (rows : List ℕ) → k ≡ m + n → show_rows t k rows ≡ show_rows t m rows ++ show_rows t n (drop (m * 48) rows)
rows_split t zero n k rows q = let r : k ≡ n = omega arith in ap (λ (j : ℕ). show_rows t j rows) r
rows_split t (suc m) n zero rows q = absurd (omega arith)
rows_split t (suc m) n (suc k) rows q =
    ap (λ (l : List Row). show_row t (take 48 rows) ∷ l) (rows_split t m n k (drop 48 rows) (omega arith) ∙ ap (λ (r : List ℕ). show_rows t m (drop 48 rows) ++ show_rows t n r) (records_behind m rows))

-- the first bad row is one of them
pub bad_row : (k : ℕ) (t : List ℕ) (n : ℕ) (rows : List ℕ) → first_bad_in k t n rows ≤ k + n
bad_row k t zero rows = omega arith
bad_row k t (suc n) rows = at (record_sound t (take 48 rows)) (bad_row (suc k) t n (drop 48 rows))
  where
    at : (b : Bool) → first_bad_in (suc k) t n (drop 48 rows) ≤ suc k + n → if b (first_bad_in (suc k) t n (drop 48 rows)) k ≤ k + suc n
    at true h = omega arith
    at false h = omega arith
