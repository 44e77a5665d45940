-- Records: the numbers of a row's record among those of the rows, whatever it holds.
-- Assumes nothing.
use mathlib.Core.Path.{◌≡◌, ap, ◌∙◌}
use mathlib.Core.List.{List}
use Prim.Native.Nat.{ℕ, suc, ◌+◌, ◌*◌, ◌<◌}
use native.Mathlib.Omega.{arith}
use lib.ListN.{drop, get_or}
use lib.Seq.{drop-drop, get_or-take, get_or-drop}
use Rattle.plan.specs.Numbers.{record_at}
use Rattle.plan.specs.Records.{code_span_in, span_of}

-- the numbers behind i records of those behind the first record
pub records_behind : (i : ℕ) (rows : List ℕ) → drop (i * 48) (drop 48 rows) ≡ drop (suc i * 48) rows
records_behind i rows = let e : 48 + i * 48 ≡ suc i * 48 = omega arith in drop-drop (i * 48) 48 rows ∙ ap (λ (k : ℕ). drop k rows) e

-- a number of record i is a number of the rows
pub record_number : (rows : List ℕ) (i k : ℕ) → k < 48 → get_or (record_at rows i) k 0 ≡ get_or rows (i * 48 + k) 0
record_number rows i k h = get_or-take 48 (drop (i * 48) rows) k 0 h ∙ get_or-drop (i * 48) rows k 0

-- a span of record i is two numbers of the rows
pub record_span : (rows : List ℕ) (i j : ℕ) → j < 19 → code_span_in (record_at rows i) j ≡ span_of (get_or rows (i * 48 + 2 + 2 * j) 0) (get_or rows (i * 48 + 2 + 2 * j + 1) 0)
record_span rows i j h =
    let a : i * 48 + (2 + 2 * j) ≡ i * 48 + 2 + 2 * j = omega arith in
    let b : i * 48 + (3 + 2 * j) ≡ i * 48 + 2 + 2 * j + 1 = omega arith in
    rw (record_number rows i (2 + 2 * j) (omega arith), record_number rows i (3 + 2 * j) (omega arith), a, b)
