-- Values: the values that a record stands for: when one is present, and where the row has each.
-- Assumes nothing.
use mathlib.Core.Path.{◌≡◌, refl, sym, ap, subst, ◌∙◌}
use mathlib.Core.Bool.{Bool, true, false}
use mathlib.Core.List.{List, [], ◌∷◌, map}
use Prim.Native.Nat.{ℕ, zero, suc, ◌+◌, ◌-◌, ◌*◌, ◌/◌, ◌≤◌, ◌<◌}
use native.Mathlib.Nat.{le_of_suc-le-suc, not-suc-le-zero}
use native.Mathlib.Omega.{arith}
use lib.Dec.{eqb, leb}
use lib.ListN.{length, take, drop, get_or, replicate}
use borrow.Author.Tests.{ne_eqb, leb-true, leb-false, le-leb, lt-leb}
use Rattle.paper.specs.Lists.{bytes, if, same, is_empty}
use Rattle.paper.specs.Fields.{M, W, Field, fields_of}
use Rattle.paper.specs.Plan.{Slots, Row, slot, dose_from, dose_of}
use Rattle.paper.specs.Judging.{all_empty}
use Rattle.paper.specs.Layout.{Span, shown}
use Rattle.paper.specs.Cells.{of_m, of_w}
use Rattle.paper.proofs.Small.{no, if_same}
use Rattle.paper.proofs.CellLaws.{RowAt}
use Rattle.plan.specs.Numbers.{record_at, span_in, spans_in, spans_of, twos, before, to_last, row_with, absent, within}
use Rattle.plan.proofs.Records.{records_behind}
use Rattle.plan.proofs.Doses.{shows}
use Rattle.cell.specs.Numbered.{stands_for}

-- ---- presence

-- so many bytes are none exactly when they are 0
none_of : (n : ℕ) → is_empty (replicate n 0) ≡ eqb n 0
none_of zero = refl
none_of (suc n) = sym (ne_eqb (suc n) 0 (omega arith))

-- a value is present by its length alone
pub stands : (t : List ℕ) (s : Span) → is_empty (stands_for t s) ≡ absent s
stands t s = at (within (length t) s) refl
  where
    at : (b : Bool) → within (length t) s ≡ b → is_empty (if b (shown t s) (replicate s.len 0)) ≡ absent s
    at true e = shows t s e
    at false e = none_of s.len

-- ---- the W of a row

-- an element without values has no slot that is present
no_slot : (n : List ℕ) (fs : List Field) (w : Slots) → all_empty w ≡ true → slot n fs w ≡ []
no_slot n [] w e = refl
no_slot n (f ∷ fs) [] e = refl
no_slot n (f ∷ fs) ([] ∷ w) e = rw (no_slot n fs w e) (if_same (same n f.letters) [])
no_slot n (f ∷ fs) ((c ∷ v) ∷ w) e = no (sym e)

-- an absent W says no more than none
last_w_lem : (n : List ℕ) (i : ℕ) (w : Slots) (ws : List Slots) → of_w n i (before w ws) ≡ of_w n i (w ∷ ws)
last_w_lem n i w (v ∷ ws) = refl
last_w_lem n i w [] = at (all_empty w) refl i
  where
    at : (b : Bool) → all_empty w ≡ b → (i : ℕ) → of_w n i (if b [] (w ∷ [])) ≡ of_w n i (w ∷ [])
    at false e i = refl
    at true e zero = refl
    at true e (suc zero) = sym (no_slot n (fields_of W) w e)
    at true e (suc (suc i)) = refl

-- so nothing is lost with those behind the last present one
pub to_last_lem : (n : List ℕ) (ws : List Slots) (i : ℕ) → of_w n i (to_last ws) ≡ of_w n i ws
to_last_lem n [] i = refl
to_last_lem n (w ∷ ws) i = last_w_lem n i w (to_last ws) ∙ at i (to_last_lem n ws)
  where
    at : (i : ℕ) → ((j : ℕ) → of_w n j (to_last ws) ≡ of_w n j ws) → of_w n i (w ∷ to_last ws) ≡ of_w n i (w ∷ ws)
    at zero f = refl
    at (suc zero) f = refl
    at (suc (suc i)) f = f (suc i)

-- ---- where a medication has its values

module _ (t l : List ℕ) where
  -- the medication that the record stands for
  abbrev pub medication : Row
  medication = row_with M (get_or l 1 0) (map (stands_for t) (spans_of l))

  -- the value of span j
  abbrev pub value : ℕ → List ℕ
  value j = stands_for t (span_in l j)

  -- a and fd
  pub named : of_m (bytes "a") medication ≡ value 0
  unfolding fields_of spans_in
  named = refl

  pub formed : of_m (bytes "fd") medication ≡ value 2
  unfolding fields_of spans_in
  formed = refl

  -- m, d, v, h, and t
  pub dosed : dose_of medication ≡ dose_from (value 3) (value 4) (value 5) (value 6) (value 7)
  unfolding fields_of spans_in
  dosed = refl

  -- w and s of the three W
  pub substances : (i : ℕ) → 1 ≤ i → i ≤ 3 → (of_w (bytes "w") i medication.ws ≡ value (11 + 2 * i)) × (of_w (bytes "s") i medication.ws ≡ value (12 + 2 * i))
  unfolding fields_of spans_in
  substances i h g = (to_last_lem (bytes "w") ws i ∙ (at i h g).0, to_last_lem (bytes "s") ws i ∙ (at i h g).1)
    where
      ws : List Slots
      ws = twos 3 (drop 13 (map (stands_for t) (spans_of l)))

      at : (i : ℕ) → 1 ≤ i → i ≤ 3 → (of_w (bytes "w") i ws ≡ value (11 + 2 * i)) × (of_w (bytes "s") i ws ≡ value (12 + 2 * i))
      at zero h g = absurd (omega arith)
      at (suc zero) h g = (refl, refl)
      at (suc (suc zero)) h g = (refl, refl)
      at (suc (suc (suc zero))) h g = (refl, refl)
      at (suc (suc (suc (suc i)))) h g = absurd (omega arith)

-- ---- which row it is

module _ (g : List ℕ → Row) (rs : ℕ → List ℕ → List Row) (step : (n : ℕ) (rows : List ℕ) → rs (suc n) rows ≡ g (take 48 rows) ∷ rs n (drop 48 rows)) where
  row_by : (n : ℕ) (rows : List ℕ) (i : ℕ) → i < n → RowAt (rs n rows) (suc i) (g (record_at rows i))
  row_by zero rows i h = absurd (not-suc-le-zero h)
  row_by (suc n) rows zero h = rw (step n rows) refl
  row_by (suc n) rows (suc i) h =
      let same-record : record_at (drop 48 rows) i ≡ record_at rows (suc i) = ap (take 48) (records_behind i rows) in
      rw (step n rows) (subst (λ (x : List ℕ). RowAt (rs n (drop 48 rows)) (suc i) (g x)) same-record (row_by n (drop 48 rows) i (le_of_suc-le-suc h)))

  -- the row of a number, counted from 1, is that of its record
  pub row_numbered : (n : ℕ) (rows : List ℕ) (row : ℕ) → 1 ≤ row → row ≤ n → RowAt (rs n rows) row (g (record_at rows (row - 1)))
  row_numbered n rows row h l = let e : suc (row - 1) ≡ row = omega arith in subst (λ (i : ℕ). RowAt (rs n rows) i (g (record_at rows (row - 1)))) e (row_by n rows (row - 1) (omega arith))

-- a record lies in the rows exactly when its number is not above that of the whole records there
pub by_whole : (row n : ℕ) → leb row (n / 48) ≡ leb (row * 48) n
by_whole row n = at (leb row (n / 48)) refl
  where
    at : (b : Bool) → leb row (n / 48) ≡ b → b ≡ leb (row * 48) n
    at true e = let h = leb-true row (n / 48) e in sym (le-leb (row * 48) n (omega arith))
    at false e = let h = leb-false row (n / 48) e in sym (lt-leb (row * 48) n (omega arith))
