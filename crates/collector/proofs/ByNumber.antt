-- ByNumber: the pages of a collector of document 01 by their numbers are its pages in another order, where none is missing.
-- Assumes nothing.
use mathlib.Core.Path.{◌≡◌, refl, ap, sym, ◌∙◌, subst}
use mathlib.Core.Bool.{Bool, true, false, ◌||◌}
use mathlib.Core.List.{List, [], ◌∷◌}
use Prim.Native.Nat.{ℕ, zero, suc, ◌+◌, ◌≤◌, ◌<◌}
use native.Mathlib.Omega.{arith}
use lib.Dec.{eqb}
use borrow.Author.Tests.{eqb-true, eqb-false, eq-eqb, ne_eqb}
use Rattle.paper.specs.Lists.{if}
use Rattle.paper.specs.Plan.{Head}
use Rattle.paper.specs.Judging.{Sheet}
use Rattle.paper.specs.Reading.{has}
use Rattle.paper.specs.Collecting.{Collector, bytes_at, sheets_in, pages_in, missing_numbers}
use Rattle.paper.proofs.Small.{no}
use Rattle.paper.proofs.AnyOrder.{Perm, Alike, Distinct}
use Rattle.paper.proofs.AnyOrder.Perm.{nil, skip, swap, trans}
use Rattle.paper.proofs.Collected.{Reached, holds, NumberedAll, In, missing_just}
use Rattle.collector.specs.Keeping.{in_order}
use Rattle.collector.specs.Shows.{count_in}

-- ---- one page taken out

-- the collector without the first page of that number
abbrev less : ℕ → Collector → Collector
less n [] = []
less n (x ∷ k) = if (eqb x.says.no n) k (x ∷ less n k)

perm_refl : (l : List (List ℕ)) → Perm l l
perm_refl [] = nil
perm_refl (w ∷ l) = skip w (perm_refl l)

out_first : (n : ℕ) (k : Collector) → has n (sheets_in k) ≡ true → Perm (pages_in k) (bytes_at n k ∷ pages_in (less n k))
out_first n [] e = no (sym e)
out_first n (x ∷ k) e = at (eqb x.says.no n) e (out_first n k)
  where
    at : (b : Bool) → (b || has n (sheets_in k)) ≡ true → (has n (sheets_in k) ≡ true → Perm (pages_in k) (bytes_at n k ∷ pages_in (less n k)))
        → Perm (x.bytes ∷ pages_in k) (if b x.bytes (bytes_at n k) ∷ pages_in (if b k (x ∷ less n k)))
    at true e ih = perm_refl (x.bytes ∷ pages_in k)
    at false e ih = trans (skip x.bytes (ih e)) (swap x.bytes (bytes_at n k) (pages_in (less n k)))

module _ (n : ℕ) where
  -- the other numbers are as they were
  less_has : (m : ℕ) → (m ≡ n → ⊥) → (k : Collector) → has m (sheets_in (less n k)) ≡ has m (sheets_in k)
  less_has m ne [] = refl
  less_has m ne (x ∷ k) = at (eqb x.says.no n) refl (less_has m ne k)
    where
      at : (b : Bool) → eqb x.says.no n ≡ b → has m (sheets_in (less n k)) ≡ has m (sheets_in k) → has m (sheets_in (if b k (x ∷ less n k))) ≡ (eqb x.says.no m || has m (sheets_in k))
      at true e ih = let q = eqb-true x.says.no n e in rw (ne_eqb x.says.no m (λ p. ne (sym p ∙ q)))
      at false e ih = rw ih

  less_bytes : (m : ℕ) → (m ≡ n → ⊥) → (k : Collector) → bytes_at m (less n k) ≡ bytes_at m k
  less_bytes m ne [] = refl
  less_bytes m ne (x ∷ k) = at (eqb x.says.no n) refl (less_bytes m ne k)
    where
      at : (b : Bool) → eqb x.says.no n ≡ b → bytes_at m (less n k) ≡ bytes_at m k → bytes_at m (if b k (x ∷ less n k)) ≡ if (eqb x.says.no m) x.bytes (bytes_at m k)
      at true e ih = let q = eqb-true x.says.no n e in rw (ne_eqb x.says.no m (λ p. ne (sym p ∙ q)))
      at false e ih = rw ih

  -- the number itself is gone
  less_none : (k : Collector) → Distinct (sheets_in k) → has n (sheets_in (less n k)) ≡ false
  less_none [] d = refl
  less_none (x ∷ k) d = at (eqb x.says.no n) refl (less_none k d.1)
    where
      at : (b : Bool) → eqb x.says.no n ≡ b → has n (sheets_in (less n k)) ≡ false → has n (sheets_in (if b k (x ∷ less n k))) ≡ false
      at true e ih = ap (λ (m : ℕ). has m (sheets_in k)) (sym (eqb-true x.says.no n e)) ∙ d.0
      at false e ih = rw (e, ih)

  less_distinct : (k : Collector) → Distinct (sheets_in k) → Distinct (sheets_in (less n k))
  less_distinct [] d = tt
  less_distinct (x ∷ k) d = at (eqb x.says.no n) refl (less_distinct k d.1)
    where
      at : (b : Bool) → eqb x.says.no n ≡ b → Distinct (sheets_in (less n k)) → Distinct (sheets_in (if b k (x ∷ less n k)))
      at true e ih = d.1
      at false e ih = (less_has x.says.no (eqb-false x.says.no n e) k ∙ d.0, ih)

-- ---- all pages by their numbers

pub order_same : {A : Type 0} (f g : ℕ → A) (m n : ℕ) → ((j : ℕ) → n ≤ j → j < n + m → f j ≡ g j) → in_order f n m ≡ in_order g n m
order_same f g zero n h = refl
order_same f g (suc m) n h = rw (h n (omega arith) (omega arith), order_same f g m (suc n) (λ j a b. h j (omega arith) (omega arith)))

by_numbers : (m n : ℕ) (k : Collector) → Distinct (sheets_in k) → ((j : ℕ) → n ≤ j → j < n + m → has j (sheets_in k) ≡ true) → ((j : ℕ) → has j (sheets_in k) ≡ true → (n ≤ j) × (j < n + m))
    → Perm (pages_in k) (in_order (λ j. bytes_at j k) n m)
by_numbers zero n [] d full only = nil
by_numbers zero n (x ∷ k) d full only =
    let self : has x.says.no (sheets_in (x ∷ k)) ≡ true = rw (eq-eqb x.says.no x.says.no refl) in
    absurd (let (a, b) = only x.says.no self in omega arith)
by_numbers (suc m) n k d full only =
    let same : in_order (λ j. bytes_at j (less n k)) (suc n) m ≡ in_order (λ j. bytes_at j k) (suc n) m = order_same (λ j. bytes_at j (less n k)) (λ j. bytes_at j k) m (suc n) (λ j a b. less_bytes n j (omega arith) k) in
    trans (out_first n k (full n (omega arith) (omega arith)))
    (skip (bytes_at n k) (subst (Perm (pages_in (less n k))) same (by_numbers m (suc n) (less n k) (less_distinct n k d) (λ j a b. less_has n j (omega arith) k ∙ full j (omega arith) (omega arith)) rest)))
  where
    rest : (j : ℕ) → has j (sheets_in (less n k)) ≡ true → (suc n ≤ j) × (j < suc n + m)
    rest j e = at (eqb j n) refl
      where
        at : (b : Bool) → eqb j n ≡ b → (suc n ≤ j) × (j < suc n + m)
        at true q = no (sym e ∙ (ap (λ (i : ℕ). has i (sheets_in (less n k))) (eqb-true j n q) ∙ less_none n k d))
        at false q =
            let ne = eqb-false j n q in
            let (a, b) = only j (sym (less_has n j ne k) ∙ e) in (omega arith, omega arith)

-- the numbers of pages of one count are 1 up to it
pub within_count : (z : ℕ) (h : Head) (l : List Sheet) → Alike z h l → NumberedAll l → (j : ℕ) → has j l ≡ true → (1 ≤ j) × (j < 1 + z)
within_count z h [] a n j e = no (sym e)
within_count z h (s ∷ l) a n j e = at (eqb s.no j) refl e (within_count z h l a.2 n.1 j)
  where
    at : (b : Bool) → eqb s.no j ≡ b → (b || has j l) ≡ true → (has j l ≡ true → (1 ≤ j) × (j < 1 + z)) → (1 ≤ j) × (j < 1 + z)
    at true q e ih =
        let p = eqb-true s.no j q in
        let low = n.0.least in
        let high = n.0.most in
        let c = a.0 in
        (omega arith, omega arith)
    at false q e ih = ih e

-- where no number is missing, each of them is there
pub all_there : (k : Collector) → missing_numbers k ≡ [] → (j : ℕ) → 1 ≤ j → j < 1 + count_in k → has j (sheets_in k) ≡ true
all_there [] e j a b = absurd (omega arith)
all_there (x ∷ k) e j a b = at (has j (sheets_in (x ∷ k))) refl
  where
    at : (t : Bool) → has j (sheets_in (x ∷ k)) ≡ t → has j (sheets_in (x ∷ k)) ≡ true
    at true q = q
    at false q = absurd (subst (In j) e ((missing_just x k j).1 (a, omega arith, q)))

-- so the pages by their numbers are the pages
pub in_order_lem : (k : Collector) → Reached k → missing_numbers k ≡ [] → Perm (pages_in k) (in_order (λ j. bytes_at j k) 1 (count_in k))
in_order_lem [] r e = nil
in_order_lem (x ∷ k) r e =
    let H = holds r in
    by_numbers x.says.of 1 (x ∷ k) H.distinct (all_there (x ∷ k) e) (within_count x.says.of x.says.head (sheets_in (x ∷ k)) (refl, refl, H.alike) H.within)
