-- OrderLaws: the pages by their numbers, one after the other, as the call that hands them in.
-- Assumes nothing.
use mathlib.Core.Path.{◌≡◌, refl, ap, sym, ◌∙◌, subst}
use mathlib.Core.Bool.{Bool, true, false, not, ◌&&◌}
use mathlib.Core.List.{List, [], ◌∷◌, ◌++◌}
use Prim.Native.Nat.{ℕ, zero, suc, ◌+◌, ◌≤◌, ◌<◌}
use native.Mathlib.Nat.{add-zero}
use native.Mathlib.Numerals.{add-one}
use native.Mathlib.Omega.{arith}
use lib.Dec.{eqb, leb}
use lib.ListN.{length, take, set, length-set}
use lib.Seq.{take-suc-set}
use borrow.Author.Tests.{le-leb, eqb-true, eqb-false}
use Rattle.paper.specs.Lists.{if}
use Rattle.paper.specs.Calls.{inside, pages_at, roomy, read_at, read_call}
use Rattle.paper.specs.Reading as Paper
use Rattle.plan.specs.Numbers.{rows_lent}
use Rattle.reader.specs.Pages.{picked, first_of}
use Rattle.reader.specs.Promise.{Promised, answered}
use Rattle.std.specs.Prelude.{Result}
use Rattle.plan.specs.declared.Plan.{Plan}
use Rattle.reader.specs.declared.answer.Refusal.{Refusal}
use Rattle.reader.proofs.Digits.{none_picked}
use Rattle.collector.specs.Keeping.{start_of, len_of, here, kept, count_of, missing, in_order, read_of, collected}
use Rattle.collector.specs.declared.store.Collector.{Collector}
use Rattle.collector.proofs.KeepLaws.{is_kept}
use Rattle.collector.proofs.MaskLaws.{count_nine}

-- ---- k pages are found

-- one number more
order_more : {A : Type 0} (f : ℕ → A) (k n : ℕ) → in_order f n (k + 1) ≡ in_order f n k ++ f (n + k) ∷ []
order_more f k n = rw (add-one k) (at k n)
  where
    at : (k n : ℕ) → in_order f n (suc k) ≡ in_order f n k ++ f (n + k) ∷ []
    at zero n = rw (add-zero n)
    at (suc k) n = let e : suc n + k ≡ n + suc k = omega arith in ap (λ l. f n ∷ l) (at k (suc n) ∙ rw e)

-- the starts and lengths of the first k of z pages, all of them here
pub record Held (lens starts sizes : List ℕ) (z k : ℕ) : Type 0 where
  pub within : k ≤ z
  pub nine : z ≤ 9
  pub long : length starts ≡ 9
  pub wide : length sizes ≡ 9
  pub starts_are : take k starts ≡ in_order start_of 1 k
  pub sizes_are : take k sizes ≡ in_order (len_of lens) 1 k
  pub all : (i : ℕ) → 1 ≤ i → i < 1 + k → here lens i ≡ true

stored : (f : ℕ → ℕ) (l : List ℕ) (k x : ℕ) → k < length l → take k l ≡ in_order f 1 k → x ≡ f (k + 1) → take (k + 1) (set l k x) ≡ in_order f 1 (k + 1)
stored f l k x h e q =
    let c : k + 1 ≡ 1 + k = omega arith in
    let same : take k l ++ x ∷ [] ≡ in_order f 1 k ++ f (1 + k) ∷ [] = rw (e, q, c) in
    ap (λ (j : ℕ). take j (set l k x)) (add-one k) ∙ (take-suc-set l k x h ∙ (same ∙ sym (order_more f k 1)))

pub next_page : (lens starts sizes : List ℕ) (z k s l : ℕ) → Held lens starts sizes z k → k < z → here lens (k + 1) ≡ true → s ≡ start_of (k + 1) → l ≡ len_of lens (k + 1)
    → Held lens (set starts k s) (set sizes k l) z (k + 1)
next_page lens starts sizes z k s l H h t p q = record {
  within = omega arith;
  nine = H.nine;
  long = length-set starts k s ∙ H.long;
  wide = length-set sizes k l ∙ H.wide;
  starts_are = stored start_of starts k s (omega (arith, H.long, H.nine)) H.starts_are p;
  sizes_are = stored (len_of lens) sizes k l (omega (arith, H.wide, H.nine)) H.sizes_are q;
  all = at;
}
  where
    at : (i : ℕ) → 1 ≤ i → i < 1 + (k + 1) → here lens i ≡ true
    at i a b = go (eqb (k + 1) i) refl
      where
        go : (x : Bool) → eqb (k + 1) i ≡ x → here lens i ≡ true
        go true e = ap (here lens) (sym (eqb-true (k + 1) i e)) ∙ t
        go false e = let ne = eqb-false (k + 1) i e in H.all i a (omega arith)

-- ---- a number that is missing

-- the first that passes
first_picked : (p : ℕ → Bool) (k n m : ℕ) → n ≤ m → m < n + k → p m ≡ true → ((i : ℕ) → n ≤ i → i < m → p i ≡ false) → first_of (picked p n k) ≡ m
first_picked p zero n m a b t f = absurd (omega arith)
first_picked p (suc k) n m a b t f = at (eqb n m) refl (λ g. first_picked p k (suc n) m g (omega arith) t (λ i x y. f i (omega arith) y))
  where
    at : (b : Bool) → eqb n m ≡ b → (suc n ≤ m → first_of (picked p (suc n) k) ≡ m) → first_of (picked p n (suc k)) ≡ m
    at true e ih =
        let q : n ≡ m = eqb-true n m e in
        let y : p n ≡ true = ap p q ∙ t in
        rw y q
    at false e ih = let ne = eqb-false n m e in rw (f n (omega arith) (omega arith)) (ih (omega arith))

module _ (c : Collector) (starts sizes : List ℕ) (k : ℕ) (H : Held c.lens starts sizes (count_of c.z) k) where
  -- the page of the next number is missing
  pub lowest_is : k < count_of c.z → here c.lens (k + 1) ≡ false → first_of (missing c) ≡ k + 1
  unfolding missing
  lowest_is h e =
      first_picked (λ n. not (here c.lens n)) (count_of c.z) 1 (k + 1) (omega arith) (omega arith) (ap not e) (λ i a b. ap not (H.all i a (omega arith)))

  -- none is
  pub none_missing : count_of c.z ≤ k → missing c ≡ []
  unfolding missing
  none_missing h = none_picked (λ n. not (here c.lens n)) 1 (count_of c.z) (λ i a b. ap not (H.all i a (omega arith)))

-- ---- the call

-- the pages of the call are those by their numbers
pub pages_are : (pages lens : List ℕ) (k n : ℕ) → pages_at pages (in_order start_of n k) (in_order (len_of lens) n k) ≡ in_order (kept pages lens) n k
pages_are pages lens zero n = refl
pages_are pages lens (suc k) n = ap (λ (l : List (List ℕ)). kept pages lens n ∷ l) (pages_are pages lens k (suc n))

-- they lie in the room
pub all_inside : (pages lens : List ℕ) (k n : ℕ) → length pages ≡ 12600 → ((i : ℕ) → n ≤ i → i < n + k → here lens i ≡ true) → inside pages (in_order start_of n k) (in_order (len_of lens) n k) ≡ true
all_inside pages lens zero n long h = refl
all_inside pages lens (suc k) n long h =
    let K = is_kept lens n (h n (omega arith) (omega arith)) in
    rw (le-leb (start_of n + len_of lens n) (length pages) (omega (arith, long, K.least, K.most, K.short)), all_inside pages lens k (suc n) long (λ i a b. h i (omega arith) (omega arith)))

order_long : {A : Type 0} (f : ℕ → A) (k n : ℕ) → length (in_order f n k) ≡ k
order_long f zero n = refl
order_long f (suc k) n = ap suc (order_long f k (suc n))

-- reading them is reading the call that hands them in
called : (room : Bool) (pages lens : List ℕ) (z : ℕ) → room ≡ true → z ≤ 9 → length pages ≡ 12600 → ((i : ℕ) → 1 ≤ i → i < 1 + z → here lens i ≡ true)
    → read_at room pages (in_order start_of 1 z) (in_order (len_of lens) 1 z) ≡ Paper.read (in_order (kept pages lens) 1 z)
unfolding read_at Paper.read
called room pages lens zero r h long all = rw r
called room pages lens (suc z) r h long all =
    let n : length (in_order start_of 1 (suc z)) ≡ suc z = order_long start_of (suc z) 1 in
    let i : inside pages (in_order start_of 1 (suc z)) (in_order (len_of lens) 1 (suc z)) ≡ true = all_inside pages lens (suc z) 1 long all in
    let made : (room && (leb 1 (length (in_order start_of 1 (suc z))) && (leb (length (in_order start_of 1 (suc z))) 9 && inside pages (in_order start_of 1 (suc z)) (in_order (len_of lens) 1 (suc z))))) ≡ true
    = rw (r, n, i, le-leb 1 (suc z) (omega arith), le-leb (suc z) 9 h) in
    ap (λ (b : Bool). if b (Paper.read (pages_at pages (in_order start_of 1 (suc z)) (in_order (len_of lens) 1 (suc z)))) (Paper.refusal 1 0 0)) made
    ∙ ap Paper.read (pages_are pages lens (suc z) 1)

module _ (rows text : List ℕ) (c : Collector) where
  -- too little room
  pub too_small : roomy (rows_lent (length rows)) (length text) ≡ false → collected rows text c ≡ Paper.refusal 1 0 0
  unfolding collected
  too_small e = rw e

  module _ (room : roomy (rows_lent (length rows)) (length text) ≡ true) where
    -- a number is missing
    pub eleven : (n : ℕ) → first_of (missing c) ≡ n + 1 → collected rows text c ≡ Paper.refusal 11 (n + 1) 0
    unfolding collected read_of
    eleven n e = rw (room, e, add-one n)

    -- none is: the call that hands the pages in
    pub as_called : length c.pages ≡ 12600 → (starts sizes : List ℕ) (k : ℕ) → Held c.lens starts sizes (count_of c.z) k → count_of c.z ≤ k
        → answered rows text c.pages (take (count_of c.z) starts) (take (count_of c.z) sizes) ≡ collected rows text c
    unfolding collected read_of read_call
    as_called long starts sizes k H h =
        let e : k ≡ count_of c.z = omega (arith, H.within) in
        let ss : take (count_of c.z) starts ≡ in_order start_of 1 (count_of c.z) = rw (← e) H.starts_are in
        let ns : take (count_of c.z) sizes ≡ in_order (len_of c.lens) 1 (count_of c.z) = rw (← e) H.sizes_are in
        let all : (i : ℕ) → 1 ≤ i → i < 1 + count_of c.z → here c.lens i ≡ true = λ i a b. H.all i a (omega arith) in
        rw (ss, ns, none_missing c starts sizes k H h, room) (called true c.pages c.lens (count_of c.z) refl (count_nine c.z) long all)

-- what is promised for an answer is promised for the same answer
pub promised_as : (A B : Paper.Answer) → A ≡ B → (rows text : List ℕ) (r : Result Plan Refusal) (rows' text' : List ℕ) → Promised A rows text r rows' text' → Promised B rows text r rows' text'
promised_as A B e rows text r rows' text' p = subst (λ (X : Paper.Answer). Promised X rows text r rows' text') e p
