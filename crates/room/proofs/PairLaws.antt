-- PairLaws: numbers two by two: the pair at a place, a pair that is put there, and numbers that are all 0.
-- Assumes nothing.
use mathlib.Core.Path.{◌≡◌, refl, ap, ◌∙◌}
use mathlib.Core.Logic.{◌≢◌}
use mathlib.Core.List.{List}
use Prim.Native.Nat.{ℕ, zero, suc, ◌+◌, ◌*◌, ◌≤◌, ◌<◌}
use native.Mathlib.Omega.{arith}
use lib.ListN.{length, get_or, set, length-set}
use lib.Seq.{get_or-set_same, get_or-set_other}
use Rattle.room.specs.Paired.{pairs_at, EachPair}

-- ---- two numbers are put at a place

abbrev pub put : List ℕ → ℕ → ℕ → ℕ → List ℕ
put t s a b = set (set t s a) (s + 1) b

pub put_other : (t : List ℕ) (s a b k : ℕ) → k ≢ s → k ≢ s + 1 → get_or (put t s a b) k 0 ≡ get_or t k 0
put_other t s a b k h g = get_or-set_other (set t s a) (s + 1) k b 0 g ∙ get_or-set_other t s k a 0 h

pub put_one : (t : List ℕ) (s a b : ℕ) → s < length t → get_or (put t s a b) s 0 ≡ a
put_one t s a b h = get_or-set_other (set t s a) (s + 1) s b 0 (λ e. omega arith) ∙ get_or-set_same t s a 0 h

pub put_two : (t : List ℕ) (s a b : ℕ) → s + 1 < length t → get_or (put t s a b) (s + 1) 0 ≡ b
put_two t s a b h = get_or-set_same (set t s a) (s + 1) b 0 (rw (length-set t s a) h)

pub put_long : (t : List ℕ) (s a b : ℕ) → length (put t s a b) ≡ length t
put_long t s a b = length-set (set t s a) (s + 1) b ∙ length-set t s a

-- ---- what pairs tell

module _ {A : Type 0} (f : ℕ → ℕ → A) where
  pub pairs_long : (n : ℕ) (t : List ℕ) (i : ℕ) → length (pairs_at f n t i) ≡ n
  pairs_long zero t i = refl
  pairs_long (suc n) t i = ap suc (pairs_long n t (i + 2))

  -- pair j of n
  pub pairs_at_lem : (n : ℕ) (t : List ℕ) (i j : ℕ) (d : A) → j < n → get_or (pairs_at f n t i) j d ≡ f (get_or t (i + 2 * j) 0) (get_or t (i + 2 * j + 1) 0)
  pairs_at_lem zero t i j d h = absurd (omega arith)
  pairs_at_lem (suc n) t i zero d h = let z : i + 2 * 0 ≡ i = omega arith in rw z
  pairs_at_lem (suc n) t i (suc j) d h = let z : i + 2 * suc j ≡ i + 2 + 2 * j = omega arith in rw z (pairs_at_lem n t (i + 2) j d (omega arith))

  -- pairs behind the one that is put
  pairs_behind : (t : List ℕ) (s a b n i : ℕ) → s + 2 ≤ i → pairs_at f n (put t s a b) i ≡ pairs_at f n t i
  pairs_behind t s a b zero i h = refl
  pairs_behind t s a b (suc n) i h =
      rw (put_other t s a b i (λ e. omega arith) (λ e. omega arith), put_other t s a b (i + 1) (λ e. omega arith) (λ e. omega arith), pairs_behind t s a b n (i + 2) (omega arith))

  -- pair j is put
  pub pairs_put : (t : List ℕ) (a b n i j s : ℕ) → j < n → s ≡ i + 2 * j → i + 2 * n ≤ length t → pairs_at f n (put t s a b) i ≡ set (pairs_at f n t i) j (f a b)
  pairs_put t a b zero i j s h e l = absurd (omega arith)
  pairs_put t a b (suc n) i zero s h e l =
      let z : s ≡ i = omega arith in
      rw (z, put_one t i a b (omega arith), put_two t i a b (omega arith), pairs_behind t i a b n (i + 2) (omega arith))
  pairs_put t a b (suc n) i (suc j) s h e l =
      rw (
        put_other t s a b i (λ q. omega arith) (λ q. omega arith),
        put_other t s a b (i + 1) (λ q. omega arith) (λ q. omega arith),
        pairs_put t a b n (i + 2) j s (omega arith) (omega arith) (omega arith),
      )

-- ---- what each pair has

module _ (P : ℕ → ℕ → Type 0) where
  pub each_at : (n : ℕ) (t : List ℕ) (i j : ℕ) → j < n → EachPair P n t i → P (get_or t (i + 2 * j) 0) (get_or t (i + 2 * j + 1) 0)
  each_at zero t i j h E = absurd (omega arith)
  each_at (suc n) t i zero h E = let z : i + 2 * 0 ≡ i = omega arith in rw z E.0
  each_at (suc n) t i (suc j) h E = let z : i + 2 * suc j ≡ i + 2 + 2 * j = omega arith in rw z (each_at n t (i + 2) j (omega arith) E.1)

  each_behind : (t : List ℕ) (s a b n i : ℕ) → s + 2 ≤ i → EachPair P n t i → EachPair P n (put t s a b) i
  each_behind t s a b zero i h E = tt
  each_behind t s a b (suc n) i h E = (
    rw (put_other t s a b i (λ e. omega arith) (λ e. omega arith), put_other t s a b (i + 1) (λ e. omega arith) (λ e. omega arith)) E.0,
    each_behind t s a b n (i + 2) (omega arith) E.1,
  )

  pub each_put : (t : List ℕ) (a b n i j s : ℕ) → j < n → s ≡ i + 2 * j → i + 2 * n ≤ length t → P a b → EachPair P n t i → EachPair P n (put t s a b) i
  each_put t a b zero i j s h e l p E = tt
  each_put t a b (suc n) i zero s h e l p E =
      let z : s ≡ i = omega arith in
      (rw (z, put_one t i a b (omega arith), put_two t i a b (omega arith)) p, rw z (each_behind t i a b n (i + 2) (omega arith) E.1))
  each_put t a b (suc n) i (suc j) s h e l p E = (
    rw (put_other t s a b i (λ q. omega arith) (λ q. omega arith), put_other t s a b (i + 1) (λ q. omega arith) (λ q. omega arith)) E.0,
    each_put t a b n (i + 2) j s (omega arith) (omega arith) (omega arith) p E.1,
  )

  pub each_none : (n : ℕ) (t : List ℕ) (i : ℕ) → P 0 0 → ((j : ℕ) → i ≤ j → j < i + 2 * n → get_or t j 0 ≡ 0) → EachPair P n t i
  each_none zero t i p h = tt
  each_none (suc n) t i p h = (rw (h i (omega arith) (omega arith), h (i + 1) (omega arith) (omega arith)) p, each_none n t (i + 2) p (λ j a b. h j (omega arith) (omega arith)))
