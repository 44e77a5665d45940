-- Cuts: how many bytes of a text that is too long the code shows: it goes back from the last byte that has room, up to the first place whose blank may be cut before.
-- Assumes nothing.
use mathlib.Core.Path.{◌≡◌, refl, ap, ◌∙◌}
use mathlib.Core.Bool.{Bool, true, false, ◌&&◌}
use mathlib.Core.List.{List}
use Prim.Native.Nat.{ℕ, zero, suc, ◌+◌, ◌-◌, ◌≤◌, ◌<◌}
use native.Mathlib.Omega.{arith}
use lib.Dec.{eqb, leb}
use lib.ListN.{take, get_or}
use lib.Seq.{get_or-take}
use borrow.Author.Tests.{eq-eqb, ne_eqb, leb-true, leb-false, le-leb}
use Rattle.paper.specs.Lists.{if}
use Rattle.paper.specs.Cells.{is_seam, last_before, shown_of}
use Rattle.cell.specs.Found.{first_place}

-- the first place, by its two bounds
pub first_is : (m : ℕ) → (1 ≤ first_place m) × (m ≤ first_place m + 10) × ((p : ℕ) → 1 ≤ p → m ≤ p + 10 → first_place m ≤ p)
first_is m = at (leb m 10) refl
  where
    at : (b : Bool) → leb m 10 ≡ b → let f = if b 1 (m - 10) in (1 ≤ f) × (m ≤ f + 10) × ((p : ℕ) → 1 ≤ p → m ≤ p + 10 → f ≤ p)
    at true e = let h = leb-true m 10 e in (omega arith, omega arith, λ p l g. l)
    at false e = let h = leb-false m 10 e in (omega arith, omega arith, λ p l g. omega arith)

module _ (n : ℕ) (v : List ℕ) where
  -- the last place before m, else as many as leave room
  abbrev pub last_of : ℕ → ℕ
  last_of = last_before (is_seam n v) (n - 3)

  -- from the first place on, the test is that there is a blank
  blank_test : (p : ℕ) → first_place (n - 3) ≤ p → is_seam n v p ≡ eqb (get_or v p 0) 32
  blank_test p h =
      let (one, ten, least) = first_is (n - 3) in
      let a : 1 ≤ p = omega arith in
      let b : n - 3 ≤ p + 10 = omega arith in
      at (eqb (get_or v p 0) 32) (le-leb 1 p a) (le-leb (n - 3) (p + 10) b)
    where
      at : (x : Bool) → leb 1 p ≡ true → leb (n - 3) (p + 10) ≡ true → (x && (leb 1 p && leb (n - 3) (p + 10))) ≡ x
      at true e f = rw (e, f)
      at false e f = refl

  -- before it, none passes
  before_first : (p : ℕ) → p < first_place (n - 3) → is_seam n v p ≡ false
  before_first p h = at (eqb (get_or v p 0) 32) (leb 1 p) refl (leb (n - 3) (p + 10)) refl
    where
      at : (x a : Bool) → leb 1 p ≡ a → (b : Bool) → leb (n - 3) (p + 10) ≡ b → (x && (a && b)) ≡ false
      at false a e b f = refl
      at true false e b f = refl
      at true true e false f = refl
      at true true e true f = let l = (first_is (n - 3)).2 p (leb-true 1 p e) (leb-true (n - 3) (p + 10) f) in absurd (omega arith)

  pub none_before : (p : ℕ) → p ≤ first_place (n - 3) → last_of p ≡ n - 3
  none_before zero h = refl
  none_before (suc p) h = ap (λ (b : Bool). if b p (last_of p)) (before_first p (omega arith)) ∙ none_before p (omega arith)

  -- a step back
  step : (p : ℕ) → first_place (n - 3) < p → last_of p ≡ if (eqb (get_or v (p - 1) 0) 32) (p - 1) (last_of (p - 1))
  step zero h = absurd (omega arith)
  step (suc p) h = let e : suc p - 1 ≡ p = omega arith in rw e (ap (λ (b : Bool). if b p (last_of p)) (blank_test p (omega arith)))

  pub cut_here : (p : ℕ) → first_place (n - 3) < p → get_or v (p - 1) 0 ≡ 32 → last_of p ≡ p - 1
  cut_here p h e = step p h ∙ ap (λ (b : Bool). if b (p - 1) (last_of (p - 1))) (eq-eqb (get_or v (p - 1) 0) 32 e)

  pub go_on : (p : ℕ) → first_place (n - 3) < p → (get_or v (p - 1) 0 ≡ 32 → ⊥) → last_of p ≡ last_of (p - 1)
  go_on p h e = step p h ∙ ap (λ (b : Bool). if b (p - 1) (last_of (p - 1))) (ne_eqb (get_or v (p - 1) 0) 32 e)

-- what is shown of a text does not depend on what follows its limit
pub shown_of_part : (n k : ℕ) (v : List ℕ) → n ≤ k → shown_of n (take k v) ≡ shown_of n v
shown_of_part n k v h = up_to (n - 3) (omega arith)
  where
    up_to : (m : ℕ) → m ≤ k → last_of n (take k v) m ≡ last_of n v m
    up_to zero l = refl
    up_to (suc m) l = rw (get_or-take k v m 0 (omega arith), up_to m (omega arith))
