-- MaskLaws: the mask of the pages that are here, one number after the other; and the missing numbers.
-- Assumes nothing.
use mathlib.Core.Path.{◌≡◌, refl, ap, sym, ◌∙◌}
use mathlib.Core.Bool.{Bool, true, false, not, ◌&&◌, ◌||◌}
use mathlib.Core.List.{List, []}
use Prim.Native.Nat.{ℕ, ◌+◌, ◌≤◌}
use native.Mathlib.Omega.{arith}
use lib.Bits.{bit_or}
use lib.Dec.{eqb, leb}
use borrow.Author.Tests.{leb-true, leb-false, le-leb, lt-leb, eqb-true, eqb-false}
use Rattle.paper.specs.Lists.{if}
use Rattle.paper.specs.Collecting.{mask_of}
use Rattle.reader.specs.Pages.{picked, marked, numbers_in, absent}
use Rattle.reader.proofs.Digits.{same_picked}
use Rattle.reader.proofs.PageLaws.{or_masks, mask_marked, numbers_back}
use Rattle.collector.specs.Keeping.{here, count_of, missing}
use Rattle.collector.specs.declared.store.Collector.{Collector}

-- the numbers up to k whose pages are here
abbrev pub up_to : List ℕ → ℕ → ℕ → Bool
up_to lens k n = leb n k && here lens n

-- any other number is below k just if it is below k + 1
below : (i k : ℕ) → (k + 1 ≡ i → ⊥) → leb i k ≡ leb i (k + 1)
below i k h = at (leb i k) refl
  where
    at : (b : Bool) → leb i k ≡ b → leb i k ≡ leb i (k + 1)
    at true e = let l = leb-true i k e in e ∙ sym (le-leb i (k + 1) (omega arith))
    at false e = let l = leb-false i k e in e ∙ sym (lt-leb i (k + 1) (omega arith))

or_none : (a : Bool) → (a || false) ≡ a
or_none true = refl
or_none false = refl

or_one : (a : Bool) → (a || true) ≡ true
or_one true = refl
or_one false = refl

-- the page of the next number is here
pub one_more : (lens : List ℕ) (k mask : ℕ) → mask ≡ mask_of (picked (up_to lens k) 1 9) → here lens (k + 1) ≡ true
    → bit_or mask (mask_of (picked (eqb (k + 1)) 1 9)) ≡ mask_of (picked (up_to lens (k + 1)) 1 9)
one_more lens k mask e h =
    ap (λ (m : ℕ). bit_or m (mask_of (picked (eqb (k + 1)) 1 9))) e
    ∙ (or_masks (up_to lens k) (eqb (k + 1)) 1 9 ∙ ap mask_of (same_picked (λ i. up_to lens k i || eqb (k + 1) i) (up_to lens (k + 1)) 1 9 (λ i l g. at i (eqb (k + 1) i) refl)))
  where
    at : (i : ℕ) (b : Bool) → eqb (k + 1) i ≡ b → (up_to lens k i || b) ≡ up_to lens (k + 1) i
    at i true q =
        let n : k + 1 ≡ i = eqb-true (k + 1) i q in
        let t : here lens i ≡ true = ap (here lens) (sym n) ∙ h in
        or_one (up_to lens k i) ∙ rw (le-leb i (k + 1) (omega arith), t)
    at i false q = or_none (up_to lens k i) ∙ ap (λ (b : Bool). b && here lens i) (below i k (eqb-false (k + 1) i q))

-- it is not
pub none_more : (lens : List ℕ) (k : ℕ) → here lens (k + 1) ≡ false → mask_of (picked (up_to lens k) 1 9) ≡ mask_of (picked (up_to lens (k + 1)) 1 9)
none_more lens k h = ap mask_of (same_picked (up_to lens k) (up_to lens (k + 1)) 1 9 (λ i l g. at i (eqb (k + 1) i) refl))
  where
    at : (i : ℕ) (b : Bool) → eqb (k + 1) i ≡ b → up_to lens k i ≡ up_to lens (k + 1) i
    at i true q =
        let n : k + 1 ≡ i = eqb-true (k + 1) i q in
        let f : here lens i ≡ false = ap (here lens) (sym n) ∙ h in
        rw (lt-leb i k (omega arith), le-leb i (k + 1) (omega arith), f)
    at i false q = ap (λ (b : Bool). b && here lens i) (below i k (eqb-false (k + 1) i q))

-- all nine
pub all_nine : (lens : List ℕ) (k mask : ℕ) → 9 ≤ k → mask ≡ mask_of (picked (up_to lens k) 1 9) → mask ≡ mask_of (picked (here lens) 1 9)
all_nine lens k mask h e = e ∙ ap mask_of (same_picked (up_to lens k) (here lens) 1 9 (λ i l g. ap (λ (b : Bool). b && here lens i) (le-leb i k (omega arith))))

-- ---- the missing numbers

pub count_nine : (z : ℕ) → count_of z ≤ 9
unfolding count_of
count_nine z = at (leb z 9) refl
  where
    at : (b : Bool) → leb z 9 ≡ b → if b z 0 ≤ 9
    at true e = leb-true z 9 e
    at false e = omega arith

-- the numbers that the mask of the pages lacks
pub missing_mask_lem : (c : Collector) → mask_of (absent (mask_of (picked (here c.lens) 1 9)) c.z) ≡ mask_of (missing c)
unfolding absent count_of missing
missing_mask_lem c = ap mask_of (at (leb c.z 9) refl)
  where
    at : (b : Bool) → leb c.z 9 ≡ b → if b (picked (λ n. not (marked (mask_of (picked (here c.lens) 1 9)) n)) 1 c.z) [] ≡ picked (λ n. not (here c.lens n)) 1 (if b c.z 0)
    at true e =
        let l = leb-true c.z 9 e in
        same_picked (λ n. not (marked (mask_of (picked (here c.lens) 1 9)) n)) (λ n. not (here c.lens n)) 1 c.z (λ i h g. ap not (mask_marked (here c.lens) 9 i h (omega arith)))
    at false e = refl

-- the mask's numbers are the missing ones
pub numbers_missing : (c : Collector) → numbers_in (mask_of (missing c)) ≡ missing c
unfolding missing
numbers_missing c = numbers_back (λ n. not (here c.lens n)) (count_of c.z) (count_nine c.z)
