-- Pieces: a part of a page in two, its first byte, and a run of bytes of it, before what follows.
-- Assumes nothing.
use mathlib.Core.Path.{◌≡◌, refl, sym, ap, ◌∙◌}
use mathlib.Core.Bool.{Bool, true, false}
use mathlib.Core.List.{List, ◌∷◌, ◌++◌, append_assoc}
use Prim.Native.Nat.{ℕ, ◌+◌, ◌-◌, ◌≤◌, ◌<◌}
use native.Mathlib.Numerals.{add-one}
use native.Mathlib.Omega.{arith}
use lib.Dec.{ltb}
use lib.ListN.{length, get_or, take, drop, get_or-eq_default}
use lib.Seq.{slice, slice_empty, slice-cons, take-add, drop-append-le, length-take-le}
use borrow.Author.Tests.{ltb-true, ltb-false}
use Rattle.paper.specs.Lists.{until, All}
use Rattle.paper.specs.Grammar.{Pass}
use Rattle.markup.proofs.WalkLaws.{take_drop}
use Rattle.quoted.proofs.PlainLaws.{run_all}

module _ (w x : List ℕ) where
  -- a part in two
  pub part : (i j k : ℕ) → i ≤ j → j ≤ k → k ≤ length w → slice i k w ++ x ≡ slice i j w ++ (slice j k w ++ x)
  part i j k h g l =
      let n : j + (k - j) ≡ k = omega arith in
      let t : take k w ≡ take j w ++ take (k - j) (drop j w) = ap (λ (m : ℕ). take m w) (sym n) ∙ take-add j (k - j) w in
      let m : length (take j w) ≡ j = length-take-le j w (omega arith) in
      let s : take (k - j) (drop j w) ≡ slice j k w = take_drop j (k - j) w ∙ ap (λ (m : ℕ). slice j m w) n in
      let p : slice i k w ≡ slice i j w ++ slice j k w = ap (drop i) t ∙ drop-append-le i (take j w) (take (k - j) (drop j w)) (omega arith) ∙ ap (λ (y : List ℕ). slice i j w ++ y) s in
      rw p (append_assoc (slice i j w) (slice j k w) x)

  -- its first byte
  pub one : (i k c : ℕ) → i < k → k ≤ length w → get_or w i 0 ≡ c → slice i k w ++ x ≡ c ∷ (slice (i + 1) k w ++ x)
  one i k c h l e = rw (add-one i, slice-cons i k w 0 h l, e)

  -- nothing
  pub none : (i k : ℕ) → i ≡ k → slice i k w ++ x ≡ x
  none i k e = rw (e, slice_empty k w)

-- a run of bytes
pub all_run : (p : ℕ → Bool) (w : List ℕ) (i e : ℕ) → e ≡ i + until p (drop i w) → All (Pass p) (slice i e w)
all_run p w i e h =
    let q : take (until p (drop i w)) (drop i w) ≡ slice i e w = take_drop i (until p (drop i w)) w ∙ rw (← h) in
    rw q at (run_all p (drop i w))

-- a byte that is not 0 stands in the page
pub in_it : (w : List ℕ) (u : ℕ) → (get_or w u 0 ≡ 0 → ⊥) → u < length w
in_it w u n = go (ltb u (length w)) refl
  where
    go : (t : Bool) → ltb u (length w) ≡ t → u < length w
    go true e = ltb-true u (length w) e
    go false e = absurd (n (get_or-eq_default w 0 (ltb-false u (length w) e)))
