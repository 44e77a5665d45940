-- Firsts: what is first of its kind is so once; and a search that looks at one place after another finds it.
-- Assumes nothing.
use mathlib.Core.Path.{◌≡◌, refl}
use mathlib.Core.Logic.{◌↔◌}
use mathlib.Core.Bool.{Bool, true, false}
use Prim.Native.Nat.{ℕ, zero, suc, ◌+◌, ◌<◌}
use native.Mathlib.Omega.{arith}
use lib.Dec.{ltb}
use borrow.Author.Tests.{ltb-true, ltb-false}
use Rattle.paper.proofs.Causes.{None, Lowest}

-- there is one lowest number with a property
pub lowest_once : (Q : ℕ → Type 0) (j k : ℕ) → Lowest Q j → Lowest Q k → j ≡ k
lowest_once Q j k a b = at (ltb j k) refl (ltb k j) refl
  where
    at : (x : Bool) → ltb j k ≡ x → (y : Bool) → ltb k j ≡ y → j ≡ k
    at true e y f = absurd (b.1 j (ltb-true j k e) a.0)
    at false e true f = absurd (a.1 k (ltb-true k j f) b.0)
    at false e false f = omega (arith, ltb-false j k e, ltb-false k j f)

-- the lowest number with a property is that of another which the same numbers have
pub lowest_alike : (Q T : ℕ → Type 0) → ((j : ℕ) → Q j ↔ T j) → (k : ℕ) → Lowest Q k → Lowest T k
lowest_alike Q T h k l = ((h k).0 l.0, λ j n t. l.1 j n ((h j).1 t))

-- r is what a search gives that counts its places from k on: k and the first place with the property, or 0
pub data Search (Q : ℕ → Type 0) (k r : ℕ) : Type 0 where
  nowhere : r ≡ 0 → None Q → Search Q k r
  somewhere : (j : ℕ) → r ≡ k + j → Lowest Q j → Search Q k r

-- it is here
pub here_at : (Q : ℕ → Type 0) (k : ℕ) → Q 0 → Search Q k k
here_at Q k q = somewhere 0 (omega arith) (q, λ j h. absurd (omega arith))

-- it is not here, and the search goes on
pub further : (Q : ℕ → Type 0) (k r : ℕ) → (Q 0 → ⊥) → Search (λ j. Q (suc j)) (suc k) r → Search Q k r
further Q k r h (nowhere e n) = nowhere e each
  where
    each : None Q
    each zero q = h q
    each (suc j) q = n j q
further Q k r h (somewhere j e l) = somewhere (suc j) (omega arith) (l.0, before)
  where
    before : (i : ℕ) → i < suc j → Q i → ⊥
    before zero b q = h q
    before (suc i) b q = l.1 i (omega arith) q

-- the same search for the same places
pub alike : (Q T : ℕ → Type 0) (k r : ℕ) → ((j : ℕ) → Q j ↔ T j) → Search Q k r → Search T k r
alike Q T k r h (nowhere e n) = nowhere e (λ j t. n j ((h j).1 t))
alike Q T k r h (somewhere j e l) = somewhere j e (lowest_alike Q T h j l)
