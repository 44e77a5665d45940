-- ByKind: what all elements of the list have each kind has, so that a law over the table of elements is one computed test.
-- Assumes nothing.
use mathlib.Core.Path.{◌≡◌, refl, sym, subst}
use mathlib.Core.Bool.{Bool, true, false, not}
use Prim.Native.Nat.{ℕ, ◌<◌}
use native.Mathlib.Omega.{arith}
use lib.Dec.{eqb}
use lib.ListN.{get_or}
use borrow.Author.Tests.{eqb-true}
use Rattle.paper.specs.Lists.{if, every}
use Rattle.paper.specs.Fields.{Kind, unknown, MP, P, A, O, S, M, W, R, X, code, kinds}
use Rattle.paper.proofs.Small.{every_at, no_not}

-- a fact for each kind
pub by_kind_lem : (Q : Kind → Type 0) → Q unknown × Q MP × Q P × Q A × Q O × Q S × Q M × Q W × Q R × Q X → (k : Kind) → Q k
by_kind_lem Q h unknown = h.0
by_kind_lem Q h MP = h.1
by_kind_lem Q h P = h.2
by_kind_lem Q h A = h.3
by_kind_lem Q h O = h.4
by_kind_lem Q h S = h.5
by_kind_lem Q h M = h.6
by_kind_lem Q h W = h.7
by_kind_lem Q h R = h.8
by_kind_lem Q h X = h.9

-- a kind stands in the list at its number
pub kind_at_lem : (k : Kind) → get_or kinds (code k) unknown ≡ k
kind_at_lem k = by_kind_lem (λ k. get_or kinds (code k) unknown ≡ k) (refl, refl, refl, refl, refl, refl, refl, refl, refl, refl) k

-- which is below ten
pub code_small : (k : Kind) → code k < 10
code_small k = by_kind_lem (λ k. code k < 10) (omega arith, omega arith, omega arith, omega arith, omega arith, omega arith, omega arith, omega arith, omega arith, omega arith) k

-- a test that the whole list passes
pub each : (p : Kind → Bool) → every p kinds ≡ true → (k : Kind) → p k ≡ true
each p e k = subst (λ (j : Kind). p j ≡ true) (kind_at_lem k) (every_at p kinds unknown (code k) e (code_small k))

-- a test that none of them passes
pub none : (p : Kind → Bool) → every (λ k. not (p k)) kinds ≡ true → (k : Kind) → p k ≡ false
none p e k = no_not (p k) (each (λ k. not (p k)) e k)

-- two tests that agree on all of them
pub alike : (p q : Kind → Bool) → every (λ k. if (p k) (q k) (not (q k))) kinds ≡ true → (k : Kind) → p k ≡ q k
alike p q e k = at (p k) (q k) (each (λ k. if (p k) (q k) (not (q k))) e k)
  where
    at : (a b : Bool) → if a b (not b) ≡ true → a ≡ b
    at true b e = sym e
    at false b e = sym (no_not b e)

-- a number that is the same for each of them
pub equal : (f g : Kind → ℕ) → every (λ k. eqb (f k) (g k)) kinds ≡ true → (k : Kind) → f k ≡ g k
equal f g e k = eqb-true (f k) (g k) (each (λ k. eqb (f k) (g k)) e k)
