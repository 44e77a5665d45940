-- ExtentLaws: what the scan's answer says of a page, in document 01's words: well-formed exactly if Whole; else the longest beginning that some
-- well-formed page shares.
-- Assumes nothing.
use mathlib.Core.Path.{◌≡◌, refl}
use mathlib.Core.Logic.{◌↔◌}
use mathlib.Core.Option.{Option, none, some}
use mathlib.Core.List.{List, [], ◌∷◌, ◌++◌}
use Prim.Native.Nat.{ℕ, suc, ◌≤◌}
use native.Mathlib.Omega.{arith}
use lib.ListN.{length, take}
use Rattle.paper.specs.Grammar.{Tag}
use Rattle.paper.specs.Machine.{State, before, Move, stop, go, say, step, scan, one_more, eaten}
use Rattle.paper.proofs.Exact.{exact}
use Rattle.paper.proofs.Longest.{IsPage, longest}
use Rattle.markup.specs.Extent.{extent_by, extent_of}
use Rattle.std.specs.Prelude.{Ok, Err}

whole_by : (o : Option (List Tag)) (n : ℕ) → extent_by o n ≡ Ok tt → (t : List Tag) × (o ≡ some t)
whole_by (some t) n e = (t, refl)
whole_by none n e = let z : ◌≡◌ {A = ℕ} 0 1 = cc in absurd (omega arith)

good_by : (o : Option (List Tag)) (n m : ℕ) → extent_by o n ≡ Err m → (o ≡ none) × (n ≡ m)
good_by (some t) n m e = let z : ◌≡◌ {A = ℕ} 0 1 = cc in absurd (omega arith)
good_by none n m e = (refl, cc)

-- a page that is whole has tags, which the walk finds
pub whole_tags : (w : List ℕ) → extent_of w ≡ Ok tt → (t : List Tag) × (scan before w ≡ some t)
unfolding extent_of
whole_tags w e = whole_by (scan before w) (eaten before w) e

-- Whole is the answer exactly for the well-formed pages
pub whole_page : (w : List ℕ) → (extent_of w ≡ Ok tt) ↔ IsPage w
unfolding extent_of
whole_page w = (λ e. let (t, s) = whole_tags w e in (t, (exact w t).1 s), λ (t, d). rw ((exact w t).0 d))

-- Good n is the answer for a malformed page of which just the beginnings up to n bytes begin some well-formed page
pub good_longest : (w : List ℕ) (n : ℕ) → extent_of w ≡ Err n
    → (IsPage w → ⊥) × ((m : ℕ) → m ≤ length w → ((z : List ℕ) × IsPage (take m w ++ z)) ↔ (m ≤ n))
unfolding extent_of
good_longest w n e =
    let (s, k) = good_by (scan before w) (eaten before w) n e in
    ((λ (t, d). let q = (exact w t).0 d in let z : ◌≡◌ {A = ℕ} 0 1 = cc in omega arith), λ m h. rw (← k) (longest w m h))

-- the machine takes no more bytes than there are
eaten_within : (w : List ℕ) (s : State) → eaten s w ≤ length w
eaten_within [] s = omega arith
eaten_within (c ∷ w) s = on (step s (suc (length w)) c) (eaten_within w)
  where
    on : (m : Move) → ((t : State) → eaten t w ≤ length w) → one_more m (λ t. eaten t w) ≤ suc (length w)
    on stop h = omega arith
    on (go t) h = omega (arith, h t)
    on (say ts t) h = omega (arith, h t)

-- a good beginning lies within the page
pub good_within : (w : List ℕ) (n : ℕ) → extent_of w ≡ Err n → n ≤ length w
unfolding extent_of
good_within w n e = let (s, k) = good_by (scan before w) (eaten before w) n e in omega (arith, eaten_within w before)
