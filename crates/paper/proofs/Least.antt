-- Least: the fault that a page is refused with is one of its faults, and none of its faults is lower.
-- Assumes nothing.
use mathlib.Core.Path.{◌≡◌, refl, ap, sym}
use mathlib.Core.Logic.{◌↔◌, ◌⊎◌, inl, inr}
use mathlib.Core.Bool.{Bool, true, false, ◌&&◌, ◌||◌}
use mathlib.Core.List.{List, [], ◌∷◌}
use Prim.Native.Nat.{ℕ, ◌≤◌, ◌<◌}
use native.Mathlib.Omega.{arith}
use lib.Dec.{eqb, ltb}
use lib.ListN.{length}
use borrow.Author.Tests.{eqb-true, eqb-false, ne_eqb, ltb-true, ltb-false, le-ltb}
use Rattle.paper.specs.Lists.{if, every}
use Rattle.paper.specs.Bytes.{is_allowed}
use Rattle.paper.specs.Grammar.{Tag, Page, placed}
use Rattle.paper.specs.Judging.{Fault, faults, Item, items, Judged, refused, sheet, lower, least, verdict, judge}
use Rattle.paper.proofs.Small.{no}
use Rattle.paper.proofs.Exact.{exact}

-- x stands in the list
pub data Among {A : Type 0} (x : A) : List A → Type 0 where
  here : {l : List A} → Among x (x ∷ l)
  there : {y : A} {l : List A} → Among x l → Among x (y ∷ l)

-- a list in which something stands is not empty
pub among_some : {A : Type 0} {x : A} {l : List A} → Among x l → 1 ≤ length l
among_some here = omega arith
among_some (there a) = omega arith

-- the fault of that number at that place
abbrev pub fault_at : ℕ → ℕ → Fault
fault_at n i = record { no = n; place = i }

-- g is not lower than f: its number is above f's, or it is the same and its place is not before f's
abbrev pub NotLower : Fault → Fault → Type 0
NotLower g f = (f.no < g.no) ⊎ ((f.no ≡ g.no) × (f.place ≤ g.place))

not_lower_self : (f : Fault) → NotLower f f
not_lower_self f = inr (refl, omega arith)

not_lower_trans : (a b c : Fault) → NotLower a b → NotLower b c → NotLower a c
not_lower_trans a b c (inl m) (inl n) = inl (omega arith)
not_lower_trans a b c (inl m) (inr n) = inl (omega arith)
not_lower_trans a b c (inr m) (inl n) = inl (omega arith)
not_lower_trans a b c (inr m) (inr n) = inr (omega arith)

-- the lower of two faults is one of them, and neither is lower than it
record Lower (f g : Fault) (m : Fault) : Type 0 where
  one_of : (m ≡ f) ⊎ (m ≡ g)
  first : NotLower f m
  second : NotLower g m

lower_is : (f g : Fault) → Lower f g (lower f g)
lower_is f g = at (ltb g.no f.no) refl (eqb g.no f.no) refl (ltb g.place f.place) refl
  where
    at : (a : Bool) → ltb g.no f.no ≡ a → (b : Bool) → eqb g.no f.no ≡ b → (c : Bool) → ltb g.place f.place ≡ c → Lower f g (if (a || (b && c)) g f)
    at true x b y c z = record { one_of = inr refl; first = inl (ltb-true g.no f.no x); second = not_lower_self g }
    at false x true y true z = record { one_of = inr refl; first = inr (eqb-true g.no f.no y, omega (arith, ltb-true g.place f.place z)); second = not_lower_self g }
    at false x true y false z = record { one_of = inl refl; first = not_lower_self f; second = inr (sym (eqb-true g.no f.no y), ltb-false g.place f.place z) }
    at false x false y c z = record { one_of = inl refl; first = not_lower_self f; second = inl (omega (arith, ltb-false g.no f.no x, eqb-false g.no f.no y)) }

-- the least of some faults is one of them
pub least_among : (f : Fault) (fs : List Fault) → Among (least f fs) (f ∷ fs)
least_among f [] = here
least_among f (g ∷ gs) = at (lower_is f g).one_of (least_among (lower f g) gs)
  where
    at : {m : Fault} → (lower f g ≡ f) ⊎ (lower f g ≡ g) → Among m (lower f g ∷ gs) → Among m (f ∷ g ∷ gs)
    at (inl e) here = rw e here
    at (inl e) (there a) = there (there a)
    at (inr e) here = rw e (there here)
    at (inr e) (there a) = there (there a)

-- no fault of the list is lower than the least
pub least_least : (f : Fault) (fs : List Fault) (g : Fault) → Among g (f ∷ fs) → NotLower g (least f fs)
least_least f [] g here = not_lower_self f
least_least f [] g (there none) = elim none [ ]
least_least f (h ∷ hs) g here = not_lower_trans f (lower f h) (least (lower f h) hs) (lower_is f h).first (least_least (lower f h) hs (lower f h) here)
least_least f (h ∷ hs) g (there here) = not_lower_trans h (lower f h) (least (lower f h) hs) (lower_is f h).second (least_least (lower f h) hs (lower f h) here)
least_least f (h ∷ hs) g (there (there a)) = least_least (lower f h) hs g (there a)

-- ---- what a page is refused with

abbrev pub is_sheet : Judged → Bool
is_sheet (refused n i) = false
is_sheet (sheet s) = true

-- a page of 1 to 1,400 allowed bytes that is well-formed is judged by the faults of its tags
pub judged_by_tags : (w : List ℕ) (t : List Tag) → 1 ≤ length w → length w ≤ 1400 → every is_allowed w ≡ true → Page w t
    → judge w ≡ verdict (faults [] (placed (length w) t)) (items [] (placed (length w) t))
unfolding judge
judged_by_tags w t a b c p = rw (ne_eqb (length w) 0 (omega arith), le-ltb 1400 (length w) b, c, (exact w t).0 p)

-- what is not lower than another and not lower the other way round is the same
same_fault : (f : Fault) (n i : ℕ) → NotLower f (fault_at n i) → NotLower (fault_at n i) f → (f.no ≡ n) × (f.place ≡ i)
same_fault f n i (inl a) (inl b) = absurd (omega arith)
same_fault f n i (inl a) (inr b) = absurd (omega (arith, b.0))
same_fault f n i (inr a) (inl b) = absurd (omega (arith, a.0))
same_fault f n i (inr a) (inr b) = (sym a.0, omega (arith, a.1, b.1))

-- faults give exactly the one among them that none is lower than: "the lowest number of that page first, the lowest place within it"
pub verdict_least : (fs : List Fault) (xs : List Item) (n i : ℕ)
    → (verdict fs xs ≡ refused n i) ↔ (Among (fault_at n i) fs × ((g : Fault) → Among g fs → NotLower g (fault_at n i)))
verdict_least [] xs n i = (λ e. no (ap is_sheet e), λ (a, b). nothing a)
  where
    nothing : {A : Type 0} → Among (fault_at n i) [] → A
    nothing a = absurd (let h = among_some a in omega arith)
verdict_least (f ∷ fs) xs n i = (there, λ (a, b). back (same_fault (least f fs) n i (b (least f fs) (least_among f fs)) (least_least f fs (fault_at n i) a)))
  where
    there : refused (least f fs).no (least f fs).place ≡ refused n i → Among (fault_at n i) (f ∷ fs) × ((g : Fault) → Among g (f ∷ fs) → NotLower g (fault_at n i))
    there e =
        let x : n ≡ (least f fs).no = cc in
        let y : i ≡ (least f fs).place = cc in
        rw (x, y) (least_among f fs, least_least f fs)

    back : ((least f fs).no ≡ n) × ((least f fs).place ≡ i) → refused (least f fs).no (least f fs).place ≡ refused n i
    back (x, y) = rw (x, y)
