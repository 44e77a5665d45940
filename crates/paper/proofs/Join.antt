-- Sheets that are numbered in order join to their rows.
use mathlib.Core.Path.{◌≡◌, refl}
use mathlib.Core.Bool.{Bool, true, false, ◌||◌}
use mathlib.Core.List.{List, [], ◌∷◌}
use Prim.Native.Nat.{ℕ, zero, suc, ◌+◌, ◌≤◌, ◌<◌}
use native.Mathlib.Omega.{arith}
use lib.Dec.{eqb}
use lib.ListN.{length}
use borrow.Author.Tests.{eqb-false, eq-eqb, ne_eqb, le-leb}
use Rattle.paper.specs.Lists.{concat}
use Rattle.paper.proofs.Small.{same_self}
use Rattle.paper.specs.Plan.{Slots, Row, Head, same_head, same_slots}
use Rattle.paper.specs.Judging.{Sheet}
use Rattle.paper.specs.Reading.{plan, page9, has, page10, number11, joined, join}
use Rattle.paper.proofs.Sheets.{the_sheet}

abbrev pub the_sheets : Head → ℕ → ℕ → List (List Row) → List Sheet
the_sheets h z a [] = []
the_sheets h z a (q ∷ qs) = the_sheet h q a z ∷ the_sheets h z (suc a) qs

slots_self : (vs : Slots) → same_slots vs vs ≡ true
slots_self [] = refl
slots_self (v ∷ vs) = rw (same_self v, slots_self vs)

pub head_self : (h : Head) → same_head h h ≡ true
head_self h = rw (eq-eqb h.patch h.patch refl, same_self h.ident, same_self h.lang, slots_self h.person, slots_self h.author, slots_self h.measures)

no_other : (h : Head) (z : ℕ) (r : List Row) (b k a : ℕ) (qs : List (List Row)) → page9 (the_sheet h r b z) k (the_sheets h z a qs) ≡ 0
no_other h z r b k a [] = refl
no_other h z r b k a (q ∷ qs) = rw (eq-eqb z z refl, head_self h) (no_other h z r b (suc k) (suc a) qs)

-- every number in the list is below a
abbrev Below : ℕ → List Sheet → Type 0
Below a [] = Unit {0}
Below a (s ∷ l) = (s.no < a) × Below a l

below_has : (a : ℕ) (l : List Sheet) → Below a l → has a l ≡ false
below_has a [] h = refl
below_has a (s ∷ l) h = rw (ne_eqb s.no a (omega arith), below_has a l h.1)

below_more : (a : ℕ) (l : List Sheet) → Below a l → Below (suc a) l
below_more a [] h = tt
below_more a (s ∷ l) h = (omega arith, below_more a l h.1)

no_again : (h : Head) (z : ℕ) (was : List Sheet) (k a : ℕ) (qs : List (List Row)) → Below a was → page10 was k (the_sheets h z a qs) ≡ 0
no_again h z was k a [] b = refl
no_again h z was k a (q ∷ qs) b = rw (below_has a was b) (no_again h z (the_sheet h q a z ∷ was) (suc k) (suc a) qs (omega arith, below_more a was b))

has_one : (h : Head) (z n a : ℕ) (qs : List (List Row)) → a ≤ n → n < a + length qs → has n (the_sheets h z a qs) ≡ true
has_one h z n a [] p q = absurd (omega arith)
has_one h z n a (r ∷ qs) p q = at (eqb a n) refl (λ g. has_one h z n (suc a) qs g (omega arith))
  where
    at : (b : Bool) → eqb a n ≡ b → (suc a ≤ n → has n (the_sheets h z (suc a) qs) ≡ true) → (eqb a n || has n (the_sheets h z (suc a) qs)) ≡ true
    at true e ih = rw e
    at false e ih = let ne = eqb-false a n e in rw (e, ih (omega arith))

pub none_lowest : (l : List Sheet) (k n : ℕ) → ((m : ℕ) → n ≤ m → m < n + k → has m l ≡ true) → number11 l n k ≡ 0
none_lowest l zero n h = refl
none_lowest l (suc k) n h = rw (h n (omega arith) (omega arith)) (none_lowest l k (suc n) (λ m p q. h m (omega arith) (omega arith)))

-- no sheets give no rows
pub joined_none : (k n : ℕ) → joined [] n k ≡ []
joined_none zero n = refl
joined_none (suc k) n = joined_none k (suc n)

pub skip : (s : Sheet) (l : List Sheet) (k n : ℕ) → s.no < n → joined (s ∷ l) n k ≡ joined l n k
skip s l zero n h = refl
skip s l (suc k) n h = rw (ne_eqb s.no n (omega arith), skip s l k (suc n) (omega arith))

all_joined : (h : Head) (z a : ℕ) (qs : List (List Row)) → joined (the_sheets h z a qs) a (length qs) ≡ concat qs
all_joined h z a [] = refl
all_joined h z a (q ∷ qs) = rw (eq-eqb a a refl, skip (the_sheet h q a z) (the_sheets h z (suc a) qs) (length qs) (suc a) (omega arith), all_joined h z (suc a) qs)

pub joins : (h : Head) (q : List Row) (qs : List (List Row)) → length (concat (q ∷ qs)) ≤ 256
    → join (the_sheets h (length (q ∷ qs)) 1 (q ∷ qs)) ≡ plan (record { head = h; rows = concat (q ∷ qs) })
joins h q qs l =
    let z : ℕ = length (q ∷ qs) in
    let ss : List Sheet = the_sheets h z 1 (q ∷ qs) in
    let all : joined ss 1 z ≡ concat (q ∷ qs) = all_joined h z 1 (q ∷ qs) in
    rw (no_other h z q 1 2 2 qs, no_again h z [] 1 1 (q ∷ qs) tt, none_lowest ss z 1 (λ m a b. has_one h z m 1 (q ∷ qs) a b), all, le-leb (length (concat (q ∷ qs))) 256 l)
