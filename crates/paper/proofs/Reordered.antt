-- Reordered: sheets of one count and one head, no number twice: what joining them gives, and that their order does not matter to it, accepted or not.
-- Assumes nothing.
use mathlib.Core.Path.{◌≡◌, refl, sym, ◌∙◌}
use mathlib.Core.List.{List, [], ◌∷◌}
use Prim.Native.Nat.{ℕ, zero, suc}
use native.Mathlib.Omega.{arith}
use Rattle.paper.specs.Plan.{Head}
use Rattle.paper.specs.Judging.{Sheet}
use Rattle.paper.specs.Reading.{number11, joined, refuse_at, enough, join, read}
use Rattle.paper.proofs.AnyOrder.{Perm, Alike, Distinct, Each, each_judged, perm_length, alike_other, none_nil, distinct_again, perm_alike, perm_has, perm_distinct, perm_rows, same_joined, perm_each}

-- ---- what joining them gives

-- 11, or the plan, or 12: 9 and 10 are ruled out
pub joins_alike : (s : Sheet) (l : List Sheet) (z : ℕ) (h : Head) → Alike z h (s ∷ l) → Distinct (s ∷ l)
    → join (s ∷ l) ≡ refuse_at 11 (number11 (s ∷ l) 1 z) (enough (record { head = h; rows = joined (s ∷ l) 1 z }))
joins_alike s l z h a d =
    rw (alike_other s z h 2 l a.0 a.1 a.2, distinct_again [] 1 (s ∷ l) (none_nil (s ∷ l)) d, a.0, a.1)

-- the lowest missing number does not depend on the order
perm_lowest : {l m : List Sheet} → Perm l m → (k n : ℕ) → number11 l n k ≡ number11 m n k
perm_lowest p zero n = refl
perm_lowest p (suc k) n = rw (perm_has n p, perm_lowest p k (suc n))

-- so the answer does not, whatever it is
pub join_any_order : (z : ℕ) (h : Head) (l m : List Sheet) → Perm l m → Alike z h l → Distinct l → join l ≡ join m
join_any_order z h [] [] p a d = refl
join_any_order z h [] (t ∷ m) p a d = absurd (let n = perm_length p in omega arith)
join_any_order z h (s ∷ l) [] p a d = absurd (let n = perm_length p in omega arith)
join_any_order z h (s ∷ l) (t ∷ m) p a d =
    joins_alike s l z h a d
    ∙ rw (perm_lowest p z 1, same_joined (s ∷ l) (t ∷ m) (λ n. perm_rows n p d) z 1) (sym (joins_alike t m z h (perm_alike z h p a) (perm_distinct p d)))

-- the same for pages that are judged to such sheets
pub read_any_order : (z : ℕ) (h : Head) (f g : List (List ℕ)) (l : List Sheet) → Perm f g → Each f l → Alike z h l → Distinct l → read f ≡ read g
unfolding read
read_any_order z h f g l p e a d =
    let (m, c, r) = perm_each p l e in
    rw (perm_length p, each_judged 1 f l e, each_judged 1 g m c, join_any_order z h l m r a d)
