-- Places: on a well-formed page each start tag stands behind those before it.
-- Assumes nothing.
use mathlib.Core.List.{List, [], ◌∷◌, ◌++◌}
use Prim.Native.Nat.{ℕ, ◌-◌, ◌≤◌}
use native.Mathlib.Omega.{arith}
use lib.ListN.{length, length-append}
use Rattle.paper.specs.Grammar.{Tag, start, end, Rest, Page, done, space, bare, full, close, placed}

-- every start tag stands at place i or behind it
abbrev pub From : ℕ → List Tag → Type 0
From i [] = Unit {0}
From i (start j n l ∷ t) = (i ≤ j) × From i t
From i (end ∷ t) = From i t

-- no start tag stands before an earlier one
abbrev pub Ascends : List Tag → Type 0
Ascends [] = Unit {0}
Ascends (start i n l ∷ t) = From i t × Ascends t
Ascends (end ∷ t) = Ascends t

-- ---- the same by how many bytes there are from each start tag on

abbrev Within : ℕ → List Tag → Type 0
Within k [] = Unit {0}
Within k (start i n l ∷ t) = (i ≤ k) × Within k t
Within k (end ∷ t) = Within k t

abbrev Descends : List Tag → Type 0
Descends [] = Unit {0}
Descends (start i n l ∷ t) = Within i t × Descends t
Descends (end ∷ t) = Descends t

within_more : (t : List Tag) (k m : ℕ) → k ≤ m → Within k t → Within m t
within_more [] k m h x = tt
within_more (start i n l ∷ t) k m h x = let y = x.0 in (omega arith, within_more t k m h x.1)
within_more (end ∷ t) k m h x = within_more t k m h x

-- what is left behind a tag is shorter than the page from the tag on
shorter : (n a u x : List ℕ) → length x ≤ length (60 ∷ (n ++ (a ++ (u ++ x))))
shorter n a u x = omega (arith, length-append n (a ++ (u ++ x)), length-append a (u ++ x), length-append u x)

rest_places : {ns : List (List ℕ)} {w : List ℕ} {t : List Tag} → Rest ns w t → Within (length w) t × Descends t
rest_places done = (tt, tt)
rest_places (space {c = c} {w = w} {t = t} e r) = let (x, y) = rest_places r in (within_more t (length w) (length (c ∷ w)) (omega arith) x, y)
rest_places (bare n a {w = w} {t = t} h p r) =
    let (x, y) = rest_places r in
    let z = within_more t (length w) (length (60 ∷ (n ++ (a ++ 47 ∷ 62 ∷ w)))) (shorter n a (47 ∷ 62 ∷ []) w) x in
    ((omega arith, z), (z, y))
rest_places (full n a {w = w} {t = t} h p r) =
    let (x, y) = rest_places r in
    let z = within_more t (length w) (length (60 ∷ (n ++ (a ++ 62 ∷ w)))) (shorter n a (62 ∷ []) w) x in
    ((omega arith, z), (z, y))
rest_places (close n u {w = w} {t = t} h r) =
    let (x, y) = rest_places r in (within_more t (length w) (length (60 ∷ 47 ∷ (n ++ (u ++ 62 ∷ w)))) (shorter (47 ∷ n) u (62 ∷ []) w) x, y)

page_places : {w : List ℕ} {t : List Tag} → Page w t → Descends t
page_places (space e p) = page_places p
page_places (bare n a {w = w} {t = t} h p r) = let (x, y) = rest_places r in (within_more t (length w) (length (60 ∷ (n ++ (a ++ 47 ∷ 62 ∷ w)))) (shorter n a (47 ∷ 62 ∷ []) w) x, y)
page_places (full n a {w = w} {t = t} h p r) = let (x, y) = rest_places r in (within_more t (length w) (length (60 ∷ (n ++ (a ++ 62 ∷ w)))) (shorter n a (62 ∷ []) w) x, y)

from_within : (t : List Tag) (k i : ℕ) → Within i t → From (k - i) (placed k t)
from_within [] k i x = tt
from_within (start j n l ∷ t) k i x = let y = x.0 in (omega arith, from_within t k i x.1)
from_within (end ∷ t) k i x = from_within t k i x

descends_placed : (t : List Tag) (k : ℕ) → Descends t → Ascends (placed k t)
descends_placed [] k d = tt
descends_placed (start i n l ∷ t) k d = (from_within t k i d.0, descends_placed t k d.1)
descends_placed (end ∷ t) k d = descends_placed t k d

-- the places of a well-formed page ascend
pub page_ascends : {w : List ℕ} {t : List Tag} (k : ℕ) → Page w t → Ascends (placed k t)
page_ascends {t = t} k p = descends_placed t k (page_places p)
