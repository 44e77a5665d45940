-- Compared: the comparison of two slices, item by item, is that of the definitions; and bytes and a word, compared byte by byte.
-- Assumes nothing.
use mathlib.Core.Path.{◌≡◌, refl, sym, ap, ◌∙◌}
use mathlib.Core.Bool.{Bool, true, false, ◌&&◌}
use mathlib.Core.List.{List, [], ◌∷◌}
use Prim.Native.Nat.{ℕ, suc, ◌+◌, ◌-◌, ◌≤◌, ◌<◌}
use native.Mathlib.Numerals.{add-one}
use native.Mathlib.Omega.{arith}
use lib.Dec.{eqb}
use lib.ListN.{length, get_or, take, drop, drop_of_length-le}
use lib.Pointwise.{pointwise}
use lib.Seq.{slice, slice-cons, slice_empty, length-slice, drop-cons}
use borrow.Author.Tests.{eq-eqb, ne_eqb}
use Rattle.paper.specs.Lists.{same}
use Rattle.paper.proofs.Small.{same_eq}
use Rattle.room.proofs.Parts.{part_is}

-- equal item by item is the same
pub pointwise_same : (s t : List ℕ) → pointwise eqb s t ≡ same s t
pointwise_same [] [] = refl
pointwise_same [] (y ∷ t) = refl
pointwise_same (x ∷ s) [] = refl
pointwise_same (x ∷ s) (y ∷ t) = rw (pointwise_same s t)

-- a part that is lent, and a word
pub part_same : (s word : List ℕ) (i j : ℕ) → pointwise eqb (take (j - i) (drop i s)) word ≡ same (slice i j s) word
part_same s word i j = rw (part_is s i j) (pointwise_same (slice i j s) word)

-- ---- byte by byte

-- bytes and a word of other lengths are not the same
pub other_length : (w word : List ℕ) (from to : ℕ) → from ≤ to → to ≤ length w → (to - from ≡ length word → ⊥) → same (slice from to w) word ≡ false
other_length w word from to h k n = go (same (slice from to w) word) refl
  where
    go : (t : Bool) → same (slice from to w) word ≡ t → t ≡ false
    go true e = absurd (n (sym (length-slice from to w k) ∙ ap length (same_eq (slice from to w) word e)))
    go false e = refl

module _ (w word : List ℕ) (from to i : ℕ) (h : from + i < to) (k : to ≤ length w) (l : i < length word) where
  both : same (slice (from + i) to w) (drop i word) ≡ eqb (get_or w (from + i) 0) (get_or word i 0) && same (slice (from + (i + 1)) to w) (drop (i + 1) word)
  both =
      let e : from + (i + 1) ≡ suc (from + i) = omega arith in
      rw (e, slice-cons (from + i) to w 0 h k, drop-cons word i 0 l, add-one i)

  -- equal bytes leave it to the rest
  pub spells_on : get_or w (from + i) 0 ≡ get_or word i 0 → same (slice (from + i) to w) (drop i word) ≡ same (slice (from + (i + 1)) to w) (drop (i + 1) word)
  spells_on q = both ∙ rw (eq-eqb (get_or w (from + i) 0) (get_or word i 0) q)

  -- unequal bytes decide it
  pub spells_off : (get_or w (from + i) 0 ≡ get_or word i 0 → ⊥) → same (slice (from + i) to w) (drop i word) ≡ false
  spells_off q = both ∙ rw (ne_eqb (get_or w (from + i) 0) (get_or word i 0) q)

-- nothing is left of either
pub spells_end : (w word : List ℕ) (from to i : ℕ) → from + i ≡ to → length word ≤ i → same (slice (from + i) to w) (drop i word) ≡ true
spells_end w word from to i e h = rw (e, slice_empty to w, drop_of_length-le word h)
