-- PassedLaws: the parts of an attribute, and attributes behind each other, by the grammar's constructors.
-- Assumes nothing.
use mathlib.Core.Path.{◌≡◌, refl, sym}
use mathlib.Core.Bool.{Bool, true, false}
use mathlib.Core.List.{List, [], ◌∷◌, ◌++◌}
use Prim.Native.Nat.{ℕ, suc, ◌+◌, ◌≤◌, ◌<◌}
use native.Mathlib.Omega.{arith}
use lib.ListN.{length, get_or, drop}
use lib.Seq.{slice, slice-cons}
use Rattle.paper.specs.Lists.{until, All}
use Rattle.paper.specs.Bytes.{is_space, is_letter}
use Rattle.paper.specs.Grammar.{Attr, Attrs, end, space, attr, Space, Pass, Name, Quote, double, single, is_name_byte}
use Rattle.paper.proofs.Small.{no}
use Rattle.room.proofs.Runs.{run_on}
use Rattle.quoted.specs.Raws.{RawAt}
use Rattle.quoted.proofs.Pieces.{part, one, none, all_run, in_it}

pub no_nought : (q : ℕ) → Quote q → q ≡ 0 → ⊥
no_nought q double e = omega arith
no_nought q single e = omega arith

pub letter_in : (w : List ℕ) (a : ℕ) → is_letter (get_or w a 0) ≡ true → a < length w
letter_in w a h = in_it w a (λ z. no (sym (rw z at h)))

-- a letter begins a name
pub begins : (w : List ℕ) (a e : ℕ) → is_letter (get_or w a 0) ≡ true → e ≡ a + until is_name_byte (drop a w) → a < e
begins w a e h q =
    let n : is_name_byte (get_or w a 0) ≡ true = rw h in
    let m = run_on is_name_byte w a (letter_in w a h) n in
    omega (arith, q, m)

-- ---- one attribute

module _ (w : List ℕ) (a e u v q k : ℕ) (letter : is_letter (get_or w a 0) ≡ true) (he : e ≡ a + until is_name_byte (drop a w)) (ae : a < e)
    (hu : u ≡ e + until is_space (drop e w)) (eu : e ≤ u) (ul : u < length w) (eq : get_or w u 0 ≡ 61)
    (hv : v ≡ u + 1 + until is_space (drop (u + 1) w)) (uv : u + 1 ≤ v) (vl : v < length w) (op : get_or w v 0 ≡ q) (qu : Quote q)
    (pl : RawAt w (v + 1) q k) where
  name_of : Name (slice a e w)
  name_of =
      let c : slice a e w ≡ get_or w a 0 ∷ slice (suc a) e w = slice-cons a e w 0 ae (omega arith) in
      let n : All (Pass is_name_byte) (get_or w a 0 ∷ slice (suc a) e w) = rw c at (all_run is_name_byte w a e he) in
      rw c (letter, n.1)

  shape : (x : List ℕ) → slice a (k + 1) w ++ x ≡ slice a e w ++ (slice e u w ++ 61 ∷ (slice (u + 1) v w ++ q ∷ (slice (v + 1) k w ++ q ∷ x)))
  shape x =
      let i = pl.within in
      let vk : v + 1 ≤ k = i.0 in
      let kl : k + 1 ≤ length w = omega (arith, i.1) in
      let p1 = part w x a e (k + 1) (omega arith) (omega arith) kl in
      let p2 = part w x e u (k + 1) eu (omega arith) kl in
      let p3 = one w x u (k + 1) 61 (omega arith) kl eq in
      let p4 = part w x (u + 1) v (k + 1) uv (omega arith) kl in
      let p5 = one w x v (k + 1) q (omega arith) kl op in
      let p6 = part w x (v + 1) k (k + 1) vk (omega arith) kl in
      let p7 = one w x k (k + 1) q (omega arith) kl pl.closes in
      let p8 = none w x (k + 1) (k + 1) refl in
      rw (p1, p2, p3, p4, p5, p6, p7, p8)

  pub attr_derives : (x : List ℕ) (l : List Attr) → Attrs false x l → Attrs true (slice a (k + 1) w ++ x) (record { name = slice a e w; raw = slice (v + 1) k w } ∷ l)
  attr_derives x l d = rw (shape x)
      (attr (slice a e w) (slice e u w) (slice (u + 1) v w) q (slice (v + 1) k w) name_of (all_run is_space w e u hu) (all_run is_space w (u + 1) v hv) qu pl.raw d)

-- ---- attributes behind each other

-- spaces before attributes
pub spaced : (s : List ℕ) → All Space s → (x : List ℕ) (l : List Attr) → Attrs true x l → Attrs true (s ++ x) l
spaced [] a x l d = d
spaced (c ∷ s) a x l d = space a.0 (spaced s a.1 x l d)

-- spaces before the tag's end
pub last : (b : Bool) (s : List ℕ) → All Space s → Attrs b s []
last b [] a = end
last b (c ∷ s) a = space a.0 (last true s a.1)
