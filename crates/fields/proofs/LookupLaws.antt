-- LookupLaws: keys of names byte by byte, a key looked for step by step, and that a key tells its name.
-- Assumes nothing.
use mathlib.Core.Path.{◌≡◌, refl, sym, ap, ◌∙◌}
use mathlib.Core.Bool.{Bool, true, false, not}
use mathlib.Core.List.{List, [], ◌∷◌}
use Prim.Native.Nat.{ℕ, zero, suc, ◌+◌, ◌*◌, ◌-◌, ◌≤◌, ◌<◌}
use native.Mathlib.Numerals.{add-one}
use native.Mathlib.Omega.{arith}
use lib.Dec.{eqb, leb}
use lib.ListN.{length, take, drop, get_or}
use lib.Seq.{drop-cons}
use borrow.Author.Tests.{eq-eqb, ne_eqb, leb-false}
use Rattle.paper.specs.Lists.{if, same, until}
use Rattle.paper.proofs.Small.{no, same_self, same_eq}
use Rattle.fields.specs.Places.{key_of, key_or_none}
use Rattle.fields.specs.Columns.{other}

-- ---- a key, from the last byte on

-- twice 256 times itself so often: above the keys of names of so many bytes
abbrev pub tower : ℕ → ℕ
tower zero = 2
tower (suc n) = 256 * tower n

tower_more : (k j : ℕ) → k ≤ j → tower k ≤ tower j
tower_more zero zero h = omega arith
tower_more zero (suc j) h = let e = tower_more zero j (omega arith) in omega arith
tower_more (suc k) zero h = absurd (omega arith)
tower_more (suc k) (suc j) h = let e = tower_more k j (omega arith) in omega arith

-- a byte more has room
pub key_room : (k n i : ℕ) → k < tower (n - i) → n ≤ 7 → 0 < i → k * 256 + 255 ≤ 144115188075855872
key_room k n i h l p = let e = tower_more (n - i) 6 (omega arith) in let f : tower 6 ≡ 562949953421312 = refl in omega arith

-- a byte more keeps below the tower
pub key_small : (k n i b : ℕ) → k < tower (n - i) → b < 256 → 0 < i → i ≤ n → k * 256 + b < tower (n - (i - 1))
key_small k n i b h l p q = let e : n - (i - 1) ≡ suc (n - i) = omega arith in rw e (omega arith)

-- the key of one byte more
pub key_on : (s : List ℕ) (i : ℕ) → 0 < i → i ≤ length s → key_of (drop (i - 1) s) ≡ key_of (drop i s) * 256 + get_or s (i - 1) 0
key_on s i p h =
    let l : i - 1 < length s = omega arith in
    let e : suc (i - 1) ≡ i = omega arith in
    ap key_of (drop-cons s (i - 1) 0 l) ∙ ap (λ (j : ℕ). key_of (drop j s) * 256 + get_or s (i - 1) 0) e

-- ---- a key looked for

-- it stands here
pub find_here : (s : List ℕ) (to i k : ℕ) → i < to → i < length s → get_or s i 0 ≡ k → until (other k) (take (to - i) (drop i s)) ≡ 0
find_here s to i k h l e =
    let f : to - i ≡ suc (to - suc i) = omega arith in
    rw (f, drop-cons s i 0 l) (rw (eq-eqb (get_or s i 0) k e, until))

-- another stands here
pub find_on : (s : List ℕ) (to i k : ℕ) → i < to → i < length s → (get_or s i 0 ≡ k → ⊥)
    → until (other k) (take (to - i) (drop i s)) ≡ suc (until (other k) (take (to - (i + 1)) (drop (i + 1) s)))
find_on s to i k h l e =
    let f : to - i ≡ suc (to - suc i) = omega arith in
    rw (f, drop-cons s i 0 l, add-one i) (rw (ne_eqb (get_or s i 0) k e, until))

-- none is left
pub find_none : (s : List ℕ) (to i k : ℕ) → to ≤ i → until (other k) (take (to - i) (drop i s)) ≡ 0
find_none s to i k h = let f : to - i ≡ 0 = omega arith in rw f

-- ---- a key tells its name

-- a key is above zero
pub key_up : (n : List ℕ) → 1 ≤ key_of n
key_up [] = omega arith
key_up (c ∷ n) = let h = key_up n in omega arith

key_tells : (m n : List ℕ) → ((i : ℕ) → get_or m i 0 < 256) → ((i : ℕ) → get_or n i 0 < 256) → key_of m ≡ key_of n → m ≡ n
key_tells [] [] p q e = refl
key_tells [] (y ∷ n) p q e = let h = key_up n in absurd (omega arith)
key_tells (x ∷ m) [] p q e = let h = key_up m in absurd (omega arith)
key_tells (x ∷ m) (y ∷ n) p q e =
    let a : x < 256 = p 0 in
    let b : y < 256 = q 0 in
    let f : x ≡ y = omega arith in
    let g : key_of m ≡ key_of n = omega arith in
    let h = key_tells m n (λ i. p (suc i)) (λ i. q (suc i)) g in
    cc

-- a name of the table: at most seven bytes
pub record Short (m : List ℕ) : Type 0 where
  pub few : length m ≤ 7
  pub small : (i : ℕ) → get_or m i 0 < 256

-- a key is that of another name when the name is another
pub other_name : (m n : List ℕ) → Short m → ((i : ℕ) → get_or n i 0 < 256) → other (key_or_none n) (key_of m) ≡ not (same n m)
other_name m n s q = go (leb (length n) 7) refl (same n m) refl
  where
    far : (k : ℕ) → (key_of m ≡ k → ⊥) → same n m ≡ false → not (eqb (key_of m) k) ≡ not (same n m)
    far k h e = rw (ne_eqb (key_of m) k h, e)

    go : (a : Bool) → leb (length n) 7 ≡ a → (b : Bool) → same n m ≡ b → not (eqb (key_of m) (if a (key_of n) 0)) ≡ not (same n m)
    go true l true e = rw (e, eq-eqb (key_of m) (key_of n) (ap key_of (sym (same_eq n m e))))
    go true l false e = far (key_of n) (λ h. no (sym (same_self n) ∙ ap (same n) (sym (key_tells m n s.small q h)) ∙ e)) e
    go false l true e = let f = ap length (same_eq n m e) in let g = leb-false (length n) 7 l in absurd (omega (arith, s.few))
    go false l false e = let h = key_up m in far 0 (λ g. omega arith) e
