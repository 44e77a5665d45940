-- LaidLaws: what stands in a lent room into which something was laid; and writing into it piece by piece, where what is to be written is what is written
-- and what is left to write.
-- Assumes nothing.
use mathlib.Core.Path.{◌≡◌, refl, sym, ap, ◌∙◌}
use mathlib.Core.List.{List, [], ◌∷◌, ◌++◌, append_assoc, append-nil}
use Prim.Native.Nat.{ℕ, ◌+◌, ◌≤◌, ◌<◌}
use native.Mathlib.Nat.{add-zero}
use native.Mathlib.Numerals.{add-one}
use native.Mathlib.Omega.{arith}
use lib.ListN.{length, take, drop, get_or, set, length-append, length-take, length-drop, take-append-drop}
use lib.Seq.{take_at, drop_at, drop-drop, set_split, length-take-le, take-length, paste, paste-suc}
use Rattle.room.specs.Laid.{laid}

-- one byte stored is one byte laid
pub set_laid : (out : List ℕ) (n x : ℕ) → n < length out → set out n x ≡ laid out n (x ∷ [])
set_laid out n x h = rw (add-one) (set_split out n x h)

-- ---- the room that is left

module _ (xs p : List ℕ) (at : ℕ) (fits : at + length p ≤ length xs) where
  before_long : length (take at xs) ≡ at
  before_long = length-take-le at xs (omega arith)

  -- the list keeps its length
  pub laid_long : length (laid xs at p) ≡ length xs
  laid_long = simp (length-append, length-drop) (omega (arith, before_long))

  -- behind its start stand the numbers, and then what stood behind them
  pub laid_from : drop at (laid xs at p) ≡ p ++ drop (at + length p) xs
  laid_from = drop_at (take at xs) (p ++ drop (at + length p) xs) at before_long

  -- what stood before is untouched
  pub laid_before : take at (laid xs at p) ≡ take at xs
  laid_before = take_at (take at xs) (p ++ drop (at + length p) xs) at before_long

  -- the numbers stand in their place
  pub laid_there : take (length p) (drop at (laid xs at p)) ≡ p
  laid_there = rw laid_from (take_at p (drop (at + length p) xs) (length p) refl)

  -- what stood behind is untouched
  pub laid_behind : drop (at + length p) (laid xs at p) ≡ drop (at + length p) xs
  laid_behind = sym (drop-drop (length p) at (laid xs at p)) ∙ rw laid_from (drop_at p (drop (at + length p) xs) (length p) refl)

  -- laid over, the first numbers are gone
  pub laid_over : (q : List ℕ) → length q ≡ length p → laid (laid xs at p) at q ≡ laid xs at q
  laid_over q e = rw (laid_before, e, laid_behind)

-- ---- piece by piece

-- the room out₀ has become out: `all` is to be laid from `at` on, the place reached is n, and `rest` is still to come
pub record Laying (out₀ out : List ℕ) (at n : ℕ) (all rest : List ℕ) : Type 0 where
  pub long : length out ≡ length out₀
  pub inside : n ≤ length out₀
  pub same : drop n out ≡ drop n out₀
  pub right : take at out₀ ++ all ≡ take n out ++ rest

-- nothing is laid yet
pub start : (out : List ℕ) (at : ℕ) (all : List ℕ) → at ≤ length out → Laying out out at at all all
start out at all h = record { long = refl; inside = h; same = refl; right = refl }

-- what is left may be told in other words
pub told : {out₀ out : List ℕ} {at n : ℕ} {all rest rest' : List ℕ} → Laying out₀ out at n all rest → rest ≡ rest' → Laying out₀ out at n all rest'
told L e = record { long = L.long; inside = L.inside; same = L.same; right = L.right ∙ rw e }

module _ {out₀ out : List ℕ} {at n : ℕ} {all rest : List ℕ} (L : Laying out₀ out at n all rest) (p t : List ℕ) (e : rest ≡ p ++ t) (h : n + length p ≤ length out₀) where
  front : List ℕ
  front = take n out ++ p

  front_long : length front ≡ n + length p
  unfolding front
  front_long = let l = L.long in simp (length-append, length-take) (omega arith)

  front_then : (l : List ℕ) → take n out ++ (p ++ l) ≡ front ++ l
  unfolding front
  front_then l = sym (append_assoc (take n out) p l)

  split : laid out n p ≡ front ++ drop (n + length p) out
  split = front_then (drop (n + length p) out)

  -- the next piece is laid
  pub next_piece : Laying out₀ (laid out n p) at (n + length p) all t
  next_piece = record {
    long = let l = L.long in rw split (simp (length-append, length-drop, front_long) (omega arith));
    inside = h;
    same = rw (split, drop_at front (drop (n + length p) out) (n + length p) front_long, ← drop-drop (length p) n out, L.same) (drop-drop (length p) n out₀);
    right = L.right ∙ rw (e, split, take_at front (drop (n + length p) out) (n + length p) front_long) (front_then t);
  }

-- all is laid
pub all_laid : {out₀ out : List ℕ} {at n : ℕ} {all : List ℕ} → at ≤ length out₀ → Laying out₀ out at n all [] → (n ≡ at + length all) × (out ≡ laid out₀ at all)
all_laid {out₀} {out} {at} {n} {all} h L = (k, whole)
  where
    f : take at out₀ ++ all ≡ take n out
    f = L.right ∙ append-nil (take n out)

    k : n ≡ at + length all
    k = let l = L.long in let i = L.inside in omega (arith, simp (length-append, length-take) at (ap length f))

    whole : out ≡ laid out₀ at all
    whole = sym (take-append-drop n out) ∙ rw (← f, L.same, k) (append_assoc (take at out₀) all (drop (at + length all) out₀))

-- the next byte is stored
pub next_byte : {out₀ out : List ℕ} {at n x : ℕ} {all t : List ℕ} → Laying out₀ out at n all (x ∷ t) → n < length out₀ → Laying out₀ (set out n x) at (n + 1) all t
next_byte {out₀} {out} {at} {n} {x} {all} {t} L h =
    let l : n < length out = omega (arith, L.long) in
    let r : n + length (x ∷ []) ≤ length out₀ = omega arith in
    rw (set_laid out n x l) (next_piece L (x ∷ []) t refl r)

-- nothing is laid yet, of a word from its start on
pub start_at : (out : List ℕ) (at : ℕ) (all : List ℕ) → at ≤ length out → Laying out out at (at + 0) all all
start_at out at all h = rw (add-zero at) (start out at all h)

-- ---- entry by entry, of a word of bytes or of numbers

-- the next entry of a word is stored behind those that are laid
pub next_entry : {A : Type 0} (out : List A) (at : ℕ) (w : List A) (i : ℕ) (z : A) → at + i < length out → i < length w
    → set (paste out at w i) (at + i) (get_or w i z) ≡ paste out at w (i + 1)
next_entry out at w i z h k = rw (add-one) (paste-suc out at w i z h k)

-- the whole word is laid
pub whole_word : {A : Type 0} (out : List A) (at : ℕ) (w : List A) → paste out at w (length w) ≡ laid out at w
whole_word out at w = rw (take-length w) (append_assoc (take at out) w (drop (at + length w) out))
