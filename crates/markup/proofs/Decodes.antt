-- Decodes: decoding with the trailing blanks held back. What the whole value is = what is written, then what the blanks held back and the bytes to come give.
-- Assumes nothing.
use mathlib.Core.Path.{◌≡◌, refl, sym, ap, ◌∙◌}
use mathlib.Core.Bool.{Bool, true, false}
use mathlib.Core.List.{List, [], ◌∷◌, ◌++◌, append_assoc}
use Prim.Native.Nat.{ℕ, zero, suc, ◌+◌, ◌-◌, ◌≤◌, ◌<◌}
use native.Mathlib.Numerals.{add-one}
use native.Mathlib.Omega.{arith}
use lib.Dec.{eqb}
use Rattle.std.specs.Prelude.{Option, Some, None, option_to_list}
use lib.ListN.{length, get_or, replicate, set, take, drop, length-append, length-replicate}
use lib.Seq.{slice, slice-cons, slice_empty, drop-drop}
use borrow.Author.Tests.{ne_eqb, eqb-true}
use Rattle.paper.specs.Lists.{if}
use Rattle.paper.specs.Values.{text, vstep, decode, keep, cut, value}
use Rattle.room.specs.Laid.{laid}
use Rattle.markup.specs.Decoding.{place_at, Sound}
use Rattle.markup.specs.declared.values.Place.{Place}
use Rattle.markup.specs.declared.values.Place.TheVariants.{Text}
use Rattle.room.proofs.LaidLaws.{Laying, start, told, next_piece, next_byte, all_laid}

-- ---- trailing blanks

-- bytes behind k blanks, less the blanks at their end
unfoldable pub trim_from : ℕ → List ℕ → List ℕ
trim_from k [] = []
trim_from k (b ∷ s) = if (eqb b 32) (trim_from (suc k) s) (replicate k 32 ++ (b ∷ trim_from 0 s))

-- blanks before what is left, if anything is left
abbrev behind : ℕ → List ℕ → List ℕ
behind k [] = []
behind k (x ∷ s) = replicate k 32 ++ (x ∷ s)

one_more : (k : ℕ) (l : List ℕ) → replicate k 32 ++ (32 ∷ l) ≡ replicate (suc k) 32 ++ l
one_more zero l = refl
one_more (suc k) l = ap (λ (m : List ℕ). 32 ∷ m) (one_more k l)

behind_none : (l : List ℕ) → behind 0 l ≡ l
behind_none [] = refl
behind_none (x ∷ l) = refl

trims : (l : List ℕ) (k : ℕ) → trim_from k l ≡ behind k (cut l)
unfolding trim_from
trims [] k = refl
trims (b ∷ s) k = go (eqb b 32) refl (trims s)
  where
    -- a step that gives a blank
    blank : (l : List ℕ) → eqb b 32 ≡ true → behind (suc k) l ≡ behind k (keep b l)
    blank [] e = rw e
    blank (d ∷ l) e = rw (eqb-true b 32 e) (sym (one_more k (d ∷ l)))

    other : (l : List ℕ) → eqb b 32 ≡ false → replicate k 32 ++ (b ∷ l) ≡ behind k (keep b l)
    other [] e = rw e
    other (d ∷ l) e = refl

    go : (t : Bool) → eqb b 32 ≡ t → ((k : ℕ) → trim_from k s ≡ behind k (cut s))
        → if t (trim_from (suc k) s) (replicate k 32 ++ (b ∷ trim_from 0 s)) ≡ behind k (keep b (cut s))
    go true e ih = ih (suc k) ∙ blank (cut s) e
    go false e ih = rw (ih 0, behind_none (cut s)) (other (cut s) e)

-- cutting trailing blanks is holding none back
pub trim_cut : (l : List ℕ) → cut l ≡ trim_from 0 l
trim_cut l = sym (trims l 0 ∙ behind_none (cut l))

-- what a step's byte does to what is left
module _ (x : List ℕ) (p : ℕ) where
  -- a step that gives nothing
  pub quiet : (e : Option ℕ) → e ≡ None → trim_from p (option_to_list e ++ x) ≡ trim_from p x
  quiet e h = rw h

  -- a step that gives a blank
  pub blank : (e : Option ℕ) → e ≡ Some 32 → trim_from p (option_to_list e ++ x) ≡ trim_from (p + 1) x
  unfolding trim_from
  blank e h = rw (h, add-one)

  -- a step that gives any other byte
  pub byte : (e : Option ℕ) (v : ℕ) → e ≡ Some v → (v ≡ 32 → ⊥) → trim_from p (option_to_list e ++ x) ≡ (replicate p 32 ++ (v ∷ [])) ++ trim_from 0 x
  unfolding trim_from
  byte e v h k = rw (h, ne_eqb v 32 k) (sym (append_assoc (replicate p 32) (v ∷ []) (trim_from 0 x)))

-- ---- blanks and a byte are put

-- k blanks laid from place n on, and a byte stored behind them
pub blanks_put : (out : List ℕ) (n j k v : ℕ) → j ≡ k → n + k < length out
    → set (take n out ++ (replicate k 32 ++ drop j (drop n out))) (n + k) v ≡ laid out n (replicate k 32 ++ (v ∷ []))
blanks_put out n j k v e h =
    let l : length (replicate {A = ℕ} k 32) ≡ k = length-replicate k 32 in
    let f : n + length (replicate {A = ℕ} k 32) ≤ length out = omega (arith, l) in
    let L : Laying out (laid out n (replicate k 32)) n (n + length (replicate {A = ℕ} k 32)) (replicate k 32 ++ (v ∷ [])) (v ∷ []) = next_piece (start out n (replicate k 32 ++ (v ∷ [])) (omega arith)) (replicate k 32) (v ∷ []) refl f in
    let s = (all_laid (omega arith) (next_byte L (omega (arith, l)))).1 in
    rw (e, drop-drop k n out) (rw l at s)

-- ---- the loop

-- the raw value w from `from` to `to` is decoded up to i, into a room from `at` up to n; p blanks are held back
pub record Held (w out₀ out : List ℕ) (from to at i n p : ℕ) (m : Place) : Type 0 where
  pub begun : from ≤ i
  pub within : i ≤ to
  pub inside : to ≤ length w
  pub fits : at + (to - from) ≤ length out₀
  pub room : n + p ≤ at + (i - from)
  pub sound : Sound i m
  pub laying : Laying out₀ out at n (value (slice from to w)) (trim_from p (decode (place_at w i m) (slice i to w)))

-- nothing is decoded yet
pub first : (w out : List ℕ) (from to at : ℕ) → from ≤ to → to ≤ length w → at + (to - from) ≤ length out → Held w out out from to at from at 0 Text
first w out from to at h k l = record {
  begun = omega arith;
  within = h;
  inside = k;
  fits = l;
  room = omega arith;
  sound = tt;
  laying = told (start out at (value (slice from to w)) (omega arith)) (trim_cut (decode text (slice from to w)));
}

module _ {w out₀ out : List ℕ} {from to at i n p : ℕ} {m : Place} (H : Held w out₀ out from to at i n p m) (h : i < to) (e : Option ℕ) (m' : Place)
    (f : option_to_list e ≡ (vstep (place_at w i m) (get_or w i 0)).out) (g : place_at w (i + 1) m' ≡ (vstep (place_at w i m) (get_or w i 0)).to) (S : Sound (i + 1) m') where
  x : List ℕ
  x = decode (place_at w (i + 1) m') (slice (i + 1) to w)

  left : trim_from p (decode (place_at w i m) (slice i to w)) ≡ trim_from p (option_to_list e ++ x)
  unfolding x
  left = rw (slice-cons i to w 0 h H.inside, f, g, add-one)

  -- a byte that gives nothing
  pub go_quiet : e ≡ None → Held w out₀ out from to at (i + 1) n p m'
  unfolding x
  go_quiet z = record { begun = omega arith; within = omega arith; inside = H.inside; fits = H.fits; room = omega arith; sound = S; laying = told H.laying (left ∙ quiet x p e z) }

  -- a byte that gives a blank, which is held back
  pub go_blank : e ≡ Some 32 → Held w out₀ out from to at (i + 1) n (p + 1) m'
  unfolding x
  go_blank z = record { begun = omega arith; within = omega arith; inside = H.inside; fits = H.fits; room = omega arith; sound = S; laying = told H.laying (left ∙ blank x p e z) }

  -- a byte that gives another, behind the blanks held back
  pub go_byte : (v : ℕ) → e ≡ Some v → (v ≡ 32 → ⊥) → (out' : List ℕ) (n' : ℕ) → n' ≡ n + p + 1 → out' ≡ laid out n (replicate p 32 ++ (v ∷ [])) → Held w out₀ out' from to at (i + 1) n' 0 m'
  unfolding x
  go_byte v y z out' n' a b =
      let l : length (replicate p 32 ++ (v ∷ [])) ≡ p + 1 = simp (length-append, length-replicate) in
      let k : n + length (replicate p 32 ++ (v ∷ [])) ≡ n' = omega (arith, l) in
      let r : n + length (replicate p 32 ++ (v ∷ [])) ≤ length out₀ = omega arith in
      record {
        begun = omega arith;
        within = omega arith;
        inside = H.inside;
        fits = H.fits;
        room = omega arith;
        sound = S;
        laying = rw (← k, b) (next_piece H.laying (replicate p 32 ++ (v ∷ [])) (trim_from 0 x) (left ∙ byte x p e v y z) r);
      }

-- all is decoded, and the blanks still held back are cut
pub last : {w out₀ out : List ℕ} {from to at i n p : ℕ} {m : Place} → Held w out₀ out from to at i n p m → to ≤ i
    → (n ≡ at + length (value (slice from to w))) × (n ≤ at + (to - from)) × (out ≡ laid out₀ at (value (slice from to w)))
unfolding trim_from
last {w} {out₀} {out} {from} {to} {at} {i} {n} {p} {m} H h =
    let q : i ≡ to = let u = H.within in omega arith in
    let b : at ≤ length out₀ = let u = H.fits in omega arith in
    let a = all_laid b (told H.laying (rw (q, slice_empty to w))) in
    (a.0, omega arith, a.1)
