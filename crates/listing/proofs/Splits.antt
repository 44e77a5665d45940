-- Splits: the next zero byte, looked for byte by byte, and the pages of the input one after the other.
-- Assumes nothing.
use mathlib.Core.Path.{◌≡◌, refl, sym, ap, ◌∙◌}
use mathlib.Core.Bool.{Bool, true, false}
use mathlib.Core.List.{List, [], ◌∷◌}
use Prim.Native.Nat.{ℕ, zero, suc, ◌+◌, ◌-◌, ◌≤◌, ◌<◌}
use native.Mathlib.Numerals.{add-one}
use native.Mathlib.Omega.{arith}
use lib.ListN.{length, take, drop, get_or, set, length-take, length-drop, drop_of_length-le}
use lib.Dec.{ltb}
use lib.Seq.{drop-cons, drop-drop, take-nil, take_all, take_at}
use borrow.Author.Tests.{ltb-true, ltb-false}
use Rattle.room.specs.Laid.{laid}
use Rattle.room.proofs.LaidLaws.{Laying, start, told, next_byte, all_laid}
use Rattle.paper.specs.Calls.{pages_at}
use Rattle.paper.specs.Listing.{onto, parted}
use Rattle.listing.specs.Split.{to_zero, starts_from, lengths}

-- a zero byte stands here
pub zero_here : (s : List ℕ) (i : ℕ) → i < length s → get_or s i 0 ≡ 0 → to_zero (drop i s) ≡ 0
zero_here s i h e = rw (drop-cons s i 0, e)

other_byte : (x : ℕ) (s : List ℕ) → (x ≡ 0 → ⊥) → to_zero (x ∷ s) ≡ suc (to_zero s)
other_byte zero s h = absurd (h refl)
other_byte (suc x) s h = refl

-- another byte stands here
pub zero_on : (s : List ℕ) (i : ℕ) → i < length s → (get_or s i 0 ≡ 0 → ⊥) → to_zero (drop i s) ≡ suc (to_zero (drop (i + 1) s))
zero_on s i h e = rw (add-one i, drop-cons s i 0) (other_byte (get_or s i 0) (drop (suc i) s) e)

-- the input has ended
pub zero_none : (s : List ℕ) (i : ℕ) → length s ≤ i → to_zero (drop i s) ≡ 0
zero_none s i h = rw (drop_of_length-le s h)

-- ---- the pages

-- no zero byte is left: the rest is the last page
last_page : (s : List ℕ) → to_zero s ≡ length s → parted s ≡ s ∷ []
last_page [] e = refl
last_page (zero ∷ s) e = absurd (omega arith)
last_page (suc c ∷ s) e = ap (onto (suc c)) (last_page s (omega arith))

-- the page ends at a zero byte, and the others stand behind it
next_page : (s : List ℕ) → to_zero s < length s → parted s ≡ take (to_zero s) s ∷ parted (drop (suc (to_zero s)) s)
next_page [] h = absurd (omega arith)
next_page (zero ∷ s) h = refl
next_page (suc c ∷ s) h = ap (onto (suc c)) (next_page s (omega arith))

-- the same, by places in the input
pub page_last : (input : List ℕ) (at e : ℕ) → at ≤ length input → e ≡ at + to_zero (drop at input) → e ≡ length input → parted (drop at input) ≡ drop at input ∷ []
page_last input at e h q l = last_page (drop at input) (let k = length-drop at input in omega arith)

pub page_next : (input : List ℕ) (at e : ℕ) → at ≤ length input → e ≡ at + to_zero (drop at input) → e < length input
    → parted (drop at input) ≡ take (e - at) (drop at input) ∷ parted (drop (e + 1) input)
page_next input at e h q l =
    let k = length-drop at input in
    let a : to_zero (drop at input) ≡ e - at = omega arith in
    let b : at + suc (to_zero (drop at input)) ≡ e + 1 = omega arith in
    next_page (drop at input) (omega arith) ∙ rw (drop-drop (suc (to_zero (drop at input))) at input, b, a)

-- as many starts as pages
starts_long : (k n : ℕ) (ps : List (List ℕ)) → length (take k (starts_from n ps)) ≡ length (take k ps)
starts_long zero n ps = refl
starts_long (suc k) n [] = refl
starts_long (suc k) n (w ∷ ps) = ap suc (starts_long k (n + length w + 1) ps)

starts_all : (n : ℕ) (ps : List (List ℕ)) → length (starts_from n ps) ≡ length ps
starts_all n [] = refl
starts_all n (w ∷ ps) = ap suc (starts_all (n + length w + 1) ps)

lengths_all : (ps : List (List ℕ)) → length (lengths ps) ≡ length ps
lengths_all [] = refl
lengths_all (w ∷ ps) = ap suc (lengths_all ps)

-- the next zero byte stands within the input, or at its end
zero_within : (s : List ℕ) → to_zero s ≤ length s
zero_within [] = omega arith
zero_within (zero ∷ s) = omega arith
zero_within (suc c ∷ s) = let h = zero_within s in omega arith

-- ---- the pages in a loop

-- the next of at most ten numbers is stored
one_stored : {o₀ o all : List ℕ} {n : ℕ} (x : ℕ) (more : List ℕ) → n < 10 → 10 ≤ length o₀ → Laying o₀ o 0 n all (take (10 - n) (x ∷ more)) → Laying o₀ (set o n x) 0 (n + 1) all (take (10 - (n + 1)) more)
one_stored {o₀} {o} {all} {n} x more h l L =
    let e : 10 - n ≡ suc (10 - (n + 1)) = omega arith in
    next_byte (told L (rw e)) (omega arith)

-- n of the starts and lengths are stored, and the next page begins at `at`
pub record Splitting (input starts₀ lens₀ starts lens : List ℕ) (at n : ℕ) : Type 0 where
  pub few : n ≤ 10
  pub inside : at ≤ length input
  pub starts_ten : 10 ≤ length starts₀
  pub lens_ten : 10 ≤ length lens₀
  pub starts_laid : Laying starts₀ starts 0 n (take 10 (starts_from 0 (parted input))) (take (10 - n) (starts_from at (parted (drop at input))))
  pub lens_laid : Laying lens₀ lens 0 n (take 10 (lengths (parted input))) (take (10 - n) (lengths (parted (drop at input))))

-- no page is stored yet
pub split_start : (input starts lens : List ℕ) → 10 ≤ length starts → 10 ≤ length lens → Splitting input starts lens starts lens 0 0
split_start input starts lens a b = record { few = omega arith; inside = omega arith; starts_ten = a; lens_ten = b; starts_laid = start starts 0 _ (omega arith); lens_laid = start lens 0 _ (omega arith) }

-- the answer: how many pages there are, and where
abbrev pub Split : List ℕ → List ℕ → List ℕ → List ℕ → List ℕ → ℕ → Type 0
Split input starts₀ lens₀ starts lens r = (r ≡ length (take 10 (parted input)))
    × (starts ≡ laid starts₀ 0 (take 10 (starts_from 0 (parted input)))) × (lens ≡ laid lens₀ 0 (take 10 (lengths (parted input))))

-- nothing is left to store
split_end : (input : List ℕ) {starts₀ lens₀ starts lens : List ℕ} {n : ℕ}
    → Laying starts₀ starts 0 n (take 10 (starts_from 0 (parted input))) [] → Laying lens₀ lens 0 n (take 10 (lengths (parted input))) [] → Split input starts₀ lens₀ starts lens n
split_end input L K = (let e = (all_laid (omega arith) L).0 in omega (arith, starts_long 10 0 (parted input)), (all_laid (omega arith) L).1, (all_laid (omega arith) K).1)

module _ {input starts₀ lens₀ starts lens : List ℕ} {at n : ℕ} (H : Splitting input starts₀ lens₀ starts lens at n) (e : ℕ) (q : e ≡ at + to_zero (drop at input)) (h : n < 10) where
  -- the last page is stored
  pub split_last : e ≡ length input → Split input starts₀ lens₀ (set starts n at) (set lens n (e - at)) (n + 1)
  split_last l =
      let p = page_last input at e H.inside q l in
      let k : length (drop at input) ≡ e - at = length-drop at input ∙ rw (sym l) in
      let none : take (10 - (n + 1)) [] ≡ [] = take-nil (10 - (n + 1)) in
      split_end input
      (told (one_stored at [] h H.starts_ten (told H.starts_laid (rw p))) none)
      (told (one_stored (e - at) [] h H.lens_ten (told H.lens_laid (rw (p, k)))) none)

  -- a page is stored, and another follows
  pub split_next : e < length input → Splitting input starts₀ lens₀ (set starts n at) (set lens n (e - at)) (e + 1) (n + 1)
  split_next l =
      let p = page_next input at e H.inside q l in
      let k : length (take (e - at) (drop at input)) ≡ e - at = simp (length-take, length-drop) (omega (arith, H.inside)) in
      let b : at + (e - at) + 1 ≡ e + 1 = omega arith in
      record {
        few = omega arith;
        inside = omega arith;
        starts_ten = H.starts_ten;
        lens_ten = H.lens_ten;
        starts_laid = one_stored at (starts_from (e + 1) (parted (drop (e + 1) input))) h H.starts_ten (told H.starts_laid (rw (p, k, b)));
        lens_laid = one_stored (e - at) (lengths (parted (drop (e + 1) input))) h H.lens_ten (told H.lens_laid (rw (p, k)));
      }

-- ten pages are stored
pub split_ten : {input starts₀ lens₀ starts lens : List ℕ} {at n : ℕ} → Splitting input starts₀ lens₀ starts lens at n → 10 ≤ n → Split input starts₀ lens₀ starts lens 10
split_ten {input} {n = n} H h =
    let z : 10 - n ≡ 0 = omega arith in
    let s = split_end input (told H.starts_laid (rw z)) (told H.lens_laid (rw z)) in
    (omega (arith, s.0, H.few), s.1, s.2)

-- ---- what the answer says

-- one page in front of others that are where they are said to be
page_before : (input w : List ℕ) (ps : List (List ℕ)) (at next : ℕ) → take (length w) (drop at input) ≡ w → at + length w + 1 ≡ next → pages_at input (starts_from next ps) (lengths ps) ≡ ps
    → pages_at input (starts_from at (w ∷ ps)) (lengths (w ∷ ps)) ≡ w ∷ ps
page_before input w ps at next a b e = rw (a, b, e)

-- the pages at their starts, with their lengths, are the pages of the input from a place on
pages_from : (k : ℕ) (input : List ℕ) (at : ℕ) → at ≤ length input → length input < k + at → pages_at input (starts_from at (parted (drop at input))) (lengths (parted (drop at input))) ≡ parted (drop at input)
pages_from zero input at h l = absurd (omega arith)
pages_from (suc k) input at h l = go (ltb (at + to_zero (drop at input)) (length input)) refl (λ n. pages_from k input n)
  where
    go : (b : Bool) → ltb (at + to_zero (drop at input)) (length input) ≡ b
        → ((n : ℕ) → n ≤ length input → length input < k + n → pages_at input (starts_from n (parted (drop n input))) (lengths (parted (drop n input))) ≡ parted (drop n input))
        → pages_at input (starts_from at (parted (drop at input))) (lengths (parted (drop at input))) ≡ parted (drop at input)
    go true e ih =
        let z : ℕ = at + to_zero (drop at input) in
        let i : z < length input = ltb-true z (length input) e in
        let m = length-take (z - at) (drop at input) in
        let n = length-drop at input in
        let w : List ℕ = take (z - at) (drop at input) in
        let wl : length w ≡ z - at = simp (length-take, length-drop) (omega arith) in
        rw (page_next input at z h refl i)
        (page_before input w (parted (drop (z + 1) input)) at (z + 1) (ap (λ (q : ℕ). take q (drop at input)) wl) (omega arith) (ih (z + 1) (omega arith) (omega arith)))
    go false e ih =
        let z : ℕ = at + to_zero (drop at input) in
        let i : length input ≤ z = ltb-false z (length input) e in
        let n = length-drop at input in
        let t = zero_within (drop at input) in
        rw (page_last input at z h refl (omega arith))
        (page_before input (drop at input) [] at (at + length (drop at input) + 1) (take_all (length (drop at input)) (drop at input) (omega arith)) refl refl)

-- The starts and lengths of all pages show the pages.
pub pages_back : (input : List ℕ) → pages_at input (starts_from 0 (parted input)) (lengths (parted input)) ≡ parted input
pages_back input = pages_from (length input + 1) input 0 (omega arith) (omega arith)

lengths_long : (k : ℕ) (ps : List (List ℕ)) → length (take k (lengths ps)) ≡ length (take k ps)
lengths_long zero ps = refl
lengths_long (suc k) [] = refl
lengths_long (suc k) (w ∷ ps) = ap suc (lengths_long k ps)

-- the first numbers of a room into which they were laid from its beginning on
laid_front : (o p : List ℕ) (r : ℕ) → length p ≡ r → take r (laid o 0 p) ≡ p
laid_front o p r e = take_at p (drop (0 + length p) o) r e

-- The answer's first numbers are where the pages begin, and how long they are.
pub split_fronts : (input starts₀ lens₀ starts lens : List ℕ) (r : ℕ) → Split input starts₀ lens₀ starts lens r
    → (take r starts ≡ take 10 (starts_from 0 (parted input))) × (take r lens ≡ take 10 (lengths (parted input)))
split_fronts input starts₀ lens₀ starts lens r w =
    let ps : List (List ℕ) = parted input in
    (ap (take r) w.1 ∙ laid_front starts₀ (take 10 (starts_from 0 ps)) r (starts_long 10 0 ps ∙ sym w.0), ap (take r) w.2 ∙ laid_front lens₀ (take 10 (lengths ps)) r (lengths_long 10 ps ∙ sym w.0))

-- At most nine pages: the answer's starts and lengths show the pages of the input.
pub nine_or_fewer : (input starts₀ lens₀ starts lens : List ℕ) (r : ℕ) → Split input starts₀ lens₀ starts lens r → r ≤ 9 → pages_at input (take r starts) (take r lens) ≡ parted input
nine_or_fewer input starts₀ lens₀ starts lens r w h =
    let ps : List (List ℕ) = parted input in
    let few : length ps ≤ 10 = let m = length-take 10 ps in omega (arith, w.0) in
    let (a, b) = split_fronts input starts₀ lens₀ starts lens r w in
    let sl : take 10 (starts_from 0 ps) ≡ starts_from 0 ps = take_all 10 (starts_from 0 ps) (omega (arith, starts_all 0 ps)) in
    let ll : take 10 (lengths ps) ≡ lengths ps = take_all 10 (lengths ps) (omega (arith, lengths_all ps)) in
    rw (a, b, sl, ll) (pages_back input)

-- Ten is told just where there are ten pages or more.
pub ten_or_more : (input starts₀ lens₀ starts lens : List ℕ) (r : ℕ) → Split input starts₀ lens₀ starts lens r → (r ≡ 10 → 10 ≤ length (parted input)) × (10 ≤ length (parted input) → r ≡ 10)
ten_or_more input starts₀ lens₀ starts lens r w = let m = length-take 10 (parted input) in (λ e. omega (arith, w.0), λ h. omega (arith, w.0))
