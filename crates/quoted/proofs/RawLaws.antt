-- RawLaws: references and odd bytes of a value, by the grammar's constructors.
-- Assumes nothing.
use mathlib.Core.Path.{◌≡◌, refl, sym, ap, ◌∙◌}
use mathlib.Core.Bool.{Bool, true, false, ◌||◌}
use mathlib.Core.List.{List, [], ◌∷◌, ◌++◌, append-nil}
use Prim.Native.Nat.{ℕ, suc, ◌+◌, ◌≤◌, ◌<◌}
use native.Mathlib.Omega.{arith}
use lib.Dec.{eqb}
use lib.ListN.{length, get_or, drop}
use lib.Seq.{slice, slice-cons}
use borrow.Author.Tests.{eqb-true}
use Rattle.paper.specs.Lists.{until, All}
use Rattle.paper.specs.Bytes.{is_allowed, is_digit}
use Rattle.paper.specs.Grammar.{Pass, Some, is_hex, Ref, dec, hex, Raw, plain, is_plain, Quote}
use Rattle.paper.proofs.Small.{no}
use Rattle.quoted.specs.Plain.{ordinary}
use Rattle.quoted.specs.Raws.{rare, RefAt}
use Rattle.quoted.proofs.PlainLaws.{itself}
use Rattle.quoted.proofs.Pieces.{part, one, none, all_run}

-- ---- digits

-- ---- references

-- one digit or more
digits : (p : ℕ → Bool) (w : List ℕ) (a e : ℕ) → e ≡ a + until p (drop a w) → a < e → e ≤ length w → Some p (slice a e w)
digits p w a e h l k =
    let c : slice a e w ≡ get_or w a 0 ∷ slice (suc a) e w = slice-cons a e w 0 l k in
    let n : All (Pass p) (get_or w a 0 ∷ slice (suc a) e w) = rw c at (all_run p w a e h) in
    rw c n

-- the bytes of a part, and one more
pub ended : (w : List ℕ) (a e c : ℕ) → a ≤ e → e < length w → get_or w e 0 ≡ c → slice a (e + 1) w ≡ slice a e w ++ c ∷ []
ended w a e c h l q =
    sym (append-nil (slice a (e + 1) w)) ∙ part w [] a e (e + 1) h (omega arith) (omega arith)
    ∙ ap (λ (z : List ℕ). slice a e w ++ z) (one w [] e (e + 1) c (omega arith) (omega arith) q ∙ ap (λ (z : List ℕ). c ∷ z) (none w [] (e + 1) (e + 1) refl))

-- one byte before
headed : (w : List ℕ) (a e c : ℕ) → a < e → e ≤ length w → get_or w a 0 ≡ c → slice a e w ≡ c ∷ slice (a + 1) e w
headed w a e c h l q = sym (append-nil (slice a e w)) ∙ one w [] a e c h l q ∙ ap (λ (z : List ℕ). c ∷ z) (append-nil (slice (a + 1) e w))

pub dec_at : (w : List ℕ) (a e : ℕ) → get_or w a 0 ≡ 35 → e ≡ a + 1 + until is_digit (drop (a + 1) w) → a + 1 < e → e < length w → get_or w e 0 ≡ 59 → RefAt w a (e + 1)
dec_at w a e q h l k s =
    let v : slice a (e + 1) w ≡ 35 ∷ (slice (a + 1) e w ++ 59 ∷ []) =
    headed w a (e + 1) 35 (omega arith) (omega arith) q ∙ ap (λ (z : List ℕ). 35 ∷ z) (ended w (a + 1) e 59 (omega arith) k s) in
    record { within = (omega arith, omega arith); ref = rw v (dec (slice (a + 1) e w) (digits is_digit w (a + 1) e h l (omega arith))) }

pub hex_at : (w : List ℕ) (a e : ℕ) → get_or w a 0 ≡ 35 → get_or w (a + 1) 0 ≡ 120 → e ≡ a + 2 + until is_hex (drop (a + 2) w) → a + 2 < e → e < length w → get_or w e 0 ≡ 59
    → RefAt w a (e + 1)
hex_at w a e q x h l k s =
    let z : a + 1 + 1 ≡ a + 2 = omega arith in
    let u : slice (a + 1) (e + 1) w ≡ 120 ∷ slice (a + 2) (e + 1) w = headed w (a + 1) (e + 1) 120 (omega arith) (omega arith) x ∙ ap (λ (m : ℕ). 120 ∷ slice m (e + 1) w) z in
    let v : slice a (e + 1) w ≡ 35 ∷ 120 ∷ (slice (a + 2) e w ++ 59 ∷ []) =
    headed w a (e + 1) 35 (omega arith) (omega arith) q ∙ ap (λ (m : List ℕ). 35 ∷ m) (u ∙ ap (λ (m : List ℕ). 120 ∷ m) (ended w (a + 2) e 59 (omega arith) k s)) in
    record { within = (omega arith, omega arith); ref = rw v (hex (slice (a + 2) e w) (digits is_hex w (a + 2) e h l (omega arith))) }

-- a reference by its bytes
pub word_at : (w : List ℕ) (a r : ℕ) (s : List ℕ) → a < r → r ≤ length w → slice a r w ≡ s → Ref s → RefAt w a r
word_at w a r s h l e f = record { within = (h, l); ref = rw e f }

-- ---- odd bytes

-- such a byte stands for itself
at_value : (q c k : ℕ) → eqb c q ≡ false → c ≡ k → is_allowed k ≡ true → eqb k 60 ≡ false → eqb k 38 ≡ false → is_plain q c ≡ true
at_value q c k n e a b d =
    let m : eqb k q ≡ false = rw e at n in
    rw (e, a, m, b, d)

pub rare_plain : (q c : ℕ) → rare c ≡ true → eqb c q ≡ false → is_plain q c ≡ true
rare_plain q c r n = first (eqb c 126) refl r
  where
    last : (t : Bool) → eqb c 39 ≡ t → t ≡ true → is_plain q c ≡ true
    last true e r = at_value q c 39 n (eqb-true c 39 e) refl refl refl
    last false e r = no (sym r)

    fifth : (t : Bool) → eqb c 34 ≡ t → t || eqb c 39 ≡ true → is_plain q c ≡ true
    fifth true e r = at_value q c 34 n (eqb-true c 34 e) refl refl refl
    fifth false e r = last (eqb c 39) refl r

    fourth : (t : Bool) → eqb c 9 ≡ t → t || (eqb c 34 || eqb c 39) ≡ true → is_plain q c ≡ true
    fourth true e r = at_value q c 9 n (eqb-true c 9 e) refl refl refl
    fourth false e r = fifth (eqb c 34) refl r

    third : (t : Bool) → eqb c 13 ≡ t → t || (eqb c 9 || (eqb c 34 || eqb c 39)) ≡ true → is_plain q c ≡ true
    third true e r = at_value q c 13 n (eqb-true c 13 e) refl refl refl
    third false e r = fourth (eqb c 9) refl r

    second : (t : Bool) → eqb c 10 ≡ t → t || (eqb c 13 || (eqb c 9 || (eqb c 34 || eqb c 39))) ≡ true → is_plain q c ≡ true
    second true e r = at_value q c 10 n (eqb-true c 10 e) refl refl refl
    second false e r = third (eqb c 13) refl r

    first : (t : Bool) → eqb c 126 ≡ t → t || (eqb c 10 || (eqb c 13 || (eqb c 9 || (eqb c 34 || eqb c 39)))) ≡ true → is_plain q c ≡ true
    first true e r = at_value q c 126 n (eqb-true c 126 e) refl refl refl
    first false e r = second (eqb c 10) refl r

-- ---- the bytes of a value up to i: whatever raw bytes may follow, may follow them

pub record RawHeld (w : List ℕ) (from q i : ℕ) : Type 0 where
  pub within : (from ≤ i) × (i ≤ length w)
  pub so_far : (x : List ℕ) → Raw q x → Raw q (slice from i w ++ x)

-- ordinary bytes before raw bytes
pub runs : (q : ℕ) → Quote q → (s : List ℕ) → All (Pass ordinary) s → (x : List ℕ) → Raw q x → Raw q (s ++ x)
runs q k [] a x d = d
runs q k (c ∷ s) a x d = plain (itself q c k a.0) (runs q k s a.1 x d)
