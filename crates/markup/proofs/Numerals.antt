-- Numerals: the number of a reference may be given up above 255, as no greater one is a byte that a value may hold.
-- Assumes nothing.
use mathlib.Core.Path.{◌≡◌, refl}
use mathlib.Core.Bool.{Bool, true, false}
use mathlib.Core.List.{List, [], ◌∷◌}
use Prim.Native.Nat.{ℕ, ◌+◌, ◌*◌, ◌-◌, ◌≤◌, ◌<◌}
use native.Mathlib.Nat.{mul-le-mul, mul-one}
use native.Mathlib.Numerals.{add-one}
use native.Mathlib.Omega.{arith}
use lib.Dec.{ltb}
use lib.ListN.{length, get_or, take, drop, drop_of_length-le}
use lib.Seq.{drop-cons, take-length}
use Rattle.std.specs.Prelude.{Some, None, unwrap_or}
use borrow.Author.Tests.{ne_eqb, lt-ltb, le-ltb, le-leb, lt-leb, ltb-false}
use Rattle.paper.specs.Lists.{if, number}
use Rattle.paper.specs.Values.{hex_digit, hex_number, mark, refers}
use Rattle.markup.specs.Decoding.{digit_in, numeral_in, byte_in, named_of}

-- ---- numbers up to 255

-- a number grows with each digit
grows : (s : List ℕ) (base a : ℕ) → 0 < base → a ≤ numeral_in base a s
unfolding numeral_in
grows [] base a h = omega arith
grows (c ∷ s) base a h =
    let r : a ≤ a = omega arith in
    let m : a * 1 ≤ a * base = mul-le-mul r h in
    let g : a * base + digit_in base c ≤ numeral_in base (a * base + digit_in base c) s = grows s base (a * base + digit_in base c) h in
    omega (arith, m, g, mul-one a)

module _ (base n i : ℕ) (s : List ℕ) (h : i < length s) where
  -- one digit more
  pub one_digit : numeral_in base n (drop i s) ≡ numeral_in base (n * base + digit_in base (get_or s i 0)) (drop (i + 1) s)
  unfolding numeral_in
  one_digit = rw (add-one, drop-cons s i 0 h)

  -- a number that is above 255 already
  pub too_large : 0 < base → 256 ≤ n * base + digit_in base (get_or s i 0) → None ≡ byte_in (numeral_in base n (drop i s))
  unfolding byte_in
  too_large z l =
      let g : n * base + digit_in base (get_or s i 0) ≤ numeral_in base n (drop i s) = rw one_digit (grows (drop (i + 1) s) base (n * base + digit_in base (get_or s i 0)) z) in
      rw (le-ltb (numeral_in base n (drop i s)) 256 (omega arith))

-- no digit is left
pub all_read : (base n i : ℕ) (s : List ℕ) → length s ≤ i → n < 256 → Some n ≡ byte_in (numeral_in base n (drop i s))
unfolding byte_in numeral_in
all_read base n i s h l = rw (drop_of_length-le s h, lt-ltb n 256 l)

-- ---- the byte of a number

-- a number above 255 no value holds
pub mark_byte : (n : ℕ) → mark (unwrap_or (byte_in n) 0) ≡ mark n
unfolding byte_in
mark_byte n = go (ltb n 256) refl
  where
    go : (t : Bool) → ltb n 256 ≡ t → mark (unwrap_or (if t (Some n) None) 0) ≡ mark n
    go true e = refl
    go false e =
        let l : 256 ≤ n = ltb-false n 256 e in
        rw (le-leb 32 n (omega arith), lt-leb n 126 (omega arith), le-leb 160 n (omega arith), lt-leb n 255 (omega arith))

dec_is : (s : List ℕ) (a : ℕ) → numeral_in 10 a s ≡ number a s
unfolding numeral_in
dec_is [] a = refl
dec_is (c ∷ s) a = dec_is s (a * 10 + (c - 48))

hex_is : (s : List ℕ) (a : ℕ) → numeral_in 16 a s ≡ hex_number a s
unfolding numeral_in
hex_is [] a = refl
hex_is (c ∷ s) a = hex_is s (a * 16 + hex_digit c)

-- ---- a reference

-- hexadecimal digits
pub refers_hex : (s : List ℕ) → 2 ≤ length s → get_or s 0 0 ≡ 35 → get_or s 1 0 ≡ 120 → mark (unwrap_or (byte_in (numeral_in 16 0 (take (length s - 2) (drop 2 s)))) 0) ≡ refers s
refers_hex [] l a b = absurd (omega arith)
refers_hex (x ∷ []) l a b = absurd (omega arith)
refers_hex (x ∷ y ∷ t) l a b =
    let e : length (x ∷ y ∷ t) - 2 ≡ length t = omega arith in
    rw (e, take-length t, mark_byte (numeral_in 16 0 t), hex_is t 0, a, b)

-- decimal digits, or none
pub refers_dec : (s : List ℕ) → 1 ≤ length s → get_or s 0 0 ≡ 35 → (2 ≤ length s → get_or s 1 0 ≡ 120 → ⊥)
    → mark (unwrap_or (byte_in (numeral_in 10 0 (take (length s - 1) (drop 1 s)))) 0) ≡ refers s
refers_dec [] l a b = absurd (omega arith)
refers_dec (x ∷ []) l a b = rw (mark_byte (numeral_in 10 0 []), dec_is [] 0, a)
refers_dec (x ∷ y ∷ t) l a b =
    let e : length (x ∷ y ∷ t) - 1 ≡ length (y ∷ t) = omega arith in
    rw (e, take-length (y ∷ t), mark_byte (numeral_in 10 0 (y ∷ t)), dec_is (y ∷ t) 0, a, ne_eqb y 120 (b (omega arith)))

-- a named reference, or none
pub refers_named : (s : List ℕ) → (1 ≤ length s → get_or s 0 0 ≡ 35 → ⊥) → named_of s ≡ refers s
unfolding named_of
refers_named [] a = refl
refers_named (x ∷ t) a = rw (ne_eqb x 35 (a (omega arith)))
