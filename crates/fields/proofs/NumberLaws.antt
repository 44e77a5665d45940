-- NumberLaws: the number that digits show, digit by digit, and the digits that spell a number, from the last one on.
-- Assumes nothing.
use mathlib.Core.Path.{◌≡◌, refl, sym, ap, ◌∙◌}
use mathlib.Core.Bool.{Bool, true, false, not, ◌&&◌}
use mathlib.Core.List.{List, [], ◌∷◌, ◌++◌, append_assoc}
use Prim.Native.Nat.{ℕ, zero, suc, ◌+◌, ◌*◌, ◌-◌, ◌/◌, ◌%◌, ◌≤◌, ◌<◌}
use native.Mathlib.Numerals.{add-one}
use native.Mathlib.Omega.{arith}
use lib.Dec.{eqb, leb, ltb}
use lib.ListN.{length, take, drop, get_or, set, length-append, take-append-drop, drop_of_length-le}
use lib.Seq.{drop-cons, length-take-le, take-nil, take-set-le, take-take, set_split, drop_at}
use borrow.Author.Tests.{ltb-true, eqb-true, eqb-false, leb-true, le-leb, lt-ltb, le-ltb}
use Rattle.paper.specs.Lists.{if, every, number}
use Rattle.paper.specs.Bytes.{is_digit}
use Rattle.paper.specs.Rules.{is_byte}
use Rattle.paper.specs.Writing.{decimal, digits_of}
use Rattle.paper.proofs.Small.{both}
use Rattle.paper.proofs.Canon.{number_up}

-- ---- the number that digits show

-- ten times itself so often
abbrev pub tens : ℕ → ℕ
tens zero = 1
tens (suc k) = 10 * tens k

tens_more : (k j : ℕ) → k ≤ j → tens k ≤ tens j
tens_more zero zero h = omega arith
tens_more zero (suc j) h = let e = tens_more zero j (omega arith) in omega arith
tens_more (suc k) zero h = absurd (omega arith)
tens_more (suc k) (suc j) h = let e = tens_more k j (omega arith) in omega arith

-- what up to seven bytes show, and one byte more, stays below a bound that eight digits fit
pub room : (a k : ℕ) → a + 23 ≤ 23 * tens k → k ≤ 7 → a * 10 + 207 ≤ 2300000000
room a k h l = let e = tens_more k 7 l in let f : tens 7 ≡ 10000000 = refl in omega arith

-- one digit more keeps the bound
pub bound_on : (a k d : ℕ) → a + 23 ≤ 23 * tens k → d ≤ 207 → a * 10 + d + 23 ≤ 23 * tens (k + 1)
bound_on a k d h l = rw add-one (omega arith)

-- one digit on
pub number_on : (s : List ℕ) (to i a : ℕ) → i < length s → i < to
    → number a (take (to - i) (drop i s)) ≡ number (a * 10 + (get_or s i 0 - 48)) (take (to - (i + 1)) (drop (i + 1) s))
number_on s to i a h l =
    let e : to - i ≡ suc (to - suc i) = omega arith in
    rw (add-one, drop-cons s i 0, e)

-- the value ends
pub number_over : (s : List ℕ) (to i a : ℕ) → length s ≤ i → number a (take (to - i) (drop i s)) ≡ a
number_over s to i a h = rw (drop_of_length-le s h, take-nil)

-- the place is reached
pub number_done : (s : List ℕ) (to i a : ℕ) → to ≤ i → number a (take (to - i) (drop i s)) ≡ a
number_done s to i a h = let e : to - i ≡ 0 = omega arith in rw e

-- digits show a number above zero when one of them is not the digit 0
pub above : (s : List ℕ) → every is_digit s ≡ true → leb 1 (number 0 s) ≡ not (every (is_byte 48) s)
above [] d = refl
above (c ∷ s) d =
    let (x, y) = both (is_digit c) (every is_digit s) d in
    let (p, q) = both (leb 48 c) (leb c 57) x in
    at (eqb c 48) refl (leb-true 48 c p) (above s y)
  where
    at : (b : Bool) → eqb c 48 ≡ b → 48 ≤ c → leb 1 (number 0 s) ≡ not (every (is_byte 48) s) → leb 1 (number (0 * 10 + (c - 48)) s) ≡ not (b && every (is_byte 48) s)
    at true e h ih = let z : 0 * 10 + (c - 48) ≡ 0 = (let w = eqb-true c 48 e in omega arith) in ap (λ (n : ℕ). leb 1 (number n s)) z ∙ ih
    at false e h ih = let ne = eqb-false c 48 e in le-leb 1 (number (0 * 10 + (c - 48)) s) (number_up s (0 * 10 + (c - 48)) (omega arith))

-- the room that a digit more takes, at a place
pub room_at : (a i from to : ℕ) → a + 23 ≤ 23 * tens (i - from) → i < to → to ≤ from + 8 → a * 10 + 207 ≤ 2300000000
room_at a i from to h l p = room a (i - from) h (omega arith)

-- the bound at the next place
pub bound_at : (a i from d : ℕ) → a + 23 ≤ 23 * tens (i - from) → d ≤ 207 → from ≤ i → a * 10 + d + 23 ≤ 23 * tens (i + 1 - from)
bound_at a i from d h l p = let e : i + 1 - from ≡ i - from + 1 = omega arith in rw e (bound_on a (i - from) d h l)

-- ---- how many digits

-- a number above zero is spelled
pub decimal_up : (n : ℕ) → (n ≡ 0 → ⊥) → decimal n ≡ digits_of 9 n
decimal_up zero h = absurd (h refl)
decimal_up (suc n) h = refl

-- the last digit
pub width_now : (w m : ℕ) → w < 10 → m < 10 → w + length (digits_of (10 - w) m) ≡ w + 1
width_now w m h l = let e : 10 - w ≡ suc (9 - w) = omega arith in rw e (rw (lt-ltb m 10 l, digits_of))

-- a digit before it
pub width_on : (w m : ℕ) → w < 10 → 10 ≤ m → w + length (digits_of (10 - w) m) ≡ w + 1 + length (digits_of (10 - (w + 1)) (m / 10))
width_on w m h l =
    let e : 10 - w ≡ suc (10 - (w + 1)) = omega arith in
    rw e (rw (le-ltb m 10 l, digits_of) (let f = length-append (digits_of (10 - (w + 1)) (m / 10)) ((48 + m % 10) ∷ []) in omega arith))

-- ---- digits from the last one on

-- the last k digits of a number
abbrev pub last_digits : ℕ → ℕ → List ℕ
last_digits zero m = []
last_digits (suc k) m = last_digits k (m / 10) ++ (48 + m % 10) ∷ []

all_digits : (j n : ℕ) → digits_of j n ≡ last_digits (length (digits_of j n)) n
all_digits zero n = refl
all_digits (suc j) n = go (ltb n 10) refl (all_digits j (n / 10))
  where
    go : (b : Bool) → ltb n 10 ≡ b → digits_of j (n / 10) ≡ last_digits (length (digits_of j (n / 10))) (n / 10)
        → if b ((48 + n) ∷ []) (digits_of j (n / 10) ++ (48 + n % 10) ∷ [])
        ≡ last_digits (length (if b ((48 + n) ∷ []) (digits_of j (n / 10) ++ (48 + n % 10) ∷ []))) n
    go true e ih = let l = ltb-true n 10 e in let f : n % 10 ≡ n = omega arith in rw f
    go false e ih =
        let d = digits_of j (n / 10) in
        let f : length (d ++ (48 + n % 10) ∷ []) ≡ suc (length d) = length-append d ((48 + n % 10) ∷ []) ∙ add-one (length d) in
        ap (λ (l : List ℕ). l ++ (48 + n % 10) ∷ []) ih ∙ sym (ap (λ (k : ℕ). last_digits k n) f)

-- the spelling of a number is its last digits, as many as it has
pub all_decimal : (n : ℕ) → decimal n ≡ last_digits (length (decimal n)) n
all_decimal zero = refl
all_decimal (suc n) = all_digits 9 (suc n)

-- one digit is laid before those that are
pub lay_on : (out : List ℕ) (at k m : ℕ) → 0 < k → at + k ≤ length out
    → last_digits k m ++ drop (at + k) out ≡ last_digits (k - 1) (m / 10) ++ drop (at + (k - 1)) (set out (at + (k - 1)) (48 + m % 10))
lay_on out at zero m p h = absurd (omega arith)
lay_on out at (suc k) m p h =
    let e : suc k - 1 ≡ k = omega arith in
    let l : at + k < length out = omega arith in
    let f : at + suc k ≡ suc (at + k) = omega arith in
    let x = 48 + m % 10 in
    let g : drop (at + k) (set out (at + k) x) ≡ x ∷ drop (suc (at + k)) out =
    ap (drop (at + k)) (set_split out (at + k) x l) ∙ drop_at (take (at + k) out) (x ∷ drop (suc (at + k)) out) (at + k) (length-take-le (at + k) out (omega arith)) in
    rw (e, g, f) (append_assoc (last_digits k (m / 10)) (x ∷ []) (drop (suc (at + k)) out))

-- what stands before it stays
pub lay_front : (out out₀ : List ℕ) (at k x : ℕ) → 0 < k → take (at + k) out ≡ take (at + k) out₀
    → take (at + (k - 1)) (set out (at + (k - 1)) x) ≡ take (at + (k - 1)) out₀
lay_front out out₀ at k x p e =
    let j = at + (k - 1) in
    let l : j ≤ at + k = omega arith in
    let h : j ≤ j = omega arith in
    take-set-le j out j x h ∙ sym (take-take j (at + k) out l) ∙ ap (take j) e ∙ take-take j (at + k) out₀ l

-- all digits are laid
pub lay_done : (out out₀ : List ℕ) (at k m n : ℕ) → k ≡ 0 → take (at + k) out ≡ take (at + k) out₀
    → last_digits (length (decimal n)) n ++ drop (at + length (decimal n)) out₀ ≡ last_digits k m ++ drop (at + k) out
    → out ≡ take at out₀ ++ (decimal n ++ drop (at + length (decimal n)) out₀)
lay_done out out₀ at k m n z e f =
    let g : at + k ≡ at = omega arith in
    let w = length (decimal n) in
    let front : take at out ≡ take at out₀ = ap (λ (j : ℕ). take j out) (sym g) ∙ e ∙ ap (λ (j : ℕ). take j out₀) g in
    let back : decimal n ++ drop (at + w) out₀ ≡ drop at out =
    ap (λ (l : List ℕ). l ++ drop (at + w) out₀) (all_decimal n) ∙ f ∙ ap (λ (j : ℕ). last_digits j m ++ drop (at + k) out) z ∙ ap (λ (j : ℕ). drop j out) g in
    sym (take-append-drop at out) ∙ ap (λ (l : List ℕ). l ++ drop at out) front ∙ ap (λ (l : List ℕ). take at out₀ ++ l) (sym back)
