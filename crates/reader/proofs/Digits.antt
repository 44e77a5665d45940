-- Digits: a mask as its digits, lowest first; and the numbers of a mask, counted and the lowest.
-- Assumes nothing.
use mathlib.Core.Path.{◌≡◌, refl, ap, sym, ◌∙◌}
use mathlib.Core.Bool.{Bool, true, false, not, ◌||◌}
use mathlib.Core.List.{List, [], ◌∷◌}
use Prim.Native.Nat.{ℕ, zero, suc, ◌+◌, ◌-◌, ◌*◌, ◌/◌, ◌%◌, ◌^◌, ◌≤◌, ◌<◌, max}
use native.Mathlib.Nat.{pow-suc, mul_assoc, mul_comm, add-mul, one-mul, zero-mul, add-zero, zero-add, add_comm, div-div-eq-div-mul, mod-lt, mod-eq_of_lt}
use native.Mathlib.Omega.{arith}
use lib.Arith.{mod-mul}
use lib.Pow.{pow_pos}
use lib.Bits.{bit_or, or_step}
use lib.Count.{ones, ones_in, ones_step, count_trailing_zeros, under}
use lib.Dec.{eqb}
use lib.ListN.{length}
use borrow.Author.Tests.{eq-eqb, ne_eqb}
use Rattle.paper.specs.Lists.{if}
use Rattle.paper.specs.Collecting.{mask_of}
use Rattle.reader.specs.Pages.{picked, marked, first_of}

-- ---- tests on numbers

-- a digit, by whether it is set
abbrev pub digit : Bool → ℕ
digit true = 1
digit false = 0

-- the digits that the test gives, lowest first
abbrev pub value : (ℕ → Bool) → ℕ → ℕ → ℕ
value p n zero = 0
value p n (suc k) = value p (suc n) k * 2 + digit (p n)

digit_mod : (v : ℕ) (b : Bool) → (v * 2 + digit b) % 2 ≡ digit b
digit_mod v true = omega arith
digit_mod v false = omega arith

digit_half : (v : ℕ) (b : Bool) → (v * 2 + digit b) / 2 ≡ v
digit_half v true = omega arith
digit_half v false = omega arith

-- tests that agree on the k numbers from n on
pub same_picked : (p q : ℕ → Bool) (n k : ℕ) → ((i : ℕ) → n ≤ i → i < n + k → p i ≡ q i) → picked p n k ≡ picked q n k
same_picked p q n zero h = refl
same_picked p q n (suc k) h = rw (h n (omega arith) (omega arith), same_picked p q (suc n) k (λ i l m. h i (omega arith) (omega arith)))

-- no number passes
pub none_picked : (p : ℕ → Bool) (n k : ℕ) → ((i : ℕ) → n ≤ i → i < n + k → p i ≡ false) → picked p n k ≡ []
none_picked p n zero h = refl
none_picked p n (suc k) h = rw (h n (omega arith) (omega arith)) (none_picked p (suc n) k (λ i l m. h i (omega arith) (omega arith)))

-- numbers beyond m that do not pass change nothing
pub fewer_picked : (p : ℕ → Bool) (n k j : ℕ) → ((i : ℕ) → n + k ≤ i → i < n + k + j → p i ≡ false) → picked p n (k + j) ≡ picked p n k
fewer_picked p n zero j h = rw (zero-add j) (none_picked p n j (λ i l m. h i (omega arith) (omega arith)))
fewer_picked p n (suc k) j h =
    let e : suc k + j ≡ suc (k + j) = omega arith in
    rw (e, picked, fewer_picked p (suc n) k j (λ i l m. h i (omega arith) (omega arith)))

-- a number put before others: its bit, and theirs
one_more : (b : Bool) (n : ℕ) (ms : List ℕ) → mask_of (if b (n ∷ ms) ms) ≡ digit b * 2 ^ n + mask_of ms
one_more true n ms = rw (one-mul (2 ^ n))
one_more false n ms = omega arith

-- the mask of the numbers that pass is their digits, moved up by n
pub mask_value : (p : ℕ → Bool) (n k : ℕ) → mask_of (picked p n k) ≡ value p n k * 2 ^ n
mask_value p n zero = sym (zero-mul (2 ^ n))
mask_value p n (suc k) =
    let v : ℕ = value p (suc n) k in
    let up : v * 2 ^ suc n ≡ v * 2 * 2 ^ n = ap (λ (x : ℕ). v * x) (pow-suc 2 n ∙ mul_comm (2 ^ n) 2) ∙ sym (mul_assoc v 2 (2 ^ n)) in
    one_more (p n) n (picked p (suc n) k)
    ∙ (ap (λ (x : ℕ). digit (p n) * 2 ^ n + x) (mask_value p (suc n) k ∙ up) ∙ (add_comm (digit (p n) * 2 ^ n) (v * 2 * 2 ^ n) ∙ sym (add-mul (v * 2) (digit (p n)) (2 ^ n))))

-- the digits are k
pub value_below : (p : ℕ → Bool) (n k : ℕ) → value p n k < 2 ^ k
value_below p n zero = omega arith
value_below p n (suc k) = let e : 2 ^ suc k ≡ 2 ^ k * 2 = pow-suc 2 k in at (p n) e (value_below p (suc n) k)
  where
    at : (b : Bool) → 2 ^ suc k ≡ 2 ^ k * 2 → value p (suc n) k < 2 ^ k → value p (suc n) k * 2 + digit b < 2 ^ suc k
    at true e h = omega arith
    at false e h = omega arith

-- ---- each bit

-- one place up is one halving more
pub marked_half : (m j : ℕ) → marked m (suc j) ≡ marked (m / 2) j
marked_half m j = ap (λ (x : ℕ). eqb (x % 2) 1) (ap (λ (x : ℕ). m / x) (pow-suc 2 j ∙ mul_comm (2 ^ j) 2) ∙ sym (div-div-eq-div-mul m 2 (2 ^ j)))

-- the lowest bit
marked_low : (v : ℕ) (b : Bool) → marked (v * 2 + digit b) 0 ≡ b
marked_low v true = eq-eqb ((v * 2 + 1) / 1 % 2) 1 (omega arith)
marked_low v false = ne_eqb ((v * 2 + 0) / 1 % 2) 1 (λ e. omega arith)

none_marked : (j : ℕ) → marked 0 j ≡ false
none_marked zero = refl
none_marked (suc j) = marked_half 0 j ∙ none_marked j

-- the bits of the digits are the tests
pub value_marked : (p : ℕ → Bool) (n k j : ℕ) → j < k → marked (value p n k) j ≡ p (n + j)
value_marked p n zero j h = absurd (omega arith)
value_marked p n (suc k) zero h = marked_low (value p (suc n) k) (p n) ∙ sym (ap p (add-zero n))
value_marked p n (suc k) (suc j) h =
    let e : suc n + j ≡ n + suc j = omega arith in
    marked_half (value p n (suc k)) j ∙ (ap (λ (v : ℕ). marked v j) (digit_half (value p (suc n) k) (p n)) ∙ (value_marked p (suc n) k j (omega arith) ∙ ap p e))

-- above them no bit is set
pub above_marked : (p : ℕ → Bool) (n k j : ℕ) → k ≤ j → marked (value p n k) j ≡ false
above_marked p n zero j h = none_marked j
above_marked p n (suc k) zero h = absurd (omega arith)
above_marked p n (suc k) (suc j) h =
    marked_half (value p n (suc k)) j ∙ (ap (λ (v : ℕ). marked v j) (digit_half (value p (suc n) k) (p n)) ∙ above_marked p (suc n) k j (omega arith))

-- a lowest digit that is 1 or 0
low_digit : (x : ℕ) → digit (eqb (x % 2) 1) ≡ x % 2
low_digit x = at (x % 2) (mod-lt x (omega arith))
  where
    at : (d : ℕ) → d < 2 → digit (eqb d 1) ≡ d
    at zero h = refl
    at (suc zero) h = refl
    at (suc (suc d)) h = absurd (omega arith)

-- the k digits of a mask from n on
pub digits : (m n k : ℕ) → m / 2 ^ n % 2 ^ k ≡ value (marked m) n k
digits m n zero = let x : ℕ = m / 2 ^ n in omega arith
digits m n (suc k) =
    let x : ℕ = m / 2 ^ n in
    let up : x / 2 ≡ m / 2 ^ suc n = div-div-eq-div-mul m (2 ^ n) 2 ∙ ap (λ (y : ℕ). m / y) (sym (pow-suc 2 n)) in
    let cut : x % 2 ^ suc k ≡ x / 2 % 2 ^ k * 2 + x % 2 = ap (λ (y : ℕ). x % y) (pow-suc 2 k) ∙ mod-mul x (pow_pos k) (omega arith) in
    cut ∙ (ap (λ (y : ℕ). y % 2 ^ k * 2 + x % 2) up ∙ (ap (λ (y : ℕ). y * 2 + x % 2) (digits m (suc n) k) ∙ ap (λ (y : ℕ). value (marked m) (suc n) k * 2 + y) (sym (low_digit x))))

-- a mask of k bits is its digits
pub whole : (m k : ℕ) → m < 2 ^ k → value (marked m) 0 k ≡ m
whole m k h = let e : m / 1 ≡ m = omega arith in sym (digits m 0 k) ∙ (ap (λ (x : ℕ). x % 2 ^ k) e ∙ mod-eq_of_lt h)

-- the bits of the complement are the others
pub others : (w j h : ℕ) → j < w → h < 2 ^ w → marked (2 ^ w - 1 - h) j ≡ not (marked h j)
others zero j h l b = absurd (omega arith)
others (suc w) zero h l b =
    let e : 2 ^ suc w ≡ 2 ^ w * 2 = pow-suc 2 w in
    let q : (2 ^ suc w - 1 - h) / 1 % 2 ≡ 1 - h / 1 % 2 = omega arith in
    ap (λ (x : ℕ). eqb x 1) q ∙ at (h / 1 % 2) (mod-lt (h / 1) (omega arith))
  where
    at : (d : ℕ) → d < 2 → eqb (1 - d) 1 ≡ not (eqb d 1)
    at zero h = refl
    at (suc zero) h = refl
    at (suc (suc d)) h = absurd (omega arith)
others (suc w) (suc j) h l b =
    let e : 2 ^ suc w ≡ 2 ^ w * 2 = pow-suc 2 w in
    let half : (2 ^ suc w - 1 - h) / 2 ≡ 2 ^ w - 1 - h / 2 = omega arith in
    marked_half (2 ^ suc w - 1 - h) j ∙ (ap (λ (x : ℕ). marked x j) half ∙ (others w j (h / 2) (omega arith) (omega arith) ∙ ap not (sym (marked_half h j))))

-- two masks together: the numbers of either
pub or_value : (p q : ℕ → Bool) (n k : ℕ) → bit_or (value p n k) (value q n k) ≡ value (λ i. p i || q i) n k
or_value p q n zero = refl
or_value p q n (suc k) =
    or_step (value p n (suc k)) (value q n (suc k))
    ∙ rw (digit_half (value p (suc n) k) (p n), digit_half (value q (suc n) k) (q n), digit_mod (value p (suc n) k) (p n), digit_mod (value q (suc n) k) (q n), or_value p q (suc n) k, either (p n) (q n))
  where
    either : (a b : Bool) → max (digit a) (digit b) ≡ digit (a || b)
    either true true = refl
    either true false = refl
    either false true = refl
    either false false = refl

-- ---- the count and the lowest

-- as many ones as numbers
pub ones_value : (p : ℕ → Bool) (n k : ℕ) → ones (value p n k) ≡ length (picked p n k)
unfolding ones ones_in
ones_value p n zero = refl
ones_value p n (suc k) =
    ones_step (value p n (suc k))
    ∙ rw (digit_half (value p (suc n) k) (p n), digit_mod (value p (suc n) k) (p n), ones_value p (suc n) k) (at (p n) (picked p (suc n) k))
  where
    at : (b : Bool) (ms : List ℕ) → digit b + length ms ≡ length (if b (n ∷ ms) ms)
    at true ms = omega arith
    at false ms = omega arith

-- the zeros below the lowest number
pub low_value : (p : ℕ → Bool) (n k : ℕ) → 0 < value p n k → n + count_trailing_zeros k (value p n k) ≡ first_of (picked p n k)
unfolding count_trailing_zeros
low_value p n zero h = absurd (omega arith)
low_value p n (suc k) h = rw (digit_half (value p (suc n) k) (p n), digit_mod (value p (suc n) k) (p n)) (at (p n) h (low_value p (suc n) k))
  where
    at : (b : Bool) → 0 < value p (suc n) k * 2 + digit b → (0 < value p (suc n) k → suc n + count_trailing_zeros k (value p (suc n) k) ≡ first_of (picked p (suc n) k)) → n + under (digit b) (count_trailing_zeros k (value p (suc n) k)) ≡ first_of (if b (n ∷ picked p (suc n) k) (picked p (suc n) k))
    at true h ih = add-zero n
    at false h ih = let e = ih (omega arith) in omega arith
