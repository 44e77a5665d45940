-- The missing numbers as a mask: its ones are their count, and its trailing zeros the lowest of them.
-- Assumes nothing.
use mathlib.Core.Path.{◌≡◌, refl, ap, sym, ◌∙◌, subst}
use mathlib.Core.Logic.{◌⊎◌, inl, inr, ◌↔◌}
use mathlib.Core.List.{List, [], ◌∷◌}
use Prim.Native.Nat.{ℕ, zero, suc, ◌+◌, ◌*◌, ◌-◌, ◌/◌, ◌%◌, ◌^◌, ◌≤◌, ◌<◌}
use native.Mathlib.Nat.{pow-suc, add_comm, add-zero, add-mul, zero-mul, one-mul, mul_comm, mul_assoc, sub-add_cancel, zero-add, zero-div, mul-div_cancel, add-mul-div_right, div-eq_of_lt, div-div-eq-div-mul, add-sub_of_le}
use native.Mathlib.Numerals.{add-one}
use native.Mathlib.Omega.{arith}
use mathlib.Core.Bool.{Bool, true, false}
use lib.Dec.{eqb, leb}
use lib.ListN.{length}
use borrow.Author.Tests.{eqb-true, eqb-false, leb-true, leb-false}
use lib.Pow.{pow-lt, pow_pos, pow_mono, pow-add}
use lib.Count.{ones, ones_in, ones_cat, count_trailing_zeros, under}
use Rattle.paper.specs.Collecting.{Collector, mask_of, missing_numbers, missing_mask, missing_count}
use Rattle.paper.proofs.Collected.{Reached, Rising, In, up_to_nine}

-- ---- rising numbers as a mask

-- a mask of numbers below w is below 2 to the w
mask_below : (n w : ℕ) (ms : List ℕ) → n ≤ w → Rising n w ms → mask_of ms + 2 ^ n ≤ 2 ^ w
mask_below n w [] h r = let up : 2 ^ n ≤ 2 ^ w = pow_mono h in omega arith
mask_below n w (m ∷ ms) h r =
    let up : 2 ^ n ≤ 2 ^ m = pow_mono r.0 in
    let ih = mask_below (suc m) w ms r.1 r.2 in
    let p : 2 ^ suc m ≡ 2 ^ m * 2 = pow-suc 2 m in
    omega arith

-- a number put before others: an odd multiple of its bit
bit_before : (m q x : ℕ) → x ≡ q * 2 ^ suc m → 2 ^ m + x ≡ (q * 2 + 1) * 2 ^ m
bit_before m q x e = rw (e, pow-suc 2 m, add-mul (q * 2) 1 (2 ^ m), one-mul (2 ^ m), mul_assoc q 2 (2 ^ m), mul_comm 2 (2 ^ m)) (add_comm (2 ^ m) (q * (2 ^ m * 2)))

-- a mask of numbers from n on has no bit below n
mask_times : (n w : ℕ) (ms : List ℕ) → Rising n w ms → (q : ℕ) × (mask_of ms ≡ q * 2 ^ n)
mask_times n w [] r = (0, sym (zero-mul (2 ^ n)))
mask_times n w (m ∷ ms) r =
    let (q, e) = mask_times (suc m) w ms r.2 in (
      (q * 2 + 1) * 2 ^ (m - n),
      bit_before m q (mask_of ms) e ∙ (ap (λ (x : ℕ). (q * 2 + 1) * 2 ^ x) (sym (sub-add_cancel r.0)) ∙ (ap (λ (x : ℕ). (q * 2 + 1) * x) (pow-add 2 (m - n) n) ∙ sym (mul_assoc (q * 2 + 1) (2 ^ (m - n)) (2 ^ n)))),
    )

-- zeros below change no count
ones_times : (k q : ℕ) → ones (q * 2 ^ k) ≡ ones q
unfolding ones ones_in
ones_times k q = ap ones (sym (add-zero (q * 2 ^ k))) ∙ (ones_cat k q 0 (pow_pos k) ∙ add-zero (ones q))

-- as many ones as numbers
mask_ones : (n w : ℕ) (ms : List ℕ) → Rising n w ms → ones (mask_of ms) ≡ length ms
unfolding ones ones_in
mask_ones n w [] r = refl
mask_ones n w (m ∷ ms) r =
    let (q, e) = mask_times (suc m) w ms r.2 in
    let one : ones (2 ^ m) ≡ 1 = ap ones (sym (one-mul (2 ^ m))) ∙ ones_times m 1 in
    let rest : ones q ≡ length ms = sym (ap ones e ∙ ones_times (suc m) q) ∙ mask_ones (suc m) w ms r.2 in
    ap ones (add_comm (2 ^ m) (mask_of ms) ∙ ap (λ (x : ℕ). x + 2 ^ m) e) ∙ (ones_cat (suc m) q (2 ^ m) (pow-lt (omega arith)) ∙ (ap (λ (x : ℕ). ones q + x) one ∙ (add-one (ones q) ∙ ap suc rest)))

-- an odd number moved up by n has n zeros below its lowest bit
odd_trailing : (w n q : ℕ) → n < w → count_trailing_zeros w ((q * 2 + 1) * 2 ^ n) ≡ n
unfolding count_trailing_zeros
odd_trailing zero n q h = absurd (omega arith)
odd_trailing (suc w) zero q h =
    let odd : (q * 2 + 1) * 2 ^ 0 % 2 ≡ 1 = omega arith in
    ap (λ (d : ℕ). under d (count_trailing_zeros w ((q * 2 + 1) * 2 ^ 0 / 2))) odd
odd_trailing (suc w) (suc n) q h =
    let y : ℕ = (q * 2 + 1) * 2 ^ n in
    let x : ℕ = (q * 2 + 1) * 2 ^ suc n in
    let e : x ≡ y * 2 = ap (λ (p : ℕ). (q * 2 + 1) * p) (pow-suc 2 n) ∙ sym (mul_assoc (q * 2 + 1) (2 ^ n) 2) in
    let even : x % 2 ≡ 0 = omega (arith, e) in
    let half : x / 2 ≡ y = omega (arith, e) in
    ap (λ (d : ℕ). under d (count_trailing_zeros w (x / 2))) even ∙ (ap (λ (t : ℕ). suc (count_trailing_zeros w t)) half ∙ ap suc (odd_trailing w n q (omega arith)))

-- ---- each bit

-- a bit is 1 or 0
abbrev pub bit : ℕ → ℕ → ℕ
bit n x = x / 2 ^ n % 2

odd_one : (y : ℕ) → (y * 2 + 1) % 2 ≡ 1
odd_one y = omega arith

even_none : (y : ℕ) → y * 2 % 2 ≡ 0
even_none y = omega arith

-- the lowest bit is set
bit_own : (m q : ℕ) → bit m ((q * 2 + 1) * 2 ^ m) ≡ 1
bit_own m q = ap (λ (x : ℕ). x % 2) (mul-div_cancel (q * 2 + 1) (pow_pos m)) ∙ odd_one q

-- none below it is
bit_below : (m n x : ℕ) → n < m → bit n (x * 2 ^ m) ≡ 0
bit_below m n x h =
    let d : ℕ = 2 ^ (m - suc n) in
    let up : 2 ^ m ≡ d * (2 ^ n * 2) = ap (λ (k : ℕ). 2 ^ k) (sym (sub-add_cancel h)) ∙ (pow-add 2 (m - suc n) (suc n) ∙ ap (λ (k : ℕ). d * k) (pow-suc 2 n)) in
    let even : x * 2 ^ m ≡ x * d * 2 * 2 ^ n = ap (λ (k : ℕ). x * k) up ∙ sym (mul_assoc (x * d) 2 (2 ^ n) ∙ (mul_assoc x d (2 * 2 ^ n) ∙ ap (λ (k : ℕ). x * (d * k)) (mul_comm 2 (2 ^ n)))) in
    ap (bit n) even ∙ (ap (λ (k : ℕ). k % 2) (mul-div_cancel (x * d * 2) (pow_pos n)) ∙ even_none (x * d))

-- one more number below changes none above
bit_above : (m n q : ℕ) → m < n → bit n (2 ^ m + q * 2 ^ suc m) ≡ bit n (q * 2 ^ suc m)
bit_above m n q h =
    let z : ℕ = 2 ^ suc m in
    let gone : (2 ^ m + q * z) / z ≡ q * z / z = add-mul-div_right (2 ^ m) q (pow_pos (suc m)) ∙ (ap (λ (k : ℕ). k + q) (div-eq_of_lt (pow-lt (omega arith))) ∙ (zero-add q ∙ sym (mul-div_cancel q (pow_pos (suc m))))) in
    ap (λ (k : ℕ). k % 2) (split (2 ^ m + q * z) ∙ (ap (λ (k : ℕ). k / 2 ^ (n - suc m)) gone ∙ sym (split (q * z))))
  where
    split : (y : ℕ) → y / 2 ^ n ≡ y / 2 ^ suc m / 2 ^ (n - suc m)
    split y = ap (λ (k : ℕ). y / 2 ^ k) (sym (add-sub_of_le h)) ∙ (ap (λ (k : ℕ). y / k) (pow-add 2 (suc m) (n - suc m)) ∙ sym (div-div-eq-div-mul y (2 ^ suc m) (2 ^ (n - suc m))))

in_from : (n a w : ℕ) (ms : List ℕ) → Rising a w ms → In n ms → a ≤ n
in_from n a w [] r i = absurd i
in_from n a w (m ∷ ms) r (inl q) = let h = r.0 in omega arith
in_from n a w (m ∷ ms) r (inr i) = let h = r.0 in let g = in_from n (suc m) w ms r.2 i in omega arith

-- a bit is set exactly for the numbers of the list
mask_bit : (a w : ℕ) (ms : List ℕ) → Rising a w ms → (n : ℕ) → (bit n (mask_of ms) ≡ 1) ↔ In n ms
mask_bit a w [] r n = (λ e. absurd (let z : bit n 0 ≡ 0 = ap (λ (k : ℕ). k % 2) (zero-div (2 ^ n)) in omega arith), λ i. absurd i)
mask_bit a w (m ∷ ms) r n = let (q, e) = mask_times (suc m) w ms r.2 in at q e (eqb m n) refl (leb m n) refl (mask_bit (suc m) w ms r.2 n)
  where
    at : (q : ℕ) → mask_of ms ≡ q * 2 ^ suc m → (x : Bool) → eqb m n ≡ x → (y : Bool) → leb m n ≡ y → (bit n (mask_of ms) ≡ 1) ↔ In n ms → (bit n (2 ^ m + mask_of ms) ≡ 1) ↔ ((m ≡ n) ⊎ In n ms)
    at q e true x y l ih =
        let same : m ≡ n = eqb-true m n x in
        (λ b. inl same, λ i. ap (λ (k : ℕ). bit k (2 ^ m + mask_of ms)) (sym same) ∙ (ap (bit m) (bit_before m q (mask_of ms) e) ∙ bit_own m q))
    at q e false x false l ih =
        let low : n < m = leb-false m n l in
        let none : bit n (2 ^ m + mask_of ms) ≡ 0 = ap (bit n) (bit_before m q (mask_of ms) e) ∙ bit_below m n (q * 2 + 1) low in
        (λ b. absurd (omega arith), λ i. absurd (let g : m ≤ n = in_from n m w (m ∷ ms) (omega arith, r.1, r.2) i in omega arith))
    at q e false x true l ih =
        let ne = eqb-false m n x in
        let le = leb-true m n l in
        let same : bit n (2 ^ m + mask_of ms) ≡ bit n (mask_of ms) = ap (λ (k : ℕ). bit n (2 ^ m + k)) e ∙ (bit_above m n q (omega arith) ∙ ap (bit n) (sym e)) in
        (λ b. inr (ih.0 (sym same ∙ b)), λ i. back ne same ih.1 i)
      where
        back : (m ≡ n → ⊥) → bit n (2 ^ m + mask_of ms) ≡ bit n (mask_of ms) → (In n ms → bit n (mask_of ms) ≡ 1) → (m ≡ n) ⊎ In n ms → bit n (2 ^ m + mask_of ms) ≡ 1
        back ne same ih (inl p) = absurd (ne p)
        back ne same ih (inr i) = same ∙ ih i

-- ---- the mask of a collector

-- its bits are those of the numbers 1 to 9
pub mask_bound : {c : Collector} → Reached c → missing_mask c < 1024
mask_bound {c} r = let h = mask_below 1 10 (missing_numbers c) (omega arith) (up_to_nine r) in omega arith

-- "bit 0 is never set"
pub no_bit_zero : {c : Collector} → Reached c → missing_mask c % 2 ≡ 0
no_bit_zero {c} r = let (q, e) = mask_times 1 10 (missing_numbers c) (up_to_nine r) in omega arith

-- "the count is ones of the mask"
pub mask_count : {c : Collector} → Reached c → ones (missing_mask c) ≡ missing_count c
mask_count {c} r = mask_ones 1 10 (missing_numbers c) (up_to_nine r)

-- "and the lowest missing its trailing zeros"
pub mask_lowest : {c : Collector} → Reached c → (n : ℕ) (ns : List ℕ) → missing_numbers c ≡ n ∷ ns → count_trailing_zeros 16 (missing_mask c) ≡ n
mask_lowest {c} r n ns e =
    let u : Rising 1 10 (n ∷ ns) = subst (Rising 1 10) e (up_to_nine r) in
    let (q, f) = mask_times (suc n) 10 ns u.2 in
    let low = u.1 in
    ap (λ (ms : List ℕ). count_trailing_zeros 16 (mask_of ms)) e ∙ (ap (count_trailing_zeros 16) (bit_before n q (mask_of ns) f) ∙ odd_trailing 16 n q (omega arith))

-- "bit n for page number n": a bit is set exactly for a missing number
pub mask_missing : {c : Collector} → Reached c → (n : ℕ) → (bit n (missing_mask c) ≡ 1) ↔ In n (missing_numbers c)
mask_missing {c} r n = mask_bit 1 10 (missing_numbers c) (up_to_nine r) n

-- no bit is set exactly where nothing is missing
pub mask_none : {c : Collector} → Reached c → (missing_mask c ≡ 0) ↔ (missing_numbers c ≡ [])
unfolding ones ones_in
mask_none {c} r = (λ e. nil (missing_numbers c) (sym (mask_count r) ∙ ap ones e), λ e. ap mask_of e)
  where
    nil : (ms : List ℕ) → length ms ≡ 0 → ms ≡ []
    nil [] e = refl
    nil (m ∷ ms) e = absurd (omega arith)
