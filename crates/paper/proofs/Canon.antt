-- A number that keeps its field keeps it without its leading zeros too.
use mathlib.Core.Path.{◌≡◌, refl, ap, sym, ◌∙◌}
use mathlib.Core.Bool.{Bool, true, false, not, ◌&&◌}
use mathlib.Core.List.{List, [], ◌∷◌, ◌++◌, append_assoc, append-nil}
use Prim.Native.Nat.{ℕ, zero, suc, ◌+◌, ◌*◌, ◌-◌, ◌/◌, ◌%◌, ◌≤◌, ◌<◌}
use native.Mathlib.Omega.{arith}
use lib.Dec.{eqb, leb}
use lib.ListN.{length, replicate}
use borrow.Author.Tests.{eqb-true, eqb-false, ne_eqb, leb-true, le-leb, lt-ltb, le-ltb}
use Rattle.paper.specs.Lists.{if, same, every, number, count}
use Rattle.paper.specs.Bytes.{is_digit, is_decoded}
use Rattle.paper.proofs.Small.{both, same_self}
use Rattle.paper.specs.Values.{cut, keep}
use Rattle.paper.specs.Fields.{Field}
use Rattle.paper.specs.Rules.{keeps, obeys, is_zero, padded}
use Rattle.paper.specs.Writing.{good_slot, decimal, digits_of}

abbrev pub strip : List ℕ → List ℕ
strip [] = []
strip (c ∷ s) = if (eqb c 48) (strip s) (c ∷ s)

pub digit_range : (c : ℕ) → is_digit c ≡ true → (48 ≤ c) × (c ≤ 57)
digit_range c e = let (a, b) = both (leb 48 c) (leb c 57) e in (leb-true 48 c a, leb-true c 57 b)

pub number_up : (s : List ℕ) (a : ℕ) → 1 ≤ a → 1 ≤ number a s
number_up [] a h = h
number_up (c ∷ s) a h = number_up s (a * 10 + (c - 48)) (omega arith)

decimal_up : (n : ℕ) → 1 ≤ n → decimal n ≡ digits_of 9 n
decimal_up zero h = absurd (omega arith)
decimal_up (suc n) h = refl

digits_more : (j a c : ℕ) → 1 ≤ a → 48 ≤ c → c ≤ 57 → digits_of (suc j) (a * 10 + (c - 48)) ≡ digits_of j a ++ c ∷ []
digits_more j a c h p q =
    let n : ℕ = a * 10 + (c - 48) in
    let d : n / 10 ≡ a = omega arith in
    let m : 48 + n % 10 ≡ c = omega arith in
    rw (le-ltb n 10 (omega arith), digits_of) (rw (d, m))

digits_of_lem : (s : List ℕ) (a k : ℕ) → every is_digit s ≡ true → 1 ≤ a → length s < k → digits_of k (number a s) ≡ digits_of (k - length s) a ++ s
digits_of_lem [] a k d h l = let e : k - 0 ≡ k = omega arith in rw (e, append-nil (digits_of k a))
digits_of_lem (c ∷ s) a k d h l =
    let (x, y) = both (is_digit c) (every is_digit s) d in
    let (p, q) = digit_range c x in
    let e : k - length s ≡ suc (k - suc (length s)) = omega arith in
    digits_of_lem s (a * 10 + (c - 48)) k y (omega arith) (omega arith)
    ∙ ap (λ (j : ℕ). digits_of j (a * 10 + (c - 48)) ++ s) e
    ∙ ap (λ (z : List ℕ). z ++ s) (digits_more (k - suc (length s)) a c h p q)
    ∙ append_assoc (digits_of (k - suc (length s)) a) (c ∷ []) s

one_digit : (j c : ℕ) → 48 ≤ c → c ≤ 57 → digits_of (suc j) (c - 48) ≡ c ∷ []
one_digit j c p q = let e : 48 + (c - 48) ≡ c = omega arith in rw (lt-ltb (c - 48) 10 (omega arith), digits_of) (rw e)

led : (c : ℕ) (s : List ℕ) → is_digit c ≡ true → every is_digit s ≡ true → eqb c 48 ≡ false → length s ≤ 7 → decimal (number (c - 48) s) ≡ c ∷ s
led c s x y z l =
    let (p, q) = digit_range c x in
    let ne = eqb-false c 48 z in
    let e : 9 - length s ≡ suc (8 - length s) = omega arith in
    decimal_up (number (c - 48) s) (number_up s (c - 48) (omega arith)) ∙ digits_of_lem s (c - 48) 9 y (omega arith) (omega arith)
    ∙ ap (λ (j : ℕ). digits_of j (c - 48) ++ s) e ∙ ap (λ (w : List ℕ). w ++ s) (one_digit (8 - length s) c p q)

pub decimal_strip : (p : List ℕ) → every is_digit p ≡ true → length p ≤ 8 → decimal (number 0 p) ≡ strip p
decimal_strip [] d l = refl
decimal_strip (c ∷ s) d l =
    let (x, y) = both (is_digit c) (every is_digit s) d in
    at (eqb c 48) refl x y (decimal_strip s y (omega arith))
  where
    at : (b : Bool) → eqb c 48 ≡ b → is_digit c ≡ true → every is_digit s ≡ true → decimal (number 0 s) ≡ strip s → decimal (number 0 (c ∷ s)) ≡ if b (strip s) (c ∷ s)
    at true q x y ih = rw (eqb-true c 48 q) ih
    at false q x y ih = let e : 0 * 10 + (c - 48) ≡ c - 48 = omega arith in ap (λ (n : ℕ). decimal (number n s)) e ∙ led c s x y q (omega arith)

-- ---- the rules do not mind a leading zero

replicate_more : (k x : ℕ) (s : List ℕ) → replicate k x ++ (x ∷ s) ≡ replicate (suc k) x ++ s
replicate_more zero x s = refl
replicate_more (suc k) x s = ap (λ (l : List ℕ). x ∷ l) (replicate_more k x s)

pub padded_zero : (s : List ℕ) → length s ≤ 7 → padded (48 ∷ s) ≡ padded s
padded_zero s h = let e : 8 - length s ≡ suc (8 - suc (length s)) = omega arith in replicate_more (8 - suc (length s)) 48 s ∙ ap (λ (k : ℕ). replicate k 48 ++ s) (sym e)

cut_digits : (v : List ℕ) → every is_digit v ≡ true → cut v ≡ v
cut_digits [] d = refl
cut_digits (c ∷ v) d = let (x, y) = both (is_digit c) (every is_digit v) d in let (p, q) = digit_range c x in ap (keep c) (cut_digits v y) ∙ at v (ne_eqb c 32 (omega arith))
  where
    at : (v : List ℕ) → eqb c 32 ≡ false → keep c v ≡ c ∷ v
    at [] e = rw e
    at (d ∷ v) e = refl

strip_digits : (p : List ℕ) → every is_digit p ≡ true → every is_digit (strip p) ≡ true
strip_digits [] d = refl
strip_digits (c ∷ s) d = at (eqb c 48) (strip_digits s (both (is_digit c) (every is_digit s) d).1)
  where
    at : (b : Bool) → every is_digit (strip s) ≡ true → every is_digit (if b (strip s) (c ∷ s)) ≡ true
    at true ih = ih
    at false ih = d

module _ (f : Field) (least : f.least ≡ 1) (most : f.most ≤ 8) (zeroes : (v : List ℕ) → is_zero f.rule v ≡ false)
    (minds : (s : List ℕ) → length s ≤ 7 → obeys f.rule (48 ∷ s) ≡ true → obeys f.rule s ≡ true)
    (digit : (v : List ℕ) → obeys f.rule v ≡ true → every is_digit v ≡ true) where
  rest_of : List ℕ → Bool
  rest_of v = leb (count 126 v) f.tildes && obeys f.rule v

  record Kept (v : List ℕ) : Type 0 where
    decoded : every is_decoded v ≡ true
    short : length v ≤ f.most
    tilde : leb (count 126 v) f.tildes ≡ true
    rule : obeys f.rule v ≡ true

  kept : (v : List ℕ) → keeps f v ≡ true → Kept v
  kept v e =
      let (a, b) = both (every is_decoded v) (leb f.least (length v) && (leb (length v) f.most && (leb (count 126 v) f.tildes && obeys f.rule v))) e in
      let (c, d) = both (leb f.least (length v)) (leb (length v) f.most && (leb (count 126 v) f.tildes && obeys f.rule v)) b in
      let (g, h) = both (leb (length v) f.most) (leb (count 126 v) f.tildes && obeys f.rule v) d in
      let (i, j) = both (leb (count 126 v) f.tildes) (obeys f.rule v) h in
      record { decoded = a; short = leb-true (length v) f.most g; tilde = i; rule = j }

  keep_back : (c : ℕ) (v : List ℕ) → Kept (c ∷ v) → keeps f (c ∷ v) ≡ true
  keep_back c v k = rw (k.decoded, le-leb f.least (length (c ∷ v)) (omega (arith, least)), le-leb (length (c ∷ v)) f.most k.short, k.tilde, k.rule)

  drop_zero : (s : List ℕ) → Kept (48 ∷ s) → Kept s
  drop_zero s k = record { decoded = k.decoded; short = omega (arith, k.short); tilde = k.tilde; rule = minds s (omega (arith, k.short)) k.rule }

  good_kept : (v : List ℕ) → Kept v → every is_digit v ≡ true → good_slot f v ≡ true
  good_kept [] k d = refl
  good_kept (c ∷ v) k d = rw (keep_back c v k, cut_digits (c ∷ v) d, same_self (c ∷ v), zeroes (c ∷ v))

  strip_kept : (p : List ℕ) → Kept p → Kept (strip p)
  strip_kept [] k = k
  strip_kept (c ∷ s) k = at (eqb c 48) refl (λ q. strip_kept s q)
    where
      at : (b : Bool) → eqb c 48 ≡ b → (Kept s → Kept (strip s)) → Kept (if b (strip s) (c ∷ s))
      at true q ih = ih (drop_zero s (rw (eqb-true c 48 q) at k))
      at false q ih = k

  pub canon : (p : List ℕ) → good_slot f p ≡ true → good_slot f (decimal (number 0 p)) ≡ true
  canon [] g = refl
  canon (c ∷ v) g =
      let (a, b) = both (keeps f (c ∷ v)) (same (cut (c ∷ v)) (c ∷ v) && not (is_zero f.rule (c ∷ v))) g in
      let k = kept (c ∷ v) a in
      let d = digit (c ∷ v) k.rule in
      ap (good_slot f) (decimal_strip (c ∷ v) d (omega (arith, k.short))) ∙ good_kept (strip (c ∷ v)) (strip_kept (c ∷ v) k) (strip_digits (c ∷ v) d)
