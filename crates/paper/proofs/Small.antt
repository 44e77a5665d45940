-- Small facts on tests and lists.
use mathlib.Core.Path.{◌≡◌, refl, sym, ◌∙◌}
use mathlib.Core.Bool.{Bool, true, false, not, ◌&&◌, ◌||◌}
use mathlib.Core.Logic.{◌≢◌}
use mathlib.Core.List.{List, [], ◌∷◌, ◌++◌}
use Prim.Native.Nat.{ℕ, zero, suc, ◌<◌}
use native.Mathlib.Omega.{arith}
use lib.Bits.{bit_or, or_add_and, and_le_l, and_le_r}
use lib.Dec.{eqb}
use lib.ListN.{length, get_or}
use mir.Val.{bool_byte}
use borrow.Author.Tests.{eqb-true, eqb-false, eq-eqb, ne_eqb}
use Rattle.paper.specs.Lists.{if, same, every, All}

pub no : {A : Type 0} → true ≡ false → A
no e = let y : ◌≡◌ {A = ℕ} 0 1 = cc in absurd (omega arith)

-- two numbers that differ, found equal by constructors that clash
pub unequal : {A : Type 0} → ◌≡◌ {A = ℕ} 0 1 → A
unequal e = absurd (omega arith)

pub both : (a b : Bool) → a && b ≡ true → (a ≡ true) × (b ≡ true)
both true b e = (refl, e)
both false b e = no (sym e)

pub neither : (a b : Bool) → a || b ≡ false → (a ≡ false) × (b ≡ false)
neither true b e = no e
neither false b e = (refl, e)

-- a test that fails behind another
pub and_false : (a : Bool) → a && false ≡ false
and_false true = refl
and_false false = refl

pub no_not : (a : Bool) → not a ≡ true → a ≡ false
no_not true e = sym e
no_not false e = refl

-- two numbers are 0 where their bits together are
pub both_zero : (a b : ℕ) → bit_or a b ≡ 0 → (a ≡ 0) × (b ≡ 0)
both_zero a b e = (omega (arith, e, or_add_and a b, and_le_r a b), omega (arith, e, or_add_and a b, and_le_l a b))

-- a test whose number is 0 fails
pub no_flag : (a : Bool) → bool_byte a ≡ 0 → a ≡ false
no_flag true e = unequal (sym e)
no_flag false e = refl

pub if_same : {A : Type 0} (b : Bool) (x : A) → if b x x ≡ x
if_same true x = refl
if_same false x = refl

pub eqb_comm : (x y : ℕ) → eqb x y ≡ eqb y x
eqb_comm x y = go (eqb x y) refl
  where
    go : (b : Bool) → eqb x y ≡ b → eqb x y ≡ eqb y x
    go true e = rw (eqb-true x y e)
    go false e = let ne = eqb-false x y e in e ∙ sym (ne_eqb y x (λ q. ne (sym q)))

pub same_comm : (s t : List ℕ) → same s t ≡ same t s
same_comm [] [] = refl
same_comm [] (y ∷ t) = refl
same_comm (x ∷ s) [] = refl
same_comm (x ∷ s) (y ∷ t) = rw (eqb_comm x y, same_comm s t)

pub same_self : (s : List ℕ) → same s s ≡ true
same_self [] = refl
same_self (x ∷ s) = rw (eq-eqb x x refl, same_self s)

pub same_eq : (s t : List ℕ) → same s t ≡ true → s ≡ t
same_eq [] [] e = refl
same_eq [] (y ∷ t) e = no (sym e)
same_eq (x ∷ s) [] e = no (sym e)
same_eq (x ∷ s) (y ∷ t) e = let (a, b) = both (eqb x y) (same s t) e in rw (eqb-true x y a, same_eq s t b)

pub every_append : (p : ℕ → Bool) (s t : List ℕ) → every p s ≡ true → every p t ≡ true → every p (s ++ t) ≡ true
every_append p [] t a b = b
every_append p (x ∷ s) t a b = let (c, d) = both (p x) (every p s) a in rw (c, every_append p s t d b)

pub every_all : (p : ℕ → Bool) (s : List ℕ) → every p s ≡ true → All (λ c. p c ≡ true) s
every_all p [] e = tt
every_all p (x ∷ s) e = let (c, d) = both (p x) (every p s) e in (c, every_all p s d)

-- what every member of a list passes, the one at a place does
pub every_at : {A : Type 0} (t : A → Bool) (l : List A) (d : A) (i : ℕ) → every t l ≡ true → i < length l → t (get_or l i d) ≡ true
every_at t [] d i e h = absurd (omega arith)
every_at t (x ∷ l) d zero e h = (both (t x) (every t l) e).0
every_at t (x ∷ l) d (suc i) e h = every_at t l d i (both (t x) (every t l) e).1 (omega arith)

pub and_intro : (a b : Bool) → a ≡ true → b ≡ true → a && b ≡ true
and_intro a b e f = rw (e, f)

-- the member of that number, counted from 1
abbrev pub Nth : {A : Type 0} → List A → ℕ → A → Type 0
Nth [] n x = ⊥
Nth (y ∷ l) zero x = ⊥
Nth (y ∷ l) (suc zero) x = y ≡ x
Nth (y ∷ l) (suc (suc n)) x = Nth l (suc n) x

-- there is no member of number 0
pub nth_zero : {A : Type 0} (l : List A) (x : A) → Nth l 0 x → ⊥
nth_zero [] x q = q
nth_zero (y ∷ l) x q = q

-- there is one member of each number
pub nth_once : {A : Type 0} (l : List A) (n : ℕ) (x y : A) → Nth l n x → Nth l n y → x ≡ y
nth_once [] n x y p q = absurd p
nth_once (z ∷ l) zero x y p q = absurd p
nth_once (z ∷ l) (suc zero) x y p q = sym p ∙ q
nth_once (z ∷ l) (suc (suc n)) x y p q = nth_once l (suc n) x y p q

-- behind one member more the number is one higher
pub nth_behind : {A : Type 0} (y : A) (l : List A) (n : ℕ) (x : A) → Nth l n x → Nth (y ∷ l) (suc n) x
nth_behind y l zero x q = absurd (nth_zero l x q)
nth_behind y l (suc n) x q = q

-- a fact on every number below n, by computing
abbrev pub below : ℕ → (ℕ → Bool) → Bool
below zero p = true
below (suc n) p = p n && below n p

pub below_at : (n : ℕ) (p : ℕ → Bool) → below n p ≡ true → (k : ℕ) → k < n → p k ≡ true
below_at zero p e k h = absurd (omega arith)
below_at (suc n) p e k h = let (x, y) = both (p n) (below n p) e in at (eqb k n) refl x (below_at n p y k)
  where
    at : (b : Bool) → eqb k n ≡ b → p n ≡ true → (k < n → p k ≡ true) → p k ≡ true
    at true q x ih = rw (eqb-true k n q) x
    at false q x ih = let ne : k ≢ n = eqb-false k n q in ih (omega arith)
