-- SetLaws: runs of bytes of one set, all bytes of a set, and patterns, step by step.
-- Assumes nothing.
use mathlib.Core.Path.{◌≡◌, refl, sym, ap, ◌∙◌}
use mathlib.Core.Bool.{Bool, true, false, not, ◌&&◌}
use mathlib.Core.List.{List, [], ◌∷◌}
use Prim.Native.Nat.{ℕ, suc, ◌+◌, ◌-◌, ◌≤◌, ◌<◌}
use native.Mathlib.Numerals.{add-one}
use native.Mathlib.Omega.{arith}
use lib.Dec.{leb, ltb, leb-suc-suc, leb-suc-zero}
use lib.ListN.{length, drop, get_or, length-drop, drop_of_length-le}
use lib.Seq.{drop-cons}
use borrow.Author.Tests.{leb-true, leb-false, lt-ltb, le-ltb, le-leb, lt-leb}
use Rattle.paper.specs.Lists.{if, every, until}
use Rattle.paper.specs.Rules.{shape}
use Rattle.fields.specs.Sets.{in_set, sets}

-- ---- runs

-- all bytes are of the set when the run of all has no end before theirs
pub every_run : (p : ℕ → Bool) (s : List ℕ) → every p s ≡ leb (length s) (until p s)
every_run p [] = refl
every_run p (x ∷ s) = go (p x) (every_run p s)
  where
    go : (b : Bool) → every p s ≡ leb (length s) (until p s) → (b && every p s) ≡ leb (suc (length s)) (if b (suc (until p s)) 0)
    go true e = e ∙ sym (leb-suc-suc (length s) (until p s))
    go false e = sym (leb-suc-zero (length s))

shifted : (n a u : ℕ) → leb n (a + u) ≡ leb (n - a) u
shifted n a u = go (leb (n - a) u) refl
  where
    go : (b : Bool) → leb (n - a) u ≡ b → leb n (a + u) ≡ leb (n - a) u
    go true e = let h = leb-true (n - a) u e in le-leb n (a + u) (omega arith) ∙ sym e
    go false e = let h = leb-false (n - a) u e in lt-leb n (a + u) (omega arith) ∙ sym e

-- all bytes from a place on
pub all_from : (p : ℕ → Bool) (s : List ℕ) (a r : ℕ) → r ≡ a + until p (drop a s) → leb (length s) r ≡ every p (drop a s)
all_from p s a r e = rw (e, every_run p (drop a s), length-drop a s) (shifted (length s) a (until p (drop a s)))

-- below is the other side of at most
pub below_not : (a b : ℕ) → ltb a b ≡ not (leb b a)
below_not a b = go (leb b a) refl
  where
    go : (t : Bool) → leb b a ≡ t → ltb a b ≡ not (leb b a)
    go true e = let h = leb-true b a e in rw e (le-ltb a b h)
    go false e = let h = leb-false b a e in rw e (lt-ltb a b h)

-- ---- patterns

-- a byte that stands in its set
pub fit_on : (p v : List ℕ) (i : ℕ) → length v ≡ length p → i < length v → in_set (get_or p i 0) (get_or v i 0) ≡ true
    → shape (sets (drop i p)) (drop i v) ≡ shape (sets (drop (i + 1) p)) (drop (i + 1) v)
fit_on p v i l h e = let k : i < length p = omega arith in rw (add-one, drop-cons p i 0 k, drop-cons v i 0 h, e)

-- a byte that does not
pub fit_off : (p v : List ℕ) (i : ℕ) → length v ≡ length p → i < length v → in_set (get_or p i 0) (get_or v i 0) ≡ false
    → shape (sets (drop i p)) (drop i v) ≡ false
fit_off p v i l h e = let k : i < length p = omega arith in rw (drop-cons p i 0 k, drop-cons v i 0 h, e)

-- no byte is left
pub fit_done : (p v : List ℕ) (i : ℕ) → length v ≡ length p → length v ≤ i → shape (sets (drop i p)) (drop i v) ≡ true
fit_done p v i l h = let k : length p ≤ i = omega arith in rw (drop_of_length-le p k, drop_of_length-le v h)

-- another length fits no pattern
pub fit_long : (p v : List ℕ) → (length v ≡ length p → ⊥) → shape (sets p) v ≡ false
fit_long [] [] h = absurd (h refl)
fit_long [] (c ∷ v) h = refl
fit_long (k ∷ p) [] h = refl
fit_long (k ∷ p) (c ∷ v) h = go (in_set k c) (fit_long p v (λ e. h (ap suc e)))
  where
    go : (b : Bool) → shape (sets p) v ≡ false → (b && shape (sets p) v) ≡ false
    go true e = e
    go false e = refl
