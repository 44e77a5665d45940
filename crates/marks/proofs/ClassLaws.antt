-- ClassLaws: the table holds document 01's class of each byte, by one test that is computed over all 256 entries; and 0 is for the refused bytes alone.
-- Assumes nothing.
use mathlib.Core.Path.{◌≡◌, refl}
use mathlib.Core.Bool.{Bool, true, false, not}
use mathlib.Core.List.{List}
use Prim.Native.Nat.{ℕ, ◌+◌, ◌<◌}
use native.Mathlib.Nat.{add-zero}
use native.Mathlib.Numerals.{add-one}
use native.Mathlib.Omega.{arith}
use lib.Dec.{eqb, eqb→eq}
use lib.ListN.{length, get_or, drop}
use lib.Seq.{drop-cons}
use Rattle.paper.specs.Lists.{if, until}
use Rattle.paper.specs.Bytes.{refused, space, digit, capital, small, other, is_allowed, is_space, is_digit, is_capital, is_small, class_of, class_number, first_refused}
use Rattle.paper.proofs.Table.{at}
use Rattle.marks.proofs.ClassList.{classes}

-- the test of one entry
right : ℕ → ℕ → Bool
right b x = eqb x (class_number (class_of b))

-- the entry of a byte is its class
pub entry : (b : ℕ) → b < 256 → get_or classes b 0 ≡ class_number (class_of b)
unfolding classes right class_of
entry b h = eqb→eq (get_or classes b 0) (class_number (class_of b)) (at right classes tt b h)

-- some class other than refused
mark : (a b c d : Bool) → class_number (if a space (if b digit (if c capital (if d small other)))) ≡ 0 → ⊥
mark true b c d e = omega arith
mark false true c d e = omega arith
mark false false true d e = omega arith
mark false false false true e = omega arith
mark false false false false e = omega arith

-- class 0 is that of the bytes that are not allowed
pub zero_refused : (b : ℕ) → class_number (class_of b) ≡ 0 → is_allowed b ≡ false
unfolding class_of
zero_refused b e = go (is_allowed b) refl e
  where
    go : (a : Bool) → is_allowed b ≡ a → class_number (if (not a) refused (if (is_space b) space (if (is_digit b) digit (if (is_capital b) capital (if (is_small b) small other))))) ≡ 0 → is_allowed b ≡ false
    go true q e = absurd (mark (is_space b) (is_digit b) (is_capital b) (is_small b) e)
    go false q e = q

-- every other byte is allowed
pub other_allowed : (b : ℕ) → (class_number (class_of b) ≡ 0 → ⊥) → is_allowed b ≡ true
unfolding class_of
other_allowed b e = go (is_allowed b) refl
  where
    go : (a : Bool) → is_allowed b ≡ a → is_allowed b ≡ true
    go true q = q
    go false q = absurd (e (rw q))

-- the first refused byte stands here
pub hit : (s : List ℕ) (i : ℕ) → i < length s → is_allowed (get_or s i 0) ≡ false → i + first_refused (drop i s) ≡ i
hit s i h e = rw (drop-cons s i 0, e, until) (add-zero i)

-- this byte is allowed
pub miss : (s : List ℕ) (i : ℕ) → i < length s → is_allowed (get_or s i 0) ≡ true → i + first_refused (drop i s) ≡ i + 1 + first_refused (drop (i + 1) s)
miss s i h e = rw (add-one, drop-cons s i 0, e, until) (omega arith)
