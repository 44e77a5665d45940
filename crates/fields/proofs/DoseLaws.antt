-- DoseLaws: what stands behind the first digits of a dose, case by case.
-- Assumes nothing.
use mathlib.Core.Path.{◌≡◌, ◌∙◌}
use mathlib.Core.Bool.{true, false, not, ◌&&◌, ◌||◌}
use mathlib.Core.List.{List}
use Prim.Native.Nat.{ℕ, suc, ◌+◌, ◌≤◌, ◌<◌}
use native.Mathlib.Numerals.{add-one}
use native.Mathlib.Omega.{arith}
use lib.Dec.{eqb, leb}
use lib.ListN.{length, drop, get_or, drop_of_length-le}
use lib.Seq.{drop-cons}
use borrow.Author.Tests.{eq-eqb, ne_eqb}
use Rattle.paper.specs.Lists.{every, number}
use Rattle.paper.specs.Bytes.{is_digit}
use Rattle.paper.specs.Rules.{is_byte, tail_ok}
use Rattle.fields.proofs.NumberLaws.{above}

-- one byte alone
pub tail_short : (v : List ℕ) (n : ℕ) → n < length v → length v ≤ n + 1 → tail_ok (drop n v) ≡ false
tail_short v n h e = let l : length v ≤ suc n = omega arith in rw (drop-cons v n 0, drop_of_length-le v l)

module _ (v : List ℕ) (n : ℕ) (h : n < length v) (more : n + 1 < length v) where
  open_up : tail_ok (drop n v)
      ≡ (every is_digit (drop (n + 1) v) && (eqb (get_or v n 0) 44 || (eqb (get_or v n 0) 47 && leb 1 (number 0 (drop (n + 1) v)))))
  open_up = let l : suc n < length v = omega arith in rw (add-one, drop-cons v n 0 h, drop-cons v (suc n) 0 l)

  -- a slash and digits
  pub tail_slash : every is_digit (drop (n + 1) v) ≡ true → (get_or v n 0 ≡ 44 → ⊥) → get_or v n 0 ≡ 47
      → tail_ok (drop n v) ≡ not (every (is_byte 48) (drop (n + 1) v))
  tail_slash d e f = open_up ∙ rw (d, ne_eqb (get_or v n 0) 44 e, eq-eqb (get_or v n 0) 47 f) (above (drop (n + 1) v) d)

  -- something that is no digit
  pub tail_mixed : every is_digit (drop (n + 1) v) ≡ false → tail_ok (drop n v) ≡ false
  tail_mixed d = open_up ∙ rw d
