-- Pieces: the pieces of a line.
-- Assumes nothing.
use mathlib.Core.List.{List, [], ◌∷◌, ◌++◌}
use Prim.Native.Nat.{ℕ, ◌+◌, ◌<◌}
use native.Mathlib.Omega.{arith}
use lib.ListN.{length, set}
use Rattle.paper.specs.Listing.{line, print}
use Rattle.room.specs.Written.{Wrote}
use Rattle.room.proofs.Pieces.{Fits, first_fits, second_fits, both_written, byte_written}

module _ (value : List ℕ) {o o₁ key : List ℕ} {a b : ℕ} (h : Fits o a (print (line key value ∷ []))) (u : Wrote o o₁ a b key) where
  sign_fits : Fits o₁ b (61 ∷ (value ++ 10 ∷ []))
  sign_fits = second_fits (61 ∷ (value ++ 10 ∷ [])) h u

  -- the `=` fits behind the key
  pub equals_fits : b < length o₁
  equals_fits = let e = sign_fits.inside in omega arith

  sign : Wrote o₁ (set o₁ b 61) b (b + 1) (61 ∷ [])
  sign = byte_written o₁ b 61 equals_fits

  rest_fits : Fits (set o₁ b 61) (b + 1) (value ++ 10 ∷ [])
  rest_fits = second_fits {p = 61 ∷ []} (value ++ 10 ∷ []) sign_fits sign

  -- the value fits behind it
  pub value_fits : Fits (set o₁ b 61) (b + 1) value
  value_fits = first_fits value (10 ∷ []) rest_fits

  -- the line's end fits behind the value
  pub end_fits : {o₂ : List ℕ} {c : ℕ} → Wrote (set o₁ b 61) o₂ (b + 1) c value → c < length o₂
  end_fits v = let e = (second_fits (10 ∷ []) rest_fits v).inside in omega arith

  -- all of them are the line
  pub line_written : {o₂ : List ℕ} {c : ℕ} → Wrote (set o₁ b 61) o₂ (b + 1) c value → Wrote o (set o₂ c 10) a (c + 1) (print (line key value ∷ []))
  line_written {o₂} {c} v = both_written h u (both_written {p = 61 ∷ []} sign_fits sign (both_written rest_fits v (byte_written o₂ c 10 (end_fits v))))
