-- Coded: a value with odd bytes, and what it stands for.
-- Assumes nothing.
use Rattle.std.specs.Prelude.{◌≡◌, true, List, ◌∷◌, ◌++◌, ℕ, ◌+◌, ◌≤◌, ◌<◌, length, get_or, take}
use Rattle.std.proofs.Math.Seq.{slice}
use Rattle.paper.specs.Lists.{every, count}
use Rattle.paper.specs.Bytes.{is_decoded}
use Rattle.paper.specs.Grammar.{Quote, Raw}
use Rattle.paper.specs.Values.{text, decode, value}
use Rattle.quoted.specs.Raws.{RawAt}

-- the bytes of w from e up to r are an odd byte or a reference, which stands for v; they may stand in a value in quotes that the first of them is not
pub record OddAt (w : List ℕ) (e r v : ℕ) : Type 0 where
  pub within : (e < r) × (r ≤ length w)
  pub raw : (q : ℕ) → Quote q → (get_or w e 0 ≡ q → ⊥) → (x : List ℕ) → Raw q x → Raw q (slice e r w ++ x)
  pub gives : (z : ℕ) → r ≤ z → z ≤ length w → decode text (slice e z w) ≡ v ∷ decode text (slice r z w)
  pub decoded : is_decoded v ≡ true

-- the value in quotes q from `from` on ends at the quote z; it lies in the side room from m up to e, before which nothing has changed; n of its bytes are line breaks, and every one may stand
-- in a value
pub record CodedAt (w side side' : List ℕ) (from q m z e n : ℕ) : Type 0 where
  pub raw : RawAt w from q z
  pub within : (m ≤ e) × (e ≤ length side')
  pub right : slice m e side' ≡ value (slice from z w)
  pub clean : every is_decoded (slice m e side') ≡ true
  pub broken : count 126 (slice m e side') ≤ n
  pub same : take m side' ≡ take m side
  pub short : e + from ≤ z + m
