-- Slices: a part of a page grows by the byte behind it.
-- Assumes nothing.
use mathlib.Core.Path.{◌≡◌}
use mathlib.Core.List.{List, [], ◌∷◌, ◌++◌}
use Prim.Native.Nat.{ℕ, ◌+◌, ◌≤◌, ◌<◌}
use native.Mathlib.Numerals.{add-one}
use native.Mathlib.Omega.{arith}
use lib.ListN.{length, get_or, take, length-take}
use lib.Seq.{slice, slice_empty, take-suc, drop-append-le}

-- one byte more of a part
pub grown : (s : List ℕ) (a i : ℕ) → a ≤ i → i < length s → slice a (i + 1) s ≡ slice a i s ++ (get_or s i 0 ∷ [])
grown s a i h k =
    let l : a ≤ length (take i s) = rw length-take (omega arith) in
    rw (add-one, take-suc s i 0, drop-append-le a (take i s) (get_or s i 0 ∷ []) l)

-- the part of one byte
pub one : (s : List ℕ) (i : ℕ) → i < length s → slice i (i + 1) s ≡ get_or s i 0 ∷ []
one s i k = rw (grown s i i (omega arith) k, slice_empty i s)
