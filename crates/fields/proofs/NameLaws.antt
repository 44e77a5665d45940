-- NameLaws: the bytes of a key one after the other, laid one behind the other; and that a key gives its name back.
-- Assumes nothing.
use mathlib.Core.Path.{◌≡◌, refl, sym}
use mathlib.Core.List.{List, [], ◌∷◌, ◌++◌, append_assoc}
use Prim.Native.Nat.{ℕ, zero, suc, ◌+◌, ◌*◌, ◌-◌, ◌/◌, ◌%◌, ◌≤◌, ◌<◌}
use native.Mathlib.Nat.{add-zero}
use native.Mathlib.Numerals.{add-one}
use native.Mathlib.Omega.{arith}
use lib.ListN.{length, take, drop, get_or, set, take-append-drop}
use lib.Seq.{take-suc-set, drop-set-lt}
use borrow.Author.Tests.{lt-ltb, le-ltb}
use Rattle.fields.specs.Places.{key_of, bytes_of, name_of}
use Rattle.fields.proofs.LookupLaws.{Short, key_up}

-- what keys of at most so many bytes stay below
abbrev pub reach : ℕ → ℕ
reach zero = 256
reach (suc j) = 256 * reach j

-- a key of this size has no further byte
pub bytes_end : (j k : ℕ) → k < 256 → bytes_of j k ≡ []
bytes_end zero k h = refl
bytes_end (suc j) k h = rw (lt-ltb k 256 h)

-- a larger one has
pub bytes_on : (j k : ℕ) → 256 ≤ k → k < reach j → bytes_of j k ≡ k % 256 ∷ bytes_of (j - 1) (k / 256)
bytes_on zero k h l = absurd (omega arith)
bytes_on (suc j) k h l = let e : suc j - 1 ≡ j = omega arith in rw (e, le-ltb k 256 h)

-- what is left of it is smaller
pub reach_on : (j k : ℕ) → 256 ≤ k → k < reach j → (1 ≤ j) × (k / 256 < reach (j - 1))
reach_on zero k h l = absurd (omega arith)
reach_on (suc j) k h l = let e : suc j - 1 ≡ j = omega arith in (omega arith, rw e (omega arith))

-- lent bytes with a name laid at a place
abbrev pub laid_at : List ℕ → ℕ → List ℕ → List ℕ
laid_at out p n = take p out ++ (n ++ drop (p + length n) out)

-- a byte is laid, the others are to come
pub laid_on : (out : List ℕ) (p x : ℕ) (n : List ℕ) → p < length out → laid_at out p (x ∷ n) ≡ laid_at (set out p x) (p + 1) n
laid_on out p x n h =
    let e : p + suc (length n) ≡ suc p + length n = omega arith in
    let l : p < suc p + length n = omega arith in
    rw (add-one p, take-suc-set out p x h, drop-set-lt (suc p + length n) out p x l, e)
    (sym (append_assoc (take p out) (x ∷ []) (n ++ drop (suc p + length n) out)))

-- all bytes are laid
pub laid_end : (out : List ℕ) (p : ℕ) → laid_at out p [] ≡ out
laid_end out p = rw (add-zero p) (take-append-drop p out)

-- ---- a key gives its name back

bytes_back : (n : List ℕ) (j : ℕ) → length n ≤ j → ((i : ℕ) → get_or n i 0 < 256) → bytes_of j (key_of n) ≡ n
bytes_back [] j h q = bytes_end j 1 (omega arith)
bytes_back (c ∷ n) zero h q = absurd (omega arith)
bytes_back (c ∷ n) (suc j) h q =
    let a : c < 256 = q 0 in
    let b = key_up n in
    let k = key_of n * 256 + c in
    let e : k % 256 ≡ c = omega arith in
    let f : k / 256 ≡ key_of n = omega arith in
    rw (le-ltb k 256 (omega arith)) (rw (e, f, bytes_back n j (omega arith) (λ i. q (suc i))))

-- the name of a name's key
pub name_back : (n : List ℕ) → Short n → name_of (key_of n) ≡ n
unfolding name_of
name_back n s = bytes_back n 7 s.few s.small
