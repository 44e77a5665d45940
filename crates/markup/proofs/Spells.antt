-- Spells: the fresh spelling of a value byte by byte.
-- Assumes nothing.
use mathlib.Core.Path.{◌≡◌, sym}
use mathlib.Core.Bool.{Bool, true, false}
use mathlib.Core.List.{List, [], ◌∷◌, ◌++◌}
use Prim.Native.Nat.{ℕ, ◌+◌, ◌*◌, ◌≤◌, ◌<◌}
use native.Mathlib.Nat.{add_assoc}
use native.Mathlib.Numerals.{add-one}
use native.Mathlib.Omega.{arith}
use lib.Dec.{eqb}
use lib.ListN.{length, get_or, length-append}
use lib.Seq.{slice, slice-cons, slice_empty}
use Rattle.paper.specs.Lists.{if, bytes}
use Rattle.paper.specs.Values.{esc, escape}
use Rattle.room.specs.Laid.{laid}
use Rattle.room.proofs.LaidLaws.{Laying, start, told, next_piece, all_laid}

-- ---- spelling

-- a byte of a value is spelled in at most six
esc_short : (c : ℕ) → length (esc c) ≤ 6
esc_short c = at (eqb c 38) (eqb c 60) (eqb c 34)
  where
    at : (x y z : Bool) → length (if x (bytes "&amp;") (if y (bytes "&lt;") (if z (bytes "&quot;") (c ∷ [])))) ≤ 6
    at true y z = omega arith
    at false true z = omega arith
    at false false true = omega arith
    at false false false = omega arith

-- a value is spelled in at most six times its bytes
pub escape_short : (v : List ℕ) → length (escape v) ≤ 6 * length v
escape_short [] = omega arith
escape_short (c ∷ v) = omega (arith, length-append (esc c) (escape v), esc_short c, escape_short v)

-- the first byte's spelling, then that of the rest
pub escape_first : (w : List ℕ) (i to : ℕ) → i < to → to ≤ length w → escape (slice i to w) ≡ esc (get_or w i 0) ++ escape (slice (i + 1) to w)
escape_first w i to h k = rw (add-one, slice-cons i to w 0 h k)

-- a byte's spelling adds to the length
pub longer : (w : List ℕ) (n i to : ℕ) → i < to → to ≤ length w
    → n + length (escape (slice i to w)) ≡ n + length (esc (get_or w i 0)) + length (escape (slice (i + 1) to w))
longer w n i to h k = rw (escape_first w i to h k, length-append) (sym (add_assoc n (length (esc (get_or w i 0))) (length (escape (slice (i + 1) to w)))))

-- ---- the loop of spelling

-- the value w from `from` to `to` is spelled up to i, into a room from `at` up to n
pub record Held (w out₀ out : List ℕ) (from to at n i : ℕ) : Type 0 where
  pub begun : from ≤ i
  pub within : i ≤ to
  pub inside : to ≤ length w
  pub fits : n + length (escape (slice i to w)) ≤ length out₀
  pub here : at ≤ length out₀
  pub laying : Laying out₀ out at n (escape (slice from to w)) (escape (slice i to w))

-- nothing is spelled yet
pub first : (w out : List ℕ) (from to at : ℕ) → from ≤ to → to ≤ length w → at + length (escape (slice from to w)) ≤ length out → Held w out out from to at at from
first w out from to at h k l = record {
  begun = omega arith;
  within = h;
  inside = k;
  fits = l;
  here = omega arith;
  laying = start out at (escape (slice from to w)) (omega arith);
}

module _ {w out₀ out : List ℕ} {from to at n i : ℕ} (H : Held w out₀ out from to at n i) (h : i < to) where
  -- the next byte's spelling has room
  pub room : n + length (esc (get_or w i 0)) + length (escape (slice (i + 1) to w)) ≤ length out₀
  room = rw (longer w n i to h H.inside) at H.fits

  -- the next byte's spelling is laid
  pub turn : (out' : List ℕ) (n' : ℕ) → n' ≡ n + length (esc (get_or w i 0)) → out' ≡ laid out n (esc (get_or w i 0)) → Held w out₀ out' from to at n' (i + 1)
  turn out' n' a b =
      let r = room in
      let f : n + length (esc (get_or w i 0)) ≤ length out₀ = omega arith in
      rw (a, b) record {
        begun = omega arith;
        within = omega arith;
        inside = H.inside;
        fits = room;
        here = H.here;
        laying = next_piece H.laying (esc (get_or w i 0)) (escape (slice (i + 1) to w)) (escape_first w i to h H.inside) f;
      }

-- all is spelled
pub last : {w out₀ out : List ℕ} {from to at n i : ℕ} → Held w out₀ out from to at n i → to ≤ i
    → (n ≡ at + length (escape (slice from to w))) × (out ≡ laid out₀ at (escape (slice from to w)))
last {w} {out₀} {out} {from} {to} {at} {n} {i} H h =
    let q : i ≡ to = let u = H.within in omega arith in
    all_laid H.here (told H.laying (rw (q, slice_empty to w)))
