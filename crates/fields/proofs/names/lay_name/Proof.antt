-- `fields::names::lay_name` meets its contract: with the bytes that are left laid at this place, the lent bytes are what they shall be.
-- Assumes nothing.
use mathlib.Core.Path.{◌≡◌, refl, sym, ap, ◌∙◌}
use mathlib.Core.List.{List}
use Prim.Native.Nat.{ℕ, ◌+◌, ◌-◌, ◌/◌, ◌%◌, ◌<◌}
use native.Mathlib.Omega.{arith}
use lib.ListN.{length, length-set}
use borrow.Author.Rules.{rules}
use Rattle.fields.specs.Places.{bytes_of, name_of}
use Rattle.fields.proofs.NameLaws.{reach, bytes_end, bytes_on, reach_on, laid_at, laid_on, laid_end}
use Rattle.fields.proofs.names.lay_name.Statement.{statement}
use Rattle.fields.proofs.names.lay_name.Tie as tie

record Held (key : ℕ) (out₀ : List ℕ) (at : ℕ) (out : List ℕ) (k p j : ℕ) : Type 0 where
  pub small : k < reach j
  pub long : length out ≡ length out₀
  pub reached : p + length (bytes_of j k) ≡ at + length (name_of key)
  pub right : laid_at out p (bytes_of j k) ≡ laid_at out₀ at (name_of key)

abbrev invariant-loop : tie.invariant-loop-k
invariant-loop key out₀ at k₀ p₀ out k p = (j : ℕ) × Held key out₀ at out k p j

abbrev decreases-loop : tie.decreases-loop-k
decreases-loop key out₀ at k₀ p₀ out k p = k

loop-holds : tie.Need-loop-k-init invariant-loop decreases-loop
unfolding name_of
loop-holds c = (7, record { small = search rules; long = refl; reached = refl; right = refl })

cast-out : tie.Need-overflow_cast-out invariant-loop decreases-loop
cast-out c = search rules

slice-write-out : tie.Need-bounds-out-p invariant-loop decreases-loop
slice-write-out c =
    let L = c.before in
    let H = L.loop-k.invariant.1 in
    omega (arith, ap length (bytes_on L.loop-k.invariant.0 L.loop-k.k c.loop-k-test.true H.small), H.reached, H.long, L.before.requires)

add-p : tie.Need-overflow_add-p invariant-loop decreases-loop
add-p c = search rules

loop-less : tie.Need-loop-k-smaller invariant-loop decreases-loop
loop-less c = search rules

loop-again : tie.Need-loop-k-preserved invariant-loop decreases-loop
loop-again c =
    let L = c.before in
    let j = L.loop-k.invariant.0 in
    let H = L.loop-k.invariant.1 in
    let out = L.loop-k.out in
    let k = L.loop-k.k in
    let p = L.loop-k.p in
    let e = bytes_on j k c.loop-k-test.true H.small in
    let f = ap length e in
    let room : p < length out = omega (arith, f, H.reached, H.long, L.before.requires) in (
      j - 1,
      record {
        small = (reach_on j k c.loop-k-test.true H.small).1;
        long = length-set out p (k % 256) ∙ H.long;
        reached = omega (arith, f, H.reached);
        right = sym (laid_on out p (k % 256) (bytes_of (j - 1) (k / 256)) room) ∙ ap (laid_at out p) (sym e) ∙ H.right;
      },
    )

same_length : tie.Need-shape_of-out invariant-loop decreases-loop
same_length c = c.before.loop-k.invariant.1.long

returns : tie.Need-returns invariant-loop decreases-loop
returns c =
    let L = c.before in
    let H = L.loop-k.invariant.1 in
    let e = bytes_end L.loop-k.invariant.0 L.loop-k.k c.loop-k-test.false in
    (omega (arith, ap length e, H.reached), sym (laid_end L.loop-k.out L.loop-k.p) ∙ ap (laid_at L.loop-k.out L.loop-k.p) (sym e) ∙ H.right)

pub lay_name_spec : {M : Type 1} → statement M
lay_name_spec =
    tie.close
    (tie.spec
    invariant-loop
    decreases-loop
    loop-holds
    cast-out
    slice-write-out
    add-p
    loop-less
    loop-again
    same_length
    returns)
