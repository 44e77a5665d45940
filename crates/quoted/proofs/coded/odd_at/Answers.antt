-- 13 10, a 13 alone, and a byte that stands for itself or a blank.
use mathlib.Core.Path.{◌≡◌, refl, sym, ◌∙◌, subst}
use Prim.Native.Nat.{ℕ, ◌+◌, ◌<◌}
use native.Mathlib.Omega.{arith}
use lib.Dec.{ltb}
use lib.ListN.{length}
use Rattle.paper.specs.Lists.{if}
use Rattle.quoted.specs.Coded.{OddAt}
use Rattle.quoted.proofs.Pieces.{in_it}
use Rattle.quoted.proofs.CodedLaws.{rare_at, pair_at_lem, return_at}
use Rattle.quoted.proofs.coded.odd_at.Goals as goal
use Rattle.quoted.proofs.coded.odd_at.Goals.{else-b-eq13-via-then-b-eq13+else-byte_or-eq10, else-b-eq13-via-else-b-eq13}

pub returns-then-byte_or-eq10 : goal.returns-then-byte_or-eq10
returns-then-byte_or-eq10 c =
    let w = c.args.page.now in
    let e = c.args.e in
    let b = c.byte_or.ensures in
    let el : e + 1 < length w = in_it w (e + 1) (λ z. omega (arith, b, z, c.if-byte_or-eq10.true)) in
    pair_at_lem w e el c.if-b-eq13.true (sym b ∙ c.if-byte_or-eq10.true)

blank : (b v : ℕ) → b ≡ 13 → v ≡ if (ltb b 32) 32 b → 32 ≡ v
blank b v e h = sym (h ∙ rw e)

pub returns-then-is_rare : goal.returns-then-is_rare
returns-then-is_rare c =
    let w = c.args.page.now in
    let e = c.args.e in
    elim c.else-b-eq13.branch [
      | else-b-eq13-via-then-b-eq13+else-byte_or-eq10 v ↦
          subst (λ (x : ℕ). OddAt w e (e + 1) x) (blank _ _ v.if-b-eq13.true c.shown_as.ensures)
          (return_at w e c.requires.0 v.if-b-eq13.true (λ z. v.if-byte_or-eq10.false (v.byte_or.ensures ∙ z)))
      | else-b-eq13-via-else-b-eq13 v ↦ rare_at w e _ c.shown_as.result c.requires.0 refl (sym c.is_rare.ensures ∙ c.if-is_rare.true) v.if-b-eq13.false c.shown_as.ensures
    ]
