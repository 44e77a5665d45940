-- Each kind of reference by its bytes.
use mathlib.Core.Path.{◌≡◌, sym, ◌∙◌}
use mathlib.Core.Bool.{Bool, true, false}
use mathlib.Core.List.{List}
use Prim.Native.Nat.{ℕ, ◌+◌, ◌<◌}
use native.Mathlib.Omega.{arith}
use lib.Dec.{eqb}
use lib.ListN.{length, get_or, drop}
use borrow.Author.Tests.{ne_eqb}
use Rattle.std.proofs.Common.{eq-eqb}
use Rattle.paper.specs.Lists.{until}
use Rattle.quoted.specs.Raws.{numeral}
use Rattle.quoted.proofs.Pieces.{in_it}
use Rattle.paper.specs.Grammar.{amp, lt, gt, quot, apos}
use Rattle.quoted.proofs.RawLaws.{dec_at, hex_at, word_at}
use Rattle.quoted.proofs.raw.reference_end.Goals as goal
use Rattle.quoted.proofs.raw.reference_end.Goals.{then-hex, else-hex, then-reads-2-via-then-reads-2, then-reads-2-via-else-reads-2+then-reads-3, then-reads-4-via-then-reads-4, then-reads-4-via-else-reads-4+then-reads-5}

-- a run of digits, by other names
run_by : (w : List ℕ) (f g e : ℕ) (b d : Bool) → b ≡ d → f ≡ g → e ≡ f + until (numeral b) (drop f w) → e ≡ g + until (numeral d) (drop g w)
run_by w f g e b d p q h = rw (← p, ← q) h

pub returns-then-byte_or-eq59 : goal.returns-then-byte_or-eq59
returns-then-byte_or-eq59 c =
    let w = c.args.page.now in
    let a = c.args.at in
    let x = c.byte_or-hex.result in
    let e = c.numerals_end-e.result in
    let N = c.numerals_end-e.ensures in
    let b = c.byte_or-then-e-from.ensures in
    let el : e < length w = in_it w e (λ z. omega (arith, b, z, c.if-byte_or-eq59.true)) in
    let q : get_or w a 0 ≡ 35 = sym c.byte_or.ensures ∙ c.if-byte_or-eq35.true in
    let s : get_or w e 0 ≡ 59 = sym b ∙ c.if-byte_or-eq59.true in
    elim c.if-hex.branch [
      | then-hex v ↦
          hex_at w a e q (sym c.byte_or-hex.ensures ∙ v.if-hex.true) (run_by w _ _ e (eqb x 120) true (eq-eqb x 120 v.if-hex.true) v.from-is N.0) (omega (arith, v.from-is, c.if-e-from.true)) el s
      | else-hex v ↦ dec_at w a e q (run_by w _ _ e (eqb x 120) false (ne_eqb x 120 v.if-hex.false) v.from-is N.0) (omega (arith, v.from-is, c.if-e-from.true)) el s
    ]

pub returns-then-reads : goal.returns-then-reads
returns-then-reads c = let R = c.reads.ensures c.if-reads.true in word_at c.args.page.now c.args.at (c.args.at + 4) _ (omega arith) R.0 R.1 amp

pub returns-then-reads-2 : goal.returns-then-reads-2
returns-then-reads-2 c =
    let a = c.args in
    elim c.then-reads-2.branch [
      | then-reads-2-via-then-reads-2 w ↦ let R = c.reads-2.ensures w.if-reads-2.true in word_at a.page.now a.at (a.at + 3) _ (omega arith) R.0 R.1 lt
      | then-reads-2-via-else-reads-2+then-reads-3 w ↦ let R = w.reads-else-reads-2.ensures w.if-reads-3.true in word_at a.page.now a.at (a.at + 3) _ (omega arith) R.0 R.1 gt
    ]

pub returns-then-reads-4 : goal.returns-then-reads-4
returns-then-reads-4 c =
    let a = c.args in
    elim c.then-reads-4.branch [
      | then-reads-4-via-then-reads-4 w ↦ let R = c.reads-3.ensures w.if-reads-4.true in word_at a.page.now a.at (a.at + 5) _ (omega arith) R.0 R.1 quot
      | then-reads-4-via-else-reads-4+then-reads-5 w ↦ let R = w.reads-else-reads-4.ensures w.if-reads-5.true in word_at a.page.now a.at (a.at + 5) _ (omega arith) R.0 R.1 apos
    ]
