-- `writer::tags::lay_plain`: one more byte is laid; behind the last one all are.
-- Assumes nothing.
use Rattle.std.proofs.Common.{◌≡◌, ◌<◌, ℕ, ◌+◌, ◌-◌, List, ◌∷◌, ◌++◌, [], length, get_or, set, take, drop, refl, ap, ◌∙◌, subst, arith, add-one, drop-cons, eqb-true}
use Rattle.std.proofs.Math.Seq.{slice}
use lib.ListN.{drop_of_length-le}
use Rattle.paper.specs.Values.{esc, escape}
use Rattle.paper.proofs.Small.{both_zero}
use Rattle.room.proofs.LaidLaws.{Laying, told, next_byte, all_laid}
use Rattle.writer.proofs.Stretches.{part_from}
use Rattle.writer.proofs.tags.lay_plain.Goals as goal

-- a byte that is spelled as it is stands before such bytes
one_more : (w : List ℕ) (i : ℕ) → i < length w → esc (get_or w i 0) ≡ get_or w i 0 ∷ [] → escape (drop (i + 1) w) ≡ drop (i + 1) w → escape (drop i w) ≡ drop i w
one_more w i h e o =
    let p : drop i w ≡ get_or w i 0 ∷ drop (i + 1) w = rw (add-one i) (drop-cons w i 0 h) in
    rw p (ap (λ (x : List ℕ). x ++ escape (drop (i + 1) w)) e ∙ ap (λ (x : List ℕ). get_or w i 0 ∷ x) o)

pub loop-i-preserved : goal.loop-i-preserved
loop-i-preserved c =
    let w : List ℕ = take (c.args.to - c.args.from) (drop c.args.from c.args.text.now) in
    let i : ℕ = c.loop-i.i in
    let h : i < length w = c.loop-i-test.true in
    let p : drop i w ≡ get_or w i 0 ∷ drop (i + 1) w = rw (add-one i) (drop-cons w i 0 h) in
    let q : c.args.at + i + 1 ≡ c.args.at + (i + 1) = omega arith in (
      λ y o. let (u, v) = both_zero c.loop-i.grown c.grows-grown.result y in c.loop-i.invariant.0 u (one_more w i h (c.grows-grown.ensures v) o),
      subst (λ (n : ℕ). Laying c.args.out.now (set c.loop-i.out (c.args.at + i) (get_or w i 0)) c.args.at n w (drop (i + 1) w)) q (next_byte (told c.loop-i.invariant.1 p) (omega arith)),
    )

pub returns : goal.returns
returns c =
    let w : List ℕ = take (c.args.to - c.args.from) (drop c.args.from c.args.text.now) in
    let e : w ≡ slice c.args.from c.args.to c.args.text.now = part_from c.args.from c.args.to c.args.text.now c.requires.0 in
    let gone : drop c.loop-i.i w ≡ [] = drop_of_length-le w {i = c.loop-i.i} c.loop-i-test.false in
    rw (← e) (
      λ z. c.loop-i.invariant.0 (eqb-true _ _ z) (rw gone refl),
      (all_laid (omega arith) (told c.loop-i.invariant.1 gone)).1,
    )
