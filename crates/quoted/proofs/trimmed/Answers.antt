-- A blank at the end is cut, and any other byte ends what is left.
use mathlib.Core.Path.{◌≡◌, ap, ◌∙◌}
use Prim.Native.Nat.{ℕ, ◌+◌, ◌-◌}
use native.Mathlib.Omega.{arith}
use lib.Seq.{slice}
use Rattle.quoted.proofs.PlainLaws.{blank_cut_to, mark_kept_to}
use Rattle.quoted.proofs.trimmed.Goals as goal

pub returns-then-page-i-ne32 : goal.returns-then-page-i-ne32
returns-then-page-i-ne32 c =
    let w = c.args.page.now in
    let e = c.loop-i.i in
    let z : e - 1 + 1 ≡ e = omega arith in
    (ap (λ (x : ℕ). slice c.args.at x w) z ∙ mark_kept_to w c.args.at e (omega arith) (omega arith) c.if-page-i-ne32.true ∙ c.loop-i.invariant, omega arith, omega arith)

pub loop-i-preserved : goal.loop-i-preserved
loop-i-preserved c = blank_cut_to c.args.page.now c.args.at c.loop-i.i (omega arith) (omega arith) c.if-page-i-ne32.false ∙ c.loop-i.invariant
