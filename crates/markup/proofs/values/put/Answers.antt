-- The blanks are laid, and the byte behind them.
use Rattle.std.proofs.Common.{◌≡◌, ◌+◌, ◌-◌, refl, arith, length, take, drop}
use Rattle.std.proofs.Common.{length-take, length-drop}
use Rattle.markup.proofs.Decodes.{blanks_put}
use Rattle.markup.proofs.values.put.Goals as goal

pub returns : goal.returns
returns c =
    let n = c.args.n in
    let out = c.args.out.now in
    let e : length (take (n + c.args.blanks - n) (drop n out)) ≡ c.args.blanks = simp (length-take, length-drop) (omega arith) in
    (refl, rw (c.fill.ensures.after (λ y q. q), e) (blanks_put out n _ c.args.blanks c.args.v (omega arith) c.requires))
