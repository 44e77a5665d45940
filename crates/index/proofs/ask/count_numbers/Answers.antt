-- A row more is counted or is not, and behind the last there is none.
use Rattle.std.proofs.Common.{◌<◌, sym, ◌∙◌, arith}
use Rattle.index.proofs.AskLaws.{none_behind, one_without, one_with}
use Rattle.index.proofs.ask.count_numbers.Goals as goal
use Rattle.index.proofs.ask.count_numbers.Goals.{then-number_at-ne0, else-number_at-ne0}

pub loop-i-preserved : goal.loop-i-preserved
loop-i-preserved c =
    let h : c.loop-i.i < c.args.n = c.loop-i-test.true in
    elim c.if-number_at-ne0.branch [
      | then-number_at-ne0 w ↦
          let e = one_with c.args.n c.loop-i.i c.args.rows.now h (λ z. w.if-number_at-ne0.true (c.number_at.ensures ∙ z)) in
          record { few = omega arith; right = omega arith }
      | else-number_at-ne0 w ↦
          let e = one_without c.args.n c.loop-i.i c.args.rows.now h (sym c.number_at.ensures ∙ w.if-number_at-ne0.false) in
          record { few = omega arith; right = omega arith }
    ]

pub returns : goal.returns
returns c = omega (arith, none_behind c.args.n c.loop-i.i c.args.rows.now c.loop-i-test.false)
