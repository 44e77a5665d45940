-- `plan::texts_at`: one more text is stored, and at the end all of them are.
-- Assumes nothing.
use Rattle.std.proofs.Common.{◌≡◌, ◌<◌, sym, ap, ◌∙◌, arith, replicate}
use native.Mathlib.Nat.{zero-add}
use Rattle.plan.specs.Numbers.{record_at}
use Rattle.plan.specs.Records.{no_span, code_span_in, text_span, texts_in}
use Rattle.room.proofs.Copied.{stored, finished}
use Rattle.plan.proofs.Parts.{texts_long, text_at}
use Rattle.plan.proofs.texts_at.Goals as goal

pub loop-j-preserved : goal.loop-j-preserved
loop-j-preserved c =
    let l = record_at c.args.rows.now c.args.i in
    let h : c.loop-j.j < 14 = omega arith in
    let found = c.span_at.ensures ∙ ap (code_span_in l) c.text_span.ensures ∙ ap (λ k. code_span_in l (text_span k)) (sym (zero-add c.loop-j.j)) ∙ sym (text_at 14 0 l c.loop-j.j h) in
    stored (texts_in 14 0 l) (replicate 14 no_span) _ c.loop-j.j _ no_span c.loop-j.invariant found (omega (arith, texts_long 14 0 l)) h

pub returns : goal.returns
returns c =
    let l = record_at c.args.rows.now c.args.i in
    let e : c.loop-j.j ≡ 14 = omega arith in
    finished (texts_in 14 0 l) (replicate 14 no_span) _ c.loop-j.j c.loop-j.invariant (omega (arith, e, texts_long 14 0 l)) e
