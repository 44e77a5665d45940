-- `plan::head_numbers`: one more span is stored, and at the end all of them are.
-- Assumes nothing.
use Rattle.std.proofs.Common.{◌≡◌, map, length, sym, ap, ◌∙◌, arith, rules}
use Rattle.std.proofs.Math.ListN.{length-map, get_or-map}
use Rattle.plan.specs.Numbers.{paper_span, code_span}
use Rattle.plan.specs.Records.{no_span}
use Rattle.plan.proofs.Spans.{head_turn, head_done}
use Rattle.plan.proofs.head_numbers.Goals as goal

pub loop-j-preserved : goal.loop-j-preserved
loop-j-preserved c =
    let long : length c.args.head ≡ 27 = search rules in
    head_turn (map paper_span c.args.head) c.loop-j.j (omega (arith, long, length-map c.args.head paper_span)) (omega arith) (ap code_span (sym (get_or-map paper_span c.args.head c.loop-j.j no_span))) c.loop-j.invariant

pub returns : goal.returns
returns c =
    let long : length c.args.head ≡ 27 = search rules in
    c.loop-j.invariant ∙ head_done (map paper_span c.args.head) c.loop-j.j (length-map c.args.head paper_span ∙ long) (omega arith)
