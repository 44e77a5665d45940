-- A number more is in the mask where its page is here.
use Rattle.std.proofs.Common.{◌+◌, sym, ◌∙◌}
use Rattle.collector.proofs.KeepLaws.{told_here}
use Rattle.collector.proofs.MaskLaws.{one_more, none_more, all_nine}
use Rattle.collector.proofs.lacks.here_mask.Goals as goal
use Rattle.collector.proofs.lacks.here_mask.Goals.{then-is_some, else-is_some}

pub loop-k-preserved : goal.loop-k-preserved
loop-k-preserved c =
    let told = sym (told_here c.args.lens (c.loop-k.k + 1) c.page_at.result c.page_at.ensures) ∙ sym c.is_some.ensures in
    elim c.if-is_some.branch [
      | then-is_some w ↦ w.mask-is ∙ w.with_number-mask.ensures ∙ one_more c.args.lens c.loop-k.k c.loop-k.mask c.loop-k.invariant (told ∙ w.if-is_some.true)
      | else-is_some w ↦ w.mask-is ∙ c.loop-k.invariant ∙ none_more c.args.lens c.loop-k.k (told ∙ w.if-is_some.false)
    ]

pub returns : goal.returns
returns c = all_nine c.args.lens c.loop-k.k c.loop-k.mask c.loop-k-test.false c.loop-k.invariant
