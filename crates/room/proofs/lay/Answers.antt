use Rattle.std.proofs.Common.{rules, ◌≡◌, ◌∙◌, length}
use Rattle.std.proofs.Math.Seq.{paste-zero}
use Rattle.room.proofs.LaidLaws.{next_entry, whole_word}
use Rattle.room.proofs.lay.Goals as goal

pub loop-i-init : goal.loop-i-init
loop-i-init g c = paste-zero c.args.out.now c.args.n c.args.word.now

pub loop-i-preserved : goal.loop-i-preserved
loop-i-preserved g c =
    let r = c.index-word-i.result in
    rw (c.loop-i.invariant, c.index-word-i.is) (next_entry c.args.out.now c.args.n c.args.word.now c.loop-i.i r (search rules) (search rules))

pub returns : goal.returns
returns g c =
    let e : c.loop-i.i ≡ length c.args.word.now = search rules in
    (search rules, c.loop-i.invariant ∙ rw e (whole_word c.args.out.now c.args.n c.args.word.now))
