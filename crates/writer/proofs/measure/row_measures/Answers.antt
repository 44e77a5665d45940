-- `writer::measure::row_measures`: the next row fits into the scratch room, and is measured.
-- Assumes nothing.
use Rattle.std.proofs.Common.{◌+◌, ℕ, ap, arith, rules}
use Rattle.sound.proofs.SoundLaws.{each_sound}
use Rattle.writer.proofs.MeasureLaws.{measured_start, measured_next, measured_all}
use Rattle.writer.proofs.measure.row_measures.Goals as goal
use Rattle.writer.proofs.measure.row_measures.Goals.{then-end-le-PAGES, else-end-le-PAGES}

pub loop-i-init : goal.loop-i-init
loop-i-init c = measured_start c.args.text.now c.args.rows.now c.args.n c.args.scratch.now c.requires.0 c.requires.3

pub row_measure-m-requires : goal.row_measure-m-requires
row_measure-m-requires c =
    let i = c.loop-i-test.true in
    let J = c.loop-i.invariant in
    (c.keys-keys.ensures, omega (arith, i, c.requires.1), each_sound c.args.text.now c.args.n c.args.rows.now c.loop-i.i i c.requires.2, omega (arith, J.scratch, J.room, J.low))

pub loop-i-preserved : goal.loop-i-preserved
loop-i-preserved c =
    let R = c.row_measure-m in
    elim c.if-end-le-PAGES.branch [
      | then-end-le-PAGES w ↦ rw w.at-is (measured_next R.new.scratch _ _ c.loop-i.invariant c.loop-i-test.true R.ensures.0 R.ensures.1 (search rules) w.if-end-le-PAGES.true (λ l. ap (λ (x : ℕ). c.loop-i.at + x) c.size_in.ensures.0))
      | else-end-le-PAGES w ↦ rw w.at-is (measured_next R.new.scratch _ _ c.loop-i.invariant c.loop-i-test.true R.ensures.0 R.ensures.1 (search rules) c.loop-i.invariant.low (λ l. absurd (omega (arith, l, w.if-end-le-PAGES.false, c.size_in.ensures.0))))
    ]

pub returns : goal.returns
returns c = measured_all c.loop-i.invariant c.loop-i-test.false
