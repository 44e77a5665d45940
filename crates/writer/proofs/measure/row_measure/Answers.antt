-- `writer::measure::row_measure`: a sound row fits into the scratch room, and what is spelled is what it adds.
-- Assumes nothing.
use Rattle.std.proofs.Common.{◌≡◌, true, ◌-◌, length, ap, sym, ◌∙◌, arith}
use Rattle.paper.specs.Fields.{S, is}
use Rattle.paper.specs.Plan.{Row}
use Rattle.paper.specs.Writing.{heading}
use Rattle.plan.specs.Numbers.{show_row, record_at}
use Rattle.plan.specs.Records.{paper_kind}
use Rattle.plan.specs.declared.Kind.{Kind}
use Rattle.sound.proofs.SoundLaws.{row_shown}
use Rattle.writer.specs.Tags.{placed_text}
use Rattle.writer.proofs.MeasureLaws.{placed_short, heading_number, other_number, heading_told}
use Rattle.writer.proofs.measure.row_measure.Goals as goal

pub lay_placed-e-requires : goal.lay_placed-e-requires
lay_placed-e-requires c =
    let r : Row = show_row c.args.text.now (record_at c.args.rows.now c.args.i) in
    let s = placed_short r (row_shown c.args.text.now (record_at c.args.rows.now c.args.i) c.requires.2) in
    (c.requires.0, c.requires.1, c.requires.2, omega (arith, s, c.requires.3))

pub overflow_cast-size : goal.overflow_cast-size
overflow_cast-size c =
    let r : Row = show_row c.args.text.now (record_at c.args.rows.now c.args.i) in
    let s = placed_short r (row_shown c.args.text.now (record_at c.args.rows.now c.args.i) c.requires.2) in
    omega (arith, s, c.lay_placed-e.ensures.behind)

pub overflow_mul-result : goal.overflow_mul-result
overflow_mul-result c =
    let r : Row = show_row c.args.text.now (record_at c.args.rows.now c.args.i) in
    let s = placed_short r (row_shown c.args.text.now (record_at c.args.rows.now c.args.i) c.requires.2) in
    omega (arith, s, c.lay_placed-e.ensures.behind)

pub overflow_add-result : goal.overflow_add-result
overflow_add-result c =
    let r : Row = show_row c.args.text.now (record_at c.args.rows.now c.args.i) in
    let s = placed_short r (row_shown c.args.text.now (record_at c.args.rows.now c.args.i) c.requires.2) in
    omega (arith, s, c.lay_placed-e.ensures.behind)

pub returns-then-heads : goal.returns-then-heads
returns-then-heads c =
    let r : Row = show_row c.args.text.now (record_at c.args.rows.now c.args.i) in
    let n : c.lay_placed-e.result - c.args.at ≡ length (placed_text true r) = omega (arith, c.lay_placed-e.ensures.behind) in
    let t : c.heads.result ≡ heading r = c.heads.ensures ∙ ap (λ (k : Kind). is (paper_kind k) S) c.kind_at-kind.ensures ∙ heading_told c.args.text.now (record_at c.args.rows.now c.args.i) in
    (heading_number r _ (sym t ∙ c.if-heads.true) n, c.lay_placed-e.ensures.room)

pub overflow_mul-result-2 : goal.overflow_mul-result-2
overflow_mul-result-2 c =
    let r : Row = show_row c.args.text.now (record_at c.args.rows.now c.args.i) in
    let s = placed_short r (row_shown c.args.text.now (record_at c.args.rows.now c.args.i) c.requires.2) in
    omega (arith, s, c.lay_placed-e.ensures.behind)

pub returns : goal.returns
returns c =
    let r : Row = show_row c.args.text.now (record_at c.args.rows.now c.args.i) in
    let n : c.lay_placed-e.result - c.args.at ≡ length (placed_text true r) = omega (arith, c.lay_placed-e.ensures.behind) in
    let t : c.heads.result ≡ heading r = c.heads.ensures ∙ ap (λ (k : Kind). is (paper_kind k) S) c.kind_at-kind.ensures ∙ heading_told c.args.text.now (record_at c.args.rows.now c.args.i) in
    (other_number r _ (sym t ∙ c.if-heads.false) n, c.lay_placed-e.ensures.room)
