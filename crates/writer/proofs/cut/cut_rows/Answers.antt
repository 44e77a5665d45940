-- `writer::cut::cut_rows`: each row is kept on the page, opens the next one, or has no place.
-- Assumes nothing.
use Rattle.std.proofs.Common.{◌≡◌, ◌≤◌, ℕ, ◌+◌, length, get_or, refl, ap, arith, rules}
use Rattle.writer.specs.Cutting.{size_in, opens}
use Rattle.writer.proofs.CutLaws.{held_start, held_kept, held_turned, held_last, held_long, held_done}
use Rattle.writer.proofs.cut.cut_rows.Goals as goal
use Rattle.writer.proofs.cut.cut_rows.Goals.{then-more-le-PAGE, else-more-le-PAGE+else-full-eq8+else-first-gt-PAGE}

pub loop-i-init : goal.loop-i-init
loop-i-init c = held_start c.args.base c.args.measures c.args.n c.opened-used.result c.opened-used.ensures.0 c.opened-used.ensures.1

pub returns-then-full-eq8 : goal.returns-then-full-eq8
returns-then-full-eq8 c =
    let l : length c.args.measures ≡ 256 = search rules in
    held_last c.loop-i.invariant (omega (arith, l, c.requires.1)) c.loop-i-test.true c.requires.1 (omega (arith, c.if-more-le-PAGE.false, c.size_in-size.ensures.0)) c.if-full-eq8.true

pub returns-then-first-gt-PAGE : goal.returns-then-first-gt-PAGE
returns-then-first-gt-PAGE c =
    let l : length c.args.measures ≡ 256 = search rules in
    let m : ℕ = get_or c.args.measures c.loop-i.i 0 in
    let first : c.opened.result + c.size_in-size.result ≡ opens c.args.base m + size_in m = rw (c.opened.ensures.0, c.size_in-size.ensures.0) in
    held_long c.loop-i.invariant (omega (arith, l, c.requires.1)) c.loop-i-test.true _ c.requires.1 (omega (arith, c.if-more-le-PAGE.false, c.size_in-size.ensures.0)) first c.if-first-gt-PAGE.true

pub loop-i-preserved : goal.loop-i-preserved
loop-i-preserved c =
    let l : length c.args.measures ≡ 256 = search rules in
    let long : c.args.n ≤ length c.args.measures = omega (arith, l, c.requires.1) in
    let m : ℕ = get_or c.args.measures c.loop-i.i 0 in
    let more : c.loop-i.used + c.size_in-size.result ≡ c.loop-i.used + size_in m = ap (λ (n : ℕ). c.loop-i.used + n) c.size_in-size.ensures.0 in
    elim c.if-more-le-PAGE.branch [
      | then-more-le-PAGE w ↦ rw (w.ends-is, w.full-is, w.used-is) (held_kept c.loop-i.invariant long c.loop-i-test.true _ more w.if-more-le-PAGE.true)
      | else-more-le-PAGE+else-full-eq8+else-first-gt-PAGE w ↦
          let first : w.opened.result + c.size_in-size.result ≡ opens c.args.base m + size_in m = rw (w.opened.ensures.0, c.size_in-size.ensures.0) in
          rw (w.ends-is, w.full-is, w.used-is) (held_turned c.loop-i.invariant long c.loop-i-test.true _ (omega (arith, w.if-more-le-PAGE.false, c.size_in-size.ensures.0)) w.if-full-eq8.false first w.if-first-gt-PAGE.false)
    ]

pub returns : goal.returns
returns c =
    let l : length c.args.measures ≡ 256 = search rules in
    held_done _ c.loop-i.invariant (omega (arith, l, c.requires.1)) c.loop-i-test.false refl refl
