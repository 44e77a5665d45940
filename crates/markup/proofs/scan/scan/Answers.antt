-- Each way round the loop keeps what holds at a byte; what is known of the byte's entry is stated once.
use Rattle.std.proofs.Common.{◌≡◌, refl, ℕ, List, ◌+◌, ◌*◌, ◌-◌, ◌<◌, length, get_or, arith}
use Rattle.markup.proofs.TableLists.{kinds, nexts}
use Rattle.markup.proofs.TableLaws.{Moved, moved, rule, kind_low, mode_of, act_of}
use Rattle.markup.proofs.Control.{next}
use Rattle.markup.proofs.Turns.{Held, begun, matched, unmatched, went, pushed, risen, refused, grew, closed, bared, finished, unfinished}
use Rattle.markup.proofs.scan.scan.Goals as goal
use Rattle.markup.proofs.scan.scan.Goals.{then-a-lt-PUSH, else-a-lt-PUSH+in-48, else-a-lt-PUSH+in-49, else-a-lt-PUSH+in-50, else-a-lt-PUSH+in-51, else-a-lt-PUSH+in-52}

-- the table's entry for a mode and a byte
abbrev entry : ℕ → ℕ → ℕ
entry mode b = get_or nexts (mode * 26 + get_or kinds b 0) 0

module _ {s starts ends : List ℕ} {depth mode k e i : ℕ} (H : Held s starts ends depth mode k e i) (low : get_or s i 0 < 256) where
  -- what the table keeps at this byte
  kept : Moved mode (entry mode (get_or s i 0))
  kept = moved mode _ H.mode_low low

  -- what the table says at this byte
  said : next (mode_of mode) (get_or s i 0) ≡ act_of (entry mode (get_or s i 0))
  said = rule mode _ H.mode_low low

  -- an act on the innermost open element finds one
  one_open : (r : ℕ) → 48 < r → r < 52 → entry mode (get_or s i 0) ≡ r → 0 < depth
  one_open r a b q = H.inner (kept.inside (omega arith) (omega arith))

pub loop-i-init : goal.loop-i-init
loop-i-init c = begun _ _ _ c.requires refl refl

pub returns-then-b-page : goal.returns-then-b-page
returns-then-b-page c = unmatched c.loop-i.invariant c.loop-i-test.true c.if-k-e.true c.if-b-page.true

pub loop-i-preserved-then-k-e : goal.loop-i-preserved-then-k-e
loop-i-preserved-then-k-e c = matched c.loop-i.invariant c.loop-i-test.true c.if-k-e.true c.if-b-page.false

pub bounds-next-mode : goal.bounds-next-mode
unfolding kinds
bounds-next-mode c =
    let low : get_or c.args.page.now c.loop-i.i 0 < 256 = omega (arith, c.type_inv.page c.loop-i.i) in
    omega (arith, kind_low _ low, c.loop-i.invariant.mode_low)

pub overflow_sub-ends : goal.overflow_sub-ends
unfolding kinds nexts
overflow_sub-ends c =
    let low : get_or c.args.page.now c.loop-i.i 0 < 256 = omega (arith, c.type_inv.page c.loop-i.i) in
    one_open c.loop-i.invariant low 49 (omega arith) (omega arith) c.in-49.is

pub overflow_sub-depth : goal.overflow_sub-depth
unfolding kinds nexts
overflow_sub-depth c =
    let low : get_or c.args.page.now c.loop-i.i 0 < 256 = omega (arith, c.type_inv.page c.loop-i.i) in
    one_open c.loop-i.invariant low 50 (omega arith) (omega arith) c.in-50.is

pub overflow_sub-depth-in-51 : goal.overflow_sub-depth-in-51
unfolding kinds nexts
overflow_sub-depth-in-51 c =
    let low : get_or c.args.page.now c.loop-i.i 0 < 256 = omega (arith, c.type_inv.page c.loop-i.i) in
    one_open c.loop-i.invariant low 51 (omega arith) (omega arith) c.in-51.is

pub returns-in_default-2 : goal.returns-in_default-2
unfolding kinds nexts
returns-in_default-2 c =
    let low : get_or c.args.page.now c.loop-i.i 0 < 256 = omega (arith, c.type_inv.page c.loop-i.i) in
    let H = c.loop-i.invariant in
    refused H c.loop-i-test.true c.if-k-e.false _ (kept H low) (said H low) (omega arith)

pub loop-i-preserved : goal.loop-i-preserved
unfolding kinds nexts
loop-i-preserved c =
    let low : get_or c.args.page.now c.loop-i.i 0 < 256 = omega (arith, c.type_inv.page c.loop-i.i) in
    let H = c.loop-i.invariant in
    let h = c.loop-i-test.true in
    let f = c.if-k-e.false in
    elim c.if-a-lt-PUSH.branch [
      | then-a-lt-PUSH w ↦ rw (w.starts-is, w.ends-is, w.depth-is, w.mode-is, w.k-is, w.e-is) (went H h f _ (kept H low) (said H low) w.if-a-lt-PUSH.true)
      | else-a-lt-PUSH+in-48 w ↦ rw (w.starts-is, w.ends-is, w.depth-is, w.mode-is, w.k-is, w.e-is) (pushed H h f _ (kept H low) (said H low) w.in-48.is)
      | else-a-lt-PUSH+in-49 w ↦
          let o = one_open H low 49 (omega arith) (omega arith) w.in-49.is in
          rw (w.starts-is, w.ends-is, w.depth-is, w.mode-is, w.k-is, w.e-is) (grew H h f _ (kept H low) (said H low) (c.loop-i.depth - 1) (omega arith) w.in-49.is)
      | else-a-lt-PUSH+in-50 w ↦
          let o = one_open H low 50 (omega arith) (omega arith) w.in-50.is in
          rw (w.starts-is, w.ends-is, w.depth-is, w.mode-is, w.k-is, w.e-is) (closed H h f _ (kept H low) (said H low) (c.loop-i.depth - 1) (omega arith) w.in-50.is)
      | else-a-lt-PUSH+in-51 w ↦
          let o = one_open H low 51 (omega arith) (omega arith) w.in-51.is in
          rw (w.starts-is, w.ends-is, w.depth-is, w.mode-is, w.k-is, w.e-is) (bared H h f _ (kept H low) (said H low) (c.loop-i.depth - 1) (omega arith) w.in-51.is)
      | else-a-lt-PUSH+in-52 w ↦ rw (w.starts-is, w.ends-is, w.depth-is, w.mode-is, w.k-is, w.e-is) (risen H h f _ (kept H low) (said H low) w.in-52.is _ w.behind-mode.ensures)
    ]

pub returns-then-mode-eq-AFTER : goal.returns-then-mode-eq-AFTER
returns-then-mode-eq-AFTER c = finished c.loop-i.invariant c.loop-i-test.false c.if-mode-eq-AFTER.true

pub returns-else-mode-eq-AFTER : goal.returns-else-mode-eq-AFTER
returns-else-mode-eq-AFTER c =
    let q : c.loop-i.i ≡ length c.args.page.now = omega arith in
    rw (← q) (unfinished c.loop-i.invariant c.loop-i-test.false c.if-mode-eq-AFTER.false)
