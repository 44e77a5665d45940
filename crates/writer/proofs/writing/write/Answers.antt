-- `writer::writing::write`: each refusal is document 01's where its test is the first that fails, and behind the last test the pages are laid.
-- Assumes nothing.
use Rattle.std.proofs.Common.{◌≡◌, ◌≤◌, true, ℕ, List, [], map, length, take, refl, ap, sym, ◌∙◌, arith, rules, Ok, Err}
use Rattle.paper.specs.Plan.{Row}
use Rattle.paper.specs.Writing.{page}
use Rattle.plan.specs.Numbers.{rows_lent, show_head, show_rows}
use Rattle.sound.specs.Sound.{head_sound, first_bad_in}
use Rattle.writer.specs.Cutting.{measure_of, cut_of, parted, Tells}
use Rattle.writer.specs.Tags.{rows_placed}
use Rattle.writer.specs.Promise.{call_fits, given}
use Rattle.writer.specs.declared.answer.Refusal.TheVariants.{Unsound}
use Rattle.writer.proofs.Placed.{pages_hold}
use Rattle.writer.proofs.Stretches.{bad_row}
use Rattle.writer.proofs.WritingLaws.{well_made, no_call, bad_head, bad_rows, records, long_head_lem, decided, no_cut, a_cut, refuses, writes}
use Rattle.writer.proofs.writing.write.Goals as goal

pub returns-then-not-call_fits : goal.returns-then-not-call_fits
returns-then-not-call_fits c =
    let a = c.args in
    refuses _ _ _ (ap given (no_call a.out.now a.plan a.rows.now a.text.now (sym c.call_fits.ensures ∙ c.if-not-call_fits.true)))

pub returns-then-not-head_sound : goal.returns-then-not-head_sound
returns-then-not-head_sound c =
    let a = c.args in
    let f : call_fits a.plan.rows (rows_lent (length a.rows.now)) (length a.out.now) ≡ true = sym c.call_fits.ensures ∙ c.if-not-call_fits.false in
    refuses _ _ _ (ap given (bad_head a.out.now a.plan a.rows.now a.text.now f (sym c.head_sound.ensures ∙ c.if-not-head_sound.true)))

pub first_bad-requires : goal.first_bad-requires
first_bad-requires c =
    let a = c.args in
    let f : call_fits a.plan.rows (rows_lent (length a.rows.now)) (length a.out.now) ≡ true = sym c.call_fits.ensures ∙ c.if-not-call_fits.false in
    (well_made a.out.now a.plan a.rows.now f).lent

pub overflow_cast-result : goal.overflow_cast-result
overflow_cast-result c =
    let a = c.args in
    let f : call_fits a.plan.rows (rows_lent (length a.rows.now)) (length a.out.now) ≡ true = sym c.call_fits.ensures ∙ c.if-not-call_fits.false in
    omega (arith, c.in-Some.ensures.1, bad_row 1 a.text.now a.plan.rows a.rows.now, (well_made a.out.now a.plan a.rows.now f).few)

pub returns-in-Some : goal.returns-in-Some
returns-in-Some c =
    let a = c.args in
    let f : call_fits a.plan.rows (rows_lent (length a.rows.now)) (length a.out.now) ≡ true = sym c.call_fits.ensures ∙ c.if-not-call_fits.false in
    let h : head_sound a.text.now a.plan ≡ true = sym c.head_sound.ensures ∙ c.if-not-head_sound.false in
    let (p, e) = c.in-Some.ensures in
    refuses _ _ _ (ap given (bad_rows a.out.now a.plan a.rows.now a.text.now f h (λ z. omega (arith, p, e, z))) ∙ ap (λ (i : ℕ). Err (Unsound i)) (sym e))

pub returns-then-base-gt-PAGE : goal.returns-then-base-gt-PAGE
returns-then-base-gt-PAGE c =
    let a = c.args in
    let f : call_fits a.plan.rows (rows_lent (length a.rows.now)) (length a.out.now) ≡ true = sym c.call_fits.ensures ∙ c.if-not-call_fits.false in
    let h : head_sound a.text.now a.plan ≡ true = sym c.head_sound.ensures ∙ c.if-not-head_sound.false in
    let z : first_bad_in 1 a.text.now a.plan.rows a.rows.now ≡ 0 = c.in_default.ensures in
    refuses _ _ _ (ap given (long_head_lem a.out.now a.plan a.rows.now a.text.now f h z (omega (arith, c.head_size-base.ensures, c.if-base-gt-PAGE.true))))

pub row_measures-measures-requires : goal.row_measures-measures-requires
row_measures-measures-requires c =
    let a = c.args in
    let f : call_fits a.plan.rows (rows_lent (length a.rows.now)) (length a.out.now) ≡ true = sym c.call_fits.ensures ∙ c.if-not-call_fits.false in
    let h : head_sound a.text.now a.plan ≡ true = sym c.head_sound.ensures ∙ c.if-not-head_sound.false in
    let z : first_bad_in 1 a.text.now a.plan.rows a.rows.now ≡ 0 = c.in_default.ensures in
    let m = well_made a.out.now a.plan a.rows.now f in
    (m.few, m.lent, records a.out.now a.plan a.rows.now a.text.now f h z, search rules)

pub cut_rows-requires : goal.cut_rows-requires
cut_rows-requires c =
    let a = c.args in
    let f : call_fits a.plan.rows (rows_lent (length a.rows.now)) (length a.out.now) ≡ true = sym c.call_fits.ensures ∙ c.if-not-call_fits.false in
    (c.if-base-gt-PAGE.false, (well_made a.out.now a.plan a.rows.now f).few)

pub lay_pages-lens-requires : goal.lay_pages-lens-requires
lay_pages-lens-requires c =
    let a = c.args in
    let f : call_fits a.plan.rows (rows_lent (length a.rows.now)) (length a.out.now) ≡ true = sym c.call_fits.ensures ∙ c.if-not-call_fits.false in
    let h : head_sound a.text.now a.plan ≡ true = sym c.head_sound.ensures ∙ c.if-not-head_sound.false in
    let z : first_bad_in 1 a.text.now a.plan.rows a.rows.now ≡ 0 = c.in_default.ensures in
    let s : length (page (show_head a.text.now a.plan) [] 1 1) ≤ 1400 = omega (arith, c.head_size-base.ensures, c.if-base-gt-PAGE.false) in
    let d = decided a.out.now a.plan a.rows.now a.text.now f h z s in
    let t : Tells (Ok c.in-Ok.cut) (cut_of (length (page (show_head a.text.now a.plan) [] 1 1)) (map measure_of (show_rows a.text.now a.plan.rows a.rows.now))) =
    rw (sym c.head_size-base.ensures, sym c.row_measures-measures.ensures.0) c.in-Ok.ensures in
    let m = well_made a.out.now a.plan a.rows.now f in
    let es : List ℕ = take c.in-Ok.cut.pages c.in-Ok.cut.ends in
    let (k, (w, p)) = a_cut a.out.now a.plan a.rows.now a.text.now f h z s c.in-Ok.cut _ d t in
    let few : length (rows_placed (show_rows a.text.now a.plan.rows a.rows.now)) ≤ 12600 =
    omega (arith, ap (λ (l : List Row). length (rows_placed l)) p.all, pages_hold (show_head a.text.now a.plan) (length es) 1 (parted a.text.now a.rows.now 0 es), p.fit) in
    (h, m.lent, m.few, w, p.rise, rw k at p.fit, m.room, c.row_measures-measures.ensures.0, c.row_measures-measures.ensures.1 few)

pub returns-in-Err : goal.returns-in-Err
returns-in-Err c =
    let a = c.args in
    let f : call_fits a.plan.rows (rows_lent (length a.rows.now)) (length a.out.now) ≡ true = sym c.call_fits.ensures ∙ c.if-not-call_fits.false in
    let h : head_sound a.text.now a.plan ≡ true = sym c.head_sound.ensures ∙ c.if-not-head_sound.false in
    let z : first_bad_in 1 a.text.now a.plan.rows a.rows.now ≡ 0 = c.in_default.ensures in
    let s : length (page (show_head a.text.now a.plan) [] 1 1) ≤ 1400 = omega (arith, c.head_size-base.ensures, c.if-base-gt-PAGE.false) in
    let d = decided a.out.now a.plan a.rows.now a.text.now f h z s in
    let t : Tells (Err c.in-Err.row) (cut_of (length (page (show_head a.text.now a.plan) [] 1 1)) (map measure_of (show_rows a.text.now a.plan.rows a.rows.now))) =
    rw (sym c.head_size-base.ensures, sym c.row_measures-measures.ensures.0) c.in-Err.ensures in
    refuses _ _ _ (ap given (no_cut a.out.now a.plan a.rows.now a.text.now f h z s c.in-Err.row _ d t))

pub returns-in-Ok : goal.returns-in-Ok
returns-in-Ok c =
    let a = c.args in
    let f : call_fits a.plan.rows (rows_lent (length a.rows.now)) (length a.out.now) ≡ true = sym c.call_fits.ensures ∙ c.if-not-call_fits.false in
    let h : head_sound a.text.now a.plan ≡ true = sym c.head_sound.ensures ∙ c.if-not-head_sound.false in
    let z : first_bad_in 1 a.text.now a.plan.rows a.rows.now ≡ 0 = c.in_default.ensures in
    let s : length (page (show_head a.text.now a.plan) [] 1 1) ≤ 1400 = omega (arith, c.head_size-base.ensures, c.if-base-gt-PAGE.false) in
    let d = decided a.out.now a.plan a.rows.now a.text.now f h z s in
    let t : Tells (Ok c.in-Ok.cut) (cut_of (length (page (show_head a.text.now a.plan) [] 1 1)) (map measure_of (show_rows a.text.now a.plan.rows a.rows.now))) =
    rw (sym c.head_size-base.ensures, sym c.row_measures-measures.ensures.0) c.in-Ok.ensures in
    let (k, (w, p)) = a_cut a.out.now a.plan a.rows.now a.text.now f h z s c.in-Ok.cut _ d t in
    writes _ (show_head a.text.now a.plan) a.text.now a.rows.now (take c.in-Ok.cut.pages c.in-Ok.cut.ends) c.in-Ok.cut.pages a.out.now _ _ k p.are refl c.lay_pages-lens.ensures.0 c.lay_pages-lens.ensures.1
