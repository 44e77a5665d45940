-- The pages found are those by their numbers, and the call that hands them in is read.
use Rattle.std.proofs.Common.{◌≡◌, ℕ, ◌+◌, ◌≤◌, ◌<◌, length, take, refl, sym, ◌∙◌, subst, rules, arith}
use Rattle.std.proofs.Math.Seq.{length-take-le}
use Rattle.reader.specs.Promise.{answered}
use Rattle.collector.specs.Keeping.{count_of, collected}
use Rattle.collector.proofs.KeepLaws.{place, told_missing}
use Rattle.collector.proofs.MaskLaws.{count_nine}
use Rattle.collector.proofs.OrderLaws.{Held, next_page, lowest_is, too_small, eleven, as_called, promised_as}
use Rattle.collector.proofs.reading.read.Goals as goal

pub returns-then-not-room_fits : goal.returns-then-not-room_fits
returns-then-not-room_fits c =
    record { answer_is = too_small c.args.rows.now c.args.text.now c.args.c (sym c.room_fits.ensures ∙ c.if-not-room_fits.true); rows_are = refl; text_is = refl }

pub loop-k-init : goal.loop-k-init
loop-k-init c =
    record { within = omega arith; nine = subst (λ (z : ℕ). z ≤ 9) (sym c.count-z.ensures) (count_nine c.args.c.z); long = refl; wide = refl; starts_are = refl; sizes_are = refl; all = λ i a b. absurd (omega arith) }

pub returns-in_default : goal.returns-in_default
returns-in_default c =
    let H = subst (λ (z : ℕ). Held c.args.c.lens c.loop-k.starts c.loop-k.sizes z c.loop-k.k) c.count-z.ensures c.loop-k.invariant in
    let low = lowest_is c.args.c c.loop-k.starts c.loop-k.sizes c.loop-k.k H (subst (λ (z : ℕ). c.loop-k.k < z) c.count-z.ensures c.loop-k-test.true)
    (told_missing c.args.c.lens (c.loop-k.k + 1) (sym c.in_default.is ∙ c.page_at.ensures)) in
    record { answer_is = eleven c.args.rows.now c.args.text.now c.args.c (sym c.room_fits.ensures ∙ c.if-not-room_fits.false) c.loop-k.k low; rows_are = refl; text_is = refl }

pub bounds-starts-k : goal.bounds-starts-k
bounds-starts-k c = omega (arith, c.loop-k.invariant.nine)

pub bounds-sizes-k : goal.bounds-sizes-k
bounds-sizes-k c = omega (arith, c.loop-k.invariant.nine)

pub loop-k-preserved : goal.loop-k-preserved
loop-k-preserved c =
    let P = place c.args.c.lens (c.loop-k.k + 1) c.in-Some.at c.in-Some.ensures in
    next_page _ _ _ _ c.loop-k.k _ _ c.loop-k.invariant c.loop-k-test.true P.is_here P.start_is P.len_is

pub slice_bounds-starts-end : goal.slice_bounds-starts-end
slice_bounds-starts-end c = omega (arith, c.loop-k.invariant.long, c.loop-k.invariant.nine)

pub slice_bounds-read-end-2 : goal.slice_bounds-read-end-2
slice_bounds-read-end-2 c = sym (length-take-le c.count-z.result c.loop-k.starts (omega (arith, c.loop-k.invariant.long, c.loop-k.invariant.nine)))

pub slice_bounds-sizes-end : goal.slice_bounds-sizes-end
slice_bounds-sizes-end c = omega (arith, c.loop-k.invariant.wide, c.loop-k.invariant.nine)

pub slice_bounds-read-end-3 : goal.slice_bounds-read-end-3
slice_bounds-read-end-3 c = sym (length-take-le c.count-z.result c.loop-k.sizes (omega (arith, c.loop-k.invariant.wide, c.loop-k.invariant.nine)))

pub returns : goal.returns
returns c =
    let rows = c.args.rows.now in
    let text = c.args.text.now in
    let long : length c.args.c.pages ≡ 12600 = search rules in
    let e = c.count-z.ensures in
    let H = subst (λ (z : ℕ). Held c.args.c.lens c.loop-k.starts c.loop-k.sizes z c.loop-k.k) e c.loop-k.invariant in
    let same = as_called rows text c.args.c (sym c.room_fits.ensures ∙ c.if-not-room_fits.false) long c.loop-k.starts c.loop-k.sizes c.loop-k.k H (subst (λ (z : ℕ). z ≤ c.loop-k.k) e c.loop-k-test.false) in
    let told = subst (λ (z : ℕ). answered rows text c.args.c.pages (take z c.loop-k.starts) (take z c.loop-k.sizes) ≡ collected rows text c.args.c) (sym e) same in
    promised_as (answered rows text c.args.c.pages (take c.count-z.result c.loop-k.starts) (take c.count-z.result c.loop-k.sizes)) (collected rows text c.args.c) told rows text _ _ _ c.read.ensures
