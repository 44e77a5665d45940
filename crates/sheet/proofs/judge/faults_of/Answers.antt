-- No tag is left, an end tag, or a start tag: 5 if it has no place or an attribute is strange, else the state behind it.
use Rattle.std.proofs.Common.{◌+◌, Bool, refl, [], sym, ap, ◌∙◌, arith}
use Rattle.paper.specs.Judging.{Fault}
use Rattle.markup.specs.Walk.{inside_at, tags_at}
use Rattle.fields.specs.Places.{kind_at}
use Rattle.fields.proofs.ColumnLaws.{part_within}
use Rattle.sheet.specs.Fold.{St, judge_fold, fold_page, opened}
use Rattle.sheet.specs.Judged.{st_of, left}
use Rattle.sheet.proofs.JudgeLaws.{on_nothing, on_end, on_tag}
use Rattle.sheet.proofs.judge.faults_of.Goals as goal

pub loop-refusal-init : goal.loop-refusal-init
unfolding fold_page
loop-refusal-init c = record {
  inner = omega arith;
  lent = refl;
  sound = c.before-st.ensures.1;
  right = ap (λ (s : St). judge_fold s (tags_at c.args.page.now 0)) (sym c.before-st.ensures.0);
}

pub next_tag-requires : goal.next_tag-requires
next_tag-requires c = c.loop-refusal.invariant.inner

pub returns-in-Some : goal.returns-in-Some
returns-in-Some c = c.loop-refusal.invariant.right ∙ on_nothing _ _ [] c.in-None.ensures.0 ∙ sym c.in-Some.ensures

pub returns-in-None-finish : goal.returns-in-None-finish
returns-in-None-finish c = ap (λ (f : Fault). f.no) (c.loop-refusal.invariant.right ∙ on_nothing _ _ [] c.in-None.ensures.0 ∙ sym c.in-None-finish.ensures)

pub close-st-requires : goal.close-st-requires
close-st-requires c = c.loop-refusal.invariant.sound

pub loop-refusal-smaller-in-Some-End : goal.loop-refusal-smaller-in-Some-End
loop-refusal-smaller-in-Some-End c = let e = rw c.in-Some-End.field-0-is at c.in-Some-End.ensures in omega (arith, e.1.0, e.1.1)

pub loop-refusal-preserved-in-Some-End : goal.loop-refusal-preserved-in-Some-End
loop-refusal-preserved-in-Some-End c =
    let e = rw c.in-Some-End.field-0-is at c.in-Some-End.ensures in record {
      inner = omega (arith, e.1.1);
      lent = c.loop-refusal.invariant.lent;
      sound = c.close-st.ensures.1;
      right = c.loop-refusal.invariant.right ∙ on_end _ _ _ e.0 ∙ ap (λ (s : St). judge_fold s (tags_at c.args.page.now (c.in-Some-End.i + 1))) (sym c.close-st.ensures.0);
    }

pub kind_under-kind-requires : goal.kind_under-kind-requires
kind_under-kind-requires c = c.loop-refusal.invariant.sound.known

pub returns-then-bars : goal.returns-then-bars
returns-then-bars c =
    let e = rw c.in-Some-Start.field-0-is at c.in-Some-Start.ensures in
    let t = on_tag _ _ _ _ _ _ e.0 c.kind_under-kind.ensures.0 in
    c.loop-refusal.invariant.right ∙ t ∙ rw (sym c.bars.ensures ∙ c.if-bars.true)

pub find-requires : goal.find-requires
find-requires c =
    let e = rw c.in-Some-Start.field-0-is at c.in-Some-Start.ensures in
    let k = c.kind_under-kind in
    (e.1.2, c.requires.0, k.ensures.1, c.keys-keys.ensures, omega (arith, part_within k.result k.ensures.1, c.loop-refusal.invariant.lent))

pub returns-in_default : goal.returns-in_default
returns-in_default c =
    let e = rw c.in-Some-Start.field-0-is at c.in-Some-Start.ensures in
    let t = on_tag _ _ _ _ _ _ e.0 c.kind_under-kind.ensures.0 in
    c.loop-refusal.invariant.right ∙ t ∙ rw (sym c.bars.ensures ∙ c.if-bars.false, c.in_default.ensures)

pub flaw_of-cause-requires : goal.flaw_of-cause-requires
flaw_of-cause-requires c =
    let k = c.kind_under-kind in (
      omega (arith, c.requires.0, c.requires.1, c.loop-refusal.auto.scratch),
      k.ensures.1,
      omega (arith, part_within k.result k.ensures.1, c.find.auto.raws, c.loop-refusal.invariant.lent),
      c.limits-limits.ensures,
    )

pub needs_w-needs-requires : goal.needs_w-needs-requires
needs_w-needs-requires c =
    let k = c.kind_under-kind in (
      c.requires.0,
      omega (arith, c.requires.0, c.requires.1, c.loop-refusal.auto.scratch, c.flaw_of-cause.auto.scratch),
      k.ensures.1,
      omega (arith, part_within k.result k.ensures.1, c.find.auto.raws, c.loop-refusal.invariant.lent),
    )

pub enter_for-st-requires : goal.enter_for-st-requires
enter_for-st-requires c = (c.kind_under-kind.ensures.1, c.loop-refusal.invariant.sound, sym c.bars.ensures ∙ c.if-bars.false)

pub loop-refusal-smaller : goal.loop-refusal-smaller
loop-refusal-smaller c = let e = rw c.in-Some-Start.field-0-is at c.in-Some-Start.ensures in omega (arith, e.1.0, e.1.1, e.1.2)

pub loop-refusal-preserved : goal.loop-refusal-preserved
loop-refusal-preserved c =
    let e = rw c.in-Some-Start.field-0-is at c.in-Some-Start.ensures in
    let t = on_tag _ _ _ _ _ _ e.0 c.kind_under-kind.ensures.0 in
    let l = (inside_at c.args.page.now c.in-Some-Start.name_end).attrs in
    let s = opened (st_of c.loop-refusal.st) (kind_at c.kind_under-kind.result) c.in-Some-Start.i l in
    let (strange_not, shut, tells) = c.in-Some-find.ensures in
    record {
      inner = omega (arith, e.1.1, e.1.2);
      lent = c.find.auto.raws ∙ c.loop-refusal.invariant.lent;
      sound = c.enter_for-st.ensures.1;
      right = c.loop-refusal.invariant.right ∙ t
          ∙ rw (sym c.bars.ensures ∙ c.if-bars.false, strange_not)
          (ap (λ (x : St). judge_fold x (tags_at c.args.page.now (c.in-Some-Start.i + 1)))
          (ap (λ (b : Bool). left b s) (sym shut) ∙ sym (c.enter_for-st.ensures.0 l (c.flaw_of-cause.ensures l tells) (c.needs_w-needs.ensures l tells))));
    }
