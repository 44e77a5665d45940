use Rattle.std.proofs.Common.{◌≡◌, ◌+◌, ◌*◌, ◌≤◌, ◌∙◌, ℕ, List, not, length, arith, sym, ap, subst}
use borrow.Author.Tests.{ne_eqb}
use Rattle.paper.specs.Fields.{fields_of}
use Rattle.fields.specs.Places.{kind_at, count_of}
use Rattle.tape.specs.Tape.{Spans}
use Rattle.page.specs.Laying.{gives_row}
use Rattle.page.proofs.ContentLaws.{no_row}
use Rattle.page.proofs.WalkLaws.{heading_c, heading_t}
use Rattle.page.proofs.content.gives_row.Goals as goal
use Rattle.page.proofs.content.gives_row.Goals.{then-kind-eq-M-via-then-kind-eq-M, then-kind-eq-M-via-else-kind-eq-M+then-kind-eq-R, then-kind-eq-M-via-else-kind-eq-M+else-kind-eq-R+then-kind-eq-X}

-- a heading has two values
heading_within : (k base : ℕ) (t : List ℕ) → k ≡ 5 → base + 2 * count_of (kind_at k) ≤ length t → base + 4 ≤ length t
unfolding kind_at count_of fields_of
heading_within k base t e h = subst (λ (k : ℕ). base + 2 * count_of (kind_at k) ≤ length t) e h

heading_lie : (w : List ℕ) (m k base : ℕ) (t : List ℕ) → k ≡ 5 → Spans w m (count_of (kind_at k)) t base → Spans w m 2 t base
unfolding kind_at count_of fields_of
heading_lie w m k base t e h = subst (λ (k : ℕ). Spans w m (count_of (kind_at k)) t base) e h

pub returns-then-kind-eq-M : goal.returns-then-kind-eq-M
unfolding gives_row kind_at
returns-then-kind-eq-M c =
    elim c.then-kind-eq-M.branch [ then-kind-eq-M-via-then-kind-eq-M w ↦ rw w.if-kind-eq-M.true | then-kind-eq-M-via-else-kind-eq-M+then-kind-eq-R w ↦ rw w.if-kind-eq-R.true | then-kind-eq-M-via-else-kind-eq-M+else-kind-eq-R+then-kind-eq-X w ↦ rw w.if-kind-eq-X.true ]

pub returns-then-kind-ne-S : goal.returns-then-kind-ne-S
returns-then-kind-ne-S c = sym (no_row c.args.kind _ c.requires.0 c.if-kind-eq-M.false c.if-kind-eq-R.false c.if-kind-eq-X.false c.if-kind-ne-S.true)

pub bounds-tape-base : goal.bounds-tape-base
bounds-tape-base c = omega (arith, heading_within _ _ _ c.if-kind-ne-S.false c.requires.1)

pub bounds-tape-base-2 : goal.bounds-tape-base-2
bounds-tape-base-2 c = omega (arith, heading_within _ _ _ c.if-kind-ne-S.false c.requires.1)

pub value_of-c-requires : goal.value_of-c-requires
value_of-c-requires c = (heading_lie _ _ _ _ _ c.if-kind-ne-S.false c.requires.2).0

pub bounds-tape-s : goal.bounds-tape-s
bounds-tape-s c = omega (arith, heading_within _ _ _ c.if-kind-ne-S.false c.requires.1)

pub bounds-tape-s-2 : goal.bounds-tape-s-2
bounds-tape-s-2 c = omega (arith, heading_within _ _ _ c.if-kind-ne-S.false c.requires.1)

pub value_of-t-requires : goal.value_of-t-requires
value_of-t-requires c = (heading_lie _ _ _ _ _ c.if-kind-ne-S.false c.requires.2).1.0

pub returns-then-c-ne0 : goal.returns-then-c-ne0
unfolding kind_at count_of fields_of
returns-then-c-ne0 c = ap not (ne_eqb _ 0 c.if-c-ne0.true) ∙ rw c.if-kind-ne-S.false (sym (heading_c _ _ _ c.value_of-c.ensures c.if-c-ne0.true))

pub returns-else-c-ne0 : goal.returns-else-c-ne0
unfolding kind_at count_of fields_of
returns-else-c-ne0 c = rw c.if-kind-ne-S.false (sym (heading_t _ _ _ _ c.value_of-c.ensures c.if-c-ne0.false c.value_of-t.ensures))
