-- `page::values::value_of` meets its contract: the value lies in the page or in the side room.
-- Assumes nothing.
use native.Mathlib.Omega.{arith}
use Rattle.page.proofs.SlotLaws.{shown_page, shown_side}
use Rattle.page.proofs.values.value_of.Statement.{statement}
use Rattle.page.proofs.values.value_of.Tie as tie

sub-result : tie.Need-slice_bounds-result-count
sub-result c = let p = c.before.requires.inner c.if-a-lt-ASIDE.true in omega (arith, p.0)

part-result-start : tie.Need-slice_bounds-result-start
part-result-start c = let p = c.before.requires.inner c.if-a-lt-ASIDE.true in omega (arith, p.0)

part-result-end : tie.Need-slice_bounds-result-end
part-result-end c = let p = c.before.requires.inner c.if-a-lt-ASIDE.true in omega (arith, p.1)

returns : tie.Need-returns-then-a-lt-ASIDE
returns c = shown_page _ _ _ _ c.before.if-a-lt-ASIDE.true

sub-result-2 : tie.Need-slice_bounds-result-count-2
sub-result-2 c = let p = c.before.requires.outer c.if-a-lt-ASIDE.false in omega (arith, p.0)

part-result-start-2 : tie.Need-slice_bounds-result-start-2
part-result-start-2 c = let p = c.before.requires.outer c.if-a-lt-ASIDE.false in omega (arith, p.0)

part-result-end-2 : tie.Need-slice_bounds-result-end-2
part-result-end-2 c = let p = c.before.requires.outer c.if-a-lt-ASIDE.false in omega (arith, p.1)

returns-2 : tie.Need-returns
returns-2 c = shown_side _ _ _ _ c.before.if-a-lt-ASIDE.false

pub value_of_spec : {M : Type 1} → statement M
value_of_spec =
    tie.close
    (tie.spec
    sub-result
    part-result-start
    part-result-end
    returns
    sub-result-2
    part-result-start-2
    part-result-end-2
    returns-2)
