-- By the letter.
use mathlib.Core.Path.{sym, subst}
use Prim.Native.Nat.{◌+◌}
use Rattle.fields.specs.Places.{kind_at}
use Rattle.quick.specs.Taken.{NamedAt}
use Rattle.quick.proofs.LetterLaws.{letter_named}
use Rattle.quick.proofs.take.take_name.Goals as goal

pub returns-in-Some : goal.returns-in-Some
returns-in-Some c =
    let a = c.args in
    subst (λ q. NamedAt a.page.now (kind_at a.kind) a.a c.in-Some.field (a.a + 3) q) (sym c.byte_or.ensures) (letter_named c.in-Some.ensures)
