-- Each answer is the least fault where no lower one was found.
use Rattle.std.proofs.Common.{◌≡◌, sym, ap, arith, rules, Some}
use Rattle.paper.specs.Causes.{flaw_number}
use Rattle.paper.specs.declared.Cause.TheVariants.{Value}
use Rattle.paper.proofs.Small.{no}
use Rattle.sheet.proofs.FlawLaws.{unbroken, seven_value, low_cause, flaw_six, flaw_seven, flaw_pages, flaw_clash, flaw_rest}
use Rattle.sheet.proofs.flaws.flaw_of.Goals as goal

pub returns-then-edition_differs : goal.returns-then-edition_differs
returns-then-edition_differs c = λ l T. flaw_six T c.if-edition_differs.ensures

pub returns-then-eq : goal.returns-then-eq
returns-then-eq c =
    let q : c.fields_flaw-own.result ≡ Some Value = search rules in
    λ l T. rw q (flaw_seven T c.if-edition_differs.ensures _ c.fields_flaw-own.ensures (ap flaw_number q))

pub pages_flaw-requires : goal.pages_flaw-requires
pages_flaw-requires c =
    let own : c.fields_flaw-own.result ≡ Some Value → ⊥ = λ q. no (sym (rw q at c.if-eq.ensures)) in
    (omega (arith, c.requires.0, c.edition_differs.auto.scratch, c.fields_flaw-own.auto.scratch), c.requires.1, c.requires.2, unbroken _ _ _ c.fields_flaw-own.ensures (λ z. own (seven_value _ z)))

pub returns-in-Some : goal.returns-in-Some
returns-in-Some c =
    let own : c.fields_flaw-own.result ≡ Some Value → ⊥ = λ q. no (sym (rw q at c.if-eq.ensures)) in
    λ l T. flaw_pages T c.if-edition_differs.ensures _ c.fields_flaw-own.ensures (λ z. own (seven_value _ z)) _ c.in-Some.ensures (low_cause c.in-Some.cause)

pub returns-then-clashes : goal.returns-then-clashes
returns-then-clashes c =
    let own : c.fields_flaw-own.result ≡ Some Value → ⊥ = λ q. no (sym (rw q at c.if-eq.ensures)) in
    λ l T. flaw_clash T c.if-edition_differs.ensures _ c.fields_flaw-own.ensures (λ z. own (seven_value _ z)) _ c.in_default.ensures (omega arith) c.if-clashes.ensures

pub returns : goal.returns
returns c =
    let own : c.fields_flaw-own.result ≡ Some Value → ⊥ = λ q. no (sym (rw q at c.if-eq.ensures)) in
    λ l T. flaw_rest T c.if-edition_differs.ensures _ c.fields_flaw-own.ensures (λ z. own (seven_value _ z)) _ c.in_default.ensures (omega arith) c.if-clashes.ensures
