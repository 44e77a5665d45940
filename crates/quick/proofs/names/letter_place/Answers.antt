-- `=` and a quote stand behind the letter, and the table tells its place.
use mathlib.Core.Path.{sym, ◌∙◌}
use Rattle.quick.proofs.LetterLaws.{letter_found}
use Rattle.quick.proofs.names.letter_place.Goals as goal

pub returns-then-j-lt-NO_PLACE : goal.returns-then-j-lt-NO_PLACE
returns-then-j-lt-NO_PLACE c =
    let q = c.is_quote.ensures c.if-is_quote.true in
    letter_found c.args.page.now c.args.kind c.args.a c.byte_or-b.result c.args.letters.now c.requires.2 c.requires.3 c.byte_or-b.ensures (sym c.byte_or.ensures ∙ c.if-byte_or-eq61.true)
    (rw c.byte_or-then-byte_or-eq61.ensures at q) c.if-b-lt128.true c.if-j-lt-NO_PLACE.true
