-- Any other letter is no name of an element.
use Rattle.std.proofs.Common.{arith}
use borrow.Author.Tests.{ne_eqb}
use Rattle.sheet.specs.Content.{kind_named}
use Rattle.tape.proofs.names.kind_lettered.Goals as goal

pub returns-in_default : goal.returns-in_default
unfolding kind_named
returns-in_default c = (
  rw (
    ne_eqb c.args.b 77 (λ e. omega arith),
    ne_eqb c.args.b 80 (λ e. omega arith),
    ne_eqb c.args.b 65 (λ e. omega arith),
    ne_eqb c.args.b 79 (λ e. omega arith),
    ne_eqb c.args.b 83 (λ e. omega arith),
    ne_eqb c.args.b 87 (λ e. omega arith),
    ne_eqb c.args.b 82 (λ e. omega arith),
    ne_eqb c.args.b 88 (λ e. omega arith),
  ),
  omega arith,
)
