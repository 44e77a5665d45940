-- It is one of the two quotes.
use mathlib.Core.Path.{◌≡◌}
use Prim.Native.Nat.{ℕ}
use borrow.Author.Tests.{eqb-true}
use Rattle.paper.specs.Grammar.{Quote, double, single}
use Rattle.quick.proofs.attrs.is_quote.Goals as goal

at-double : (b : ℕ) → b ≡ 34 → Quote b
at-double b e = rw e double

at-single : (b : ℕ) → b ≡ 39 → Quote b
at-single b e = rw e single

pub returns-then-b-eq34 : goal.returns-then-b-eq34
returns-then-b-eq34 c = λ e. at-double _ c.if-b-eq34.true

pub returns-else-b-eq34 : goal.returns-else-b-eq34
returns-else-b-eq34 c = λ e. at-single _ (eqb-true _ 39 e)
