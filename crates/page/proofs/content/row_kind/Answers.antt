use Rattle.std.proofs.Common.{arith, sym}
use Rattle.fields.specs.Places.{kind_at}
use Rattle.page.proofs.ContentLaws.{no_row_kind}
use Rattle.page.proofs.content.row_kind.Goals as goal

pub returns-in-5 : goal.returns-in-5
unfolding kind_at
returns-in-5 c = rw c.in-5.is

pub returns-in-6 : goal.returns-in-6
unfolding kind_at
returns-in-6 c = rw c.in-6.is

pub returns-in-8 : goal.returns-in-8
unfolding kind_at
returns-in-8 c = rw c.in-8.is

pub returns-in-9 : goal.returns-in-9
unfolding kind_at
returns-in-9 c = rw c.in-9.is

pub returns-in_default : goal.returns-in_default
returns-in_default c = sym (no_row_kind c.args.kind c.requires (λ e. omega arith) (λ e. omega arith) (λ e. omega arith) (λ e. omega arith))
