use Rattle.std.proofs.Common.{rules}
use Rattle.reader.proofs.PageLaws.{first_number, no_number}
use Rattle.reader.proofs.pages.lowest_missing.Goals as goal

pub returns-then-mask-eq0 : goal.returns-then-mask-eq0
returns-then-mask-eq0 c = no_number _ c.if-mask-eq0.true

pub returns : goal.returns
returns c = first_number c.args.mask (search rules) c.if-mask-eq0.false
