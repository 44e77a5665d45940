use Rattle.std.proofs.Common.{rules}
use Rattle.reader.proofs.PageLaws.{count_numbers}
use Rattle.reader.proofs.pages.missing_count.Goals as goal

-- as many ones as numbers
pub returns : goal.returns
returns c = count_numbers _ (search rules)
