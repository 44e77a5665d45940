-- Promise: what adding a page promises for any collector. `Promised` is the interface: it holds the answer and the collector afterwards against what document 01
-- says of the page.
-- Assumes nothing.
use Rattle.std.specs.Prelude.{◌≡◌}
use Rattle.collector.specs.Answers.{Answer, Tells}
use Rattle.collector.specs.Keeping.{Answered}
use Rattle.collector.specs.declared.store.Collector.{Collector}

-- where document 01 answers so: the answer is the same case, a refusal with its number, page and place; and the collector is as said, so as it was where the page
-- is not added
pub record Promised (x : Answered) (a : Answer) (after : Collector) : Type 0 where
  pub answer_is : Tells x.answer a
  pub collector_is : after ≡ x.after
