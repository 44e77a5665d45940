use Rattle.std.proofs.Common.{◌<◌, ◌∙◌, List, ℕ, length, arith, ap, subst}
use Rattle.paper.specs.Calls.{pages_at}
use Rattle.paper.proofs.CallLaws.{pages_count}
use Rattle.markup.specs.Walk.{tags_at}
use Rattle.sheet.specs.Content.{content_of}
use Rattle.page.specs.Walking.{HeadAt}
use Rattle.reader.proofs.JoiningLaws.{page_fits, count_first}
use Rattle.reader.proofs.TakenLaws.{called, read_at}
use Rattle.reader.proofs.joining.heads.Goals as goal

pub find_head-h-requires : goal.find_head-h-requires
find_head-h-requires c = read_at c.requires.2 0 (omega arith) c.page_at-first.ensures

pub count_said-of-requires : goal.count_said-of-requires
count_said-of-requires c = (c.find_head-h.ensures.mp_at, (page_fits {i = 0} (called c.requires.2) (omega arith) c.page_at-first.ensures).fit)

pub first_other-other-requires : goal.first_other-other-requires
first_other-other-requires c =
    let a = c.args in
    (c.requires.0, c.requires.1, c.requires.2, subst (λ (w : List ℕ). HeadAt w a.side.now a.tape.now c.find_head-h.result) c.page_at-first.ensures c.find_head-h.ensures)

pub overflow_cast-result : goal.overflow_cast-result
overflow_cast-result c =
    let f = page_fits {i = 0} (called c.requires.2) (omega arith) c.page_at-first.ensures in
    omega (arith, c.count_said-of.ensures, f.of_small)

pub returns : goal.returns
returns c =
    let a = c.args in
    let h = pages_count a.buffer.now a.starts.now a.lens.now c.requires.2.lie in
    let count = c.count_said-of.ensures ∙ (ap (λ (w : List ℕ). (content_of (tags_at w 0)).of) c.page_at-first.ensures ∙ count_first (pages_at a.buffer.now a.starts.now a.lens.now) (omega (arith, h))) in
    (c.first_other-other.ensures, count, c.numbers-nos.ensures)
