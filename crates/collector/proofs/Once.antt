-- Once: what each function of a collector promises leaves no second answer, no second collector and no second final state of the rooms.
-- Assumes nothing.
use Rattle.std.specs.Prelude.{Option, Err}
use mathlib.Core.Path.{◌≡◌, ap, sym, ◌∙◌}
use mathlib.Core.List.{List}
use Prim.Native.Nat.{ℕ}
use lib.ListN.{length}
use Rattle.paper.specs.Collecting as Paper
use Rattle.paper.specs.Collecting.{mask_of}
use Rattle.reader.specs.Pages.{first_in}
use Rattle.reader.specs.Promise as Reads
use Rattle.std.specs.Prelude.{Result}
use Rattle.plan.specs.declared.Plan.{Plan}
use Rattle.reader.specs.declared.answer.Refusal.{Refusal}
use Rattle.reader.proofs.AnswerLaws.{numbers_once}
use Rattle.reader.proofs.Unique as Unique
use Rattle.reader.proofs.Unique.{Same}
use Rattle.collector.specs.Answers.{Answer, numbers_of, Tells}
use Rattle.collector.specs.Keeping.{empty_collector, Answered, added_to, added_call, missing, collected}
use Rattle.collector.specs.Promise.{Promised}
use Rattle.collector.specs.declared.store.Collector.{Collector}
use Rattle.collector.specs.declared.adding.Adding.{Adding}

-- at most one answer tells what document 01 answers
pub told_once : (p : Paper.Added) (a b : Answer) → Tells p a → Tells p b → a ≡ b
told_once Paper.added a b e f = e ∙ sym f
told_once Paper.already_here a b e f = e ∙ sym f
told_once (Paper.refused_with n i) a b (x, e, p) (y, f, q) = e ∙ (ap (λ (r : Refusal). Err r) (numbers_once x y (sym (ap numbers_of e) ∙ (p ∙ (sym q ∙ ap numbers_of f)))) ∙ sym f)

-- so one answer and one collector are left
once : (x : Answered) (a b : Answer) (c d : Collector) → Promised x a c → Promised x b d → (a ≡ b) × (c ≡ d)
once x a b c d p q = (told_once x.answer a b p.answer_is q.answer_is, p.collector_is ∙ sym q.collector_is)

-- a result of an answer and a collector
abbrev made : Answer → Collector → Adding
made a c = record { answer = a; collector = c }

result_once : (x : Answered) (r₁ r₂ : Adding) → Promised x r₁.answer r₁.collector → Promised x r₂.answer r₂.collector → r₁ ≡ r₂
result_once x r₁ r₂ p q = let (a, c) = once x r₁.answer r₂.answer r₁.collector r₂.collector p q in ap (λ (y : Answer). made y r₁.collector) a ∙ ap (made r₂.answer) c

-- `add`
pub add_once : (c : Collector) (b : List ℕ) (start len : ℕ) (r₁ r₂ : Adding)
    → Promised (added_call c b start len) r₁.answer r₁.collector → Promised (added_call c b start len) r₂.answer r₂.collector → r₁ ≡ r₂
add_once c b start len r₁ r₂ p q = result_once (added_call c b start len) r₁ r₂ p q

-- `add_bytes`
pub add_bytes_once : (c : Collector) (w : List ℕ) (r₁ r₂ : Adding) → Promised (added_to c w) r₁.answer r₁.collector → Promised (added_to c w) r₂.answer r₂.collector → r₁ ≡ r₂
add_bytes_once c w r₁ r₂ p q = result_once (added_to c w) r₁ r₂ p q

-- `add_page`: the answer, and the collector that was lent
pub add_page_once : (c : Collector) (b : List ℕ) (start len : ℕ) (a₁ a₂ : Answer) (c₁ c₂ : Collector)
    → Promised (added_call c b start len) a₁ c₁ → Promised (added_call c b start len) a₂ c₂ → (a₁ ≡ a₂) × (c₁ ≡ c₂)
add_page_once c b start len a₁ a₂ c₁ c₂ p q = once (added_call c b start len) a₁ a₂ c₁ c₂ p q

-- `Collector::empty` and `clear`
pub empty_once : (c₁ c₂ : Collector) → c₁ ≡ empty_collector → c₂ ≡ empty_collector → c₁ ≡ c₂
empty_once c₁ c₂ p q = p ∙ sym q

-- `missing_numbers`
pub missing_numbers_once : (c : Collector) (r₁ r₂ : ℕ) → r₁ ≡ mask_of (missing c) → r₂ ≡ mask_of (missing c) → r₁ ≡ r₂
missing_numbers_once c r₁ r₂ p q = p ∙ sym q

-- `missing_count`
pub missing_count_once : (c : Collector) (r₁ r₂ : ℕ) → r₁ ≡ length (missing c) → r₂ ≡ length (missing c) → r₁ ≡ r₂
missing_count_once c r₁ r₂ p q = p ∙ sym q

-- `lowest_missing`
pub lowest_missing_once : (c : Collector) (r₁ r₂ : Option ℕ) → r₁ ≡ first_in (missing c) → r₂ ≡ first_in (missing c) → r₁ ≡ r₂
lowest_missing_once c r₁ r₂ p q = p ∙ sym q

-- `read`
pub read_once : (c : Collector) (rows text : List ℕ) (r₁ r₂ : Result Plan Refusal) (rows₁ rows₂ text₁ text₂ : List ℕ)
    → Reads.Promised (collected rows text c) rows text r₁ rows₁ text₁ → Reads.Promised (collected rows text c) rows text r₂ rows₂ text₂ → Same r₁ r₂ rows₁ rows₂ text₁ text₂
read_once c rows text r₁ r₂ rows₁ rows₂ text₁ text₂ p q = Unique.once (collected rows text c) rows text r₁ r₂ rows₁ rows₂ text₁ text₂ p q
