-- Unique: what `read` and the numbers of its refusal promise leaves no second result: plan or refusal and both rooms are determined by the call and by the rooms as lent.
-- Assumes nothing.
use mathlib.Core.Path.{◌≡◌, ap, sym, ◌∙◌}
use mathlib.Core.List.{List}
use Prim.Native.Nat.{ℕ}
use Rattle.std.specs.Prelude.{Result, Ok, Err}
use Rattle.paper.specs.Reading as Paper
use Rattle.paper.specs.Reading.{Numbers, numbers}
use Rattle.paper.specs.Plan as Said
use Rattle.paper.specs.Layout.{text_of}
use Rattle.room.specs.Laid.{laid}
use Rattle.plan.specs.Numbers.{plan_numbers, plan_rows}
use Rattle.plan.specs.declared.Plan.{Plan}
use Rattle.reader.specs.Answers.{numbers_of, told}
use Rattle.reader.specs.Promise.{Promised}
use Rattle.reader.specs.declared.answer.Refusal.{Refusal}
use Rattle.reader.proofs.AnswerLaws.{told_once}

-- two results with their final rooms are the same
pub record Same (r₁ r₂ : Result Plan Refusal) (rows₁ rows₂ text₁ text₂ : List ℕ) : Type 0 where
  pub result : r₁ ≡ r₂
  pub rows : rows₁ ≡ rows₂
  pub text : text₁ ≡ text₂

-- `read`: no second result and no second final state meets the promise
pub once : (A : Paper.Answer) (rows text : List ℕ) (r₁ r₂ : Result Plan Refusal) (rows₁ rows₂ text₁ text₂ : List ℕ)
    → Promised A rows text r₁ rows₁ text₁ → Promised A rows text r₂ rows₂ text₂ → Same r₁ r₂ rows₁ rows₂ text₁ text₂
once A rows text (Err x) (Err y) rows₁ rows₂ text₁ text₂ p q =
    record {
      result = ap Err (told_once A x y (sym (ap told p.answer_is)) (sym (ap told q.answer_is)));
      rows = p.rows_are ∙ sym q.rows_are;
      text = p.text_is ∙ sym q.text_is;
    }
once A rows text (Ok a) (Ok b) rows₁ rows₂ text₁ text₂ p q =
    let same : p.plan ≡ q.plan = cc in
    record {
      result = ap Ok (p.plan_is ∙ (ap plan_numbers same ∙ sym q.plan_is));
      rows = p.rows_are ∙ (ap (λ (s : Said.Plan). laid rows 0 (plan_rows s)) same ∙ sym q.rows_are);
      text = p.text_is ∙ (ap (λ (s : Said.Plan). laid text 0 (text_of s)) same ∙ sym q.text_is);
    }
once A rows text (Ok a) (Err y) rows₁ rows₂ text₁ text₂ p q = cc (p.answer_is, q.answer_is)
once A rows text (Err x) (Ok b) rows₁ rows₂ text₁ text₂ p q = cc (p.answer_is, q.answer_is)

-- `Refusal::number`
pub number_once : (x : Refusal) (r₁ r₂ : ℕ) → r₁ ≡ (numbers_of x).number → r₂ ≡ (numbers_of x).number → r₁ ≡ r₂
number_once x r₁ r₂ p q = p ∙ sym q

-- `Refusal::page`
pub page_once : (x : Refusal) (r₁ r₂ : ℕ) → r₁ ≡ (numbers_of x).page → r₂ ≡ (numbers_of x).page → r₁ ≡ r₂
page_once x r₁ r₂ p q = p ∙ sym q

-- `Refusal::place`
pub place_once : (x : Refusal) (r₁ r₂ : ℕ) → r₁ ≡ (numbers_of x).place → r₂ ≡ (numbers_of x).place → r₁ ≡ r₂
place_once x r₁ r₂ p q = p ∙ sym q
