-- Unique: what `write` and the numbers of a refusal promise leaves no second result: pages, lengths, refusal and the room are determined by the call and by the room as
-- lent.
-- Assumes nothing.
use mathlib.Core.Path.{◌≡◌, sym, ◌∙◌}
use mathlib.Core.List.{List}
use Prim.Native.Nat.{ℕ}
use Rattle.std.specs.Prelude.{Result}
use Rattle.paper.specs.Writing.{Written}
use Rattle.writer.specs.Answers.{numbers_of}
use Rattle.writer.specs.Promise.{Promised}
use Rattle.writer.specs.declared.answer.Refusal.{Refusal}
use Rattle.writer.specs.declared.writing.Pages.{Pages}

-- two results with their final rooms are the same
pub record Same (r₁ r₂ : Result Pages Refusal) (out₁ out₂ : List ℕ) : Type 0 where
  pub result : r₁ ≡ r₂
  pub room : out₁ ≡ out₂

-- `write`: no second result and no second final room meets the promise
pub once : (A : Written) (out : List ℕ) (r₁ r₂ : Result Pages Refusal) (out₁ out₂ : List ℕ) → Promised A out r₁ out₁ → Promised A out r₂ out₂ → Same r₁ r₂ out₁ out₂
once A out r₁ r₂ out₁ out₂ p q = record { result = p.result_is ∙ sym q.result_is; room = p.room_is ∙ sym q.room_is }

-- `Refusal::number`
pub number_once : (a : Refusal) (r₁ r₂ : ℕ) → r₁ ≡ (numbers_of a).number → r₂ ≡ (numbers_of a).number → r₁ ≡ r₂
number_once a r₁ r₂ p q = p ∙ sym q

-- `Refusal::place`
pub place_once : (a : Refusal) (r₁ r₂ : ℕ) → r₁ ≡ (numbers_of a).place → r₂ ≡ (numbers_of a).place → r₁ ≡ r₂
place_once a r₁ r₂ p q = p ∙ sym q
