-- Unique: what building an index, asking it and reading with it promise leaves no second answer and no second final state of a lent room: the call and the rooms as lent determine both.
-- Assumes nothing.
use Rattle.std.specs.Prelude.{Option, Result, Ok, Err}
use mathlib.Core.Path.{◌≡◌, sym, ap, ◌∙◌}
use mathlib.Core.List.{List}
use Prim.Native.Nat.{ℕ}
use Rattle.index.specs.Answers.{refusal_number, number_of, built_of, index_after, replied, replied_into, reply_told, nth_told, list_after}
use Rattle.paper.specs.Reading.{Answer}
use Rattle.plan.specs.declared.Plan.{Plan}
use Rattle.reader.specs.declared.answer.Refusal as Read
use Rattle.reader.proofs.Unique as Reader
use Rattle.reader.specs.Promise as Reads
use Rattle.index.specs.Promise.{Promised}
use Rattle.index.specs.declared.reading.Indexed.{Indexed}
use Rattle.index.specs.declared.reading.Indexed.{Indexed}
use Rattle.index.specs.declared.answer.Refusal.{Refusal}
use Rattle.index.specs.declared.answer.Held.{Held}
use Rattle.index.specs.declared.answer.Nth.{Nth}

-- `build`: the answer, and the room
pub build_once : (rows : List ℕ) (count : ℕ) (index : List ℕ) (r₁ r₂ : Result ℕ Refusal) (index₁ index₂ : List ℕ)
    → (r₁ ≡ built_of rows count index) × (index₁ ≡ index_after rows count index) → (r₂ ≡ built_of rows count index) × (index₂ ≡ index_after rows count index) → (r₁ ≡ r₂) × (index₁ ≡ index₂)
build_once rows count index r₁ r₂ index₁ index₂ p q = (p.0 ∙ sym q.0, p.1 ∙ sym q.1)

module _ (rows : List ℕ) (count : ℕ) (index : List ℕ) (length number : ℕ) where
  -- `first`
  pub first_once : (r₁ r₂ : Result (Option Held) Refusal) → r₁ ≡ reply_told (replied rows count index length number) → r₂ ≡ reply_told (replied rows count index length number) → r₁ ≡ r₂
  first_once r₁ r₂ p q = p ∙ sym q

  -- `nth`
  pub nth_once : (k : ℕ) (r₁ r₂ : Result Nth Refusal) → r₁ ≡ nth_told k (replied rows count index length number) → r₂ ≡ nth_told k (replied rows count index length number) → r₁ ≡ r₂
  nth_once k r₁ r₂ p q = p ∙ sym q

  -- `all`: the answer, and the list
  pub all_once : (list : List ℕ) (r₁ r₂ : Result (Option Held) Refusal) (list₁ list₂ : List ℕ)
      → (r₁ ≡ reply_told (replied_into list rows count index length number)) × (list₁ ≡ list_after (replied_into list rows count index length number) list)
      → (r₂ ≡ reply_told (replied_into list rows count index length number)) × (list₂ ≡ list_after (replied_into list rows count index length number) list) → (r₁ ≡ r₂) × (list₁ ≡ list₂)
  all_once list r₁ r₂ list₁ list₂ p q = (p.0 ∙ sym q.0, p.1 ∙ sym q.1)

-- `Refusal::number`
pub refusal_number_once : (e : Refusal) (r₁ r₂ : ℕ) → r₁ ≡ refusal_number e → r₂ ≡ refusal_number e → r₁ ≡ r₂
refusal_number_once e r₁ r₂ p q = p ∙ sym q

-- the number of what `build`, `first` and `all`, and `nth` answer: that of the refusal, or 0
pub built_number_once : (a : Result ℕ Refusal) (r₁ r₂ : ℕ) → r₁ ≡ number_of a → r₂ ≡ number_of a → r₁ ≡ r₂
built_number_once a r₁ r₂ p q = p ∙ sym q

pub reply_number_once : (a : Result (Option Held) Refusal) (r₁ r₂ : ℕ) → r₁ ≡ number_of a → r₂ ≡ number_of a → r₁ ≡ r₂
reply_number_once a r₁ r₂ p q = p ∙ sym q

pub nth_number_once : (a : Result Nth Refusal) (r₁ r₂ : ℕ) → r₁ ≡ number_of a → r₂ ≡ number_of a → r₁ ≡ r₂
nth_number_once a r₁ r₂ p q = p ∙ sym q

-- ---- reading with the index

-- two results with their final rooms are the same
pub record Same (x₁ x₂ : Result Indexed Read.Refusal) (rows₁ rows₂ text₁ text₂ index₁ index₂ : List ℕ) : Type 0 where
  pub result : x₁ ≡ x₂
  pub rows : rows₁ ≡ rows₂
  pub text : text₁ ≡ text₂
  pub index : index₁ ≡ index₂

-- the reading of such a result
abbrev reading_of : Result Indexed Read.Refusal → Result Plan Read.Refusal
reading_of (Ok x) = Ok x.plan
reading_of (Err e) = Err e

-- it promises what reading does
as_read : (A : Answer) (rows text index : List ℕ) (x : Result Indexed Read.Refusal) (rows' text' index' : List ℕ)
    → Promised A rows text index x rows' text' index' → Reads.Promised A rows text (reading_of x) rows' text'
as_read A rows text index (Ok x) rows' text' index' p = p.reading_is
as_read A rows text index (Err e) rows' text' index' p = p.refused_is

-- the same reading and the same number of pairs are the same result
same_result : (A : Answer) (rows text index : List ℕ) (x₁ x₂ : Result Indexed Read.Refusal) (rows₁ rows₂ text₁ text₂ index₁ index₂ : List ℕ)
    → Promised A rows text index x₁ rows₁ text₁ index₁ → Promised A rows text index x₂ rows₂ text₂ index₂ → reading_of x₁ ≡ reading_of x₂ → (x₁ ≡ x₂) × (index₁ ≡ index₂)
same_result A rows text index (Ok x) (Ok y) rows₁ rows₂ text₁ text₂ index₁ index₂ p q e =
    let f : x.plan ≡ y.plan = cc in
    let g : x.pairs ≡ y.pairs = p.pairs_are ∙ sym q.pairs_are in
    (ap (λ (z : Plan). Ok (made z x.pairs)) f ∙ ap (λ (n : ℕ). Ok (made y.plan n)) g, p.index_is ∙ sym q.index_is)
  where
    made : Plan → ℕ → Indexed
    made r n = record { plan = r; pairs = n }
same_result A rows text index (Err x) (Err y) rows₁ rows₂ text₁ text₂ index₁ index₂ p q e =
    let f : x ≡ y = cc in
    (ap Err f, p.index_is ∙ sym q.index_is)
same_result A rows text index (Ok x) (Err y) rows₁ rows₂ text₁ text₂ index₁ index₂ p q e = cc
same_result A rows text index (Err x) (Ok y) rows₁ rows₂ text₁ text₂ index₁ index₂ p q e = cc

-- `read` and `read_collected`: no second result and no second final state meets the promise
pub read_once : (A : Answer) (rows text index : List ℕ) (x₁ x₂ : Result Indexed Read.Refusal) (rows₁ rows₂ text₁ text₂ index₁ index₂ : List ℕ)
    → Promised A rows text index x₁ rows₁ text₁ index₁ → Promised A rows text index x₂ rows₂ text₂ index₂ → Same x₁ x₂ rows₁ rows₂ text₁ text₂ index₁ index₂
read_once A rows text index x₁ x₂ rows₁ rows₂ text₁ text₂ index₁ index₂ p q =
    let same = Reader.once A rows text (reading_of x₁) (reading_of x₂) rows₁ rows₂ text₁ text₂ (as_read A rows text index x₁ rows₁ text₁ index₁ p) (as_read A rows text index x₂ rows₂ text₂ index₂ q) in
    let (r, i) = same_result A rows text index x₁ x₂ rows₁ rows₂ text₁ text₂ index₁ index₂ p q same.result in
    record { result = r; rows = same.rows; text = same.text; index = i }
