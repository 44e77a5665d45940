-- Unique: the promises leave no second result: the numbers that are given, and room or list, are determined by the call and by what was lent.
-- Assumes nothing.
use mathlib.Core.Path.{◌≡◌, refl, ap, sym, ◌∙◌}
use mathlib.Core.List.{List}
use Prim.Native.Nat.{ℕ}
use native.Mathlib.Omega.{arith}
use Rattle.std.specs.Prelude.{Option, Some, None, Result}
use Rattle.paper.specs.Reading as Paper
use Rattle.paper.specs.Reading.{Numbers}
use Rattle.writer.specs.declared.writing.Pages.{Pages}
use Rattle.tollgilt.specs.Promise.{Promised, Handed}
use Rattle.tollgilt.specs.Fresh as Fresh
use Rattle.tollgilt.specs.Find as Find
use Rattle.tollgilt.specs.Cells as Cells
use Rattle.tollgilt.specs.Printed as Printing
use Rattle.tollgilt.specs.Printed.{numbers_of, length_of, Prints}
use Rattle.tollgilt.specs.declared.cells.CellShown.{CellShown}
use Rattle.tollgilt.specs.declared.refused.Refused.{Refused}

-- `list_pages`: no second result and no second room meets the promise
pub once : (a : Paper.Answer) (out : List ℕ) (r₁ r₂ : Result ℕ Refused) (out₁ out₂ : List ℕ) → Promised a out r₁ out₁ → Promised a out r₂ out₂ → (r₁ ≡ r₂) × (out₁ ≡ out₂)
once a out r₁ r₂ out₁ out₂ p q = (p.result_is ∙ sym q.result_is, p.room_is ∙ sym q.room_is)

-- `tollgilt_list`
pub handed_once : (a : Paper.Answer) (out : List ℕ) (r₁ r₂ : ℕ) (out₁ out₂ told₁ told₂ : List ℕ) → Handed a out r₁ out₁ told₁ → Handed a out r₂ out₂ told₂
    → (r₁ ≡ r₂) × (out₁ ≡ out₂) × (told₁ ≡ told₂)
handed_once a out r₁ r₂ out₁ out₂ told₁ told₂ p q = (p.number_is ∙ sym q.number_is, p.room_is ∙ sym q.room_is, p.told_is ∙ sym q.told_is)

-- `fresh_pages`
pub fresh_once : (a : Fresh.Answer) (out : List ℕ) (r₁ r₂ : Result Pages Refused) (out₁ out₂ : List ℕ) → Fresh.Promised a out r₁ out₁ → Fresh.Promised a out r₂ out₂ → (r₁ ≡ r₂) × (out₁ ≡ out₂)
fresh_once a out r₁ r₂ out₁ out₂ p q = (p.result_is ∙ sym q.result_is, p.room_is ∙ sym q.room_is)

-- `tollgilt_fresh`
pub fresh_handed_once : (a : Fresh.Answer) (out : List ℕ) (r₁ r₂ : ℕ) (out₁ out₂ told₁ told₂ : List ℕ) → Fresh.Handed a out r₁ out₁ told₁ → Fresh.Handed a out r₂ out₂ told₂
    → (r₁ ≡ r₂) × (out₁ ≡ out₂) × (told₁ ≡ told₂)
fresh_handed_once a out r₁ r₂ out₁ out₂ told₁ told₂ p q = (p.number_is ∙ sym q.number_is, p.room_is ∙ sym q.room_is, p.told_is ∙ sym q.told_is)

-- `find_pages`
pub find_once : (a : Paper.Answer) (n : ℕ) (list : List ℕ) (r₁ r₂ : Result ℕ Refused) (list₁ list₂ : List ℕ) → Find.Promised a n list r₁ list₁ → Find.Promised a n list r₂ list₂ → (r₁ ≡ r₂) × (list₁ ≡ list₂)
find_once a n list r₁ r₂ list₁ list₂ p q = (p.result_is ∙ sym q.result_is, p.list_is ∙ sym q.list_is)

-- `tollgilt_find`
pub find_handed_once : (a : Paper.Answer) (n : ℕ) (list : List ℕ) (r₁ r₂ : ℕ) (list₁ list₂ told₁ told₂ : List ℕ) → Find.Handed a n list r₁ list₁ told₁ → Find.Handed a n list r₂ list₂ told₂
    → (r₁ ≡ r₂) × (list₁ ≡ list₂) × (told₁ ≡ told₂)
find_handed_once a n list r₁ r₂ list₁ list₂ told₁ told₂ p q = (p.number_is ∙ sym q.number_is, p.list_is ∙ sym q.list_is, p.told_is ∙ sym q.told_is)

-- `cell_pages`
pub cell_once : (a : Cells.Answer) (out : List ℕ) (r₁ r₂ : Result CellShown Refused) (out₁ out₂ : List ℕ) → Cells.Promised a out r₁ out₁ → Cells.Promised a out r₂ out₂ → (r₁ ≡ r₂) × (out₁ ≡ out₂)
cell_once a out r₁ r₂ out₁ out₂ p q = (p.result_is ∙ sym q.result_is, p.room_is ∙ sym q.room_is)

-- `tollgilt_cell`
pub cell_handed_once : (a : Cells.Answer) (out : List ℕ) (r₁ r₂ : ℕ) (out₁ out₂ told₁ told₂ : List ℕ) → Cells.Handed a out r₁ out₁ told₁ → Cells.Handed a out r₂ out₂ told₂
    → (r₁ ≡ r₂) × (out₁ ≡ out₂) × (told₁ ≡ told₂)
cell_handed_once a out r₁ r₂ out₁ out₂ told₁ told₂ p q = (p.number_is ∙ sym q.number_is, p.room_is ∙ sym q.room_is, p.told_is ∙ sym q.told_is)

-- an answer is known by its number and its length
same_printed : (r₁ r₂ : Option ℕ) → numbers_of r₁ ≡ numbers_of r₂ → length_of r₁ ≡ length_of r₂ → r₁ ≡ r₂
same_printed (Some n) (Some m) e f = ap Some f
same_printed (Some n) None e f = let z : ◌≡◌ {A = ℕ} 0 1 = ap (λ (t : Numbers). t.number) e in absurd (omega arith)
same_printed None (Some m) e f = let z : ◌≡◌ {A = ℕ} 1 0 = ap (λ (t : Numbers). t.number) e in absurd (omega arith)
same_printed None None e f = refl

-- `list_input`, `fresh_input`, `find_input` and `cell_input`
pub printed_once : (a : Printing.Answer) (out : List ℕ) (r₁ r₂ : Option ℕ) (out₁ out₂ : List ℕ) → Prints a out r₁ out₁ → Prints a out r₂ out₂ → (r₁ ≡ r₂) × (out₁ ≡ out₂)
printed_once a out r₁ r₂ out₁ out₂ p q = (same_printed r₁ r₂ (p.answer_is ∙ sym q.answer_is) (p.length_is ∙ sym q.length_is), p.room_is ∙ sym q.room_is)
