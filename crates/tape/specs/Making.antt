-- Making: how the exact maker lays a page, value by value and element by element. What a whole page gives is `Makes` of specs/Tape.
-- Assumes nothing.
use Rattle.std.specs.Prelude.{◌≡◌, List, ℕ, ◌+◌, length}
use Rattle.paper.specs.Lists.{concat}
use Rattle.paper.specs.Values.{value}
use Rattle.paper.specs.Rules.{settle}
use Rattle.paper.specs.Plan.{Slots}
use Rattle.paper.specs.Judging.{sheet, judge}
use Rattle.fields.specs.Places.{field_at}
use Rattle.tape.specs.Tape.{Elem, elems_of, sheet_by, values_at, Spans, ElemAt, Kept}

-- a page that is judged to a sheet: by the law `is_sheet_lem` of proofs/PageLaws every such page is judged to what its elements say
abbrev pub IsSheet : List ℕ → Type 0
IsSheet w = judge w ≡ sheet (sheet_by (elems_of w))

-- the value that counts of the field at that place of the table, from its raw bytes
unfoldable pub settled : ℕ → List ℕ → List ℕ
settled id r = settle (field_at id) (value r)

-- values laid: their places on the tape from i on, their bytes in the side room from m up to m'; all that stood before stands there still
pub record LaysSlots (w : List ℕ) (vs : Slots) (t t' : List ℕ) (i : ℕ) (side side' : List ℕ) (m m' : ℕ) : Type 0 where
  pub lie : Spans w m' (length vs) t' i
  pub slots_are : values_at w side' (length vs) t' i ≡ vs
  pub kept : Kept t t' i side side' m
  pub used_is : m' ≡ m + length (concat vs)

-- an element laid: on the tape from i up to j, the bytes of its values in the side room from m up to m'; all that stood before stands there still
pub record LaysElem (w : List ℕ) (e : Elem) (t t' : List ℕ) (i j : ℕ) (side side' : List ℕ) (m m' : ℕ) : Type 0 where
  pub element : ElemAt w side' m' t' i j e
  pub kept : Kept t t' i side side' m
  pub used_is : m' ≡ m + length (concat e.slots)
