-- Cells: document 01, "Text for a printed cell", and document 02, ask 4: where a text that is too long is cut, and how much is left out.
-- Assumes nothing.
use Rattle.std.specs.Prelude.{Bool, true, false, ◌&&◌, List, [], ◌∷◌, ℕ, zero, suc, ◌+◌, ◌-◌, eqb, leb, length, take, get_or}
use Rattle.paper.specs.Lists.{bytes, if, is_empty}
use Rattle.paper.specs.Fields.{M, W, is, fields_of}
use Rattle.paper.specs.Plan.{Slots, Row, slot, Dose, scheme, free_text, unstated, dose_of}
use Rattle.paper.specs.Writing.{row_slots}

-- "which field, for substance and strength which of three": the number of a field, and the four times of day
pub data CellField : Type 0 where
  name form morning midday evening night free_dose : CellField
  substance strength : ℕ → CellField

-- a cell: its text, "a flag that '...' follows", "how many characters were left out", and "a mark that 0 is printed"; or refusal 1
pub data Cell : Type 0 where
  cell : List ℕ → Bool → ℕ → Bool → Cell
  no_cell : Cell

-- the value of an M's field
abbrev pub of_m : List ℕ → Row → List ℕ
of_m n r = slot n (fields_of M) (row_slots r)

-- the value of a field of the i-th W, counted from 1; absent if there is no such W
abbrev pub of_w : List ℕ → ℕ → List Slots → List ℕ
of_w n i [] = []
of_w n zero (w ∷ ws) = []
of_w n (suc zero) (w ∷ ws) = slot n (fields_of W) w
of_w n (suc (suc i)) (w ∷ ws) = of_w n (suc i) ws

-- "if that blank is one of the last ten of them and not the very first byte": the place, one of the first n − 3, is that of a blank before which a text may be cut
abbrev pub is_seam : ℕ → List ℕ → ℕ → Bool
is_seam n v p = eqb (get_or v p 0) 32 && (leb 1 p && leb (n - 3) (p + 10))

-- the last place before m that passes the test; where there is none, the other number
abbrev pub last_before : (ℕ → Bool) → ℕ → ℕ → ℕ
last_before test other zero = other
last_before test other (suc p) = if (test p) p (last_before test other p)

-- "cut before the last blank among the first n − 3 bytes, if …; otherwise as today": how many bytes are shown of a text that is too long
abbrev pub shown_of : ℕ → List ℕ → ℕ
shown_of n v = last_before (is_seam n v) (n - 3) (n - 3)

-- "Longer than the limit n: …, and a flag that '...' follows"; "Say with each cell how many characters were left out"
abbrev pub cut_to : ℕ → List ℕ → Cell
cut_to n v = if (leb (length v) n) (cell v false 0 false) (cell (take (shown_of n v) v) true (length v - shown_of n v) false)

-- "the plan's own text if there …, else the catalogue's"
abbrev pub own_or : List ℕ → List ℕ → List ℕ
own_or [] catalogue = catalogue
own_or (c ∷ v) catalogue = c ∷ v

-- "A dose cell never uses the catalogue; an absent time is empty, with a mark that 0 is printed if another time is there."
abbrev pub time_cell : (List ℕ → List ℕ → List ℕ → List ℕ → List ℕ) → Dose → Cell
time_cell which (scheme m d v h) = cell (which m d v h) false 0 (is_empty (which m d v h))
time_cell which (free_text t) = cell [] false 0 false
time_cell which unstated = cell [] false 0 false

-- the dose as free text
abbrev pub free_cell : Dose → Cell
free_cell (scheme m d v h) = cell [] false 0 false
free_cell (free_text t) = cell t false 0 false
free_cell unstated = cell [] false 0 false

-- which of three
abbrev pub of_three : ℕ → Bool
of_three i = leb 1 i && leb i 3

-- the cell of a medication row: "Limits: name 50, substance 80, strength 15, form 7. Dose cells are never cut."
abbrev pub cell_of : Row → CellField → List ℕ → Cell
cell_of r name k = cut_to 50 (own_or (of_m (bytes "a") r) k)
cell_of r (substance i) k = if (of_three i) (cut_to 80 (own_or (of_w (bytes "w") i r.ws) k)) no_cell
cell_of r (strength i) k = if (of_three i) (cut_to 15 (own_or (of_w (bytes "s") i r.ws) k)) no_cell
cell_of r form k = cut_to 7 (own_or (of_m (bytes "fd") r) k)
cell_of r morning k = time_cell (λ m d v h. m) (dose_of r)
cell_of r midday k = time_cell (λ m d v h. d) (dose_of r)
cell_of r evening k = time_cell (λ m d v h. v) (dose_of r)
cell_of r night k = time_cell (λ m d v h. h) (dose_of r)
cell_of r free_dose k = free_cell (dose_of r)

-- the cell of the row of that number, counted from 1; a medication row has cells, no other row has
abbrev pub cell_in : List Row → ℕ → CellField → List ℕ → Cell
cell_in [] n f k = no_cell
cell_in (r ∷ rs) zero f k = no_cell
cell_in (r ∷ rs) (suc zero) f k = if (is r.kind M) (cell_of r f k) no_cell
cell_in (r ∷ rs) (suc (suc n)) f k = cell_in rs (suc n) f k
