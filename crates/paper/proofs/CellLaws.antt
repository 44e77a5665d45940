-- The text of a printed cell: how long it is, where it comes from, what is marked, and which cells there are.
-- Assumes nothing.
use mathlib.Core.Path.{◌≡◌, refl, ap, sym, subst, ◌∙◌}
use mathlib.Core.Logic.{◌↔◌, ◌⊎◌, inl, inr, ◌≢◌}
use mathlib.Core.Bool.{Bool, true, false, ◌&&◌}
use mathlib.Core.List.{List, [], ◌∷◌}
use Prim.Native.Nat.{ℕ, zero, suc, ◌+◌, ◌-◌, ◌≤◌, ◌<◌}
use native.Mathlib.Omega.{arith}
use lib.Dec.{eqb, leb}
use lib.ListN.{length, take, get_or}
use lib.Seq.{length-take-le, take-length}
use borrow.Author.Tests.{eqb-true, leb-true, leb-false, le-leb, lt-leb}
use Rattle.paper.specs.Lists.{bytes, if, is_empty}
use Rattle.paper.specs.Fields.{Kind, M, is, fields_of}
use Rattle.paper.specs.Plan.{Row, slot, Dose, scheme, free_text, unstated, dose_from, dose_of}
use Rattle.paper.specs.Cells.{CellField, name, form, morning, midday, evening, night, free_dose, substance, strength, Cell, cell, no_cell, of_m, of_w, is_seam, last_before, shown_of, cut_to, own_or, time_cell, free_cell, of_three, cell_of, cell_in}
use Rattle.paper.proofs.Small.{no, both, and_intro, if_same, unequal, Nth}
use Rattle.paper.proofs.Told.{is_eq}
use Rattle.paper.proofs.Causes.{NoSuchCell, no_row, no_medication, none_of_three}

-- ---- the words

-- "Limits: name 50, substance 80, strength 15, form 7"
pub data Limit : CellField → ℕ → Type 0 where
  of_name : Limit name 50
  of_substance : (i : ℕ) → Limit (substance i) 80
  of_strength : (i : ℕ) → Limit (strength i) 15
  of_form : Limit form 7

-- each leaves room for more than "..."
pub limit_roomy : (f : CellField) (n : ℕ) → Limit f n → 3 < n
limit_roomy f n of_name = omega arith
limit_roomy f n (of_substance i) = omega arith
limit_roomy f n (of_strength i) = omega arith
limit_roomy f n of_form = omega arith

-- the four times of day
pub data Time : CellField → Type 0 where
  in_morning : Time morning
  at_midday : Time midday
  in_evening : Time evening
  at_night : Time night

-- a dose cell: a time of day, or the free text
pub data DoseCell : CellField → Type 0 where
  timed_dose : {f : CellField} → Time f → DoseCell f
  free_dose_lem : DoseCell free_dose

-- the plan's own value for a cell that has a limit
abbrev pub own : CellField → Row → List ℕ
own name r = of_m (bytes "a") r
own form r = of_m (bytes "fd") r
own (substance i) r = of_w (bytes "w") i r.ws
own (strength i) r = of_w (bytes "s") i r.ws
own morning r = []
own midday r = []
own evening r = []
own night r = []
own free_dose r = []

-- the row of that number, counted from 1
abbrev pub RowAt : List Row → ℕ → Row → Type 0
RowAt = Nth

-- the number names one row
pub row_one : (rs : List Row) (n : ℕ) (r q : Row) → RowAt rs n r → RowAt rs n q → r ≡ q
row_one [] n r q a b = absurd a
row_one (x ∷ rs) zero r q a b = absurd a
row_one (x ∷ rs) (suc zero) r q a b = sym a ∙ b
row_one (x ∷ rs) (suc (suc n)) r q a b = row_one rs (suc n) r q a b

-- an index where there is one of three
abbrev pub Indexed : CellField → Type 0
Indexed name = Unit {0}
Indexed form = Unit {0}
Indexed (substance i) = (1 ≤ i) × (i ≤ 3)
Indexed (strength i) = (1 ≤ i) × (i ≤ 3)
Indexed morning = Unit {0}
Indexed midday = Unit {0}
Indexed evening = Unit {0}
Indexed night = Unit {0}
Indexed free_dose = Unit {0}

-- ---- which cells there are

-- a cell is no refusal
not_none : {A : Type 0} (t : List ℕ) (d : Bool) (o : ℕ) (m : Bool) → no_cell ≡ cell t d o m → A
not_none t d o m e = unequal (cc)

-- a cell is that of a medication row that is there
pub row_cell : (rs : List Row) (n : ℕ) (f : CellField) (k t : List ℕ) (d : Bool) (o : ℕ) (m : Bool) → cell_in rs n f k ≡ cell t d o m
    → (r : Row) × RowAt rs n r × (r.kind ≡ M) × (cell_of r f k ≡ cell t d o m)
row_cell [] n f k t d o m e = not_none t d o m e
row_cell (x ∷ rs) zero f k t d o m e = not_none t d o m e
row_cell (x ∷ rs) (suc zero) f k t d o m e = at (is x.kind M) refl e
  where
    at : (b : Bool) → is x.kind M ≡ b → if b (cell_of x f k) no_cell ≡ cell t d o m → (r : Row) × (x ≡ r) × (r.kind ≡ M) × (cell_of r f k ≡ cell t d o m)
    at true q e = (x, refl, is_eq x.kind M q, e)
    at false q e = not_none t d o m e
row_cell (x ∷ rs) (suc (suc n)) f k t d o m e = row_cell rs (suc n) f k t d o m e

-- the cell of the row of that number, by whether it is a medication
at_row : (rs : List Row) (n : ℕ) (r : Row) (f : CellField) (k : List ℕ) (b : Bool) → RowAt rs n r → is r.kind M ≡ b → cell_in rs n f k ≡ if b (cell_of r f k) no_cell
at_row [] n r f k b a e = absurd a
at_row (x ∷ rs) zero r f k b a e = absurd a
at_row (x ∷ rs) (suc zero) r f k b a e = rw (a, e)
at_row (x ∷ rs) (suc (suc n)) r f k b a e = at_row rs (suc n) r f k b a e

-- the cell of a medication row
pub cell_row : (rs : List Row) (n : ℕ) (r : Row) (f : CellField) (k : List ℕ) → RowAt rs n r → r.kind ≡ M → cell_in rs n f k ≡ cell_of r f k
cell_row rs n r f k a e = at_row rs n r f k true a (ap (λ (j : Kind). is j M) e)

-- a row that is no medication has no cell
pub no_other_row : (rs : List Row) (n : ℕ) (r : Row) (f : CellField) (k : List ℕ) → RowAt rs n r → is r.kind M ≡ false → cell_in rs n f k ≡ no_cell
no_other_row rs n r f k a e = at_row rs n r f k false a e

-- a row number 0 has none
no_row_zero : (rs : List Row) (f : CellField) (k : List ℕ) → cell_in rs 0 f k ≡ no_cell
no_row_zero [] f k = refl
no_row_zero (x ∷ rs) f k = refl

-- nor has one beyond the rows
no_row_beyond : (rs : List Row) (n : ℕ) (f : CellField) (k : List ℕ) → length rs < n → cell_in rs n f k ≡ no_cell
no_row_beyond [] n f k h = refl
no_row_beyond (x ∷ rs) zero f k h = refl
no_row_beyond (x ∷ rs) (suc zero) f k h = absurd (omega arith)
no_row_beyond (x ∷ rs) (suc (suc n)) f k h = no_row_beyond rs (suc n) f k (omega arith)

-- nor is there a substance or a strength outside 1 to 3
pub no_fourth : (rs : List Row) (n i : ℕ) (k : List ℕ) → of_three i ≡ false → (cell_in rs n (substance i) k ≡ no_cell) × (cell_in rs n (strength i) k ≡ no_cell)
no_fourth [] n i k h = (refl, refl)
no_fourth (x ∷ rs) zero i k h = (refl, refl)
no_fourth (x ∷ rs) (suc zero) i k h = (rw h (if_same (is x.kind M) no_cell), rw h (if_same (is x.kind M) no_cell))
no_fourth (x ∷ rs) (suc (suc n)) i k h = no_fourth rs (suc n) i k h

-- there is a cell of that text
abbrev Shown : Cell → Type 0
Shown x = (t : List ℕ) × (d : Bool) × (o : ℕ) × (m : Bool) × (x ≡ cell t d o m)

shown_cut : (n : ℕ) (v : List ℕ) → Shown (cut_to n v)
shown_cut n v = at (leb (length v) n)
  where
    at : (b : Bool) → Shown (if b (cell v false 0 false) (cell (take (shown_of n v) v) true (length v - shown_of n v) false))
    at true = (v, false, 0, false, refl)
    at false = (take (shown_of n v) v, true, length v - shown_of n v, false, refl)

shown_three : (i n : ℕ) (v : List ℕ) → (1 ≤ i) × (i ≤ 3) → Shown (if (of_three i) (cut_to n v) no_cell)
shown_three i n v h = rw (and_intro (leb 1 i) (leb i 3) (le-leb 1 i h.0) (le-leb i 3 h.1)) (shown_cut n v)

shown_time : (which : List ℕ → List ℕ → List ℕ → List ℕ → List ℕ) (D : Dose) → Shown (time_cell which D)
shown_time which (scheme m d v h) = (which m d v h, false, 0, is_empty (which m d v h), refl)
shown_time which (free_text t) = ([], false, 0, false, refl)
shown_time which unstated = ([], false, 0, false, refl)

shown_free : (D : Dose) → Shown (free_cell D)
shown_free (scheme m d v h) = ([], false, 0, false, refl)
shown_free (free_text t) = (t, false, 0, false, refl)
shown_free unstated = ([], false, 0, false, refl)

shown : (r : Row) (f : CellField) (k : List ℕ) → Indexed f → Shown (cell_of r f k)
shown r name k x = shown_cut 50 (own_or (of_m (bytes "a") r) k)
shown r form k x = shown_cut 7 (own_or (of_m (bytes "fd") r) k)
shown r (substance i) k x = shown_three i 80 (own_or (of_w (bytes "w") i r.ws) k) x
shown r (strength i) k x = shown_three i 15 (own_or (of_w (bytes "s") i r.ws) k) x
shown r morning k x = shown_time (λ m d v h. m) (dose_of r)
shown r midday k x = shown_time (λ m d v h. d) (dose_of r)
shown r evening k x = shown_time (λ m d v h. v) (dose_of r)
shown r night k x = shown_time (λ m d v h. h) (dose_of r)
shown r free_dose k x = shown_free (dose_of r)

three : (i : ℕ) (y : Cell) (t : List ℕ) (d : Bool) (o : ℕ) (m : Bool) → if (of_three i) y no_cell ≡ cell t d o m → (of_three i ≡ true) × (y ≡ cell t d o m)
three i y t d o m = at (of_three i)
  where
    at : (b : Bool) → if b y no_cell ≡ cell t d o m → (b ≡ true) × (y ≡ cell t d o m)
    at true e = (refl, e)
    at false e = not_none t d o m e

one_of_three : (i : ℕ) → of_three i ≡ true → (1 ≤ i) × (i ≤ 3)
one_of_three i e = let (a, b) = both (leb 1 i) (leb i 3) e in (leb-true 1 i a, leb-true i 3 b)

indexed : (r : Row) (f : CellField) (k t : List ℕ) (d : Bool) (o : ℕ) (m : Bool) → cell_of r f k ≡ cell t d o m → Indexed f
indexed r name k t d o m e = tt
indexed r form k t d o m e = tt
indexed r (substance i) k t d o m e = one_of_three i (three i (cut_to 80 (own_or (of_w (bytes "w") i r.ws) k)) t d o m e).0
indexed r (strength i) k t d o m e = one_of_three i (three i (cut_to 15 (own_or (of_w (bytes "s") i r.ws) k)) t d o m e).0
indexed r morning k t d o m e = tt
indexed r midday k t d o m e = tt
indexed r evening k t d o m e = tt
indexed r night k t d o m e = tt
indexed r free_dose k t d o m e = tt

-- there is a cell exactly where the row is there and is a medication, and the index is one of three
pub is_cell : (rs : List Row) (n : ℕ) (f : CellField) (k : List ℕ)
    → ((t : List ℕ) × (d : Bool) × (o : ℕ) × (m : Bool) × (cell_in rs n f k ≡ cell t d o m)) ↔ ((r : Row) × RowAt rs n r × (r.kind ≡ M) × Indexed f)
is_cell rs n f k = (there, back)
  where
    there : (t : List ℕ) × (d : Bool) × (o : ℕ) × (m : Bool) × (cell_in rs n f k ≡ cell t d o m) → (r : Row) × RowAt rs n r × (r.kind ≡ M) × Indexed f
    there (t, d, o, m, e) = let (r, a, q, g) = row_cell rs n f k t d o m e in (r, a, q, indexed r f k t d o m g)

    back : (r : Row) × RowAt rs n r × (r.kind ≡ M) × Indexed f → (t : List ℕ) × (d : Bool) × (o : ℕ) × (m : Bool) × (cell_in rs n f k ≡ cell t d o m)
    back (r, a, q, x) = let (t, d, o, m, e) = shown r f k x in (t, d, o, m, cell_row rs n r f k a q ∙ e)

-- ---- which there are not

-- an index that is none of three
not_three : (i : ℕ) → (of_three i ≡ false) ↔ ((i ≡ 0) ⊎ (3 < i))
not_three i = (at (leb 1 i) refl, back)
  where
    at : (x : Bool) → leb 1 i ≡ x → (x && leb i 3) ≡ false → (i ≡ 0) ⊎ (3 < i)
    at true q e = inr (leb-false i 3 e)
    at false q e = let h = leb-false 1 i q in inl (omega arith)

    back : (i ≡ 0) ⊎ (3 < i) → of_three i ≡ false
    back (inl e) = rw e
    back (inr h) = let g : 1 ≤ i = omega arith in rw (le-leb 1 i g, lt-leb i 3 h)

-- a medication's cell is not there for its index alone
no_cell_of : (r : Row) (f : CellField) (k : List ℕ) → cell_of r f k ≡ no_cell → (i : ℕ) × ((f ≡ substance i) ⊎ (f ≡ strength i)) × ((i ≡ 0) ⊎ (3 < i))
no_cell_of r f k e = at f e
  where
    clash : (f : CellField) → Indexed f → cell_of r f k ≡ no_cell → (i : ℕ) × ((f ≡ substance i) ⊎ (f ≡ strength i)) × ((i ≡ 0) ⊎ (3 < i))
    clash f x e = let (t, d, o, m, q) = shown r f k x in not_none t d o m (sym e ∙ q)

    by : (f : CellField) (i : ℕ) → ((1 ≤ i) × (i ≤ 3) → Indexed f) → (f ≡ substance i) ⊎ (f ≡ strength i) → cell_of r f k ≡ no_cell → (b : Bool) → of_three i ≡ b
        → (j : ℕ) × ((f ≡ substance j) ⊎ (f ≡ strength j)) × ((j ≡ 0) ⊎ (3 < j))
    by f i h o e true q = clash f (h (one_of_three i q)) e
    by f i h o e false q = (i, o, (not_three i).0 q)

    at : (f : CellField) → cell_of r f k ≡ no_cell → (i : ℕ) × ((f ≡ substance i) ⊎ (f ≡ strength i)) × ((i ≡ 0) ⊎ (3 < i))
    at name e = clash name tt e
    at form e = clash form tt e
    at (substance i) e = by (substance i) i (λ h. h) (inl refl) e (of_three i) refl
    at (strength i) e = by (strength i) i (λ h. h) (inr refl) e (of_three i) refl
    at morning e = clash morning tt e
    at midday e = clash midday tt e
    at evening e = clash evening tt e
    at night e = clash night tt e
    at free_dose e = clash free_dose tt e

-- there is no cell exactly where the row is not there or is no medication, or the index is none of three
pub no_cell_lem : (rs : List Row) (n : ℕ) (f : CellField) (k : List ℕ) → (cell_in rs n f k ≡ no_cell) ↔ NoSuchCell rs n f
no_cell_lem rs n f k = (there rs n, back)
  where
    behind : (r : Row) (rs : List Row) (n : ℕ) → NoSuchCell rs (suc n) f → NoSuchCell (r ∷ rs) (suc (suc n)) f
    behind r rs n (no_row (inl e)) = absurd (omega arith)
    behind r rs n (no_row (inr h)) = no_row (inr (omega arith))
    behind r rs n (no_medication q a m) = no_medication q a m
    behind r rs n (none_of_three i o h) = none_of_three i o h

    this : (r : Row) (rs : List Row) (b : Bool) → is r.kind M ≡ b → if b (cell_of r f k) no_cell ≡ no_cell → NoSuchCell (r ∷ rs) 1 f
    this r rs true q e = let (i, o, h) = no_cell_of r f k e in none_of_three i o h
    this r rs false q e = no_medication r refl (λ m. no (sym (ap (λ (j : Kind). is j M) m) ∙ q))

    there : (rs : List Row) (n : ℕ) → cell_in rs n f k ≡ no_cell → NoSuchCell rs n f
    there [] zero e = no_row (inl refl)
    there [] (suc n) e = no_row (inr (omega arith))
    there (r ∷ rs) zero e = no_row (inl refl)
    there (r ∷ rs) (suc zero) e = this r rs (is r.kind M) refl e
    there (r ∷ rs) (suc (suc n)) e = behind r rs n (there rs (suc n) e)

    other : (r : Row) → r.kind ≢ M → (b : Bool) → is r.kind M ≡ b → b ≡ false
    other r m true q = absurd (m (is_eq r.kind M q))
    other r m false q = refl

    back : NoSuchCell rs n f → cell_in rs n f k ≡ no_cell
    back (no_row (inl e)) = rw e (no_row_zero rs f k)
    back (no_row (inr h)) = no_row_beyond rs n f k h
    back (no_medication r a m) = no_other_row rs n r f k a (other r m (is r.kind M) refl)
    back (none_of_three i (inl e) h) = rw e (no_fourth rs n i k ((not_three i).1 h)).0
    back (none_of_three i (inr e) h) = rw e (no_fourth rs n i k ((not_three i).1 h)).1

-- ---- names, substances, strengths, forms

-- where a text comes from: the plan's own value if that is present, else the catalogue
pub data Source (v k : List ℕ) : List ℕ → Type 0 where
  plans : (v ≡ [] → ⊥) → Source v k v
  catalogues : v ≡ [] → Source v k k

source : (v k : List ℕ) → Source v k (own_or v k)
source [] k = catalogues refl
source (c ∷ v) k = plans (λ e. unequal (cc))

-- ---- document 02, ask 4: where a text that is too long is cut

-- a blank before which a text with limit n may be cut: among its first n − 3 bytes, "one of the last ten of them and not the very first byte"
pub record Seam (n : ℕ) (v : List ℕ) (p : ℕ) : Type 0 where
  pub blank : get_or v p 0 ≡ 32
  pub not_first : 1 ≤ p
  pub of_ten : n - 3 ≤ p + 10
  pub among : p < n - 3

-- the rule: the text is shown up to such a blank with none nearer the end; where there is none, its first n − 3 bytes
pub data Begun (n : ℕ) (v : List ℕ) : ℕ → Type 0 where
  at_a_word : (p : ℕ) → Seam n v p → ((q : ℕ) → p < q → Seam n v q → ⊥) → Begun n v p
  in_a_word : ((q : ℕ) → Seam n v q → ⊥) → Begun n v (n - 3)

-- the last place before m that passes a test, or there is none
data Last (test : ℕ → Bool) (m other : ℕ) : ℕ → Type 0 where
  last : (p : ℕ) → p < m → test p ≡ true → ((q : ℕ) → p < q → q < m → test q ≡ false) → Last test m other p
  nowhere : ((q : ℕ) → q < m → test q ≡ false) → Last test m other other

-- a place before the next is that before it or before both
next_place : {A : Type 0} (q m : ℕ) → q < suc m → (q < m → A) → (q ≡ m → A) → A
next_place {A} q m h f g = at (leb m q) refl
  where
    at : (b : Bool) → leb m q ≡ b → A
    at true e = let l = leb-true m q e in g (omega arith)
    at false e = f (leb-false m q e)

last_before_lem : (test : ℕ → Bool) (other m : ℕ) → Last test m other (last_before test other m)
last_before_lem test other zero = nowhere (λ q h. absurd (omega arith))
last_before_lem test other (suc m) = at (test m) refl (last_before_lem test other m)
  where
    further : (i : ℕ) → test m ≡ false → Last test m other i → Last test (suc m) other i
    further i e (last p l t f) = last p (omega arith) t (λ q g h. next_place q m h (f q g) (λ x. ap test x ∙ e))
    further i e (nowhere f) = nowhere (λ q h. next_place q m h (f q) (λ x. ap test x ∙ e))

    at : (b : Bool) → test m ≡ b → Last test m other (last_before test other m) → Last test (suc m) other (if b m (last_before test other m))
    at true e l = last m (omega arith) e (λ q g h. absurd (omega arith))
    at false e l = further (last_before test other m) e l

-- the test of a place is that there is such a blank
seam_test : (n : ℕ) (v : List ℕ) (p : ℕ) → p < n - 3 → (is_seam n v p ≡ true) ↔ Seam n v p
seam_test n v p h = (there, back)
  where
    there : is_seam n v p ≡ true → Seam n v p
    there e =
        let (a, q) = both (eqb (get_or v p 0) 32) (leb 1 p && leb (n - 3) (p + 10)) e in
        let (b, c) = both (leb 1 p) (leb (n - 3) (p + 10)) q in
        record { blank = eqb-true (get_or v p 0) 32 a; not_first = leb-true 1 p b; of_ten = leb-true (n - 3) (p + 10) c; among = h }

    back : Seam n v p → is_seam n v p ≡ true
    back S = rw (S.blank, le-leb 1 p S.not_first, le-leb (n - 3) (p + 10) S.of_ten)

-- how many bytes are shown is what the rule says
pub begins : (n : ℕ) (v : List ℕ) → Begun n v (shown_of n v)
begins n v = at (shown_of n v) (last_before_lem (is_seam n v) (n - 3) (n - 3))
  where
    none_at : (q : ℕ) → (q < n - 3 → is_seam n v q ≡ false) → Seam n v q → ⊥
    none_at q f S = no (sym ((seam_test n v q S.among).1 S) ∙ f S.among)

    at : (i : ℕ) → Last (is_seam n v) (n - 3) (n - 3) i → Begun n v i
    at i (last p l t f) = at_a_word p ((seam_test n v p l).0 t) (λ q g. none_at q (f q g))
    at i (nowhere f) = in_a_word (λ q. none_at q (f q))

-- and the rule says one thing
pub begins_once : (n : ℕ) (v : List ℕ) (i j : ℕ) → Begun n v i → Begun n v j → i ≡ j
begins_once n v i j (in_a_word f) (in_a_word g) = refl
begins_once n v i j (in_a_word f) (at_a_word q T g) = absurd (f q T)
begins_once n v i j (at_a_word p S f) (in_a_word g) = absurd (g p S)
begins_once n v i j (at_a_word p S f) (at_a_word q T g) = at (leb p q) refl (leb q p) refl
  where
    at : (b : Bool) → leb p q ≡ b → (c : Bool) → leb q p ≡ c → p ≡ q
    at false x c y = absurd (g p (leb-false p q x) S)
    at true x false y = absurd (f q (leb-false q p y) T)
    at true x true y = let l = leb-true p q x in let r = leb-true q p y in omega arith

-- the last blank among the first n − 3 bytes of a text
pub record LastBlank (n : ℕ) (v : List ℕ) (p : ℕ) : Type 0 where
  pub blank : get_or v p 0 ≡ 32
  pub among : p < n - 3
  pub none_behind : (q : ℕ) → p < q → q < n - 3 → get_or v q 0 ≡ 32 → ⊥

-- the rule in the document's words: "cut before the last blank among the first n − 3 bytes, if that blank is one of the last ten of them and not the very first byte;
-- otherwise as today"
pub as_worded : (n : ℕ) (v : List ℕ) (p : ℕ) → LastBlank n v p → Begun n v (if (leb 1 p && leb (n - 3) (p + 10)) p (n - 3))
as_worded n v p L = at (leb 1 p) refl (leb (n - 3) (p + 10)) refl
  where
    behind : (q : ℕ) → p < q → Seam n v q → ⊥
    behind q h S = L.none_behind q h S.among S.blank

    not_up_to : (q : ℕ) → (q ≤ p → Seam n v q → ⊥) → Seam n v q → ⊥
    not_up_to q f S = by (leb q p) refl
      where
        by : (b : Bool) → leb q p ≡ b → ⊥
        by true e = f (leb-true q p e) S
        by false e = behind q (leb-false q p e) S

    at : (a : Bool) → leb 1 p ≡ a → (b : Bool) → leb (n - 3) (p + 10) ≡ b → Begun n v (if (a && b) p (n - 3))
    at true x true y = at_a_word p (record { blank = L.blank; not_first = leb-true 1 p x; of_ten = leb-true (n - 3) (p + 10) y; among = L.among }) behind
    at true x false y = let h = leb-false (n - 3) (p + 10) y in in_a_word (λ q. not_up_to q (λ l S. let g = S.of_ten in omega arith))
    at false x b y = let h = leb-false 1 p x in in_a_word (λ q. not_up_to q (λ l S. let g = S.not_first in omega arith))

pub without_blank : (n : ℕ) (v : List ℕ) → ((q : ℕ) → q < n - 3 → get_or v q 0 ≡ 32 → ⊥) → Begun n v (n - 3)
without_blank n v f = in_a_word (λ q S. f q S.among S.blank)

-- it is at most n − 3, and at most ten less
pub begins_near : (n : ℕ) (v : List ℕ) (i : ℕ) → Begun n v i → (i ≤ n - 3) × (n - 3 ≤ i + 10)
begins_near n v i (at_a_word p S f) = let h = S.among in (omega arith, S.of_ten)
begins_near n v i (in_a_word f) = (omega arith, omega arith)

-- of a text that is cut something is shown
pub begins_some : (n : ℕ) (v : List ℕ) (i : ℕ) → 3 < n → Begun n v i → 1 ≤ i
begins_some n v i h (at_a_word p S f) = S.not_first
begins_some n v i h (in_a_word f) = omega arith

-- what is shown of a text with limit n, the flag, and how much is left out: all of the text and nothing; or the beginning by the rule, with the flag, and the rest
pub data Part (n : ℕ) (v : List ℕ) : List ℕ → Bool → ℕ → Type 0 where
  whole : length v ≤ n → Part n v v false 0
  begun : n < length v → (i : ℕ) → Begun n v i → Part n v (take i v) true (length v - i)

cut_part : (n : ℕ) (v t : List ℕ) (d : Bool) (o : ℕ) (m : Bool) → cut_to n v ≡ cell t d o m → Part n v t d o × (m ≡ false)
cut_part n v t d o m = at (leb (length v) n) refl
  where
    at : (b : Bool) → leb (length v) n ≡ b → if b (cell v false 0 false) (cell (take (shown_of n v) v) true (length v - shown_of n v) false) ≡ cell t d o m → Part n v t d o × (m ≡ false)
    at true q e =
        let text : t ≡ v = cc in
        let flag : d ≡ false = cc in
        let out : o ≡ 0 = cc in
        (rw (text, flag, out) (whole (leb-true (length v) n q)), cc)
    at false q e =
        let text : t ≡ take (shown_of n v) v = cc in
        let flag : d ≡ true = cc in
        let out : o ≡ length v - shown_of n v = cc in
        (rw (text, flag, out) (begun (leb-false (length v) n q) (shown_of n v) (begins n v)), cc)

-- such a cell is the plan's own value, or else the catalogue's text, cut to its limit
limited : (r : Row) (n : ℕ) (f : CellField) (k t : List ℕ) (d : Bool) (o : ℕ) (m : Bool) → Limit f n → cell_of r f k ≡ cell t d o m → cut_to n (own_or (own f r) k) ≡ cell t d o m
limited r n f k t d o m of_name e = e
limited r n f k t d o m (of_substance i) e = (three i (cut_to 80 (own_or (of_w (bytes "w") i r.ws) k)) t d o m e).1
limited r n f k t d o m (of_strength i) e = (three i (cut_to 15 (own_or (of_w (bytes "s") i r.ws) k)) t d o m e).1
limited r n f k t d o m of_form e = e

-- what it shows, of which row and which text; it is not marked
pub record Cut (rs : List Row) (j n : ℕ) (f : CellField) (k t : List ℕ) (d : Bool) (o : ℕ) (m : Bool) : Type 0 where
  pub row : Row
  pub there : RowAt rs j row
  pub text : List ℕ
  pub from : Source (own f row) k text
  pub part : Part n text t d o
  pub unmarked : m ≡ false

-- a cell with a limit shows just that
pub part_of : (rs : List Row) (j n : ℕ) (f : CellField) (k t : List ℕ) (d : Bool) (o : ℕ) (m : Bool) → Limit f n → cell_in rs j f k ≡ cell t d o m → Cut rs j n f k t d o m
part_of rs j n f k t d o m l e =
    let (r, a, q, g) = row_cell rs j f k t d o m e in
    let (p, u) = cut_part n (own_or (own f r) k) t d o m (limited r n f k t d o m l g) in
    record { row = r; there = a; text = own_or (own f r) k; from = source (own f r) k; part = p; unmarked = u }

-- so the text is a beginning of the plan's own value if that is present, else of the catalogue
pub beginning : (n : ℕ) (v t : List ℕ) (d : Bool) (o : ℕ) → Part n v t d o → (i : ℕ) × (t ≡ take i v)
beginning n v t d o (whole h) = (length v, sym (take-length v))
beginning n v t d o (begun h i b) = (i, refl)

-- a beginning of a text that is cut is as long as the rule says
begun_long : (n : ℕ) (v : List ℕ) (i : ℕ) → n < length v → Begun n v i → length (take i v) ≡ i
begun_long n v i h b = let l = (begins_near n v i b).0 in length-take-le i v (omega arith)

-- what is shown and what is left out are the whole
pub whole_again : (n : ℕ) (v t : List ℕ) (d : Bool) (o : ℕ) → Part n v t d o → length t + o ≡ length v
whole_again n v t d o (whole h) = omega arith
whole_again n v t d o (begun h i b) = let l = (begins_near n v i b).0 in rw (begun_long n v i h b) (omega arith)

-- the flag is set exactly where something is left out
left_flag : (n : ℕ) (v t : List ℕ) (d : Bool) (o : ℕ) → Part n v t d o → (d ≡ true) ↔ (1 ≤ o)
left_flag n v t d o (whole h) = (λ e. no (sym e), λ l. absurd (omega arith))
left_flag n v t d o (begun h i b) = let l = (begins_near n v i b).0 in (λ e. omega arith, λ l. refl)

-- without the flag it is the whole text, which is at most its limit long
whole_part : (n : ℕ) (v t : List ℕ) (d : Bool) (o : ℕ) → Part n v t d o → d ≡ false → (t ≡ v) × (length t ≤ n)
whole_part n v t d o (whole h) e = (refl, h)
whole_part n v t d o (begun h i b) e = no e

-- with the flag the text is longer than the limit, and is cut as the rule says
pub begun_part : (n : ℕ) (v t : List ℕ) (d : Bool) (o : ℕ) → Part n v t d o → d ≡ true → (n < length v) × Begun n v (length t)
begun_part n v t d o (whole h) e = no (sym e)
begun_part n v t d o (begun h i b) e = (h, subst (Begun n v) (sym (begun_long n v i h b)) b)

pub whole_text : (rs : List Row) (j n : ℕ) (f : CellField) (k t : List ℕ) (o : ℕ) (m : Bool) → Limit f n → cell_in rs j f k ≡ cell t false o m → length t ≤ n
whole_text rs j n f k t o m l e = let C = part_of rs j n f k t false o m l e in (whole_part n C.text t false o C.part refl).1

pub cut_text : (rs : List Row) (j n : ℕ) (f : CellField) (k t : List ℕ) (o : ℕ) (m : Bool) → (l : Limit f n) (e : cell_in rs j f k ≡ cell t true o m)
    → let v = (part_of rs j n f k t true o m l e).text in (n < length v) × Begun n v (length t)
cut_text rs j n f k t o m l e = let C = part_of rs j n f k t true o m l e in begun_part n C.text t true o C.part refl

-- ---- doses

-- which of the four times a time of day shows
abbrev Which : Type 0
Which = List ℕ → List ℕ → List ℕ → List ℕ → List ℕ

time_shows : (f : CellField) → Time f → (w : Which) × ((r : Row) (k : List ℕ) → cell_of r f k ≡ time_cell w (dose_of r))
time_shows f in_morning = (λ m d v h. m, λ r k. refl)
time_shows f at_midday = (λ m d v h. d, λ r k. refl)
time_shows f in_evening = (λ m d v h. v, λ r k. refl)
time_shows f at_night = (λ m d v h. h, λ r k. refl)

dose_same : (r : Row) (f : CellField) (k k' : List ℕ) → DoseCell f → cell_of r f k ≡ cell_of r f k'
dose_same r f k k' (timed_dose x) = let (w, e) = time_shows f x in e r k ∙ sym (e r k')
dose_same r f k k' free_dose_lem = refl

-- a dose cell does not depend on the catalogue
pub no_catalogue : (rs : List Row) (j : ℕ) (f : CellField) (k k' : List ℕ) → DoseCell f → cell_in rs j f k ≡ cell_in rs j f k'
no_catalogue [] j f k k' d = refl
no_catalogue (x ∷ rs) zero f k k' d = refl
no_catalogue (x ∷ rs) (suc zero) f k k' d = ap (λ (c : Cell). if (is x.kind M) c no_cell) (dose_same x f k k' d)
no_catalogue (x ∷ rs) (suc (suc j)) f k k' d = no_catalogue rs (suc j) f k k' d

time_uncut : (w : Which) (D : Dose) (t : List ℕ) (d : Bool) (o : ℕ) (m : Bool) → time_cell w D ≡ cell t d o m → (d ≡ false) × (o ≡ 0)
time_uncut w (scheme a b c h) t d o m e = (cc, cc)
time_uncut w (free_text x) t d o m e = (cc, cc)
time_uncut w unstated t d o m e = (cc, cc)

free_plain : (D : Dose) (t : List ℕ) (d : Bool) (o : ℕ) (m : Bool) → free_cell D ≡ cell t d o m → (d ≡ false) × (o ≡ 0) × (m ≡ false)
free_plain (scheme a b c h) t d o m e = (cc, cc, cc)
free_plain (free_text x) t d o m e = (cc, cc, cc)
free_plain unstated t d o m e = (cc, cc, cc)

-- and is never cut: nothing of it is left out
pub never_cut : (rs : List Row) (j : ℕ) (f : CellField) (k t : List ℕ) (d : Bool) (o : ℕ) (m : Bool) → DoseCell f → cell_in rs j f k ≡ cell t d o m → (d ≡ false) × (o ≡ 0)
never_cut rs j f k t d o m x e = let (r, a, q, g) = row_cell rs j f k t d o m e in at f x r g
  where
    at : (f : CellField) → DoseCell f → (r : Row) → cell_of r f k ≡ cell t d o m → (d ≡ false) × (o ≡ 0)
    at f (timed_dose y) r g = let (w, s) = time_shows f y in time_uncut w (dose_of r) t d o m (sym (s r k) ∙ g)
    at f free_dose_lem r g = let (p, q, s) = free_plain (dose_of r) t d o m g in (p, q)

-- a row's dose that is four times of day has one that is present
some_time : (m d v h t a b c e : List ℕ) → dose_from m d v h t ≡ scheme a b c e → (is_empty a && (is_empty b && (is_empty c && is_empty e))) ≡ false
some_time m d v h (x ∷ t) a b c e q = unequal (cc)
some_time m d v h [] a b c e q = at (is_empty m && (is_empty d && (is_empty v && is_empty h))) refl q
  where
    at : (x : Bool) → (is_empty m && (is_empty d && (is_empty v && is_empty h))) ≡ x → if x unstated (scheme m d v h) ≡ scheme a b c e → (is_empty a && (is_empty b && (is_empty c && is_empty e))) ≡ false
    at true y q = unequal (cc)
    at false y q =
        let p₁ : m ≡ a = cc in
        let p₂ : d ≡ b = cc in
        let p₃ : v ≡ c = cc in
        let p₄ : h ≡ e = cc in
        rw (sym p₁, sym p₂, sym p₃, sym p₄) y

-- another time of the row, which is there
abbrev Beside : Row → List ℕ → Type 0
Beside r k = (g : CellField) × (c : ℕ) × (v : List ℕ) × Time g × (cell_of r g k ≡ cell (c ∷ v) false 0 false)

beside : (r : Row) (k m d v h : List ℕ) → dose_of r ≡ scheme m d v h → (is_empty m && (is_empty d && (is_empty v && is_empty h))) ≡ false → Beside r k
beside r k (c ∷ m) d v h e n = (morning, c, m, in_morning, ap (time_cell (λ m d v h. m)) e)
beside r k [] (c ∷ d) v h e n = (midday, c, d, at_midday, ap (time_cell (λ m d v h. d)) e)
beside r k [] [] (c ∷ v) h e n = (evening, c, v, in_evening, ap (time_cell (λ m d v h. v)) e)
beside r k [] [] [] (c ∷ h) e n = (night, c, h, at_night, ap (time_cell (λ m d v h. h)) e)
beside r k [] [] [] [] e n = no n

-- a value of a medication row, as its dose looks at it
abbrev time_of : List ℕ → Row → List ℕ
time_of n r = slot n (fields_of M) ([] ∷ r.slots)

empty_nil : (v : List ℕ) → is_empty v ≡ true → v ≡ []
empty_nil [] e = refl
empty_nil (c ∷ v) e = no (sym e)

marked_time : (w : Which) (r : Row) (k t : List ℕ) (d : Bool) (o : ℕ) (D : Dose) → dose_of r ≡ D → time_cell w D ≡ cell t d o true → (t ≡ []) × Beside r k
marked_time w r k t d o (scheme a b c h) q e =
    let shows : w a b c h ≡ t = cc in
    let nil : is_empty (w a b c h) ≡ true = cc in
    (sym shows ∙ empty_nil (w a b c h) nil, beside r k a b c h q (some_time (time_of (bytes "m") r) (time_of (bytes "d") r) (time_of (bytes "v") r) (time_of (bytes "h") r) (time_of (bytes "t") r) a b c h q))
marked_time w r k t d o (free_text x) q e = let z : false ≡ true = cc in no (sym z)
marked_time w r k t d o unstated q e = let z : false ≡ true = cc in no (sym z)

-- a field has a limit, or is a dose
pub data Sort (f : CellField) : Type 0 where
  by_limit : (n : ℕ) → Limit f n → Sort f
  by_dose : DoseCell f → Sort f

pub sort : (f : CellField) → Sort f
sort name = by_limit 50 of_name
sort form = by_limit 7 of_form
sort (substance i) = by_limit 80 (of_substance i)
sort (strength i) = by_limit 15 (of_strength i)
sort morning = by_dose (timed_dose in_morning)
sort midday = by_dose (timed_dose at_midday)
sort evening = by_dose (timed_dose in_evening)
sort night = by_dose (timed_dose at_night)
sort free_dose = by_dose free_dose_lem

-- the flag is set exactly where something is left out, in any cell
pub flagged : (rs : List Row) (j : ℕ) (f : CellField) (k t : List ℕ) (d : Bool) (o : ℕ) (m : Bool) → cell_in rs j f k ≡ cell t d o m → (d ≡ true) ↔ (1 ≤ o)
flagged rs j f k t d o m e = at (sort f)
  where
    at : Sort f → (d ≡ true) ↔ (1 ≤ o)
    at (by_limit n l) = let C = part_of rs j n f k t d o m l e in left_flag n C.text t d o C.part
    at (by_dose x) = let (p, q) = never_cut rs j f k t d o m x e in (λ z. no (sym z ∙ p), λ z. absurd (omega arith))

-- a marked cell is a time of day that is empty, and another time of that row is there
pub marked : (rs : List Row) (j : ℕ) (f : CellField) (k t : List ℕ) (d : Bool) (o : ℕ) → cell_in rs j f k ≡ cell t d o true
    → Time f × (t ≡ []) × ((g : CellField) × (c : ℕ) × (v : List ℕ) × Time g × (cell_in rs j g k ≡ cell (c ∷ v) false 0 false))
marked rs j f k t d o e = let (r, a, q, g) = row_cell rs j f k t d o true e in at f (sort f) e r a q g
  where
    dose : (f : CellField) → DoseCell f → (r : Row) → cell_of r f k ≡ cell t d o true → Time f × (t ≡ []) × Beside r k
    dose f (timed_dose y) r g = let (w, s) = time_shows f y in let (n, b) = marked_time w r k t d o (dose_of r) refl (sym (s r k) ∙ g) in (y, n, b)
    dose f free_dose_lem r g = no (free_plain (dose_of r) t d o true g).2

    at : (f : CellField) → Sort f → cell_in rs j f k ≡ cell t d o true → (r : Row) → RowAt rs j r → r.kind ≡ M → cell_of r f k ≡ cell t d o true
        → Time f × (t ≡ []) × ((g : CellField) × (c : ℕ) × (v : List ℕ) × Time g × (cell_in rs j g k ≡ cell (c ∷ v) false 0 false))
    at f (by_limit n l) e r a q g = no (part_of rs j n f k t d o true l e).unmarked
    at f (by_dose x) e r a q g = let (y, n, b) = dose f x r g in let (o, c, v, z, s) = b in (y, n, (o, c, v, z, cell_row rs j r o k a q ∙ s))

-- where another time of the row is there, a time is marked exactly if it is empty
pub marked_beside : (rs : List Row) (j : ℕ) (f g : CellField) (k t : List ℕ) (c : ℕ) (v : List ℕ) (d : Bool) (o : ℕ) (m : Bool) → Time f → Time g
    → cell_in rs j g k ≡ cell (c ∷ v) false 0 false → cell_in rs j f k ≡ cell t d o m → m ≡ is_empty t
marked_beside rs j f g k t c v d o m x y p q =
    let (r, a, z, e) = row_cell rs j g k (c ∷ v) false 0 false p in
    let (w, s) = time_shows f x in
    let (u, n) = time_shows g y in
    at w u (dose_of r) (sym (n r k) ∙ e) (sym (s r k) ∙ (sym (cell_row rs j r f k a z) ∙ q))
  where
    at : (w u : Which) (D : Dose) → time_cell u D ≡ cell (c ∷ v) false 0 false → time_cell w D ≡ cell t d o m → m ≡ is_empty t
    at w u (scheme a b z h) p q =
        let shows : w a b z h ≡ t = cc in
        let mark : is_empty (w a b z h) ≡ m = cc in
        sym mark ∙ ap is_empty shows
    at w u (free_text b) p q = unequal (cc)
    at w u unstated p q = unequal (cc)
