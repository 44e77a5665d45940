-- The room for a cell's text is always enough: a cell of a plan that was read shows at most 80 bytes; and what is left out of it is the catalogue's.
-- Assumes nothing.
use mathlib.Core.Path.{◌≡◌, refl, sym, ap, subst, ◌∙◌}
use mathlib.Core.Bool.{Bool, true, false, not, ◌&&◌, ◌||◌}
use mathlib.Core.List.{List, [], ◌∷◌}
use Prim.Native.String as Str
use Prim.Native.Nat.{ℕ, zero, suc, ◌≤◌}
use native.Mathlib.Omega.{arith}
use lib.Dec.{leb}
use lib.ListN.{length, drop}
use lib.Seq.{length-take-le}
use borrow.Author.Tests.{leb-true}
use Rattle.paper.specs.Lists.{bytes, if, same, is_empty, every}
use Rattle.paper.specs.Fields.{M, W, Field, fields_of}
use Rattle.paper.specs.Plan.{Slots, Row, Plan, slot, Dose, scheme, free_text, unstated, dose_from, dose_of}
use Rattle.paper.specs.Reading.{plan, read}
use Rattle.paper.specs.Writing.{good_slot, good_slots, good_element, decimal, sound_head, sound_row, sound}
use Rattle.paper.specs.Cells.{CellField, cell, of_w, time_cell, free_cell, cell_of, cell_in}
use Rattle.paper.specs.Calls.{cell_room}
use Rattle.paper.proofs.Small.{both, unequal}
use Rattle.paper.proofs.Element.{good_slots_lem}
use Rattle.paper.proofs.Rows.{row, View, head, med, rec, free, AllSound, all_sound}
use Rattle.paper.proofs.ReadSound.{z_f, slots_m, read_sound}
use Rattle.paper.proofs.Rooms.{most_short}
use Rattle.paper.proofs.CellLaws.{Limit, of_name, of_form, of_substance, of_strength, in_morning, at_midday, in_evening, at_night, DoseCell, timed_dose, free_dose_lem, Sort, by_limit, by_dose, sort, RowAt, row_one, own, Source, plans, catalogues, Part, whole, begun, row_cell, part_of, begins_near, never_cut}

-- ---- a cell with a limit

-- what is shown of a text is not longer than its limit
part_short : (n : ℕ) (v t : List ℕ) (d : Bool) (o : ℕ) → Part n v t d o → length t ≤ n
part_short n v t d o (whole h) = h
part_short n v t d o (begun h i b) = let l = (begins_near n v i b).0 in rw (length-take-le i v (omega arith)) (omega arith)

-- and where the value is not, only of the catalogue's text something is left out
left_part : (n : ℕ) (u k v t : List ℕ) (d : Bool) (o : ℕ) → length u ≤ n → Source u k v → Part n v t d o → o ≤ length k
left_part n u k v t d o h s (whole l) = omega arith
left_part n u k v t d o h (plans x) (begun l i b) = absurd (omega arith)
left_part n u k v t d o h (catalogues x) (begun l i b) = omega arith

-- no limit is above the room
limit_room : (f : CellField) (n : ℕ) → Limit f n → n ≤ cell_room
limit_room f n of_name = omega arith
limit_room f n (of_substance i) = omega arith
limit_room f n (of_strength i) = omega arith
limit_room f n of_form = omega arith

-- ---- the values of a sound row

-- the field, if its letters are those, takes at most m bytes
abbrev at_most : ℕ → List ℕ → Field → Bool
at_most m n f = not (same n f.letters) || leb f.most m

-- so a good value of it has at most m
slot_short : (m : ℕ) (n : List ℕ) (fs : List Field) (vs : Slots) → every (at_most m n) fs ≡ true → good_slots fs vs ≡ true → length (slot n fs vs) ≤ m
slot_short m n [] vs e g = omega arith
slot_short m n (f ∷ fs) [] e g = omega arith
slot_short m n (f ∷ fs) (v ∷ vs) e g =
    let (a, b) = both (at_most m n f) (every (at_most m n) fs) e in
    let (x, y) = both (good_slot f v) (good_slots fs vs) g in
    at (same n f.letters) a (most_short f v x) (slot_short m n fs vs b y)
  where
    at : (b : Bool) → (not b || leb f.most m) ≡ true → length v ≤ f.most → length (slot n fs vs) ≤ m → length (if b v (slot n fs vs)) ≤ m
    at true e h ih = omega (arith, leb-true f.most m e)
    at false e h ih = ih

-- the row of a number is sound
row_sound : (rs : List Row) (n : ℕ) (r : Row) → AllSound rs → RowAt rs n r → View r
row_sound [] n r s a = absurd a
row_sound (x ∷ rs) zero r s a = absurd a
row_sound (x ∷ rs) (suc zero) r s a = subst View a s.0
row_sound (x ∷ rs) (suc (suc n)) r s a = row_sound rs (suc n) r s.1 a

-- the four values that a cell shows up to a limit are no longer than that
own_fits : (every (at_most 50 (bytes "a")) (fields_of M) ≡ true) × (every (at_most 7 (bytes "fd")) (fields_of M) ≡ true)
    × (every (at_most 80 (bytes "w")) (fields_of W) ≡ true) × (every (at_most 15 (bytes "s")) (fields_of W) ≡ true)
unfolding fields_of
own_fits = (refl, refl, refl, refl)

w_short : (m : ℕ) (n : List ℕ) (i : ℕ) (ws : List Slots) → every (at_most m n) (fields_of W) ≡ true → every (good_element W) ws ≡ true → length (of_w n i ws) ≤ m
w_short m n i [] e g = omega arith
w_short m n zero (w ∷ ws) e g = omega arith
w_short m n (suc zero) (w ∷ ws) e g = slot_short m n (fields_of W) w e (good_slots_lem W w (both (good_element W w) (every (good_element W) ws) g).0)
w_short m n (suc (suc i)) (w ∷ ws) e g = w_short m n (suc i) ws e (both (good_element W w) (every (good_element W) ws) g).1

own_short : (r : Row) → View r → r.kind ≡ M → (f : CellField) (n : ℕ) → Limit f n → length (own f r) ≤ n
own_short r (head vs e g) q f n l = unequal (cc)
own_short r (med m vs ws h w e g) q f n l = at f n l
  where
    at : (f : CellField) (n : ℕ) → Limit f n → length (own f (row M m vs ws)) ≤ n
    at f n of_name = slot_short 50 (bytes "a") (fields_of M) (decimal m ∷ vs) own_fits.0 (good_slots_lem M (decimal m ∷ vs) g)
    at f n of_form = slot_short 7 (bytes "fd") (fields_of M) (decimal m ∷ vs) own_fits.1 (good_slots_lem M (decimal m ∷ vs) g)
    at f n (of_substance i) = w_short 80 (bytes "w") i ws own_fits.2 w
    at f n (of_strength i) = w_short 15 (bytes "s") i ws own_fits.3 w
own_short r (rec vs g) q f n l = unequal (cc)
own_short r (free vs g) q f n l = unequal (cc)

-- ---- a dose

-- the values of a dose have at most m bytes
abbrev Within : ℕ → Dose → Type 0
Within n (scheme m d v h) = (length m ≤ n) × (length d ≤ n) × (length v ≤ n) × (length h ≤ n)
Within n (free_text t) = length t ≤ n
Within n unstated = Unit {0}

within : (n : ℕ) (m d v h t : List ℕ) → Within n (scheme m d v h) → length t ≤ n → Within n (dose_from m d v h t)
within n m d v h (c ∷ t) s l = l
within n m d v h [] s l = at (is_empty m && (is_empty d && (is_empty v && is_empty h)))
  where
    at : (b : Bool) → Within n (if b unstated (scheme m d v h))
    at true = tt
    at false = s

-- the five fields of a dose take at most 20 bytes
abbrev dose_fits : List ℕ → Bool
dose_fits n = every (at_most 20 n) (fields_of M)

five_fields : (dose_fits (bytes "m") ≡ true) × (dose_fits (bytes "d") ≡ true) × (dose_fits (bytes "v") ≡ true) × (dose_fits (bytes "h") ≡ true) × (dose_fits (bytes "t") ≡ true)
unfolding fields_of
five_fields = (refl, refl, refl, refl, refl)

-- the dose of a sound medication has no more
row_dose : (r : Row) → View r → r.kind ≡ M → Within 20 (dose_of r)
row_dose r (head vs e g) q = unequal (cc)
row_dose r (med n vs ws l w e g) q =
    let (a, b, c, d, f) = five_fields in
    within 20 (value "m") (value "d") (value "v") (value "h") (value "t") (short (bytes "m") a, short (bytes "d") b, short (bytes "v") c, short (bytes "h") d) (short (bytes "t") f)
  where
    value : Str.String → List ℕ
    value k = slot (bytes k) (fields_of M) ([] ∷ vs)

    short : (k : List ℕ) → dose_fits k ≡ true → length (slot k (fields_of M) ([] ∷ vs)) ≤ 20
    short k fits =
        let (x, y) = both (good_slot z_f (decimal n)) (good_slots (drop 1 (fields_of M)) vs) (sym (slots_m vs (decimal n)) ∙ good_slots_lem M (decimal n ∷ vs) g) in
        slot_short 20 k (fields_of M) ([] ∷ vs) fits (slots_m vs [] ∙ y)
row_dose r (rec vs g) q = unequal (cc)
row_dose r (free vs g) q = unequal (cc)

-- a dose cell shows one of its values, or nothing
time_short : (n : ℕ) (w : List ℕ → List ℕ → List ℕ → List ℕ → List ℕ) (D : Dose) (t : List ℕ) (d : Bool) (o : ℕ) (m : Bool)
    → ((a b c e : List ℕ) → Within n (scheme a b c e) → length (w a b c e) ≤ n) → Within n D → time_cell w D ≡ cell t d o m → length t ≤ n
time_short n w (scheme a b c e) t d o m f s q = let x : t ≡ w a b c e = cc in rw x (f a b c e s)
time_short n w (free_text y) t d o m f s q = let x : t ≡ [] = cc in rw x (omega arith)
time_short n w unstated t d o m f s q = let x : t ≡ [] = cc in rw x (omega arith)

free_short : (n : ℕ) (D : Dose) (t : List ℕ) (d : Bool) (o : ℕ) (m : Bool) → Within n D → free_cell D ≡ cell t d o m → length t ≤ n
free_short n (scheme a b c e) t d o m s q = let x : t ≡ [] = cc in rw x (omega arith)
free_short n (free_text y) t d o m s q = let x : t ≡ y = cc in rw x s
free_short n unstated t d o m s q = let x : t ≡ [] = cc in rw x (omega arith)

dose_short : (r : Row) (f : CellField) (k t : List ℕ) (d : Bool) (o : ℕ) (m : Bool) → DoseCell f → Within 20 (dose_of r) → cell_of r f k ≡ cell t d o m → length t ≤ 20
dose_short r f k t d o m (timed_dose in_morning) s e = time_short 20 (λ m d v h. m) (dose_of r) t d o m (λ a b c e s. s.0) s e
dose_short r f k t d o m (timed_dose at_midday) s e = time_short 20 (λ m d v h. d) (dose_of r) t d o m (λ a b c e s. s.1) s e
dose_short r f k t d o m (timed_dose in_evening) s e = time_short 20 (λ m d v h. v) (dose_of r) t d o m (λ a b c e s. s.2) s e
dose_short r f k t d o m (timed_dose at_night) s e = time_short 20 (λ m d v h. h) (dose_of r) t d o m (λ a b c e s. s.3) s e
dose_short r f k t d o m free_dose_lem s e = free_short 20 (dose_of r) t d o m s e

-- ---- any cell

module _ (p : Plan) (s : sound p ≡ true) (n : ℕ) (f : CellField) (k t : List ℕ) (d : Bool) (o : ℕ) (m : Bool) (e : cell_in p.rows n f k ≡ cell t d o m) where
  -- a row that is there is sound
  seen : (r : Row) → RowAt p.rows n r → View r
  seen r a = row_sound p.rows n r (all_sound p.rows (both (sound_head p.head) (every sound_row p.rows) s).1) a

  sound_short : length t ≤ cell_room
  sound_short = at (sort f)
    where
      at : Sort f → length t ≤ cell_room
      at (by_limit j l) = let C = part_of p.rows n j f k t d o m l e in omega (arith, part_short j C.text t d o C.part, limit_room f j l)
      at (by_dose x) = let (r, a, q, g) = row_cell p.rows n f k t d o m e in omega (arith, dose_short r f k t d o m x (row_dose r (seen r a) q) g)

  sound_left : o ≤ length k
  sound_left = at (sort f)
    where
      at : Sort f → o ≤ length k
      at (by_limit j l) =
          let C = part_of p.rows n j f k t d o m l e in
          let (r, a, q, g) = row_cell p.rows n f k t d o m e in
          let same : C.row ≡ r = row_one p.rows n C.row r C.there a in
          left_part j (own f C.row) k C.text t d o (own_short C.row (seen C.row C.there) (ap (λ (x : Row). x.kind) same ∙ q) f j l) C.from C.part
      at (by_dose x) = omega (arith, (never_cut p.rows n f k t d o m x e).1)

-- The room of 80 bytes is always enough: so long is what a cell of a plan that was read shows, of whichever row and field, and with whichever catalogue.
pub cell_fits : (ws : List (List ℕ)) (p : Plan) → read ws ≡ plan p → (n : ℕ) (f : CellField) (k t : List ℕ) (d : Bool) (o : ℕ) (m : Bool) → cell_in p.rows n f k ≡ cell t d o m → length t ≤ cell_room
cell_fits ws p e = sound_short p (read_sound ws p e).0

-- A value that was read is never cut, so no more is left out than the catalogue has.
pub left_short : (ws : List (List ℕ)) (p : Plan) → read ws ≡ plan p → (n : ℕ) (f : CellField) (k t : List ℕ) (d : Bool) (o : ℕ) (m : Bool) → cell_in p.rows n f k ≡ cell t d o m → o ≤ length k
left_short ws p e = sound_left p (read_sound ws p e).0
