-- Promises: what the promises of a cell say together: one answer, which is document 01's cell; its text a part of the one or the other buffer, the plan's own
-- first and no catalogue for a dose; within its limit.
-- Assumes nothing.
use Rattle.std.specs.Prelude.{Some, None, Option as Maybe, Ok, Err}
use mathlib.Core.Path.{◌≡◌, refl, sym, ap, subst, ◌∙◌}
use mathlib.Core.Logic.{◌↔◌}
use mathlib.Core.Bool.{Bool, true, false, ◌&&◌, ◌||◌}
use mathlib.Core.List.{List, [], ◌∷◌}
use mathlib.Core.Option.{Option, none, some}
use Prim.Native.Nat.{ℕ, ◌+◌, ◌-◌, ◌*◌, ◌≤◌, ◌<◌}
use native.Mathlib.Omega.{arith}
use lib.Dec.{eqb, leb}
use lib.ListN.{length, take, drop, get_or, length-take, length-drop}
use borrow.Author.Tests.{eqb-false}
use mir.Val.{Val}
use denote.Slice.{slice_val, shr_slice_vals}
use Rattle.paper.specs.Lists.{if, is_empty}
use Rattle.paper.specs.Fields.{M}
use Rattle.paper.specs.Plan.{Row}
use Rattle.paper.specs.Cells.{CellField, Cell, cell, no_cell, shown_of, cell_in}
use Rattle.paper.proofs.Small.{no, unequal}
use Rattle.paper.proofs.CellLaws as CellLaws
use Rattle.paper.proofs.CellLaws.{Limit, limit_roomy, of_name, of_substance, of_strength, of_form, Sort, by_limit, by_dose, sort, in_morning, at_midday, in_evening, at_night, DoseCell, timed_dose, free_dose_lem, RowAt, row_one, Indexed, own, Begun, Cut, is_cell, whole_again, begun_part, whole_text, begins_some, cut_text, flagged, no_catalogue, never_cut}
use Rattle.plan.specs.Numbers.{record_at, span_in, kind_shown, absent}
use Rattle.cell.specs.declared.Cell as Found
use Rattle.cell.specs.declared.answer.Shown as Told
use Rattle.cell.specs.declared.answer.Source.{Source}
use Rattle.cell.specs.declared.answer.Source.TheVariants.{Plan, Catalogue, Neither}
use Rattle.cell.specs.declared.answer.NoCell.{NoCell}
use Rattle.cell.specs.Numbered.{field_of, row_there, row_for, rows_for, own_span, in_range, cell_for, cell_at}
use Rattle.cell.specs.Answers.{Answer, numbers_of, source_number, Values, values_of, buffer, text_of, cell_told, is_dose, place_for, values_as, values_at, Lent, Slice, slice_of, part, text_in}
use Rattle.cell.specs.Found.{whole_shown, begun_shown, cut_shown, shown_found}
use Rattle.cell.proofs.Values.{stands, medication, named, formed, substances, row_numbered}
use Rattle.cell.proofs.Told.{for_medication, for_kind, there}
use Rattle.cell.proofs.Shows.{Shows, no_cell_lem, shown_as, empty_found, it, by_found, inside}

-- ---- one answer

-- what is promised of the answer and of the text of a call
pub record Promised (rows : List ℕ) (count : ℕ) (t k : Lent) (row n i : ℕ) (a : Answer) (r : Lent) : Type 0 where
  pub answer_is : values_of a ≡ values_at rows count t.now k.now row n i
  pub text_is : slice_of r ≡ text_in t k (values_at rows count t.now k.now row n i)

-- the answer with those values
abbrev answer_with : Values → Answer
answer_with v = if (eqb v.refusal.number 0) (Ok (record { source = v.source; at = v.at; len = v.len; more = v.more; omitted = v.omitted; zero = v.zero })) (Err (record {}))

answer_with_lem : (a : Answer) → answer_with (values_of a) ≡ a
answer_with_lem (Ok s) = refl
answer_with_lem (Err x) = refl

-- two answers with the same values are the same
pub same_answer : (a b : Answer) → values_of a ≡ values_of b → a ≡ b
same_answer a b e = sym (answer_with_lem a) ∙ ap answer_with e ∙ answer_with_lem b

-- what the machine has of a slice: its beginning and its length
abbrev machine : Slice → List Val
machine s = slice_val s.begins (length s.bytes) ∷ []

-- no second answer, and no second slice, meets the promises
pub once : (rows : List ℕ) (count : ℕ) (t k : Lent) (row n i : ℕ) (a b : Answer) (r s : Lent) → Promised rows count t k row n i a r → Promised rows count t k row n i b s
    → (a ≡ b) × (slice_of r ≡ slice_of s) × (shr_slice_vals r ≡ shr_slice_vals s)
once rows count t k row n i a b r s p q =
    let e = p.text_is ∙ sym q.text_is in
    (same_answer a b (p.answer_is ∙ sym q.answer_is), e, ap machine e)

-- nor any second number of a refusal or of a source
pub number_once : (a : Answer) (r s : ℕ) → r ≡ (numbers_of a).number → s ≡ (numbers_of a).number → r ≡ s
number_once a r s e f = e ∙ sym f

pub source_once : (x : Source) (r s : ℕ) → r ≡ source_number x → s ≡ source_number x → r ≡ s
source_once x r s e f = e ∙ sym f

-- ---- document 01's cell

-- the bytes of the part that an answer tells are those of the cell that it tells
told_bytes : (t k : Lent) (a : Answer) → (text_in t k (values_of a)).bytes ≡ text_of (cell_told t.now k.now a)
told_bytes t k (Err x) = refl
told_bytes t k (Ok s) = ap (λ (b : List ℕ). take s.len (drop s.at b)) (at s.source)
  where
    at : (x : Source) → (buffer x t k).now ≡ buffer x t.now k.now
    at Plan = refl
    at Catalogue = refl
    at Neither = refl

module _ (rows : List ℕ) (count : ℕ) (t k : Lent) (row n i : ℕ) (a : Answer) (r : Lent) (p : Promised rows count t k row n i a r) where
  -- the cell that is asked for
  abbrev asked : Cell
  asked = cell_at rows count t.now k.now row n i

  -- the answer tells it
  pub cell_answered : asked ≡ cell_told t.now k.now a
  cell_answered = by_found rows count t.now k.now row n i (λ v. (b : Answer) → values_of b ≡ v → asked ≡ cell_told t.now k.now b) refusal cells a p.answer_is
    where
      refusal : None ≡ it rows count t.now k.now row n i → (b : Answer) → values_of b ≡ values_of (Err (record {})) → asked ≡ cell_told t.now k.now b
      refusal x b e = no_cell_lem rows count t.now k.now row n i x ∙ ap (cell_told t.now k.now) (sym (same_answer b (Err (record {})) e))

      cells : (c : Found.Cell) → Some c ≡ it rows count t.now k.now row n i → (b : Answer) → values_of b ≡ values_of (Ok (shown_found t.now k.now c)) → asked ≡ cell_told t.now k.now b
      cells c x b e = (shown_as rows count t.now k.now row n i c x).tells ∙ ap (cell_told t.now k.now) (sym (same_answer b (Ok (shown_found t.now k.now c)) e))

  -- it is refusal 1 exactly where there is none
  pub refused_exactly : ((numbers_of a).number ≡ 1) ↔ (asked ≡ no_cell)
  refused_exactly = at a cell_answered
    where
      at : (b : Answer) → asked ≡ cell_told t.now k.now b → ((numbers_of b).number ≡ 1) ↔ (asked ≡ no_cell)
      at (Ok s) e = (λ x. absurd (omega (arith, x)), λ x. unequal (cc))
      at (Err y) e = (λ x. e, λ x. refl)

  -- ---- as a part of that buffer

  -- the text is that part of its buffer, and lies in it: the slice begins there, and its bytes are the cell's
  pub part_of : let v = values_of a in
      (slice_of r ≡ part (buffer v.source t k) v.at v.len) × (v.at + v.len ≤ length (buffer v.source t.now k.now)) × (r.now ≡ text_of asked)
  part_of =
      let e : slice_of r ≡ text_in t k (values_of a) = p.text_is ∙ sym (ap (text_in t k) p.answer_is) in
      let lies = subst (λ (v : Values). v.at + v.len ≤ length (buffer v.source t.now k.now)) (sym p.answer_is) (inside rows count t.now k.now row n i) in
      (e, lies, ap (λ (s : Slice). s.bytes) e ∙ told_bytes t k a ∙ ap text_of (sym cell_answered))

-- ---- the plan's own text first, and no catalogue for a dose

-- the place of a cell that is shown
as_shown : (q : Source × ℕ) (x : Cell) (s : Told.Shown) → values_of (Ok s) ≡ values_as q x → (s.source, s.at) ≡ q
as_shown q (cell t d o m) s e = ap (λ (v : Values). (v.source, v.at)) e
as_shown q no_cell s e = let z = ap (λ (v : Values). v.refusal.number) e in absurd (omega (arith, z))

-- what a place says of its source, by whether the value is absent, the field a dose and the catalogue empty
by_place : (b d m : Bool) (x : ℕ) (p : Source × ℕ) → p ≡ if b (if (d || m) (Neither, 0) (Catalogue, 0)) (Plan, x)
    → ((p.0 ≡ Plan) ↔ (b ≡ false)) × ((p.0 ≡ Catalogue) ↔ ((b ≡ true) × (d ≡ false) × (m ≡ false)))
by_place false d m x p e = let q : p.0 ≡ Plan = ap (λ (p : Source × ℕ). p.0) e in ((λ z. refl, λ z. q), (λ z. unequal (cc), λ z. no (sym z.0)))
by_place true true m x p e = let q : p.0 ≡ Neither = ap (λ (p : Source × ℕ). p.0) e in ((λ z. unequal (cc), λ z. no z), (λ z. unequal (cc), λ z. no z.1))
by_place true false true x p e = let q : p.0 ≡ Neither = ap (λ (p : Source × ℕ). p.0) e in ((λ z. unequal (cc), λ z. no z), (λ z. unequal (cc), λ z. no z.2))
by_place true false false x p e = let q : p.0 ≡ Catalogue = ap (λ (p : Source × ℕ). p.0) e in ((λ z. unequal (cc), λ z. no z), (λ z. (refl, refl, refl), λ z. q))

-- a medication's own value is there by its range
own_value : (t l : List ℕ) (f : CellField) (n : ℕ) → Limit f n → Indexed f → is_empty (own f (medication t l)) ≡ absent (own_span l f)
own_value t l f n of_name x = ap is_empty (named t l) ∙ stands t (span_in l 0)
own_value t l f n of_form x = ap is_empty (formed t l) ∙ stands t (span_in l 2)
own_value t l f n (of_substance i) x = ap is_empty (substances t l i x.0 x.1).0 ∙ stands t (span_in l (11 + 2 * i))
own_value t l f n (of_strength i) x = ap is_empty (substances t l i x.0 x.1).1 ∙ stands t (span_in l (12 + 2 * i))

-- a cell that is not refused is document 01's, of the rows that the numbers stand for, and its row is there
pub of_rows : (rows : List ℕ) (count : ℕ) (t k : List ℕ) (row : ℕ) (f : CellField) (x : List ℕ) (d : Bool) (o : ℕ) (m : Bool) → cell_for rows count t k row (some f) ≡ cell x d o m
    → (row_there rows count row ≡ true) × (cell_in (rows_for t count rows) row f k ≡ cell x d o m)
of_rows rows count t k row f x d o m = at (row_there rows count row) (in_range t (record_at rows (row - 1)) f)
  where
    at : (a b : Bool) → if (a && b) (cell_in (rows_for t count rows) row f k) no_cell ≡ cell x d o m → (a ≡ true) × (cell_in (rows_for t count rows) row f k ≡ cell x d o m)
    at true true e = (refl, e)
    at true false e = unequal (cc)
    at false b e = unequal (cc)

module _ (rows : List ℕ) (count : ℕ) (t k : Lent) (row n i : ℕ) (s : Told.Shown) (r : Lent) (p : Promised rows count t k row n i (Ok s) r) (f : CellField) (e : field_of n i ≡ some f) where
  -- the record of the row, and the rows that the numbers stand for
  abbrev record_at_lem : List ℕ
  record_at_lem = record_at rows (row - 1)

  abbrev rows_for_lem : List Row
  rows_for_lem = rows_for t.now count rows

  -- the text, as the answer tells it
  abbrev told_text : List ℕ
  told_text = take s.len (drop s.at (buffer s.source t.now k.now))

  told_long : length told_text ≡ s.len
  told_long = let h = (part_of rows count t k row n i (Ok s) r p).1 in simp (length-take, length-drop) (omega (arith, h))

  -- the cell is that of the field
  field_cell : cell_for rows count t.now k.now row (some f) ≡ cell told_text s.more s.omitted s.zero
  unfolding cell_at
  field_cell = ap (cell_for rows count t.now k.now row) (sym e) ∙ cell_answered rows count t k row n i (Ok s) r p

  shown_cell : (row_there rows count row ≡ true) × (cell_in rows_for_lem row f k.now ≡ cell told_text s.more s.omitted s.zero)
  shown_cell = of_rows rows count t.now k.now row f told_text s.more s.omitted s.zero field_cell

  place_is : (s.source, s.at) ≡ place_for record_at_lem (some f) k.now
  unfolding values_at
  place_is = as_shown (place_for record_at_lem (field_of n i) k.now) (cell_at rows count t.now k.now row n i) s p.answer_is ∙ ap (λ (o : Option CellField). place_for record_at_lem o k.now) e

  -- by whether the record has a value there
  sources : ((s.source ≡ Plan) ↔ (absent (own_span record_at_lem f) ≡ false)) × ((s.source ≡ Catalogue) ↔ ((absent (own_span record_at_lem f) ≡ true) × (is_dose f ≡ false) × (is_empty k.now ≡ false)))
  sources = by_place (absent (own_span record_at_lem f)) (is_dose f) (is_empty k.now) (own_span record_at_lem f).at (s.source, s.at) place_is

  -- the text is the plan's exactly if the row has a value of its own
  pub own_first : (m : ℕ) (q : Row) → Limit f m → RowAt rows_for_lem row q → (s.source ≡ Plan) ↔ (is_empty (own f q) ≡ false)
  own_first m q h a =
      let (y, c) = shown_cell in
      let (z, b, medic, x) = (is_cell rows_for_lem row f k.now).0 (told_text, s.more, s.omitted, s.zero, c) in
      let l = there rows count row y in
      let one : z ≡ row_for t.now record_at_lem = row_one rows_for_lem row z (row_for t.now record_at_lem) b (row_numbered (row_for t.now) (rows_for t.now) (λ n rs. refl) count rows row l.0 l.1) in
      let two : q ≡ row_for t.now record_at_lem = row_one rows_for_lem row q z a b ∙ one in
      let kind : kind_shown (get_or record_at_lem 0 0) ≡ M = sym (ap (λ (w : Row). w.kind) one ∙ for_kind t.now record_at_lem) ∙ medic in
      let empty : is_empty (own f q) ≡ absent (own_span record_at_lem f) = ap (λ (w : Row). is_empty (own f w)) (two ∙ for_medication t.now record_at_lem kind) ∙ own_value t.now record_at_lem f m h x in
      let (there-is, back) = sources.0 in
      (λ u. empty ∙ there-is u, λ u. back (sym empty ∙ u))

  -- a dose's is never the catalogue's
  pub dose_source : DoseCell f → s.source ≡ Catalogue → ⊥
  dose_source d u = at f d (sources.1.0 u).1
    where
      at : (f : CellField) → DoseCell f → is_dose f ≡ false → ⊥
      at f (timed_dose in_morning) z = no z
      at f (timed_dose at_midday) z = no z
      at f (timed_dose in_evening) z = no z
      at f (timed_dose at_night) z = no z
      at f free_dose_lem z = no z

  -- ---- limits, and what is left out

  -- what the cell shows of which text: a part by document 02's rule
  pub cut_of : (m : ℕ) → Limit f m → Cut rows_for_lem row m f k.now told_text s.more s.omitted s.zero
  cut_of m l = CellLaws.part_of rows_for_lem row m f k.now told_text s.more s.omitted s.zero l shown_cell.1

  -- the whole text: the plan's own value, else the catalogue's
  abbrev whole_of : (m : ℕ) → Limit f m → List ℕ
  whole_of m l = (cut_of m l).text

  -- what is shown and what is left out are the whole
  pub nothing_lost : (m : ℕ) (l : Limit f m) → s.len + s.omitted ≡ length (whole_of m l)
  nothing_lost m l = sym (ap (λ (x : ℕ). x + s.omitted) told_long) ∙ whole_again m (whole_of m l) told_text s.more s.omitted (cut_of m l).part

  -- "..." follows exactly where something is left out
  pub flag_exactly : (s.more ≡ true) ↔ (1 ≤ s.omitted)
  flag_exactly = flagged rows_for_lem row f k.now told_text s.more s.omitted s.zero shown_cell.1

  -- of a dose nothing is
  pub dose_whole : DoseCell f → s.omitted ≡ 0
  dose_whole d = (never_cut rows_for_lem row f k.now told_text s.more s.omitted s.zero d shown_cell.1).1

  -- without "..." a cell is at most its limit long
  pub within_limit : (m : ℕ) → Limit f m → s.more ≡ false → s.len ≤ m
  within_limit m l u =
      let c : cell_in rows_for_lem row f k.now ≡ cell told_text false s.omitted s.zero = shown_cell.1 ∙ ap (λ (b : Bool). cell told_text b s.omitted s.zero) u in
      subst (λ (x : ℕ). x ≤ m) told_long (whole_text rows_for_lem row m f k.now told_text s.omitted s.zero l c)

  -- with "..." its whole text is longer than the limit, and it is as long as the rule says
  pub cut_short : (m : ℕ) (l : Limit f m) → s.more ≡ true → (m < length (whole_of m l)) × Begun m (whole_of m l) s.len
  cut_short m l u =
      let (h, b) = begun_part m (whole_of m l) told_text s.more s.omitted (cut_of m l).part u in
      (h, subst (Begun m (whole_of m l)) told_long b)

-- a dose cell's answer does not depend on the catalogue
pub dose_alone : (rows : List ℕ) (count : ℕ) (t k k' : List ℕ) (row n i : ℕ) (f : CellField) → field_of n i ≡ some f → DoseCell f → values_at rows count t k row n i ≡ values_at rows count t k' row n i
unfolding values_at cell_at
dose_alone rows count t k k' row n i f e d = rw e (at f d ∙ ap (values_as (place_for (record_at rows (row - 1)) (some f) k')) cells)
  where
    cells : cell_for rows count t k row (some f) ≡ cell_for rows count t k' row (some f)
    cells = ap (λ (x : Cell). if (row_there rows count row && in_range t (record_at rows (row - 1)) f) x no_cell) (no_catalogue (rows_for t count rows) row f k k' d)

    at : (g : CellField) → DoseCell g → values_as (place_for (record_at rows (row - 1)) (some g) k) (cell_for rows count t k row (some f)) ≡ values_as (place_for (record_at rows (row - 1)) (some g) k') (cell_for rows count t k row (some f))
    at g (timed_dose in_morning) = refl
    at g (timed_dose at_midday) = refl
    at g (timed_dose in_evening) = refl
    at g (timed_dose at_night) = refl
    at g free_dose_lem = refl

-- ---- a text that is shown is not empty

-- the flag of a cell
abbrev flag_of : Cell → Bool
flag_of (cell t d o m) = d
flag_of no_cell = false

-- nor is one that is cut
cut_some : (rs : List Row) (j : ℕ) (f : CellField) (k t : List ℕ) (o : ℕ) (m : Bool) → cell_in rs j f k ≡ cell t true o m → 1 ≤ length t
cut_some rs j f k t o m e = at (sort f)
  where
    at : Sort f → 1 ≤ length t
    at (by_limit n l) = let v = (CellLaws.part_of rs j n f k t true o m l e).text in begins_some n v (length t) (limit_roomy f n l) (cut_text rs j n f k t o m l e).1
    at (by_dose d) = no (never_cut rs j f k t true o m d e).0

-- a text that is not cut, from the one or the other buffer
some_cut : (s : Source) (w : List ℕ) (a n limit : ℕ) → 1 ≤ n → (cut_shown s w a n limit).more ≡ false → 1 ≤ (cut_shown s w a n limit).len
some_cut s w a n limit h = at (leb n limit)
  where
    at : (b : Bool) → (if b (whole_shown s a n false) (begun_shown s a n (shown_of limit (drop a w)))).more ≡ false → 1 ≤ (if b (whole_shown s a n false) (begun_shown s a n (shown_of limit (drop a w)))).len
    at true e = h
    at false e = no e

some_found : (t k : List ℕ) (c : Found.Cell) → (shown_found t k c).more ≡ false → ((shown_found t k c).source ≡ Neither → ⊥) → 1 ≤ (shown_found t k c).len
some_found t k c = at (eqb c.limit 0) (eqb c.own.len 0) refl (eqb (length k) 0) refl
  where
    -- what is shown, by whether the cell is a dose, its value absent and the catalogue empty
    by : Bool → Bool → Bool → Told.Shown
    by b z y = if b (if z (whole_shown Neither 0 0 c.zero) (whole_shown Plan c.own.at c.own.len c.zero))
        (if z (if y (whole_shown Neither 0 0 false) (cut_shown Catalogue k 0 (length k) c.limit)) (cut_shown Plan t c.own.at c.own.len c.limit))

    some : (n : ℕ) → eqb n 0 ≡ false → 1 ≤ n
    some n e = let h = eqb-false n 0 e in omega arith

    at : (b z : Bool) → eqb c.own.len 0 ≡ z → (y : Bool) → eqb (length k) 0 ≡ y → (by b z y).more ≡ false → ((by b z y).source ≡ Neither → ⊥) → 1 ≤ (by b z y).len
    at true true u y v e h = absurd (h refl)
    at true false u y v e h = some c.own.len u
    at false true u true v e h = absurd (h refl)
    at false true u false v e h = some_cut Catalogue k 0 (length k) c.limit (some (length k) v) e
    at false false u y v e h = some_cut Plan t c.own.at c.own.len c.limit (some c.own.len u) e

module _ (rows : List ℕ) (count : ℕ) (t k : List ℕ) (row n i : ℕ) (x : List ℕ) (d : Bool) (o : ℕ) (m : Bool) (e : cell_at rows count t k row n i ≡ cell x d o m) where
  -- a cell is found
  found_here : (c : Found.Cell) × (Some c ≡ it rows count t k row n i)
  found_here = at (it rows count t k row n i) refl
    where
      at : (y : Maybe Found.Cell) → y ≡ it rows count t k row n i → (c : Found.Cell) × (Some c ≡ it rows count t k row n i)
      at None r = let z : no_cell ≡ cell x d o m = sym (no_cell_lem rows count t k row n i r) ∙ e in unequal (cc)
      at (Some c) r = (c, r)

  -- what is shown
  abbrev shown_here : Told.Shown
  shown_here = shown_found t k found_here.0

  shows_it : Shows t k (cell_at rows count t k row n i) (place_for (record_at rows (row - 1)) (field_of n i) k) shown_here
  shows_it = shown_as rows count t k row n i found_here.0 found_here.1

  -- the cell is what it tells
  told_is : cell x d o m ≡ cell_told t k (Ok shown_here)
  told_is = sym e ∙ shows_it.tells

  told_length : shown_here.len ≡ length x
  told_length =
      let s = shown_here in
      let same : x ≡ take s.len (drop s.at (buffer s.source t k)) = ap text_of told_is in
      let h = shows_it.inside in
      let long : length (take s.len (drop s.at (buffer s.source t k))) ≡ s.len = simp (length-take, length-drop) (omega (arith, h)) in
      sym (ap length same ∙ long)

  -- a text that comes from a buffer is not empty
  some_text : (shown_here.source ≡ Neither → ⊥) → 1 ≤ length x
  unfolding cell_at
  some_text h = at d refl
    where
      by : (f : Option CellField) → cell_for rows count t k row f ≡ cell x true o m → 1 ≤ length x
      by none q = unequal (cc)
      by (some f) q = cut_some (rows_for t count rows) row f k x o m (of_rows rows count t k row f x true o m q).1

      at : (b : Bool) → d ≡ b → 1 ≤ length x
      at true q = by (field_of n i) (e ∙ ap (λ (b : Bool). cell x b o m) q)
      at false q = let whole : shown_here.more ≡ false = sym (ap flag_of told_is) ∙ q in let h = some_found t k found_here.0 whole h in omega (arith, told_length)

  -- it comes from neither buffer exactly where it is empty
  pub from_neither : ((place_for (record_at rows (row - 1)) (field_of n i) k).0 ≡ Neither) ↔ (x ≡ [])
  from_neither =
      let source : (place_for (record_at rows (row - 1)) (field_of n i) k).0 ≡ shown_here.source = ap (λ (p : Source × ℕ). p.0) shows_it.place in
      (λ q. nil x (sym told_length ∙ (empty_found t k found_here.0 (sym source ∙ q)).1), λ q. source ∙ at shown_here.source (λ z. some_text z) q)
    where
      nil : (v : List ℕ) → length v ≡ 0 → v ≡ []
      nil [] q = refl
      nil (c ∷ v) q = absurd (omega arith)

      at : (s : Source) → ((s ≡ Neither → ⊥) → 1 ≤ length x) → x ≡ [] → s ≡ Neither
      at Neither h q = refl
      at Plan h q = absurd (omega (arith, ap length q, h (λ z. unequal (cc))))
      at Catalogue h q = absurd (omega (arith, ap length q, h (λ z. unequal (cc))))
