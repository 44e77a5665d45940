-- Shows: what the code answers of the cell that it has found is what document 01 answers, and a part of its buffer.
-- Assumes nothing.
use Rattle.std.specs.Prelude.{Some, None, Option as Maybe, IfSome, Ok, Err}
use mathlib.Core.Path.{◌≡◌, refl, sym, ap, subst, ◌∙◌}
use mathlib.Core.Bool.{Bool, true, false, ◌||◌}
use mathlib.Core.List.{List, [], ◌∷◌}
use mathlib.Core.Option.{Option, none, some}
use Prim.Native.Nat.{ℕ, suc, ◌+◌, ◌-◌, ◌*◌, ◌≤◌}
use native.Mathlib.Nat.{zero-add}
use native.Mathlib.Omega.{arith}
use lib.Dec.{eqb, leb}
use lib.ListN.{length, take, drop, get_or, length-take, length-drop}
use lib.Seq.{take-length, take-take}
use borrow.Author.Tests.{ne_eqb, eqb-true, leb-true, leb-false, le-leb}
use Rattle.paper.specs.Lists.{if, is_empty}
use Rattle.paper.specs.Layout.{shown}
use Rattle.paper.specs.Cells.{CellField, name, form, morning, midday, evening, night, free_dose, substance, strength, Cell, cell, no_cell, shown_of, cut_to, own_or, of_three}
use Rattle.paper.proofs.Small.{no, unequal}
use Rattle.paper.proofs.CellLaws.{begins, begins_near}
use Rattle.plan.specs.Numbers.{record_at, within, paper_span}
use Rattle.plan.specs.Records.{no_span, row_in}
use Rattle.plan.specs.declared.Span as Code
use Rattle.plan.specs.declared.Times.{Times}
use Rattle.plan.specs.declared.Dose.{Dose}
use Rattle.plan.specs.declared.Dose.TheVariants.{Scheme, Free, Unstated}
use Rattle.plan.specs.declared.Row.{Row}
use Rattle.plan.proofs.Doses.{shows}
use Rattle.cell.specs.declared.Cell as Found
use Rattle.cell.specs.declared.answer.Shown as Told
use Rattle.cell.specs.declared.answer.Source.{Source}
use Rattle.cell.specs.declared.answer.Source.TheVariants.{Plan, Catalogue, Neither}
use Rattle.cell.specs.declared.answer.NoCell.{NoCell}
use Rattle.cell.specs.Numbered.{field_of, row_there, cell_at}
use Rattle.cell.specs.Answers.{Values, values_of, buffer, cell_told, place_for, values_as, values_at, Lent, Slice, part, text_in}
use Rattle.cell.specs.Found.{text_found, time_found, free_found, three_found, field_found, held, is_medication, row_found, found, Roomy, whole_shown, begun_shown, cut_shown, shown_found}
use Rattle.cell.proofs.Told.{told_shown, told, cell_told_lem}
use Rattle.cell.proofs.Placed.{place_found, there_found}
use Rattle.cell.proofs.Cuts.{shown_of_part}

-- ---- what holds of every cell that is found

-- a limit leaves room for "...", and a value lies in the text
abbrev Sound : ℕ → Found.Cell → Type 0
Sound size c = Roomy c × (within size (paper_span c.own) ≡ true)

roomy_three : (texts : List Code.Span) (j i n : ℕ) → 3 ≤ n → IfSome (three_found texts j i n) Roomy
roomy_three texts j i n h = at (of_three i)
  where
    at : (b : Bool) → IfSome (if b (Some (text_found (get_or texts (j + 2 * i) no_span) n)) None) Roomy
    at true = λ q. h
    at false = tt

roomy_time : (w : Times → Code.Span) (d : Dose) → Roomy (time_found w d)
roomy_time w (Scheme x) h = absurd (h refl)
roomy_time w (Free s) h = absurd (h refl)
roomy_time w Unstated h = absurd (h refl)

roomy_free : (d : Dose) → Roomy (free_found d)
roomy_free (Scheme x) h = absurd (h refl)
roomy_free (Free s) h = absurd (h refl)
roomy_free Unstated h = absurd (h refl)

roomy_field : (r : Row) (o : Option CellField) → IfSome (field_found r o) Roomy
roomy_field r none = tt
roomy_field r (some name) = λ h. omega arith
roomy_field r (some form) = λ h. omega arith
roomy_field r (some (substance i)) = roomy_three r.texts 6 i 80 (omega arith)
roomy_field r (some (strength i)) = roomy_three r.texts 7 i 15 (omega arith)
roomy_field r (some morning) = roomy_time (λ x. x.morning) r.dose
roomy_field r (some midday) = roomy_time (λ x. x.midday) r.dose
roomy_field r (some evening) = roomy_time (λ x. x.evening) r.dose
roomy_field r (some night) = roomy_time (λ x. x.night) r.dose
roomy_field r (some free_dose) = roomy_free r.dose

sound_held : (size : ℕ) (o : Maybe Found.Cell) → IfSome o Roomy → IfSome (held size o) (Sound size)
sound_held size None f = tt
sound_held size (Some c) f = at (within size (paper_span c.own)) refl
  where
    at : (b : Bool) → within size (paper_span c.own) ≡ b → IfSome (if b (Some c) None) (Sound size)
    at true e = (f, e)
    at false e = tt

sound_if : (size : ℕ) (b : Bool) (o : Maybe Found.Cell) → IfSome o (Sound size) → IfSome (if b o None) (Sound size)
sound_if size true o s = s
sound_if size false o s = tt

sound_found : (rows : List ℕ) (count size row : ℕ) (o : Option CellField) → IfSome (found rows count size row o) (Sound size)
unfolding found
sound_found rows count size row o =
    let r = row_in (record_at rows (row - 1)) in
    sound_if size (row_there rows count row) (row_found size r o) (sound_if size (is_medication r.kind) (held size (field_found r o)) (sound_held size (field_found r o) (roomy_field r o)))

-- ---- what is shown of a cell

-- what is shown tells the cell x, whose text begins at the place p, and lies in its buffer
pub record Shows (t k : List ℕ) (x : Cell) (p : Source × ℕ) (s : Told.Shown) : Type 0 where
  pub tells : x ≡ cell_told t k (Ok s)
  pub inside : s.at + s.len ≤ length (buffer s.source t k)
  pub place : p ≡ (s.source, s.at)

-- so it has the values that document 01 gives the cell
pub values_are : (t k : List ℕ) (x : Cell) (p : Source × ℕ) (s : Told.Shown) → Shows t k x p s → values_of (Ok s) ≡ values_as p x
values_are t k x p s S =
    let long : length (take s.len (drop s.at (buffer s.source t k))) ≡ s.len = simp (length-take, length-drop) (omega (arith, S.inside)) in
    rw (S.tells, S.place, long)

-- n bytes of a buffer, up to a limit
cut_shows : (t k : List ℕ) (s : Source) (a n limit : ℕ) (v : List ℕ) → v ≡ take n (drop a (buffer s t k)) → a + n ≤ length (buffer s t k)
    → Shows t k (cut_to limit v) (s, a) (cut_shown s (buffer s t k) a n limit)
cut_shows t k s a n limit v e h = rw long (at (leb n limit) refl)
  where
    b : List ℕ
    b = drop a (buffer s t k)

    long : length v ≡ n
    long = rw e (simp (length-take, length-drop) (omega (arith, h)))

    at : (x : Bool) → leb n limit ≡ x
        → Shows t k (if x (cell v false 0 false) (cell (take (shown_of limit v) v) true (n - shown_of limit v) false)) (s, a) (if x (whole_shown s a n false) (begun_shown s a n (shown_of limit b)))
    at true q = record { tells = ap (λ (w : List ℕ). cell w false 0 false) e; inside = h; place = refl }
    at false q =
        let l = leb-false n limit q in
        let i : shown_of limit v ≡ shown_of limit b = ap (shown_of limit) e ∙ shown_of_part limit n b (omega arith) in
        let near = (begins_near limit b (shown_of limit b) (begins limit b)).0 in
        record {
          tells = rw i (ap (λ (w : List ℕ). cell w true (n - shown_of limit b) false) (ap (take (shown_of limit b)) e ∙ take-take (shown_of limit b) n b (omega arith)));
          inside = omega arith;
          place = refl;
        }

-- a value that is there is shown, and not the catalogue's text
own_there : (v k : List ℕ) → is_empty v ≡ false → own_or v k ≡ v
own_there [] k e = no e
own_there (c ∷ v) k e = refl

module _ (t : List ℕ) (c : Found.Cell) (w : within (length t) (paper_span c.own) ≡ true) where
  -- its value in the text
  abbrev value : List ℕ
  value = shown t (paper_span c.own)

  module _ (h : eqb c.own.len 0 ≡ false) where
    pub lies : c.own.at + c.own.len ≤ length t
    lies = leb-true (c.own.at + c.own.len) (length t) (rw h at w)

    there : is_empty value ≡ false
    there = shows t (paper_span c.own) w ∙ h

  -- an absent one shows nothing
  nothing : eqb c.own.len 0 ≡ true → value ≡ []
  nothing h = rw (eqb-true c.own.len 0 h)

  -- a dose is shown whole, any other text up to its limit; the catalogue's where the plan has none
  found_shows : (k : List ℕ) → Shows t k (told_shown t k c) (place_found k c) (shown_found t k c)
  found_shows k = at (eqb c.limit 0) (eqb c.own.len 0) refl refl k
    where
      at : (b z : Bool) → eqb c.limit 0 ≡ b → eqb c.own.len 0 ≡ z → (k : List ℕ)
          → Shows t k (if b (cell value false 0 c.zero) (cut_to c.limit (own_or value k))) (if z (if (b || is_empty k) (Neither, 0) (Catalogue, 0)) (Plan, c.own.at))
          (if b (if z (whole_shown Neither 0 0 c.zero) (whole_shown Plan c.own.at c.own.len c.zero))
          (if z (if (eqb (length k) 0) (whole_shown Neither 0 0 false) (cut_shown Catalogue k 0 (length k) c.limit)) (cut_shown Plan t c.own.at c.own.len c.limit)))
      at true true x y k = record { tells = ap (λ (v : List ℕ). cell v false 0 c.zero) (nothing y); inside = omega arith; place = refl }
      at true false x y k = record { tells = refl; inside = lies y; place = refl }
      at false true x y [] = record { tells = rw (nothing y, le-leb 0 c.limit (omega arith)); inside = omega arith; place = refl }
      at false true x y (d ∷ k) =
          let some : eqb (suc (length k)) 0 ≡ false = ne_eqb (suc (length k)) 0 (omega arith) in
          rw (nothing y, some) (cut_shows t (d ∷ k) Catalogue 0 (suc (length k)) c.limit (d ∷ k) (sym (take-length (d ∷ k))) (omega arith))
      at false false x y k = rw (own_there value k (there y)) (cut_shows t k Plan c.own.at c.own.len c.limit value refl (lies y))

-- ---- the cell that is asked for

module _ (rows : List ℕ) (count : ℕ) (t k : List ℕ) (row n i : ℕ) where
  cell_is : (o : Maybe Found.Cell) → o ≡ found rows count (length t) row (field_of n i) → told t k o ≡ cell_at rows count t k row n i
  cell_is o e = ap (told t k) e ∙ cell_told_lem t k rows count row n i

  module _ (e : None ≡ found rows count (length t) row (field_of n i)) where
    -- where none is found, it is document 01's refusal
    pub no_cell_lem : cell_at rows count t k row n i ≡ no_cell
    no_cell_lem = sym (cell_is None e)

    pub refuses : (x : NoCell) → values_of (Err x) ≡ values_at rows count t k row n i
    unfolding values_at
    refuses x = rw no_cell_lem

  module _ (c : Found.Cell) (e : Some c ≡ found rows count (length t) row (field_of n i)) where
    -- a limit leaves room, and a value lies in the text
    pub roomy : Roomy c × (within (length t) (paper_span c.own) ≡ true)
    roomy = subst (λ (o : Maybe Found.Cell). IfSome o (Sound (length t))) (sym e) (sound_found rows count (length t) row (field_of n i))

    -- a cell that is found is shown as document 01 shows it
    pub shown_as : Shows t k (cell_at rows count t k row n i) (place_for (record_at rows (row - 1)) (field_of n i) k) (shown_found t k c)
    shown_as =
        let l = record_at rows (row - 1) in
        let x : cell_at rows count t k row n i ≡ told_shown t k c = sym (cell_is (Some c) e) in
        let p = subst (λ (o : Maybe Found.Cell). IfSome o (λ d. place_for l (field_of n i) k ≡ place_found k d)) (sym e) (there_found k rows count (length t) row (field_of n i)) in
        let S = found_shows t c roomy.1 k in
        record { tells = x ∙ S.tells; inside = S.inside; place = p ∙ S.place }

    pub showing : values_of (Ok (shown_found t k c)) ≡ values_at rows count t k row n i
    unfolding values_at
    showing = values_are t k (cell_at rows count t k row n i) (place_for (record_at rows (row - 1)) (field_of n i) k) (shown_found t k c) shown_as

-- ---- any answer

-- the part that values tell lies in its buffer
abbrev Inside : List ℕ → List ℕ → Values → Type 0
Inside t k v = v.at + v.len ≤ length (buffer v.source t k)

-- with neither it is the empty beginning
abbrev pub Empty : Values → Type 0
Empty v = v.source ≡ Neither → (v.at ≡ 0) × (v.len ≡ 0)

empty_cut : (s : Source) (w : List ℕ) (a n limit : ℕ) → (s ≡ Neither → ⊥) → Empty (values_of (Ok (cut_shown s w a n limit)))
empty_cut s w a n limit h = at (leb n limit)
  where
    at : (b : Bool) → Empty (values_of (Ok (if b (whole_shown s a n false) (begun_shown s a n (shown_of limit (drop a w))))))
    at true e = absurd (h e)
    at false e = absurd (h e)

pub empty_found : (t k : List ℕ) (c : Found.Cell) → Empty (values_of (Ok (shown_found t k c)))
empty_found t k c = at (eqb c.limit 0) (eqb c.own.len 0) (eqb (length k) 0)
  where
    at : (b z y : Bool)
        → Empty (values_of (Ok (if b (if z (whole_shown Neither 0 0 c.zero) (whole_shown Plan c.own.at c.own.len c.zero))
        (if z (if y (whole_shown Neither 0 0 false) (cut_shown Catalogue k 0 (length k) c.limit)) (cut_shown Plan t c.own.at c.own.len c.limit)))))
    at true true y = λ e. (refl, refl)
    at true false y = λ e. unequal (cc)
    at false true true = λ e. (refl, refl)
    at false true false = empty_cut Catalogue k 0 (length k) c.limit (λ e. unequal (cc))
    at false false y = empty_cut Plan t c.own.at c.own.len c.limit (λ e. unequal (cc))

module _ (rows : List ℕ) (count : ℕ) (t k : List ℕ) (row n i : ℕ) where
  -- what is found
  abbrev pub it : Maybe Found.Cell
  it = found rows count (length t) row (field_of n i)

  -- a fact about values holds of those that a call is answered with, if it holds of those where none is found, and of those of one that is
  pub by_found : (P : Values → Type 0) → (None ≡ it → P (values_of (Err (record {})))) → ((c : Found.Cell) → Some c ≡ it → P (values_of (Ok (shown_found t k c)))) → P (values_at rows count t k row n i)
  by_found P p q = at it refl
    where
      at : (o : Maybe Found.Cell) → o ≡ it → P (values_at rows count t k row n i)
      at None r = subst P (refuses rows count t k row n i r (record {})) (p r)
      at (Some c) r = subst P (showing rows count t k row n i c r) (q c r)

  pub inside : Inside t k (values_at rows count t k row n i)
  inside = by_found (Inside t k) (λ r. omega arith) (λ c r. (shown_as rows count t k row n i c r).inside)

  pub neither : Empty (values_at rows count t k row n i)
  neither = by_found Empty (λ r e. (refl, refl)) (λ c r. empty_found t k c)

-- ---- the text of an answer

-- the empty beginning of a slice
abbrev pub start : Lent → Slice
start t = record { begins = t.ref_ptr; bytes = [] }

start_is : (t : Lent) → start t ≡ part t 0 0
start_is t = ap (λ (o : ℕ). record { begins = (t.ref_ptr.0, o); bytes = [] }) (sym (zero-add t.ref_ptr.1))

module _ (rows : List ℕ) (count : ℕ) (t k : Lent) (row n i : ℕ) where
  -- what the answer is held against
  abbrev values : Values
  values = values_at rows count t.now k.now row n i

  module _ (s : Told.Shown) (e : values_of (Ok s) ≡ values) where
    -- the part of its source's slice lies in it, and is the text
    pub part_lies : (from : Source) → s.source ≡ from → s.at + s.len ≤ length (buffer from t.now k.now)
    part_lies from q = subst (λ (x : Source). s.at + s.len ≤ length (buffer x t.now k.now)) q (subst (Inside t.now k.now) (sym e) (inside rows count t.now k.now row n i))

    pub part_is : (from : Source) → s.source ≡ from → part (buffer from t k) s.at s.len ≡ text_in t k values
    part_is from q = ap (λ (x : Source). part (buffer x t k) s.at s.len) (sym q) ∙ ap (text_in t k) e

    -- with neither it is the empty beginning of the plan's
    pub empty_is : s.source ≡ Neither → start t ≡ text_in t k values
    empty_is q =
        let (a, l) = subst Empty (sym e) (neither rows count t.now k.now row n i) q in
        start_is t ∙ rw (a, l) at (part_is Neither q)

  pub refused_is : (x : NoCell) → values_of (Err x) ≡ values → start t ≡ text_in t k values
  refused_is x e = start_is t ∙ ap (text_in t k) e
