-- Causes: refusal 13 of document 01 for a plan in numbers, exactly: "breaks a rule above, holds a value in a form that reading never gives, or points outside its text",
-- and its place: "first bad row counted from 1, 0 for the head, head first".
-- Assumes nothing.
use mathlib.Core.Path.{◌≡◌, refl, sym, ap, ◌∙◌, subst}
use mathlib.Core.Bool.{Bool, true, false, ◌&&◌}
use mathlib.Core.Logic.{◌↔◌, ◌⊎◌, inl, inr}
use mathlib.Core.List.{List}
use Prim.Native.Nat.{ℕ, zero, suc, ◌+◌, ◌<◌}
use native.Mathlib.Omega.{arith}
use lib.ListN.{take, drop, get_or}
use Rattle.paper.specs.Lists.{if, every}
use Rattle.paper.specs.Writing.{sound_head, sound_row, sound, first_bad, place13}
use Rattle.paper.proofs.Small.{no, both}
use Rattle.plan.specs.Numbers.{record_at, show_head, show_row, show_rows, show_plan, head_in_text, in_text, known_kind, spare_absent, fit_record, fit_rows}
use Rattle.plan.specs.declared.Plan.{Plan}
use Rattle.plan.proofs.Shown.{unknown_refused}
use Rattle.plan.proofs.Records.{records_behind}
use Rattle.sound.specs.Sound.{head_sound, record_sound, records_sound, first_bad_in, numbers_sound, bad_place}
use Rattle.sound.proofs.RecordLaws.{so_not}
use Rattle.sound.proofs.SoundLaws.{each_sound, each_shown, each_fit, plan_sound}

-- ---- a head and a row

-- a head that is bad: it points outside its text, or the head that it shows breaks a rule
pub data BadHead (t : List ℕ) (p : Plan) : Type 0 where
  head_outside : head_in_text t p ≡ false → BadHead t p
  head_broken : sound_head (show_head t p) ≡ false → BadHead t p

-- a row that is bad: its record points outside the text, or holds a value or a package number that its kind does not have, or the row that it shows breaks a rule.
-- A record of no kind shows a row of no kind, and that breaks one.
pub data BadRow (t l : List ℕ) : Type 0 where
  row_outside : in_text t l ≡ false → BadRow t l
  row_spare : spare_absent l ≡ false → BadRow t l
  row_broken : sound_row (show_row t l) ≡ false → BadRow t l

-- one of two tests fails
one_fails : (a b : Bool) → (a && b) ≡ false → (a ≡ false) ⊎ (b ≡ false)
one_fails true b e = inr e
one_fails false b e = inl refl

-- a head is bad exactly when it is not sound
pub head_bad : (t : List ℕ) (p : Plan) → (head_sound t p ≡ false) ↔ BadHead t p
unfolding head_sound
head_bad t p = (λ e. there (one_fails (head_in_text t p) (sound_head (show_head t p)) e), λ b. so_not (head_in_text t p && sound_head (show_head t p)) (λ s. back (both (head_in_text t p) (sound_head (show_head t p)) s) b))
  where
    there : (head_in_text t p ≡ false) ⊎ (sound_head (show_head t p) ≡ false) → BadHead t p
    there (inl e) = head_outside e
    there (inr e) = head_broken e

    back : (head_in_text t p ≡ true) × (sound_head (show_head t p) ≡ true) → BadHead t p → ⊥
    back (i, s) (head_outside e) = no (sym i ∙ e)
    back (i, s) (head_broken e) = no (sym s ∙ e)

-- where the record points nowhere outside the text and holds nothing to spare, the row that it shows decides
pub row_decides : (t l : List ℕ) → in_text t l ≡ true → spare_absent l ≡ true → record_sound t l ≡ sound_row (show_row t l)
unfolding record_sound
row_decides t l i s = at (known_kind (get_or l 0 0)) refl
  where
    at : (b : Bool) → known_kind (get_or l 0 0) ≡ b → record_sound t l ≡ sound_row (show_row t l)
    at true e = rw (e, i, s)
    at false e = rw (e, unknown_refused t l e)

-- a row is bad exactly when its record is not sound
pub row_bad : (t l : List ℕ) → (record_sound t l ≡ false) ↔ BadRow t l
unfolding record_sound
row_bad t l = (λ e. there (in_text t l) refl (spare_absent l) refl e, λ b. so_not (fit_record t l && sound_row (show_row t l)) (λ s. back (both (fit_record t l) (sound_row (show_row t l)) s) b))
  where
    there : (a : Bool) → in_text t l ≡ a → (b : Bool) → spare_absent l ≡ b → record_sound t l ≡ false → BadRow t l
    there true i true s e = row_broken (sym (row_decides t l i s) ∙ e)
    there true i false s e = row_spare s
    there false i b s e = row_outside i

    back : (fit_record t l ≡ true) × (sound_row (show_row t l) ≡ true) → BadRow t l → ⊥
    back (f, s) b = let (i, a) = both (in_text t l) (spare_absent l) (both (known_kind (get_or l 0 0)) (in_text t l && spare_absent l) f).1 in at i a b
      where
        at : in_text t l ≡ true → spare_absent l ≡ true → BadRow t l → ⊥
        at i a (row_outside e) = no (sym i ∙ e)
        at i a (row_spare e) = no (sym a ∙ e)
        at i a (row_broken e) = no (sym s ∙ e)

-- ---- the place

-- of the first n rows, row k, counted from 0, is bad, and every row before it is sound
pub record FirstBadRow (t : List ℕ) (n : ℕ) (rows : List ℕ) (k : ℕ) : Type 0 where
  pub row : k < n
  pub before : (j : ℕ) → j < k → record_sound t (record_at rows j) ≡ true
  pub bad : BadRow t (record_at rows k)

-- "first bad row counted from 1, 0 for the head, head first"
pub data BadAt (t : List ℕ) (p : Plan) (rows : List ℕ) : ℕ → Type 0 where
  at_head : BadHead t p → BadAt t p rows 0
  at_row : (k : ℕ) → head_sound t p ≡ true → FirstBadRow t p.rows rows k → BadAt t p rows (suc k)

-- record j behind the first one
behind : (rows : List ℕ) (j : ℕ) → record_at (drop 48 rows) j ≡ record_at rows (suc j)
behind rows j = ap (take 48) (records_behind j rows)

module _ (t : List ℕ) (n : ℕ) (rows : List ℕ) where
  -- the first row is the first bad one
  here : record_sound t (take 48 rows) ≡ false → FirstBadRow t (suc n) rows 0
  here e = record { row = omega arith; before = λ j h. absurd (omega arith); bad = (row_bad t (take 48 rows)).0 e }

  -- or it is sound, and the first bad one stands behind it
  later : (k : ℕ) → record_sound t (take 48 rows) ≡ true → FirstBadRow t n (drop 48 rows) k → FirstBadRow t (suc n) rows (suc k)
  later k e b = record { row = omega (arith, b.row); before = all; bad = subst (BadRow t) (behind rows k) b.bad }
    where
      all : (j : ℕ) → j < suc k → record_sound t (record_at rows j) ≡ true
      all zero h = e
      all (suc j) h = ap (record_sound t) (sym (behind rows j)) ∙ b.before j (omega arith)

  sooner : (k : ℕ) → FirstBadRow t (suc n) rows (suc k) → FirstBadRow t n (drop 48 rows) k
  sooner k b =
      record {
        row = omega (arith, b.row);
        before = λ j h. ap (record_sound t) (behind rows j) ∙ b.before (suc j) (omega arith);
        bad = subst (BadRow t) (sym (behind rows k)) b.bad;
      }

-- records that are not all sound have a first bad one
found : (t : List ℕ) (n : ℕ) (rows : List ℕ) → records_sound t n rows ≡ false → (k : ℕ) × FirstBadRow t n rows k
found t zero rows e = no e
found t (suc n) rows e = at (record_sound t (take 48 rows)) refl e (found t n (drop 48 rows))
  where
    at : (b : Bool) → record_sound t (take 48 rows) ≡ b → (b && records_sound t n (drop 48 rows)) ≡ false → (records_sound t n (drop 48 rows) ≡ false → (k : ℕ) × FirstBadRow t n (drop 48 rows) k)
        → (k : ℕ) × FirstBadRow t (suc n) rows k
    at true x e ih = let (k, b) = ih e in (suc k, later t n rows k x b)
    at false x e ih = (0, here t n rows x)

-- and that one is told, counted from any number
told : (t : List ℕ) (n : ℕ) (rows : List ℕ) (c k : ℕ) → FirstBadRow t n rows k → (records_sound t n rows ≡ false) × (first_bad_in c t n rows ≡ c + k)
told t zero rows c k b = absurd (omega (arith, b.row))
told t (suc n) rows c zero b = rw ((row_bad t (take 48 rows)).1 b.bad) (refl, omega arith)
told t (suc n) rows c (suc k) b = let (u, v) = told t n (drop 48 rows) (suc c) k (sooner t n rows k b) in rw (b.before 0 (omega arith)) (u, omega (arith, v))

-- numbers are not sound, and 13 has the place i, exactly when i is the first bad place
pub bad_place_lem : (t : List ℕ) (p : Plan) (rows : List ℕ) (i : ℕ) → ((numbers_sound t p rows ≡ false) × (bad_place t p rows ≡ i)) ↔ BadAt t p rows i
bad_place_lem t p rows i = (λ (s, e). subst (BadAt t p rows) e (there (head_sound t p) refl s), back)
  where
    there : (b : Bool) → head_sound t p ≡ b → (b && records_sound t p.rows rows) ≡ false → BadAt t p rows (if b (first_bad_in 1 t p.rows rows) 0)
    there true h s =
        let (k, b) = found t p.rows rows s in
        let e : suc k ≡ first_bad_in 1 t p.rows rows = omega (arith, (told t p.rows rows 1 k b).1) in
        subst (BadAt t p rows) e (at_row k h b)
    there false h s = at_head ((head_bad t p).0 h)

    back : {i : ℕ} → BadAt t p rows i → (numbers_sound t p rows ≡ false) × (bad_place t p rows ≡ i)
    back (at_head b) = rw ((head_bad t p).1 b) (refl, refl)
    back (at_row k h b) = let (u, v) = told t p.rows rows 1 k b in rw h (u, omega (arith, v))

-- ---- the cause

-- "breaks a rule above, holds a value in a form that reading never gives, or points outside its text": the head or a row points outside the text; a row holds a value or a
-- package number that its kind does not have; or the plan that the numbers show is not sound
pub data BadPlan (t : List ℕ) (p : Plan) (rows : List ℕ) : Type 0 where
  outside_head : head_in_text t p ≡ false → BadPlan t p rows
  outside_row : (k : ℕ) → k < p.rows → in_text t (record_at rows k) ≡ false → BadPlan t p rows
  spare_row : (k : ℕ) → k < p.rows → spare_absent (record_at rows k) ≡ false → BadPlan t p rows
  broken : sound (show_plan t p rows) ≡ false → BadPlan t p rows

-- numbers are not sound for just these causes
pub bad_plan : (t : List ℕ) (p : Plan) (rows : List ℕ) → (numbers_sound t p rows ≡ false) ↔ BadPlan t p rows
bad_plan t p rows = (λ e. there ((bad_place_lem t p rows (bad_place t p rows)).0 (e, refl)), λ b. so_not (numbers_sound t p rows) (λ s. back s b))
  where
    of_row : (k : ℕ) → k < p.rows → BadRow t (record_at rows k) → BadPlan t p rows
    of_row k h (row_outside e) = outside_row k h e
    of_row k h (row_spare e) = spare_row k h e
    of_row k h (row_broken e) =
        broken (so_not (sound (show_plan t p rows)) (λ s. no (sym (each_shown t p.rows rows k h (both (sound_head (show_head t p)) (every sound_row (show_rows t p.rows rows)) s).1) ∙ e)))

    there : {i : ℕ} → BadAt t p rows i → BadPlan t p rows
    there (at_head (head_outside e)) = outside_head e
    there (at_head (head_broken e)) = broken (rw e)
    there (at_row k h b) = of_row k b.row b.bad

    no_row : (k : ℕ) → k < p.rows → numbers_sound t p rows ≡ true → BadRow t (record_at rows k) → ⊥
    no_row k h s b = no (sym (each_sound t p.rows rows k h (both (head_sound t p) (records_sound t p.rows rows) s).1) ∙ (row_bad t (record_at rows k)).1 b)

    back : numbers_sound t p rows ≡ true → BadPlan t p rows → ⊥
    back s (outside_head e) = no (sym (both (head_sound t p) (records_sound t p.rows rows) s).0 ∙ (head_bad t p).1 (head_outside e))
    back s (outside_row k h e) = no_row k h s (row_outside e)
    back s (spare_row k h e) = no_row k h s (row_spare e)
    back s (broken e) = no (sym (plan_sound t p rows s) ∙ e)

-- ---- numbers that only the plan shown decides about

-- nothing points outside the text, and no row holds a value or a package number that its kind does not have
pub record Fit (t : List ℕ) (p : Plan) (rows : List ℕ) : Type 0 where
  pub head_inside : head_in_text t p ≡ true
  pub rows_inside : (k : ℕ) → k < p.rows → in_text t (record_at rows k) ≡ true
  pub none_spare : (k : ℕ) → k < p.rows → spare_absent (record_at rows k) ≡ true

-- numbers whose rows are all fit
pub fit : (t : List ℕ) (p : Plan) (rows : List ℕ) → head_in_text t p ≡ true → fit_rows t p.rows rows ≡ true → Fit t p rows
fit t p rows i f = record { head_inside = i; rows_inside = λ k h. (of_row k h).0; none_spare = λ k h. (of_row k h).1 }
  where
    of_row : (k : ℕ) → k < p.rows → (in_text t (record_at rows k) ≡ true) × (spare_absent (record_at rows k) ≡ true)
    of_row k h =
        let l : List ℕ = record_at rows k in
        both (in_text t l) (spare_absent l) (both (known_kind (get_or l 0 0)) (in_text t l && spare_absent l) (each_fit t p.rows rows k h f)).1

-- rows that decide one by one decide together
rows_decide : (t : List ℕ) (n : ℕ) (rows : List ℕ) (c : ℕ) → ((k : ℕ) → k < n → record_sound t (record_at rows k) ≡ sound_row (show_row t (record_at rows k)))
    → (records_sound t n rows ≡ every sound_row (show_rows t n rows)) × (first_bad_in c t n rows ≡ first_bad c (show_rows t n rows))
rows_decide t zero rows c d = (refl, refl)
rows_decide t (suc n) rows c d =
    let (u, v) = rows_decide t n (drop 48 rows) (suc c) (λ k h. subst (λ (l : List ℕ). record_sound t l ≡ sound_row (show_row t l)) (sym (behind rows k)) (d (suc k) (omega arith))) in
    rw (d 0 (omega arith), u, v) (refl, refl)

-- fit numbers are sound exactly when the plan that they show is, and the place of 13 is the same
pub fit_decides : (t : List ℕ) (p : Plan) (rows : List ℕ) → Fit t p rows → (numbers_sound t p rows ≡ sound (show_plan t p rows)) × (bad_place t p rows ≡ place13 (show_plan t p rows))
unfolding head_sound
fit_decides t p rows f =
    let (u, v) = rows_decide t p.rows rows 1 (λ k h. row_decides t (record_at rows k) (f.rows_inside k h) (f.none_spare k h)) in
    rw (f.head_inside, u, v) (refl, refl)
