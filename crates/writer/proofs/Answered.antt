-- Answered: document 01's answer for a call of the writer, and exactly why it is that one.
-- Assumes nothing.
use mathlib.Core.Path.{◌≡◌, refl, ap, sym, ◌∙◌, subst}
use mathlib.Core.Bool.{Bool, true, false, ◌&&◌}
use mathlib.Core.Logic.{◌↔◌}
use mathlib.Core.List.{List}
use Prim.Native.Nat.{ℕ, ◌/◌, ◌≤◌, ◌<◌}
use native.Mathlib.Omega.{arith}
use lib.Dec.{leb}
use lib.ListN.{length}
use borrow.Author.Tests.{leb-false, le-leb}
use Rattle.std.specs.Result.{result_err}
use Rattle.std.specs.Prelude.{Option, Some, None, Result}
use Rattle.paper.specs.Plan as Said
use Rattle.paper.specs.Writing.{Written, bad_call, unsound, too_long, written, sound, place13, fresh}
use Rattle.paper.specs.Cuts.{Cut≤}
use Rattle.paper.proofs.Small.{no}
use Rattle.paper.proofs.Writer as Writer
use Rattle.paper.proofs.Writer.{too_many, Breaks, thirteen, thirteen_exactly, FirstUncut, fourteen_exactly, written_exactly}
use Rattle.plan.specs.Numbers.{rows_lent, show_head, show_rows, show_plan}
use Rattle.plan.specs.declared.Plan.{Plan}
use Rattle.plan.proofs.Shown.{rows_shown}
use Rattle.sound.specs.Sound.{numbers_sound, bad_place}
use Rattle.sound.proofs.SoundLaws.{plan_sound}
use Rattle.sound.proofs.Causes.{BadAt, bad_place_lem, Fit, fit_decides}
use Rattle.writer.specs.Promise.{call_fits, answered, Promised}
use Rattle.writer.specs.declared.answer.Refusal.{Refusal}
use Rattle.writer.specs.declared.answer.Refusal.TheVariants.{NoRoom, Unsound, TooLong}
use Rattle.writer.specs.declared.writing.Pages.{Pages}
use Rattle.writer.proofs.WritingLaws.{WellMade, well_made}

-- ---- the causes

-- why a call is refused with 1: "room too small, for the writer a row count above 256 or above the rows lent"
pub data BadCall (out : List ℕ) (p : Plan) (rows : List ℕ) : Type 0 where
  small_room : length out < 12600 → BadCall out p rows
  many_rows : 256 < p.rows → BadCall out p rows
  few_lent : rows_lent (length rows) < p.rows → BadCall out p rows

-- a call that is well made and whose numbers are sound, so that the plan they show is to be written
pub record SoundCall (out : List ℕ) (p : Plan) (rows text : List ℕ) : Type 0 where
  pub made : WellMade out p rows
  pub is_sound : numbers_sound text p rows ≡ true

-- the cause of each refusal, 13 and 14 with their place, and the cause of pages, which no refusal stands for
abbrev pub Cause : List ℕ → Plan → List ℕ → List ℕ → Option Refusal → Type 0
Cause out p rows text (Some NoRoom) = BadCall out p rows
Cause out p rows text (Some (Unsound i)) = WellMade out p rows × BadAt text p rows i
Cause out p rows text (Some (TooLong i)) = SoundCall out p rows text × FirstUncut (show_head text p) (show_rows text p.rows rows) i
Cause out p rows text None = SoundCall out p rows text × Cut≤ (show_head text p) (show_rows text p.rows rows) 9

-- ---- the answer

-- how the code refuses, if it does, where document 01 answers so
abbrev pub outcome : Written → Option Refusal
outcome bad_call = Some NoRoom
outcome (unsound i) = Some (Unsound i)
outcome (too_long i) = Some (TooLong i)
outcome (written f) = None

-- the promise asks for it
pub outcome_is : (w : Written) (out : List ℕ) (r : Result Pages Refusal) (out' : List ℕ) → Promised w out r out' → result_err r ≡ outcome w
outcome_is bad_call out r out' P = ap result_err P.result_is
outcome_is (unsound i) out r out' P = ap result_err P.result_is
outcome_is (too_long i) out r out' P = ap result_err P.result_is
outcome_is (written f) out r out' P = ap result_err P.result_is

module _ (out : List ℕ) (p : Plan) (rows text : List ℕ) where
  abbrev fits : Bool
  fits = call_fits p.rows (rows_lent (length rows)) (length out)

  abbrev shown : Said.Plan
  shown = show_plan text p rows

  -- ---- what a call is answered

  not_made : fits ≡ false → BadCall out p rows
  unfolding call_fits
  not_made e = at (leb 12600 (length out)) refl (leb p.rows 256) refl (leb p.rows (length rows / 48)) refl e
    where
      at : (a : Bool) → leb 12600 (length out) ≡ a → (b : Bool) → leb p.rows 256 ≡ b → (c : Bool) → leb p.rows (length rows / 48) ≡ c → (a && (b && c)) ≡ false → BadCall out p rows
      at false x b y c z e = small_room (leb-false 12600 (length out) x)
      at true x false y c z e = many_rows (leb-false p.rows 256 y)
      at true x true y false z e = few_lent (leb-false p.rows (length rows / 48) z)
      at true x true y true z e = no e

  -- a call that is not well made
  bad_is : BadCall out p rows → answered out p rows text ≡ bad_call
  unfolding answered
  bad_is b = at fits refl
    where
      not_both : WellMade out p rows → BadCall out p rows → ⊥
      not_both m (small_room h) = omega (arith, m.room)
      not_both m (many_rows h) = omega (arith, m.few)
      not_both m (few_lent h) = omega (arith, m.lent)

      at : (a : Bool) → fits ≡ a → answered out p rows text ≡ bad_call
      at true x = absurd (not_both (well_made out p rows x) b)
      at false x = rw x

  module _ (m : WellMade out p rows) where
    made_fits : fits ≡ true
    unfolding call_fits
    made_fits =
        let lent : p.rows ≤ length rows / 48 = omega (arith, m.lent) in
        rw (le-leb 12600 (length out) m.room, le-leb p.rows 256 m.few, le-leb p.rows (length rows / 48) lent)

    few_shown : length shown.rows ≤ 256
    few_shown = omega (arith, rows_shown text p.rows rows, m.few)

    -- numbers that are not sound: 13 at the first bad place
    refused_is : (i : ℕ) → BadAt text p rows i → answered out p rows text ≡ unsound i
    unfolding answered
    refused_is i b = let (s, e) = (bad_place_lem text p rows i).1 b in rw (made_fits, s, e)

    -- sound numbers: what the plan that they show is written as
    pub shown_is : numbers_sound text p rows ≡ true → answered out p rows text ≡ fresh shown
    unfolding answered
    shown_is s = rw (made_fits, s)

    -- So it is for all numbers that point nowhere outside their text and hold nothing to spare: document 01's writer decides, on 13 and its place too.
    pub fit_is : Fit text p rows → answered out p rows text ≡ fresh shown
    unfolding answered fresh
    fit_is f = let (d, e) = fit_decides text p rows f in at (sound shown) refl d e
      where
        at : (b : Bool) → sound shown ≡ b → numbers_sound text p rows ≡ sound shown → bad_place text p rows ≡ place13 shown → answered out p rows text ≡ fresh shown
        at true x d e = shown_is (d ∙ x)
        at false x d e = rw (made_fits, d, x, e, le-leb (length shown.rows) 256 few_shown)

  -- ---- each answer exactly where its cause is

  cause : Cause out p rows text (outcome (answered out p rows text))
  unfolding answered
  cause = at fits refl (numbers_sound text p rows) refl
    where
      by : WellMade out p rows → numbers_sound text p rows ≡ true → (w : Written) → fresh shown ≡ w → Cause out p rows text (outcome w)
      by m s bad_call e = absurd (omega (arith, (too_many shown).0 e, few_shown m))
      by m s (unsound i) e = no (sym (plan_sound text p rows s) ∙ ((thirteen_exactly shown).0 (i, e)).1)
      by m s (too_long i) e = (record { made = m; is_sound = s }, ((fourteen_exactly shown i).0 e).2)
      by m s (written f) e = (record { made = m; is_sound = s }, ((written_exactly shown).0 (f, e)).2)

      at : (a : Bool) → fits ≡ a → (b : Bool) → numbers_sound text p rows ≡ b → Cause out p rows text (outcome (answered out p rows text))
      at true x true y = rw (x, y) (by (well_made out p rows x) y (fresh shown) refl)
      at true x false y = rw (x, y) (well_made out p rows x, (bad_place_lem text p rows (bad_place text p rows)).0 (y, refl))
      at false x b y = rw x (not_made x)

  -- where the plan has a cut, there are pages
  pub pages_are : SoundCall out p rows text → Cut≤ (show_head text p) (show_rows text p.rows rows) 9 → (f : List (List ℕ)) × (fresh shown ≡ written f) × (answered out p rows text ≡ written f)
  pages_are w c = let (f, e) = (written_exactly shown).1 (few_shown w.made, plan_sound text p rows w.is_sound, c) in (f, e, shown_is w.made w.is_sound ∙ e)

  caused : (a : Option Refusal) → Cause out p rows text a → outcome (answered out p rows text) ≡ a
  caused (Some NoRoom) b = ap outcome (bad_is b)
  caused (Some (Unsound i)) (m, b) = ap outcome (refused_is m i b)
  caused (Some (TooLong i)) (w, u) = ap outcome (shown_is w.made w.is_sound ∙ (fourteen_exactly shown i).1 (few_shown w.made, plan_sound text p rows w.is_sound, u))
  caused None (w, c) = ap outcome (pages_are w c).2

  pub exactly : (a : Option Refusal) → (outcome (answered out p rows text) ≡ a) ↔ Cause out p rows text a
  exactly a = (λ e. subst (Cause out p rows text) e cause, caused a)

  -- ---- the place and the plan shown

  -- where document 01's writer decides, the first bad place is where the plan shown first breaks a rule
  pub fit_place : WellMade out p rows → Fit text p rows → (i : ℕ) → BadAt text p rows i ↔ Breaks shown i
  fit_place m f i = (
    λ b. ((thirteen shown i).0 (sym (fit_is m f) ∙ refused_is m i b)).1,
    λ b. ((exactly (Some (Unsound i))).0 (ap outcome (fit_is m f ∙ (thirteen shown i).1 (few_shown m, b)))).1,
  )

  -- the plan shown has no cut exactly when some row is the first without one, or not even the head alone has one
  pub some_place : SoundCall out p rows text → ((i : ℕ) × FirstUncut (show_head text p) (show_rows text p.rows rows) i) ↔ (Cut≤ (show_head text p) (show_rows text p.rows rows) 9 → ⊥)
  some_place w =
      let n = few_shown w.made in
      let s = plan_sound text p rows w.is_sound in
      (λ (i, u). (Writer.exactly shown n s).0 (i, (fourteen_exactly shown i).1 (n, s, u)), λ c. let (i, e) = (Writer.exactly shown n s).1 c in (i, ((fourteen_exactly shown i).0 e).2))
