-- WriteDemands: what is asked of writing, carried over to what `write` gives for an app's own plan. Each statement is about results that meet the promises of `write`
-- (`Wrote`) and of `read` (`Took`), and holds for any numbers: a `Plan` by value, rows and a text. The plan that they show is `show_plan text p rows`.
-- Assumes nothing.
use mathlib.Core.Path.{◌≡◌, refl, ap, sym, ◌∙◌, subst}
use mathlib.Core.Logic.{◌↔◌}
use mathlib.Core.Bool.{true}
use mathlib.Core.List.{List}
use Prim.Native.Nat.{ℕ, ◌+◌, ◌≤◌}
use native.Mathlib.Omega.{arith}
use lib.ListN.{length, drop}
use Rattle.std.specs.Prelude.{Option, Some, None, Result, Ok, Err, IsOk, IsOkAnd}
use Rattle.std.specs.Result.{result_err}
use Rattle.paper.specs.Plan as Said
use Rattle.paper.specs.Reading as Paper
use Rattle.paper.specs.Reading.{numbers}
use Rattle.paper.specs.Writing as Spelled
use Rattle.paper.specs.Writing.{Written, written, sound, fresh}
use Rattle.paper.specs.Cuts.{Cut, Cut≤}
use Rattle.paper.specs.Layout.{text_of}
use Rattle.paper.specs.Calls.{fresh_call}
use Rattle.paper.proofs.Writer.{Breaks, FirstUncut}
use Rattle.plan.specs.Numbers.{show_head, show_rows, show_plan, plan_rows}
use Rattle.paper.proofs.Small.{unequal}
use Rattle.plan.specs.declared.Plan.{Plan}
use Rattle.plan.proofs.Shown.{rows_shown}
use Rattle.sound.specs.Sound.{bad_place}
use Rattle.sound.proofs.SoundLaws.{plan_sound}
use Rattle.sound.proofs.Causes.{BadAt, bad_place_lem, BadPlan, bad_plan, Fit}
use Rattle.reader.specs.Promise as Reads
use Rattle.reader.specs.declared.answer.Refusal as Reader
use Rattle.writer.specs.Answers.{numbers_of, numbers_told}
use Rattle.writer.specs.Promise as Writes
use Rattle.writer.specs.declared.answer.Refusal.{Refusal}
use Rattle.writer.specs.declared.answer.Refusal.TheVariants.{NoRoom, Unsound, TooLong}
use Rattle.writer.specs.declared.writing.Pages.{Pages}
use Rattle.writer.proofs.AnswerLaws.{told_apart, numbers_alike}
use Rattle.writer.proofs.WritingLaws.{WellMade}
use Rattle.writer.proofs.Answered.{BadCall, SoundCall, Cause, outcome, outcome_is, shown_is, pages_are, exactly, fit_place, some_place}
use Rattle.writer.proofs.Unique.{Same, once}
use Rattle.writer.proofs.WrittenBack.{laid_written}
use Rattle.tollgilt.specs.Fresh.{lens_told, starts_told, pages_in, Begins}
use Rattle.tollgilt.proofs.FreshLaws as Held
use Rattle.tollgilt.proofs.FreshLaws.{Gives, Holds, cut_in, fewest_in, same_in, told_alike, room_alike, room_stays}
use Rattle.tollgilt.proofs.FreshWritten.{holds_written}
use Rattle.tollgilt.proofs.Demands as Demands
use Rattle.tollgilt.proofs.Demands.{Took, Enough, took_as, took_shows}

-- what a call of `write` gives: the room as lent, the plan in numbers, the result, and the room as handed back
abbrev pub Wrote : List ℕ → Plan → List ℕ → List ℕ → Result Pages Refusal → List ℕ → Type 0
Wrote out p rows text r out' = Writes.Promised (Writes.answered out p rows text) out r out'

-- ---- one call

module _ (out : List ℕ) (p : Plan) (rows text : List ℕ) (r : Result Pages Refusal) (out' : List ℕ) (W : Wrote out p rows text r out') where
  -- Each refusal is given exactly where its cause is, and pages, which are no refusal, exactly where theirs is; the numbers of a result are told exactly where its cause is.
  pub by_cause : ((s : Result Pages Refusal) → (numbers_told r ≡ numbers_told s) ↔ Cause out p rows text (result_err s)) × ((a : Option Refusal) → (result_err r ≡ a) ↔ Cause out p rows text a)
  by_cause =
      let is : result_err r ≡ outcome (Writes.answered out p rows text) = outcome_is (Writes.answered out p rows text) out r out' W in (
        λ s. (λ e. (exactly out p rows text (result_err s)).0 (sym is ∙ told_apart r s e), λ c. numbers_alike r s (is ∙ (exactly out p rows text (result_err s)).1 c)),
        λ a. (λ e. (exactly out p rows text a).0 (sym is ∙ e), λ c. is ∙ (exactly out p rows text a).1 c),
      )

  -- a refusal is given exactly where its cause is, and so are its numbers told
  refused_for : (x : Refusal) → ((numbers_told r ≡ numbers_of x) ↔ Cause out p rows text (Some x)) × ((r ≡ Err x) ↔ Cause out p rows text (Some x))
  refused_for x = (by_cause.0 (Err x), (λ e. (by_cause.1 (Some x)).0 (ap result_err e), λ c. from r ((by_cause.1 (Some x)).1 c)))
    where
      from : (q : Result Pages Refusal) → result_err q ≡ Some x → q ≡ Err x
      from (Ok w) e = unequal (cc (e))
      from (Err y) e = cc (e)

  -- 1 is given exactly when the room has less than 12,600 bytes, or the row count is above 256 or above the rows lent.
  pub one : ((numbers_told r ≡ numbers 1 0 0) ↔ BadCall out p rows) × ((r ≡ Err NoRoom) ↔ BadCall out p rows)
  one = refused_for NoRoom

  -- 13 is given at place i exactly when the call is well made and i is the first bad place: 0 where the head is bad, else the first bad row, counted from 1, behind a
  -- sound head and sound rows.
  pub thirteen : (i : ℕ) → ((numbers_told r ≡ numbers 13 0 i) ↔ (WellMade out p rows × BadAt text p rows i)) × ((r ≡ Err (Unsound i)) ↔ (WellMade out p rows × BadAt text p rows i))
  thirteen i = refused_for (Unsound i)

  -- what is so at some place exactly when 13 is given at that place is so at some place exactly when the plan is bad
  some_bad : (G : ℕ → Type 0) → ((i : ℕ) → G i ↔ (WellMade out p rows × BadAt text p rows i)) → ((i : ℕ) × G i) ↔ (WellMade out p rows × BadPlan text p rows)
  some_bad G h = (
    λ (i, e). let (m, b) = (h i).0 e in (m, (bad_plan text p rows).0 ((bad_place_lem text p rows i).1 b).0),
    λ (m, b). let i = bad_place text p rows in (i, (h i).1 (m, (bad_place_lem text p rows i).0 ((bad_plan text p rows).1 b, refl))),
  )

  -- 13 is given, at whatever place, exactly when the call is well made and the plan "breaks a rule above, holds a value in a form that reading never gives, or points
  -- outside its text".
  pub thirteen_exactly : (((i : ℕ) × (numbers_told r ≡ numbers 13 0 i)) ↔ (WellMade out p rows × BadPlan text p rows))
      × (((i : ℕ) × (r ≡ Err (Unsound i))) ↔ (WellMade out p rows × BadPlan text p rows))
  thirteen_exactly = (some_bad (λ i. numbers_told r ≡ numbers 13 0 i) (λ i. (thirteen i).0), some_bad (λ i. r ≡ Err (Unsound i)) (λ i. (thirteen i).1))

  -- what is so exactly when 13 is given at i is so, of numbers that fit, exactly when the plan shown breaks a rule at i
  bad_shown : (G : Type 0) (i : ℕ) → Fit text p rows → G ↔ (WellMade out p rows × BadAt text p rows i) → G ↔ (WellMade out p rows × Breaks (show_plan text p rows) i)
  bad_shown G i f h = (
    λ e. let (m, b) = h.0 e in (m, (fit_place out p rows text m f i).0 b),
    λ (m, b). h.1 (m, (fit_place out p rows text m f i).1 b),
  )

  -- Of numbers that point nowhere outside their text, and whose rows hold nothing that their kinds do not have, the plan shown decides: 13 is given at place i exactly
  -- when that plan breaks a rule, first at i.
  pub thirteen_shown : Fit text p rows → (i : ℕ) → ((numbers_told r ≡ numbers 13 0 i) ↔ (WellMade out p rows × Breaks (show_plan text p rows) i))
      × ((r ≡ Err (Unsound i)) ↔ (WellMade out p rows × Breaks (show_plan text p rows) i))
  thirteen_shown f i = (bad_shown (numbers_told r ≡ numbers 13 0 i) i f (thirteen i).0, bad_shown (r ≡ Err (Unsound i)) i f (thirteen i).1)

  -- 14 is given at place i exactly when the call is well made, its numbers are sound, and i is the first row such that rows 1..i have no cut, 0 if the head alone is too long.
  pub fourteen : (i : ℕ) → ((numbers_told r ≡ numbers 14 0 i) ↔ (SoundCall out p rows text × FirstUncut (show_head text p) (show_rows text p.rows rows) i))
      × ((r ≡ Err (TooLong i)) ↔ (SoundCall out p rows text × FirstUncut (show_head text p) (show_rows text p.rows rows) i))
  fourteen i = refused_for (TooLong i)

  -- what is so at some place exactly when 14 is given at that place is so at some place exactly when no cut exists
  some_uncut : (G : ℕ → Type 0) → ((i : ℕ) → G i ↔ (SoundCall out p rows text × FirstUncut (show_head text p) (show_rows text p.rows rows) i))
      → ((i : ℕ) × G i) ↔ (SoundCall out p rows text × (Cut≤ (show_head text p) (show_rows text p.rows rows) 9 → ⊥))
  some_uncut G h = (
    λ (i, e). let (w, u) = (h i).0 e in (w, (some_place out p rows text w).0 (i, u)),
    λ (w, c). let (i, u) = (some_place out p rows text w).1 c in (i, (h i).1 (w, u)),
  )

  -- 14 is given, at whatever place, exactly when the call is well made, its numbers are sound, and no cut into at most nine pages of 1,400 bytes exists.
  pub fourteen_exactly : (((i : ℕ) × (numbers_told r ≡ numbers 14 0 i)) ↔ (SoundCall out p rows text × (Cut≤ (show_head text p) (show_rows text p.rows rows) 9 → ⊥)))
      × (((i : ℕ) × (r ≡ Err (TooLong i))) ↔ (SoundCall out p rows text × (Cut≤ (show_head text p) (show_rows text p.rows rows) 9 → ⊥)))
  fourteen_exactly = (some_uncut (λ i. numbers_told r ≡ numbers 14 0 i) (λ i. (fourteen i).0), some_uncut (λ i. r ≡ Err (TooLong i)) (λ i. (fourteen i).1))

  -- Pages are given exactly when the call is well made, its numbers are sound, and a cut into at most nine pages exists.
  pub pages_exactly : IsOk r ↔ (SoundCall out p rows text × Cut≤ (show_head text p) (show_rows text p.rows rows) 9)
  pages_exactly = (λ z. (by_cause.1 None).0 (to r z), λ c. from r ((by_cause.1 None).1 c))
    where
      to : (q : Result Pages Refusal) → IsOk q → result_err q ≡ None
      to (Ok w) z = refl
      to (Err x) z = unequal (cc (z))

      from : (q : Result Pages Refusal) → result_err q ≡ None → IsOk q
      from (Ok w) e = refl
      from (Err x) e = unequal (cc (e))

-- ---- one call that gives pages

module _ (out : List ℕ) (p : Plan) (rows text : List ℕ) (r : Pages) (out' : List ℕ) (W : Wrote out p rows text (Ok r) out') where
  call : SoundCall out p rows text
  call = ((pages_exactly out p rows text (Ok r) out' W).0 refl).0

  -- The room holds the fresh pages of the plan that the numbers show.
  pub holds : Holds (show_plan text p rows) out r out'
  holds =
      let (f, e, a) = pages_are out p rows text call ((pages_exactly out p rows text (Ok r) out' W).0 refl).1 in
      holds_written (show_plan text p rows) f out r out' e (subst (λ (w : Written). Writes.Promised w out (Ok r) out') a W)

  -- The pages are a cut of the rows shown, spelled.
  pub a_cut : (c : Cut (show_head text p) (show_rows text p.rows rows) r.count) × (pages_in r out' ≡ Spelled.pages (show_head text p) r.count 1 c.parts)
  a_cut = cut_in holds

  -- No other cut uses fewer sheets.
  pub no_fewer : (k : ℕ) → Cut (show_head text p) (show_rows text p.rows rows) k → r.count ≤ k
  no_fewer = fewest_in holds

  -- ---- read and written again

  module _ (buffer : List ℕ) (g : Begins r out' buffer) (rows₁ text₁ : List ℕ) (h : Enough rows₁ text₁) where
    is_sound : sound (show_plan text p rows) ≡ true
    is_sound = plan_sound text p rows call.is_sound

    reads : (q : Result Plan Reader.Refusal) (rows₂ text₂ : List ℕ) → Took rows₁ text₁ buffer (starts_told r) (lens_told r) q rows₂ text₂
        → Reads.Promised (Paper.plan (show_plan text p rows)) rows₁ text₁ q rows₂ text₂
    reads q rows₂ text₂ R = subst (λ (a : Paper.Answer). Reads.Promised a rows₁ text₁ q rows₂ text₂) (Held.read_back holds buffer g) (took_as rows₁ text₁ buffer (starts_told r) (lens_told r) q rows₂ text₂ h R)

    -- The pages handed to `read`, from a buffer that begins with them, by the lengths told and in rooms that are enough, give a plan, and its numbers show just the plan
    -- that was written.
    pub read_back : (q : Result Plan Reader.Refusal) (rows₂ text₂ : List ℕ) → Took rows₁ text₁ buffer (starts_told r) (lens_told r) q rows₂ text₂
        → IsOkAnd q (λ x. show_plan text₂ x rows₂ ≡ show_plan text p rows)
    read_back (Ok x) rows₂ text₂ R = took_shows rows₁ text₁ (show_plan text p rows) x rows₂ text₂ is_sound (reads (Ok x) rows₂ text₂ R)
    read_back (Err y) rows₂ text₂ R = let Q = reads (Err y) rows₂ text₂ R in unequal (cc (Q.answer_is))

    module _ (q : Plan) (rows₂ text₂ : List ℕ) (R : Took rows₁ text₁ buffer (starts_told r) (lens_told r) (Ok q) rows₂ text₂)
        (out₂ : List ℕ) (r₂ : Result Pages Refusal) (out₂' : List ℕ) (l : 12600 ≤ length out₂) (W₂ : Wrote out₂ q rows₂ text₂ r₂ out₂') where
      to_write : Reads.Reads (Paper.plan (show_plan text p rows)) q rows₁ text₁ rows₂ text₂ → Writes.answered out₂ q rows₂ text₂ ≡ fresh (show_plan text p rows)
      to_write Q =
          let few : length (show_rows text p.rows rows) ≤ 256 = omega (arith, rows_shown text p.rows rows, call.made.few) in
          let shown : Said.Plan = show_plan text p rows in
          let same : Q.plan ≡ shown = cc (Q.answer_is) in
          rw (Q.plan_is, Q.rows_are, Q.text_is, same) (laid_written shown (drop (0 + length (text_of shown)) text₁) (drop (0 + length (plan_rows shown)) rows₁) out₂ is_sound few l)

      again : Writes.Promised (written holds.sheets) out₂ r₂ out₂'
      again = subst (λ (w : Written). Writes.Promised w out₂ r₂ out₂') (to_write (reads (Ok q) rows₂ text₂ R) ∙ holds.is_fresh) W₂

      kept : Holds (show_plan text p rows) out₂ r out₂'
      kept = record { sheets = holds.sheets; is_fresh = holds.is_fresh; result_is = holds.result_is; room_is = again.room_is }

      -- Writing that again changes no byte: it gives the same answer, the same number of pages with the same lengths, and the same pages.
      pub again_same : (r₂ ≡ Ok r) × (pages_in r out₂' ≡ pages_in r out')
      again_same = (again.result_is ∙ ap Ok (sym holds.result_is), (told_alike kept holds).1)

      -- Into the room as first lent it leaves the same room, and a room that holds the pages already stays as it is.
      pub again_room : (out₂ ≡ out → out₂' ≡ out') × (out₂ ≡ out' → out₂' ≡ out')
      again_room = (room_alike kept holds, room_stays holds kept)

-- ---- a call of `write` and one that writes pages afresh

-- Pages of an app's own plan and pages written afresh are equal exactly when the plan that the numbers show is the plan that was read.
pub same_afresh : (out : List ℕ) (p : Plan) (rows text : List ℕ) (r : Pages) (out' : List ℕ) → Wrote out p rows text (Ok r) out'
    → (out₂ b ss ns : List ℕ) (r₂ : Pages) (out₂' : List ℕ) → Gives out₂ b ss ns (Ok r₂) out₂' → (p₂ : Said.Plan) → fresh_call (length out₂) b ss ns ≡ Paper.plan p₂
    → (pages_in r out' ≡ pages_in r₂ out₂') ↔ (show_plan text p rows ≡ p₂)
same_afresh out p rows text r out' W out₂ b ss ns r₂ out₂' F p₂ e = same_in (holds out p rows text r out' W) (Demands.holds out₂ b ss ns r₂ out₂' F p₂ e)

-- ---- two calls

-- Two plans that can be written have equal pages exactly when they are the same plan: when their numbers show the same, wherever the values lie in their texts.
pub same_exactly : (out : List ℕ) (p : Plan) (rows text : List ℕ) (r : Pages) (out' : List ℕ) → Wrote out p rows text (Ok r) out' → (out₂ : List ℕ) (p₂ : Plan) (rows₂ text₂ : List ℕ) (r₂ : Pages)
    (out₂' : List ℕ) → Wrote out₂ p₂ rows₂ text₂ (Ok r₂) out₂' → (pages_in r out' ≡ pages_in r₂ out₂') ↔ (show_plan text p rows ≡ show_plan text₂ p₂ rows₂)
same_exactly out p rows text r out' W out₂ p₂ rows₂ text₂ r₂ out₂' W₂ = same_in (holds out p rows text r out' W) (holds out₂ p₂ rows₂ text₂ r₂ out₂' W₂)

module _ (out : List ℕ) (p : Plan) (rows text : List ℕ) (r : Result Pages Refusal) (out' : List ℕ) (W : Wrote out p rows text r out') (out₂ : List ℕ) (p₂ : Plan) (rows₂ text₂ : List ℕ)
    (r₂ : Result Pages Refusal) (out₂' : List ℕ) (W₂ : Wrote out₂ p₂ rows₂ text₂ r₂ out₂') where
  -- "For the writer a plan's values may lie anywhere in its text": sound numbers that show the same plan give the same result and, into rooms lent alike, the same room.
  pub only_plan : SoundCall out p rows text → SoundCall out₂ p₂ rows₂ text₂ → show_plan text p rows ≡ show_plan text₂ p₂ rows₂ → out ≡ out₂ → Same r r₂ out' out₂'
  only_plan w w₂ e o =
      let is : Writes.answered out p rows text ≡ fresh (show_plan text p rows) = shown_is out p rows text w.made w.is_sound in
      let is₂ : Writes.answered out₂ p₂ rows₂ text₂ ≡ fresh (show_plan text p rows) = shown_is out₂ p₂ rows₂ text₂ w₂.made w₂.is_sound ∙ ap fresh (sym e) in
      once (fresh (show_plan text p rows)) out₂ r r₂ out' out₂'
      (subst (λ (l : List ℕ). Writes.Promised (fresh (show_plan text p rows)) l r out') o (subst (λ (x : Written). Writes.Promised x out r out') is W))
      (subst (λ (x : Written). Writes.Promised x out₂ r₂ out₂') is₂ W₂)
