-- Demands: what is asked of fresh pages, carried over to what the functions give. Each statement is about results that meet the promises of `fresh_pages` (`Gives`)
-- and of `read` (`Took`), and holds for any call. The border hands out the numbers and the room of such a call (`border_gives`).
-- Assumes nothing.
use mathlib.Core.Path.{◌≡◌, refl, ap, sym, ◌∙◌, subst}
use mathlib.Core.Logic.{◌↔◌, ◌⊎◌, inl, inr}
use mathlib.Core.Bool.{Bool, true}
use mathlib.Core.List.{List}
use Prim.Native.Nat.{ℕ, ◌+◌, ◌≤◌, ◌/◌}
use native.Mathlib.Omega.{arith}
use lib.Dec.{leb}
use lib.ListN.{length, drop}
use borrow.Author.Tests.{le-leb}
use Rattle.std.specs.Prelude.{Result, Ok, Err, IsOk}
use Rattle.paper.specs.Plan as Said
use Rattle.paper.specs.Reading as Paper
use Rattle.paper.specs.Reading.{numbers}
use Rattle.paper.specs.Writing as Spelled
use Rattle.paper.specs.Writing.{Written, too_long, written, sound, fresh}
use Rattle.paper.specs.Cuts.{Cut, Cut≤}
use Rattle.paper.specs.Layout.{text_of}
use Rattle.paper.specs.Calls.{row_room, text_room, roomy, inside, pages_at, read_at, read_call, fresh_call}
use Rattle.paper.proofs.Small.{and_intro, unequal}
use Rattle.paper.proofs.AnyOrder as Orders
use Rattle.paper.proofs.AnyOrder.{Perm}
use Rattle.paper.proofs.CallLaws.{reads_pages}
use Rattle.paper.proofs.ReadSound.{read_sound}
use Rattle.paper.proofs.Writer as Writer
use Rattle.paper.proofs.Writer.{FirstUncut}
use Rattle.plan.specs.Numbers.{rows_lent, show_head, show_plan, plan_rows, SameRows}
use Rattle.plan.proofs.Shown.{sound_back}
use Rattle.plan.proofs.Sameness.{rows_same, equal_same}
use Rattle.plan.specs.declared.Plan as Code
use Rattle.reader.specs.Answers as Reading
use Rattle.reader.specs.Promise as Reads
use Rattle.reader.specs.declared.answer.Refusal.{Refusal}
use Rattle.reader.proofs.Unique as Read
use Rattle.reader.proofs.Unique.{Same}
use Rattle.writer.specs.declared.writing.Pages.{Pages}
use Rattle.tollgilt.specs.Refused.{numbers_of}
use Rattle.tollgilt.specs.Fresh.{Answer, pages, writes, afresh, answered, given, Promised, told_of, Handed, starts_told, lens_told, pages_in, Begins}
use Rattle.tollgilt.specs.declared.refused.Refused.{Refused}
use Rattle.tollgilt.proofs.FreshLaws.{Gives, Ends, stopped, long, fine, ends, ends_with, gives_end, plan_read, roomy_call, plan_roomy, Holds, read_back, cut_in, fewest_in, same_in, told_alike, room_alike, room_stays, Freshly, freshly}
use Rattle.tollgilt.proofs.Unique.{fresh_once}

-- what a call of `read` gives: the rooms as lent, the pages handed in, the result, and the rooms as handed back
abbrev pub Took : List ℕ → List ℕ → List ℕ → List ℕ → List ℕ → Result Code.Plan Refusal → List ℕ → List ℕ → Type 0
Took rows text b ss ns q rows' text' = Reads.Promised (Reads.answered rows text b ss ns) rows text q rows' text'

-- room for 256 rows and 12,600 bytes of text
abbrev pub Enough : List ℕ → List ℕ → Type 0
Enough rows text = (12288 ≤ length rows) × (12600 ≤ length text)

-- what two calls of `read` gave is the same plan: the patch with the head's spans and the number of rows, the rows, and the text
pub record SamePlan (q₁ q₂ : Code.Plan) (rows₁ rows₂ text₁ text₂ : List ℕ) : Type 0 where
  pub result : q₁ ≡ q₂
  pub rows : SameRows q₁.rows rows₁ rows₂
  pub text : text₁ ≡ text₂

-- the pages of a call were accepted: they are written, or too long
abbrev pub Accepted : Result Pages Refused → Type 0
Accepted r = ((numbers_of r).number ≡ 0) ⊎ ((numbers_of r).number ≡ 14)

-- ---- laws on reading

pub roomy_enough : (rows text : List ℕ) → Enough rows text → roomy (rows_lent (length rows)) (length text) ≡ true
roomy_enough rows text (h, g) =
    let lent : 256 ≤ length rows / 48 = omega arith in
    and_intro (leb row_room (rows_lent (length rows))) (leb text_room (length text)) (le-leb row_room (rows_lent (length rows)) lent) (le-leb text_room (length text) g)

-- with room enough the pages decide
read_call_lem : (rows text b ss ns : List ℕ) → Enough rows text → Reads.answered rows text b ss ns ≡ read_at true b ss ns
unfolding read_call
read_call_lem rows text b ss ns h = ap (λ (x : Bool). read_at x b ss ns) (roomy_enough rows text h)

-- so they decide on what `read` gives
pub took_as : (rows text b ss ns : List ℕ) (q : Result Code.Plan Refusal) (rows' text' : List ℕ) → Enough rows text → Took rows text b ss ns q rows' text'
    → Reads.Promised (read_at true b ss ns) rows text q rows' text'
took_as rows text b ss ns q rows' text' h R = subst (λ (a : Paper.Answer). Reads.Promised a rows text q rows' text') (read_call_lem rows text b ss ns h) R

-- reading answered with that plan
abbrev pub ReadAs : Said.Plan → List ℕ → List ℕ → Result Code.Plan Refusal → List ℕ → List ℕ → Type 0
ReadAs p rows text q rows' text' = Reads.Promised (Paper.plan p) rows text q rows' text'

-- so it gave a plan
pub plan_given : (p : Said.Plan) (rows text rows' text' : List ℕ) (q : Result Code.Plan Refusal) → ReadAs p rows text q rows' text' → IsOk q
plan_given p rows text rows' text' (Ok q) R = refl
plan_given p rows text rows' text' (Err x) R = unequal (cc (R.answer_is))

-- and a refusal with its numbers
pub read_refused : (n k i : ℕ) (rows text rows' text' : List ℕ) (q : Result Code.Plan Refusal) → Reads.Promised (Paper.refusal n k i) rows text q rows' text' → Reading.numbers_told q ≡ numbers n k i
read_refused n k i rows text rows' text' (Ok q) R = unequal (cc (R.answer_is))
read_refused n k i rows text rows' text' (Err x) R = sym (ap Reading.told R.answer_is)

-- what was read shows the plan
pub took_shows : (rows text : List ℕ) (p : Said.Plan) (q : Code.Plan) (rows' text' : List ℕ) → sound p ≡ true → ReadAs p rows text (Ok q) rows' text' → show_plan text' q rows' ≡ p
took_shows rows text p q rows' text' s R =
    let same : R.plan ≡ p = cc (R.answer_is) in
    rw (R.plan_is, R.rows_are, R.text_is, same) (sound_back p (drop (0 + length (text_of p)) text) (drop (0 + length (plan_rows p)) rows) s)

-- the same numbers are the same plan
same_plan : {q q' : Code.Plan} {rows rows' text text' : List ℕ} → Same (Ok q) (Ok q') rows rows' text text' → SamePlan q q' rows rows' text text'
same_plan {q} {q'} {rows} {rows'} s = record { result = cc (s.result); rows = equal_same q.rows rows rows' s.rows; text = s.text }

-- and the same plan shows the same
shows_same : {q q' : Code.Plan} {rows rows' text text' : List ℕ} → SamePlan q q' rows rows' text text' → show_plan text q rows ≡ show_plan text' q' rows'
shows_same {q} {q'} {rows} {rows'} {text} {text'} s =
    ap (λ (rs : List Said.Row). record { head = show_head text q; rows = rs }) (rows_same text q.rows rows rows' s.rows) ∙ rw (s.result, s.text)

-- two calls of `read` gave a plan, and the same
abbrev pub BothPlans : Result Code.Plan Refusal → Result Code.Plan Refusal → List ℕ → List ℕ → List ℕ → List ℕ → Type 0
BothPlans (Ok q₁) (Ok q₂) rows₁ rows₂ text₁ text₂ = SamePlan q₁ q₂ rows₁ rows₂ text₁ text₂
BothPlans (Ok q₁) (Err x) rows₁ rows₂ text₁ text₂ = ⊥
BothPlans (Err x) r₂ rows₁ rows₂ text₁ text₂ = ⊥

-- they did where both answered with one plan
both_plans : (rows text : List ℕ) (p : Said.Plan) (q q' : Result Code.Plan Refusal) (rows₁ rows₂ text₁ text₂ : List ℕ) → ReadAs p rows text q rows₁ text₁ → ReadAs p rows text q' rows₂ text₂
    → BothPlans q q' rows₁ rows₂ text₁ text₂
both_plans rows text p (Ok q) (Ok q') rows₁ rows₂ text₁ text₂ R R' = same_plan (Read.once (Paper.plan p) rows text (Ok q) (Ok q') rows₁ rows₂ text₁ text₂ R R')
both_plans rows text p (Ok q) (Err x) rows₁ rows₂ text₁ text₂ R R' = unequal (cc (R'.answer_is))
both_plans rows text p (Err x) q' rows₁ rows₂ text₁ text₂ R R' = unequal (cc (R.answer_is))

said : Said.Plan → Paper.Answer → Said.Plan
said d (Paper.refusal n k i) = d
said d (Paper.plan p) = p

-- an answer has one plan
pub plan_once : {a : Paper.Answer} {p q : Said.Plan} → a ≡ Paper.plan p → a ≡ Paper.plan q → p ≡ q
unfolding said
plan_once {a} {p} {q} e f = ap (said p) (sym e ∙ f)

-- the same answer leaves one result and one room
same_answer : (out b ss ns b₂ ss₂ ns₂ : List ℕ) (r r₂ : Result Pages Refused) (out' out₂' : List ℕ) → Gives out b ss ns r out' → Gives out b₂ ss₂ ns₂ r₂ out₂'
    → fresh_call (length out) b ss ns ≡ fresh_call (length out) b₂ ss₂ ns₂ → (r ≡ r₂) × (out' ≡ out₂')
same_answer out b ss ns b₂ ss₂ ns₂ r r₂ out' out₂' F F₂ e =
    fresh_once (answered out b ss ns) out r r₂ out' out₂' F (subst (λ (a : Paper.Answer). Promised (afresh a) out r₂ out₂') (sym e) F₂)

-- what the border hands out are the numbers and the room of such a call
pub border_gives : (out b ss ns : List ℕ) (n : ℕ) (out' told' : List ℕ) → Handed (answered out b ss ns) out n out' told'
    → (r : Result Pages Refused) × Gives out b ss ns r out' × (n ≡ (numbers_of r).number) × (told' ≡ told_of r)
border_gives out b ss ns n out' told' H = (given (answered out b ss ns), record { result_is = refl; room_is = H.room_is }, H.number_is, H.told_is)

-- ---- one call

module _ (out b ss ns : List ℕ) (r : Result Pages Refused) (out' : List ℕ) (F : Gives out b ss ns r out') where
  -- A refusal other than 14 is reading's. Either `read` gives a plan, and there are pages or 14; or `read` refuses, with one of 1 to 12, and this is the same refusal.
  pub refused_as_read : (rows text : List ℕ) (q : Result Code.Plan Refusal) (rows' text' : List ℕ) → 12600 ≤ length out → Enough rows text → Took rows text b ss ns q rows' text'
      → (IsOk q × Accepted r) ⊎ ((Reading.numbers_told q ≡ numbers_of r) × (1 ≤ (numbers_of r).number) × ((numbers_of r).number ≤ 12))
  refused_as_read rows text q rows' text' h g R =
      at (ends out b ss ns) (gives_end out b ss ns r out' F (ends out b ss ns))
      (subst (λ (a : Paper.Answer). Reads.Promised a rows text q rows' text') (sym (roomy_call out b ss ns h)) (took_as rows text b ss ns q rows' text' g R))
    where
      at : (x : Ends (fresh_call (length out) b ss ns)) → Promised (ends_with x) out r out' → Reads.Promised (fresh_call (length out) b ss ns) rows text q rows' text'
          → (IsOk q × Accepted r) ⊎ ((Reading.numbers_told q ≡ numbers_of r) × (1 ≤ (numbers_of r).number) × ((numbers_of r).number ≤ 12))
      at (stopped n k i l m e) P Q =
          let T : Reads.Promised (Paper.refusal n k i) rows text q rows' text' = subst (λ (a : Paper.Answer). Reads.Promised a rows text q rows' text') e Q in
          let z : (numbers_of r).number ≡ n = ap (λ (t : Result Pages Refused). (numbers_of t).number) P.result_is in
          inr (read_refused n k i rows text rows' text' q T ∙ sym (ap numbers_of P.result_is), omega arith, omega arith)
      at (long p i e w) P Q =
          let T : Reads.Promised (Paper.plan p) rows text q rows' text' = subst (λ (a : Paper.Answer). Reads.Promised a rows text q rows' text') e Q in
          inl (plan_given p rows text rows' text' q T, inr (ap (λ (t : Result Pages Refused). (numbers_of t).number) P.result_is))
      at (fine p f e w) P Q =
          let T : Reads.Promised (Paper.plan p) rows text q rows' text' = subst (λ (a : Paper.Answer). Reads.Promised a rows text q rows' text') e Q in
          inl (plan_given p rows text rows' text' q T, inl (ap (λ (t : Result Pages Refused). (numbers_of t).number) P.result_is))

  -- the pages were accepted exactly where the call has a plan
  pub accepted : Accepted r ↔ ((p : Said.Plan) × (fresh_call (length out) b ss ns ≡ Paper.plan p))
  accepted = (λ a. there a (ends out b ss ns) (gives_end out b ss ns r out' F (ends out b ss ns)), λ (p, e). back p e (ends out b ss ns) (gives_end out b ss ns r out' F (ends out b ss ns)))
    where
      numbered : Accepted r → (n : ℕ) → (numbers_of r).number ≡ n → 1 ≤ n → n ≤ 12 → ⊥
      numbered (inl z) n e l m = omega arith
      numbered (inr z) n e l m = omega arith

      there : Accepted r → (x : Ends (fresh_call (length out) b ss ns)) → Promised (ends_with x) out r out' → (p : Said.Plan) × (fresh_call (length out) b ss ns ≡ Paper.plan p)
      there a (stopped n k i l m e) P = absurd (numbered a n (ap (λ (t : Result Pages Refused). (numbers_of t).number) P.result_is) l m)
      there a (long p i e w) P = (p, e)
      there a (fine p f e w) P = (p, e)

      back : (p : Said.Plan) → fresh_call (length out) b ss ns ≡ Paper.plan p → (x : Ends (fresh_call (length out) b ss ns)) → Promised (ends_with x) out r out' → Accepted r
      back p q (stopped n k i l m e) P = let z : ◌≡◌ {A = ℕ} 0 1 = cc in absurd (omega arith)
      back p q (long s i e w) P = inr (ap (λ (t : Result Pages Refused). (numbers_of t).number) P.result_is)
      back p q (fine s f e w) P = inl (ap (λ (t : Result Pages Refused). (numbers_of t).number) P.result_is)

  -- ---- the plan of the call

  module _ (p : Said.Plan) (e : fresh_call (length out) b ss ns ≡ Paper.plan p) where
    given_is : {w : Written} → fresh p ≡ w → r ≡ given (writes w)
    given_is q = F.result_is ∙ (ap (λ (a : Paper.Answer). given (afresh a)) e ∙ ap (λ (w : Written). given (writes w)) q)

    plan_sound : (sound p ≡ true) × (length p.rows ≤ 256)
    plan_sound = read_sound (pages_at b ss ns) p (plan_read out b ss ns p e)

    -- the plan is written, or too long
    way : ((f : List (List ℕ)) × (fresh p ≡ written f)) ⊎ ((i : ℕ) × (fresh p ≡ too_long i))
    way = Writer.writable (pages_at b ss ns) p (plan_read out b ss ns p e)

    -- 14 is given exactly when no cut into at most nine pages exists.
    pub fourteen : ((numbers_of r).number ≡ 14) ↔ (Cut≤ p.head p.rows 9 → ⊥)
    fourteen = (λ z. there z way, λ n. back ((Writer.exactly p plan_sound.1 plan_sound.0).1 n))
      where
        there : (numbers_of r).number ≡ 14 → ((f : List (List ℕ)) × (fresh p ≡ written f)) ⊎ ((i : ℕ) × (fresh p ≡ too_long i)) → Cut≤ p.head p.rows 9 → ⊥
        there z (inl (f, q)) = let y : (numbers_of r).number ≡ 0 = ap (λ (t : Result Pages Refused). (numbers_of t).number) (given_is q) in absurd (omega arith)
        there z (inr (i, q)) = (Writer.exactly p plan_sound.1 plan_sound.0).0 (i, q)

        back : (i : ℕ) × (fresh p ≡ too_long i) → (numbers_of r).number ≡ 14
        back (i, q) = ap (λ (t : Result Pages Refused). (numbers_of t).number) (given_is q)

    -- Its place is the first row r such that rows 1..r have no cut, 0 if the head alone is too long; its page is 0.
    pub fourteen_place : (i : ℕ) → (((numbers_of r).number ≡ 14) × ((numbers_of r).page ≡ 0) × ((numbers_of r).place ≡ i)) ↔ FirstUncut p.head p.rows i
    fourteen_place i = (λ (z, _, y). there z y way, λ u. back ((Writer.fourteen_exactly p i).1 (plan_sound.1, plan_sound.0, u)))
      where
        there : (numbers_of r).number ≡ 14 → (numbers_of r).place ≡ i → ((f : List (List ℕ)) × (fresh p ≡ written f)) ⊎ ((j : ℕ) × (fresh p ≡ too_long j)) → FirstUncut p.head p.rows i
        there z y (inl (f, q)) = let x : (numbers_of r).number ≡ 0 = ap (λ (t : Result Pages Refused). (numbers_of t).number) (given_is q) in absurd (omega arith)
        there z y (inr (j, q)) =
            let x : j ≡ i = sym (ap (λ (t : Result Pages Refused). (numbers_of t).place) (given_is q)) ∙ y in
            ((Writer.fourteen_exactly p i).0 (q ∙ ap too_long x)).2

        back : fresh p ≡ too_long i → ((numbers_of r).number ≡ 14) × ((numbers_of r).page ≡ 0) × ((numbers_of r).place ≡ i)
        back q = let g = given_is q in (ap (λ (t : Result Pages Refused). (numbers_of t).number) g, ap (λ (t : Result Pages Refused). (numbers_of t).page) g, ap (λ (t : Result Pages Refused). (numbers_of t).place) g)

-- ---- one call that gives pages

module _ (out b ss ns : List ℕ) (r : Pages) (out' : List ℕ) (F : Gives out b ss ns (Ok r) out') where
  module _ (p : Said.Plan) (e : fresh_call (length out) b ss ns ≡ Paper.plan p) where
    -- the room holds the plan's fresh pages
    pub holds : Holds p out r out'
    holds = let G = freshly out b ss ns r out' F in subst (λ (s : Said.Plan). Holds s out r out') (plan_once G.is_plan_lem e) G.holds

    -- the pages are a cut of the plan's rows, spelled
    pub a_cut : (c : Cut p.head p.rows r.count) × (pages_in r out' ≡ Spelled.pages p.head r.count 1 c.parts)
    a_cut = cut_in holds

    -- No other cut uses fewer sheets.
    pub no_fewer : (k : ℕ) → Cut p.head p.rows k → r.count ≤ k
    no_fewer = fewest_in holds

  -- ---- fresh pages, read and written again

  module _ (buffer : List ℕ) (g : Begins r out' buffer) where
    -- Fresh pages handed to `read` give the plan back, slot for slot: from a buffer that begins with them, by the lengths told and in rooms that are enough,
    -- `read` answers with a plan; it is the same as the one that it gives for the first pages in the same rooms.
    pub given_back : (rows text : List ℕ) (q q₂ : Result Code.Plan Refusal) (rows₁ rows₂ text₁ text₂ : List ℕ) → Enough rows text → Took rows text b ss ns q rows₁ text₁
        → Took rows text buffer (starts_told r) (lens_told r) q₂ rows₂ text₂ → BothPlans q₂ q rows₂ rows₁ text₂ text₁
    given_back rows text q q₂ rows₁ rows₂ text₁ text₂ h R R₂ =
        let G = freshly out b ss ns r out' F in
        let first = sym (roomy_call out b ss ns (plan_roomy out b ss ns G.plan G.is_plan_lem)) ∙ G.is_plan_lem in
        let T = subst (λ (a : Paper.Answer). Reads.Promised a rows text q rows₁ text₁) first (took_as rows text b ss ns q rows₁ text₁ h R) in
        let T₂ = subst (λ (a : Paper.Answer). Reads.Promised a rows text q₂ rows₂ text₂) (read_back G.holds buffer g) (took_as rows text buffer (starts_told r) (lens_told r) q₂ rows₂ text₂ h R₂) in
        both_plans rows text G.plan q₂ q rows₂ rows₁ text₂ text₁ T₂ T

    module _ (out₂ : List ℕ) (r₂ : Result Pages Refused) (out₂' : List ℕ) (h : 12600 ≤ length out₂) (F₂ : Gives out₂ buffer (starts_told r) (lens_told r) r₂ out₂') where
      again_pages : Promised (pages (freshly out b ss ns r out' F).holds.sheets) out₂ r₂ out₂'
      again_pages =
          let G = freshly out b ss ns r out' F in
          subst (λ (a : Answer). Promised a out₂ r₂ out₂')
          (ap afresh (roomy_call out₂ buffer (starts_told r) (lens_told r) h ∙ read_back G.holds buffer g) ∙ ap writes G.holds.is_fresh) F₂

      again : Holds (freshly out b ss ns r out' F).plan out₂ r out₂'
      again =
          let H = (freshly out b ss ns r out' F).holds in
          record { sheets = H.sheets; is_fresh = H.is_fresh; result_is = H.result_is; room_is = again_pages.room_is }

      -- Writing that again changes no byte: fresh pages written afresh are the same pages, in number, lengths and bytes.
      pub again_same : (r₂ ≡ Ok r) × (pages_in r out₂' ≡ pages_in r out')
      again_same =
          let G = freshly out b ss ns r out' F in
          (again_pages.result_is ∙ ap Ok (sym G.holds.result_is), (told_alike again G.holds).1)

      -- into the room as first lent they leave the same room
      pub again_room : out₂ ≡ out → out₂' ≡ out'
      again_room = room_alike again (freshly out b ss ns r out' F).holds

      -- and a room that holds them already stays as it is
      pub again_over : out₂ ≡ out' → out₂' ≡ out'
      again_over = room_stays (freshly out b ss ns r out' F).holds again

-- ---- two calls

module _ (out b ss ns : List ℕ) (r : Pages) (out' : List ℕ) (F : Gives out b ss ns (Ok r) out') (out₂ b₂ ss₂ ns₂ : List ℕ) (r₂ : Pages) (out₂' : List ℕ) (F₂ : Gives out₂ b₂ ss₂ ns₂ (Ok r₂) out₂') where
  -- Two accepted and writable sets have equal fresh pages exactly when their plans are the same.
  pub same_exactly : (p p₂ : Said.Plan) → fresh_call (length out) b ss ns ≡ Paper.plan p → fresh_call (length out₂) b₂ ss₂ ns₂ ≡ Paper.plan p₂ → (pages_in r out' ≡ pages_in r₂ out₂') ↔ (p ≡ p₂)
  same_exactly p p₂ e e₂ = same_in (holds out b ss ns r out' F p e) (holds out₂ b₂ ss₂ ns₂ r₂ out₂' F₂ p₂ e₂)

  -- The same in what `read` lays out: they have equal fresh pages exactly when, in the same rooms, it gives the same plan for both.
  pub same_read : (rows text : List ℕ) (q q₂ : Result Code.Plan Refusal) (rows₁ rows₂ text₁ text₂ : List ℕ) → Enough rows text → Took rows text b ss ns q rows₁ text₁
      → Took rows text b₂ ss₂ ns₂ q₂ rows₂ text₂ → (pages_in r out' ≡ pages_in r₂ out₂') ↔ BothPlans q q₂ rows₁ rows₂ text₁ text₂
  same_read rows text q q₂ rows₁ rows₂ text₁ text₂ h R R₂ = (λ e. there (both.0 e), λ s. both.1 (back q q₂ T T₂ s))
    where
      G : Freshly out b ss ns r out'
      G = freshly out b ss ns r out' F

      G₂ : Freshly out₂ b₂ ss₂ ns₂ r₂ out₂'
      G₂ = freshly out₂ b₂ ss₂ ns₂ r₂ out₂' F₂

      both : (pages_in r out' ≡ pages_in r₂ out₂') ↔ (G.plan ≡ G₂.plan)
      both = same_exactly G.plan G₂.plan G.is_plan_lem G₂.is_plan_lem

      T : Reads.Promised (Paper.plan G.plan) rows text q rows₁ text₁
      T = subst (λ (a : Paper.Answer). Reads.Promised a rows text q rows₁ text₁) (sym (roomy_call out b ss ns (plan_roomy out b ss ns G.plan G.is_plan_lem)) ∙ G.is_plan_lem) (took_as rows text b ss ns q rows₁ text₁ h R)

      T₂ : Reads.Promised (Paper.plan G₂.plan) rows text q₂ rows₂ text₂
      T₂ = subst (λ (a : Paper.Answer). Reads.Promised a rows text q₂ rows₂ text₂) (sym (roomy_call out₂ b₂ ss₂ ns₂ (plan_roomy out₂ b₂ ss₂ ns₂ G₂.plan G₂.is_plan_lem)) ∙ G₂.is_plan_lem) (took_as rows text b₂ ss₂ ns₂ q₂ rows₂ text₂ h R₂)

      there : G.plan ≡ G₂.plan → BothPlans q q₂ rows₁ rows₂ text₁ text₂
      there e = both_plans rows text G.plan q q₂ rows₁ rows₂ text₁ text₂ T (subst (λ (p : Said.Plan). Reads.Promised (Paper.plan p) rows text q₂ rows₂ text₂) (sym e) T₂)

      back : (q q₂ : Result Code.Plan Refusal) → Reads.Promised (Paper.plan G.plan) rows text q rows₁ text₁ → Reads.Promised (Paper.plan G₂.plan) rows text q₂ rows₂ text₂
          → BothPlans q q₂ rows₁ rows₂ text₁ text₂ → G.plan ≡ G₂.plan
      back (Ok a) (Ok c) T T₂ s =
          sym (took_shows rows text G.plan a rows₁ text₁ (read_sound (pages_at b ss ns) G.plan (plan_read out b ss ns G.plan G.is_plan_lem)).0 T)
          ∙ shows_same s ∙ took_shows rows text G₂.plan c rows₂ text₂ (read_sound (pages_at b₂ ss₂ ns₂) G₂.plan (plan_read out₂ b₂ ss₂ ns₂ G₂.plan G₂.is_plan_lem)).0 T₂
      back (Ok a) (Err y) T T₂ s = absurd s
      back (Err x) q₂ T T₂ s = absurd s

-- ---- spelling, cut and order

module _ (out b ss ns : List ℕ) (r : Result Pages Refused) (out' : List ℕ) (F : Gives out b ss ns r out') (b₂ ss₂ ns₂ : List ℕ) (r₂ : Result Pages Refused) (out₂' : List ℕ) (F₂ : Gives out b₂ ss₂ ns₂ r₂ out₂') where
  -- Spelling and cut make no difference: pages that say the same plan, however they are spelled and cut, give the same numbers and the same room.
  pub only_plan : (p : Said.Plan) → fresh_call (length out) b ss ns ≡ Paper.plan p → fresh_call (length out) b₂ ss₂ ns₂ ≡ Paper.plan p → (r ≡ r₂) × (out' ≡ out₂')
  only_plan p e e₂ = same_answer out b ss ns b₂ ss₂ ns₂ r r₂ out' out₂' F F₂ (e ∙ sym e₂)

  -- Nor does the order of scanning: accepted pages in another order give the same numbers and the same room.
  pub any_order : Accepted r → inside b₂ ss₂ ns₂ ≡ true → Perm (pages_at b ss ns) (pages_at b₂ ss₂ ns₂) → (r ≡ r₂) × (out' ≡ out₂')
  any_order a i m =
      let (p, e) = (accepted out b ss ns r out' F).0 a in
      only_plan p e
      (roomy_call out b₂ ss₂ ns₂ (plan_roomy out b ss ns p e)
      ∙ (reads_pages b₂ ss₂ ns₂ i ∙ Orders.any_order (pages_at b ss ns) (pages_at b₂ ss₂ ns₂) p m (plan_read out b ss ns p e)))
