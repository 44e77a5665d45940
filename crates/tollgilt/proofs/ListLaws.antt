-- ListLaws: what reading gives is what listing asks for, and what listing then gives is document 01's answer for the call.
-- Assumes nothing.
use mathlib.Core.Path.{◌≡◌, refl, ap, sym, ◌∙◌, subst}
use mathlib.Core.Bool.{Bool, true, false, ◌&&◌}
use mathlib.Core.List.{List, [], ◌∷◌}
use Prim.Native.Nat.{ℕ, ◌+◌, ◌*◌, ◌≤◌, ◌<◌}
use native.Mathlib.Omega.{arith}
use lib.Dec.{leb}
use lib.ListN.{length, drop, replicate, length-replicate}
use borrow.Author.Tests.{leb-true, le-leb, lt-leb}
use Rattle.std.specs.Prelude.{Result, Ok, Err}
use Rattle.paper.specs.Lists.{if}
use Rattle.paper.specs.Plan as Said
use Rattle.paper.specs.Reading as Paper
use Rattle.paper.specs.Reading.{Numbers, read, decide, judge_all}
use Rattle.paper.specs.Writing.{sound}
use Rattle.paper.specs.Layout.{text_of}
use Rattle.paper.specs.Listing.{listing}
use Rattle.paper.specs.Calls.{listing_room, inside, pages_at, read_at, read_call, list_call, roomy}
use Rattle.paper.proofs.Small.{both}
use Rattle.paper.proofs.CallLaws.{two_to_twelve}
use Rattle.paper.proofs.ReadSound.{read_sound}
use Rattle.paper.proofs.Rooms.{rooms}
use Rattle.room.specs.Laid.{laid}
use Rattle.plan.specs.Numbers.{rows_lent, show_plan, head_in_text, fit_rows, plan_rows}
use Rattle.plan.proofs.Shown.{sound_back}
use Rattle.plan.specs.declared.Plan as Code
use Rattle.reader.specs.Answers as Reader
use Rattle.reader.specs.Answers.{told}
use Rattle.reader.specs.Promise as Reads
use Rattle.reader.specs.declared.answer.Refusal.{Refusal}
use Rattle.listing.proofs.Whole.{read_asked}
use Rattle.tollgilt.specs.Refused.{refused_with, refused, numbers_of}
use Rattle.tollgilt.specs.Promise.{Promised, Handed, answered, given, length_told, room_after}
use Rattle.tollgilt.specs.declared.refused.Refused.{Refused}

-- ---- a refusal has a number

-- the answer is a plan, or its number is one of 1 to 12
abbrev pub Numbered : Paper.Answer → Type 0
Numbered (Paper.refusal n k i) = (1 ≤ n) × (n ≤ 12)
Numbered (Paper.plan p) = Unit {0}

-- so it is of reading
pub read_numbered : (f : List (List ℕ)) → Numbered (read f)
unfolding read
read_numbered f = at (leb 1 (length f) && leb (length f) 9) refl
  where
    by : (a : Paper.Answer) → ((n k i : ℕ) → a ≡ Paper.refusal n k i → (1 ≤ n) × (n ≤ 12)) → Numbered a
    by (Paper.refusal n k i) h = h n k i refl
    by (Paper.plan p) h = tt

    at : (b : Bool) → (leb 1 (length f) && leb (length f) 9) ≡ b → Numbered (if b (decide (judge_all 1 f)) (Paper.refusal 1 0 0))
    at true e =
        let (x, y) = both (leb 1 (length f)) (leb (length f) 9) e in
        by (decide (judge_all 1 f))
        (λ n k i q. let r = two_to_twelve f n k i (leb-true 1 (length f) x) (leb-true (length f) 9 y) (ap (λ (b : Bool). if b (decide (judge_all 1 f)) (Paper.refusal 1 0 0)) e ∙ q) in (omega arith, omega arith))
    at false e = (omega arith, omega arith)

-- and of a call
pub call_numbered : (room : Bool) (b ss ns : List ℕ) → Numbered (read_at room b ss ns)
unfolding read_at
call_numbered room b ss ns = at (room && (leb 1 (length ss) && (leb (length ss) 9 && inside b ss ns)))
  where
    at : (x : Bool) → Numbered (if x (read (pages_at b ss ns)) (Paper.refusal 1 0 0))
    at true = read_numbered (pages_at b ss ns)
    at false = (omega arith, omega arith)

-- the plan of a call is that of its pages
pub call_plan : (room : Bool) (b ss ns : List ℕ) (p : Said.Plan) → read_at room b ss ns ≡ Paper.plan p → read (pages_at b ss ns) ≡ Paper.plan p
unfolding read_at
call_plan room b ss ns p = at (room && (leb 1 (length ss) && (leb (length ss) 9 && inside b ss ns)))
  where
    at : (x : Bool) → if x (read (pages_at b ss ns)) (Paper.refusal 1 0 0) ≡ Paper.plan p → read (pages_at b ss ns) ≡ Paper.plan p
    at true e = e
    at false e = let z : ◌≡◌ {A = ℕ} 0 1 = cc in absurd (omega arith)

-- ---- the room

-- too little room is refusal 1
pub no_room : (out b ss ns : List ℕ) → length out < 25200 → answered out b ss ns ≡ Paper.refusal 1 0 0
unfolding list_call read_at
no_room out b ss ns h = rw (lt-leb listing_room (length out) h)

-- the rows and the text that are lent to reading
abbrev pub rows₀ : List ℕ
rows₀ = replicate 12288 0

abbrev pub text₀ : List ℕ
text₀ = replicate 12600 0

-- they are room enough, so that the pages decide
pub pages_decide : (b ss ns : List ℕ) → Reads.answered rows₀ text₀ b ss ns ≡ read_at true b ss ns
unfolding read_call
pages_decide b ss ns =
    let enough : roomy (rows_lent (length rows₀)) (length text₀) ≡ true = ap (λ (n : ℕ). roomy (rows_lent n) (length text₀)) (length-replicate {A = ℕ} 12288 0) ∙ ap (roomy 256) (length-replicate {A = ℕ} 12600 0) in
    ap (λ (x : Bool). read_at x b ss ns) enough

-- what reading promises for the call it promises for the answer to its pages
pub read_here : (b ss ns rows text : List ℕ) (r : Result Code.Plan Refusal) (a : Paper.Answer) → a ≡ read_at true b ss ns
    → Reads.Promised (Reads.answered rows₀ text₀ b ss ns) rows₀ text₀ r rows text → Reads.Promised a rows₀ text₀ r rows text
read_here b ss ns rows text r a e R = subst (λ (x : Paper.Answer). Reads.Promised x rows₀ text₀ r rows text) (pages_decide b ss ns ∙ sym e) R

-- with room enough, the call is answered as reading its pages
pub list_call_lem : (out b ss ns : List ℕ) → 25200 ≤ length out → answered out b ss ns ≡ read_at true b ss ns
unfolding list_call
list_call_lem out b ss ns h = ap (λ (x : Bool). read_at x b ss ns) (le-leb listing_room (length out) h)

-- ---- what is promised

-- a refusal, whatever refused
pub refuses : (a : Paper.Answer) (out : List ℕ) (n k i : ℕ) → a ≡ Paper.refusal n k i → Promised a out (Err (refused_with n k i)) out
refuses a out n k i e = rw e (record { result_is = refl; room_is = refl })

-- reading gave a plan: its numbers are what the listing asks for, and show that plan
pub record Listable (a : Paper.Answer) (q : Code.Plan) (rows text out : List ℕ) : Type 0 where
  pub plan : Said.Plan
  pub is_plan_lem : a ≡ Paper.plan plan
  pub shows : show_plan text q rows ≡ plan
  pub fits : length (listing plan) ≤ 25200
  pub asked : (q.rows * 48 ≤ length rows) × (head_in_text text q ≡ true) × (fit_rows text q.rows rows ≡ true)
      × (length (listing (show_plan text q rows)) ≤ length out)

-- what is known of the plan that a call gives
abbrev Given : Paper.Answer → Type 0
Given (Paper.refusal n k i) = 1 ≤ n
Given (Paper.plan p) = (sound p ≡ true) × (length (listing p) ≤ 25200)

call_given : (room : Bool) (b ss ns : List ℕ) → Given (read_at room b ss ns)
call_given room b ss ns = at (read_at room b ss ns) refl (call_numbered room b ss ns)
  where
    at : (a : Paper.Answer) → read_at room b ss ns ≡ a → Numbered a → Given a
    at (Paper.refusal n k i) e h = h.0
    at (Paper.plan p) e h = let q = call_plan room b ss ns p e in ((read_sound (pages_at b ss ns) p q).0, (rooms (pages_at b ss ns) p q).listing_fits)

given_listable : (a : Paper.Answer) (out rows text : List ℕ) (q : Code.Plan) → Given a → Reads.Reads a q rows₀ text₀ rows text → 25200 ≤ length out → Listable a q rows text out
given_listable a out rows text q g R h =
    let p = R.plan in
    let more : List ℕ = drop (0 + length (plan_rows p)) rows₀ in
    let rest : List ℕ = drop (0 + length (text_of p)) text₀ in
    let (s, l) = subst Given R.answer_is g in
    record {
      plan = p;
      is_plan_lem = R.answer_is;
      shows = rw (R.plan_is, R.rows_are, R.text_is) (sound_back p rest more s);
      fits = l;
      asked = rw (R.plan_is, R.rows_are, R.text_is) (read_asked p rest more out s (omega (arith, l)));
    }

-- what reading gives for a call with room enough
module _ (out b ss ns : List ℕ) (h : 25200 ≤ length out) (rows text : List ℕ) where
  read_as : (r : Result Code.Plan Refusal) → Reads.Promised (Reads.answered rows₀ text₀ b ss ns) rows₀ text₀ r rows text → Reads.Promised (answered out b ss ns) rows₀ text₀ r rows text
  read_as r R = read_here b ss ns rows text r (answered out b ss ns) (list_call_lem out b ss ns h) R

  -- reading refused the pages
  pub nothing_listed : (x : Refusal) → Reads.Refuses (Reads.answered rows₀ text₀ b ss ns) x rows₀ text₀ rows text → Promised (answered out b ss ns) out (Err (refused (Reader.numbers_of x))) out
  nothing_listed x R = refuses (answered out b ss ns) out _ _ _ (read_as (Err x) R).answer_is

  -- reading gave a plan
  pub listable : (q : Code.Plan) → Reads.Reads (Reads.answered rows₀ text₀ b ss ns) q rows₀ text₀ rows text → Listable (answered out b ss ns) q rows text out
  unfolding list_call
  listable q R = given_listable (answered out b ss ns) out rows text q (call_given (leb listing_room (length out)) b ss ns) (read_as (Ok q) R) h

-- the listing is as long as the room at most
pub listed_short : {a : Paper.Answer} {q : Code.Plan} {rows text out : List ℕ} → Listable a q rows text out → length (listing (show_plan text q rows)) ≤ 25200
listed_short L = subst (λ (p : Said.Plan). length (listing p) ≤ 25200) (sym L.shows) L.fits

-- the plan is listed
pub listed : {a : Paper.Answer} {q : Code.Plan} {rows text out : List ℕ} → Listable a q rows text out → (n : ℕ) (out' : List ℕ)
    → (n ≡ length (listing (show_plan text q rows))) × (out' ≡ laid out 0 (listing (show_plan text q rows))) → Promised a out (Ok n) out'
listed {a} {q} {rows} {text} {out} L n out' w =
    record {
      result_is = ap Ok (w.0 ∙ ap (λ (p : Said.Plan). length (listing p)) L.shows) ∙ sym (ap given L.is_plan_lem);
      room_is = w.1 ∙ (ap (λ (p : Said.Plan). laid out 0 (listing p)) L.shows ∙ sym (ap (λ (x : Paper.Answer). room_after x out) L.is_plan_lem));
    }

-- ---- the border

-- what is handed out of a result: the length of the listing, and the refusal's page and place
abbrev pub told_of : Result ℕ Refused → List ℕ
told_of (Ok n) = n ∷ 0 ∷ 0 ∷ []
told_of (Err e) = 0 ∷ e.page ∷ e.place ∷ []

-- these are the numbers of the answer
pub handed : (a : Paper.Answer) (out : List ℕ) (r : Result ℕ Refused) (out' : List ℕ) → Promised a out r out' → Handed a out (numbers_of r).number out' (told_of r)
handed a out r out' P =
    record {
      number_is = ap (λ (x : Result ℕ Refused). (numbers_of x).number) P.result_is ∙ number a;
      told_is = ap told_of P.result_is ∙ all a;
      room_is = P.room_is;
    }
  where
    number : (a : Paper.Answer) → (numbers_of (given a)).number ≡ (told a).number
    number (Paper.refusal n k i) = refl
    number (Paper.plan p) = refl

    all : (a : Paper.Answer) → told_of (given a) ≡ length_told a ∷ (told a).page ∷ (told a).place ∷ []
    all (Paper.refusal n k i) = refl
    all (Paper.plan p) = refl
