-- FreshLaws: how a call that writes its pages afresh ends, and what is known of the pages that it gives.
-- Assumes nothing.
use mathlib.Core.Path.{◌≡◌, refl, ap, sym, ◌∙◌, subst}
use mathlib.Core.Logic.{◌↔◌, ◌⊎◌, inl, inr}
use mathlib.Core.Bool.{Bool, true, false}
use mathlib.Core.List.{List, [], ◌∷◌, ◌++◌, append_assoc, map}
use Prim.Native.Nat.{ℕ, zero, suc, ◌+◌, ◌≤◌}
use native.Mathlib.Omega.{arith}
use lib.Dec.{leb}
use lib.ListN.{length, take, drop, length-append, length-drop, take-append-drop}
use lib.Seq.{take_at, drop_at, drop-drop}
use borrow.Author.Tests.{leb-true, le-leb}
use Rattle.std.specs.Prelude.{Result, Ok}
use Rattle.paper.specs.Lists.{concat}
use Rattle.paper.specs.Plan as Said
use Rattle.paper.specs.Reading as Paper
use Rattle.paper.specs.Reading.{read}
use Rattle.paper.specs.Writing as Spelled
use Rattle.paper.specs.Writing.{too_long, written, fresh}
use Rattle.paper.specs.Cuts.{Cut}
use Rattle.paper.specs.Calls.{page_room, inside, pages_at, read_at, fresh_call}
use Rattle.paper.proofs.Small.{no, and_intro, unequal}
use Rattle.paper.proofs.AnyOrder.{is_plan}
use Rattle.paper.proofs.CallLaws.{starts_of, lengths_of, reads_pages}
use Rattle.paper.proofs.Writer.{round_trip, writable, room, is_cut, fewest, same_pages}
use Rattle.room.specs.Laid.{laid}
use Rattle.plan.specs.Numbers.{padded}
use Rattle.writer.specs.Promise.{pages_told}
use Rattle.writer.specs.declared.writing.Pages.{Pages}
use Rattle.tollgilt.specs.Fresh.{Answer, refusal, pages, writes, afresh, answered, Promised, behind, total, lens_told, starts_told, bytes_told, pages_in, Begins}
use Rattle.tollgilt.specs.declared.refused.Refused.{Refused}
use Rattle.tollgilt.proofs.ListLaws.{Numbered, call_numbered, call_plan}

-- what a call gives: the room as lent, the pages handed in, the result, and the room as handed back
abbrev pub Gives : List ℕ → List ℕ → List ℕ → List ℕ → Result Pages Refused → List ℕ → Type 0
Gives out b ss ns r out' = Promised (answered out b ss ns) out r out'

-- ---- how a call ends

-- reading refuses it; or its plan is too long; or there are pages
pub data Ends (a : Paper.Answer) : Type 0 where
  stopped : (n k i : ℕ) → 1 ≤ n → n ≤ 12 → a ≡ Paper.refusal n k i → Ends a
  long : (p : Said.Plan) (i : ℕ) → a ≡ Paper.plan p → fresh p ≡ too_long i → Ends a
  fine : (p : Said.Plan) (f : List (List ℕ)) → a ≡ Paper.plan p → fresh p ≡ written f → Ends a

-- the plan of a call is that of its pages
pub plan_read : (out b ss ns : List ℕ) (p : Said.Plan) → fresh_call (length out) b ss ns ≡ Paper.plan p → read (pages_at b ss ns) ≡ Paper.plan p
unfolding fresh_call
plan_read out b ss ns p e = call_plan (leb page_room (length out)) b ss ns p e

-- every call ends so
pub ends : (out b ss ns : List ℕ) → Ends (fresh_call (length out) b ss ns)
unfolding fresh_call
ends out b ss ns = at (read_at (leb page_room (length out)) b ss ns) refl (call_numbered (leb page_room (length out)) b ss ns)
  where
    by : (p : Said.Plan) → ((g : List (List ℕ)) × (fresh p ≡ written g)) ⊎ ((r : ℕ) × (fresh p ≡ too_long r)) → Ends (Paper.plan p)
    by p (inl (f, w)) = fine p f refl w
    by p (inr (i, w)) = long p i refl w

    at : (a : Paper.Answer) → read_at (leb page_room (length out)) b ss ns ≡ a → Numbered a → Ends a
    at (Paper.refusal n k i) e g = stopped n k i g.0 g.1 refl
    at (Paper.plan p) e g = by p (writable (pages_at b ss ns) p (call_plan (leb page_room (length out)) b ss ns p e))

-- the answer at each end
abbrev pub ends_with : {a : Paper.Answer} → Ends a → Answer
ends_with (stopped n k i g h e) = refusal n k i
ends_with (long p i e w) = refusal 14 0 i
ends_with (fine p f e w) = pages f

ends_with_lem : {a : Paper.Answer} (x : Ends a) → afresh a ≡ ends_with x
ends_with_lem (stopped n k i g h e) = ap afresh e
ends_with_lem (long p i e w) = ap afresh e ∙ ap writes w
ends_with_lem (fine p f e w) = ap afresh e ∙ ap writes w

-- what a call gives at its end
pub gives_end : (out b ss ns : List ℕ) (r : Result Pages Refused) (out' : List ℕ) → Gives out b ss ns r out' → (x : Ends (fresh_call (length out) b ss ns)) → Promised (ends_with x) out r out'
gives_end out b ss ns r out' F x = subst (λ (a : Answer). Promised a out r out') (ends_with_lem x) F

-- ---- the room for pages

-- with room enough the call is answered as reading its pages
pub roomy_call : (out b ss ns : List ℕ) → 12600 ≤ length out → fresh_call (length out) b ss ns ≡ read_at true b ss ns
unfolding fresh_call
roomy_call out b ss ns h = ap (λ (x : Bool). read_at x b ss ns) (le-leb page_room (length out) h)

-- a plan comes of room enough
pub plan_roomy : (out b ss ns : List ℕ) (p : Said.Plan) → fresh_call (length out) b ss ns ≡ Paper.plan p → 12600 ≤ length out
unfolding fresh_call read_at
plan_roomy out b ss ns p = at (leb page_room (length out)) refl
  where
    at : (x : Bool) → leb page_room (length out) ≡ x → read_at x b ss ns ≡ Paper.plan p → 12600 ≤ length out
    at true e q = leb-true page_room (length out) e
    at false e q = no (sym (ap is_plan q))

-- ---- pages that lie one behind the other

-- they lie in the buffer, and are what is handed in
pages_lie : (b x : List ℕ) (s : ℕ) (f : List (List ℕ)) → s ≤ length b → drop s b ≡ concat f ++ x
    → (inside b (starts_of s f) (lengths_of f) ≡ true) × (pages_at b (starts_of s f) (lengths_of f) ≡ f)
pages_lie b x s [] h e = (refl, refl)
pages_lie b x s (w ∷ ws) h e =
    let q : drop s b ≡ w ++ (concat ws ++ x) = e ∙ append_assoc w (concat ws) x in
    let fits : s + length w ≤ length b = omega (arith, length-drop s b, ap length q, length-append w (concat ws ++ x)) in
    let here : take (length w) (drop s b) ≡ w = ap (take (length w)) q ∙ take_at w (concat ws ++ x) (length w) refl in
    let next : drop (s + length w) b ≡ concat ws ++ x = sym (drop-drop (length w) s b) ∙ (ap (drop (length w)) q ∙ drop_at w (concat ws ++ x) (length w) refl) in
    let (u, v) = pages_lie b x (s + length w) ws fits next in
    (and_intro (leb (s + length w) (length b)) (inside b (starts_of (s + length w) ws) (lengths_of ws)) (le-leb (s + length w) (length b) fits) u, rw (here, v))

-- ---- the numbers of pages

lens_front : (k : ℕ) (f : List (List ℕ)) → length f ≤ k → take (length f) (padded k 0 (map length f)) ≡ lengths_of f
lens_front k [] h = refl
lens_front zero (w ∷ f) h = absurd (omega arith)
lens_front (suc k) (w ∷ f) h = ap (λ (l : List ℕ). length w ∷ l) (lens_front k f (omega arith))

starts_behind : (n : ℕ) (f : List (List ℕ)) → behind n (lengths_of f) ≡ starts_of n f
starts_behind n [] = refl
starts_behind n (w ∷ f) = ap (λ (l : List ℕ). n ∷ l) (starts_behind (n + length w) f)

bytes_all : (f : List (List ℕ)) → total (lengths_of f) ≡ length (concat f)
bytes_all [] = refl
bytes_all (w ∷ f) = omega (arith, bytes_all f, length-append w (concat f))

-- ---- fresh pages in a room

-- the room, as handed back, holds the fresh pages of the plan, and these numbers tell them
pub record Holds (p : Said.Plan) (out : List ℕ) (r : Pages) (out' : List ℕ) : Type 0 where
  pub sheets : List (List ℕ)
  pub is_fresh : fresh p ≡ written sheets
  pub result_is : r ≡ pages_told sheets
  pub room_is : out' ≡ laid out 0 (concat sheets)

module _ {p : Said.Plan} {out : List ℕ} {r : Pages} {out' : List ℕ} (G : Holds p out r out') where
  lens_told_lem : lens_told r ≡ lengths_of G.sheets
  lens_told_lem = ap lens_told G.result_is ∙ lens_front 9 G.sheets (room p G.sheets G.is_fresh).0

  starts_told_lem : starts_told r ≡ starts_of 0 G.sheets
  starts_told_lem = ap (behind 0) lens_told_lem ∙ starts_behind 0 G.sheets

  -- the bytes told are those of all pages
  pub bytes_told_lem : bytes_told r ≡ length (concat G.sheets)
  bytes_told_lem = ap total lens_told_lem ∙ bytes_all G.sheets

  -- the room begins with the pages
  pub front : take (bytes_told r) out' ≡ concat G.sheets
  front = ap (take (bytes_told r)) G.room_is ∙ take_at (concat G.sheets) (drop (0 + length (concat G.sheets)) out) (bytes_told r) (sym bytes_told_lem)

  module _ (buffer : List ℕ) (g : Begins r out' buffer) where
    lie : (inside buffer (starts_of 0 G.sheets) (lengths_of G.sheets) ≡ true) × (pages_at buffer (starts_of 0 G.sheets) (lengths_of G.sheets) ≡ G.sheets)
    lie =
        pages_lie buffer (drop (bytes_told r) buffer) 0 G.sheets (omega arith)
        (sym (take-append-drop (bytes_told r) buffer) ∙ ap (λ (l : List ℕ). l ++ drop (bytes_told r) buffer) (g ∙ front))

    -- the pages that a buffer begins with
    pub pages_there : pages_in r buffer ≡ G.sheets
    pages_there = ap (λ (s : List ℕ). pages_at buffer s (lens_told r)) starts_told_lem ∙ (ap (pages_at buffer (starts_of 0 G.sheets)) lens_told_lem ∙ lie.1)

    -- they are read to the plan that they were written for
    pub read_back : read_at true buffer (starts_told r) (lens_told r) ≡ Paper.plan p
    read_back =
        ap (λ (s : List ℕ). read_at true buffer s (lens_told r)) starts_told_lem
        ∙ (ap (read_at true buffer (starts_of 0 G.sheets)) lens_told_lem
        ∙ (reads_pages buffer (starts_of 0 G.sheets) (lengths_of G.sheets) lie.0 ∙ (ap read lie.1 ∙ round_trip p G.sheets G.is_fresh)))

  -- the pages in the room
  pub pages_in_lem : pages_in r out' ≡ G.sheets
  pages_in_lem = pages_there out' refl

  -- they are the plan's fresh pages
  pub written_in : fresh p ≡ written (pages_in r out')
  written_in = G.is_fresh ∙ ap written (sym pages_in_lem)

  count_in_lem : length (pages_in r out') ≡ r.count
  count_in_lem = ap length pages_in_lem ∙ sym (ap (λ (t : Pages). t.count) G.result_is)

  -- they are a cut of the plan's rows, spelled
  pub cut_in : (c : Cut p.head p.rows r.count) × (pages_in r out' ≡ Spelled.pages p.head r.count 1 c.parts)
  cut_in =
      subst (λ (n : ℕ). (c : Cut p.head p.rows n) × (pages_in r out' ≡ Spelled.pages p.head n 1 c.parts)) count_in_lem
      (is_cut p (pages_in r out') written_in)

  -- no cut has fewer
  pub fewest_in : (k : ℕ) → Cut p.head p.rows k → r.count ≤ k
  fewest_in k c = subst (λ (n : ℕ). n ≤ k) count_in_lem (fewest p (pages_in r out') written_in k c)

-- ---- two rooms with fresh pages

-- they hold the same pages exactly when the plans are the same
pub same_in : {p₁ p₂ : Said.Plan} {out₁ out₂ : List ℕ} {r₁ r₂ : Pages} {out₁' out₂' : List ℕ} → Holds p₁ out₁ r₁ out₁' → Holds p₂ out₂ r₂ out₂'
    → (pages_in r₁ out₁' ≡ pages_in r₂ out₂') ↔ (p₁ ≡ p₂)
same_in {p₁} {p₂} {out₁} {out₂} {r₁} {r₂} {out₁'} {out₂'} G₁ G₂ = same_pages p₁ p₂ (pages_in r₁ out₁') (pages_in r₂ out₂') (written_in G₁) (written_in G₂)

module _ {p : Said.Plan} {out₁ out₂ : List ℕ} {r₁ r₂ : Pages} {out₁' out₂' : List ℕ} (G₁ : Holds p out₁ r₁ out₁') (G₂ : Holds p out₂ r₂ out₂') where
  sheets_alike : G₁.sheets ≡ G₂.sheets
  sheets_alike = sym (pages_in_lem G₁) ∙ ((same_in G₁ G₂).1 refl ∙ pages_in_lem G₂)

  -- where they hold the same plan, the same numbers tell the same pages
  pub told_alike : (r₁ ≡ r₂) × (pages_in r₁ out₁' ≡ pages_in r₂ out₂')
  told_alike = (G₁.result_is ∙ (ap pages_told sheets_alike ∙ sym G₂.result_is), (same_in G₁ G₂).1 refl)

  -- rooms that were lent alike are alike
  pub room_alike : out₁ ≡ out₂ → out₁' ≡ out₂'
  room_alike e = G₁.room_is ∙ (ap (λ (l : List ℕ). laid l 0 (concat G₁.sheets)) e ∙ (ap (λ (f : List (List ℕ)). laid out₂ 0 (concat f)) sheets_alike ∙ sym G₂.room_is))

  -- and a room that held the pages already has stayed as it was
  pub room_stays : out₂ ≡ out₁' → out₂' ≡ out₁'
  room_stays e =
      let w : List ℕ = concat G₁.sheets in
      let rest : List ℕ = drop (0 + length w) out₁ in
      G₂.room_is
      ∙ (ap (λ (f : List (List ℕ)). laid out₂ 0 (concat f)) (sym sheets_alike)
      ∙ (ap (λ (l : List ℕ). laid l 0 w) (e ∙ G₁.room_is) ∙ (ap (λ (l : List ℕ). w ++ l) (drop_at w rest (0 + length w) (omega arith)) ∙ sym G₁.room_is)))

-- ---- a call that gives pages

-- its plan, and the room that holds the plan's fresh pages
pub record Freshly (out b ss ns : List ℕ) (r : Pages) (out' : List ℕ) : Type 0 where
  pub plan : Said.Plan
  pub is_plan_lem : fresh_call (length out) b ss ns ≡ Paper.plan plan
  pub holds : Holds plan out r out'

-- it is a call that is not refused
pub freshly : (out b ss ns : List ℕ) (r : Pages) (out' : List ℕ) → Gives out b ss ns (Ok r) out' → Freshly out b ss ns r out'
freshly out b ss ns r out' F = at (ends out b ss ns) (gives_end out b ss ns (Ok r) out' F (ends out b ss ns))
  where
    at : (x : Ends (fresh_call (length out) b ss ns)) → Promised (ends_with x) out (Ok r) out' → Freshly out b ss ns r out'
    at (stopped n k i g h e) P = unequal (cc (P.result_is))
    at (long p i e w) P = unequal (cc (P.result_is))
    at (fine p f e w) P = record { plan = p; is_plan_lem = e; holds = record { sheets = f; is_fresh = w; result_is = cc (P.result_is); room_is = P.room_is } }
