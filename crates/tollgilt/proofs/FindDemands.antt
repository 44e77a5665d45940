-- FindDemands: what is asked of finding a package number, carried over to what `find_pages` gives. Each statement is about results that meet its promise (`Finds`), and
-- holds for any call.
-- Assumes nothing.
use mathlib.Core.Path.{◌≡◌, refl, ap, sym, ◌∙◌, subst}
use mathlib.Core.Logic.{◌↔◌}
use mathlib.Core.Bool.{Bool, true, false, ◌||◌}
use mathlib.Core.List.{List, [], ◌∷◌}
use Prim.Native.Nat.{ℕ, ◌+◌}
use native.Mathlib.Omega.{arith}
use lib.Dec.{leb}
use lib.ListN.{length, take, drop}
use lib.Seq.{take-append_seam}
use borrow.Author.Tests.{eq-eqb}
use Rattle.std.specs.Prelude.{Result, Ok}
use Rattle.paper.specs.Plan as Said
use Rattle.paper.specs.Reading as Paper
use Rattle.paper.specs.Listing.{listing}
use Rattle.paper.specs.Calls.{row_room, listing_room, inside, pages_at, read_at, list_call, find_call}
use Rattle.paper.specs.Index.{held_at, holders}
use Rattle.paper.proofs.Small.{no, unequal}
use Rattle.paper.proofs.AnyOrder as Orders
use Rattle.paper.proofs.AnyOrder.{Perm}
use Rattle.paper.proofs.CallLaws.{reads_pages}
use Rattle.paper.proofs.Indexed.{elem_of, rising, finds, rises}
use Rattle.tollgilt.specs.Promise as Lists
use Rattle.tollgilt.specs.Find.{Promised, answered}
use Rattle.tollgilt.specs.declared.refused.Refused.{Refused}
use Rattle.tollgilt.proofs.ListLaws.{call_plan}
use Rattle.tollgilt.proofs.Demands.{plan_once}
use Rattle.tollgilt.proofs.Unique.{find_once}

-- what a call of `find_pages` gives: the list as lent, the pages handed in, the number asked for, the result, and the list as handed back
abbrev pub Finds : List ℕ → List ℕ → List ℕ → List ℕ → ℕ → Result ℕ Refused → List ℕ → Type 0
Finds list b ss ns n r list' = Promised (answered list b ss ns) n list r list'

-- the rows that it tells
abbrev pub rows_found : ℕ → List ℕ → List ℕ
rows_found r list' = take r list'

-- the pages of a call are a plan, and these are just its rows that hold the number, each once, ascending
pub record Held (b ss ns : List ℕ) (n : ℕ) (is : List ℕ) : Type 0 where
  pub plan : Said.Plan
  pub is_plan_lem : read_at true b ss ns ≡ Paper.plan plan
  pub exactly : (i : ℕ) → elem_of i is ≡ held_at plan.rows n i
  pub ascends : rising is ≡ true

-- a plan is given with room enough alone
plan_room : (room : Bool) (b ss ns : List ℕ) (p : Said.Plan) → read_at room b ss ns ≡ Paper.plan p → room ≡ true
unfolding read_at
plan_room true b ss ns p e = refl
plan_room false b ss ns p e = unequal (cc)

pub roomy_plan : (room : Bool) (b ss ns : List ℕ) (p : Said.Plan) → read_at room b ss ns ≡ Paper.plan p → read_at true b ss ns ≡ Paper.plan p
roomy_plan room b ss ns p e = ap (λ (x : Bool). read_at x b ss ns) (sym (plan_room room b ss ns p e)) ∙ e

-- an answer that is not refused is a plan
plan_of_lem : (a : Paper.Answer) (n : ℕ) (list : List ℕ) (m : ℕ) (list' : List ℕ) → Promised a n list (Ok m) list' → (p : Said.Plan) × (a ≡ Paper.plan p)
plan_of_lem (Paper.refusal j k i) n list m list' P = unequal (cc (P.result_is))
plan_of_lem (Paper.plan p) n list m list' P = (p, refl)

listed_plan : (a : Paper.Answer) (out : List ℕ) (l : ℕ) (out' : List ℕ) → Lists.Promised a out (Ok l) out' → (p : Said.Plan) × (a ≡ Paper.plan p)
listed_plan (Paper.refusal j k i) out l out' P = unequal (cc (P.result_is))
listed_plan (Paper.plan p) out l out' P = (p, refl)

-- there is none exactly where nothing is among them
none_in : (is : List ℕ) (k : ℕ) → k ≡ length is → (f : ℕ → Bool) → ((i : ℕ) → elem_of i is ≡ f i) → (k ≡ 0) ↔ ((i : ℕ) → f i ≡ false)
none_in [] k e f h = (λ o i. sym (h i), λ g. e)
none_in (i ∷ is) k e f h = (λ o. absurd (omega arith), λ g. no (sym (ap (λ (b : Bool). b || elem_of i is) (eq-eqb i i refl)) ∙ (h i ∙ g i)))

-- the bytes told begin the room: they are the plan's listing
listing_told : (p : Said.Plan) (out : List ℕ) (l : ℕ) (out' : List ℕ) → Lists.Promised (Paper.plan p) out (Ok l) out' → take l out' ≡ listing p
listing_told p out l out' L =
    let many : l ≡ length (listing p) = cc (L.result_is) in
    rw (many, L.room_is) (take-append_seam (listing p) (drop (0 + length (listing p)) out))

module _ (list b ss ns : List ℕ) (n r : ℕ) (list' : List ℕ) (F : Finds list b ss ns n (Ok r) list') where
  counted : (p : Said.Plan) → answered list b ss ns ≡ Paper.plan p → r ≡ length (holders n p.rows)
  counted p e = let P = subst (λ (a : Paper.Answer). Promised a n list (Ok r) list') e F in cc (P.result_is)

  rows_of : (p : Said.Plan) → answered list b ss ns ≡ Paper.plan p → rows_found r list' ≡ holders n p.rows
  rows_of p e =
      let P = subst (λ (a : Paper.Answer). Promised a n list (Ok r) list') e F in
      let is : List ℕ = holders n p.rows in
      rw (counted p e, P.list_is) (take-append_seam is (drop (0 + length is) list))

  plan_there : (p : Said.Plan) × (answered list b ss ns ≡ Paper.plan p)
  plan_there = plan_of_lem (answered list b ss ns) n list r list' F

  -- "Each answer is a row that holds the number, and no such row is left out": where the call is not refused, the rows told are those of the pages' plan.
  pub held : Held b ss ns n (rows_found r list')
  unfolding find_call
  held =
      let (p, e) = plan_there in
      let q = rows_of p e in
      record {
        plan = p;
        is_plan_lem = roomy_plan (leb row_room (length list)) b ss ns p e;
        exactly = λ i. ap (elem_of i) q ∙ finds p.rows n i;
        ascends = ap rising q ∙ rises n p.rows;
      }

  -- "a number not on the plan is answered as such": none is told exactly where no row of the plan holds the number.
  pub none_told : (r ≡ 0) ↔ ((i : ℕ) → held_at held.plan.rows n i ≡ false)
  none_told = none_in (rows_found r list') r many (λ i. held_at held.plan.rows n i) held.exactly
    where
      many : r ≡ length (rows_found r list')
      many = let (p, e) = plan_there in counted p e ∙ sym (ap length (rows_of p e))

  -- The rows are counted as in the listing: `list_pages` lists, for the same pages, the plan whose rows are told.
  pub as_listed : (out : List ℕ) (l : ℕ) (out' : List ℕ) → Lists.Promised (Lists.answered out b ss ns) out (Ok l) out' → take l out' ≡ listing held.plan
  unfolding list_call
  as_listed out l out' L =
      let (p, e) = listed_plan (Lists.answered out b ss ns) out l out' L in
      let same : p ≡ held.plan = plan_once (roomy_plan (leb listing_room (length out)) b ss ns p e) held.is_plan_lem in
      listing_told p out l out' (subst (λ (a : Paper.Answer). Lists.Promised a out (Ok l) out') e L) ∙ ap listing same

  -- Nor does the order of scanning matter: the same pages in another order give the same rows.
  pub any_order : (b₂ ss₂ ns₂ : List ℕ) (r₂ : Result ℕ Refused) (list₂' : List ℕ) → Finds list b₂ ss₂ ns₂ n r₂ list₂' → inside b₂ ss₂ ns₂ ≡ true → Perm (pages_at b ss ns) (pages_at b₂ ss₂ ns₂)
      → (Ok r ≡ r₂) × (list' ≡ list₂')
  unfolding find_call
  any_order b₂ ss₂ ns₂ r₂ list₂' G i m =
      let (p, e) = plan_there in
      let there : read_at true b₂ ss₂ ns₂ ≡ Paper.plan p = reads_pages b₂ ss₂ ns₂ i ∙ Orders.any_order (pages_at b ss ns) (pages_at b₂ ss₂ ns₂) p m (call_plan (leb row_room (length list)) b ss ns p e) in
      let room : leb row_room (length list) ≡ true = plan_room (leb row_room (length list)) b ss ns p e in
      let same : answered list b ss ns ≡ answered list b₂ ss₂ ns₂ = e ∙ sym (ap (λ (x : Bool). read_at x b₂ ss₂ ns₂) room ∙ there) in
      find_once (answered list b ss ns) n list (Ok r) r₂ list' list₂' F (subst (λ (a : Paper.Answer). Promised a n list r₂ list₂') (sym same) G)
