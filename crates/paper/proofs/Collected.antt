-- The collector: what one holds that began empty and took single pages, what it answers, and that it reads as the same pages handed in at once.
-- Assumes nothing.
use mathlib.Core.Path.{◌≡◌, refl, ap, sym, ◌∙◌, subst}
use mathlib.Core.Logic.{◌⊎◌, inl, inr, ◌↔◌, ◌≢◌}
use mathlib.Core.Bool.{Bool, true, false, not, ◌&&◌, ◌||◌}
use mathlib.Core.List.{List, [], ◌∷◌, ◌++◌, append_assoc, append-nil}
use Prim.Native.Nat.{ℕ, zero, suc, ◌+◌, ◌≤◌, ◌<◌}
use native.Mathlib.Omega.{arith}
use lib.Dec.{eqb, leb}
use lib.ListN.{length, take, drop}
use borrow.Author.Tests.{eqb-true, eqb-false, eq-eqb, ne_eqb, leb-false, le-leb, lt-leb}
use Rattle.paper.specs.Lists.{if, same}
use Rattle.paper.specs.Plan.{Head, Plan, same_head}
use Rattle.paper.specs.Judging.{Sheet, Judged, refused, sheet, judge}
use Rattle.paper.specs.Reading.{Answer, refusal, plan, sheets, cons, judge_all, has, page10, number11, joined, refuse_at, enough, join, decide, read}
use Rattle.paper.specs.Calls.{roomy}
use Rattle.paper.specs.Collecting.{Kept, Collector, cleared, added, already_here, refused_with, Adding, unchanged, agrees, bytes_at, sheets_in, pages_in, add_judged, add, without, missing_in, missing_numbers, missing_count, read_collected, add_call, collected_call}
use Rattle.paper.proofs.Small.{no, both, neither, same_eq, same_self, eqb_comm, and_intro, if_same, Nth}
use Rattle.paper.proofs.AnyOrder.{Perm, head_eq, Alike, Distinct, Accept, accepts, is_plan, Each, each_judged, judged_each, any_order}
use Rattle.paper.proofs.Small.{unequal}
use Rattle.paper.proofs.PageNumbers.{Numbered, numbered}
use Rattle.paper.proofs.Judged.{two_to_eight}
use Rattle.paper.proofs.CallLaws.{read_not_one, room_small}
use Rattle.paper.proofs.Causes.{Differs, Stranger, Second}
use Rattle.paper.proofs.Joining.{differs, not_differs, has_true, has_false}
use Rattle.paper.proofs.AnyOrder.{same_test, NoneIn, none_nil, perm_length}
use Rattle.paper.proofs.Reordered.{joins_alike, read_any_order}

-- ---- one page

-- the page as the collector keeps it
abbrev pub keep : List ℕ → Sheet → Kept
keep w s = record { bytes = w; says = s }

-- the five ways of adding a page, each with what leads to it and what comes of it
pub data Way (c : Collector) (w : List ℕ) : Adding → Type 0 where
  broken : (n i : ℕ) → judge w ≡ refused n i → Way c w (unchanged (refused_with n i) c)
  stranger : (s : Sheet) → judge w ≡ sheet s → agrees s c ≡ false → Way c w (unchanged (refused_with 9 0) c)
  here : (s : Sheet) → judge w ≡ sheet s → agrees s c ≡ true → has s.no (sheets_in c) ≡ true → w ≡ bytes_at s.no c → Way c w (unchanged already_here c)
  second : (s : Sheet) → judge w ≡ sheet s → agrees s c ≡ true → has s.no (sheets_in c) ≡ true → same w (bytes_at s.no c) ≡ false → Way c w (unchanged (refused_with 10 0) c)
  fresh : (s : Sheet) → judge w ≡ sheet s → agrees s c ≡ true → has s.no (sheets_in c) ≡ false → Way c w (record { answer = added; after = c ++ keep w s ∷ [] })

-- every page goes one of these ways
pub way : (c : Collector) (w : List ℕ) → Way c w (add c w)
unfolding add
way c w = at (judge w) refl
  where
    sheet_way : (s : Sheet) → judge w ≡ sheet s → (a : Bool) → agrees s c ≡ a → (h : Bool) → has s.no (sheets_in c) ≡ h → (e : Bool) → same w (bytes_at s.no c) ≡ e
        → Way c w (if (not a) (unchanged (refused_with 9 0) c) (if h (if e (unchanged already_here c) (unchanged (refused_with 10 0) c)) (record { answer = added; after = c ++ keep w s ∷ [] })))
    sheet_way s j false p h q e r = stranger s j p
    sheet_way s j true p true q true r = here s j p q (same_eq w (bytes_at s.no c) r)
    sheet_way s j true p true q false r = second s j p q r
    sheet_way s j true p false q e r = fresh s j p q

    at : (j : Judged) → judge w ≡ j → Way c w (add_judged c w j)
    at (refused n i) j = broken n i j
    at (sheet s) j = sheet_way s j (agrees s c) refl (has s.no (sheets_in c)) refl (same w (bytes_at s.no c)) refl

-- an answer other than "added" leaves the collector as it was
pub untouched : (c : Collector) (w : List ℕ) → ((add c w).answer ≡ added → ⊥) → (add c w).after ≡ c
untouched c w = at (way c w)
  where
    at : {r : Adding} → Way c w r → (r.answer ≡ added → ⊥) → r.after ≡ c
    at (broken n i j) h = refl
    at (stranger s j a) h = refl
    at (here s j a b e) h = refl
    at (second s j a b e) h = refl
    at (fresh s j a b) h = absurd (h refl)

-- "added" puts just this page behind the others
pub put_behind : (c : Collector) (w : List ℕ) → (add c w).answer ≡ added → (s : Sheet) × (judge w ≡ sheet s) × ((add c w).after ≡ c ++ keep w s ∷ [])
put_behind c w = at (way c w)
  where
    at : {r : Adding} → Way c w r → r.answer ≡ added → (s : Sheet) × (judge w ≡ sheet s) × (r.after ≡ c ++ keep w s ∷ [])
    at (broken n i j) e = unequal (cc)
    at (stranger s j a) e = unequal (cc)
    at (here s j a b f) e = unequal (cc)
    at (second s j a b f) e = unequal (cc)
    at (fresh s j a b) e = (s, j, refl)

-- ---- what a collector holds

-- a collector that began empty and was given pages, one after another
pub data Reached : Collector → Type 0 where
  empty : Reached cleared
  more : {c : Collector} (w : List ℕ) → Reached c → Reached (add c w).after

-- all sheets have the count and the head of the first
abbrev pub AlikeAll : List Sheet → Type 0
AlikeAll [] = Unit {0}
AlikeAll (s ∷ l) = Alike s.of s.head l

-- each sheet's number is 1 up to its count, its count at most nine
abbrev pub NumberedAll : List Sheet → Type 0
NumberedAll [] = Unit {0}
NumberedAll (s ∷ l) = Numbered s × NumberedAll l

-- what it holds: each page with what judging it gives, all of the first one's head and count, no number twice, the numbers within the count,
-- and at most nine pages
pub record Holds (c : Collector) : Type 0 where
  pub judged : Each (pages_in c) (sheets_in c)
  pub alike : AlikeAll (sheets_in c)
  pub distinct : Distinct (sheets_in c)
  pub within : NumberedAll (sheets_in c)
  pub few : length c ≤ 9

-- ---- one page more

has_behind : (n : ℕ) (c : Collector) (k : Kept) → has n (sheets_in c) ≡ false → eqb k.says.no n ≡ false → has n (sheets_in (c ++ k ∷ [])) ≡ false
has_behind n [] k a b = rw b
has_behind n (j ∷ c) k a b = let (x, y) = neither (eqb j.says.no n) (has n (sheets_in c)) a in rw (x, has_behind n c k y b)

each_behind : (c : Collector) (k : Kept) → Each (pages_in c) (sheets_in c) → judge k.bytes ≡ sheet k.says → Each (pages_in (c ++ k ∷ [])) (sheets_in (c ++ k ∷ []))
each_behind [] k e j = (j, tt)
each_behind (x ∷ c) k e j = (e.0, each_behind c k e.1 j)

alike_behind : (z : ℕ) (h : Head) (c : Collector) (k : Kept) → Alike z h (sheets_in c) → k.says.of ≡ z → k.says.head ≡ h → Alike z h (sheets_in (c ++ k ∷ []))
alike_behind z h [] k a p q = (p, q, tt)
alike_behind z h (x ∷ c) k a p q = (a.0, a.1, alike_behind z h c k a.2 p q)

-- "agrees" says that count and head are those of the first page
pub agrees_first_lem : (s : Sheet) (k : Kept) (c : Collector) → (agrees s (k ∷ c) ≡ true) ↔ ((s.of ≡ k.says.of) × (s.head ≡ k.says.head))
agrees_first_lem s k c = (there, λ (p, q). same_test s k.says p q)
  where
    there : agrees s (k ∷ c) ≡ true → (s.of ≡ k.says.of) × (s.head ≡ k.says.head)
    there e =
        let (a, b) = both (eqb s.of k.says.of) (same_head s.head k.says.head) e in
        (eqb-true s.of k.says.of a, head_eq s.head k.says.head b)

all_alike_behind : (c : Collector) (k : Kept) → AlikeAll (sheets_in c) → agrees k.says c ≡ true → AlikeAll (sheets_in (c ++ k ∷ []))
all_alike_behind [] k a e = tt
all_alike_behind (x ∷ c) k a e = let (p, q) = (agrees_first_lem k.says x c).0 e in alike_behind x.says.of x.says.head c k a p q

distinct_behind : (c : Collector) (k : Kept) → Distinct (sheets_in c) → has k.says.no (sheets_in c) ≡ false → Distinct (sheets_in (c ++ k ∷ []))
distinct_behind [] k d e = (refl, tt)
distinct_behind (x ∷ c) k d e =
    let (a, b) = neither (eqb x.says.no k.says.no) (has k.says.no (sheets_in c)) e in
    (has_behind x.says.no c k d.0 (eqb_comm k.says.no x.says.no ∙ a), distinct_behind c k d.1 b)

numbered_behind : (c : Collector) (k : Kept) → NumberedAll (sheets_in c) → Numbered k.says → NumberedAll (sheets_in (c ++ k ∷ []))
numbered_behind [] k a n = (n, tt)
numbered_behind (x ∷ c) k a n = (a.0, numbered_behind c k a.1 n)

-- ---- how many are missing

-- a number below all that are asked for does not matter
without_low : (s : Sheet) (l : List Sheet) (k n : ℕ) → s.no < n → without (s ∷ l) n k ≡ without l n k
without_low s l zero n h = refl
without_low s l (suc k) n h = rw (ne_eqb s.no n (omega arith), without_low s l k (suc n) (omega arith))

-- one page more is one missing number less
without_one : (s : Sheet) (l : List Sheet) (k n : ℕ) → n ≤ s.no → s.no < n + k → has s.no l ≡ false → length (without l n k) ≡ suc (length (without (s ∷ l) n k))
without_one s l zero n p q h = absurd (omega arith)
without_one s l (suc k) n p q h = at (eqb s.no n) refl (λ g. without_one s l k (suc n) g (omega arith) h)
  where
    at : (b : Bool) → eqb s.no n ≡ b → (suc n ≤ s.no → length (without l (suc n) k) ≡ suc (length (without (s ∷ l) (suc n) k)))
        → length (without l n (suc k)) ≡ suc (length (if (b || has n l) (without (s ∷ l) (suc n) k) (n ∷ without (s ∷ l) (suc n) k)))
    at true e ih =
        let q : s.no ≡ n = eqb-true s.no n e in
        let f : has n l ≡ false = ap (λ (m : ℕ). has m l) (sym q) ∙ h in
        rw (f, without_low s l k (suc n) (omega arith))
    at false e ih = let ne = eqb-false s.no n e in other_number (has n l) (ih (omega arith))
      where
        other_number : (c : Bool) → length (without l (suc n) k) ≡ suc (length (without (s ∷ l) (suc n) k))
            → length (if c (without l (suc n) k) (n ∷ without l (suc n) k)) ≡ suc (length (if c (without (s ∷ l) (suc n) k) (n ∷ without (s ∷ l) (suc n) k)))
        other_number true i = i
        other_number false i = ap suc i

-- with no page, all are missing
without_none : (k n : ℕ) → length (without [] n k) ≡ k
without_none zero n = refl
without_none (suc k) n = ap suc (without_none k (suc n))

-- pages and missing numbers make up the count
parted : (z : ℕ) (h : Head) (l : List Sheet) → Alike z h l → NumberedAll l → Distinct l → length l + length (without l 1 z) ≡ z
parted z h [] a n d = omega (arith, without_none z 1)
parted z h (s ∷ l) a n d =
    let low = n.0.least in
    let high = n.0.most in
    let e = a.0 in
    omega (arith, parted z h l a.2 n.1 d.1, without_one s l z 1 (omega arith) (omega arith) d.0)

-- all sheets alike, the first among them
from_first : (s : Sheet) (l : List Sheet) → AlikeAll (s ∷ l) → Alike s.of s.head (s ∷ l)
from_first s l a = (refl, refl, a)

sheets_length : (c : Collector) → length (sheets_in c) ≡ length c
sheets_length [] = refl
sheets_length (k ∷ c) = ap suc (sheets_length c)

at_most_nine : (c : Collector) → AlikeAll (sheets_in c) → NumberedAll (sheets_in c) → Distinct (sheets_in c) → length c ≤ 9
at_most_nine [] a n d = omega arith
at_most_nine (k ∷ c) a n d =
    let l : List Sheet = sheets_in (k ∷ c) in
    let z : ℕ = k.says.of in
    let nine = n.0.nine in
    omega (arith, parted z k.says.head l (from_first k.says (sheets_in c) a) n d, sheets_length (k ∷ c))

holds_behind : (c : Collector) (k : Kept) → Holds c → judge k.bytes ≡ sheet k.says → agrees k.says c ≡ true → has k.says.no (sheets_in c) ≡ false → Holds (c ++ k ∷ [])
holds_behind c k H j a h =
    let alike : AlikeAll (sheets_in (c ++ k ∷ [])) = all_alike_behind c k H.alike a in
    let distinct : Distinct (sheets_in (c ++ k ∷ [])) = distinct_behind c k H.distinct h in
    let within : NumberedAll (sheets_in (c ++ k ∷ [])) = numbered_behind c k H.within (numbered k.bytes k.says j) in
    record { judged = each_behind c k H.judged j; alike = alike; distinct = distinct; within = within; few = at_most_nine (c ++ k ∷ []) alike within distinct }

holds_after : (c : Collector) (w : List ℕ) {r : Adding} → Way c w r → Holds c → Holds r.after
holds_after c w (broken n i j) H = H
holds_after c w (stranger s j a) H = H
holds_after c w (here s j a b e) H = H
holds_after c w (second s j a b e) H = H
holds_after c w (fresh s j a b) H = holds_behind c (keep w s) H j a b

-- so much is true of every collector that began empty
pub holds : {c : Collector} → Reached c → Holds c
holds empty = record { judged = tt; alike = tt; distinct = tt; within = tt; few = omega arith }
holds (more {c = c} w r) = holds_after c w (way c w) (holds r)

-- "which of the z numbers are missing and how many": the pages and the missing numbers make up the count z
pub made_up : (k : Kept) (c : Collector) → Reached (k ∷ c) → length (k ∷ c) + missing_count (k ∷ c) ≡ k.says.of
unfolding missing_numbers
made_up k c r =
    let H = holds r in
    let l : List Sheet = sheets_in (k ∷ c) in
    rw (sym (sheets_length (k ∷ c))) (parted k.says.of k.says.head l (from_first k.says (sheets_in c) H.alike) H.within H.distinct)

-- ---- the missing numbers

-- numbers from n on and below w, each above the one before
abbrev pub Rising : ℕ → ℕ → List ℕ → Type 0
Rising n w [] = Unit {0}
Rising n w (m ∷ ms) = (n ≤ m) × (m < w) × Rising (suc m) w ms

rising_from : (n m w : ℕ) (ms : List ℕ) → n ≤ m → Rising m w ms → Rising n w ms
rising_from n m w [] h r = tt
rising_from n m w (x ∷ ms) h r = (omega arith, r.1, r.2)

rising_to : (n w v : ℕ) (ms : List ℕ) → w ≤ v → Rising n w ms → Rising n v ms
rising_to n w v [] h r = tt
rising_to n w v (x ∷ ms) h r = (r.0, omega arith, rising_to (suc x) w v ms h r.2)

without_rising : (l : List Sheet) (k n w : ℕ) → n + k ≤ w → Rising n w (without l n k)
without_rising l zero n w h = tt
without_rising l (suc k) n w h = at (has n l) (without_rising l k (suc n) w (omega arith))
  where
    at : (b : Bool) → Rising (suc n) w (without l (suc n) k) → Rising n w (if b (without l (suc n) k) (n ∷ without l (suc n) k))
    at true r = rising_from n (suc n) w (without l (suc n) k) (omega arith) r
    at false r = (omega arith, omega arith, r)

-- "empty, it reports none and 0"
pub empty_none : missing_numbers cleared ≡ []
unfolding missing_numbers
empty_none = refl

-- the missing numbers ascend, from 1 up to the count
pub ascending : (k : Kept) (c : Collector) → Rising 1 (suc k.says.of) (missing_numbers (k ∷ c))
unfolding missing_numbers
ascending k c = without_rising (sheets_in (k ∷ c)) k.says.of 1 (suc k.says.of) (omega arith)

-- whatever the count, from 1 up to 9
pub up_to_nine : {c : Collector} → Reached c → Rising 1 10 (missing_numbers c)
up_to_nine {c} r = at c (holds r)
  where
    at : (c : Collector) → Holds c → Rising 1 10 (missing_numbers c)
    at [] H = subst (Rising 1 10) (sym empty_none) tt
    at (k ∷ c) H = let nine = H.within.0.nine in rising_to 1 (suc k.says.of) 10 (missing_numbers (k ∷ c)) (omega arith) (ascending k c)

-- the number stands among these
abbrev pub In : ℕ → List ℕ → Type 0
In n [] = ⊥
In n (m ∷ ms) = (m ≡ n) ⊎ In n ms

without_in : (l : List Sheet) (k a n : ℕ) → In n (without l a k) ↔ ((a ≤ n) × (n < a + k) × (has n l ≡ false))
without_in l zero a n = (λ i. absurd i, λ (p, q, h). absurd (omega arith))
without_in l (suc k) a n = at (has a l) refl (without_in l k (suc a) n)
  where
    Later : Type 0
    Later = (suc a ≤ n) × (n < suc a + k) × (has n l ≡ false)

    first_or : a ≤ n → n < a + suc k → has n l ≡ false → (a ≡ n) ⊎ Later
    first_or p q h = go (eqb a n) refl
      where
        go : (b : Bool) → eqb a n ≡ b → (a ≡ n) ⊎ Later
        go true e = inl (eqb-true a n e)
        go false e = let ne = eqb-false a n e in inr (omega arith, omega arith, h)

    wider : Later → (a ≤ n) × (n < a + suc k) × (has n l ≡ false)
    wider (p, q, h) = (omega arith, omega arith, h)

    skipped : has a l ≡ true → (Later → In n (without l (suc a) k)) → has n l ≡ false → (a ≡ n) ⊎ Later → In n (without l (suc a) k)
    skipped e ih h (inl q) = no (sym (ap (λ (m : ℕ). has m l) (sym q) ∙ e) ∙ h)
    skipped e ih h (inr x) = ih x

    taken : has a l ≡ false → (In n (without l (suc a) k) → Later) → (a ≡ n) ⊎ In n (without l (suc a) k) → (a ≤ n) × (n < a + suc k) × (has n l ≡ false)
    taken e ih (inl q) = (omega arith, omega arith, ap (λ (m : ℕ). has m l) (sym q) ∙ e)
    taken e ih (inr i) = wider (ih i)

    put : (Later → In n (without l (suc a) k)) → (a ≡ n) ⊎ Later → (a ≡ n) ⊎ In n (without l (suc a) k)
    put ih (inl q) = inl q
    put ih (inr x) = inr (ih x)

    at : (b : Bool) → has a l ≡ b → In n (without l (suc a) k) ↔ Later → In n (if b (without l (suc a) k) (a ∷ without l (suc a) k)) ↔ ((a ≤ n) × (n < a + suc k) × (has n l ≡ false))
    at true e ih = (λ i. wider (ih.0 i), λ (p, q, h). skipped e ih.1 h (first_or p q h))
    at false e ih = (taken e ih.0, λ (p, q, h). put ih.1 (first_or p q h))

-- "which of the z numbers are missing": just those of 1 to z that no page has
pub missing_just : (k : Kept) (c : Collector) (n : ℕ) → In n (missing_numbers (k ∷ c)) ↔ ((1 ≤ n) × (n ≤ k.says.of) × (has n (sheets_in (k ∷ c)) ≡ false))
unfolding missing_numbers
missing_just k c n = let w = without_in (sheets_in (k ∷ c)) k.says.of 1 n in (λ i. let (p, q, h) = w.0 i in (p, omega arith, h), λ (p, q, h). w.1 (p, omega arith, h))

-- the first of them, 0 if there is none
abbrev first_of : List ℕ → ℕ
first_of [] = 0
first_of (m ∷ ms) = m

lowest_first : (l : List Sheet) (k n : ℕ) → number11 l n k ≡ first_of (without l n k)
lowest_first l zero n = refl
lowest_first l (suc k) n = at (has n l) (lowest_first l k (suc n))
  where
    at : (b : Bool) → number11 l (suc n) k ≡ first_of (without l (suc n) k) → if b (number11 l (suc n) k) n ≡ first_of (if b (without l (suc n) k) (n ∷ without l (suc n) k))
    at true e = e
    at false e = refl

-- ---- reading

pages_length : (c : Collector) → length (pages_in c) ≡ length c
pages_length [] = refl
pages_length (k ∷ c) = ap suc (pages_length c)

-- the plan of all its pages, where none is missing
abbrev pub plan_in : Kept → Collector → Plan
plan_in k c = record { head = k.says.head; rows = joined (sheets_in (k ∷ c)) 1 k.says.of }

-- what a collector with pages reads as: 11 at the first missing number, else its plan or 12
reads : (k : Kept) (c : Collector) → Holds (k ∷ c) → read_collected (k ∷ c) ≡ refuse_at 11 (first_of (missing_numbers (k ∷ c))) (enough (plan_in k c))
unfolding read_collected read missing_numbers
reads k c H =
    let ps : List (List ℕ) = pages_in (k ∷ c) in
    let l : List Sheet = sheets_in (k ∷ c) in
    let z : ℕ = k.says.of in
    let few = H.few in
    let count : (leb 1 (length ps) && leb (length ps) 9) ≡ true = and_intro (leb 1 (length ps)) (leb (length ps) 9) (le-leb 1 (length ps) (omega arith)) (le-leb (length ps) 9 (omega (arith, pages_length (k ∷ c)))) in
    ap (λ (b : Bool). if b (decide (judge_all 1 ps)) (refusal 1 0 0)) count
    ∙ (ap decide (each_judged 1 ps l H.judged)
    ∙ (joins_alike k.says (sheets_in c) z k.says.head (from_first k.says (sheets_in c) H.alike) H.distinct
    ∙ ap (λ (n : ℕ). refuse_at 11 n (enough (plan_in k c))) (lowest_first l z 1)))

-- "Complete, it reads as the same pages handed in at once": in whatever order; and so does an incomplete one
pub as_handed_in : {c : Collector} → Reached c → (f : List (List ℕ)) → Perm (pages_in c) f → read f ≡ read_collected c
unfolding read_collected
as_handed_in {c} r f p = at c f (holds r) p
  where
    at : (c : Collector) (f : List (List ℕ)) → Holds c → Perm (pages_in c) f → read f ≡ read (pages_in c)
    at [] [] H p = refl
    at [] (w ∷ f) H p = absurd (let n = perm_length p in omega arith)
    at (k ∷ c) f H p = sym (read_any_order k.says.of k.says.head (pages_in (k ∷ c)) f (sheets_in (k ∷ c)) p H.judged (from_first k.says (sheets_in c) H.alike) H.distinct)

-- where nothing is missing it reads as its plan, or as 12
pub complete : (k : Kept) (c : Collector) → Reached (k ∷ c) → missing_numbers (k ∷ c) ≡ [] → read_collected (k ∷ c) ≡ enough (plan_in k c)
complete k c r e = reads k c (holds r) ∙ ap (λ (ms : List ℕ). refuse_at 11 (first_of ms) (enough (plan_in k c))) e

-- "incomplete, with 11", at the lowest missing number
pub incomplete : {c : Collector} → Reached c → (n : ℕ) (ns : List ℕ) → missing_numbers c ≡ n ∷ ns → read_collected c ≡ refusal 11 n 0
incomplete {c} r n ns e = at c (holds r) (up_to_nine r) e
  where
    above : (n : ℕ) (a : Answer) → 1 ≤ n → refuse_at 11 n a ≡ refusal 11 n 0
    above zero a h = absurd (omega arith)
    above (suc n) a h = refl

    at : (c : Collector) → Holds c → Rising 1 10 (missing_numbers c) → missing_numbers c ≡ n ∷ ns → read_collected c ≡ refusal 11 n 0
    at [] H u e = let f : [] ≡ n ∷ ns = sym empty_none ∙ e in unequal (cc)
    at (k ∷ c) H u e =
        let low : Rising 1 10 (n ∷ ns) = subst (Rising 1 10) e u in
        reads k c H ∙ (ap (λ (ms : List ℕ). refuse_at 11 (first_of ms) (enough (plan_in k c))) e ∙ above n (enough (plan_in k c)) low.0)

-- "empty, with 1"
pub empty_one : read_collected cleared ≡ refusal 1 0 0
unfolding read_collected read
empty_one = refl

-- ---- the same pages one after another

-- the collector after some pages, one after another
abbrev pub add_all : Collector → List (List ℕ) → Collector
add_all c [] = c
add_all c (w ∷ ws) = add_all (add c w).after ws

-- each of them is answered "added"
abbrev pub AllAdded : Collector → List (List ℕ) → Type 0
AllAdded c [] = Unit {0}
AllAdded c (w ∷ ws) = ((add c w).answer ≡ added) × AllAdded (add c w).after ws

-- what is kept of pages that are judged to these sheets
abbrev keep_all : List (List ℕ) → List Sheet → Collector
keep_all [] l = []
keep_all (w ∷ ws) [] = []
keep_all (w ∷ ws) (s ∷ l) = keep w s ∷ keep_all ws l

kept_pages : (ws : List (List ℕ)) (l : List Sheet) → Each ws l → pages_in (keep_all ws l) ≡ ws
kept_pages [] l e = refl
kept_pages (w ∷ ws) [] e = absurd e
kept_pages (w ∷ ws) (s ∷ l) e = ap (λ (v : List (List ℕ)). w ∷ v) (kept_pages ws l e.1)

kept_sheets : (ws : List (List ℕ)) (l : List Sheet) → Each ws l → sheets_in (keep_all ws l) ≡ l
kept_sheets [] [] e = refl
kept_sheets [] (s ∷ l) e = absurd e
kept_sheets (w ∷ ws) [] e = absurd e
kept_sheets (w ∷ ws) (s ∷ l) e = ap (λ (m : List Sheet). s ∷ m) (kept_sheets ws l e.1)

-- a sheet of the same count and head, whose number is not there, is added
fresh_added : (c : Collector) (w : List ℕ) (s : Sheet) → judge w ≡ sheet s → agrees s c ≡ true → has s.no (sheets_in c) ≡ false → add c w ≡ record { answer = added; after = c ++ keep w s ∷ [] }
unfolding add
fresh_added c w s j a h = rw (j, a, h)

alike_agrees : (z : ℕ) (h : Head) (s : Sheet) (c : Collector) → s.of ≡ z → s.head ≡ h → Alike z h (sheets_in c) → agrees s c ≡ true
alike_agrees z h s [] p q a = refl
alike_agrees z h s (k ∷ c) p q a = (agrees_first_lem s k c).1 (p ∙ sym a.0, q ∙ sym a.1)

none_behind : (c : Collector) (k : Kept) (l : List Sheet) → NoneIn (sheets_in c) l → has k.says.no l ≡ false → NoneIn (sheets_in (c ++ k ∷ [])) l
none_behind c k [] n h = tt
none_behind c k (t ∷ l) n h =
    let (a, b) = neither (eqb t.no k.says.no) (has k.says.no l) h in
    (has_behind t.no c k n.0 (eqb_comm k.says.no t.no ∙ a), none_behind c k l n.1 b)

feeds : (z : ℕ) (h : Head) (ws : List (List ℕ)) (l : List Sheet) (c : Collector) → Each ws l → Alike z h (sheets_in c) → Alike z h l → NoneIn (sheets_in c) l → Distinct l
    → AllAdded c ws × (add_all c ws ≡ c ++ keep_all ws l)
feeds z h [] l c e a b n d = (tt, sym (append-nil c))
feeds z h (w ∷ ws) [] c e a b n d = absurd e
feeds z h (w ∷ ws) (s ∷ l) c e a b n d =
    let k : Kept = keep w s in
    let E = fresh_added c w s e.0 (alike_agrees z h s c b.0 b.1 a) n.0 in
    let ih = feeds z h ws l (c ++ k ∷ []) e.1 (alike_behind z h c k a b.0 b.1) b.2 (none_behind c k l n.1 d.0) d.1 in (
      (ap (λ (r : Adding). r.answer) E, subst (λ (r : Adding). AllAdded r.after ws) (sym E) ih.0),
      ap (λ (r : Adding). add_all r.after ws) E ∙ (ih.1 ∙ append_assoc c (k ∷ []) (keep_all ws l)),
    )

full_none : (l : List Sheet) (k n : ℕ) → ((m : ℕ) → n ≤ m → m < n + k → has m l ≡ true) → without l n k ≡ []
full_none l zero n h = refl
full_none l (suc k) n h = rw (h n (omega arith) (omega arith)) (full_none l k (suc n) (λ m p q. h m (omega arith) (omega arith)))

accepted_none : (l : List Sheet) (p : Plan) → Accept l p → missing_in l ≡ []
accepted_none [] p a = refl
accepted_none (s ∷ l) p a = let e = a.alike.0 in full_none (s ∷ l) s.of 1 (λ m x y. a.full m x (omega arith))

-- pages that are accepted at once are each added, one after another; then nothing is missing, and the collector reads as the same plan
pub fed : (f : List (List ℕ)) (p : Plan) → read f ≡ plan p → AllAdded cleared f × (pages_in (add_all cleared f) ≡ f) × (missing_numbers (add_all cleared f) ≡ []) × (read_collected (add_all cleared f) ≡ plan p)
unfolding read read_collected missing_numbers
fed f p e = at (leb 1 (length f) && leb (length f) 9) e
  where
    at : (b : Bool) → if b (decide (judge_all 1 f)) (refusal 1 0 0) ≡ plan p
        → AllAdded cleared f × (pages_in (add_all cleared f) ≡ f) × (missing_in (sheets_in (add_all cleared f)) ≡ []) × (read (pages_in (add_all cleared f)) ≡ plan p)
    at false x = no (sym (ap is_plan x))
    at true x =
        let (l, d) = judged_each 1 f p x in
        let a = accepts l p (sym (ap decide (each_judged 1 f l d)) ∙ x) in
        let r = feeds a.count p.head f l [] d tt a.alike (none_nil l) a.distinct in
        let ps : pages_in (add_all cleared f) ≡ f = ap pages_in r.1 ∙ kept_pages f l d in
        (r.0, ps, ap (λ (c : Collector). missing_in (sheets_in c)) r.1 ∙ (ap missing_in (kept_sheets f l d) ∙ accepted_none l p a), ap read ps ∙ e)

-- and so for the same pages in any other order
pub fed_any_order : (f g : List (List ℕ)) (p : Plan) → Perm f g → read f ≡ plan p → AllAdded cleared g × (missing_numbers (add_all cleared g) ≡ []) × (read_collected (add_all cleared g) ≡ plan p)
fed_any_order f g p q e = let r = fed g p (any_order f g p q e) in (r.0, r.2, r.3)

-- what pages added one after another lead to is such a collector
pub reached_all : {c : Collector} → Reached c → (ws : List (List ℕ)) → Reached (add_all c ws)
reached_all r [] = r
reached_all {c = c} r (w ∷ ws) = reached_all {c = (add c w).after} (more w r) ws

-- ---- its refusals are those of reading

-- a page that judging refuses is refused so, and nothing else is looked at
pub broken_first : (c : Collector) (w : List ℕ) (n i : ℕ) → judge w ≡ refused n i → add c w ≡ unchanged (refused_with n i) c
unfolding add
broken_first c w n i j = rw j

-- where none is refused with 9 or 10, what is left is 11, 12 or a plan
left : (n : ℕ) (p : Plan) (m k i : ℕ) → m ≤ 10 → refuse_at 11 n (enough p) ≡ refusal m k i → ⊥
left zero p m k i h e = at (leb (length p.rows) 256) e
  where
    at : (b : Bool) → if b (plan p) (refusal 12 0 0) ≡ refusal m k i → ⊥
    at true e = no (ap is_plan e)
    at false e = let q : 12 ≡ m = cc in omega arith
left (suc n) p m k i h e = let q : 11 ≡ m = cc in omega arith

-- "The collector takes one page, called page 1 in its refusals: 1 to 8": as reading that page alone would be refused
pub as_read_alone : (c : Collector) (w : List ℕ) (n i : ℕ) → n ≤ 8 → ((add c w).answer ≡ refused_with n i) ↔ (read (w ∷ []) ≡ refusal n 1 i)
unfolding read
as_read_alone c w n i h = (λ e. there (way c w) e, λ e. back (judge w) refl e)
  where
    there : {r : Adding} → Way c w r → r.answer ≡ refused_with n i → decide (cons (judge w) 1 (sheets [])) ≡ refusal n 1 i
    there (broken m j q) e = rw q (cc)
    there (stranger s j a) e = let q : 9 ≡ n = cc in absurd (omega arith)
    there (here s j a b f) e = unequal (cc)
    there (second s j a b f) e = let q : 10 ≡ n = cc in absurd (omega arith)
    there (fresh s j a b) e = unequal (cc)

    back : (j : Judged) → judge w ≡ j → decide (cons j 1 (sheets [])) ≡ refusal n 1 i → (add c w).answer ≡ refused_with n i
    back (refused m j) q e = ap (λ (r : Adding). r.answer) (broken_first c w m j q) ∙ (cc)
    back (sheet s) q e = absurd (left (number11 (s ∷ []) 1 s.of) (record { head = s.head; rows = joined (s ∷ []) 1 s.of }) n 1 i (omega arith) e)

-- "then 9 against its first page": as joining the first page and this one would be refused
pub agrees_nine : (s : Sheet) (k : Kept) (c : Collector) → (agrees s (k ∷ c) ≡ false) ↔ (join (k.says ∷ s ∷ []) ≡ refusal 9 2 0)
agrees_nine s k c = nine_when (agrees s (k ∷ c)) (refuse_at 10 ten rest) (not_nine ten)
  where
    ten : ℕ
    ten = page10 [] 1 (k.says ∷ s ∷ [])

    rest : Answer
    rest = refuse_at 11 (number11 (k.says ∷ s ∷ []) 1 k.says.of) (enough (record { head = k.says.head; rows = joined (k.says ∷ s ∷ []) 1 k.says.of }))

    not_nine : (t : ℕ) → refuse_at 10 t rest ≡ refusal 9 2 0 → ⊥
    not_nine zero e = left (number11 (k.says ∷ s ∷ []) 1 k.says.of) (record { head = k.says.head; rows = joined (k.says ∷ s ∷ []) 1 k.says.of }) 9 2 0 (omega arith) e
    not_nine (suc t) e = let q : ◌≡◌ {A = ℕ} 10 9 = cc in omega arith

    nine_when : (b : Bool) (x : Answer) → (x ≡ refusal 9 2 0 → ⊥) → (b ≡ false) ↔ (refuse_at 9 (if b 0 2) x ≡ refusal 9 2 0)
    nine_when true x h = (λ e. no e, λ e. absurd (h e))
    nine_when false x h = (λ e. refl, λ e. refl)

-- a page of another head or count is refused with 9
pub stranger_refused : (c : Collector) (w : List ℕ) (s : Sheet) → judge w ≡ sheet s → agrees s c ≡ false → add c w ≡ unchanged (refused_with 9 0) c
unfolding add
stranger_refused c w s j a = rw (j, a)

-- the same of the pages themselves
pub nine : (k : Kept) (c : Collector) (w : List ℕ) → Reached (k ∷ c) → ((add (k ∷ c) w).answer ≡ refused_with 9 0) ↔ (read (k.bytes ∷ w ∷ []) ≡ refusal 9 2 0)
unfolding read
nine k c w r = (λ e. sym first_sheet ∙ there (way (k ∷ c) w) e, λ e. back (judge w) refl (first_sheet ∙ e))
  where
    first_sheet : decide (cons (sheet k.says) 1 (cons (judge w) 2 (sheets []))) ≡ read (k.bytes ∷ w ∷ [])
    first_sheet = sym (ap (λ (j : Judged). decide (cons j 1 (cons (judge w) 2 (sheets [])))) (holds r).judged.0)

    there : {a : Adding} → Way (k ∷ c) w a → a.answer ≡ refused_with 9 0 → decide (cons (sheet k.says) 1 (cons (judge w) 2 (sheets []))) ≡ refusal 9 2 0
    there (broken m i q) e = let (a, b) = two_to_eight w m i q in let z : m ≡ 9 = cc in absurd (omega arith)
    there (stranger s j a) e = ap (λ (x : Judged). decide (cons (sheet k.says) 1 (cons x 2 (sheets [])))) j ∙ (agrees_nine s k c).0 a
    there (here s j a b f) e = unequal (cc)
    there (second s j a b f) e = let z : ◌≡◌ {A = ℕ} 10 9 = cc in absurd (omega arith)
    there (fresh s j a b) e = unequal (cc)

    back : (j : Judged) → judge w ≡ j → decide (cons (sheet k.says) 1 (cons j 2 (sheets []))) ≡ refusal 9 2 0 → (add (k ∷ c) w).answer ≡ refused_with 9 0
    back (refused m i) q e = let (a, b) = two_to_eight w m i q in let z : m ≡ 9 = cc in absurd (omega arith)
    back (sheet s) q e = ap (λ (a : Adding). a.answer) (stranger_refused (k ∷ c) w s q ((agrees_nine s k c).1 e))

-- ---- a page that is there

-- a page somewhere among the others
module _ (k : Kept) (e : Collector) where
  judged_there : (d : Collector) → Each (pages_in (d ++ k ∷ e)) (sheets_in (d ++ k ∷ e)) → judge k.bytes ≡ sheet k.says
  judged_there [] j = j.0
  judged_there (x ∷ d) j = judged_there d j.1

  alike_there : (z : ℕ) (h : Head) (d : Collector) → Alike z h (sheets_in (d ++ k ∷ e)) → (k.says.of ≡ z) × (k.says.head ≡ h)
  alike_there z h [] a = (a.0, a.1)
  alike_there z h (x ∷ d) a = alike_there z h d a.2

  agrees_there : (d : Collector) → AlikeAll (sheets_in (d ++ k ∷ e)) → agrees k.says (d ++ k ∷ e) ≡ true
  agrees_there [] a = (agrees_first_lem k.says k e).1 (refl, refl)
  agrees_there (x ∷ d) a = (agrees_first_lem k.says x (d ++ k ∷ e)).1 (alike_there x.says.of x.says.head d a)

  has_there : (d : Collector) → has k.says.no (sheets_in (d ++ k ∷ e)) ≡ true
  has_there [] = rw (eq-eqb k.says.no k.says.no refl)
  has_there (x ∷ d) = at (eqb x.says.no k.says.no) (has_there d)
    where
      at : (b : Bool) → has k.says.no (sheets_in (d ++ k ∷ e)) ≡ true → b || has k.says.no (sheets_in (d ++ k ∷ e)) ≡ true
      at true h = refl
      at false h = h

  bytes_there : (d : Collector) → Distinct (sheets_in (d ++ k ∷ e)) → bytes_at k.says.no (d ++ k ∷ e) ≡ k.bytes
  bytes_there [] a = rw (eq-eqb k.says.no k.says.no refl)
  bytes_there (x ∷ d) a = rw (ne_eqb x.says.no k.says.no (λ q. no (sym (has_there d) ∙ (ap (λ (n : ℕ). has n (sheets_in (d ++ k ∷ e))) (sym q) ∙ a.0)))) (bytes_there d a.1)

-- every page that the collector has is "already here"
pub kept_here : (d : Collector) (k : Kept) (e : Collector) → Reached (d ++ k ∷ e) → add (d ++ k ∷ e) k.bytes ≡ unchanged already_here (d ++ k ∷ e)
unfolding add
kept_here d k e r =
    let H = holds r in
    rw (judged_there k e d H.judged, agrees_there k e d H.alike, has_there k e d, bytes_there k e d H.distinct, same_self k.bytes)

-- ---- refusal 1

-- a page that lies in the buffer is not refused with 1
not_one : (c : Collector) (w : List ℕ) (i : ℕ) → (add c w).answer ≡ refused_with 1 i → ⊥
not_one c w i = at (way c w)
  where
    at : {r : Adding} → Way c w r → r.answer ≡ refused_with 1 i → ⊥
    at (broken n j q) e = let r = two_to_eight w n j q in let z : n ≡ 1 = cc in omega arith
    at (stranger s j a) e = let z : ◌≡◌ {A = ℕ} 9 1 = cc in omega arith
    at (here s j a b f) e = unequal (cc)
    at (second s j a b f) e = let z : ◌≡◌ {A = ℕ} 10 1 = cc in omega arith
    at (fresh s j a b) e = unequal (cc)

-- a page is refused with 1 exactly when it does not lie in the buffer
pub outside_one : (c : Collector) (b : List ℕ) (s n i : ℕ) → ((add_call c b s n).answer ≡ refused_with 1 i) ↔ ((length b < s + n) × (i ≡ 0))
unfolding add_call
outside_one c b s n i = (there (leb (s + n) (length b)) refl, λ (h, z). rw (lt-leb (s + n) (length b) h, z))
  where
    there : (x : Bool) → leb (s + n) (length b) ≡ x → (if x (add c (take n (drop s b))) (unchanged (refused_with 1 0) c)).answer ≡ refused_with 1 i → (length b < s + n) × (i ≡ 0)
    there true q e = absurd (not_one c (take n (drop s b)) i e)
    there false q e = (leb-false (s + n) (length b) q, cc)

-- reading a collector gives 1 exactly when the room is too small or it is empty
pub empty_or_small : (rows text : ℕ) (c : Collector) (k i : ℕ) → Reached c
    → (collected_call rows text c ≡ refusal 1 k i) ↔ (((rows < 256) ⊎ (text < 12600) ⊎ (c ≡ [])) × (k ≡ 0) × (i ≡ 0))
unfolding collected_call read_collected
empty_or_small rows text c k i r = (there (roomy rows text) refl, λ (h, x, y). back h x y)
  where
    some : (c : Collector) → Holds c → read_collected c ≡ refusal 1 k i → (c ≡ []) × (k ≡ 0) × (i ≡ 0)
    some [] H e = let q : refusal 1 0 0 ≡ refusal 1 k i = sym empty_one ∙ e in (refl, cc, cc)
    some (x ∷ c) H e = let h = H.few in let n = pages_length (x ∷ c) in absurd (read_not_one (pages_in (x ∷ c)) k i (omega arith) (omega arith) e)

    there : (b : Bool) → roomy rows text ≡ b → if b (read_collected c) (refusal 1 0 0) ≡ refusal 1 k i → ((rows < 256) ⊎ (text < 12600) ⊎ (c ≡ [])) × (k ≡ 0) × (i ≡ 0)
    there true q e = let (a, x, y) = some c (holds r) e in (inr (inr a), x, y)
    there false q e = (small ((room_small rows text).0 q), cc, cc)
      where
        small : (rows < 256) ⊎ (text < 12600) → (rows < 256) ⊎ (text < 12600) ⊎ (c ≡ [])
        small (inl h) = inl h
        small (inr h) = inr (inl h)

    back : (rows < 256) ⊎ (text < 12600) ⊎ (c ≡ []) → k ≡ 0 → i ≡ 0 → if (roomy rows text) (read_collected c) (refusal 1 0 0) ≡ refusal 1 k i
    back (inl h) x y = rw ((room_small rows text).1 (inl h), x, y)
    back (inr (inl h)) x y = rw ((room_small rows text).1 (inr h), x, y)
    back (inr (inr e)) x y = rw (e, empty_one, x, y) (if_same (roomy rows text) (refusal 1 0 0))

-- ---- refusals 2 to 10

-- a page that judging refuses, and no other, is refused so
pub refused_added : (c : Collector) (w : List ℕ) (n i : ℕ) → n ≤ 8 → ((add c w).answer ≡ refused_with n i) ↔ (judge w ≡ refused n i)
refused_added c w n i h = (there (way c w), λ q. ap (λ (r : Adding). r.answer) (broken_first c w n i q))
  where
    there : {r : Adding} → Way c w r → r.answer ≡ refused_with n i → judge w ≡ refused n i
    there (broken m j q) e = q ∙ (cc)
    there (stranger s j a) e = let q : 9 ≡ n = cc in absurd (omega arith)
    there (here s j a b f) e = unequal (cc)
    there (second s j a b f) e = let q : 10 ≡ n = cc in absurd (omega arith)
    there (fresh s j a b) e = unequal (cc)

-- "agrees" fails exactly where the first page differs
not_agrees : (s : Sheet) (c : Collector) → (agrees s c ≡ false) ↔ Stranger s c
not_agrees s [] = (λ e. no e, λ (k, q, d). absurd q)
not_agrees s (k ∷ c) = (λ e. (k, refl, differs s k.says e), λ (j, q, d). at (agrees s (k ∷ c)) refl (rw (sym q) at d))
  where
    at : (b : Bool) → agrees s (k ∷ c) ≡ b → Differs s k.says → b ≡ false
    at true e d = let (p, q) = (agrees_first_lem s k c).0 e in absurd (not_differs s k.says p q d)
    at false e d = refl

-- a page of another head or count, and no other, is refused with 9
pub nine_added : (c : Collector) (w : List ℕ) (i : ℕ) → ((add c w).answer ≡ refused_with 9 i) ↔ ((s : Sheet) × (judge w ≡ sheet s) × Stranger s c × (i ≡ 0))
nine_added c w i = (there (way c w), λ (s, j, x, z). ap (λ (r : Adding). r.answer) (stranger_refused c w s j ((not_agrees s c).1 x)) ∙ ap (refused_with 9) (sym z))
  where
    there : {r : Adding} → Way c w r → r.answer ≡ refused_with 9 i → (s : Sheet) × (judge w ≡ sheet s) × Stranger s c × (i ≡ 0)
    there (broken m j q) e = let r = two_to_eight w m j q in let z : m ≡ 9 = cc in absurd (omega arith)
    there (stranger s j a) e = (s, j, (not_agrees s c).0 a, cc)
    there (here s j a b f) e = unequal (cc)
    there (second s j a b f) e = let z : ◌≡◌ {A = ℕ} 10 9 = cc in absurd (omega arith)
    there (fresh s j a b) e = unequal (cc)

-- pages and what they say, by their number
nth_sheet : (c : Collector) (j : ℕ) (t : Sheet) → Nth (sheets_in c) j t → (k : Kept) × Nth c j k × (k.says ≡ t)
nth_sheet [] j t q = absurd q
nth_sheet (k ∷ c) zero t q = absurd q
nth_sheet (k ∷ c) (suc zero) t q = (k, refl, q)
nth_sheet (k ∷ c) (suc (suc j)) t q = nth_sheet c (suc j) t q

sheet_nth : (c : Collector) (j : ℕ) (k : Kept) → Nth c j k → Nth (sheets_in c) j k.says
sheet_nth [] j k q = absurd q
sheet_nth (x ∷ c) zero k q = absurd q
sheet_nth (x ∷ c) (suc zero) k q = ap (λ (y : Kept). y.says) q
sheet_nth (x ∷ c) (suc (suc j)) k q = sheet_nth c (suc j) k q

-- where no number stands twice, the bytes of a number are those of its page
bytes_of : (c : Collector) (j : ℕ) (k : Kept) → Distinct (sheets_in c) → Nth c j k → bytes_at k.says.no c ≡ k.bytes
bytes_of [] j k d q = absurd q
bytes_of (x ∷ c) zero k d q = absurd q
bytes_of (x ∷ c) (suc zero) k d q = rw (sym q, eq-eqb x.says.no x.says.no refl)
bytes_of (x ∷ c) (suc (suc j)) k d q =
    let n = has_false x.says.no (sheets_in c) d.0 (suc j) k.says (sheet_nth c (suc j) k q) in
    rw (ne_eqb x.says.no k.says.no (λ e. n (sym e))) (bytes_of c (suc j) k d.1 q)

-- a number that is there, with other bytes
other_bytes : (c : Collector) (w : List ℕ) (s : Sheet) → Distinct (sheets_in c) → ((has s.no (sheets_in c) ≡ true) × (same w (bytes_at s.no c) ≡ false)) ↔ Second w s c
other_bytes c w s d = (λ (h, f). there h f, λ (j, k, q, e, n). (at (has s.no (sheets_in c)) refl j k q e, by (same w (bytes_at s.no c)) refl j k q e n))
  where
    there : has s.no (sheets_in c) ≡ true → same w (bytes_at s.no c) ≡ false → Second w s c
    there h f =
        let (j, t, q, e) = has_true s.no (sheets_in c) h in
        let (k, p, x) = nth_sheet c j t q in
        let m : k.says.no ≡ s.no = ap (λ (y : Sheet). y.no) x ∙ e in
        (j, k, p, m, λ z. no (sym (same_self w) ∙ (ap (same w) (sym z ∙ (sym (bytes_of c j k d p) ∙ ap (λ (n : ℕ). bytes_at n c) m)) ∙ f)))

    at : (b : Bool) → has s.no (sheets_in c) ≡ b → (j : ℕ) (k : Kept) → Nth c j k → k.says.no ≡ s.no → b ≡ true
    at true h j k q e = refl
    at false h j k q e = absurd (has_false s.no (sheets_in c) h j k.says (sheet_nth c j k q) e)

    by : (b : Bool) → same w (bytes_at s.no c) ≡ b → (j : ℕ) (k : Kept) → Nth c j k → k.says.no ≡ s.no → k.bytes ≢ w → b ≡ false
    by true h j k q e n = absurd (n (sym (bytes_of c j k d q) ∙ (ap (λ (m : ℕ). bytes_at m c) e ∙ sym (same_eq w (bytes_at s.no c) h))))
    by false h j k q e n = refl

-- a page of a number that is there, of other bytes, and no other, is refused with 10
pub ten_added : {c : Collector} → Reached c → (w : List ℕ) (i : ℕ) → ((add c w).answer ≡ refused_with 10 i) ↔ ((s : Sheet) × (judge w ≡ sheet s) × (Stranger s c → ⊥) × Second w s c × (i ≡ 0))
unfolding add
ten_added {c} r w i = (there (way c w), λ (s, j, x, y, z). back s j (at s x (agrees s c) refl) ((other_bytes c w s (holds r).distinct).1 y) z)
  where
    there : {a : Adding} → Way c w a → a.answer ≡ refused_with 10 i → (s : Sheet) × (judge w ≡ sheet s) × (Stranger s c → ⊥) × Second w s c × (i ≡ 0)
    there (broken m j q) e = let n = two_to_eight w m j q in let z : m ≡ 10 = cc in absurd (omega arith)
    there (stranger s j a) e = let z : ◌≡◌ {A = ℕ} 9 10 = cc in absurd (omega arith)
    there (here s j a b f) e = unequal (cc)
    there (second s j a b f) e = (s, j, λ x. no (sym a ∙ (not_agrees s c).1 x), (other_bytes c w s (holds r).distinct).0 (b, f), cc)
    there (fresh s j a b) e = unequal (cc)

    at : (s : Sheet) → (Stranger s c → ⊥) → (b : Bool) → agrees s c ≡ b → b ≡ true
    at s x true e = refl
    at s x false e = absurd (x ((not_agrees s c).0 e))

    back : (s : Sheet) → judge w ≡ sheet s → agrees s c ≡ true → (has s.no (sheets_in c) ≡ true) × (same w (bytes_at s.no c) ≡ false) → i ≡ 0 → (add c w).answer ≡ refused_with 10 i
    back s j a (h, f) z = rw (j, a, h, f, z)
