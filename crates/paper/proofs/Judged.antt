-- Judged: what each answer to one page means, in the words of Causes.
-- Assumes nothing.
use mathlib.Core.Path.{◌≡◌, refl, ap, sym, ◌∙◌, subst}
use mathlib.Core.Logic.{◌↔◌, inl, inr}
use mathlib.Core.Bool.{Bool, true, false, ◌&&◌, ◌||◌}
use mathlib.Core.Option.{Option, none, some}
use mathlib.Core.List.{List, [], ◌∷◌}
use Prim.Native.Nat.{ℕ, zero, suc, ◌≤◌, ◌<◌}
use native.Mathlib.Omega.{arith}
use lib.Dec.{eqb, ltb}
use lib.ListN.{length}
use borrow.Author.Tests.{eqb-true, eqb-false, ltb-true, ltb-false}
use Rattle.paper.specs.Lists.{if, every, until}
use Rattle.paper.specs.Bytes.{is_allowed}
use Rattle.paper.specs.Grammar.{Tag, placed}
use Rattle.paper.specs.Machine.{State, Move, stop, go, say, step, scan, one_more as taken, eaten, before}
use Rattle.paper.specs.Judging.{Fault, faults, Item, items, Sheet, sheet_of, Judged, refused, sheet, verdict, judge_tags, judge}
use Rattle.paper.proofs.Small.{unequal, no, both}
use Rattle.paper.proofs.Exact.{exact, unambiguous}
use Rattle.paper.proofs.Longest.{IsPage, longest}
use Rattle.paper.proofs.Least.{Among, here, fault_at, NotLower, verdict_least}
use Rattle.paper.proofs.Causes.{None, Lowest, BadSize, Sized, NotAllowed, Allowed, LongestShared, Formed, Five, Six, Seven, Eight}
use Rattle.paper.proofs.Faulty.{Cause, of_five, of_six, of_seven, of_eight, has_cause, cause_has}

-- ---- the bytes

pub not_both : {A : Type 0} (w : List ℕ) → BadSize w → Sized w → A
not_both w (inl e) (a, b) = absurd (omega arith)
not_both w (inr e) (a, b) = absurd (omega arith)

-- until stops at the first byte that is not allowed
first_refused_lem : (w : List ℕ) → every is_allowed w ≡ false → Lowest (NotAllowed w) (until is_allowed w)
first_refused_lem [] e = no e
first_refused_lem (c ∷ w) e = at (is_allowed c) refl e (first_refused_lem w)
  where
    at : (b : Bool) → is_allowed c ≡ b → (b && every is_allowed w) ≡ false → (every is_allowed w ≡ false → Lowest (NotAllowed w) (until is_allowed w)) → Lowest (NotAllowed (c ∷ w)) (if b (suc (until is_allowed w)) 0)
    at false q e ih = ((c, refl, q), λ j h. absurd (omega arith))
    at true q e ih = ((ih e).0, before_it (ih e).1)
      where
        before_it : ((j : ℕ) → j < until is_allowed w → NotAllowed w j → ⊥) → (j : ℕ) → j < suc (until is_allowed w) → NotAllowed (c ∷ w) j → ⊥
        before_it f zero h (b, x, y) = no (sym q ∙ (ap is_allowed x ∙ y))
        before_it f (suc j) h n = f j (omega arith) n

pub all_allowed : (w : List ℕ) → Allowed w → (i : ℕ) → NotAllowed w i → ⊥
all_allowed [] e i (b, x, y) = absurd x
all_allowed (c ∷ w) e zero (b, x, y) = no (sym (both (is_allowed c) (every is_allowed w) e).0 ∙ (ap is_allowed x ∙ y))
all_allowed (c ∷ w) e (suc i) n = all_allowed w (both (is_allowed c) (every is_allowed w) e).1 i n

-- the machine eats no more than there is
eaten_short : (w : List ℕ) (s : State) → eaten s w ≤ length w
eaten_short [] s = omega arith
eaten_short (c ∷ w) s = at (step s (suc (length w)) c) (eaten_short w)
  where
    at : (m : Move) → ((t : State) → eaten t w ≤ length w) → taken m (λ t. eaten t w) ≤ suc (length w)
    at stop ih = omega arith
    at (go t) ih = omega (arith, ih t)
    at (say ts t) ih = omega (arith, ih t)

longest_shared : (w : List ℕ) → LongestShared w (eaten before w)
longest_shared w = let (z, p) = (longest w (eaten before w) short).1 (omega arith) in ((short, z, p), λ n h (l, y, q). let m = (longest w n l).0 (y, q) in omega arith)
  where
    short : eaten before w ≤ length w
    short = eaten_short w before

pub longest_once : (w : List ℕ) (i j : ℕ) → LongestShared w i → LongestShared w j → i ≡ j
longest_once w i j a b = at (ltb i j) refl (ltb j i) refl
  where
    at : (x : Bool) → ltb i j ≡ x → (y : Bool) → ltb j i ≡ y → i ≡ j
    at true e y f = absurd (a.1 j (ltb-true i j e) b.0)
    at false e true f = absurd (b.1 i (ltb-true j i f) a.0)
    at false e false f = omega (arith, ltb-false i j e, ltb-false j i f)

-- ---- the four ways of judging a page

pub data Way (w : List ℕ) : Judged → Type 0 where
  by_size : BadSize w → Way w (refused 2 0)
  by_byte : (i : ℕ) → Sized w → Lowest (NotAllowed w) i → Way w (refused 3 i)
  by_form : (i : ℕ) → Sized w → Allowed w → (IsPage w → ⊥) → LongestShared w i → Way w (refused 4 i)
  by_tags : (ts : List Tag) → Formed w ts → Way w (verdict (faults [] ts) (items [] ts))

pub way : (w : List ℕ) → Way w (judge w)
unfolding judge
way w = at (eqb (length w) 0) refl (ltb 1400 (length w)) refl (every is_allowed w) refl (scan before w) refl
  where
    size : eqb (length w) 0 ≡ false → ltb 1400 (length w) ≡ false → Sized w
    size x y = (omega (arith, eqb-false (length w) 0 x), ltb-false 1400 (length w) y)

    at : (a : Bool) → eqb (length w) 0 ≡ a → (b : Bool) → ltb 1400 (length w) ≡ b → (c : Bool) → every is_allowed w ≡ c → (o : Option (List Tag)) → scan before w ≡ o
        → Way w (if (a || b) (refused 2 0) (if c (judge_tags o w) (refused 3 (until is_allowed w))))
    at true x b y c z o s = by_size (inl (eqb-true (length w) 0 x))
    at false x true y c z o s = by_size (inr (ltb-true 1400 (length w) y))
    at false x false y false z o s = by_byte (until is_allowed w) (size x y) (first_refused_lem w z)
    at false x false y true z none s =
        by_form (eaten before w) (size x y) z (λ (t, p). let q = (exact w t).0 p in unequal (cc)) (longest_shared w)
    at false x false y true z (some t) s =
        by_tags (placed (length w) t) (record { sized = (size x y); allowed = z; tags = t; page = (exact w t).1 s; places = refl })

-- a page has its tags once
formed_once : (w : List ℕ) (ts us : List Tag) → Formed w ts → Formed w us → ts ≡ us
formed_once w ts us F G = let e = unambiguous F.page G.page in sym F.places ∙ (ap (placed (length w)) e ∙ G.places)

-- ---- the faults

-- the least fault of these tags, by its number and then its place
least_cause : (ts : List Tag) (n i : ℕ) → (verdict (faults [] ts) (items [] ts) ≡ refused n i) ↔ (Lowest (Cause ts n) i × ((m : ℕ) → m < n → None (Cause ts m)))
least_cause ts n i = (
  λ e. let (a, b) = least_is.0 e in ((has_cause ts (fault_at n i) a, λ j h c. not_lower j h (b (fault_at n j) (cause_has c))), λ m h j c. below m j h (b (fault_at m j) (cause_has c))),
  λ ((c, l), b). least_is.1 (cause_has c, λ g a. above g (has_cause ts g a) l b (ltb g.no n) refl (ltb n g.no) refl (ltb g.place i) refl),
)
  where
    least_is : (verdict (faults [] ts) (items [] ts) ≡ refused n i) ↔ (Among (fault_at n i) (faults [] ts) × ((g : Fault) → Among g (faults [] ts) → NotLower g (fault_at n i)))
    least_is = verdict_least (faults [] ts) (items [] ts) n i

    not_lower : (j : ℕ) → j < i → NotLower (fault_at n j) (fault_at n i) → ⊥
    not_lower j h (inl x) = omega arith
    not_lower j h (inr (x, y)) = omega arith

    below : (m j : ℕ) → m < n → NotLower (fault_at m j) (fault_at n i) → ⊥
    below m j h (inl x) = omega arith
    below m j h (inr (x, y)) = omega arith

    above : (g : Fault) → Cause ts g.no g.place → ((j : ℕ) → j < i → Cause ts n j → ⊥) → ((m : ℕ) → m < n → None (Cause ts m))
        → (x : Bool) → ltb g.no n ≡ x → (y : Bool) → ltb n g.no ≡ y → (z : Bool) → ltb g.place i ≡ z → NotLower g (fault_at n i)
    above g c l b true p y q z r = absurd (b g.no (ltb-true g.no n p) g.place c)
    above g c l b false p true q z r = inl (ltb-true n g.no q)
    above g c l b false p false q true r =
        let e : g.no ≡ n = omega (arith, ltb-false g.no n p, ltb-false n g.no q) in
        absurd (l g.place (ltb-true g.place i r) (rw e at c))
    above g c l b false p false q false r = inr (omega (arith, ltb-false g.no n p, ltb-false n g.no q), ltb-false g.place i r)

-- faults of tags have numbers from 5 to 8
pub cause_number : {ts : List Tag} {n i : ℕ} → Cause ts n i → (5 ≤ n) × (n ≤ 8)
cause_number (of_five c) = (omega arith, omega arith)
cause_number (of_six c) = (omega arith, omega arith)
cause_number (of_seven c) = (omega arith, omega arith)
cause_number (of_eight c) = (omega arith, omega arith)

pub verdict_number : (ts : List Tag) (n i : ℕ) → verdict (faults [] ts) (items [] ts) ≡ refused n i → (5 ≤ n) × (n ≤ 8)
verdict_number ts n i e = cause_number ((least_cause ts n i).0 e).0.0

-- ---- 5 to 8, and a page without fault

-- what the tags decide: a sheet, or a refusal from 5 on
abbrev pub ByTags : Judged → Type 0
ByTags (refused n i) = 5 ≤ n
ByTags (sheet s) = Unit {0}

pub judged_tags : (w : List ℕ) (x : Judged) → ByTags x → (judge w ≡ x) ↔ ((ts : List Tag) × Formed w ts × (verdict (faults [] ts) (items [] ts) ≡ x))
judged_tags w x h = (there (way w), λ (ts, F, e). back (way w) ts F e)
  where
    there : {y : Judged} → Way w y → y ≡ x → (ts : List Tag) × Formed w ts × (verdict (faults [] ts) (items [] ts) ≡ x)
    there (by_size b) e = let z : ByTags (refused 2 0) = subst ByTags (sym e) h in absurd (omega arith)
    there (by_byte j s l) e = let z : ByTags (refused 3 j) = subst ByTags (sym e) h in absurd (omega arith)
    there (by_form j s a f l) e = let z : ByTags (refused 4 j) = subst ByTags (sym e) h in absurd (omega arith)
    there (by_tags ts F) e = (ts, F, e)

    back : {y : Judged} → Way w y → (ts : List Tag) → Formed w ts → verdict (faults [] ts) (items [] ts) ≡ x → y ≡ x
    back (by_size b) ts F e = not_both w b F.sized
    back (by_byte j s l) ts F e = absurd (all_allowed w F.allowed j l.0)
    back (by_form j s a f l) ts F e = absurd (f (F.tags, F.page))
    back (by_tags us G) ts F e = ap (λ (x : List Tag). verdict (faults [] x) (items [] x)) (formed_once w us ts G F) ∙ e

-- 5 to 8 by their causes
pub judged_cause : (w : List ℕ) (n i : ℕ) → 5 ≤ n → (judge w ≡ refused n i) ↔ ((ts : List Tag) × Formed w ts × Lowest (Cause ts n) i × ((m : ℕ) → m < n → None (Cause ts m)))
judged_cause w n i h =
    let J = judged_tags w (refused n i) h in
    (λ e. let (ts, F, v) = J.0 e in let (l, b) = (least_cause ts n i).0 v in (ts, F, l, b), λ (ts, F, l, b). J.1 (ts, F, (least_cause ts n i).1 (l, b)))

-- each number's own causes
module _ (ts : List Tag) where
  pub cause5 : (i : ℕ) → Cause ts 5 i ↔ Five ts i
  cause5 i = (only, of_five)
    where
      only : Cause ts 5 i → Five ts i
      only (of_five c) = c

  pub cause6 : (i : ℕ) → Cause ts 6 i ↔ Six ts i
  cause6 i = (only, of_six)
    where
      only : Cause ts 6 i → Six ts i
      only (of_six c) = c

  pub cause7 : (i : ℕ) → Cause ts 7 i ↔ Seven ts i
  cause7 i = (only, of_seven)
    where
      only : Cause ts 7 i → Seven ts i
      only (of_seven c) = c

  pub cause8 : (i : ℕ) → Cause ts 8 i ↔ Eight ts i
  cause8 i = (only, of_eight)
    where
      only : Cause ts 8 i → Eight ts i
      only (of_eight c) = c

  -- no cause has a number below n
  abbrev pub Nothing : ℕ → Type 0
  Nothing n = (m : ℕ) → m < n → None (Cause ts m)

  pub one_more : (n : ℕ) → Nothing n → None (Cause ts n) → Nothing (suc n)
  one_more n b c m h j x = at (ltb m n) refl
    where
      at : (y : Bool) → ltb m n ≡ y → ⊥
      at true e = b m (ltb-true m n e) j x
      at false e = let q : m ≡ n = omega (arith, ltb-false m n e) in c j (rw q at x)

  pub below5 : Nothing 5
  below5 m h j c = let r = cause_number c in omega arith

  pub below6 : None (Five ts) → Nothing 6
  below6 a = one_more 5 below5 (λ j c. a j ((cause5 j).0 c))

  pub below7 : None (Five ts) → None (Six ts) → Nothing 7
  below7 a b = one_more 6 (below6 a) (λ j c. b j ((cause6 j).0 c))

  pub below8 : None (Five ts) → None (Six ts) → None (Seven ts) → Nothing 8
  below8 a b c = one_more 7 (below7 a b) (λ j x. c j ((cause7 j).0 x))

  -- tags without a cause have no fault
  pub clean : (fs : List Fault) → ((g : Fault) → Among g fs → Cause ts g.no g.place) → Nothing 9 → fs ≡ []
  clean [] h n = refl
  clean (f ∷ fs) h n = let c = h f here in let r = cause_number c in absurd (n f.no (omega arith) f.place c)

-- a sheet is what tags without fault say
pub verdict_sheet : (fs : List Fault) (xs : List Item) (s : Sheet) → (verdict fs xs ≡ sheet s) ↔ ((fs ≡ []) × (sheet_of xs ≡ s))
verdict_sheet [] xs s = (λ e. (refl, cc), λ (a, b). rw b)
verdict_sheet (f ∷ fs) xs s = (λ e. unequal (cc), λ (a, b). unequal (cc))

-- ---- which numbers there are

-- a page's refusal is one of 2 to 8
pub two_to_eight : (w : List ℕ) (n i : ℕ) → judge w ≡ refused n i → (2 ≤ n) × (n ≤ 8)
two_to_eight w n i = at (way w)
  where
    at : {x : Judged} → Way w x → x ≡ refused n i → (2 ≤ n) × (n ≤ 8)
    at (by_size b) e = let q : 2 ≡ n = cc in (omega arith, omega arith)
    at (by_byte j s l) e = let q : 3 ≡ n = cc in (omega arith, omega arith)
    at (by_form j s a f l) e = let q : 4 ≡ n = cc in (omega arith, omega arith)
    at (by_tags ts F) e = let r = verdict_number ts n i e in (omega arith, omega arith)

-- a page that is refused for its size is refused at place 0
pub size_place : (w : List ℕ) (n i : ℕ) → judge w ≡ refused n i → n ≡ 2 → i ≡ 0
size_place w n i = at (way w)
  where
    at : {x : Judged} → Way w x → x ≡ refused n i → n ≡ 2 → i ≡ 0
    at (by_size b) e q = cc
    at (by_byte j s l) e q = let z : 3 ≡ n = cc in absurd (omega arith)
    at (by_form j s a f l) e q = let z : 4 ≡ n = cc in absurd (omega arith)
    at (by_tags ts F) e q = let r = verdict_number ts n i e in absurd (omega arith)
