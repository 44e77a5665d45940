-- Joining: what joining sheets gives, refusal by refusal: each of its three searches finds the first sheet or number that Causes speaks of.
-- Assumes nothing.
use mathlib.Core.Path.{◌≡◌, refl, ap, sym, ◌∙◌, subst}
use mathlib.Core.Logic.{◌↔◌, ◌⊎◌, inl, inr, ◌≢◌}
use mathlib.Core.Bool.{Bool, true, false, ◌&&◌, ◌||◌}
use mathlib.Core.List.{List, [], ◌∷◌, ◌++◌}
use Prim.Native.Nat.{ℕ, zero, suc, ◌+◌, ◌≤◌, ◌<◌}
use native.Mathlib.Omega.{arith}
use lib.Dec.{eqb, leb}
use lib.ListN.{length, length-append}
use borrow.Author.Tests.{eqb-true, eqb-false, eq-eqb, leb-true, leb-false, le-leb, lt-leb}
use Rattle.paper.specs.Lists.{if}
use Rattle.paper.specs.Plan.{Head, Plan, same_head}
use Rattle.paper.specs.Judging.{Sheet, Judged, refused, sheet, judge}
use Rattle.paper.specs.Reading.{Answer, refusal, plan, Judgement, stopped, sheets, cons, judge_all, page9, has, page10, number11, rows_at, joined, refuse_at, enough, join, decide, read}
use Rattle.paper.proofs.Small.{unequal, no, both, neither, Nth, nth_zero, nth_behind}
use Rattle.paper.proofs.Join.{skip, joined_none}
use Rattle.paper.proofs.AnyOrder.{head_eq, same_test, Alike, Distinct, Each, other_alike, again_distinct, enough_few, each_judged}
use Rattle.paper.proofs.PageNumbers.{numbered}
use Rattle.paper.proofs.Judged.{two_to_eight}
use Rattle.paper.proofs.CallLaws.{Ranged}
use Rattle.paper.proofs.Causes.{None, Lowest, Handed, Differs, Other, Again, Missing, row_count, plan_of}
use Rattle.paper.proofs.Firsts.{lowest_once, Search, nowhere, somewhere, here_at, further, alike}

-- ---- 9

-- count and head are the same, or one of them differs
pub differs : (t s : Sheet) → (eqb t.of s.of && same_head t.head s.head) ≡ false → Differs t s
differs t s e = at (eqb t.of s.of) refl e
  where
    at : (b : Bool) → eqb t.of s.of ≡ b → (b && same_head t.head s.head) ≡ false → Differs t s
    at true q e = inl (λ h. no (sym (both (eqb t.of s.of) (same_head t.head s.head) (same_test t s (eqb-true t.of s.of q) h)).1 ∙ e))
    at false q e = inr (eqb-false t.of s.of q)

pub not_differs : (t s : Sheet) → t.of ≡ s.of → t.head ≡ s.head → Differs t s → ⊥
not_differs t s p q (inl n) = n q
not_differs t s p q (inr n) = n p

-- the sheets behind the first, counted from 0
abbrev Strange : Sheet → List Sheet → ℕ → Type 0
Strange s l j = (t : Sheet) × Nth l (suc j) t × Differs t s

search_9 : (s : Sheet) (k : ℕ) (l : List Sheet) → Search (Strange s l) k (page9 s k l)
search_9 s k [] = nowhere refl (λ j x. absurd x.1)
search_9 s k (t ∷ l) = at (eqb t.of s.of && same_head t.head s.head) refl (search_9 s (suc k) l)
  where
    at : (b : Bool) → (eqb t.of s.of && same_head t.head s.head) ≡ b → Search (Strange s l) (suc k) (page9 s (suc k) l) → Search (Strange s (t ∷ l)) k (if b (page9 s (suc k) l) k)
    at true e ih =
        let (a, b) = both (eqb t.of s.of) (same_head t.head s.head) e in
        further (Strange s (t ∷ l)) k (page9 s (suc k) l) (λ (u, q, d). not_differs t s (eqb-true t.of s.of a) (head_eq t.head s.head b) (rw q d)) ih
    at false e ih = here_at (Strange s (t ∷ l)) k (t, refl, differs t s e)

-- page9 finds the first sheet that differs from the first one
nine_found : (s : Sheet) (l : List Sheet) → Search (Other s l) 0 (page9 s 2 l)
nine_found s l =
    further (Other s l) 0 (page9 s 2 l) (λ (t, q, d). absurd q) (further (λ j. Other s l (suc j)) 1 (page9 s 2 l)
    (λ (t, q, d). not_differs t s (ap (λ (y : Sheet). y.of) (sym q)) (ap (λ (y : Sheet). y.head) (sym q)) d) (search_9 s 2 l))

-- ---- 10

-- some sheet has that number
pub has_true : (n : ℕ) (l : List Sheet) → has n l ≡ true → (k : ℕ) × (t : Sheet) × Nth l k t × (t.no ≡ n)
has_true n [] e = no (sym e)
has_true n (s ∷ l) e = at (eqb s.no n) refl e (has_true n l)
  where
    at : (b : Bool) → eqb s.no n ≡ b → (b || has n l) ≡ true → (has n l ≡ true → (k : ℕ) × (t : Sheet) × Nth l k t × (t.no ≡ n)) → (k : ℕ) × (t : Sheet) × Nth (s ∷ l) k t × (t.no ≡ n)
    at true q e ih = (1, s, refl, eqb-true s.no n q)
    at false q e ih = let (k, t, x, y) = ih e in (suc k, t, nth_behind s l k t x, y)

pub has_false : (n : ℕ) (l : List Sheet) → has n l ≡ false → (k : ℕ) (t : Sheet) → Nth l k t → t.no ≢ n
has_false n [] e k t q = absurd q
has_false n (s ∷ l) e zero t q = absurd q
has_false n (s ∷ l) e (suc zero) t q = let f = eqb-false s.no n (neither (eqb s.no n) (has n l) e).0 in rw q at f
has_false n (s ∷ l) e (suc (suc k)) t q = has_false n l (neither (eqb s.no n) (has n l) e).1 (suc k) t q

-- the sheets counted from 0, of which each is held against those before it and against others
abbrev Seen : List Sheet → List Sheet → ℕ → Type 0
Seen was l j = (t : Sheet) × Nth l (suc j) t × ((has t.no was ≡ true) ⊎ ((i : ℕ) × (u : Sheet) × (i < j) × Nth l (suc i) u × (u.no ≡ t.no)))

search_10 : (was : List Sheet) (k : ℕ) (l : List Sheet) → Search (Seen was l) k (page10 was k l)
search_10 was k [] = nowhere refl (λ j x. absurd x.1)
search_10 was k (s ∷ l) = at (has s.no was) refl (search_10 (s ∷ was) (suc k) l)
  where
    r : ℕ
    r = page10 (s ∷ was) (suc k) l

    -- one more that was seen, or the first of those here
    moved : (j : ℕ) → Seen (s ∷ was) l j ↔ Seen was (s ∷ l) (suc j)
    moved j = (λ (t, q, y). (t, q, there t y), λ (t, q, y). (t, q, back t y))
      where
        there : (t : Sheet) → (has t.no (s ∷ was) ≡ true) ⊎ ((i : ℕ) × (u : Sheet) × (i < j) × Nth l (suc i) u × (u.no ≡ t.no))
            → (has t.no was ≡ true) ⊎ ((i : ℕ) × (u : Sheet) × (i < suc j) × Nth (s ∷ l) (suc i) u × (u.no ≡ t.no))
        there t (inl e) = by (eqb s.no t.no) refl e
          where
            by : (b : Bool) → eqb s.no t.no ≡ b → (b || has t.no was) ≡ true → (has t.no was ≡ true) ⊎ ((i : ℕ) × (u : Sheet) × (i < suc j) × Nth (s ∷ l) (suc i) u × (u.no ≡ t.no))
            by true f e = inr (0, s, omega arith, refl, eqb-true s.no t.no f)
            by false f e = inl e
        there t (inr (i, u, h, q, e)) = inr (suc i, u, omega arith, q, e)

        back : (t : Sheet) → (has t.no was ≡ true) ⊎ ((i : ℕ) × (u : Sheet) × (i < suc j) × Nth (s ∷ l) (suc i) u × (u.no ≡ t.no))
            → (has t.no (s ∷ was) ≡ true) ⊎ ((i : ℕ) × (u : Sheet) × (i < j) × Nth l (suc i) u × (u.no ≡ t.no))
        back t (inl e) = inl (or_right (eqb s.no t.no) (has t.no was) e)
          where
            or_right : (a b : Bool) → b ≡ true → a || b ≡ true
            or_right true b e = refl
            or_right false b e = e
        back t (inr (zero, u, h, q, e)) = inl (rw (eq-eqb s.no t.no (rw q e)))
        back t (inr (suc i, u, h, q, e)) = inr (i, u, omega arith, q, e)

    at : (b : Bool) → has s.no was ≡ b → Search (Seen (s ∷ was) l) (suc k) r → Search (Seen was (s ∷ l)) k (if b k r)
    at true e ih = here_at (Seen was (s ∷ l)) k (s, refl, inl e)
    at false e ih = further (Seen was (s ∷ l)) k r first (alike (Seen (s ∷ was) l) (λ j. Seen was (s ∷ l) (suc j)) (suc k) r moved ih)
      where
        first : Seen was (s ∷ l) 0 → ⊥
        first (t, q, inl f) = no (sym f ∙ rw (sym q) e)
        first (t, q, inr (i, u, h, x, y)) = omega arith

-- page10 finds the first sheet whose number an earlier one has
ten_found : (l : List Sheet) → Search (Again l) 0 (page10 [] 1 l)
ten_found l =
    further (Again l) 0 (page10 [] 1 l) (λ (t, j, u, q, h, x, e). omega arith)
    (alike (Seen [] l) (λ j. Again l (suc j)) 1 (page10 [] 1 l) (λ j. (λ (t, q, y). there j t q y, λ (t, i, u, q, h, x, e). back j t i u q h x e)) (search_10 [] 1 l))
  where
    there : (j : ℕ) (t : Sheet) → Nth l (suc j) t → (has t.no [] ≡ true) ⊎ ((i : ℕ) × (u : Sheet) × (i < j) × Nth l (suc i) u × (u.no ≡ t.no)) → Again l (suc j)
    there j t q (inl e) = no (sym e)
    there j t q (inr (i, u, h, x, e)) = (t, suc i, u, q, omega arith, x, e)

    back : (j : ℕ) (t : Sheet) (i : ℕ) (u : Sheet) → Nth l (suc j) t → i < suc j → Nth l i u → u.no ≡ t.no → Seen [] l j
    back j t zero u q h x e = absurd (nth_zero l u x)
    back j t (suc i) u q h x e = (t, q, inr (i, u, omega arith, x, e))

-- ---- 11

-- of k numbers from n on, the one at j is missing
abbrev Lacks : List Sheet → ℕ → ℕ → ℕ → Type 0
Lacks l n k j = (j < k) × (has (n + j) l ≡ false)

search_11 : (l : List Sheet) (k n : ℕ) → Search (Lacks l n k) n (number11 l n k)
search_11 l zero n = nowhere refl (λ j x. let h = x.0 in omega arith)
search_11 l (suc k) n = at (has n l) refl (search_11 l k (suc n))
  where
    r : ℕ
    r = number11 l (suc n) k

    moved : (j : ℕ) → Lacks l (suc n) k j ↔ Lacks l n (suc k) (suc j)
    moved j = let e : suc n + j ≡ n + suc j = omega arith in (λ (h, x). (omega arith, rw e at x), λ (h, x). (omega arith, rw e x))

    at : (b : Bool) → has n l ≡ b → Search (Lacks l (suc n) k) (suc n) r → Search (Lacks l n (suc k)) n (if b r n)
    at true e ih =
        let z : n + 0 ≡ n = omega arith in
        further (Lacks l n (suc k)) n r (λ (h, x). no (sym e ∙ rw z at x)) (alike (Lacks l (suc n) k) (λ j. Lacks l n (suc k) (suc j)) (suc n) r moved ih)
    at false e ih = let z : n + 0 ≡ n = omega arith in here_at (Lacks l n (suc k)) n (omega arith, rw z e)

-- number11 finds the lowest of the numbers that is missing
eleven_found : (s : Sheet) (l : List Sheet) → Search (Missing s l) 0 (number11 (s ∷ l) 1 s.of)
eleven_found s l =
    further (Missing s l) 0 r (λ (a, b, q). omega arith) (alike (Lacks (s ∷ l) 1 s.of) (λ j. Missing s l (suc j)) 1 r (λ j. (there j, back j)) (search_11 (s ∷ l) s.of 1))
  where
    r : ℕ
    r = number11 (s ∷ l) 1 s.of

    there : (j : ℕ) → Lacks (s ∷ l) 1 s.of j → Missing s l (suc j)
    there j (h, x) = let e : 1 + j ≡ suc j = omega arith in (omega arith, omega arith, has_false (suc j) (s ∷ l) (ap (λ (n : ℕ). has n (s ∷ l)) (sym e) ∙ x))

    back : (j : ℕ) → Missing s l (suc j) → Lacks (s ∷ l) 1 s.of j
    back j (a, b, q) = let e : 1 + j ≡ suc j = omega arith in (omega arith, ap (λ (n : ℕ). has n (s ∷ l)) e ∙ at (has (suc j) (s ∷ l)) refl)
      where
        at : (b : Bool) → has (suc j) (s ∷ l) ≡ b → b ≡ false
        at true e = let (k, u, x, y) = has_true (suc j) (s ∷ l) e in absurd (q k u x y)
        at false e = refl

-- ---- 12

-- a number that no sheet has gives no rows
no_rows : (n : ℕ) (l : List Sheet) → has n l ≡ false → rows_at n l ≡ []
no_rows n [] e = refl
no_rows n (s ∷ l) e = let (a, b) = neither (eqb s.no n) (has n l) e in rw (a, no_rows n l b)

-- a sheet more, of a number that is asked for and that no other has, gives its rows
rows_more : (s : Sheet) (l : List Sheet) (k n : ℕ) → has s.no l ≡ false → n ≤ s.no → s.no < n + k → length (joined (s ∷ l) n k) ≡ length s.rows + length (joined l n k)
rows_more s l zero n e a b = absurd (omega arith)
rows_more s l (suc k) n e a b = at (eqb s.no n) refl (λ h. rows_more s l k (suc n) e h (omega arith))
  where
    at : (x : Bool) → eqb s.no n ≡ x → (suc n ≤ s.no → length (joined (s ∷ l) (suc n) k) ≡ length s.rows + length (joined l (suc n) k)) → length (if x s.rows (rows_at n l) ++ joined (s ∷ l) (suc n) k) ≡ length s.rows + length (rows_at n l ++ joined l (suc n) k)
    at true q ih =
        let m : s.no ≡ n = eqb-true s.no n q in
        let z : rows_at n l ≡ [] = no_rows n l (rw m at e) in
        rw (z, skip s l k (suc n) (omega arith)) (length-append s.rows (joined l (suc n) k))
    at false q ih =
        let m : s.no ≢ n = eqb-false s.no n q in
        omega (arith, length-append (rows_at n l) (joined (s ∷ l) (suc n) k), length-append (rows_at n l) (joined l (suc n) k), ih (omega arith))

-- without a number twice, the rows that are joined are all rows of the sheets
rows_together : (ws : List (List ℕ)) (l : List Sheet) (z : ℕ) (h : Head) → Each ws l → Alike z h l → Distinct l → length (joined l 1 z) ≡ row_count l
rows_together [] [] z h e a d = ap length (joined_none z 1)
rows_together [] (s ∷ l) z h e a d = absurd e
rows_together (w ∷ ws) [] z h e a d = absurd e
rows_together (w ∷ ws) (s ∷ l) z h e a d =
    let N = numbered w s e.0 in
    let o = a.0 in
    omega (arith, rows_more s l z 1 d.0 N.least (omega arith), rows_together ws l z h e.1 a.2 d.1)

-- ---- one refusal before the others

-- the number of a refusal; 0 for a plan
abbrev pub number_of : Answer → ℕ
number_of (refusal n k i) = n
number_of (plan p) = 0

not_here : (n k m : ℕ) (a : Answer) → n ≢ m → number_of a ≢ m → number_of (refuse_at n k a) ≢ m
not_here n zero m a x y = y
not_here n (suc k) m a x y = x

not_enough : (p : Plan) (m : ℕ) → m ≢ 0 → m ≢ 12 → number_of (enough p) ≢ m
not_enough p m x y = at (leb (length p.rows) 256)
  where
    at : (b : Bool) → number_of (if b (plan p) (refusal 12 0 0)) ≢ m
    at true e = x (sym e)
    at false e = y (sym e)

module _ (Q : ℕ → Type 0) (n : ℕ) (a : Answer) (off : Q 0 → ⊥) where
  -- the number n is given exactly at the first place, where no later refusal has that number
  given_first : (r k i : ℕ) → Search Q 0 r → number_of a ≢ n → (refuse_at n r a ≡ refusal n k i) ↔ (Lowest Q k × (i ≡ 0))
  given_first zero k i (nowhere e q) h = (λ f. absurd (h (ap number_of f)), λ (l, z). absurd (q k l.0))
  given_first zero k i (somewhere j e l) h = let z : j ≡ 0 = omega arith in absurd (off (rw z at l.0))
  given_first (suc r) k i (nowhere e q) h = absurd (omega arith)
  given_first (suc r) k i (somewhere j e l) h =
      let z : j ≡ suc r = omega arith in
      (λ f. let p : suc r ≡ k = cc in let q : 0 ≡ i = cc in (rw (sym p, sym z) l, sym q), λ (m, q). let p : suc r ≡ k = lowest_once Q (suc r) k (rw z at l) m in rw (p, q))

  -- any other answer is given exactly when there is no such place
  given_after : (r : ℕ) (x : Answer) → Search Q 0 r → number_of x ≢ n → (refuse_at n r a ≡ x) ↔ (None Q × (a ≡ x))
  given_after zero x (nowhere e q) h = (λ f. (q, f), λ (m, f). f)
  given_after zero x (somewhere j e l) h = let z : j ≡ 0 = omega arith in absurd (off (rw z at l.0))
  given_after (suc r) x (nowhere e q) h = absurd (omega arith)
  given_after (suc r) x (somewhere j e l) h = (λ f. absurd (h (sym (ap number_of f))), λ (m, f). absurd (m j l.0))

-- ---- the sheets joined

-- what decides behind 11, behind 10 and behind 9
abbrev pub after11 : Sheet → List Sheet → Answer
after11 s l = enough (plan_of s l)

abbrev pub after10 : Sheet → List Sheet → Answer
after10 s l = refuse_at 11 (number11 (s ∷ l) 1 s.of) (after11 s l)

abbrev pub after9 : Sheet → List Sheet → Answer
after9 s l = refuse_at 10 (page10 [] 1 (s ∷ l)) (after10 s l)

-- 9 to 12, each where those before it are not given
module _ (s : Sheet) (l : List Sheet) where
  pub first9 : (k i : ℕ) → (join (s ∷ l) ≡ refusal 9 k i) ↔ (Lowest (Other s l) k × (i ≡ 0))
  first9 k i =
      given_first (Other s l) 9 (after9 s l) (λ (t, q, d). absurd q) (page9 s 2 l) k i (nine_found s l)
      (not_here 10 (page10 [] 1 (s ∷ l)) 9 (after10 s l) (omega arith) (not_here 11 (number11 (s ∷ l) 1 s.of) 9 (after11 s l) (omega arith) (not_enough (plan_of s l) 9 (omega arith) (omega arith))))

  pub behind9 : (x : Answer) → number_of x ≢ 9 → (join (s ∷ l) ≡ x) ↔ (None (Other s l) × (after9 s l ≡ x))
  behind9 x h = given_after (Other s l) 9 (after9 s l) (λ (t, q, d). absurd q) (page9 s 2 l) x (nine_found s l) h

  pub first10 : (k i : ℕ) → (after9 s l ≡ refusal 10 k i) ↔ (Lowest (Again (s ∷ l)) k × (i ≡ 0))
  first10 k i =
      given_first (Again (s ∷ l)) 10 (after10 s l) (λ (t, j, u, q, h, x, e). omega arith) (page10 [] 1 (s ∷ l)) k i (ten_found (s ∷ l))
      (not_here 11 (number11 (s ∷ l) 1 s.of) 10 (after11 s l) (omega arith) (not_enough (plan_of s l) 10 (omega arith) (omega arith)))

  pub behind10 : (x : Answer) → number_of x ≢ 10 → (after9 s l ≡ x) ↔ (None (Again (s ∷ l)) × (after10 s l ≡ x))
  behind10 x h = given_after (Again (s ∷ l)) 10 (after10 s l) (λ (t, j, u, q, h, x, e). omega arith) (page10 [] 1 (s ∷ l)) x (ten_found (s ∷ l)) h

  pub first11 : (k i : ℕ) → (after10 s l ≡ refusal 11 k i) ↔ (Lowest (Missing s l) k × (i ≡ 0))
  first11 k i =
      given_first (Missing s l) 11 (after11 s l) (λ (a, b, q). omega arith) (number11 (s ∷ l) 1 s.of) k i (eleven_found s l)
      (not_enough (plan_of s l) 11 (omega arith) (omega arith))

  behind11 : (x : Answer) → number_of x ≢ 11 → (after10 s l ≡ x) ↔ (None (Missing s l) × (after11 s l ≡ x))
  behind11 x h = given_after (Missing s l) 11 (after11 s l) (λ (a, b, q). omega arith) (number11 (s ∷ l) 1 s.of) x (eleven_found s l) h

  pub behind_all : (x : Answer) → number_of x ≢ 9 → number_of x ≢ 10 → number_of x ≢ 11 → (join (s ∷ l) ≡ x) ↔ (None (Other s l) × None (Again (s ∷ l)) × None (Missing s l) × (after11 s l ≡ x))
  behind_all x a b c =
      let A = behind9 x a in
      let B = behind10 x b in
      let C = behind11 x c in
      (λ e. let (n, f) = A.0 e in let (m, g) = B.0 f in let (o, h) = C.0 g in (n, m, o, h), λ (n, m, o, h). A.1 (n, B.1 (m, C.1 (o, h))))

  -- where no sheet differs and no number stands twice, the joined rows are all rows
  pub all_rows : (ws : List (List ℕ)) → Each ws (s ∷ l) → None (Other s l) → None (Again (s ∷ l)) → length (plan_of s l).rows ≡ row_count (s ∷ l)
  all_rows ws e n m = rows_together ws (s ∷ l) s.of s.head e (refl, refl, other_alike s 2 l (omega arith) (off9 (nine_found s l))) (again_distinct [] 1 (s ∷ l) (omega arith) (off10 (ten_found (s ∷ l))))
    where
      off9 : {r : ℕ} → Search (Other s l) 0 r → r ≡ 0
      off9 (nowhere e q) = e
      off9 (somewhere j e q) = absurd (n j q.0)

      off10 : {r : ℕ} → Search (Again (s ∷ l)) 0 r → r ≡ 0
      off10 (nowhere e q) = e
      off10 (somewhere j e q) = absurd (m j q.0)

-- 12, or the plan
pub over : (p : Plan) (k i : ℕ) → (enough p ≡ refusal 12 k i) ↔ ((256 < length p.rows) × (k ≡ 0) × (i ≡ 0))
over p k i = (λ e. there (leb (length p.rows) 256) refl e, λ (h, a, b). rw (lt-leb (length p.rows) 256 h, a, b))
  where
    there : (b : Bool) → leb (length p.rows) 256 ≡ b → if b (plan p) (refusal 12 0 0) ≡ refusal 12 k i → (256 < length p.rows) × (k ≡ 0) × (i ≡ 0)
    there true q e = unequal (cc)
    there false q e = (leb-false (length p.rows) 256 q, cc, cc)

pub under : (p q : Plan) → (enough p ≡ plan q) ↔ ((length p.rows ≤ 256) × (p ≡ q))
under p q = (enough_few p q, λ (h, e). rw (le-leb (length p.rows) 256 h, e))

-- ---- pages

-- the page of that number, counted from 0, has a refusal of its own
abbrev pub RefusedAt : List (List ℕ) → ℕ → Type 0
RefusedAt ws j = (w : List ℕ) × (n : ℕ) × (i : ℕ) × Nth ws (suc j) w × (judge w ≡ refused n i)

-- what judging pages gives, counted from k: the sheets, or the first refusal
pub data Judging (ws : List (List ℕ)) (k : ℕ) : Judgement → Type 0 where
  fine : (l : List Sheet) → Each ws l → Judging ws k (sheets l)
  stop : (j n m i : ℕ) (w : List ℕ) → m ≡ k + j → Nth ws (suc j) w → judge w ≡ refused n i → ((h : ℕ) → h < j → RefusedAt ws h → ⊥) → Judging ws k (stopped n m i)

pub judging : (ws : List (List ℕ)) (k : ℕ) → Judging ws k (judge_all k ws)
judging [] k = fine [] tt
judging (w ∷ ws) k = at (judge w) refl (judging ws (suc k))
  where
    at : (x : Judged) → judge w ≡ x → {y : Judgement} → Judging ws (suc k) y → Judging (w ∷ ws) k (cons x k y)
    at (refused n i) e d = stop 0 n k i w (omega arith) refl e (λ h b. absurd (omega arith))
    at (sheet s) e (fine l d) = fine (s ∷ l) (e, d)
    at (sheet s) e (stop j n m i v p q f b) = stop (suc j) n m i v (omega arith) q f before
      where
        before : (h : ℕ) → h < suc j → RefusedAt (w ∷ ws) h → ⊥
        before zero c (u, a, g, x, y) = unequal (cc)
        before (suc h) c y = b h (omega arith) y

-- a page that is judged to a sheet is not refused
pub each_fine : (ws : List (List ℕ)) (l : List Sheet) → Each ws l → (k : ℕ) (w : List ℕ) (n i : ℕ) → Nth ws k w → judge w ≡ refused n i → ⊥
each_fine [] l e k w n i q f = absurd q
each_fine (v ∷ ws) [] e k w n i q f = absurd e
each_fine (v ∷ ws) (s ∷ l) e zero w n i q f = absurd q
each_fine (v ∷ ws) (s ∷ l) e (suc zero) w n i q f = let x = e.0 in unequal (cc)
each_fine (v ∷ ws) (s ∷ l) e (suc (suc k)) w n i q f = each_fine ws l e.1 (suc k) w n i q f

-- ---- the answer

-- how pages are read: 1 to 9 of them are judged, and others refused with 1
pub data Read (ws : List (List ℕ)) : Type 0 where
  judged : 1 ≤ length ws → length ws ≤ 9 → read ws ≡ decide (judge_all 1 ws) → Read ws
  none : (length ws ≡ 0) ⊎ (9 < length ws) → read ws ≡ refusal 1 0 0 → Read ws

pub read_by : (ws : List (List ℕ)) → Read ws
unfolding read
read_by ws = at (leb 1 (length ws)) refl (leb (length ws) 9) refl
  where
    at : (a : Bool) → leb 1 (length ws) ≡ a → (b : Bool) → leb (length ws) 9 ≡ b → Read ws
    at true x true y = judged (leb-true 1 (length ws) x) (leb-true (length ws) 9 y) (rw (x, y))
    at true x false y = none (inr (leb-false (length ws) 9 y)) (rw (x, y))
    at false x b y = let n = leb-false 1 (length ws) x in none (inl (omega arith)) (rw x)

-- 1 to 9 pages are not of another number
pub not_both : {A : Type 0} (n : ℕ) → 1 ≤ n → n ≤ 9 → (n ≡ 0) ⊎ (9 < n) → A
not_both n a b (inl e) = absurd (omega arith)
not_both n a b (inr h) = absurd (omega arith)

-- some pages are some sheets
pub some_sheet : (ws : List (List ℕ)) (l : List Sheet) → 1 ≤ length ws → Each ws l → (s : Sheet) × (t : List Sheet) × (l ≡ s ∷ t)
some_sheet [] l a d = absurd (omega arith)
some_sheet (w ∷ ws) [] a d = absurd d
some_sheet (w ∷ ws) (s ∷ l) a d = (s, l, refl)

some_page : (ws : List (List ℕ)) (s : Sheet) (l : List Sheet) → Each ws (s ∷ l) → 1 ≤ length ws
some_page [] s l d = absurd d
some_page (w ∷ ws) s l d = omega arith

-- a plan or a refusal from 9 on is what joining the sheets of 1 to 9 fine pages gives
pub read_late : (ws : List (List ℕ)) (x : Answer) → Ranged 9 x → (read ws ≡ x) ↔ ((s : Sheet) × (l : List Sheet) × Handed ws s l × (join (s ∷ l) ≡ x))
read_late ws x h = (λ e. there e (read_by ws), λ (s, l, H, e). back s l H e (read_by ws))
  where
    by : 1 ≤ length ws → length ws ≤ 9 → {y : Judgement} → Judging ws 1 y → decide y ≡ x → (s : Sheet) × (l : List Sheet) × Handed ws s l × (join (s ∷ l) ≡ x)
    by a b (fine l d) e = let (s, t, q) = some_sheet ws l a d in (s, t, record { nine = b; each = subst (Each ws) q d }, subst (λ (y : List Sheet). join y ≡ x) q e)
    by a b (stop j n m i w p q f g) e = let z : Ranged 9 (refusal n m i) = subst (Ranged 9) (sym e) h in let r = two_to_eight w n i f in absurd (omega arith)

    there : read ws ≡ x → Read ws → (s : Sheet) × (l : List Sheet) × Handed ws s l × (join (s ∷ l) ≡ x)
    there e (judged a b q) = by a b (judging ws 1) (sym q ∙ e)
    there e (none n q) = let z : Ranged 9 (refusal 1 0 0) = subst (Ranged 9) (sym e ∙ q) h in absurd (omega arith)

    back : (s : Sheet) (l : List Sheet) → Handed ws s l → join (s ∷ l) ≡ x → Read ws → read ws ≡ x
    back s l H e (judged a b q) = q ∙ (ap decide (each_judged 1 ws (s ∷ l) H.each) ∙ e)
    back s l H e (none n q) = not_both (length ws) (some_page ws s l H.each) H.nine n
