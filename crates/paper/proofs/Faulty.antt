-- Faulty: the faults of a page's tags are those of Causes: each test of Judging, said in words.
-- Assumes nothing.
use mathlib.Core.Path.{◌≡◌, refl, ap, sym, ◌∙◌, subst}
use mathlib.Core.Logic.{◌⊎◌, inl, inr, ◌≢◌}
use mathlib.Core.Bool.{Bool, true, false, not, ◌&&◌, ◌||◌}
use mathlib.Core.List.{List, [], ◌∷◌, ◌++◌}
use Prim.Native.Nat.{ℕ, zero, suc, ◌≤◌, ◌<◌}
use native.Mathlib.Omega.{arith}
use lib.Dec.{eqb, leb, ltb}
use borrow.Author.Tests.{eqb-true, eq-eqb, leb-true, le-leb, ltb-true, lt-ltb}
use Rattle.paper.specs.Lists.{bytes, same, is_empty, elem, twice, every, some_of, number}
use Rattle.paper.specs.Grammar.{Attr, Tag, start, end}
use Rattle.paper.specs.Fields.{Kind, unknown, MP, P, A, M, W, code, is, edition, Field, fields_of, excluded, Pair, most_of, later}
use Rattle.paper.specs.Rules.{keeps, settle}
use Rattle.paper.specs.Plan.{Slots, slot}
use Rattle.paper.specs.Judging.{Fault, fault, names, found, slots_of, letters_of, breaks, broken, missing, clash, mp_version, mp_over, mp_half, Stack, kind_in, how_many, misplaced, next, lacks, here, faults}
use Rattle.paper.proofs.Small.{no, both, and_intro, no_not, same_eq, same_self, Nth, nth_zero, nth_behind}
use Rattle.paper.proofs.Told.{is_eq}
use Rattle.paper.proofs.Least.{Among, here as first, there as behind, among_some, fault_at}
use Rattle.paper.proofs.Causes.{opened, children_so_far, kind_of, value_of, Element, Closed, Five, unknown_element, misplaced_element, one_too_many, unknown_attribute, attribute_twice, Six, other_edition, Seven, breaks_field, a_above_z, Eight, excluded_pair, missing_field, a_without_z, z_without_a, no_person, no_author, empty_medication}

-- ---- tests

either : (a b : Bool) → a || b ≡ true → (a ≡ true) ⊎ (b ≡ true)
either true b e = inl refl
either false b e = inr e

or_left : (a b : Bool) → a ≡ true → a || b ≡ true
or_left a b e = rw e

pub or_right : (a b : Bool) → b ≡ true → a || b ≡ true
or_right true b e = refl
or_right false b e = e

not_false : (a : Bool) → a ≡ false → not a ≡ true
not_false a e = rw e

empty_eq : (v : List ℕ) → is_empty v ≡ true → v ≡ []
empty_eq [] e = refl
empty_eq (c ∷ v) e = no (sym e)

full_ne : (v : List ℕ) → not (is_empty v) ≡ true → v ≢ []
full_ne v e q = no (sym e ∙ rw q)

ne_full : (v : List ℕ) → v ≢ [] → not (is_empty v) ≡ true
ne_full [] n = absurd (n refl)
ne_full (c ∷ v) n = refl

same_ne : (s t : List ℕ) → not (same s t) ≡ true → s ≢ t
same_ne s t e q = no (sym (rw q at e) ∙ rw (same_self t))

ne_same : (s t : List ℕ) → s ≢ t → not (same s t) ≡ true
ne_same s t n = at (same s t) refl
  where
    at : (b : Bool) → same s t ≡ b → not b ≡ true
    at true e = absurd (n (same_eq s t e))
    at false e = refl

is_self : (k j : Kind) → k ≡ j → is k j ≡ true
is_self k j e = eq-eqb (code k) (code j) (ap code e)

-- ---- members

module _ {A : Type 0} where
  in_append : {x : A} (a b : List A) → Among x (a ++ b) → Among x a ⊎ Among x b
  in_append [] b m = inr m
  in_append (y ∷ a) b first = inl first
  in_append {x} (y ∷ a) b (behind m) = at (in_append a b m)
    where
      at : Among x a ⊎ Among x b → Among x (y ∷ a) ⊎ Among x b
      at (inl n) = inl (behind n)
      at (inr n) = inr n

  in_left : {x : A} (a b : List A) → Among x a → Among x (a ++ b)
  in_left [] b none = elim none [ ]
  in_left (y ∷ a) b first = first
  in_left (y ∷ a) b (behind m) = behind (in_left a b m)

  in_right : {x : A} (a b : List A) → Among x b → Among x (a ++ b)
  in_right [] b m = m
  in_right (y ∷ a) b m = behind (in_right a b m)

  some_in : (p : A → Bool) (l : List A) → some_of p l ≡ true → (x : A) × Among x l × (p x ≡ true)
  some_in p [] e = no (sym e)
  some_in p (y ∷ l) e = at (either (p y) (some_of p l) e) (some_in p l)
    where
      at : (p y ≡ true) ⊎ (some_of p l ≡ true) → (some_of p l ≡ true → (x : A) × Among x l × (p x ≡ true)) → (x : A) × Among x (y ∷ l) × (p x ≡ true)
      at (inl q) ih = (y, first, q)
      at (inr q) ih = let (x, m, r) = ih q in (x, behind m, r)

  in_some : (p : A → Bool) {x : A} {l : List A} → Among x l → p x ≡ true → some_of p l ≡ true
  in_some p {x} first q = rw q
  in_some p {l = y ∷ l} (behind m) q = or_right (p y) (some_of p l) (in_some p m q)

-- ---- an element's tag

-- a name stands among others
elem_in : (x : List ℕ) (l : List (List ℕ)) → elem x l ≡ true → Among x l
elem_in x [] e = no (sym e)
elem_in x (y ∷ l) e = at (either (same x y) (elem x l) e) (elem_in x l)
  where
    at : (same x y ≡ true) ⊎ (elem x l ≡ true) → (elem x l ≡ true → Among x l) → Among x (y ∷ l)
    at (inl q) ih = rw (same_eq x y q) first
    at (inr q) ih = behind (ih q)

in_elem : {x : List ℕ} {l : List (List ℕ)} → Among x l → elem x l ≡ true
in_elem {x} first = rw (same_self x)
in_elem {x} {l = y ∷ l} (behind m) = or_right (same x y) (elem x l) (in_elem m)

-- a name that is not known
unknown_in : (ls ns : List (List ℕ)) → every (λ n. elem n ls) ns ≡ false → (n : List ℕ) × Among n ns × (Among n ls → ⊥)
unknown_in ls [] e = no e
unknown_in ls (n ∷ ns) e = at (elem n ls) refl e (unknown_in ls ns)
  where
    at : (b : Bool) → elem n ls ≡ b → (b && every (λ m. elem m ls) ns) ≡ false → (every (λ m. elem m ls) ns ≡ false → (m : List ℕ) × Among m ns × (Among m ls → ⊥)) → (m : List ℕ) × Among m (n ∷ ns) × (Among m ls → ⊥)
    at true q e ih = let (m, a, f) = ih e in (m, behind a, f)
    at false q e ih = (n, first, λ a. no (sym (in_elem a) ∙ q))

in_unknown : (ls : List (List ℕ)) {n : List ℕ} {ns : List (List ℕ)} → Among n ns → (Among n ls → ⊥) → every (λ m. elem m ls) ns ≡ false
in_unknown ls {n = n} {ns = []} none f = elim none [ ]
in_unknown ls {n} {ns = m ∷ ns} first f = at (elem n ls) refl
  where
    at : (b : Bool) → elem n ls ≡ b → (b && every (λ m. elem m ls) ns) ≡ false
    at true q = absurd (f (elem_in n ls q))
    at false q = refl
in_unknown ls {ns = m ∷ ns} (behind a) f = rw (in_unknown ls a f) (and_false (elem m ls))
  where
    and_false : (b : Bool) → b && false ≡ false
    and_false true = refl
    and_false false = refl

-- a name that stands twice
nth_in : (l : List (List ℕ)) (k : ℕ) (x : List ℕ) → Nth l k x → Among x l
nth_in [] k x q = absurd q
nth_in (y ∷ l) zero x q = absurd q
nth_in (y ∷ l) (suc zero) x q = rw (sym q) first
nth_in (y ∷ l) (suc (suc k)) x q = behind (nth_in l (suc k) x q)

in_nth : {x : List ℕ} {l : List (List ℕ)} → Among x l → (k : ℕ) × Nth l k x
in_nth first = (1, refl)
in_nth {x} {l = y ∷ l} (behind m) = let (k, q) = in_nth m in (suc k, nth_behind y l k x q)

abbrev Twice : List (List ℕ) → Type 0
Twice l = (j : ℕ) × (k : ℕ) × (n : List ℕ) × (j < k) × Nth l j n × Nth l k n

twice_nth : (l : List (List ℕ)) → twice l ≡ true → Twice l
twice_nth [] e = no (sym e)
twice_nth (x ∷ l) e = at (either (elem x l) (twice l) e) (twice_nth l)
  where
    at : (elem x l ≡ true) ⊎ (twice l ≡ true) → (twice l ≡ true → Twice l) → Twice (x ∷ l)
    at (inl q) ih = by (in_nth (elem_in x l q))
      where
        by : (k : ℕ) × Nth l k x → Twice (x ∷ l)
        by (zero, p) = absurd (nth_zero l x p)
        by (suc k, p) = (1, suc (suc k), x, omega arith, refl, p)
    at (inr q) ih = let (j, k, n, h, a, b) = ih q in (suc j, suc k, n, omega arith, nth_behind x l j n a, nth_behind x l k n b)

nth_twice : (l : List (List ℕ)) (j k : ℕ) (n : List ℕ) → j < k → Nth l j n → Nth l k n → twice l ≡ true
nth_twice [] j k n h a b = absurd a
nth_twice (x ∷ l) zero k n h a b = absurd a
nth_twice (x ∷ l) (suc j) zero n h a b = absurd b
nth_twice (x ∷ l) (suc zero) (suc zero) n h a b = absurd (omega arith)
nth_twice (x ∷ l) (suc zero) (suc (suc k)) n h a b = or_left (elem x l) (twice l) (in_elem {x = x} {l = l} (rw a (nth_in l (suc k) n b)))
nth_twice (x ∷ l) (suc (suc j)) (suc zero) n h a b = absurd (omega arith)
nth_twice (x ∷ l) (suc (suc j)) (suc (suc k)) n h a b = or_right (elem x l) (twice l) (nth_twice l (suc j) (suc k) n (omega arith) a b)

-- the value of a field in a tag
abbrev valued : List Attr → Field → List ℕ
valued l f = settle f (found l f.letters)

broken_some : (fs : List Field) (l : List Attr) → broken fs (slots_of fs l) ≡ some_of (λ f. breaks f (valued l f)) fs
broken_some [] l = refl
broken_some (f ∷ fs) l = rw (broken_some fs l)

missing_some : (fs : List Field) (l : List Attr) → missing fs (slots_of fs l) ≡ some_of (λ f. f.must && is_empty (valued l f)) fs
missing_some [] l = refl
missing_some (f ∷ fs) l = rw (missing_some fs l)

clash_some : (ps : List Pair) (ns : List (List ℕ)) → clash ps ns ≡ some_of (λ p. elem p.0 ns && elem p.1 ns) ps
clash_some [] ns = refl
clash_some (p ∷ ps) ns = rw (clash_some ps ns)

-- MP's own fields, by their letters
slot_v : (l : List Attr) → slot (bytes "v") (fields_of MP) (slots_of (fields_of MP) l) ≡ found l (bytes "v")
unfolding fields_of
slot_v l = refl

slot_a : (l : List Attr) → slot (bytes "a") (fields_of MP) (slots_of (fields_of MP) l) ≡ found l (bytes "a")
unfolding fields_of
slot_a l = refl

slot_z : (l : List Attr) → slot (bytes "z") (fields_of MP) (slots_of (fields_of MP) l) ≡ found l (bytes "z")
unfolding fields_of
slot_z l = refl

version_true : (k : Kind) (l : List Attr) → mp_version k (slots_of (fields_of k) l) ≡ true → (k ≡ MP) × (found l (bytes "v") ≢ edition)
version_true k l e =
    let (a, b) = both (is k MP) (not (same (slot (bytes "v") (fields_of MP) (slots_of (fields_of k) l)) edition)) e in
    let q = is_eq k MP a in
    (q, same_ne (found l (bytes "v")) edition (rw (q, slot_v l) at b))

true_version : (k : Kind) (l : List Attr) → k ≡ MP → found l (bytes "v") ≢ edition → mp_version k (slots_of (fields_of k) l) ≡ true
true_version k l q n = rw (q, slot_v l) (ne_same (found l (bytes "v")) edition n)

over_true : (k : Kind) (l : List Attr) → mp_over k (slots_of (fields_of k) l) ≡ true → (k ≡ MP) × (found l (bytes "z") ≢ []) × (number 0 (found l (bytes "z")) < number 0 (found l (bytes "a")))
over_true k l e =
    let z : List ℕ = slot (bytes "z") (fields_of MP) (slots_of (fields_of k) l) in
    let a : List ℕ = slot (bytes "a") (fields_of MP) (slots_of (fields_of k) l) in
    let (c, t) = both (is k MP && not (is_empty z)) (ltb (number 0 z) (number 0 a)) e in
    let (m, f) = both (is k MP) (not (is_empty z)) c in
    let q = is_eq k MP m in
    (q, full_ne (found l (bytes "z")) (rw (q, slot_z l) at f), ltb-true (number 0 (found l (bytes "z"))) (number 0 (found l (bytes "a"))) (rw (q, slot_z l, slot_a l) at t))

true_over : (k : Kind) (l : List Attr) → k ≡ MP → found l (bytes "z") ≢ [] → number 0 (found l (bytes "z")) < number 0 (found l (bytes "a")) → mp_over k (slots_of (fields_of k) l) ≡ true
true_over k l q n h = rw (q, slot_z l, slot_a l, ne_full (found l (bytes "z")) n) (lt-ltb (number 0 (found l (bytes "z"))) (number 0 (found l (bytes "a"))) h)

half_true : (k : Kind) (l : List Attr) → mp_half k (slots_of (fields_of k) l) ≡ true
    → (k ≡ MP) × (((found l (bytes "a") ≡ []) × (found l (bytes "z") ≢ [])) ⊎ ((found l (bytes "a") ≢ []) × (found l (bytes "z") ≡ [])))
half_true k l e =
    let vs : Slots = slots_of (fields_of k) l in
    let (m, h) = both (is k MP) ((is_empty (slot (bytes "a") (fields_of MP) vs) && not (is_empty (slot (bytes "z") (fields_of MP) vs)))
    || (not (is_empty (slot (bytes "a") (fields_of MP) vs)) && is_empty (slot (bytes "z") (fields_of MP) vs))) e in
    let q = is_eq k MP m in
    (q, at (either (is_empty a && not (is_empty z)) (not (is_empty a) && is_empty z) (rw (q, slot_a l, slot_z l) at h)))
  where
    a : List ℕ
    a = found l (bytes "a")

    z : List ℕ
    z = found l (bytes "z")

    at : ((is_empty a && not (is_empty z)) ≡ true) ⊎ ((not (is_empty a) && is_empty z) ≡ true) → ((a ≡ []) × (z ≢ [])) ⊎ ((a ≢ []) × (z ≡ []))
    at (inl x) = let (y, w) = both (is_empty a) (not (is_empty z)) x in inl (empty_eq a y, full_ne z w)
    at (inr x) = let (y, w) = both (not (is_empty a)) (is_empty z) x in inr (full_ne a y, empty_eq z w)

true_half : (k : Kind) (l : List Attr) → k ≡ MP → ((found l (bytes "a") ≡ []) × (found l (bytes "z") ≢ [])) ⊎ ((found l (bytes "a") ≢ []) × (found l (bytes "z") ≡ []))
    → mp_half k (slots_of (fields_of k) l) ≡ true
true_half k l q (inl (a, z)) = rw (q, slot_a l, slot_z l, a, ne_full (found l (bytes "z")) z)
true_half k l q (inr (a, z)) = rw (q, slot_a l, slot_z l, z, ne_full (found l (bytes "a")) a) (or_right (is_empty (found l (bytes "a")) && false) true refl)

-- ---- its place among the others

misplaced_true : (st : Stack) (k : Kind) → misplaced st k ≡ true
    → ((j : Kind) × Among j (children_so_far st) × (later k j ≡ true)) ⊎ ((1 ≤ most_of k) × (most_of k ≤ how_many k (children_so_far st)))
misplaced_true [] k e = no (sym e)
misplaced_true (F ∷ st) k e = at (either (some_of (later k) F.seen) (ltb 0 (most_of k) && leb (most_of k) (how_many k F.seen)) e)
  where
    at : (some_of (later k) F.seen ≡ true) ⊎ ((ltb 0 (most_of k) && leb (most_of k) (how_many k F.seen)) ≡ true)
        → ((j : Kind) × Among j F.seen × (later k j ≡ true)) ⊎ ((1 ≤ most_of k) × (most_of k ≤ how_many k F.seen))
    at (inl q) = inl (some_in (later k) F.seen q)
    at (inr q) = let (a, b) = both (ltb 0 (most_of k)) (leb (most_of k) (how_many k F.seen)) q in inr (ltb-true 0 (most_of k) a, leb-true (most_of k) (how_many k F.seen) b)

true_later : (st : Stack) (k j : Kind) → Among j (children_so_far st) → later k j ≡ true → misplaced st k ≡ true
true_later [] k j m e = absurd (let h = among_some m in omega arith)
true_later (F ∷ st) k j m e = or_left (some_of (later k) F.seen) (ltb 0 (most_of k) && leb (most_of k) (how_many k F.seen)) (in_some (later k) m e)

true_many : (st : Stack) (k : Kind) → 1 ≤ most_of k → most_of k ≤ how_many k (children_so_far st) → misplaced st k ≡ true
true_many [] k a b = absurd (omega arith)
true_many (F ∷ st) k a b =
    or_right (some_of (later k) F.seen) (ltb 0 (most_of k) && leb (most_of k) (how_many k F.seen))
    (and_intro (ltb 0 (most_of k)) (leb (most_of k) (how_many k F.seen)) (lt-ltb 0 (most_of k) a) (le-leb (most_of k) (how_many k F.seen) b))

-- ---- its end

abbrev Lacking : Kind → List Kind → Slots → Type 0
Lacking k seen vs = ((k ≡ MP) × ((how_many P seen ≡ 0) ⊎ (how_many A seen ≡ 0)))
    ⊎ ((k ≡ M) × (how_many W seen ≡ 0) × (slot (bytes "p") (fields_of M) vs ≡ []) × (slot (bytes "a") (fields_of M) vs ≡ []))

lacks_true : (k : Kind) (seen : List Kind) (vs : Slots) → lacks k seen vs ≡ true → Lacking k seen vs
lacks_true k seen vs e = at (either (is k MP && (eqb (how_many P seen) 0 || eqb (how_many A seen) 0)) (is k M && (eqb (how_many W seen) 0 && (is_empty p && is_empty a))) e)
  where
    p : List ℕ
    p = slot (bytes "p") (fields_of M) vs

    a : List ℕ
    a = slot (bytes "a") (fields_of M) vs

    one : (eqb (how_many P seen) 0 ≡ true) ⊎ (eqb (how_many A seen) 0 ≡ true) → (how_many P seen ≡ 0) ⊎ (how_many A seen ≡ 0)
    one (inl x) = inl (eqb-true (how_many P seen) 0 x)
    one (inr x) = inr (eqb-true (how_many A seen) 0 x)

    at : ((is k MP && (eqb (how_many P seen) 0 || eqb (how_many A seen) 0)) ≡ true) ⊎ ((is k M && (eqb (how_many W seen) 0 && (is_empty p && is_empty a))) ≡ true) → Lacking k seen vs
    at (inl x) = let (m, h) = both (is k MP) (eqb (how_many P seen) 0 || eqb (how_many A seen) 0) x in inl (is_eq k MP m, one (either (eqb (how_many P seen) 0) (eqb (how_many A seen) 0) h))
    at (inr x) =
        let (m, h) = both (is k M) (eqb (how_many W seen) 0 && (is_empty p && is_empty a)) x in
        let (w, g) = both (eqb (how_many W seen) 0) (is_empty p && is_empty a) h in
        let (y, z) = both (is_empty p) (is_empty a) g in
        inr (is_eq k M m, eqb-true (how_many W seen) 0 w, empty_eq p y, empty_eq a z)

true_lacks : (k : Kind) (seen : List Kind) (vs : Slots) → Lacking k seen vs → lacks k seen vs ≡ true
true_lacks k seen vs (inl (q, inl x)) = rw (q, eq-eqb (how_many P seen) 0 x)
true_lacks k seen vs (inl (q, inr x)) = rw (q, eq-eqb (how_many A seen) 0 x, or_right (eqb (how_many P seen) 0) true refl)
true_lacks k seen vs (inr (q, w, p, a)) = rw (q, eq-eqb (how_many W seen) 0 w, p, a)

-- ---- one tag after another

-- a fault of the tags is one of some tag, with the elements that are open before it
at_tag : (st : Stack) (ts : List Tag) (g : Fault) → Among g (faults st ts) → (us : List Tag) × (t : Tag) × (vs : List Tag) × (us ++ t ∷ vs ≡ ts) × Among g (here (opened st us) t)
at_tag st [] g m = absurd (let h = among_some m in omega arith)
at_tag st (t ∷ ts) g m = at (in_append (here st t) (faults (next st t) ts) m) (at_tag (next st t) ts g)
  where
    Some : Stack → List Tag → Type 0
    Some st ts = (us : List Tag) × (t : Tag) × (vs : List Tag) × (us ++ t ∷ vs ≡ ts) × Among g (here (opened st us) t)

    at : Among g (here st t) ⊎ Among g (faults (next st t) ts) → (Among g (faults (next st t) ts) → Some (next st t) ts) → Some st (t ∷ ts)
    at (inl a) ih = ([], t, ts, refl, a)
    at (inr a) ih = let (us, u, vs, e, b) = ih a in (t ∷ us, u, vs, ap (λ (l : List Tag). t ∷ l) e, b)

tag_at : (us : List Tag) (st : Stack) (t : Tag) (vs : List Tag) (g : Fault) → Among g (here (opened st us) t) → Among g (faults st (us ++ t ∷ vs))
tag_at [] st t vs g m = in_left (here st t) (faults (next st t) vs) m
tag_at (u ∷ us) st t vs g m = in_right (here st u) (faults (next st u) (us ++ t ∷ vs)) (tag_at us (next st u) t vs g m)

-- ---- the tests of one tag

fault_in : (b : Bool) (n i : ℕ) (g : Fault) → Among g (fault b n i) → (b ≡ true) × (g ≡ fault_at n i)
fault_in true n i g first = (refl, refl)
fault_in true n i g (behind m) = absurd (let h = among_some m in omega arith)
fault_in false n i g m = absurd (let h = among_some m in omega arith)

in_fault : (b : Bool) (n i : ℕ) → b ≡ true → Among (fault_at n i) (fault b n i)
in_fault b n i e = rw e first

-- unknown or misplaced
abbrev strays : Stack → Kind → Bool
strays st k = is k unknown || misplaced st k

-- an attribute is unknown
abbrev nameless : Kind → List Attr → Bool
nameless k l = not (every (λ n. elem n (letters_of (fields_of k))) (names l))

-- so is one, or one stands twice
abbrev misnamed : Kind → List Attr → Bool
misnamed k l = nameless k l || twice (names l)

-- a value breaks its field
abbrev breaking : Kind → List Attr → Bool
breaking k l = broken (fields_of k) (slots_of (fields_of k) l)

-- so does one, or a is above z
abbrev misvalued : Kind → List Attr → Bool
misvalued k l = breaking k l || mp_over k (slots_of (fields_of k) l)

-- a missing field
abbrev wanting : Kind → List Attr → Bool
wanting k l = missing (fields_of k) (slots_of (fields_of k) l)

-- there is one, or an excluded pair
abbrev wanting_or_clash : Kind → List Attr → Bool
wanting_or_clash k l = wanting k l || clash (excluded k) (names l)

-- or half of a and z
abbrev incomplete : Kind → List Attr → Bool
incomplete k l = wanting_or_clash k l || mp_half k (slots_of (fields_of k) l)

-- which test of a start tag gave a fault
data Tested (st : Stack) (i : ℕ) (k : Kind) (l : List Attr) (g : Fault) : Type 0 where
  by_place : strays st k ≡ true → g ≡ fault_at 5 i → Tested st i k l g
  by_names : misnamed k l ≡ true → g ≡ fault_at 5 i → Tested st i k l g
  by_edition : mp_version k (slots_of (fields_of k) l) ≡ true → g ≡ fault_at 6 i → Tested st i k l g
  by_values : misvalued k l ≡ true → g ≡ fault_at 7 i → Tested st i k l g
  by_lack : incomplete k l ≡ true → g ≡ fault_at 8 i → Tested st i k l g

module _ (st : Stack) (i : ℕ) (k : Kind) (l : List Attr) where
  abbrev all8 : List Fault
  all8 = fault (incomplete k l) 8 i

  abbrev all7 : List Fault
  all7 = fault (misvalued k l) 7 i ++ all8

  abbrev all6 : List Fault
  all6 = fault (mp_version k (slots_of (fields_of k) l)) 6 i ++ all7

  abbrev all5 : List Fault
  all5 = fault (misnamed k l) 5 i ++ all6

  tested : (g : Fault) → Among g (fault (strays st k) 5 i ++ all5) → Tested st i k l g
  tested g m = at5 (in_append (fault (strays st k) 5 i) all5 m)
    where
      at8 : Among g (fault (misvalued k l) 7 i) ⊎ Among g all8 → Tested st i k l g
      at8 (inl m) = let (a, e) = fault_in (misvalued k l) 7 i g m in by_values a e
      at8 (inr m) = let (a, e) = fault_in (incomplete k l) 8 i g m in by_lack a e

      at7 : Among g (fault (mp_version k (slots_of (fields_of k) l)) 6 i) ⊎ Among g all7 → Tested st i k l g
      at7 (inl m) = let (a, e) = fault_in (mp_version k (slots_of (fields_of k) l)) 6 i g m in by_edition a e
      at7 (inr m) = at8 (in_append (fault (misvalued k l) 7 i) all8 m)

      at6 : Among g (fault (misnamed k l) 5 i) ⊎ Among g all6 → Tested st i k l g
      at6 (inl m) = let (a, e) = fault_in (misnamed k l) 5 i g m in by_names a e
      at6 (inr m) = at7 (in_append (fault (mp_version k (slots_of (fields_of k) l)) 6 i) all7 m)

      at5 : Among g (fault (strays st k) 5 i) ⊎ Among g all5 → Tested st i k l g
      at5 (inl m) = let (a, e) = fault_in (strays st k) 5 i g m in by_place a e
      at5 (inr m) = at6 (in_append (fault (misnamed k l) 5 i) all6 m)

  gives : (g : Fault) → Tested st i k l g → Among g (fault (strays st k) 5 i ++ all5)
  gives g (by_place a e) = rw e (in_left (fault (strays st k) 5 i) all5 (in_fault (strays st k) 5 i a))
  gives g (by_names a e) = rw e (in_right (fault (strays st k) 5 i) all5 (in_left (fault (misnamed k l) 5 i) all6 (in_fault (misnamed k l) 5 i a)))
  gives g (by_edition a e) =
      rw e (in_right (fault (strays st k) 5 i) all5 (in_right (fault (misnamed k l) 5 i) all6
      (in_left (fault (mp_version k (slots_of (fields_of k) l)) 6 i) all7 (in_fault (mp_version k (slots_of (fields_of k) l)) 6 i a))))
  gives g (by_values a e) =
      rw e (in_right (fault (strays st k) 5 i) all5 (in_right (fault (misnamed k l) 5 i) all6
      (in_right (fault (mp_version k (slots_of (fields_of k) l)) 6 i) all7 (in_left (fault (misvalued k l) 7 i) all8 (in_fault (misvalued k l) 7 i a)))))
  gives g (by_lack a e) =
      rw e (in_right (fault (strays st k) 5 i) all5 (in_right (fault (misnamed k l) 5 i) all6
      (in_right (fault (mp_version k (slots_of (fields_of k) l)) 6 i) all7 (in_right (fault (misvalued k l) 7 i) all8 (in_fault (incomplete k l) 8 i a)))))

-- ---- the causes

-- a fault of this number at this place, in words
pub data Cause (ts : List Tag) : ℕ → ℕ → Type 0 where
  of_five : {i : ℕ} → Five ts i → Cause ts 5 i
  of_six : {i : ℕ} → Six ts i → Cause ts 6 i
  of_seven : {i : ℕ} → Seven ts i → Cause ts 7 i
  of_eight : {i : ℕ} → Eight ts i → Cause ts 8 i

module _ {ts : List Tag} {i : ℕ} (E : Element ts i) where
  abbrev its : Kind
  its = kind_of E

  abbrev around : Stack
  around = opened [] E.before

  five_place : strays around its ≡ true → Five ts i
  five_place e = at (either _ _ e)
    where
      by : ((j : Kind) × Among j (children_so_far around) × (later its j ≡ true)) ⊎ ((1 ≤ most_of its) × (most_of its ≤ how_many its (children_so_far around))) → Five ts i
      by (inl (j, m, q)) = misplaced_element E j m q
      by (inr (a, b)) = one_too_many E a b

      at : (is its unknown ≡ true) ⊎ (misplaced around its ≡ true) → Five ts i
      at (inl x) = unknown_element E (is_eq its unknown x)
      at (inr x) = by (misplaced_true around its x)

  five_names : misnamed its E.attrs ≡ true → Five ts i
  five_names e = at (either _ _ e)
    where
      at : (nameless its E.attrs ≡ true) ⊎ (twice (names E.attrs) ≡ true) → Five ts i
      at (inl x) = let (n, m, f) = unknown_in (letters_of (fields_of its)) (names E.attrs) (no_not _ x) in unknown_attribute E n m f
      at (inr x) = let (j, k, n, h, a, b) = twice_nth (names E.attrs) x in attribute_twice E j k n h a b

  six_edition : mp_version its (slots_of (fields_of its) E.attrs) ≡ true → Six ts i
  six_edition e = let (q, n) = version_true its E.attrs e in other_edition E q n

  seven_values : misvalued its E.attrs ≡ true → Seven ts i
  seven_values e = at (either _ _ e)
    where
      at : (breaking its E.attrs ≡ true) ⊎ (mp_over its (slots_of (fields_of its) E.attrs) ≡ true) → Seven ts i
      at (inl x) =
          let (f, m, b) = some_in (λ f. breaks f (valued E.attrs f)) (fields_of its) (sym (broken_some (fields_of its) E.attrs) ∙ x) in
          let (a, c) = both _ _ b in
          breaks_field E f m (full_ne (valued E.attrs f) a) (no_not _ c)
      at (inr x) = let (q, n, h) = over_true its E.attrs x in a_above_z E q n h

  eight_lack : incomplete its E.attrs ≡ true → Eight ts i
  eight_lack e = at (either _ _ e)
    where
      half : ((value_of E (bytes "a") ≡ []) × (value_of E (bytes "z") ≢ [])) ⊎ ((value_of E (bytes "a") ≢ []) × (value_of E (bytes "z") ≡ [])) → its ≡ MP → Eight ts i
      half (inl (a, z)) q = z_without_a E q a z
      half (inr (a, z)) q = a_without_z E q a z

      by : (wanting its E.attrs ≡ true) ⊎ (clash (excluded its) (names E.attrs) ≡ true) → Eight ts i
      by (inl x) =
          let (f, m, b) = some_in (λ f. f.must && is_empty (valued E.attrs f)) (fields_of its) (sym (missing_some (fields_of its) E.attrs) ∙ x) in
          let (a, c) = both _ _ b in
          missing_field E f m a (empty_eq (valued E.attrs f) c)
      by (inr x) =
          let (p, m, b) = some_in (λ p. elem p.0 (names E.attrs) && elem p.1 (names E.attrs)) (excluded its) (sym (clash_some (excluded its) (names E.attrs)) ∙ x) in
          let (a, c) = both _ _ b in
          excluded_pair E p m (elem_in p.0 (names E.attrs) a) (elem_in p.1 (names E.attrs) c)

      at : (wanting_or_clash its E.attrs ≡ true) ⊎ (mp_half its (slots_of (fields_of its) E.attrs) ≡ true) → Eight ts i
      at (inl x) = by (either _ _ x)
      at (inr x) = let (q, h) = half_true its E.attrs x in half h q

  -- a test of its tag that fails is a fault of the page
  tells : (g : Fault) → Tested around i its E.attrs g → Among g (faults [] ts)
  tells g t = subst (λ (x : List Tag). Among g (faults [] x)) E.whole (tag_at E.before [] (start i E.name E.attrs) E.after g (gives around i its E.attrs g t))

-- an end tag that closes an element which lacks something
lack_told : {ts : List Tag} {i : ℕ} (C : Closed ts i) → Lacking C.frame.kind C.frame.seen C.frame.slots → Among (fault_at 8 i) (faults [] ts)
lack_told {ts} {i} C x =
    subst (λ (x : List Tag). Among (fault_at 8 i) (faults [] x)) C.whole (tag_at C.before [] end C.after (fault_at 8 i)
    (rw (C.innermost, C.place) (in_fault (lacks C.frame.kind C.frame.seen C.frame.slots) 8 C.frame.at (true_lacks C.frame.kind C.frame.seen C.frame.slots x))))

lack_cause : {ts : List Tag} {i : ℕ} (C : Closed ts i) → Lacking C.frame.kind C.frame.seen C.frame.slots → Eight ts i
lack_cause C (inl (q, inl x)) = no_person C q x
lack_cause C (inl (q, inr x)) = no_author C q x
lack_cause C (inr (q, w, p, a)) = empty_medication C q w p a

-- every fault of the tags has its cause
pub has_cause : (ts : List Tag) (g : Fault) → Among g (faults [] ts) → Cause ts g.no g.place
has_cause ts g m = let (us, t, vs, e, n) = at_tag [] ts g m in at us t vs e n
  where
    started : (i : ℕ) (E : Element ts i) → Tested (opened [] E.before) i (kind_of E) E.attrs g → Cause ts g.no g.place
    started i E (by_place a e) = rw e (of_five (five_place E a))
    started i E (by_names a e) = rw e (of_five (five_names E a))
    started i E (by_edition a e) = rw e (of_six (six_edition E a))
    started i E (by_values a e) = rw e (of_seven (seven_values E a))
    started i E (by_lack a e) = rw e (of_eight (eight_lack E a))

    ended : (us vs : List Tag) → us ++ end ∷ vs ≡ ts → (st : Stack) → opened [] us ≡ st → Among g (here st end) → Cause ts g.no g.place
    ended us vs e [] q n = absurd (let h = among_some n in omega arith)
    ended us vs e (F ∷ st) q n =
        let (a, f) = fault_in (lacks F.kind F.seen F.slots) 8 F.at g n in
        rw f (of_eight (lack_cause (record { before = us; frame = F; around = st; after = vs; whole = e; innermost = q; place = refl }) (lacks_true F.kind F.seen F.slots a)))

    at : (us : List Tag) (t : Tag) (vs : List Tag) → us ++ t ∷ vs ≡ ts → Among g (here (opened [] us) t) → Cause ts g.no g.place
    at us (start i n l) vs e m = started i (record { before = us; name = n; attrs = l; after = vs; whole = e }) (tested (opened [] us) i (kind_in (opened [] us) n) l g m)
    at us end vs e m = ended us vs e (opened [] us) refl m

-- every cause is a fault of the tags
told5 : {ts : List Tag} {i : ℕ} → Five ts i → Among (fault_at 5 i) (faults [] ts)
told5 {i = i} (unknown_element E q) = tells E (fault_at 5 i) (by_place (or_left _ _ (is_self (kind_of E) unknown q)) refl)
told5 {i = i} (misplaced_element E k m q) = tells E (fault_at 5 i) (by_place (or_right (is (kind_of E) unknown) _ (true_later (opened [] E.before) (kind_of E) k m q)) refl)
told5 {i = i} (one_too_many E a b) = tells E (fault_at 5 i) (by_place (or_right (is (kind_of E) unknown) _ (true_many (opened [] E.before) (kind_of E) a b)) refl)
told5 {i = i} (unknown_attribute E n m f) = tells E (fault_at 5 i) (by_names (or_left _ _ (not_false _ (in_unknown (letters_of (fields_of (kind_of E))) m f))) refl)
told5 {i = i} (attribute_twice E j k n h a b) = tells E (fault_at 5 i) (by_names (or_right (nameless (kind_of E) E.attrs) _ (nth_twice (names E.attrs) j k n h a b)) refl)

told6 : {ts : List Tag} {i : ℕ} → Six ts i → Among (fault_at 6 i) (faults [] ts)
told6 {i = i} (other_edition E q n) = tells E (fault_at 6 i) (by_edition (true_version (kind_of E) E.attrs q n) refl)

told7 : {ts : List Tag} {i : ℕ} → Seven ts i → Among (fault_at 7 i) (faults [] ts)
told7 {i = i} (breaks_field E f m n k) =
    let v : List ℕ = valued E.attrs f in
    let b : breaks f v ≡ true = and_intro (not (is_empty v)) (not (keeps f v)) (ne_full v n) (not_false (keeps f v) k) in
    tells E (fault_at 7 i) (by_values (or_left _ _ (broken_some (fields_of (kind_of E)) E.attrs ∙ in_some (λ f. breaks f (valued E.attrs f)) m b)) refl)
told7 {i = i} (a_above_z E q n h) = tells E (fault_at 7 i) (by_values (or_right (breaking (kind_of E) E.attrs) _ (true_over (kind_of E) E.attrs q n h)) refl)

told8 : {ts : List Tag} {i : ℕ} → Eight ts i → Among (fault_at 8 i) (faults [] ts)
told8 {i = i} (excluded_pair E p m a b) =
    let ns : List (List ℕ) = names E.attrs in
    let c : (elem p.0 ns && elem p.1 ns) ≡ true = and_intro (elem p.0 ns) (elem p.1 ns) (in_elem a) (in_elem b) in
    tells E (fault_at 8 i) (by_lack (or_left (wanting_or_clash (kind_of E) E.attrs) _ (or_right (wanting (kind_of E) E.attrs) _ (clash_some (excluded (kind_of E)) ns ∙ in_some (λ p. elem p.0 ns && elem p.1 ns) m c))) refl)
told8 {i = i} (missing_field E f m u e) =
    let v : List ℕ = valued E.attrs f in
    let c : (f.must && is_empty v) ≡ true = and_intro f.must (is_empty v) u (ap is_empty e) in
    tells E (fault_at 8 i) (by_lack (or_left (wanting_or_clash (kind_of E) E.attrs) _ (or_left (wanting (kind_of E) E.attrs) _ (missing_some (fields_of (kind_of E)) E.attrs ∙ in_some (λ f. f.must && is_empty (valued E.attrs f)) m c))) refl)
told8 {i = i} (a_without_z E q a z) = tells E (fault_at 8 i) (by_lack (or_right (wanting_or_clash (kind_of E) E.attrs) _ (true_half (kind_of E) E.attrs q (inr (a, z)))) refl)
told8 {i = i} (z_without_a E q a z) = tells E (fault_at 8 i) (by_lack (or_right (wanting_or_clash (kind_of E) E.attrs) _ (true_half (kind_of E) E.attrs q (inl (a, z)))) refl)
told8 (no_person C q x) = lack_told C (inl (q, inl x))
told8 (no_author C q x) = lack_told C (inl (q, inr x))
told8 (empty_medication C q w p a) = lack_told C (inr (q, w, p, a))

pub cause_has : {ts : List Tag} {n i : ℕ} → Cause ts n i → Among (fault_at n i) (faults [] ts)
cause_has (of_five c) = told5 c
cause_has (of_six c) = told6 c
cause_has (of_seven c) = told7 c
cause_has (of_eight c) = told8 c
