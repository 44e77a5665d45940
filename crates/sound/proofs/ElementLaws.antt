-- ElementLaws: the spans of an element one after another, its excluded pairs one after another, and the element that they show.
-- Assumes nothing.
use mathlib.Core.Path.{◌≡◌, refl, sym, ap, ◌∙◌}
use mathlib.Core.Bool.{Bool, true, false, not, ◌&&◌, ◌||◌}
use mathlib.Core.List.{List, [], ◌∷◌, map}
use Prim.Native.Nat.{ℕ, zero, suc, ◌+◌, ◌*◌, ◌-◌, ◌≤◌, ◌<◌}
use native.Mathlib.Numerals.{add-one}
use native.Mathlib.Omega.{arith}
use lib.Dec.{eqb, ltb}
use lib.ListN.{length, take, drop, get_or, length-map, drop_of_length-le}
use lib.Seq.{drop-cons}
use borrow.Author.Tests.{eq-eqb, ne_eqb, ltb-true}
use Rattle.paper.specs.Lists.{if, same, is_empty, elem, twice, every}
use Rattle.paper.specs.Fields.{Kind, Field, Pair, table, fields_of, excluded}
use Rattle.paper.specs.Plan.{Slots, names_of}
use Rattle.paper.specs.Judging.{letters_of, missing, clash}
use Rattle.paper.specs.Layout.{Span, shown, shown_all}
use Rattle.paper.specs.Writing.{good_slot, good_slots, good_element}
use Rattle.paper.proofs.Small.{both, neither, no_not, below_at, same_eq}
use Rattle.fields.specs.Places.{kind_at, no_field, field_at, place_in, first_of, count_of, ones_of, others_of}
use Rattle.fields.proofs.TableLaws.{part_of_table}
use Rattle.fields.proofs.ColumnLaws.{part_within}
use Rattle.plan.specs.Numbers.{span_in, spans_in, absent, within}
use Rattle.plan.proofs.Doses.{shows}
use Rattle.sound.specs.Judged.{fine_span, fine_from, there, clash_there, clash_at, fine_element, absent_from}

-- a test beside one that fails
pub and_no : (a : Bool) → (a && false) ≡ false
and_no true = refl
and_no false = refl

-- ---- the fields in a loop

-- of n of them the one at i, and those behind it
module _ (t l : List ℕ) (first n j i : ℕ) (h : i < n) where
  abbrev here : Bool
  here = fine_span t (field_at (first + i)) (span_in l (j + i))

  pub fields_more : fine_from t (first + i) (n - i) (j + i) l ≡ (here && fine_from t (first + (i + 1)) (n - (i + 1)) (j + (i + 1)) l)
  unfolding fine_from
  fields_more =
      let e : n - i ≡ suc (n - (i + 1)) = omega arith in
      let f : suc (first + i) ≡ first + (i + 1) = omega arith in
      let g : suc (j + i) ≡ j + (i + 1) = omega arith in
      ap (λ (m : ℕ). fine_from t (first + i) m (j + i) l) e ∙ rw (f, g)

-- none is left
pub fields_done : (t l : List ℕ) (first n j i : ℕ) → n ≤ i → fine_from t (first + i) (n - i) (j + i) l ≡ true
unfolding fine_from
fields_done t l first n j i h = let e : n - i ≡ 0 = omega arith in ap (λ (m : ℕ). fine_from t (first + i) m (j + i) l) e

-- ---- absent spans in a loop

module _ (l : List ℕ) (n j i : ℕ) (h : i < n) where
  pub absent_more : absent_from (n - i) (j + i) l ≡ (eqb (get_or l (3 + 2 * (j + i)) 0) 0 && absent_from (n - (i + 1)) (j + (i + 1)) l)
  unfolding absent_from spans_in
  absent_more =
      let e : n - i ≡ suc (n - (i + 1)) = omega arith in
      let g : suc (j + i) ≡ j + (i + 1) = omega arith in
      ap (λ (m : ℕ). every absent (spans_in m (j + i) l)) e ∙ rw g

-- none is left
pub absent_done : (l : List ℕ) (n j i : ℕ) → n ≤ i → absent_from (n - i) (j + i) l ≡ true
unfolding absent_from spans_in
absent_done l n j i h = let e : n - i ≡ 0 = omega arith in ap (λ (m : ℕ). every absent (spans_in m (j + i) l)) e

-- ---- the fields together

-- the tests of one span and of those behind it, in the order of the definitions
sorted : (w g m W G M : Bool) → (w && (g && not m)) && (W && (G && not M)) ≡ (w && W) && ((g && G) && not (m || M))
sorted true true true true true M = refl
sorted true true true true false M = refl
sorted true true true false G M = refl
sorted true true false W G M = refl
sorted true false m true G M = refl
sorted true false m false G M = refl
sorted false g m W G M = refl

-- a span that is fine, by what it shows
span_shown : (t : List ℕ) (f : Field) (s : Span) → fine_span t f s ≡ (within (length t) s && (good_slot f (shown t s) && not (f.must && is_empty (shown t s))))
unfolding fine_span
span_shown t f s = go (within (length t) s) refl
  where
    go : (w : Bool) → within (length t) s ≡ w
        → (w && (good_slot f (shown t s) && not (f.must && absent s))) ≡ (w && (good_slot f (shown t s) && not (f.must && is_empty (shown t s))))
    go true e = rw (shows t s e)
    go false e = refl

next_field : (fs : List Field) (first n : ℕ) → first < length fs → take (suc n) (drop first fs) ≡ get_or fs first no_field ∷ take n (drop (suc first) fs)
next_field fs first n h = rw (drop-cons fs first no_field h)

-- n fields of the table from a place on, with the values that n spans show
pub fields_are : (t l : List ℕ) (first n j : ℕ) → first + n ≤ 52
    → fine_from t first n j l ≡ (every (within (length t)) (spans_in n j l)
    && (good_slots (take n (drop first table)) (shown_all t (spans_in n j l)) && not (missing (take n (drop first table)) (shown_all t (spans_in n j l)))))
unfolding fine_from spans_in field_at fields_of
fields_are t l first zero j h = refl
fields_are t l first (suc n) j h =
    let s : Span = span_in l j in
    let f : Field = field_at first in
    let ss : List Span = spans_in n (suc j) l in
    let fs : List Field = take n (drop (suc first) table) in
    rw (span_shown t f s, fields_are t l (suc first) n (suc j) (omega arith), next_field table first n (omega arith))
    (sorted (within (length t) s) (good_slot f (shown t s)) (f.must && is_empty (shown t s)) (every (within (length t)) ss) (good_slots fs (shown_all t ss)) (missing fs (shown_all t ss)))

-- ---- excluded pairs in a loop

module _ (l : List ℕ) (k : ℕ) (ones others : List ℕ) (i : ℕ) (h : i < length ones) (g : i < length others) where
  abbrev one_here : ℕ
  one_here = get_or ones i 0

  abbrev other_here : ℕ
  other_here = get_or others i 0

  pair_more : clash_there l k (drop i ones) (drop i others) ≡ ((there l k one_here && there l k other_here) || clash_there l k (drop (i + 1) ones) (drop (i + 1) others))
  pair_more = rw (add-one i, drop-cons ones i 0 h, drop-cons others i 0 g)

-- an element's pairs, the i-th of which stands at places a and b
module _ (l : List ℕ) (k e c i a b : ℕ) (q : c ≡ length (excluded (kind_at e))) (h : i < c) (p : a ≡ get_or (ones_of (kind_at e)) i 0) (r : b ≡ get_or (others_of (kind_at e)) i 0) where
  abbrev left : ℕ → Bool
  left n = clash_there l k (drop n (ones_of (kind_at e))) (drop n (others_of (kind_at e)))

  ones_long : length (ones_of (kind_at e)) ≡ length (excluded (kind_at e))
  unfolding ones_of
  ones_long = length-map (excluded (kind_at e)) (λ (p : Pair). place_in p.0 (fields_of (kind_at e)))

  others_long : length (others_of (kind_at e)) ≡ length (excluded (kind_at e))
  unfolding others_of
  others_long = length-map (excluded (kind_at e)) (λ (p : Pair). place_in p.1 (fields_of (kind_at e)))

  pub pairs_more : left i ≡ ((there l k a && there l k b) || left (i + 1))
  pairs_more = pair_more l k (ones_of (kind_at e)) (others_of (kind_at e)) i (omega (arith, ones_long)) (omega (arith, others_long)) ∙ rw (p, r)

  -- the one is absent
  pub clash_no_one : get_or l (k + (2 * a + 1)) 0 ≡ 0 → left i ≡ left (i + 1)
  clash_no_one z = pairs_more ∙ rw (eq-eqb (get_or l (k + (2 * a + 1)) 0) 0 z)

  -- the other is absent
  pub clash_no_other : get_or l (k + (2 * b + 1)) 0 ≡ 0 → left i ≡ left (i + 1)
  clash_no_other z = pairs_more ∙ rw (eq-eqb (get_or l (k + (2 * b + 1)) 0) 0 z, and_no (there l k a))

  -- both are present
  pub clash_both : (get_or l (k + (2 * a + 1)) 0 ≡ 0 → ⊥) → (get_or l (k + (2 * b + 1)) 0 ≡ 0 → ⊥) → left i ≡ true
  clash_both y z = pairs_more ∙ rw (ne_eqb (get_or l (k + (2 * a + 1)) 0) 0 y, ne_eqb (get_or l (k + (2 * b + 1)) 0) 0 z)

-- no pair is left
pub clash_none : (l : List ℕ) (k e c i : ℕ) → c ≡ length (excluded (kind_at e)) → c ≤ i → clash_there l k (drop i (ones_of (kind_at e))) (drop i (others_of (kind_at e))) ≡ false
unfolding ones_of
clash_none l k e c i q h =
    let m = length-map (excluded (kind_at e)) (λ (p : Pair). place_in p.0 (fields_of (kind_at e))) in
    ap (λ (s : List ℕ). clash_there l k s (drop i (others_of (kind_at e)))) (drop_of_length-le (ones_of (kind_at e)) {i = i} (omega (arith, m)))

-- the places of a pair are those of fields of its element
within_test : ℕ → Bool
within_test e = every (λ (p : Pair). ltb (place_in p.0 (fields_of (kind_at e))) (count_of (kind_at e)) && ltb (place_in p.1 (fields_of (kind_at e))) (count_of (kind_at e))) (excluded (kind_at e))

pub pairs_within : (e : ℕ) → e < 10 → every (λ (p : Pair). ltb (place_in p.0 (fields_of (kind_at e))) (count_of (kind_at e)) && ltb (place_in p.1 (fields_of (kind_at e))) (count_of (kind_at e))) (excluded (kind_at e)) ≡ true
unfolding within_test kind_at fields_of count_of
pairs_within e h = below_at 10 within_test refl e h

-- what holds of each pair holds of the i-th
pair_at_lem : (f : Pair → ℕ) (m : ℕ) (ps : List Pair) (i : ℕ) → i < length ps → every (λ (p : Pair). ltb (f p) m) ps ≡ true → get_or (map f ps) i 0 < m
pair_at_lem f m [] i h e = absurd (omega arith)
pair_at_lem f m (p ∷ ps) zero h e = ltb-true (f p) m (both (ltb (f p) m) (every (λ (p : Pair). ltb (f p) m) ps) e).0
pair_at_lem f m (p ∷ ps) (suc i) h e = pair_at_lem f m ps i (omega arith) (both (ltb (f p) m) (every (λ (p : Pair). ltb (f p) m) ps) e).1

every_first : (f g : Pair → Bool) (ps : List Pair) → every (λ (p : Pair). f p && g p) ps ≡ true → (every f ps ≡ true) × (every g ps ≡ true)
every_first f g [] e = (refl, refl)
every_first f g (p ∷ ps) e =
    let (a, b) = both (f p && g p) (every (λ (p : Pair). f p && g p) ps) e in
    let (c, d) = both (f p) (g p) a in
    let (x, y) = every_first f g ps b in
    (rw (c, x), rw (d, y))

module _ (e c i : ℕ) (h : e < 10) (q : c ≡ length (excluded (kind_at e))) (g : i < c) where
  abbrev place_one : Pair → ℕ
  place_one p = place_in p.0 (fields_of (kind_at e))

  abbrev place_other : Pair → ℕ
  place_other p = place_in p.1 (fields_of (kind_at e))

  two_tests : (every (λ (p : Pair). ltb (place_one p) (count_of (kind_at e))) (excluded (kind_at e)) ≡ true) × (every (λ (p : Pair). ltb (place_other p) (count_of (kind_at e))) (excluded (kind_at e)) ≡ true)
  two_tests = every_first (λ (p : Pair). ltb (place_one p) (count_of (kind_at e))) (λ (p : Pair). ltb (place_other p) (count_of (kind_at e))) (excluded (kind_at e)) (pairs_within e h)

  pub one_within : get_or (ones_of (kind_at e)) i 0 < count_of (kind_at e)
  unfolding ones_of
  one_within = pair_at_lem place_one (count_of (kind_at e)) (excluded (kind_at e)) i (omega arith) two_tests.0

  pub other_within : get_or (others_of (kind_at e)) i 0 < count_of (kind_at e)
  unfolding others_of
  other_within = pair_at_lem place_other (count_of (kind_at e)) (excluded (kind_at e)) i (omega arith) two_tests.1

-- ---- excluded pairs together

-- letters that no field has are not those of a present one
elem_none : (n : List ℕ) (fs : List Field) (vs : Slots) → elem n (letters_of fs) ≡ false → elem n (names_of fs vs) ≡ false
elem_none n [] vs e = refl
elem_none n (f ∷ fs) [] e = refl
elem_none n (f ∷ fs) ([] ∷ vs) e = elem_none n fs vs (neither (same n f.letters) (elem n (letters_of fs)) e).1
elem_none n (f ∷ fs) ((c ∷ v) ∷ vs) e = let (a, b) = neither (same n f.letters) (elem n (letters_of fs)) e in rw (a, elem_none n fs vs b)

-- a field is present by its slot
elem_there : (n : List ℕ) (fs : List Field) (vs : Slots) → twice (letters_of fs) ≡ false → length vs ≡ length fs → elem n (names_of fs vs) ≡ not (is_empty (get_or vs (place_in n fs) []))
elem_there n [] [] t h = refl
elem_there n [] (v ∷ vs) t h = absurd (omega arith)
elem_there n (f ∷ fs) [] t h = absurd (omega arith)
elem_there n (f ∷ fs) (v ∷ vs) t h =
    let (a, b) = neither (elem f.letters (letters_of fs)) (twice (letters_of fs)) t in
    go (same n f.letters) refl v a (elem_there n fs vs b (omega arith))
  where
    go : (d : Bool) → same n f.letters ≡ d → (u : List ℕ) → elem f.letters (letters_of fs) ≡ false → elem n (names_of fs vs) ≡ not (is_empty (get_or vs (place_in n fs) []))
        → elem n (names_of (f ∷ fs) (u ∷ vs)) ≡ not (is_empty (get_or (u ∷ vs) (if d 0 (suc (place_in n fs))) []))
    go true e [] a ih = elem_none n fs vs (rw (same_eq n f.letters e) a)
    go true e (c ∷ u) a ih = rw e
    go false e [] a ih = ih
    go false e (c ∷ u) a ih = rw e ih

-- the slots are present just where the spans from number k on are
abbrev pub Presence : Slots → List ℕ → ℕ → Type 0
Presence vs l k = (a : ℕ) → a < length vs → not (is_empty (get_or vs a [])) ≡ there l k a

clash_by : (fs : List Field) (vs : Slots) (l : List ℕ) (k : ℕ) (ps : List Pair) → twice (letters_of fs) ≡ false → length vs ≡ length fs
    → every (λ (p : Pair). ltb (place_in p.0 fs) (length fs) && ltb (place_in p.1 fs) (length fs)) ps ≡ true → Presence vs l k
    → clash ps (names_of fs vs) ≡ clash_there l k (map (λ (p : Pair). place_in p.0 fs) ps) (map (λ (p : Pair). place_in p.1 fs) ps)
clash_by fs vs l k [] t h e P = refl
clash_by fs vs l k (p ∷ ps) t h e P =
    let rest : Bool = every (λ (p : Pair). ltb (place_in p.0 fs) (length fs) && ltb (place_in p.1 fs) (length fs)) ps in
    let (a, b) = both (ltb (place_in p.0 fs) (length fs) && ltb (place_in p.1 fs) (length fs)) rest e in
    let (c, d) = both (ltb (place_in p.0 fs) (length fs)) (ltb (place_in p.1 fs) (length fs)) a in
    let x = ltb-true (place_in p.0 fs) (length fs) c in
    let y = ltb-true (place_in p.1 fs) (length fs) d in
    let one : elem p.0 (names_of fs vs) ≡ there l k (place_in p.0 fs) = elem_there p.0 fs vs t h ∙ P (place_in p.0 fs) (omega arith) in
    let other : elem p.1 (names_of fs vs) ≡ there l k (place_in p.1 fs) = elem_there p.1 fs vs t h ∙ P (place_in p.1 fs) (omega arith) in
    rw (one, other, clash_by fs vs l k ps t h b P)

-- no letters stand twice
once : (e : ℕ) → e < 10 → twice (letters_of (fields_of (kind_at e))) ≡ false
unfolding kind_at fields_of
once e h = no_not (twice (letters_of (fields_of (kind_at e)))) (below_at 10 (λ (n : ℕ). not (twice (letters_of (fields_of (kind_at n))))) refl e h)

-- the excluded pairs of an element, by its slots
pub clash_is : (e : ℕ) → e < 10 → (vs : Slots) (l : List ℕ) (k : ℕ) → length vs ≡ count_of (kind_at e) → Presence vs l k
    → clash (excluded (kind_at e)) (names_of (fields_of (kind_at e)) vs) ≡ clash_at (kind_at e) l k
unfolding clash_at ones_of others_of count_of
clash_is e h vs l k q P = clash_by (fields_of (kind_at e)) vs l k (excluded (kind_at e)) (once e h) q (pairs_within e h) P

-- ---- an element

-- n spans show n values
pub shown_long : (t l : List ℕ) (n j : ℕ) → length (shown_all t (spans_in n j l)) ≡ n
unfolding spans_in
shown_long t l zero j = refl
shown_long t l (suc n) j = ap suc (shown_long t l n (suc j))

-- spans that lie within the text are present where their values are
pub shown_there : (t l : List ℕ) (n j a : ℕ) → every (within (length t)) (spans_in n j l) ≡ true → a < n
    → not (is_empty (get_or (shown_all t (spans_in n j l)) a [])) ≡ there l (2 + 2 * j) a
unfolding spans_in
shown_there t l zero j a e h = absurd (omega arith)
shown_there t l (suc n) j zero e h =
    let (x, y) = both (within (length t) (span_in l j)) (every (within (length t)) (spans_in n (suc j) l)) e in
    let q : 3 + 2 * j ≡ 2 + 2 * j + (2 * 0 + 1) = omega arith in
    ap not (shows t (span_in l j) x) ∙ ap (λ (m : ℕ). not (eqb (get_or l m 0) 0)) q
shown_there t l (suc n) j (suc a) e h =
    let (x, y) = both (within (length t) (span_in l j)) (every (within (length t)) (spans_in n (suc j) l)) e in
    let q : 2 + 2 * suc j + (2 * a + 1) ≡ 2 + 2 * j + (2 * suc a + 1) = omega arith in
    shown_there t l n (suc j) a y (omega arith) ∙ ap (λ (m : ℕ). not (eqb (get_or l m 0) 0)) q

-- the tests of an element in another order
gathered : (g m c : Bool) → (g && (not m && not c)) ≡ ((g && not m) && not c)
gathered true m c = refl
gathered false m c = refl

-- the spans of an element are fine by its fields and its pairs
pub element_is : (t l : List ℕ) (e j first n : ℕ) → e < 10 → first ≡ first_of (kind_at e) → n ≡ count_of (kind_at e)
    → fine_element t (kind_at e) (spans_in (count_of (kind_at e)) j l) ≡ (fine_from t first n j l && not (clash_at (kind_at e) l (2 + 2 * j)))
unfolding fine_element good_element
element_is t l e j first n h p q =
    let k : Kind = kind_at e in
    let ss : List Span = spans_in (count_of k) j l in
    let vs : Slots = shown_all t ss in
    let fs : List Field = fields_of k in
    let few : first_of k + count_of k ≤ 52 = part_within e h in
    let own : fine_from t first n j l ≡ (every (within (length t)) ss && (good_slots fs vs && not (missing fs vs))) =
    rw (p, q, part_of_table k) (fields_are t l (first_of k) (count_of k) j few) in
    go (every (within (length t)) ss) refl (good_slots fs vs) (missing fs vs) own
  where
    go : (w : Bool) → every (within (length t)) (spans_in (count_of (kind_at e)) j l) ≡ w → (g m : Bool) → fine_from t first n j l ≡ (w && (g && not m))
        → (w && (g && (not m && not (clash (excluded (kind_at e)) (names_of (fields_of (kind_at e)) (shown_all t (spans_in (count_of (kind_at e)) j l)))))))
        ≡ (fine_from t first n j l && not (clash_at (kind_at e) l (2 + 2 * j)))
    go true z g m own =
        let vs : Slots = shown_all t (spans_in (count_of (kind_at e)) j l) in
        let long : length vs ≡ count_of (kind_at e) = shown_long t l (count_of (kind_at e)) j in
        let c : clash (excluded (kind_at e)) (names_of (fields_of (kind_at e)) vs) ≡ clash_at (kind_at e) l (2 + 2 * j) =
        clash_is e h vs l (2 + 2 * j) long (λ a x. shown_there t l (count_of (kind_at e)) j a z (omega arith)) in
        rw (own, c) (gathered g m (clash_at (kind_at e) l (2 + 2 * j)))
    go false z g m own = rw own

module _ (t l : List ℕ) (e j first n : ℕ) (h : e < 10) (p : first ≡ first_of (kind_at e)) (q : n ≡ count_of (kind_at e)) where
  -- two of its fields exclude each other
  pub element_clash : clash_at (kind_at e) l (2 + 2 * j) ≡ true → false ≡ fine_element t (kind_at e) (spans_in (count_of (kind_at e)) j l)
  element_clash z = sym (element_is t l e j first n h p q ∙ rw z (and_no (fine_from t first n j l)))

  -- none do: by its fields
  pub element_by : clash_at (kind_at e) l (2 + 2 * j) ≡ false → (b : Bool) → b ≡ fine_from t first n j l → b ≡ fine_element t (kind_at e) (spans_in (count_of (kind_at e)) j l)
  element_by z b f = f ∙ sym (element_is t l e j first n h p q ∙ rw z (go (fine_from t first n j l)))
    where
      go : (b : Bool) → (b && true) ≡ b
      go true = refl
      go false = refl

-- ---- parts of spans

module _ (l : List ℕ) where
  -- what holds of spans holds of the first and of those behind them
  pub every_parts : (p : Span → Bool) (m n j : ℕ) → every p (spans_in (m + n) j l) ≡ (every p (spans_in m j l) && every p (spans_in n (j + m) l))
  unfolding spans_in
  every_parts p zero n j = let e : 0 + n ≡ n = omega arith in let f : j + 0 ≡ j = omega arith in rw (e, f)
  every_parts p (suc m) n j =
      let e : suc m + n ≡ suc (m + n) = omega arith in
      let f : suc j + m ≡ j + suc m = omega arith in
      ap (λ (k : ℕ). every p (spans_in k j l)) e ∙ rw (every_parts p m n (suc j), f)
      (sym (and_then (p (span_in l j)) (every p (spans_in m (suc j) l)) (every p (spans_in n (j + suc m) l))))
    where
      and_then : (a b c : Bool) → ((a && b) && c) ≡ (a && (b && c))
      and_then true b c = refl
      and_then false b c = refl

-- spans that are absent lie within any text
pub absent_within : (n : ℕ) (ss : List Span) → every absent ss ≡ true → every (within n) ss ≡ true
absent_within n [] e = refl
absent_within n (s ∷ ss) e = let (a, b) = both (absent s) (every absent ss) e in rw (a, absent_within n ss b)
