-- Spans: laws on the spans of a record: those that it was made of are found in it; on a head's numbers, filled span by span; and on parts of spans.
-- Assumes nothing.
use mathlib.Core.Path.{◌≡◌, refl, sym, ap, ◌∙◌}
use mathlib.Core.Bool.{Bool, true}
use mathlib.Core.List.{List, [], ◌∷◌, ◌++◌}
use Prim.Native.Nat.{ℕ, zero, suc, ◌+◌, ◌*◌, ◌≤◌, ◌<◌}
use native.Mathlib.Nat.{le_of_suc-le-suc, not-suc-le-zero}
use native.Mathlib.Numerals.{add-one}
use native.Mathlib.Omega.{arith}
use lib.ListN.{length, take, drop, get_or, set}
use lib.Seq.{take_all, get_or-take}
use Rattle.paper.specs.Lists.{every}
use Rattle.paper.specs.Plan.{Slots}
use Rattle.paper.specs.Layout.{Span, shown, shown_all}
use Rattle.paper.proofs.Small.{both}
use Rattle.plan.specs.declared.Span as Code
use Rattle.plan.specs.Numbers.{span_in, spans_in, spans_of, flat, head_numbers, padded, record_with, code_span}

-- an absent value's span
abbrev pub none : Span
none = record { at = 0; len = 0 }

-- ---- a list with others in the place of those that it lacks

module _ {A : Type 0} (d : A) where
  -- it has as many as it was to have
  pub padded_long : (k : ℕ) (l : List A) → length (padded k d l) ≡ k
  padded_long zero l = refl
  padded_long (suc k) [] = ap suc (padded_long k [])
  padded_long (suc k) (x ∷ l) = ap suc (padded_long k l)

  -- a list that lacks none stays
  pub padded_whole : (l : List A) → padded (length l) d l ≡ l
  padded_whole [] = refl
  padded_whole (x ∷ l) = ap (λ (r : List A). x ∷ r) (padded_whole l)

  -- what it has, it has in the same place
  pub padded_at : (k : ℕ) (l : List A) (i : ℕ) → i < k → get_or (padded k d l) i d ≡ get_or l i d
  padded_at zero l i h = absurd (not-suc-le-zero h)
  padded_at (suc k) [] zero h = refl
  padded_at (suc k) [] (suc i) h = padded_at k [] i (le_of_suc-le-suc h)
  padded_at (suc k) (x ∷ l) zero h = refl
  padded_at (suc k) (x ∷ l) (suc i) h = padded_at k l i (le_of_suc-le-suc h)

  -- the next one, and those behind it
  pub padded_drop : (k j : ℕ) (l : List A) → padded (suc k) d (drop j l) ≡ get_or l j d ∷ padded k d (drop (suc j) l)
  padded_drop k zero [] = refl
  padded_drop k zero (x ∷ l) = refl
  padded_drop k (suc j) [] = refl
  padded_drop k (suc j) (x ∷ l) = padded_drop k j l

  -- the first list of two stays, if there is room for it
  pub padded_front : (a b : List A) (k : ℕ) → length a ≤ k → take (length a) (padded k d (a ++ b)) ≡ a
  padded_front [] b k h = refl
  padded_front (x ∷ a) b zero h = absurd (not-suc-le-zero h)
  padded_front (x ∷ a) b (suc k) h = ap (λ (l : List A). x ∷ l) (padded_front a b k (le_of_suc-le-suc h))

  -- behind it stands the second
  pub padded_behind : (a b : List A) (m : ℕ) → drop (length a) (padded (length a + m) d (a ++ b)) ≡ padded m d b
  padded_behind [] b m = let e : 0 + m ≡ m = omega arith in ap (λ (n : ℕ). padded n d b) e
  padded_behind (x ∷ a) b m = let e : suc (length a) + m ≡ suc (length a + m) = omega arith in ap (λ (n : ℕ). drop (suc (length a)) (padded n d (x ∷ (a ++ b)))) e ∙ padded_behind a b m

-- ---- the numbers of spans

-- two numbers to a span
pub flat_long : (ss : List Span) → length (flat ss) ≡ 2 * length ss
flat_long [] = refl
flat_long (s ∷ ss) = omega (arith, flat_long ss)

flat_at : (ss : List Span) (j : ℕ) → get_or (flat ss) (2 * j) 0 ≡ (get_or ss j none).at
flat_at [] j = refl
flat_at (s ∷ ss) zero = refl
flat_at (s ∷ ss) (suc j) = let e : 2 * suc j ≡ suc (suc (2 * j)) = omega arith in ap (λ (n : ℕ). get_or (flat (s ∷ ss)) n 0) e ∙ flat_at ss j

flat_len : (ss : List Span) (j : ℕ) → get_or (flat ss) (suc (2 * j)) 0 ≡ (get_or ss j none).len
flat_len [] j = refl
flat_len (s ∷ ss) zero = refl
flat_len (s ∷ ss) (suc j) = let e : suc (2 * suc j) ≡ suc (suc (suc (2 * j))) = omega arith in ap (λ (n : ℕ). get_or (flat (s ∷ ss)) n 0) e ∙ flat_len ss j

-- two spans with one start and one length are the same
same_span : {s u : Span} → s.at ≡ u.at → s.len ≡ u.len → s ≡ u
same_span {s} {u} e f = ap (λ (n : ℕ). record { at = n; len = s.len }) e ∙ ap (λ (n : ℕ). record { at = u.at; len = n }) f

-- a record has 48 numbers
pub record_size : (k n : ℕ) (ss : List Span) → length (record_with k n ss) ≡ 48
unfolding record_with
record_size k n ss = ap (λ (m : ℕ). suc (suc m)) (padded_long 0 46 (flat ss))

-- a record has the spans that it was made of, and absent ones behind them
pub span_back : (k n : ℕ) (ss : List Span) (j : ℕ) → j < 19 → span_in (record_with k n ss) j ≡ get_or ss j none
unfolding record_with
span_back k n ss j h =
    let l : List ℕ = padded 46 0 (flat ss) in
    let a : 2 + 2 * j ≡ suc (suc (2 * j)) = omega arith in
    let b : 3 + 2 * j ≡ suc (suc (suc (2 * j))) = omega arith in
    let at-is : get_or (k ∷ n ∷ l) (2 + 2 * j) 0 ≡ (get_or ss j none).at = ap (λ (m : ℕ). get_or (k ∷ n ∷ l) m 0) a ∙ padded_at 0 46 (flat ss) (2 * j) (omega arith) ∙ flat_at ss j in
    let len_is : get_or (k ∷ n ∷ l) (3 + 2 * j) 0 ≡ (get_or ss j none).len = ap (λ (m : ℕ). get_or (k ∷ n ∷ l) m 0) b ∙ padded_at 0 46 (flat ss) (suc (2 * j)) (omega arith) ∙ flat_len ss j in
    same_span at-is len_is

spans_from_lem : (m j k n : ℕ) (ss : List Span) → j + m ≤ 19 → spans_in m j (record_with k n ss) ≡ padded m none (drop j ss)
unfolding spans_in
spans_from_lem zero j k n ss h = refl
spans_from_lem (suc m) j k n ss h =
    ap (λ (s : Span). s ∷ spans_in m (suc j) (record_with k n ss)) (span_back k n ss j (omega arith))
    ∙ ap (λ (l : List Span). get_or ss j none ∷ l) (spans_from_lem m (suc j) k n ss (omega arith))
    ∙ sym (padded_drop none m j ss)

-- the 19 spans of a record that was made of spans
pub spans_back : (k n : ℕ) (ss : List Span) → spans_of (record_with k n ss) ≡ padded 19 none ss
spans_back k n ss = spans_from_lem 19 0 k n ss (omega arith)

-- ---- the numbers of a head span by span

filled : (m : ℕ) (ss : List Span) (j : ℕ) → j < length ss → 2 * j + 2 ≤ m
    → set (set (padded m 0 (flat (take j ss))) (2 * j) (get_or ss j none).at) (suc (2 * j)) (get_or ss j none).len ≡ padded m 0 (flat (take (suc j) ss))
filled m [] j h k = absurd (not-suc-le-zero h)
filled zero (s ∷ ss) j h k = absurd (omega arith)
filled (suc zero) (s ∷ ss) j h k = absurd (omega arith)
filled (suc (suc m)) (s ∷ ss) zero h k = refl
filled (suc (suc m)) (s ∷ ss) (suc j) h k =
    let e : 2 * suc j ≡ suc (suc (2 * j)) = omega arith in
    let l : List ℕ = padded (suc (suc m)) 0 (flat (take (suc j) (s ∷ ss))) in
    ap (λ (n : ℕ). set (set l n (get_or ss j none).at) (suc n) (get_or ss j none).len) e ∙ ap (λ (xs : List ℕ). s.at ∷ s.len ∷ xs) (filled m ss j (le_of_suc-le-suc h) (omega arith))

-- with the first j spans
abbrev pub head_up_to : List Span → ℕ → List ℕ
head_up_to ss j = 0 ∷ 0 ∷ padded 54 0 (flat (take j ss))

-- the next span stored behind those before it
pub head_turn : (ss : List Span) (j : ℕ) {s : Code.Span} {numbers : List ℕ} → j < length ss → j < 27 → s ≡ code_span (get_or ss j none) → numbers ≡ head_up_to ss j
    → set (set numbers (2 * j + 2) s.at) (2 * j + 3) s.len ≡ head_up_to ss (j + 1)
head_turn ss j h g e f =
    let a : 2 * j + 2 ≡ suc (suc (2 * j)) = omega arith in
    let b : 2 * j + 3 ≡ suc (suc (suc (2 * j))) = omega arith in
    rw (e, f, a, b, add-one j) (ap (λ (xs : List ℕ). 0 ∷ 0 ∷ xs) (filled 54 ss j h (omega arith)))

-- all of them
pub head_done : (ss : List Span) (j : ℕ) → length ss ≡ 27 → 27 ≤ j → head_up_to ss j ≡ head_numbers ss
head_done ss j h k =
    let e : 54 ≡ length (flat ss) = omega (arith, flat_long ss) in
    ap (λ (l : List Span). 0 ∷ 0 ∷ padded 54 0 (flat l)) (take_all j ss (omega arith))
    ∙ ap (λ (xs : List ℕ). 0 ∷ 0 ∷ xs) (ap (λ (n : ℕ). padded n 0 (flat ss)) e ∙ padded_whole 0 (flat ss))

-- ---- numbers 40 and above have no say in the spans

spans_front : (m j : ℕ) (l : List ℕ) → j + m ≤ 19 → spans_in m j (take 40 l) ≡ spans_in m j l
unfolding spans_in
spans_front zero j l h = refl
spans_front (suc m) j l h =
    let at-is = get_or-take 40 l (2 + 2 * j) 0 (omega arith) in
    let len_is = get_or-take 40 l (3 + 2 * j) 0 (omega arith) in
    rw (at-is, len_is, spans_front m (suc j) l (omega arith))

-- a record's spans are those of its first 40 numbers
pub front_spans : (l : List ℕ) → spans_of (take 40 l) ≡ spans_of l
front_spans l = spans_front 19 0 l (omega arith)

-- ---- parts of spans

-- what n spans behind the first i show
pub shown_part : (t : List ℕ) (ss : List Span) (i n : ℕ) → take n (drop i (shown_all t ss)) ≡ shown_all t (take n (drop i ss))
shown_part t ss zero zero = refl
shown_part t [] zero (suc n) = refl
shown_part t (s ∷ ss) zero (suc n) = ap (λ (l : Slots). shown t s ∷ l) (shown_part t ss zero n)
shown_part t [] (suc i) zero = refl
shown_part t [] (suc i) (suc n) = refl
shown_part t (s ∷ ss) (suc i) n = shown_part t ss i n

-- what holds of all spans holds of n of them behind the first i
pub every_part : (p : Span → Bool) (ss : List Span) (i n : ℕ) → every p ss ≡ true → every p (take n (drop i ss)) ≡ true
every_part p ss zero zero e = refl
every_part p [] zero (suc n) e = refl
every_part p (s ∷ ss) zero (suc n) e = let (a, b) = both (p s) (every p ss) e in rw (a, every_part p ss zero n b)
every_part p [] (suc i) zero e = refl
every_part p [] (suc i) (suc n) e = refl
every_part p (s ∷ ss) (suc i) n e = every_part p ss i n (both (p s) (every p ss) e).1

module _ (l : List ℕ) where
  first_spans : (m n j : ℕ) → n ≤ m → take n (spans_in m j l) ≡ spans_in n j l
  unfolding spans_in
  first_spans m zero j h = refl
  first_spans zero (suc n) j h = absurd (omega arith)
  first_spans (suc m) (suc n) j h = ap (λ (r : List Span). span_in l j ∷ r) (first_spans m n (suc j) (omega arith))

  -- n spans of a record behind the first i of m
  pub spans_part : (m i n j : ℕ) → i + n ≤ m → take n (drop i (spans_in m j l)) ≡ spans_in n (j + i) l
  unfolding spans_in
  spans_part m zero n j h = let f : j + 0 ≡ j = omega arith in rw f (first_spans m n j (omega arith))
  spans_part zero (suc i) n j h = absurd (omega arith)
  spans_part (suc m) (suc i) n j h = let f : suc j + i ≡ j + suc i = omega arith in rw (← f) (spans_part m i n (suc j) (omega arith))

  -- the values of n spans of a record behind the first i of m
  pub part_shown : (t : List ℕ) (m i n j : ℕ) → i + n ≤ m → take n (drop i (shown_all t (spans_in m j l))) ≡ shown_all t (spans_in n (j + i) l)
  part_shown t m i n j h = shown_part t (spans_in m j l) i n ∙ ap (shown_all t) (spans_part m i n j h)
