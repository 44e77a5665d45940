-- CutLaws: the cut on numbers, one row at a time; and that it is the cut of document 01, by the sizes of the rows.
-- Assumes nothing.
use mathlib.Core.Path.{◌≡◌, refl, ap, sym, ◌∙◌, subst}
use mathlib.Core.Bool.{Bool, true, false}
use mathlib.Core.Option.{Option, none, some}
use mathlib.Core.List.{List, [], ◌∷◌, ◌++◌, map}
use Prim.Native.Nat.{ℕ, zero, suc, ◌+◌, ◌*◌, ◌-◌, ◌/◌, ◌%◌, ◌≤◌, ◌<◌}
use native.Mathlib.Numerals.{add-one}
use native.Mathlib.Omega.{arith}
use lib.Dec.{eqb, leb}
use lib.ListN.{length, take, drop, get_or, set, replicate, length-append, length-set, drop_of_length-le}
use lib.Seq.{drop-cons, get_or-take, length-take-le, take-suc-set}
use borrow.Author.Tests.{eq-eqb, ne_eqb, le-leb, lt-leb, leb-true, leb-false}
use Rattle.std.specs.Prelude.{Ok, Err}
use Rattle.paper.specs.Lists.{if, concat}
use Rattle.paper.specs.Plan.{Head, Row, Plan}
use Rattle.paper.specs.Fields.{S}
use Rattle.paper.specs.Writing.{written, too_long, heading, pages, opening, body_text, row_slots}
use Rattle.paper.proofs.AnyCut as C
use Rattle.paper.proofs.BySize.{row_size, base, greedy, lay_sized}
use Rattle.writer.specs.Spelling.{row_text}
use Rattle.writer.specs.Cutting.{row_adds, measure_of, size_in, heading_in, opens, Cutting, ends, stuck, after, cut_from, cut_of, Tells}
use Rattle.writer.specs.declared.cut.PageEnds.{PageEnds}

-- ---- full pages in front of those that follow

abbrev pub behind : List ℕ → Cutting → Cutting
behind [] x = x
behind (e ∷ es) x = after e (behind es x)

behind_one : (es : List ℕ) (e : ℕ) (x : Cutting) → behind (es ++ e ∷ []) x ≡ behind es (after e x)
behind_one [] e x = refl
behind_one (f ∷ es) e x = ap (after f) (behind_one es e x)

behind_ends : (es fs : List ℕ) → behind es (ends fs) ≡ ends (es ++ fs)
behind_ends [] fs = refl
behind_ends (e ∷ es) fs = ap (after e) (behind_ends es fs)

behind_stuck : (es : List ℕ) (r : ℕ) → behind es (stuck r) ≡ stuck r
behind_stuck [] r = refl
behind_stuck (e ∷ es) r = ap (after e) (behind_stuck es r)

-- ---- one row

module _ (b k i used m : ℕ) (ms : List ℕ) where
  -- the row fits on the page
  row_kept : used + size_in m ≤ 1400 → cut_from b k i used (m ∷ ms) ≡ cut_from b k (suc i) (used + size_in m) ms
  unfolding cut_from
  row_kept h = rw (le-leb (used + size_in m) 1400 h)

  -- it opens the next page
  row_turned : 1400 < used + size_in m → (k ≡ 0 → ⊥) → opens b m + size_in m ≤ 1400
      → cut_from b k i used (m ∷ ms) ≡ after i (cut_from b (k - 1) (suc i) (opens b m + size_in m) ms)
  unfolding cut_from
  row_turned h z f = rw (lt-leb (used + size_in m) 1400 h, ne_eqb k 0 z, le-leb (opens b m + size_in m) 1400 f)

  -- there is no next page
  row_last : 1400 < used + size_in m → k ≡ 0 → cut_from b k i used (m ∷ ms) ≡ stuck (suc i)
  unfolding cut_from
  row_last h z = rw (lt-leb (used + size_in m) 1400 h, eq-eqb k 0 z)

  -- it is too long for any page
  row_long : 1400 < used + size_in m → 1400 < opens b m + size_in m → cut_from b k i used (m ∷ ms) ≡ stuck (suc i)
  unfolding cut_from
  row_long h f = at (eqb k 0)
    where
      at : (z : Bool) → (if (leb (used + size_in m) 1400) (cut_from b k (suc i) (used + size_in m) ms)
          (if z (stuck (suc i)) (if (leb (opens b m + size_in m) 1400) (after i (cut_from b (k - 1) (suc i) (opens b m + size_in m) ms)) (stuck (suc i))))) ≡ stuck (suc i)
      at true = rw (lt-leb (used + size_in m) 1400 h)
      at false = rw (lt-leb (used + size_in m) 1400 h, lt-leb (opens b m + size_in m) 1400 f)

-- ---- the loop

-- i of n rows are placed, `full` pages are full and end at the first of es, and the next page has so many bytes
pub record Held (b : ℕ) (ms : List ℕ) (n : ℕ) (es : List ℕ) (full used i : ℕ) : Type 0 where
  pub within : i ≤ n
  pub few : full ≤ 8
  pub low : used ≤ 1407
  pub long : length es ≡ 9
  pub right : cut_of b (take n ms) ≡ behind (take full es) (cut_from b (8 - full) i used (drop i (take n ms)))

first_opened : (b : ℕ) (ms : List ℕ) (n : ℕ) → cut_of b (take n ms) ≡ cut_from b 8 0 (opens b (get_or ms 0 0)) (take n ms)
unfolding cut_from
first_opened b ms zero = refl
first_opened b [] (suc n) = refl
first_opened b (m ∷ ms) (suc n) = refl

-- no row is placed
pub held_start : (b : ℕ) (ms : List ℕ) (n used : ℕ) → used ≡ opens b (get_or ms 0 0) → used ≤ 1407 → Held b ms n (replicate 9 0) 0 used 0
held_start b ms n used e h = record { within = omega arith; few = omega arith; low = h; long = refl; right = first_opened b ms n ∙ ap (λ (u : ℕ). cut_from b 8 0 u (take n ms)) (sym e) }

module _ {b : ℕ} {ms : List ℕ} {n : ℕ} {es : List ℕ} {full used i : ℕ} (H : Held b ms n es full used i) (l : n ≤ length ms) (h : i < n) where
  abbrev m : ℕ
  m = get_or ms i 0

  rest : List ℕ
  rest = drop (i + 1) (take n ms)

  next : drop i (take n ms) ≡ m ∷ rest
  unfolding rest
  next = drop-cons (take n ms) i 0 (omega (arith, length-take-le n ms l)) ∙ rw (get_or-take n ms i 0 h, add-one i)

  -- what the row at hand makes of the cut
  by_row : (x : Cutting) → cut_from b (8 - full) i used (m ∷ rest) ≡ x → cut_of b (take n ms) ≡ behind (take full es) x
  by_row x e = H.right ∙ ap (λ (r : List ℕ). behind (take full es) (cut_from b (8 - full) i used r)) next ∙ ap (behind (take full es)) e

  -- the row fits on the page
  pub held_kept : (more : ℕ) → more ≡ used + size_in m → more ≤ 1400 → Held b ms n es full more (i + 1)
  unfolding rest
  held_kept more e f = rw e (record {
    within = omega arith;
    few = H.few;
    low = omega arith;
    long = H.long;
    right = by_row (cut_from b (8 - full) (i + 1) (used + size_in m) rest)
        (row_kept b (8 - full) i used m rest (omega arith) ∙ rw (add-one i));
  })

  -- the row opens the next page
  pub held_turned : (first : ℕ) → 1400 < used + size_in m → (full ≡ 8 → ⊥) → first ≡ opens b m + size_in m → first ≤ 1400 → Held b ms n (set es full i) (full + 1) first (i + 1)
  unfolding rest
  held_turned first f z e o =
      let few = H.few in
      let long = H.long in
      let k : 8 - full - 1 ≡ 8 - (full + 1) = omega arith in
      let shorter : take (full + 1) (set es full i) ≡ take full es ++ i ∷ [] = rw (add-one full) (take-suc-set es full i (omega arith)) in
      rw e (record {
        within = omega arith;
        few = omega arith;
        low = omega arith;
        long = length-set es full i ∙ long;
        right = by_row (after i (cut_from b (8 - (full + 1)) (i + 1) (opens b m + size_in m) rest))
            (row_turned b (8 - full) i used m rest f (omega arith) (omega arith) ∙ rw (k, add-one i))
            ∙ sym (behind_one (take full es) i (cut_from b (8 - (full + 1)) (i + 1) (opens b m + size_in m) rest))
            ∙ ap (λ (fs : List ℕ). behind fs (cut_from b (8 - (full + 1)) (i + 1) (opens b m + size_in m) rest)) (sym shorter);
      })

  stuck_here : cut_from b (8 - full) i used (m ∷ rest) ≡ stuck (suc i) → cut_of b (take n ms) ≡ stuck (suc i)
  stuck_here e = by_row (stuck (suc i)) e ∙ behind_stuck (take full es) (suc i)

  tells_stuck : n ≤ 256 → cut_of b (take n ms) ≡ stuck (suc i) → Tells (Err (i + 1)) (cut_of b (take n ms))
  tells_stuck k e = rw e (omega arith, (omega arith, omega arith))

  -- there is no next page
  pub held_last : n ≤ 256 → 1400 < used + size_in m → full ≡ 8 → Tells (Err (i + 1)) (cut_of b (take n ms))
  held_last k f z = tells_stuck k (stuck_here (row_last b (8 - full) i used m rest f (omega arith)))

  -- the row is too long for any page
  pub held_long : (first : ℕ) → n ≤ 256 → 1400 < used + size_in m → first ≡ opens b m + size_in m → 1400 < first → Tells (Err (i + 1)) (cut_of b (take n ms))
  held_long first k f e o = tells_stuck k (stuck_here (row_long b (8 - full) i used m rest f (omega arith)))

-- all rows are placed
pub held_done : {b : ℕ} {ms : List ℕ} {n : ℕ} {es : List ℕ} {full used i : ℕ} (r : PageEnds) → Held b ms n es full used i → n ≤ length ms → n ≤ i
    → r.pages ≡ full + 1 → r.ends ≡ set es full n → Tells (Ok r) (cut_of b (take n ms))
unfolding cut_from
held_done {b} {ms} {n} {es} {full} {used} {i} r H l d c f =
    let few = H.few in
    let long = H.long in
    let same_end : i ≡ n = omega (arith, H.within) in
    let gone : drop i (take n ms) ≡ [] = drop_of_length-le (take n ms) {i = i} (omega (arith, length-take-le n ms l)) in
    let whole : cut_of b (take n ms) ≡ ends (take full es ++ n ∷ []) =
    H.right ∙ ap (λ (x : List ℕ). behind (take full es) (cut_from b (8 - full) i used x)) gone ∙ behind_ends (take full es) (i ∷ []) ∙ ap (λ (k : ℕ). ends (take full es ++ k ∷ [])) same_end in
    let count : length (take full es ++ n ∷ []) ≡ full + 1 = length-append (take full es) (n ∷ []) ∙ ap (λ (k : ℕ). k + 1) (length-take-le full es (omega arith)) in
    let told : take (length (take full es ++ n ∷ [])) r.ends ≡ take full es ++ n ∷ [] = rw (count, f, add-one full) (take-suc-set es full n (omega arith)) in
    rw whole (omega arith, (omega arith, told))

-- ---- rows and their numbers

-- what a row adds is its size
adds_size : (r : Row) → row_adds r ≡ row_size r
unfolding row_size row_text
adds_size r = at (heading r)
  where
    at : (c : Bool) → length (if c (opening S r.slots []) (body_text r.ws r.kind (row_slots r) [])) + if c 4 0 ≡ if c (length (opening S r.slots []) + 4) (length (body_text r.ws r.kind (row_slots r) []))
    at true = refl
    at false = omega arith

size_back : (r : Row) → size_in (measure_of r) ≡ row_size r
size_back r = at (heading r) ∙ adds_size r
  where
    at : (c : Bool) → (2 * row_adds r + if c 1 0) / 2 ≡ row_adds r
    at true = omega arith
    at false = omega arith

heading_back : (r : Row) → heading_in (measure_of r) ≡ heading r
heading_back r = at (heading r)
  where
    at : (c : Bool) → eqb ((2 * row_adds r + if c 1 0) % 2) 1 ≡ c
    at true = eq-eqb ((2 * row_adds r + 1) % 2) 1 (omega arith)
    at false = ne_eqb ((2 * row_adds r + 0) % 2) 1 (λ e. omega arith)

module _ (h : Head) where
  abbrev start : Row → ℕ
  start r = C.start row_size heading (base h) 1400 r

  start_is : (r : Row) → opens (base h) (measure_of r) + size_in (measure_of r) ≡ start r
  start_is r = rw (size_back r, heading_back r) (at (heading r))
    where
      at : (c : Bool) → base h + (if c 0 7) + row_size r ≡ base h + (elim c [ true ↦ 0 | false ↦ 7 ]) + row_size r
      at true = refl
      at false = refl

  -- ---- the cut on numbers is the cut by sizes

  abbrev Split : Type 0
  Split = C.Split row_size heading (base h) 1400

  abbrev go : ℕ → List Row → Option Split
  go u l = C.go row_size heading (base h) 1400 u l

  abbrev place : ℕ → ℕ → List Row → ℕ
  place k u l = C.place row_size heading (base h) 1400 k u l

-- how many rows are placed where each page ends, i of them before the first
abbrev pub offsets : ℕ → List (List Row) → List ℕ
offsets i [] = []
offsets i (q ∷ qs) = (i + length q) ∷ offsets (i + length q) qs

module _ (h : Head) where
  -- the page at hand is filled up and at most k pages follow; or a row has no place
  abbrev Related : ℕ → ℕ → ℕ → List Row → Cutting → Option (Split h) → Type 0
  Related k i u l (ends es) none = ⊥
  Related k i u l (ends es) (some s) = (length s.back ≤ k) × (es ≡ offsets i (s.front ∷ s.back))
  Related k i u l (stuck p) none = p ≡ suc (i + place h k u l)
  Related k i u l (stuck p) (some s) = (k < length s.back) × (p ≡ suc (i + place h k u l))

  related_add : (k i u : ℕ) (r : Row) (l : List Row) (x : Cutting) (o : Option (Split h)) → place h k u (r ∷ l) ≡ suc (place h k (u + row_size r) l)
      → Related k (suc i) (u + row_size r) l x o → Related k i u (r ∷ l) x (C.add row_size heading (base h) 1400 r o)
  related_add k i u r l (ends es) none e f = f
  related_add k i u r l (ends es) (some s) e f =
      let n : suc i + length s.front ≡ i + suc (length s.front) = omega arith in
      (f.0, f.1 ∙ ap (λ (j : ℕ). j ∷ offsets j s.back) n)
  related_add k i u r l (stuck p) none e f = omega arith
  related_add k i u r l (stuck p) (some s) e f = (f.0, omega arith)

  related_turn : (k i u : ℕ) (r : Row) (l : List Row) (x : Cutting) (o : Option (Split h)) → place h (suc k) u (r ∷ l) ≡ suc (place h k (start h r) l)
      → Related k (suc i) (start h r) l x o → Related (suc k) i u (r ∷ l) (after i x) (C.turn_page row_size heading (base h) 1400 r o)
  related_turn k i u r l (ends es) none e f = f
  related_turn k i u r l (ends es) (some s) e f =
      let n : suc i + length s.front ≡ i + 0 + suc (length s.front) = omega arith in
      let z : i ≡ i + 0 = omega arith in
      (omega (arith, f.0), ap (λ (a : List ℕ). i ∷ a) f.1 ∙ ap (λ (j : ℕ). i ∷ (j ∷ offsets j s.back)) n ∙ ap (λ (j : ℕ). j ∷ offsets (i + 0) ((r ∷ s.front) ∷ s.back)) z)
  related_turn k i u r l (stuck p) none e f = omega arith
  related_turn k i u r l (stuck p) (some s) e f = (omega (arith, f.0), omega arith)

  related_over : (i u : ℕ) (r : Row) (l : List Row) (o : Option (Split h)) → place h 0 u (r ∷ l) ≡ 0 → Related 0 i u (r ∷ l) (stuck (suc i)) (C.turn_page row_size heading (base h) 1400 r o)
  related_over i u r l none e = omega arith
  related_over i u r l (some s) e = (omega arith, omega arith)

  -- the first row, in the words of its size
  module _ (k i u : ℕ) (r : Row) (l : List Row) where
    abbrev num : ℕ
    num = measure_of r

    more : u + size_in num ≡ u + row_size r
    more = ap (λ (n : ℕ). u + n) (size_back r)

    cut_kept : u + row_size r ≤ 1400 → cut_from (base h) k i u (map measure_of (r ∷ l)) ≡ cut_from (base h) k (suc i) (u + row_size r) (map measure_of l)
    cut_kept e = row_kept (base h) k i u num (map measure_of l) (omega (arith, more)) ∙ rw more

    cut_turned : 1400 < u + row_size r → start h r ≤ 1400
        → cut_from (base h) (suc k) i u (map measure_of (r ∷ l)) ≡ after i (cut_from (base h) k (suc i) (start h r) (map measure_of l))
    cut_turned e f =
        let z : suc k - 1 ≡ k = omega arith in
        row_turned (base h) (suc k) i u num (map measure_of l) (omega (arith, more)) (λ q. omega arith) (omega (arith, start_is h r)) ∙ rw (start_is h r, z)

    cut_last : 1400 < u + row_size r → k ≡ 0 → cut_from (base h) k i u (map measure_of (r ∷ l)) ≡ stuck (suc i)
    cut_last e z = row_last (base h) k i u num (map measure_of l) (omega (arith, more)) z

    cut_long : 1400 < u + row_size r → 1400 < start h r → cut_from (base h) k i u (map measure_of (r ∷ l)) ≡ stuck (suc i)
    cut_long e f = row_long (base h) k i u num (map measure_of l) (omega (arith, more)) (omega (arith, start_is h r))

  cut_none : (k i u : ℕ) → cut_from (base h) k i u [] ≡ ends (i ∷ [])
  unfolding cut_from
  cut_none k i u = refl

  related : (l : List Row) (k i u : ℕ) → Related k i u l (cut_from (base h) k i u (map measure_of l)) (go h u l)
  related [] k i u = let e : i ≡ i + 0 = omega arith in rw (cut_none k i u) (omega arith, ap (λ (j : ℕ). j ∷ []) e)
  related (r ∷ l) k i u = at k (leb (u + row_size r) 1400) refl (leb (start h r) 1400) refl (λ j v. related l j (suc i) v)
    where
      at : (k : ℕ) (t : Bool) → leb (u + row_size r) 1400 ≡ t → (t' : Bool) → leb (start h r) 1400 ≡ t'
          → ((j v : ℕ) → Related j (suc i) v l (cut_from (base h) j (suc i) v (map measure_of l)) (go h v l))
          → Related k i u (r ∷ l) (cut_from (base h) k i u (map measure_of (r ∷ l))) (go h u (r ∷ l))
      at k true e t' e' ih =
          rw (cut_kept k i u r l (leb-true (u + row_size r) 1400 e), e, C.go)
          (related_add k i u r l (cut_from (base h) k (suc i) (u + row_size r) (map measure_of l)) (go h (u + row_size r) l) (rw (e, C.place)) (ih k (u + row_size r)))
      at zero false e true e' ih =
          rw (cut_last zero i u r l (leb-false (u + row_size r) 1400 e) refl, e, C.go, e') (related_over i u r l (go h (start h r) l) (rw (e, C.place)))
      at zero false e false e' ih =
          let z : place h 0 u (r ∷ l) ≡ 0 = rw (e, C.place) in
          rw (cut_last zero i u r l (leb-false (u + row_size r) 1400 e) refl, e, C.go, e') (omega (arith, z))
      at (suc k) false e true e' ih =
          rw (cut_turned k i u r l (leb-false (u + row_size r) 1400 e) (leb-true (start h r) 1400 e'), e, C.go, e')
          (related_turn k i u r l (cut_from (base h) k (suc i) (start h r) (map measure_of l)) (go h (start h r) l) (rw (e, C.place, e')) (ih k (start h r)))
      at (suc k) false e false e' ih =
          let z : place h (suc k) u (r ∷ l) ≡ 0 = rw (e, C.place, e') in
          rw (cut_long (suc k) i u r l (leb-false (u + row_size r) 1400 e) (leb-false (start h r) 1400 e'), e, C.go, e') (omega (arith, z))

  -- ---- the whole cut

  -- what the cut on numbers says of a plan: the pages that the writer by sizes writes, or the place that it tells
  abbrev pub CutAs : List Row → Cutting → Type 0
  CutAs l (ends es) = (qs : List (List Row)) × (lay_sized (record { head = h; rows = l }) (greedy (record { head = h; rows = l })) ≡ written (pages h (length qs) 1 qs))
      × (es ≡ offsets 0 qs) × (concat qs ≡ l) × (length qs ≤ 9)
  CutAs l (stuck p) = lay_sized (record { head = h; rows = l }) (greedy (record { head = h; rows = l })) ≡ too_long p

  abbrev plan : List Row → Plan
  plan l = record { head = h; rows = l }

  -- the pages when the first row opens the first
  abbrev opened : Row → Option (Split h) → Option (List (List Row))
  opened r o = C.backs row_size heading (base h) 1400 (C.turn_page row_size heading (base h) 1400 r o)

  cut_first : (r : Row) (l : List Row) (x : Cutting) (o : Option (Split h)) → lay_sized (plan (r ∷ l)) (greedy (plan (r ∷ l))) ≡ lay_sized (plan (r ∷ l)) (opened r o)
      → place h 9 1401 (r ∷ l) ≡ suc (place h 8 (start h r) l) → C.Whole row_size heading (base h) 1400 (r ∷ l) (opened r o)
      → Related 8 1 (start h r) l x o → CutAs (r ∷ l) x
  cut_first r l (ends es) none e q w g = absurd g
  cut_first r l (ends es) (some s) e q w g =
      let n : 1 + length s.front ≡ 0 + suc (length s.front) = omega arith in
      ((r ∷ s.front) ∷ s.back, e ∙ rw (le-leb (suc (length s.back)) 9 (omega (arith, g.0))), g.1 ∙ ap (λ (j : ℕ). j ∷ offsets j s.back) n, w.0, omega (arith, g.0))
  cut_first r l (stuck p) none e q w g = e ∙ ap too_long (omega (arith, q, g))
  cut_first r l (stuck p) (some s) e q w g = e ∙ rw (lt-leb (suc (length s.back)) 9 (omega (arith, g.0))) (ap too_long (omega (arith, q, g.1)))

  pub cut_as : (l : List Row) → CutAs l (cut_of (base h) (map measure_of l))
  cut_as [] = ([] ∷ [], refl, refl, refl, omega arith)
  cut_as (r ∷ l) = at (leb (start h r) 1400) refl
    where
      full : leb (1401 + row_size r) 1400 ≡ false
      full = lt-leb (1401 + row_size r) 1400 (omega arith)

      u : ℕ
      u = opens (base h) (measure_of r)

      fits_as : u + row_size r ≡ start h r
      fits_as = ap (λ (n : ℕ). u + n) (sym (size_back r)) ∙ start_is h r

      at : (t : Bool) → leb (start h r) 1400 ≡ t → CutAs (r ∷ l) (cut_of (base h) (map measure_of (r ∷ l)))
      at true e =
          let first : cut_of (base h) (map measure_of (r ∷ l)) ≡ cut_from (base h) 8 1 (start h r) (map measure_of l) =
          cut_kept 8 0 u r l (omega (arith, fits_as, leb-true (start h r) 1400 e)) ∙ ap (λ (v : ℕ). cut_from (base h) 8 1 v (map measure_of l)) fits_as in
          let whole = C.greedy_whole row_size heading (base h) 1400 (r ∷ l) in
          subst (CutAs (r ∷ l)) (sym first) (cut_first r l (cut_from (base h) 8 1 (start h r) (map measure_of l)) (go h (start h r) l) (rw (full, C.go, e)) (rw (full, C.place, e)) (rw (full, C.go, e) at whole) (related l 8 1 (start h r)))
      at false e =
          let f = leb-false (start h r) 1400 e in
          let last : cut_of (base h) (map measure_of (r ∷ l)) ≡ stuck 1 = cut_long 8 0 u r l (omega (arith, fits_as)) f in
          let z : place h 9 1401 (r ∷ l) ≡ 0 = rw (full, C.place, e) in
          subst (CutAs (r ∷ l)) (sym last) (rw (full, C.go, e) (ap (λ (j : ℕ). too_long (suc j)) z))
