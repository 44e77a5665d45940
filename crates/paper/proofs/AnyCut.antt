-- Rows are cut into pages; the greedy cut is best. Over any type of rows, any sizes and any limit.
use mathlib.Core.Path.{◌≡◌, refl, ap, ◌∙◌}
use mathlib.Core.Logic.{◌↔◌}
use mathlib.Core.Bool.{Bool, true, false}
use mathlib.Core.Option.{Option, none, some}
use mathlib.Core.List.{List, [], ◌∷◌, ◌++◌}
use Prim.Native.Nat.{ℕ, zero, suc, ◌+◌, ◌≤◌, ◌<◌}
use native.Mathlib.Omega.{arith}
use lib.Dec.{leb}
use lib.ListN.{length, take}
use lib.Seq.{length-take-le, take-take}
use borrow.Author.Tests.{leb-true, leb-false, le-leb}
use Rattle.paper.specs.Lists.{concat}

module _ {R : Type 0} (w : R → ℕ) (heading : R → Bool) (base limit : ℕ) where
  -- ---- what a cut is

  abbrev pub extra : R → ℕ
  extra r = elim (heading r) [ true ↦ 0 | false ↦ 7 ]

  -- what a page costs whose first row is r, with r alone
  abbrev pub start : R → ℕ
  start r = base + extra r + w r

  abbrev pub total : List R → ℕ
  total [] = 0
  total (r ∷ p) = w r + total p

  -- a page: not empty, and it fits
  abbrev pub Page : List R → Type 0
  Page [] = ⊥
  Page (r ∷ p) = start r + total p ≤ limit

  abbrev pub Pages : List (List R) → Type 0
  Pages [] = Unit {0}
  Pages (p ∷ ps) = Page p × Pages ps

  pub record Cut (l : List R) (k : ℕ) : Type 0 where
    pub pages : List (List R)
    pub whole : concat pages ≡ l
    pub fit : Pages pages
    pub count : length pages ≡ k

  -- each row is at least 7 high
  abbrev pub Big : List R → Type 0
  Big [] = Unit {0}
  Big (r ∷ l) = (7 ≤ w r) × Big l

  -- ---- greedy: what goes on the page that is u full, and the pages after it

  pub record Split : Type 0 where
    pub front : List R
    pub back : List (List R)

  abbrev pub add : R → Option Split → Option Split
  add r none = none
  add r (some s) = some (record { front = r ∷ s.front; back = s.back })

  abbrev pub turn_page : R → Option Split → Option Split
  turn_page r none = none
  turn_page r (some s) = some (record { front = []; back = (r ∷ s.front) ∷ s.back })

  abbrev pub go : ℕ → List R → Option Split
  go u [] = some (record { front = []; back = [] })
  go u (r ∷ l) = elim (leb (u + w r) limit) [
    | true ↦ add r (go (u + w r) l)
    | false ↦ elim (leb (start r) limit) [ true ↦ turn_page r (go (start r) l) | false ↦ none ]
  ]

  abbrev pub backs : Option Split → Option (List (List R))
  backs none = none
  backs (some s) = some s.back

  -- no row fits a page that is (suc limit) full
  abbrev pub greedy : List R → Option (List (List R))
  greedy l = backs (go (suc limit) l)

  -- ---- any way to go on from a page that is u full, with at most k pages more

  data Fit : ℕ → List R → ℕ → Type 0 where
    end : {u k : ℕ} → Fit u [] k
    keep : {u k : ℕ} {r : R} {l : List R} → u + w r ≤ limit → Fit (u + w r) l k → Fit u (r ∷ l) k
    turn : {u k : ℕ} {r : R} {l : List R} → start r ≤ limit → Fit (start r) l k → Fit u (r ∷ l) (suc k)

  extra_le : (r : R) → extra r ≤ 7
  extra_le r = elim (heading r) as (λ b. elim b [ true ↦ 0 | false ↦ 7 ] ≤ 7) [ true ↦ omega arith | false ↦ omega arith ]

  mono : {u k : ℕ} {l : List R} (v : ℕ) → v ≤ u → Fit u l k → Fit v l k
  mono v h end = end
  mono v h (keep {r = r} a f) = keep {u = v} {r = r} (omega arith) (mono (v + w r) (omega arith) f)
  mono v h (turn {r = r} a f) = turn {r = r} a f

  more : {u k : ℕ} {l : List R} → Fit u l k → Fit u l (suc k)
  more end = end
  more (keep {r = r} a f) = keep {r = r} a (more f)
  more (turn {r = r} a f) = turn {r = r} a (more f)

  -- a page that begins with r may as well begin one row later
  later : {u k : ℕ} {l : List R} (r : R) (v : ℕ) → 7 ≤ w r → start r ≤ u → Fit u l k → Fit v l (suc k)
  later r v b h end = end
  later r v b h (keep {r = q} a f) = turn {r = q} (omega (arith, extra_le q)) (mono (start q) (omega (arith, extra_le q)) f)
  later r v b h (turn {r = q} a f) = turn {r = q} a (more f)

  abbrev Within : ℕ → Option Split → Type 0
  Within k none = ⊥
  Within k (some s) = length s.back ≤ k

  within_add : (r : R) (k : ℕ) (o : Option Split) → Within k o → Within k (add r o)
  within_add r k none h = h
  within_add r k (some s) h = h

  within_turn : (r : R) (k : ℕ) (o : Option Split) → Within k o → Within (suc k) (turn_page r o)
  within_turn r k none h = h
  within_turn r k (some s) h = omega arith

  best : (l : List R) → Big l → (u k : ℕ) → Fit u l k → Within k (go u l)
  best [] b u k f = omega arith
  best (r ∷ l) b u k f = at (leb (u + w r) limit) refl f (λ v m. best l b.1 v m)
    where
      at : (t : Bool) → leb (u + w r) limit ≡ t → {m : ℕ} → Fit u (r ∷ l) m → ((v n : ℕ) → Fit v l n → Within n (go v l)) → Within m (go u (r ∷ l))
      at true e {m} (keep a f) ih = rw (e, go) (within_add r m (go (u + w r) l) (ih (u + w r) m f))
      at true e (turn {k = n} a f) ih = rw (e, go) (within_add r (suc n) (go (u + w r) l) (ih (u + w r) (suc n) (later r (u + w r) b.0 (omega arith) f)))
      at false e (keep a f) ih = absurd (omega (arith, leb-false (u + w r) limit e))
      at false e (turn {k = n} a f) ih = rw (e, go, le-leb (start r) limit a) (within_turn r n (go (start r) l) (ih (start r) n f))

  -- ---- a cut is a way to go on from a full page

  fill : {k : ℕ} (p l : List R) (u : ℕ) → u + total p ≤ limit → ((v : ℕ) → Fit v l k) → Fit u (p ++ l) k
  fill [] l u h f = f u
  fill (r ∷ p) l u h f = keep {u = u} {r = r} (omega arith) (fill p l (u + w r) (omega arith) f)

  cut_fit : (ps : List (List R)) → Pages ps → (u : ℕ) → Fit u (concat ps) (length ps)
  cut_fit [] h u = end
  cut_fit ([] ∷ ps) h u = absurd h.0
  cut_fit ((r ∷ p) ∷ ps) h u = turn {r = r} (omega arith) (fill p (concat ps) (start r) h.0 (λ v. cut_fit ps h.1 v))

  -- if any cut into k pages exists, greedy finds one of at most k
  abbrev pub AtMost : ℕ → Option (List (List R)) → Type 0
  AtMost k none = ⊥
  AtMost k (some ps) = length ps ≤ k

  within_back : (k : ℕ) (o : Option Split) → Within k o → AtMost k (backs o)
  within_back k none h = h
  within_back k (some s) h = h

  pub greedy_best : (l : List R) (k : ℕ) → Big l → Cut l k → AtMost k (greedy l)
  greedy_best l k b c = within_back k (go (suc limit) l) (best l b (suc limit) k (rw (c.whole, c.count) at (cut_fit c.pages c.fit (suc limit))))

  -- ---- greedy's result is a cut

  abbrev Cont : ℕ → List R → Type 0
  Cont u [] = Unit {0}
  Cont u (r ∷ p) = u + total (r ∷ p) ≤ limit

  cont_total : (u : ℕ) (p : List R) → u ≤ limit → Cont u p → u + total p ≤ limit
  cont_total u [] h c = omega arith
  cont_total u (r ∷ p) h c = c

  abbrev Sound : ℕ → List R → Option Split → Type 0
  Sound u l none = Unit {0}
  Sound u l (some s) = (s.front ++ concat s.back ≡ l) × Cont u s.front × Pages s.back

  sound_add : (u : ℕ) (r : R) (l : List R) (o : Option Split) → u + w r ≤ limit → Sound (u + w r) l o → Sound u (r ∷ l) (add r o)
  sound_add u r l none a h = tt
  sound_add u r l (some s) a h = (ap (λ (x : List R). r ∷ x) h.0, omega (arith, cont_total (u + w r) s.front a h.1), h.2)

  sound_turn : (u : ℕ) (r : R) (l : List R) (o : Option Split) → start r ≤ limit → Sound (start r) l o → Sound u (r ∷ l) (turn_page r o)
  sound_turn u r l none a h = tt
  sound_turn u r l (some s) a h = (ap (λ (x : List R). r ∷ x) h.0, tt, (cont_total (start r) s.front a h.1, h.2))

  sound : (l : List R) (u : ℕ) → Sound u l (go u l)
  sound [] u = (refl, tt, tt)
  sound (r ∷ l) u = at (leb (u + w r) limit) refl (leb (start r) limit) refl (λ v. sound l v)
    where
      at : (t : Bool) → leb (u + w r) limit ≡ t → (t' : Bool) → leb (start r) limit ≡ t' → ((v : ℕ) → Sound v l (go v l)) → Sound u (r ∷ l) (go u (r ∷ l))
      at true e t' e' ih = rw (e, go) (sound_add u r l (go (u + w r) l) (leb-true (u + w r) limit e) (ih (u + w r)))
      at false e true e' ih = rw (e, go, e') (sound_turn u r l (go (start r) l) (leb-true (start r) limit e') (ih (start r)))
      at false e false e' ih = rw (e, go, e') tt

  abbrev pub IsCut : List R → Option (List (List R)) → Type 0
  IsCut l none = Unit {0}
  IsCut l (some ps) = Cut l (length ps)

  sound_back : (l : List R) (o : Option Split) → Sound (suc limit) l o → IsCut l (backs o)
  sound_back l none h = tt
  sound_back l (some s) h = record { pages = s.back; whole = full s.front h.1 h.0; fit = h.2; count = refl }
    where
      full : (p : List R) → Cont (suc limit) p → p ++ concat s.back ≡ l → concat s.back ≡ l
      full [] c e = e
      full (r ∷ p) c e = absurd (omega arith)

  pub greedy_sound : (l : List R) → IsCut l (greedy l)
  greedy_sound l = sound_back l (go (suc limit) l) (sound l (suc limit))

  -- the same of the very pages that greedy gives
  abbrev pub Whole : List R → Option (List (List R)) → Type 0
  Whole l none = Unit {0}
  Whole l (some ps) = (concat ps ≡ l) × Pages ps

  whole_back : (l : List R) (o : Option Split) → Sound (suc limit) l o → Whole l (backs o)
  whole_back l none h = tt
  whole_back l (some s) h = (full s.front h.1 h.0, h.2)
    where
      full : (p : List R) → Cont (suc limit) p → p ++ concat s.back ≡ l → concat s.back ≡ l
      full [] c e = e
      full (r ∷ p) c e = absurd (omega arith)

  pub greedy_whole : (l : List R) → Whole l (greedy l)
  greedy_whole l = whole_back l (go (suc limit) l) (sound l (suc limit))

  -- ---- with at most k pages: how many rows a greedy run places before it fails

  abbrev pub place : ℕ → ℕ → List R → ℕ
  place k u [] = 0
  place k u (r ∷ l) = elim (leb (u + w r) limit) [
    | true ↦ suc (place k (u + w r) l)
    | false ↦ elim k [ zero ↦ 0 | suc n ↦ elim (leb (start r) limit) [ true ↦ suc (place n (start r) l) | false ↦ 0 ] ]
  ]

  -- which arm `place` takes at r, with what is known there
  data Arm (u : ℕ) (r : R) : ℕ → Type 0 where
    kept : {k : ℕ} → u + w r ≤ limit → ((l : List R) → place k u (r ∷ l) ≡ suc (place k (u + w r) l)) → Arm u r k
    turned : {n : ℕ} → limit < u + w r → start r ≤ limit → ((l : List R) → place (suc n) u (r ∷ l) ≡ suc (place n (start r) l)) → Arm u r (suc n)
    spent : limit < u + w r → ((l : List R) → place zero u (r ∷ l) ≡ 0) → Arm u r zero
    over : {k : ℕ} → limit < u + w r → limit < start r → ((l : List R) → place k u (r ∷ l) ≡ 0) → Arm u r k

  arm : (u : ℕ) (r : R) (k : ℕ) → Arm u r k
  arm u r k = at k (leb (u + w r) limit) refl (leb (start r) limit) refl
    where
      at : (k : ℕ) (t : Bool) → leb (u + w r) limit ≡ t → (t' : Bool) → leb (start r) limit ≡ t' → Arm u r k
      at k true e t' e' = kept {k = k} (leb-true (u + w r) limit e) (λ l. rw (e, place))
      at zero false e t' e' = spent (leb-false (u + w r) limit e) (λ l. rw (e, place))
      at (suc n) false e true e' = turned {n = n} (leb-false (u + w r) limit e) (leb-true (start r) limit e') (λ l. rw (e, place, e'))
      at (suc n) false e false e' = over {k = suc n} (leb-false (u + w r) limit e) (leb-false (start r) limit e') (λ l. rw (e, place, e'))

  -- A
  all_placed : (l : List R) → Big l → (u k : ℕ) → Fit u l k → place k u l ≡ length l
  all_placed [] b u k f = refl
  all_placed (r ∷ l) b u k f = at f (arm u r k) (λ v n. all_placed l b.1 v n)
    where
      at : {m : ℕ} → Fit u (r ∷ l) m → Arm u r m → ((v n : ℕ) → Fit v l n → place n v l ≡ length l) → place m u (r ∷ l) ≡ suc (length l)
      at {m} (keep a f) (kept x e) ih = e l ∙ ap suc (ih (u + w r) m f)
      at (turn {k = n} a f) (kept x e) ih = e l ∙ ap suc (ih (u + w r) (suc n) (later r (u + w r) b.0 (omega arith) f))
      at (keep a f) (turned x y e) ih = absurd (omega arith)
      at (turn {k = n} a f) (turned x y e) ih = e l ∙ ap suc (ih (start r) n f)
      at (keep a f) (spent x e) ih = absurd (omega arith)
      at (keep a f) (over x y e) ih = absurd (omega arith)
      at (turn a f) (over x y e) ih = absurd (omega arith)

  -- B
  placed_fit : (l : List R) (k u : ℕ) → Fit u (take (place k u l) l) k
  placed_fit [] k u = end
  placed_fit (r ∷ l) k u = at (arm u r k) (λ n v. placed_fit l n v)
    where
      at : {k : ℕ} → Arm u r k → ((n v : ℕ) → Fit v (take (place n v l) l) n) → Fit u (take (place k u (r ∷ l)) (r ∷ l)) k
      at {k} (kept x e) ih = rw (e l) (keep {r = r} x (ih k (u + w r)))
      at (turned {n = n} x y e) ih = rw (e l) (turn {r = r} y (ih n (start r)))
      at (spent x e) ih = rw (e l) end
      at (over x y e) ih = rw (e l) end

  -- C
  take_fit : {u k : ℕ} {l : List R} (n : ℕ) → Fit u l k → Fit u (take n l) k
  take_fit zero f = end
  take_fit (suc n) end = end
  take_fit {u = u} (suc n) (keep {r = r} a f) = keep {r = r} a (take_fit {u = u + w r} n f)
  take_fit (suc n) (turn {r = r} a f) = turn {r = r} a (take_fit {u = start r} n f)

  -- D
  place_take : (n : ℕ) (l : List R) (k u : ℕ) → place k u (take n l) ≤ place k u l
  place_take zero l k u = omega arith
  place_take (suc n) [] k u = omega arith
  place_take (suc n) (r ∷ l) k u = at (arm u r k) (λ k v. place_take n l k v)
    where
      at : {k : ℕ} → Arm u r k → ((k v : ℕ) → place k v (take n l) ≤ place k v l) → place k u (r ∷ take n l) ≤ place k u (r ∷ l)
      at {k} (kept x e) ih = rw (e l, e (take n l)) (omega (arith, ih k (u + w r)))
      at (turned {n = m} x y e) ih = rw (e l, e (take n l)) (omega (arith, ih m (start r)))
      at (spent x e) ih = rw (e l, e (take n l)) (omega arith)
      at (over x y e) ih = rw (e l, e (take n l)) (omega arith)

  -- ---- in the words of the declaration

  fit_split : {u k : ℕ} {l : List R} → Fit u l k → (s : Split) × Sound u l (some s) × (length s.back ≤ k)
  fit_split end = (record { front = []; back = [] }, (refl, tt, tt), omega arith)
  fit_split (keep {u = u} {r = r} {l = l} a f) = let s = fit_split f in
      (record { front = r ∷ s.0.front; back = s.0.back }, sound_add u r l (some s.0) a s.1, s.2)
  fit_split (turn {u = u} {r = r} {l = l} a f) = let s = fit_split f in
      (record { front = []; back = (r ∷ s.0.front) ∷ s.0.back }, sound_turn u r l (some s.0) a s.1, omega arith)

  abbrev pub Cut≤ : List R → ℕ → Type 0
  Cut≤ l k = (m : ℕ) × Cut l m × (m ≤ k)

  more_than : {u m : ℕ} {l : List R} (k : ℕ) → m ≤ k → Fit u l m → Fit u l k
  more_than k h end = end
  more_than k h (keep {r = r} a f) = keep {r = r} a (more_than k h f)
  more_than zero h (turn a f) = absurd (omega arith)
  more_than (suc k) h (turn {r = r} a f) = turn {r = r} a (more_than k (omega arith) f)

  pub big_take : (n : ℕ) (l : List R) → Big l → Big (take n l)
  big_take zero l b = tt
  big_take (suc n) [] b = tt
  big_take (suc n) (r ∷ l) b = (b.0, big_take n l b.1)

  fit_cut : (l : List R) (k : ℕ) → Fit (suc limit) l k → Cut≤ l k
  fit_cut l k f = let s = fit_split f in (length s.0.back, sound_back l (some s.0) s.1, s.2)

  cut_fit≤ : (l : List R) (k : ℕ) → Cut≤ l k → Fit (suc limit) l k
  cut_fit≤ l k c = more_than k c.2 (rw (c.1.whole, c.1.count) at (cut_fit c.1.pages c.1.fit (suc limit)))

  -- the first n rows can be cut into at most k pages exactly if a greedy run places n rows
  pub placed : (l : List R) → Big l → (k n : ℕ) → n ≤ length l → Cut≤ (take n l) k ↔ (n ≤ place k (suc limit) l)
  placed l b k n h = (there, back)
    where
      there : Cut≤ (take n l) k → n ≤ place k (suc limit) l
      there c = omega (arith, place_take n l k (suc limit), all_placed (take n l) (big_take n l b) (suc limit) k (cut_fit≤ (take n l) k c), length-take-le n l h)

      back : n ≤ place k (suc limit) l → Cut≤ (take n l) k
      back c = fit_cut (take n l) k (rw (take-take n (place k (suc limit) l) l c) at (take_fit n (placed_fit l k (suc limit))))

  -- where a greedy run over 9 pages fails is the first place up to which there is no cut into at most 9
  pub first_without_lem : (l : List R) → Big l → place 9 (suc limit) l < length l
      → ((n : ℕ) → n ≤ place 9 (suc limit) l → Cut≤ (take n l) 9) × (Cut≤ (take (suc (place 9 (suc limit) l)) l) 9 → ⊥)
  first_without_lem l b h = (λ n g. (placed l b 9 n (omega arith)).1 g, λ c. omega (arith, (placed l b 9 (suc (place 9 (suc limit) l)) h).0 c))
