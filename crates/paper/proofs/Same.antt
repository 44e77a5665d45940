-- Same: the writer fills spelled pages row by row; adding up the sizes of the rows fills the same pages and names the same place.
-- Assumes nothing.
use mathlib.Core.Path.{◌≡◌, refl, ap, sym, ◌∙◌}
use mathlib.Core.Logic.{◌↔◌}
use mathlib.Core.Bool.{Bool, true, false}
use mathlib.Core.Option.{Option, none, some}
use mathlib.Core.List.{List, [], ◌∷◌, ◌++◌, append_assoc, append-nil}
use Prim.Native.Nat.{ℕ, zero, suc, ◌+◌, ◌≤◌, ◌<◌}
use native.Mathlib.Omega.{arith}
use lib.Dec.{leb}
use lib.ListN.{length, length-append, take}
use lib.Seq.{take-length}
use borrow.Author.Tests.{leb-true, leb-false, le-leb, lt-leb}
use Rattle.paper.specs.Lists.{concat, if, every}
use Rattle.paper.specs.Plan.{Head, Row, Plan}
use Rattle.paper.specs.Writing.{Written, bad_call, unsound, too_long, written, sound, sound_head, sound_row, heading, page, pages, fits, fill, cuttable, first_without, place13, place14, lay, fresh}
use Rattle.paper.specs.Cuts.{Fits, Cut≤}
use Rattle.paper.proofs.Small.{no, both, and_false}
use Rattle.paper.proofs.AnyCut as C
use Rattle.paper.proofs.BySize.{row_size, base, greedy, lay_sized, none_cut, sized}
use Rattle.paper.proofs.Rows.{AllSound, all_sound}
use Rattle.paper.proofs.Sizes.{page_size, page_same}
use Rattle.paper.proofs.Fewest.{bigs, to_cut, head_fits}

-- ---- tests

-- what never holds is not true
never : (b : Bool) → (b ≡ true → ⊥) → b ≡ false
never true h = absurd (h refl)
never false h = refl

-- ---- the size of the page that a row is put on

total_snoc : (b : ℕ) (on : List Row) (r : Row) → C.total row_size heading b 1400 (on ++ r ∷ []) ≡ C.total row_size heading b 1400 on + row_size r
total_snoc b [] r = omega arith
total_snoc b (q ∷ on) r = omega (arith, total_snoc b on r)

module _ (h : Head) where
  abbrev size : List Row → ℕ
  size on = length (page h on 1 1)

  abbrev start : Row → ℕ
  start r = C.start row_size heading (base h) 1400 r

  size_one : (r : Row) → size (r ∷ []) ≡ start r
  size_one r = page_size h r [] 1 1 (omega arith) (omega arith) ∙ omega arith

  size_more : (q : Row) (on : List Row) (r : Row) → size (q ∷ (on ++ r ∷ [])) ≡ size (q ∷ on) + row_size r
  size_more q on r = omega (arith, page_size h q (on ++ r ∷ []) 1 1 (omega arith) (omega arith), page_size h q on 1 1 (omega arith) (omega arith), total_snoc (base h) on r)

  -- a page that is too long stays too long, whatever is put on it
  over : (q : Row) (on l : List Row) → 1400 < size (q ∷ on) → every (fits h) (fill h (q ∷ on) l) ≡ false
  over q on [] g = rw (lt-leb (size (q ∷ on)) 1400 g)
  over q on (r ∷ l) g = rw (lt-leb (size (q ∷ (on ++ r ∷ []))) 1400 (omega (arith, size_more q on r)), lt-leb (size (q ∷ on)) 1400 g)

  -- ---- filling pages and adding up sizes

  abbrev Split : Type 0
  Split = C.Split row_size heading (base h) 1400

  abbrev go : ℕ → List Row → Option Split
  go u l = C.go row_size heading (base h) 1400 u l

  -- the page that has q and on is filled up, and the others after it; with no cut some page is too long
  abbrev Filled : Row → List Row → List Row → Option Split → Type 0
  Filled q on l none = every (fits h) (fill h (q ∷ on) l) ≡ false
  Filled q on l (some s) = fill h (q ∷ on) l ≡ (q ∷ (on ++ s.front)) ∷ s.back

  filled_add : (q : Row) (on : List Row) (r : Row) (l : List Row) (o : Option Split) → fits h (q ∷ (on ++ r ∷ [])) ≡ true
      → Filled q (on ++ r ∷ []) l o → Filled q on (r ∷ l) (C.add row_size heading (base h) 1400 r o)
  filled_add q on r l none e f = rw (e, fill) f
  filled_add q on r l (some s) e f = rw (e, fill) (f ∙ rw (append_assoc on (r ∷ []) s.front))

  filled_turn : (q : Row) (on : List Row) (r : Row) (l : List Row) (o : Option Split) → fits h (q ∷ (on ++ r ∷ [])) ≡ false
      → Filled r [] l o → Filled q on (r ∷ l) (C.turn_page row_size heading (base h) 1400 r o)
  filled_turn q on r l none e f = rw (e, fill, f) (and_false (fits h (q ∷ on)))
  filled_turn q on r l (some s) e f = rw (e, fill, f, append-nil on)

  filled : (l : List Row) (q : Row) (on : List Row) (u : ℕ) → size (q ∷ on) ≡ u → Filled q on l (go u l)
  filled [] q on u e = rw (append-nil on)
  filled (r ∷ l) q on u e =
      at (leb (u + row_size r) 1400) refl (leb (start r) 1400) refl (filled l q (on ++ r ∷ []) (u + row_size r) (omega (arith, size_more q on r))) (filled l r [] (start r) (size_one r))
    where
      same_test : fits h (q ∷ (on ++ r ∷ [])) ≡ leb (u + row_size r) 1400
      same_test = let m : size (q ∷ (on ++ r ∷ [])) ≡ u + row_size r = omega (arith, size_more q on r) in ap (λ (n : ℕ). leb n 1400) m

      at : (b : Bool) → leb (u + row_size r) 1400 ≡ b → (c : Bool) → leb (start r) 1400 ≡ c
          → Filled q (on ++ r ∷ []) l (go (u + row_size r) l) → Filled r [] l (go (start r) l) → Filled q on (r ∷ l) (go u (r ∷ l))
      at true x c y f g = rw (x, C.go) (filled_add q on r l (go (u + row_size r) l) (same_test ∙ x) f)
      at false x true y f g = rw (x, C.go, y) (filled_turn q on r l (go (start r) l) (same_test ∙ x) g)
      at false x false y f g = rw (x, C.go, y) (filled_turn q on r l none (same_test ∙ x) (over r [] l (omega (arith, size_one r, leb-false (start r) 1400 y))))

  -- pages that fit by their sizes fit as spelled
  all_fit : (ps : List (List Row)) → C.Pages row_size heading (base h) 1400 ps → every (fits h) ps ≡ true
  all_fit [] g = refl
  all_fit ([] ∷ ps) g = absurd g.0
  all_fit ((r ∷ q) ∷ ps) g = rw (le-leb (size (r ∷ q)) 1400 (omega (arith, page_size h r q 1 1 (omega arith) (omega arith), g.0)), all_fit ps g.1)

  abbrev least_pages : List Row → Option (List (List Row))
  least_pages l = C.greedy row_size heading (base h) 1400 l

  -- the filled pages are those of the sizes; no rows are one page
  abbrev Fills : List Row → Option (List (List Row)) → Type 0
  Fills l none = every (fits h) (fill h [] l) ≡ false
  Fills l (some []) = fill h [] l ≡ [] ∷ []
  Fills l (some (q ∷ qs)) = fill h [] l ≡ q ∷ qs

  fills_turn : (r : Row) (l : List Row) (o : Option Split) → fits h (r ∷ []) ≡ true → Filled r [] l o
      → Fills (r ∷ l) (C.backs row_size heading (base h) 1400 (C.turn_page row_size heading (base h) 1400 r o))
  fills_turn r l none e f = rw (e, fill) f
  fills_turn r l (some s) e f = rw (e, fill) f

  fills : (l : List Row) → Fills l (least_pages l)
  fills [] = refl
  fills (r ∷ l) = at (leb (start r) 1400) refl
    where
      full : leb (1401 + row_size r) 1400 ≡ false
      full = lt-leb (1401 + row_size r) 1400 (omega arith)

      same_test : fits h (r ∷ []) ≡ leb (start r) 1400
      same_test = ap (λ (n : ℕ). leb n 1400) (size_one r)

      at : (b : Bool) → leb (start r) 1400 ≡ b → Fills (r ∷ l) (least_pages (r ∷ l))
      at true x = rw (full, C.go, x) (fills_turn r l (go (start r) l) (same_test ∙ x) (filled l r [] (start r) (size_one r)))
      at false x = rw (full, C.go, x, same_test ∙ x, fill, over r [] l (omega (arith, size_one r, leb-false (start r) 1400 x))) (and_false (fits h []))

  -- ---- at most nine pages that fit

  cuttable_all : (l : List Row) (ps : List (List Row)) → fill h [] l ≡ ps → every (fits h) ps ≡ true → cuttable h l ≡ leb (length ps) 9
  unfolding cuttable
  cuttable_all l ps e f = rw (e, f)

  cuttable_none : (l : List Row) → every (fits h) (fill h [] l) ≡ false → cuttable h l ≡ false
  unfolding cuttable
  cuttable_none l e = rw e

  one_fits : base h ≤ 1400 → every (fits h) ([] ∷ []) ≡ true
  one_fits b = rw (le-leb (size []) 1400 b)

  -- a head that is too long fits on no page
  cuttable_head : (l : List Row) → 1400 < base h → cuttable h l ≡ false
  cuttable_head [] g = cuttable_none [] (rw (lt-leb (size []) 1400 g))
  cuttable_head (r ∷ l) g =
      cuttable_none (r ∷ l) (rw (lt-leb (size (r ∷ [])) 1400 (omega (arith, size_one r)), lt-leb (size []) 1400 g))

  -- what the sizes say of at most nine pages
  abbrev AtMost : Option (List (List Row)) → Type 0
  AtMost o = C.AtMost row_size heading (base h) 1400 9 o

  few_cuttable : (l : List Row) → base h ≤ 1400 → AtMost (least_pages l) → cuttable h l ≡ true
  few_cuttable l b m = at (least_pages l) (fills l) (C.greedy_whole row_size heading (base h) 1400 l) m
    where
      at : (o : Option (List (List Row))) → Fills l o → C.Whole row_size heading (base h) 1400 l o → AtMost o → cuttable h l ≡ true
      at none f w m = absurd m
      at (some []) f w m = cuttable_all l ([] ∷ []) f (one_fits b)
      at (some (q ∷ qs)) f w m = cuttable_all l (q ∷ qs) f (all_fit (q ∷ qs) w.1) ∙ le-leb (length (q ∷ qs)) 9 m

  -- ---- the filled pages are a cut

  fill_whole : (on l : List Row) → concat (fill h on l) ≡ on ++ l
  fill_whole on [] = refl
  fill_whole on (r ∷ l) = at (fits h (on ++ r ∷ [])) (fill_whole (on ++ r ∷ []) l) (fill_whole (r ∷ []) l)
    where
      at : (b : Bool) → concat (fill h (on ++ r ∷ []) l) ≡ (on ++ r ∷ []) ++ l → concat (fill h (r ∷ []) l) ≡ r ∷ l
          → concat (if b (fill h (on ++ r ∷ []) l) (on ∷ fill h (r ∷ []) l)) ≡ on ++ r ∷ l
      at true f g = f ∙ append_assoc on (r ∷ []) l
      at false f g = ap (λ (x : List Row). on ++ x) g

  fill_one : (on l : List Row) → 1 ≤ length (fill h on l)
  fill_one on [] = omega arith
  fill_one on (r ∷ l) = at (fits h (on ++ r ∷ [])) (fill_one (on ++ r ∷ []) l)
    where
      at : (b : Bool) → 1 ≤ length (fill h (on ++ r ∷ []) l) → 1 ≤ length (if b (fill h (on ++ r ∷ []) l) (on ∷ fill h (r ∷ []) l))
      at true f = f
      at false f = omega arith

  fit_all : (z a : ℕ) (ps : List (List Row)) → z ≤ 9 → a + length ps ≤ suc z → every (fits h) ps ≡ true → Fits h z a ps
  fit_all z a [] n m e = tt
  fit_all z a (q ∷ ps) n m e =
      let (x, y) = both (fits h q) (every (fits h) ps) e in
      (omega (arith, page_same h q a z (omega arith) n, leb-true (size q) 1400 x), fit_all z (suc a) ps n (omega arith) y)

  cuttable_is : (l : List Row) → cuttable h l ≡ true → Cut≤ h l 9
  unfolding cuttable
  cuttable_is l e =
      let (f, n) = both (every (fits h) (fill h [] l)) (leb (length (fill h [] l)) 9) e in
      let z : ℕ = length (fill h [] l) in
      let n9 : z ≤ 9 = leb-true z 9 n in
      (z, record { parts = fill h [] l; whole = fill_whole [] l; fit = fit_all z 1 (fill h [] l) n9 (omega arith) f; count = refl; one = fill_one [] l }, n9)

  at_most_more : (k : ℕ) → k ≤ 9 → (o : Option (List (List Row))) → C.AtMost row_size heading (base h) 1400 k o → AtMost o
  at_most_more k n none m = m
  at_most_more k n (some ps) m = omega arith

  cut_cuttable : (l : List Row) → C.Big row_size heading (base h) 1400 l → base h ≤ 1400 → C.Cut≤ row_size heading (base h) 1400 l 9 → cuttable h l ≡ true
  cut_cuttable l g b (k, c, n) = few_cuttable l b (at_most_more k n (least_pages l) (C.greedy_best row_size heading (base h) 1400 l k g c))

  -- ---- the first row without a cut

  first_is : (k : ℕ) (on l : List Row) → k < length l → ((n : ℕ) → n ≤ k → cuttable h (on ++ take n l) ≡ true) → cuttable h (on ++ take (suc k) l) ≡ false
      → first_without h on l ≡ suc (length on + k)
  first_is k on [] i c e = absurd (omega arith)
  first_is zero on (r ∷ l) i c e = rw e (omega arith)
  first_is (suc k) on (r ∷ l) i c e =
      rw (c 1 (omega arith)) (first_is k (on ++ r ∷ []) l (omega arith) (λ n j. again n (c (suc n) (omega arith))) (again (suc k) e) ∙ omega (arith, length-append on (r ∷ [])))
    where
      again : {b : Bool} (n : ℕ) → cuttable h (on ++ r ∷ take n l) ≡ b → cuttable h ((on ++ r ∷ []) ++ take n l) ≡ b
      again n f = ap (cuttable h) (append_assoc on (r ∷ []) (take n l)) ∙ f

  abbrev placed : List Row → ℕ
  placed l = C.place row_size heading (base h) 1400 9 1401 l

  same_place : (l : List Row) → C.Big row_size heading (base h) 1400 l → base h ≤ 1400 → cuttable h l ≡ false → place14 h l ≡ suc (placed l)
  unfolding place14
  same_place l g b e = at (leb (length l) (placed l)) refl
    where
      cut : (n : ℕ) → n ≤ length l → n ≤ placed l → cuttable h (take n l) ≡ true
      cut n i j = cut_cuttable (take n l) (C.big_take row_size heading (base h) 1400 n l g) b ((C.placed row_size heading (base h) 1400 l g 9 n i).1 j)

      at : (t : Bool) → leb (length l) (placed l) ≡ t → (if (fits h []) (first_without h [] l) 0) ≡ suc (placed l)
      at true x = no (sym (cut (length l) (omega arith) (leb-true (length l) (placed l) x)) ∙ (ap (cuttable h) (take-length l) ∙ e))
      at false x =
          let i : placed l < length l = leb-false (length l) (placed l) x in
          let (u, v) = C.first_without_lem row_size heading (base h) 1400 l g i in
          rw (le-leb (size []) 1400 b) (first_is (placed l) [] l i (λ n j. cut n (omega arith) j)
          (never (cuttable h (take (suc (placed l)) l)) (λ c. v (to_cut h (take (suc (placed l)) l) 9 (omega arith) (cuttable_is (take (suc (placed l)) l) c)))) ∙ omega arith)

  -- ---- the same pages, the same place

  lay_pages : (l : List Row) (ps : List (List Row)) → fill h [] l ≡ ps → cuttable h l ≡ true → lay h l ≡ written (pages h (length ps) 1 ps)
  lay_pages l ps e c = rw (c, e)

  lay_none : (l : List Row) → cuttable h l ≡ false → lay h l ≡ too_long (place14 h l)
  lay_none l c = rw c

  head_place : (l : List Row) → 1400 < base h → place14 h l ≡ 0
  unfolding place14
  head_place l g = rw (lt-leb (size []) 1400 g)

  laid : (l : List Row) → AllSound l → lay h l ≡ if (leb (base h) 1400) (lay_sized (record { head = h; rows = l }) (least_pages l)) (too_long 0)
  laid l v = at (leb (base h) 1400) refl
    where
      p : Plan
      p = record { head = h; rows = l }

      none_laid : base h ≤ 1400 → cuttable h l ≡ false → lay h l ≡ too_long (suc (placed l))
      none_laid b c = lay_none l c ∙ ap too_long (same_place l (bigs (base h) l v) b c)

      fitting : base h ≤ 1400 → (o : Option (List (List Row))) → Fills l o → C.Whole row_size heading (base h) 1400 l o → lay h l ≡ lay_sized p o
      fitting b none f w = none_laid b (cuttable_none l f)
      fitting b (some []) f w = lay_pages l ([] ∷ []) f (cuttable_all l ([] ∷ []) f (one_fits b))
      fitting b (some (q ∷ qs)) f w = nine (leb (length (q ∷ qs)) 9) (cuttable_all l (q ∷ qs) f (all_fit (q ∷ qs) w.1))
        where
          nine : (t : Bool) → cuttable h l ≡ t → lay h l ≡ if t (written (pages h (length (q ∷ qs)) 1 (q ∷ qs))) (none_cut p)
          nine true c = lay_pages l (q ∷ qs) f c
          nine false c = none_laid b c

      at : (t : Bool) → leb (base h) 1400 ≡ t → lay h l ≡ if t (lay_sized p (least_pages l)) (too_long 0)
      at true x = fitting (leb-true (base h) 1400 x) (least_pages l) (fills l) (C.greedy_whole row_size heading (base h) 1400 l)
      at false x = let g = leb-false (base h) 1400 x in lay_none l (cuttable_head l g) ∙ ap too_long (head_place l g)

-- sound rows have a cut into at most nine pages exactly when the pages filled one after another are at most nine that fit
pub cuttable_cut : (h : Head) (l : List Row) → every sound_row l ≡ true → (cuttable h l ≡ true) ↔ Cut≤ h l 9
cuttable_cut h l s = (cuttable_is h l, λ c. cut_cuttable h l (bigs (base h) l (all_sound l s)) (head_fits h l c.0 c.2 c.1) (to_cut h l 9 (omega arith) c))

-- the writer by spelled pages is the writer by sizes
pub fresh_sized : (p : Plan) → fresh p ≡ sized p
unfolding fresh sized
fresh_sized p = at (sound p) refl
  where
    at : (t : Bool) → sound p ≡ t → (if (leb (length p.rows) 256) (if t (lay p.head p.rows) (unsound (place13 p))) bad_call)
        ≡ (if (leb (length p.rows) 256) (if t (if (leb (base p.head) 1400) (lay_sized p (greedy p)) (too_long 0)) (unsound (place13 p))) bad_call)
    at true s =
        ap (λ (w : Written). if (leb (length p.rows) 256) w bad_call)
        (laid p.head p.rows (all_sound p.rows (both (sound_head p.head) (every sound_row p.rows) s).1))
    at false s = refl
