-- The cut: fewest pages, and 14 exactly when there is none.
use mathlib.Core.Path.{◌≡◌, refl, ap, sym, ◌∙◌}
use mathlib.Core.Logic.{◌↔◌}
use mathlib.Core.Bool.{Bool, true, false, ◌&&◌}
use mathlib.Core.Option.{Option, none, some}
use mathlib.Core.List.{List, [], ◌∷◌, ◌++◌}
use Prim.Native.Nat.{ℕ, suc, ◌+◌, ◌≤◌, ◌<◌}
use native.Mathlib.Omega.{arith}
use lib.Dec.{leb, ltb}
use lib.ListN.{length, length-append, take}
use borrow.Author.Tests.{leb-true, leb-false, le-leb, ltb-true, ltb-false}
use Rattle.paper.specs.Lists.{concat, bytes, if, every, is_empty, same}
use Rattle.paper.proofs.Small.{no, both}
use Rattle.paper.specs.Fields.{Kind, S, M, W, R, X, Field, fields_of, tag_name}
use Rattle.paper.specs.Plan.{Slots, Row, Head, Plan, slot}
use Rattle.paper.specs.Writing.{Written, bad_call, unsound, too_long, written, sound, sound_head, sound_row, good_element, spelled, bare, ws_text, decimal, pages, heading, place13}
use Rattle.paper.proofs.BySize.{row_size, base, greedy, lay_sized, none_cut, sized}
use Rattle.paper.proofs.Element.{good_slots_lem, good_whole}
use Rattle.paper.proofs.Rows.{View, head, med, rec, free, AllSound, all_sound}
use Rattle.paper.proofs.Sizes.{page_size, page_base, slot_sizes, attrs_size_lem, size_head, size_body}
use Rattle.paper.proofs.RoundTrip.{gave, Short, theirs, is_written, pages_count}
use Rattle.paper.specs.Cuts.{Fits, Cut, Cut≤}
use Rattle.paper.proofs.AnyCut as C

-- ---- each sound row is at least 7 long

r_size : (vs : Slots) → good_element R vs ≡ true → 4 ≤ length (spelled R vs)
unfolding fields_of
r_size [] g = no (sym (good_slots_lem R [] g))
r_size ([] ∷ vs) g = no (good_whole R ([] ∷ vs) g).0
r_size ((c ∷ v) ∷ vs) g = omega (arith, attrs_size_lem (fields_of R) ((c ∷ v) ∷ vs))

x_size : (vs : Slots) → good_element X vs ≡ true → 4 ≤ length (spelled X vs)
unfolding fields_of
x_size [] g = no (sym (good_slots_lem X [] g))
x_size ([] ∷ vs) g = no (good_whole X ([] ∷ vs) g).0
x_size ((c ∷ v) ∷ vs) g = omega (arith, attrs_size_lem (fields_of X) ((c ∷ v) ∷ vs))

slot_size_lem : (n : List ℕ) (fs : List Field) (vs : Slots) → is_empty (slot n fs vs) ≡ false → 4 ≤ slot_sizes fs vs
slot_size_lem n [] vs e = no e
slot_size_lem n (f ∷ fs) [] e = no e
slot_size_lem n (f ∷ fs) ((c ∷ v) ∷ vs) e = omega arith
slot_size_lem n (f ∷ fs) ([] ∷ vs) e = at (same n f.letters) e (slot_size_lem n fs vs)
  where
    at : (b : Bool) → is_empty (if b [] (slot n fs vs)) ≡ false → (is_empty (slot n fs vs) ≡ false → 4 ≤ slot_sizes fs vs) → 4 ≤ 0 + slot_sizes fs vs
    at true e ih = no e
    at false e ih = omega (arith, ih e)

m_size : (vs : Slots) → (is_empty (slot (bytes "p") (fields_of M) vs) && is_empty (slot (bytes "a") (fields_of M) vs)) ≡ false → 4 ≤ length (spelled M vs)
m_size vs e = at (is_empty (slot (bytes "p") (fields_of M) vs)) refl e
  where
    at : (b : Bool) → is_empty (slot (bytes "p") (fields_of M) vs) ≡ b → (b && is_empty (slot (bytes "a") (fields_of M) vs)) ≡ false → 4 ≤ length (spelled M vs)
    at false q e = omega (arith, attrs_size_lem (fields_of M) vs, slot_size_lem (bytes "p") (fields_of M) vs q)
    at true q e = omega (arith, attrs_size_lem (fields_of M) vs, slot_size_lem (bytes "a") (fields_of M) vs e)

bare_long : (k : Kind) (vs : Slots) (x : List ℕ) → 4 ≤ length (spelled k vs) → 7 ≤ length (bare k vs x)
bare_long k vs x h = omega (arith, length-append (tag_name k) (spelled k vs ++ 47 ∷ 62 ∷ x), length-append (spelled k vs) (47 ∷ 62 ∷ x))

ws_long : (ws : List Slots) (x : List ℕ) → 4 ≤ length (ws_text ws x)
ws_long [] x = omega arith
ws_long (w ∷ ws) x = omega (arith, length-append (spelled W w) (47 ∷ 62 ∷ ws_text ws x), ws_long ws x)

big : {r : Row} → View r → 7 ≤ row_size r
big (head vs e g) = omega (arith, size_head (record { kind = S; pzn = 0; slots = vs; ws = [] }) refl, length-append (spelled S vs) (62 ∷ []))
big (med n vs [] l w e g) = omega (arith, size_body (record { kind = M; pzn = n; slots = vs; ws = [] }) refl, bare_long M (decimal n ∷ vs) [] (m_size (decimal n ∷ vs) e))
big (med n vs (v ∷ ws) l w e g) = omega (arith, size_body (record { kind = M; pzn = n; slots = vs; ws = v ∷ ws }) refl, length-append (spelled M (decimal n ∷ vs)) (62 ∷ ws_text (v ∷ ws) []), ws_long (v ∷ ws) [])
big (rec vs g) = omega (arith, size_body (record { kind = R; pzn = 0; slots = vs; ws = [] }) refl, bare_long R vs [] (r_size vs g))
big (free vs g) = omega (arith, size_body (record { kind = X; pzn = 0; slots = vs; ws = [] }) refl, bare_long X vs [] (x_size vs g))

pub bigs : (b : ℕ) (l : List Row) → AllSound l → C.Big row_size heading b 1400 l
bigs b [] v = tt
bigs b (r ∷ l) v = (big v.0, bigs b l v.1)

-- ---- any cut makes one in the sense of the greedy one, with no empty pages

shrink : (h : Head) (z a : ℕ) (qs : List (List Row)) → z ≤ 9 → a + length qs ≤ suc z → Fits h z a qs
    → (ps : List (List Row)) × (concat ps ≡ concat qs) × C.Pages row_size heading (base h) 1400 ps × (length ps ≤ length qs)
shrink h z a [] n m f = ([], refl, tt, omega arith)
shrink h z a ([] ∷ qs) n m f = let (ps, c, g, l) = shrink h z (suc a) qs n (omega arith) f.1 in (ps, c, g, omega arith)
shrink h z a ((r ∷ q) ∷ qs) n m f =
    let (ps, c, g, l) = shrink h z (suc a) qs n (omega arith) f.1 in
    ((r ∷ q) ∷ ps, ap (λ (x : List Row). (r ∷ q) ++ x) c, (omega (arith, page_size h r q a z (omega arith) n, f.0), g), omega arith)

pub to_cut : (h : Head) (l : List Row) (n : ℕ) → n ≤ 9 → Cut≤ h l n → C.Cut≤ row_size heading (base h) 1400 l n
to_cut h l n n9 (k, c, m) =
    let (ps, w, g, j) = shrink h k 1 c.parts (omega arith) (omega (arith, c.count)) c.fit in
    (length ps, record { pages = ps; whole = w ∙ c.whole; fit = g; count = refl }, omega (arith, c.count))

fits_of : (h : Head) (z a : ℕ) (ps : List (List Row)) → z ≤ 9 → a + length ps ≤ suc z → C.Pages row_size heading (base h) 1400 ps → Fits h z a ps
fits_of h z a [] n m g = tt
fits_of h z a ([] ∷ ps) n m g = absurd g.0
fits_of h z a ((r ∷ q) ∷ ps) n m g = (omega (arith, page_size h r q a z (omega arith) n, g.0), fits_of h z (suc a) ps n (omega arith) g.1)

pub from_cut : (h : Head) (l : List Row) (n : ℕ) → n ≤ 9 → 1 ≤ n → base h ≤ 1400 → C.Cut≤ row_size heading (base h) 1400 l n → Cut≤ h l n
from_cut h l n n9 n1 b (k, c, m) = at c.pages c.whole c.fit c.count
  where
    at : (ps : List (List Row)) → concat ps ≡ l → C.Pages row_size heading (base h) 1400 ps → length ps ≡ k → Cut≤ h l n
    at [] w g e = (1, record { parts = [] ∷ []; whole = w; fit = (omega (arith, page_base h 1 1 (omega arith) (omega arith)), tt); count = refl; one = omega arith }, n1)
    at (p ∷ ps) w g e = (length (p ∷ ps), record { parts = p ∷ ps; whole = w; fit = fits_of h (length (p ∷ ps)) 1 (p ∷ ps) (omega arith) (omega arith) g; count = refl; one = omega arith }, omega arith)

-- a cut's first page holds the head
pub head_fits : (h : Head) (l : List Row) (k : ℕ) → k ≤ 9 → Cut h l k → base h ≤ 1400
head_fits h l k n c = at c.parts c.fit c.count c.one
  where
    at : (qs : List (List Row)) → Fits h k 1 qs → length qs ≡ k → 1 ≤ k → base h ≤ 1400
    at [] f e o = absurd (omega arith)
    at ([] ∷ qs) f e o = omega (arith, page_base h 1 k (omega arith) n, f.0)
    at ((r ∷ q) ∷ qs) f e o = omega (arith, page_size h r q 1 k (omega arith) n, f.0)

-- ---- the theorems

pub data Way (p : Plan) (w : Written) : Type 0 where
  many : leb (length p.rows) 256 ≡ false → w ≡ bad_call → Way p w
  bad : sound p ≡ false → (r : ℕ) → w ≡ unsound r → Way p w
  long : 1400 < base p.head → w ≡ too_long 0 → Way p w
  laid : base p.head ≤ 1400 → AllSound p.rows → w ≡ lay_sized p (greedy p) → Way p w

pub way : (p : Plan) → Way p (sized p)
unfolding sized
way p = at (leb (length p.rows) 256) refl (sound p) refl (leb (base p.head) 1400) refl
  where
    at : (b : Bool) → leb (length p.rows) 256 ≡ b → (c : Bool) → sound p ≡ c → (d : Bool) → leb (base p.head) 1400 ≡ d
        → Way p (if b (if c (if d (lay_sized p (greedy p)) (too_long 0)) (unsound (place13 p))) bad_call)
    at true x true y true t = laid (leb-true (base p.head) 1400 t) (all_sound p.rows (both (sound_head p.head) (every sound_row p.rows) y).1) refl
    at true x true y false t = long (leb-false (base p.head) 1400 t) refl
    at true x false y d t = bad y (place13 p) refl
    at false x c y d t = many x refl

abbrev AtMost : Plan → ℕ → Option (List (List Row)) → Type 0
AtMost p k o = C.AtMost row_size heading (base p.head) 1400 k o

laid_few : (p : Plan) (f : List (List ℕ)) (j k : ℕ) (o : Option (List (List Row))) → AtMost p j o → j ≤ k → 1 ≤ k → lay_sized p o ≡ written f → length f ≤ k
laid_few p f j k none m g l e = absurd m
laid_few p f j k (some []) m g l e = omega (arith, ap (λ (w : Written). length (theirs w)) e)
laid_few p f j k (some (q ∷ qs)) m g l e = at (leb (length (q ∷ qs)) 9) e
  where
    at : (b : Bool) → if b (written (pages p.head (length (q ∷ qs)) 1 (q ∷ qs))) (none_cut p) ≡ written f → length f ≤ k
    at true e = omega (arith, ap (λ (w : Written). length (theirs w)) e, pages_count p.head (length (q ∷ qs)) 1 (q ∷ qs))
    at false e = no (sym (ap is_written e))

abbrev place_of : Written → ℕ
place_of bad_call = 0
place_of (unsound r) = 0
place_of (too_long r) = r
place_of (written f) = 0

abbrev is_long : Written → Bool
is_long bad_call = false
is_long (unsound r) = false
is_long (too_long r) = true
is_long (written f) = false

abbrev placed : Plan → ℕ
placed p = C.place row_size heading (base p.head) 1400 9 1401 p.rows

laid_long : (p : Plan) (r : ℕ) (o : Option (List (List Row))) → lay_sized p o ≡ too_long r → (r ≡ suc (placed p)) × (AtMost p 9 o → ⊥)
laid_long p r none e = (sym (ap place_of e), λ m. m)
laid_long p r (some []) e = no (sym (ap is_long e))
laid_long p r (some (q ∷ qs)) e = at (leb (length (q ∷ qs)) 9) refl e
  where
    at : (b : Bool) → leb (length (q ∷ qs)) 9 ≡ b → if b (written (pages p.head (length (q ∷ qs)) 1 (q ∷ qs))) (none_cut p) ≡ too_long r → (r ≡ suc (placed p)) × (AtMost p 9 (some (q ∷ qs)) → ⊥)
    at true x e = no (sym (ap is_long e))
    at false x e = (sym (ap place_of e), λ m. let y = leb-false (length (q ∷ qs)) 9 x in omega arith)

more_than : (p : Plan) (j k : ℕ) (o : Option (List (List Row))) → j ≤ k → AtMost p j o → AtMost p k o
more_than p j k none h m = m
more_than p j k (some ps) h m = omega arith

best : (p : Plan) (k : ℕ) → AllSound p.rows → C.Cut≤ row_size heading (base p.head) 1400 p.rows k → AtMost p k (greedy p)
best p k v (j, c, m) = more_than p j k (greedy p) m (C.greedy_best row_size heading (base p.head) 1400 p.rows j (bigs (base p.head) p.rows v) c)

-- no cut into at most nine pages has fewer pages
pub fewest : (p : Plan) (f : List (List ℕ)) → sized p ≡ written f → (k : ℕ) → k ≤ 9 → Cut p.head p.rows k → length f ≤ k
fewest p f e k n c = at (way p)
  where
    at : Way p (sized p) → length f ≤ k
    at (many y g) = no (sym (ap is_written (sym g ∙ e)))
    at (bad y r g) = no (sym (ap is_written (sym g ∙ e)))
    at (long l g) = no (sym (ap is_written (sym g ∙ e)))
    at (laid b v g) = laid_few p f k k (greedy p) (best p k v (to_cut p.head p.rows k n (k, c, omega arith))) (omega arith) c.one (sym g ∙ e)

-- parts of which each page is short enough fit as pages a, a + 1, … of z
pub short_fits : (h : Head) (z a : ℕ) (qs : List (List Row)) → z ≤ 9 → a + length qs ≤ suc z → Short h qs → Fits h z a qs
short_fits h z a [] n m s = tt
short_fits h z a (q ∷ qs) n m s = (s.0 a z (omega arith) n, short_fits h z (suc a) qs n (omega arith) s.1)

-- pages given are a cut into at most nine
pub is_cut : (p : Plan) (f : List (List ℕ)) → sized p ≡ written f → Cut≤ p.head p.rows 9
is_cut p f e = let G = gave p f e in let z : ℕ = length (G.first ∷ G.others) in
    (z, record { parts = G.first ∷ G.others; whole = G.whole; fit = short_fits p.head z 1 (G.first ∷ G.others) G.nine (omega arith) G.short; count = refl; one = omega arith }, G.nine)

take_all : (l : List Row) → take (length l) l ≡ l
take_all [] = refl
take_all (r ∷ l) = ap (λ (x : List Row). r ∷ x) (take_all l)

within : (p : Plan) → AllSound p.rows → (AtMost p 9 (greedy p) → ⊥) → placed p < length p.rows
within p v x = at (ltb (placed p) (length p.rows)) refl
  where
    at : (b : Bool) → ltb (placed p) (length p.rows) ≡ b → placed p < length p.rows
    at true e = ltb-true (placed p) (length p.rows) e
    at false e =
        let h : length p.rows ≤ placed p = ltb-false (placed p) (length p.rows) e in
        let c = (C.placed row_size heading (base p.head) 1400 p.rows (bigs (base p.head) p.rows v) 9 (length p.rows) (omega arith)).1 h in
        absurd (x (best p 9 v (rw (take_all p.rows) at c)))

-- 14 and its place: r is the first such that rows 1..r have no cut into at most nine pages, 0 if not even no rows have one
pub fourteen : (p : Plan) (r : ℕ) → sized p ≡ too_long r → ((n : ℕ) → n < r → Cut≤ p.head (take n p.rows) 9) × (Cut≤ p.head (take r p.rows) 9 → ⊥)
fourteen p r e = at (way p)
  where
    at : Way p (sized p) → ((n : ℕ) → n < r → Cut≤ p.head (take n p.rows) 9) × (Cut≤ p.head (take r p.rows) 9 → ⊥)
    at (many n g) = no (sym (ap is_long (sym g ∙ e)))
    at (bad n s g) = no (sym (ap is_long (sym g ∙ e)))
    at (long l g) = let z : 0 ≡ r = ap place_of (sym g ∙ e) in ((λ n h. absurd (omega arith)), λ (k, c, m). let y = head_fits p.head (take r p.rows) k m c in omega arith)
    at (laid b v g) =
        let (q, x) = laid_long p r (greedy p) (sym g ∙ e) in
        let B = bigs (base p.head) p.rows v in
        let i = within p v x in
        let (u, w) = C.first_without_lem row_size heading (base p.head) 1400 p.rows B i in
        ((λ n h. from_cut p.head (take n p.rows) 9 (omega arith) (omega arith) b (u n (omega arith))), λ c. w (rw (q) at (to_cut p.head (take r p.rows) 9 (omega arith) c)))

-- a sound plan of at most 256 rows is refused with 14 exactly when it has no cut into at most nine pages
pub exactly : (p : Plan) → length p.rows ≤ 256 → sound p ≡ true → ((r : ℕ) × (sized p ≡ too_long r)) ↔ (Cut≤ p.head p.rows 9 → ⊥)
exactly p n s = (λ (r, e) c. there r e c (way p), λ h. back h (way p))
  where
    there : (r : ℕ) → sized p ≡ too_long r → Cut≤ p.head p.rows 9 → Way p (sized p) → ⊥
    there r e c (many y g) = no (sym (ap is_long (sym g ∙ e)))
    there r e c (bad y s g) = no (sym (ap is_long (sym g ∙ e)))
    there r e (k, c, m) (long l g) = let y = head_fits p.head p.rows k m c in omega arith
    there r e c (laid b v g) = (laid_long p r (greedy p) (sym g ∙ e)).1 (best p 9 v (to_cut p.head p.rows 9 (omega arith) c))

    lays : (o : Option (List (List Row))) → sized p ≡ lay_sized p o → (Cut≤ p.head p.rows 9 → ⊥) → (r : ℕ) × (sized p ≡ too_long r)
    lays none g h = (suc (placed p), g)
    lays (some []) g h = absurd (h (is_cut p (pages p.head 1 1 ([] ∷ [])) g))
    lays (some (q ∷ qs)) g h = at (leb (length (q ∷ qs)) 9) g
      where
        at : (b : Bool) → sized p ≡ if b (written (pages p.head (length (q ∷ qs)) 1 (q ∷ qs))) (none_cut p) → (r : ℕ) × (sized p ≡ too_long r)
        at true g = absurd (h (is_cut p (pages p.head (length (q ∷ qs)) 1 (q ∷ qs)) g))
        at false g = (suc (placed p), g)

    back : (Cut≤ p.head p.rows 9 → ⊥) → Way p (sized p) → (r : ℕ) × (sized p ≡ too_long r)
    back h (many y g) = no (sym (le-leb (length p.rows) 256 n) ∙ y)
    back h (bad y r g) = no (sym s ∙ y)
    back h (long l g) = (0, g)
    back h (laid b v g) = lays (greedy p) g h
