-- Writer: what the fresh pages of a plan are, and when the writer refuses; the demands on writing, each in one statement.
-- Assumes nothing.
use mathlib.Core.Path.{◌≡◌, refl, ap, sym, ◌∙◌, subst}
use mathlib.Core.Logic.{◌↔◌, ◌⊎◌, inl, inr, ◌≢◌}
use mathlib.Core.Bool.{Bool, true, false, ◌&&◌}
use mathlib.Core.List.{List, [], ◌∷◌}
use Prim.Native.Nat.{ℕ, zero, suc, ◌*◌, ◌≤◌, ◌<◌}
use native.Mathlib.Omega.{arith}
use lib.Dec.{leb, ltb}
use lib.ListN.{length, length-append, take}
use lib.Seq.{take_all, take-length}
use borrow.Author.Tests.{leb-true, leb-false, ltb-true, ltb-false}
use Rattle.paper.specs.Lists.{concat, if, every}
use Rattle.paper.specs.Plan.{Head, Row, Plan}
use Rattle.paper.specs.Reading.{plan, read}
use Rattle.paper.specs.Writing.{Written, bad_call, unsound, too_long, written, sound, sound_head, sound_row, heading, page, pages, cuttable, fill, first_bad, place13, place14, fresh}
use Rattle.paper.specs.Cuts.{Fits, Cut, Cut≤}
use Rattle.paper.proofs.Small.{no, both, and_intro, Nth, nth_zero}
use Rattle.paper.proofs.Causes.{None, Lowest, Bad}
use Rattle.paper.proofs.Firsts.{lowest_once, Search, nowhere, somewhere, here_at, further}
use Rattle.paper.proofs.AnyCut as C
use Rattle.paper.proofs.BySize.{row_size, base, sized}
use Rattle.paper.proofs.Rows.{all_sound}
use Rattle.paper.proofs.Sheets.{not_empty}
use Rattle.paper.proofs.RoundTrip as T
use Rattle.paper.proofs.Fewest as F
use Rattle.paper.proofs.Writable as E
use Rattle.paper.proofs.Same.{fresh_sized}

by_size : {w : Written} (p : Plan) → fresh p ≡ w → sized p ≡ w
by_size p e = sym (fresh_sized p) ∙ e

-- ---- fresh pages and reading

-- fresh pages of a plan, read, give that plan
pub round_trip : (p : Plan) (f : List (List ℕ)) → fresh p ≡ written f → read f ≡ plan p
round_trip p f e = T.round_trip p f (by_size p e)

-- the fresh pages of two plans are equal, byte for byte, exactly when the plans are the same
pub same_pages : (p q : Plan) (f g : List (List ℕ)) → fresh p ≡ written f → fresh q ≡ written g → (f ≡ g) ↔ (p ≡ q)
same_pages p q f g a b = T.same_pages p q f g (by_size p a) (by_size q b)

-- fresh pages that are read and written afresh are the same pages
pub again_same : (p q : Plan) (f : List (List ℕ)) → fresh p ≡ written f → read f ≡ plan q → fresh q ≡ written f
again_same p q f a b = fresh_sized q ∙ T.again_same p q f (by_size p a) b

-- however two sets of pages are spelled, the fresh pages of what they say are equal exactly when they say the same plan
pub one_spelling : (f f' g g' : List (List ℕ)) (p q : Plan) → read f ≡ plan p → read f' ≡ plan q → fresh p ≡ written g → fresh q ≡ written g' → (g ≡ g') ↔ (p ≡ q)
one_spelling f f' g g' p q _ _ a b = same_pages p q g g' a b

-- a plan that was read is written, or is too long; it is never refused with 1 or 13
pub writable : (f : List (List ℕ)) (p : Plan) → read f ≡ plan p → ((g : List (List ℕ)) × (fresh p ≡ written g)) ⊎ ((r : ℕ) × (fresh p ≡ too_long r))
writable f p e = rw (fresh_sized p) (E.writable f p e)

-- ---- the cut

-- the fresh pages are a cut of the rows, spelled
pub is_cut : (p : Plan) (f : List (List ℕ)) → fresh p ≡ written f → (c : Cut p.head p.rows (length f)) × (f ≡ pages p.head (length f) 1 c.parts)
is_cut p f e =
    let G = T.gave p f (by_size p e) in
    let z : ℕ = length (G.first ∷ G.others) in
    let n : length f ≡ z = ap length G.are ∙ T.pages_count p.head z 1 (G.first ∷ G.others) in
    rw n (record { parts = G.first ∷ G.others; whole = G.whole; fit = F.short_fits p.head z 1 (G.first ∷ G.others) G.nine (omega arith) G.short; count = refl; one = omega arith }, G.are)

-- fresh pages are at most nine
pub at_most_nine : (p : Plan) (f : List (List ℕ)) → fresh p ≡ written f → length f ≤ 9
at_most_nine p f e =
    let G = T.gave p f (by_size p e) in
    omega (arith, ap length G.are, T.pages_count p.head (length (G.first ∷ G.others)) 1 (G.first ∷ G.others), G.nine)

-- no cut of the rows has fewer pages than the fresh pages
pub fewest : (p : Plan) (f : List (List ℕ)) → fresh p ≡ written f → (k : ℕ) → Cut p.head p.rows k → length f ≤ k
fewest p f e k c = at (leb k 9) refl
  where
    at : (b : Bool) → leb k 9 ≡ b → length f ≤ k
    at true x = F.fewest p f (by_size p e) k (leb-true k 9 x) c
    at false x = omega (arith, at_most_nine p f e, leb-false k 9 x)

-- each page has 1 to 1,400 bytes
abbrev pub PageSizes : List (List ℕ) → Type 0
PageSizes [] = Unit {0}
PageSizes (w ∷ f) = (1 ≤ length w) × (length w ≤ 1400) × PageSizes f

cut_sizes : (h : Head) (z a : ℕ) (qs : List (List Row)) → Fits h z a qs → PageSizes (pages h z a qs)
cut_sizes h z a [] f = tt
cut_sizes h z a (q ∷ qs) f = (not_empty h q a z, f.0, cut_sizes h z (suc a) qs f.1)

together : (f : List (List ℕ)) → PageSizes f → length (concat f) ≤ 1400 * length f
together [] s = omega arith
together (w ∷ f) s = omega (arith, length-append w (concat f), together f s.2, s.1)

-- the room for pages: at most nine pages, each of 1 to 1,400 bytes, at most 12,600 bytes one behind the other
pub room : (p : Plan) (f : List (List ℕ)) → fresh p ≡ written f → (length f ≤ 9) × PageSizes f × (length (concat f) ≤ 12600)
room p f e =
    let (c, g) = is_cut p f e in
    let s : PageSizes f = rw g (cut_sizes p.head (length f) 1 c.parts c.fit) in
    let n = at_most_nine p f e in
    (n, s, omega (arith, together f s))

-- ---- how the writer ends

-- the refusal number of an answer, 0 for pages
abbrev refusal_of : Written → ℕ
refusal_of bad_call = 1
refusal_of (unsound r) = 13
refusal_of (too_long r) = 14
refusal_of (written f) = 0

abbrev place_of : Written → ℕ
place_of bad_call = 0
place_of (unsound r) = r
place_of (too_long r) = r
place_of (written f) = 0

data Ends (p : Plan) : Type 0 where
  many : 256 < length p.rows → fresh p ≡ bad_call → Ends p
  bad : length p.rows ≤ 256 → sound p ≡ false → fresh p ≡ unsound (place13 p) → Ends p
  long : length p.rows ≤ 256 → sound p ≡ true → (r : ℕ) → fresh p ≡ too_long r → Ends p
  fine : length p.rows ≤ 256 → sound p ≡ true → (f : List (List ℕ)) → fresh p ≡ written f → Ends p

ends : (p : Plan) → Ends p
unfolding fresh
ends p = at (leb (length p.rows) 256) refl (sound p) refl (cuttable p.head p.rows) refl
  where
    f : List (List ℕ)
    f = pages p.head (length (fill p.head [] p.rows)) 1 (fill p.head [] p.rows)

    r : ℕ
    r = place14 p.head p.rows

    at : (a : Bool) → leb (length p.rows) 256 ≡ a → (b : Bool) → sound p ≡ b → (c : Bool) → cuttable p.head p.rows ≡ c → Ends p
    at true x true y true z = fine (leb-true (length p.rows) 256 x) y f (rw (x, y, z))
    at true x true y false z = long (leb-true (length p.rows) 256 x) y r (rw (x, y, z))
    at true x false y c z = bad (leb-true (length p.rows) 256 x) y (rw (x, y))
    at false x b y c z = many (leb-false (length p.rows) 256 x) (rw x)

-- answers of different numbers differ
differ : {A : Type 0} {v w : Written} → v ≡ w → refusal_of v ≢ refusal_of w → A
differ e n = absurd (n (ap refusal_of e))

-- ---- refusal 1

-- the writer gives 1 exactly when there are more than 256 rows
pub too_many : (p : Plan) → (fresh p ≡ bad_call) ↔ (256 < length p.rows)
too_many p = (λ e. there e (ends p), λ n. back n (ends p))
  where
    there : fresh p ≡ bad_call → Ends p → 256 < length p.rows
    there e (many n g) = n
    there e (bad n s g) = differ (sym g ∙ e) (omega arith)
    there e (long n s r g) = differ (sym g ∙ e) (omega arith)
    there e (fine n s f g) = differ (sym g ∙ e) (omega arith)

    back : 256 < length p.rows → Ends p → fresh p ≡ bad_call
    back m (many n g) = g
    back m (bad n s g) = absurd (omega arith)
    back m (long n s r g) = absurd (omega arith)
    back m (fine n s f g) = absurd (omega arith)

-- ---- refusal 13

-- the rows, counted from 0, of which this one is bad
abbrev BadRow : List Row → ℕ → Type 0
BadRow l j = (x : Row) × Nth l (suc j) x × (sound_row x ≡ false)

search_13 : (k : ℕ) (l : List Row) → Search (BadRow l) k (first_bad k l)
search_13 k [] = nowhere refl (λ j x. absurd x.1)
search_13 k (r ∷ l) = at (sound_row r) refl (search_13 (suc k) l)
  where
    at : (b : Bool) → sound_row r ≡ b → Search (BadRow l) (suc k) (first_bad (suc k) l) → Search (BadRow (r ∷ l)) k (if b (first_bad (suc k) l) k)
    at true x ih = further (BadRow (r ∷ l)) k (first_bad (suc k) l) (λ (y, q, e). no (sym x ∙ (ap sound_row q ∙ e))) ih
    at false x ih = here_at (BadRow (r ∷ l)) k (r, refl, x)

none_bad : (l : List Row) → every sound_row l ≡ true → None (BadRow l)
none_bad [] e j (x, q, f) = absurd q
none_bad (r ∷ l) e zero (x, q, f) = no (sym (both (sound_row r) (every sound_row l) e).0 ∙ (ap sound_row q ∙ f))
none_bad (r ∷ l) e (suc j) b = none_bad l (both (sound_row r) (every sound_row l) e).1 j b

bad_none : (l : List Row) → None (BadRow l) → every sound_row l ≡ true
bad_none [] n = refl
bad_none (r ∷ l) n = at (sound_row r) refl (bad_none l (λ j b. n (suc j) b))
  where
    at : (b : Bool) → sound_row r ≡ b → every sound_row l ≡ true → (b && every sound_row l) ≡ true
    at true x ih = ih
    at false x ih = absurd (n 0 (r, refl, x))

-- "first bad row counted from 1, 0 for the head, head first"
abbrev pub Breaks : Plan → ℕ → Type 0
Breaks p r = Lowest (Bad p) r

-- a plan is sound and nothing of it is bad, or it is not and 13's place is that of the first that is bad
data Checked (p : Plan) : Type 0 where
  good : sound p ≡ true → None (Bad p) → Checked p
  broken : sound p ≡ false → Breaks p (place13 p) → Checked p

checked : (p : Plan) → Checked p
checked p = at (sound_head p.head) refl (search_13 1 p.rows)
  where
    -- rows count from 1, and 0 is the head
    row : (r : ℕ) → sound_head p.head ≡ true → Bad p r → (j : ℕ) × (r ≡ suc j) × BadRow p.rows j
    row r h (inl (z, e)) = no (sym h ∙ e)
    row zero h (inr (x, q, e)) = absurd (nth_zero p.rows x q)
    row (suc j) h (inr b) = (j, refl, b)

    rows : sound_head p.head ≡ true → Search (BadRow p.rows) 1 (first_bad 1 p.rows) → Checked p
    rows h (nowhere e n) = good (and_intro (sound_head p.head) (every sound_row p.rows) h (bad_none p.rows n)) (λ r b. let (j, q, c) = row r h b in n j c)
    rows h (somewhere j e l) =
        let q : place13 p ≡ suc j = rw (h, e) (omega arith) in
        broken (at_false (every sound_row p.rows) refl) (rw q (inr l.0, λ i c b. let (m, z, x) = row i h b in l.1 m (omega arith) x))
      where
        at_false : (b : Bool) → every sound_row p.rows ≡ b → (sound_head p.head && every sound_row p.rows) ≡ false
        at_false true f = absurd (none_bad p.rows f j l.0)
        at_false false f = rw (h, f)

    at : (b : Bool) → sound_head p.head ≡ b → Search (BadRow p.rows) 1 (first_bad 1 p.rows) → Checked p
    at true h s = rows h s
    at false h s = let q : 0 ≡ place13 p = rw h in broken (rw h) (subst (Breaks p) q (inl (refl, h), λ j c. absurd (omega arith)))

-- a plan is sound exactly when nothing of it is bad
pub sound_none : (p : Plan) → sound p ≡ true → None (Bad p)
sound_none p s = at (checked p)
  where
    at : Checked p → None (Bad p)
    at (good t n) = n
    at (broken t l) = no (sym s ∙ t)

pub none_sound : (p : Plan) → None (Bad p) → sound p ≡ true
none_sound p n = at (checked p)
  where
    at : Checked p → sound p ≡ true
    at (good t m) = t
    at (broken t l) = absurd (n (place13 p) l.0)

-- 13 is given exactly when at most 256 rows are handed in and the plan breaks a rule, with the place of the first break
pub thirteen : (p : Plan) (r : ℕ) → (fresh p ≡ unsound r) ↔ ((length p.rows ≤ 256) × Breaks p r)
thirteen p r = (λ e. there e (ends p) (checked p), λ (n, b). back n b (ends p) (checked p))
  where
    there : fresh p ≡ unsound r → Ends p → Checked p → (length p.rows ≤ 256) × Breaks p r
    there e (many n g) c = differ (sym g ∙ e) (omega arith)
    there e (bad n s g) (good t b) = no (sym t ∙ s)
    there e (bad n s g) (broken t l) = let q : place13 p ≡ r = ap place_of (sym g ∙ e) in (n, subst (Breaks p) q l)
    there e (long n s r g) c = differ (sym g ∙ e) (omega arith)
    there e (fine n s f g) c = differ (sym g ∙ e) (omega arith)

    back : length p.rows ≤ 256 → Breaks p r → Ends p → Checked p → fresh p ≡ unsound r
    back m l (many n g) c = absurd (omega arith)
    back m l (bad n s g) (good t b) = no (sym t ∙ s)
    back m l (bad n s g) (broken t k) = g ∙ ap unsound (lowest_once (Bad p) (place13 p) r k l)
    back m l (long n s _ g) c = absurd (sound_none p s r l.0)
    back m l (fine n s f g) c = absurd (sound_none p s r l.0)

-- 13 is given, at whatever place, exactly when at most 256 rows are handed in and the plan is not sound
pub thirteen_exactly : (p : Plan) → ((r : ℕ) × (fresh p ≡ unsound r)) ↔ ((length p.rows ≤ 256) × (sound p ≡ false))
thirteen_exactly p = (λ (r, e). let (n, b) = (thirteen p r).0 e in (n, there r b (checked p)), λ (n, t). back n t (checked p))
  where
    there : (r : ℕ) → Breaks p r → Checked p → sound p ≡ false
    there r l (good t n) = absurd (n r l.0)
    there r l (broken t k) = t

    back : length p.rows ≤ 256 → sound p ≡ false → Checked p → (r : ℕ) × (fresh p ≡ unsound r)
    back n t (good s b) = no (sym s ∙ t)
    back n t (broken s l) = (place13 p, (thirteen p (place13 p)).1 (n, l))

-- ---- refusal 14

-- 14 and its place: "first row r such that rows 1..r have no cut"
pub fourteen : (p : Plan) (r : ℕ) → fresh p ≡ too_long r → ((n : ℕ) → n < r → Cut≤ p.head (take n p.rows) 9) × (Cut≤ p.head (take r p.rows) 9 → ⊥)
fourteen p r e = F.fourteen p r (by_size p e)

-- the place of 14 is a row, or 0
pub fourteen_row : (p : Plan) (r : ℕ) → fresh p ≡ too_long r → r ≤ length p.rows
fourteen_row p r e = at (leb r (length p.rows)) refl
  where
    at : (b : Bool) → leb r (length p.rows) ≡ b → r ≤ length p.rows
    at true x = leb-true r (length p.rows) x
    at false x =
        let (u, v) = fourteen p r e in
        let n : length p.rows < r = leb-false r (length p.rows) x in
        absurd (v (rw (take_all r p.rows (omega arith)) (rw (take-length p.rows) at (u (length p.rows) n))))

-- a sound plan of at most 256 rows is refused with 14 exactly when it has no cut into at most nine pages
pub exactly : (p : Plan) → length p.rows ≤ 256 → sound p ≡ true → ((r : ℕ) × (fresh p ≡ too_long r)) ↔ (Cut≤ p.head p.rows 9 → ⊥)
exactly p n s = rw (fresh_sized p) (F.exactly p n s)

-- rows that have a cut have one as far as any row of them
cut_take : (h : Head) (l : List Row) (n : ℕ) → every sound_row l ≡ true → n ≤ length l → Cut≤ h l 9 → Cut≤ h (take n l) 9
cut_take h l n s i c =
    let B = F.bigs (base h) l (all_sound l s) in
    let P = C.placed row_size heading (base h) 1400 l B 9 in
    let m : length l ≤ C.place row_size heading (base h) 1400 9 1401 l = (P (length l) (omega arith)).0 (rw (sym (take-length l)) at (F.to_cut h l 9 (omega arith) c)) in
    F.from_cut h (take n l) 9 (omega arith) (omega arith) (F.head_fits h l c.0 c.2 c.1) ((P n i).1 (omega arith))

-- r is the first row such that rows 1..r have no cut into at most nine pages; 0 if not even no rows have one
pub record FirstUncut (h : Head) (l : List Row) (r : ℕ) : Type 0 where
  pub row : r ≤ length l
  pub before : (n : ℕ) → n < r → Cut≤ h (take n l) 9
  pub none : Cut≤ h (take r l) 9 → ⊥

first_once : (h : Head) (l : List Row) (r s : ℕ) → FirstUncut h l r → FirstUncut h l s → r ≡ s
first_once h l r s a b = at (ltb r s) refl (ltb s r) refl
  where
    at : (x : Bool) → ltb r s ≡ x → (y : Bool) → ltb s r ≡ y → r ≡ s
    at true e y f = absurd (a.none (b.before r (ltb-true r s e)))
    at false e true f = absurd (b.none (a.before s (ltb-true s r f)))
    at false e false f = omega (arith, ltb-false r s e, ltb-false s r f)

first_uncut : (p : Plan) (r : ℕ) → fresh p ≡ too_long r → FirstUncut p.head p.rows r
first_uncut p r e = let (u, v) = fourteen p r e in record { row = fourteen_row p r e; before = u; none = v }

-- pages are given exactly for a sound plan of at most 256 rows that has a cut into at most nine pages
pub written_exactly : (p : Plan) → ((f : List (List ℕ)) × (fresh p ≡ written f)) ↔ ((length p.rows ≤ 256) × (sound p ≡ true) × Cut≤ p.head p.rows 9)
written_exactly p = (λ (f, e). there f e (ends p), λ (n, s, c). back n s c (ends p))
  where
    there : (f : List (List ℕ)) → fresh p ≡ written f → Ends p → (length p.rows ≤ 256) × (sound p ≡ true) × Cut≤ p.head p.rows 9
    there f e (many n g) = differ (sym g ∙ e) (omega arith)
    there f e (bad n s g) = differ (sym g ∙ e) (omega arith)
    there f e (long n s r g) = differ (sym g ∙ e) (omega arith)
    there f e (fine n s _ g) = (n, s, (length f, (is_cut p f e).0, at_most_nine p f e))

    back : length p.rows ≤ 256 → sound p ≡ true → Cut≤ p.head p.rows 9 → Ends p → (f : List (List ℕ)) × (fresh p ≡ written f)
    back m t c (many n g) = absurd (omega arith)
    back m t c (bad n s g) = no (sym t ∙ s)
    back m t c (long n s r g) = absurd ((exactly p n s).0 (r, g) c)
    back m t c (fine n s f g) = (f, g)

-- 14 with place r is given exactly for a sound plan of at most 256 rows whose rows 1..r are the first without a cut
pub fourteen_exactly : (p : Plan) (r : ℕ) → (fresh p ≡ too_long r) ↔ ((length p.rows ≤ 256) × (sound p ≡ true) × FirstUncut p.head p.rows r)
fourteen_exactly p r = (λ e. there e (ends p), λ (n, s, u). back n s u (ends p))
  where
    there : fresh p ≡ too_long r → Ends p → (length p.rows ≤ 256) × (sound p ≡ true) × FirstUncut p.head p.rows r
    there e (many n g) = differ (sym g ∙ e) (omega arith)
    there e (bad n s g) = differ (sym g ∙ e) (omega arith)
    there e (long n s _ g) = (n, s, first_uncut p r e)
    there e (fine n s f g) = differ (sym g ∙ e) (omega arith)

    back : length p.rows ≤ 256 → sound p ≡ true → FirstUncut p.head p.rows r → Ends p → fresh p ≡ too_long r
    back m t u (many n g) = absurd (omega arith)
    back m t u (bad n s g) = no (sym t ∙ s)
    back m t u (long n s q g) = g ∙ ap too_long (first_once p.head p.rows q r (first_uncut p q g) u)
    back m t u (fine n s f g) =
        let rows_sound = (both (sound_head p.head) (every sound_row p.rows) s).1 in
        absurd (u.none (cut_take p.head p.rows r rows_sound u.row ((written_exactly p).0 (f, g)).2))

no_rows : (h : Head) → length (page h [] 1 1) ≤ 1400 → Cut≤ h [] 9
no_rows h b = (1, record { parts = [] ∷ []; whole = refl; fit = (b, tt); count = refl; one = omega arith }, omega arith)

-- "0 if the head alone is too long"
pub head_alone : (p : Plan) → length p.rows ≤ 256 → sound p ≡ true → (fresh p ≡ too_long 0) ↔ (1400 < length (page p.head [] 1 1))
head_alone p n s = (λ e. there e (leb (length (page h [] 1 1)) 1400) refl, λ g. let (r, e) = (exactly p n s).1 (λ c. none p.rows g c) in back g r e)
  where
    h : Head
    h = p.head

    none : (l : List Row) → 1400 < length (page h [] 1 1) → Cut≤ h l 9 → ⊥
    none l g (k, c, m) = let b = F.head_fits h l k m c in omega arith

    there : fresh p ≡ too_long 0 → (b : Bool) → leb (length (page h [] 1 1)) 1400 ≡ b → 1400 < length (page h [] 1 1)
    there e true x = absurd ((fourteen p 0 e).1 (no_rows h (leb-true (length (page h [] 1 1)) 1400 x)))
    there e false x = leb-false (length (page h [] 1 1)) 1400 x

    back : 1400 < length (page h [] 1 1) → (r : ℕ) → fresh p ≡ too_long r → fresh p ≡ too_long 0
    back g zero e = e
    back g (suc r) e = absurd (none [] g ((fourteen p (suc r) e).0 0 (omega arith)))
