-- What a call hands in: the pages that it names are read, and nothing else of the buffer matters; and when the answer is refusal 1.
-- Assumes nothing.
use mathlib.Core.Path.{◌≡◌, refl, ap, sym, ◌∙◌, subst}
use mathlib.Core.Logic.{◌⊎◌, inl, inr, ◌↔◌}
use mathlib.Core.Bool.{Bool, true, false, ◌&&◌}
use mathlib.Core.List.{List, [], ◌∷◌, ◌++◌, append_assoc}
use Prim.Native.Nat.{ℕ, zero, suc, ◌+◌, ◌≤◌, ◌<◌}
use native.Mathlib.Omega.{arith}
use lib.Dec.{leb}
use lib.ListN.{length, take, drop, get_or, length-drop, length-append}
use lib.Seq.{ext_get_or, get_or-take, get_or-drop, length-take-le, take_at, drop_at}
use borrow.Author.Tests.{leb-true, leb-false, le-leb, lt-leb}
use Rattle.paper.specs.Lists.{if, concat}
use Rattle.paper.specs.Plan.{Plan}
use Rattle.paper.specs.Judging.{Sheet, Judged, refused, sheet, judge}
use Rattle.paper.specs.Reading.{Answer, refusal, plan, Judgement, stopped, sheets, cons, judge_all, page9, page10, number11, joined, refuse_at, enough, join, decide, read}
use Rattle.paper.specs.Calls.{inside, pages_at, read_at, roomy}
use Rattle.paper.proofs.Small.{no, both, and_intro}
use Rattle.paper.proofs.Judged.{two_to_eight}
use Rattle.paper.proofs.Causes.{Unread, no_page, many, unlike, outside, no_room}

-- ---- 1 to 9 pages are never refused with 1

-- a plan, or a refusal of a number from m to 12
abbrev pub Ranged : ℕ → Answer → Type 0
Ranged m (refusal n k i) = (m ≤ n) × (n ≤ 12)
Ranged m (plan p) = Unit {0}

ranged_at : (n k : ℕ) (a : Answer) → 9 ≤ n → n ≤ 12 → Ranged 9 a → Ranged 9 (refuse_at n k a)
ranged_at n zero a l m y = y
ranged_at n (suc k) a l m y = (l, m)

ranged_enough : (p : Plan) → Ranged 9 (enough p)
ranged_enough p = at (leb (length p.rows) 256)
  where
    at : (b : Bool) → Ranged 9 (if b (plan p) (refusal 12 0 0))
    at true = tt
    at false = (omega arith, omega arith)

-- joining sheets is refused with one of 9 to 12, if at all
pub ranged_join : (s : Sheet) (l : List Sheet) → Ranged 9 (join (s ∷ l))
ranged_join s l =
    let q : Plan = record { head = s.head; rows = joined (s ∷ l) 1 s.of } in
    let w : ℕ = number11 (s ∷ l) 1 s.of in
    let g : ℕ = page10 [] 1 (s ∷ l) in
    let o : ℕ = page9 s 2 l in
    let x₂ : Answer = refuse_at 11 w (enough q) in
    let x₁ : Answer = refuse_at 10 g x₂ in
    ranged_at 9 o x₁ (omega arith) (omega arith)
    (ranged_at 10 g x₂ (omega arith) (omega arith) (ranged_at 11 w (enough q) (omega arith) (omega arith) (ranged_enough q)))

-- what judging pages can stop with
abbrev Stops : Judgement → Type 0
Stops (stopped n k i) = (2 ≤ n) × (n ≤ 8)
Stops (sheets l) = Unit {0}

stops_cons : (j : Judged) (k : ℕ) (r : Judgement) → ((n i : ℕ) → j ≡ refused n i → (2 ≤ n) × (n ≤ 8)) → Stops r → Stops (cons j k r)
stops_cons (refused n i) k r h x = h n i refl
stops_cons (sheet s) k (stopped n j i) h x = x
stops_cons (sheet s) k (sheets l) h x = tt

stops : (k : ℕ) (ws : List (List ℕ)) → Stops (judge_all k ws)
stops k [] = tt
stops k (w ∷ ws) = stops_cons (judge w) k (judge_all (suc k) ws) (two_to_eight w) (stops (suc k) ws)

ranged_cons : (j : Judged) (k : ℕ) (r : Judgement) → Stops (cons j k r) → Ranged 2 (decide (cons j k r))
ranged_cons (refused n i) k r x = (x.0, omega (arith, x.1))
ranged_cons (sheet s) k (stopped n j i) x = (x.0, omega (arith, x.1))
ranged_cons (sheet s) k (sheets l) x = wider (join (s ∷ l)) (ranged_join s l)
  where
    wider : (a : Answer) → Ranged 9 a → Ranged 2 a
    wider (refusal n k i) r = (omega (arith, r.0), r.1)
    wider (plan p) r = tt

-- reading 1 to 9 pages is refused with one of 2 to 12, if at all
pub two_to_twelve : (f : List (List ℕ)) (n k i : ℕ) → 1 ≤ length f → length f ≤ 9 → read f ≡ refusal n k i → (2 ≤ n) × (n ≤ 12)
unfolding read
two_to_twelve [] n k i a b e = absurd (omega arith)
two_to_twelve (w ∷ ws) n k i a b e =
    let count : (leb 1 (length (w ∷ ws)) && leb (length (w ∷ ws)) 9) ≡ true = and_intro (leb 1 (length (w ∷ ws))) (leb (length (w ∷ ws)) 9) (le-leb 1 (length (w ∷ ws)) a) (le-leb (length (w ∷ ws)) 9 b) in
    let d : decide (judge_all 1 (w ∷ ws)) ≡ refusal n k i = sym (ap (λ (x : Bool). if x (decide (judge_all 1 (w ∷ ws))) (refusal 1 0 0)) count) ∙ e in
    subst (Ranged 2) d (ranged_cons (judge w) 1 (judge_all 2 ws) (stops 1 (w ∷ ws)))

-- so never with 1
pub read_not_one : (f : List (List ℕ)) (k i : ℕ) → 1 ≤ length f → length f ≤ 9 → read f ≡ refusal 1 k i → ⊥
read_not_one f k i a b e = let r = two_to_twelve f 1 k i a b e in omega arith

-- ---- pages that lie in the buffer

-- there are as many lengths as starts, and every page ends within the buffer
pub record Inside (b ss ns : List ℕ) : Type 0 where
  pub alike : length ss ≡ length ns
  pub ends : (j : ℕ) → j < length ss → get_or ss j 0 + get_or ns j 0 ≤ length b

pub inside_true : (b ss ns : List ℕ) → inside b ss ns ≡ true → Inside b ss ns
inside_true b [] [] e = record { alike = refl; ends = λ j h. absurd (omega arith) }
inside_true b [] (n ∷ ns) e = no (sym e)
inside_true b (s ∷ ss) [] e = no (sym e)
inside_true b (s ∷ ss) (n ∷ ns) e =
    let (x, y) = both (leb (s + n) (length b)) (inside b ss ns) e in
    let I = inside_true b ss ns y in
    record { alike = ap suc I.alike; ends = at (leb-true (s + n) (length b) x) I.ends }
  where
    at : s + n ≤ length b → ((j : ℕ) → j < length ss → get_or ss j 0 + get_or ns j 0 ≤ length b) → (j : ℕ) → j < length (s ∷ ss) → get_or (s ∷ ss) j 0 + get_or (n ∷ ns) j 0 ≤ length b
    at x y zero h = x
    at x y (suc j) h = y j (omega arith)

-- as many pages as starts
pub pages_count : (b ss ns : List ℕ) → inside b ss ns ≡ true → length (pages_at b ss ns) ≡ length ss
pages_count b [] ns e = refl
pages_count b (s ∷ ss) [] e = no (sym e)
pages_count b (s ∷ ss) (n ∷ ns) e = ap suc (pages_count b ss ns (both (leb (s + n) (length b)) (inside b ss ns) e).1)

-- they are read as they are
pub reads_pages : (b ss ns : List ℕ) → inside b ss ns ≡ true → read_at true b ss ns ≡ read (pages_at b ss ns)
unfolding read_at read
reads_pages b ss ns h =
    ap (λ (x : Bool). if (leb 1 (length ss) && (leb (length ss) 9 && x)) (read (pages_at b ss ns)) (refusal 1 0 0)) h
    ∙ (at (leb 1 (length ss)) (leb (length ss) 9) (decide (judge_all 1 (pages_at b ss ns))) (ap (λ (n : ℕ). leb 1 n && leb n 9) (pages_count b ss ns h)))
  where
    at : (x y : Bool) (a : Answer) {z : Bool} → z ≡ (x && y) → if (x && (y && true)) (if z a (refusal 1 0 0)) (refusal 1 0 0) ≡ if z a (refusal 1 0 0)
    at true true a e = refl
    at true false a e = sym (ap (λ (b : Bool). if b a (refusal 1 0 0)) e)
    at false y a e = sym (ap (λ (b : Bool). if b a (refusal 1 0 0)) e)

-- two buffers have the same bytes where the pages lie
abbrev pub Agree : List ℕ → List ℕ → List ℕ → List ℕ → Type 0
Agree b b' [] ns = Unit {0}
Agree b b' (s ∷ ss) [] = Unit {0}
Agree b b' (s ∷ ss) (n ∷ ns) = ((i : ℕ) → s ≤ i → i < s + n → get_or b i 0 ≡ get_or b' i 0) × Agree b b' ss ns

part_length : (b : List ℕ) (s n : ℕ) → s + n ≤ length b → length (take n (drop s b)) ≡ n
part_length b s n h = length-take-le n (drop s b) (omega (arith, length-drop s b))

same_part : (b b' : List ℕ) (s n : ℕ) → s + n ≤ length b → s + n ≤ length b' → ((i : ℕ) → s ≤ i → i < s + n → get_or b i 0 ≡ get_or b' i 0) → take n (drop s b) ≡ take n (drop s b')
same_part b b' s n h h' a = ext_get_or 0 (take n (drop s b)) (take n (drop s b')) (part_length b s n h ∙ sym (part_length b' s n h')) each
  where
    each : (i : ℕ) → i < length (take n (drop s b)) → get_or (take n (drop s b)) i 0 ≡ get_or (take n (drop s b')) i 0
    each i l =
        let k : i < n = omega (arith, part_length b s n h) in
        get_or-take n (drop s b) i 0 k ∙ (get_or-drop s b i 0 ∙ (a (s + i) (omega arith) (omega arith) ∙ sym (get_or-take n (drop s b') i 0 k ∙ get_or-drop s b' i 0)))

same_pages : (b b' ss ns : List ℕ) → inside b ss ns ≡ true → inside b' ss ns ≡ true → Agree b b' ss ns → pages_at b ss ns ≡ pages_at b' ss ns
same_pages b b' [] ns e e' a = refl
same_pages b b' (s ∷ ss) [] e e' a = refl
same_pages b b' (s ∷ ss) (n ∷ ns) e e' a =
    let (x, y) = both (leb (s + n) (length b)) (inside b ss ns) e in
    let (x', y') = both (leb (s + n) (length b')) (inside b' ss ns) e' in
    rw (same_part b b' s n (leb-true (s + n) (length b) x) (leb-true (s + n) (length b') x') a.0, same_pages b b' ss ns y y' a.1)

-- nothing but the bytes of the pages matters, and whether they lie in the buffer
pub only_pages : (room : Bool) (b b' ss ns : List ℕ) → inside b ss ns ≡ inside b' ss ns → Agree b b' ss ns → read_at room b ss ns ≡ read_at room b' ss ns
unfolding read_at
only_pages room b b' ss ns h a = at (inside b ss ns) refl
  where
    -- the answer, by whether the pages lie in the buffer
    by : Bool → List (List ℕ) → Answer
    by x ps = if (room && (leb 1 (length ss) && (leb (length ss) 9 && x))) (read ps) (refusal 1 0 0)

    none : (room x y : Bool) (p q : Answer) → if (room && (x && (y && false))) p (refusal 1 0 0) ≡ if (room && (x && (y && false))) q (refusal 1 0 0)
    none false x y p q = refl
    none true false y p q = refl
    none true true false p q = refl
    none true true true p q = refl

    at : (x : Bool) → inside b ss ns ≡ x → by (inside b ss ns) (pages_at b ss ns) ≡ by (inside b' ss ns) (pages_at b' ss ns)
    at true e = rw (same_pages b b' ss ns e (sym h ∙ e) a, h)
    at false e = rw (sym h, e) (none room (leb 1 (length ss)) (leb (length ss) 9) (read (pages_at b ss ns)) (read (pages_at b' ss ns)))

-- ---- any pages can be handed in

-- the starts of pages that lie one behind the other
abbrev pub starts_of : ℕ → List (List ℕ) → List ℕ
starts_of s [] = []
starts_of s (w ∷ ws) = s ∷ starts_of (s + length w) ws

-- their lengths
abbrev pub lengths_of : List (List ℕ) → List ℕ
lengths_of [] = []
lengths_of (w ∷ ws) = length w ∷ lengths_of ws

laid : (p : List ℕ) (f : List (List ℕ)) → (inside (p ++ concat f) (starts_of (length p) f) (lengths_of f) ≡ true) × (pages_at (p ++ concat f) (starts_of (length p) f) (lengths_of f) ≡ f)
laid p [] = (refl, refl)
laid p (w ∷ ws) =
    let b : List ℕ = p ++ (w ++ concat ws) in
    let (x, y) = rw (append_assoc p w (concat ws), length-append p w) at (laid (p ++ w) ws) in
    let here : take (length w) (drop (length p) b) ≡ w = ap (take (length w)) (drop_at p (w ++ concat ws) (length p) refl) ∙ take_at w (concat ws) (length w) refl in
    let fits : length p + length w ≤ length b = omega (arith, length-append p (w ++ concat ws), length-append w (concat ws)) in
    (and_intro (leb (length p + length w) (length b)) (inside b (starts_of (length p + length w) ws) (lengths_of ws)) (le-leb (length p + length w) (length b) fits) x, rw (here, y))

-- pages one behind the other are handed in as they are
pub handed_in : (f : List (List ℕ)) → read_at true (concat f) (starts_of 0 f) (lengths_of f) ≡ read f
handed_in f = let (x, y) = laid [] f in reads_pages (concat f) (starts_of 0 f) (lengths_of f) x ∙ ap read y

-- ---- refusal 1

-- the test of a call
abbrev test : Bool → List ℕ → List ℕ → List ℕ → Bool
test room b ss ns = room && (leb 1 (length ss) && (leb (length ss) 9 && inside b ss ns))

-- some page does not lie in the buffer, or the lists differ in length
inside_false : (room : Bool) (b ss ns : List ℕ) → inside b ss ns ≡ false → Unread (room ≡ false) b ss ns
inside_false room b ss ns e = at (way ss ns e)
  where
    Why : List ℕ → List ℕ → Type 0
    Why ss ns = (length ss ≡ length ns → ⊥) ⊎ ((j : ℕ) × (j < length ss) × (j < length ns) × (length b < get_or ss j 0 + get_or ns j 0))

    deeper : (s n : ℕ) (ss ns : List ℕ) → Why ss ns → Why (s ∷ ss) (n ∷ ns)
    deeper s n ss ns (inl h) = inl (λ e. h (omega arith))
    deeper s n ss ns (inr (j, x, y, z)) = inr (suc j, omega arith, omega arith, z)

    first_page : (s n : ℕ) (ss ns : List ℕ) (x : Bool) → leb (s + n) (length b) ≡ x → (x && inside b ss ns) ≡ false → (inside b ss ns ≡ false → Why ss ns) → Why (s ∷ ss) (n ∷ ns)
    first_page s n ss ns true q e ih = deeper s n ss ns (ih e)
    first_page s n ss ns false q e ih = inr (0, omega arith, omega arith, leb-false (s + n) (length b) q)

    way : (ss ns : List ℕ) → inside b ss ns ≡ false → Why ss ns
    way [] [] e = no e
    way [] (n ∷ ns) e = inl (λ q. omega arith)
    way (s ∷ ss) [] e = inl (λ q. omega arith)
    way (s ∷ ss) (n ∷ ns) e = first_page s n ss ns (leb (s + n) (length b)) refl e (way ss ns)

    at : Why ss ns → Unread (room ≡ false) b ss ns
    at (inl h) = unlike h
    at (inr (j, x, y, z)) = outside j x y z

-- the test fails for one of the reasons
failed : (room : Bool) (b ss ns : List ℕ) → test room b ss ns ≡ false → Unread (room ≡ false) b ss ns
failed false b ss ns e = no_room refl
failed true b ss ns e = at (leb 1 (length ss)) refl (leb (length ss) 9) refl e
  where
    at : (x : Bool) → leb 1 (length ss) ≡ x → (y : Bool) → leb (length ss) 9 ≡ y → (x && (y && inside b ss ns)) ≡ false → Unread (true ≡ false) b ss ns
    at false p y q e = let h = leb-false 1 (length ss) p in no_page (omega arith)
    at true p false q e = many (leb-false (length ss) 9 q)
    at true p true q e = inside_false true b ss ns e

-- where it passes, all is as it should be
passed : (room : Bool) (b ss ns : List ℕ) → test room b ss ns ≡ true → (room ≡ true) × (1 ≤ length ss) × (length ss ≤ 9) × (inside b ss ns ≡ true)
passed room b ss ns e =
    let (r, e₁) = both room (leb 1 (length ss) && (leb (length ss) 9 && inside b ss ns)) e in
    let (l, e₂) = both (leb 1 (length ss)) (leb (length ss) 9 && inside b ss ns) e₁ in
    let (m, i) = both (leb (length ss) 9) (inside b ss ns) e₂ in
    (r, leb-true 1 (length ss) l, leb-true (length ss) 9 m, i)

-- so none of the reasons is there
not_both : (room : Bool) (b ss ns : List ℕ) → test room b ss ns ≡ true → Unread (room ≡ false) b ss ns → ⊥
not_both room b ss ns e = let (r, l, m, i) = passed room b ss ns e in at r l m (inside_true b ss ns i)
  where
    at : room ≡ true → 1 ≤ length ss → length ss ≤ 9 → Inside b ss ns → Unread (room ≡ false) b ss ns → ⊥
    at r l m I (no_room e) = no (sym r ∙ e)
    at r l m I (no_page e) = omega arith
    at r l m I (many h) = omega arith
    at r l m I (unlike h) = h I.alike
    at r l m I (outside j x y z) = let w = I.ends j x in omega arith

-- refusal 1 is given for just these reasons, at page 0 and place 0
pub one : (room : Bool) (b ss ns : List ℕ) (k i : ℕ) → (read_at room b ss ns ≡ refusal 1 k i) ↔ (Unread (room ≡ false) b ss ns × (k ≡ 0) × (i ≡ 0))
unfolding read_at
one room b ss ns k i = (λ e. there (test room b ss ns) refl e, λ (u, p, q). back (test room b ss ns) refl u p q)
  where
    there : (x : Bool) → test room b ss ns ≡ x → if x (read (pages_at b ss ns)) (refusal 1 0 0) ≡ refusal 1 k i → Unread (room ≡ false) b ss ns × (k ≡ 0) × (i ≡ 0)
    there true q e =
        let (r, l, m, h) = passed room b ss ns q in
        let n = pages_count b ss ns h in
        absurd (read_not_one (pages_at b ss ns) k i (omega arith) (omega arith) e)
    there false q e = (failed room b ss ns q, cc, cc)

    back : (x : Bool) → test room b ss ns ≡ x → Unread (room ≡ false) b ss ns → k ≡ 0 → i ≡ 0 → if x (read (pages_at b ss ns)) (refusal 1 0 0) ≡ refusal 1 k i
    back true e u p q = absurd (not_both room b ss ns e u)
    back false e u p q = rw (p, q)

-- without any of them the answer is that of reading the pages
pub else_read : (room : Bool) (b ss ns : List ℕ) → (Unread (room ≡ false) b ss ns → ⊥) → read_at room b ss ns ≡ read (pages_at b ss ns)
unfolding read_at
else_read room b ss ns h = at (test room b ss ns) refl
  where
    at : (x : Bool) → test room b ss ns ≡ x → if x (read (pages_at b ss ns)) (refusal 1 0 0) ≡ read (pages_at b ss ns)
    at true e = refl
    at false e = absurd (h (failed room b ss ns e))

-- ---- the rooms

-- the room is too small, said of the room itself
unread_for : {A B : Type 0} {b ss ns : List ℕ} → (A → B) → Unread A b ss ns → Unread B b ss ns
unread_for f (no_page e) = no_page e
unread_for f (many h) = many h
unread_for f (unlike h) = unlike h
unread_for f (outside j x y z) = outside j x y z
unread_for f (no_room a) = no_room (f a)

-- refusal 1 of a call whose room is too small exactly when TooSmall is the case
pub one_room : (TooSmall : Type 0) (room : Bool) → (room ≡ false) ↔ TooSmall → (b ss ns : List ℕ) (k i : ℕ)
    → (read_at room b ss ns ≡ refusal 1 k i) ↔ (Unread TooSmall b ss ns × (k ≡ 0) × (i ≡ 0))
one_room TooSmall room h b ss ns k i =
    let O = one room b ss ns k i in
    (λ e. let (u, x, y) = O.0 e in (unread_for h.0 u, x, y), λ (u, x, y). O.1 (unread_for h.1 u, x, y))

-- a room of m where n are asked for
pub room_short : (n m : ℕ) → (leb n m ≡ false) ↔ (m < n)
room_short n m = (leb-false n m, lt-leb n m)

-- the reader's room
pub room_small : (rows text : ℕ) → (roomy rows text ≡ false) ↔ ((rows < 256) ⊎ (text < 12600))
room_small rows text = (at (leb 256 rows) refl, back)
  where
    at : (x : Bool) → leb 256 rows ≡ x → (x && leb 12600 text) ≡ false → (rows < 256) ⊎ (text < 12600)
    at true q e = inr (leb-false 12600 text e)
    at false q e = inl (leb-false 256 rows q)

    back : (rows < 256) ⊎ (text < 12600) → roomy rows text ≡ false
    back (inl h) = rw (lt-leb 256 rows h)
    back (inr h) = rw (lt-leb 12600 text h) (and_off (leb 256 rows))
      where
        and_off : (x : Bool) → x && false ≡ false
        and_off true = refl
        and_off false = refl
