-- The listing determines the plan: no two sound plans have the same listing, and no listing is a refusal's lines.
-- Assumes nothing.
use mathlib.Core.Path.{◌≡◌, refl, ap, sym, ◌∙◌}
use mathlib.Core.Bool.{Bool, true, false, not, ◌&&◌, ◌||◌}
use mathlib.Core.List.{List, [], ◌∷◌, ◌++◌, append_assoc}
use Prim.Native.Nat.{ℕ, zero, suc, ◌+◌, ◌/◌, ◌%◌}
use native.Mathlib.Omega.{arith}
use lib.Dec.{eqb, ltb}
use lib.ListN.{length, drop}
use borrow.Author.Tests.{eq-eqb, ne_eqb}
use Rattle.paper.specs.Lists.{bytes, if, same, elem, twice, every, number}
use Rattle.paper.specs.Bytes.{is_decoded}
use Rattle.paper.specs.Fields.{Kind, MP, P, A, O, S, M, W, R, X, edition, Field, fields_of}
use Rattle.paper.specs.Plan.{Slots, Row, Head, Plan}
use Rattle.paper.specs.Judging.{item, row_of}
use Rattle.paper.specs.Writing.{good_slot, good_slots, good_element, digits_of, decimal, sound_head, sound_row, sound, row_slots}
use Rattle.paper.specs.Listing.{Line, line, path, field_lines, element_lines, mp_listed, head_lines, w_lines, row_mark, row_lines, rows_lines, numeral, plan_lines, print, listing, refusal_lines}
use Rattle.paper.proofs.Small.{no, both, neither, no_not, and_intro, same_self, same_comm, every_append}
use Rattle.paper.proofs.Element.{good_slots_lem, good_whole, good_value_lem}
use Rattle.paper.proofs.Rows.{View, head, med, rec, free, AllSound, all_sound, back_one, decimal_back}
use Rattle.paper.proofs.Sheets.{head_sound_lem}
use Rattle.paper.proofs.ReadSound.{p_f, u_f, l_f, parts}
use Rattle.paper.proofs.ByKind.{each, none}

-- ---- lines are told apart by `=` and byte 10

-- any byte but this one
abbrev pub is_not : ℕ → ℕ → Bool
is_not b c = not (eqb c b)

-- keys hold no `=`, values no byte 10
abbrev pub Clean : List Line → Type 0
Clean [] = Unit {0}
Clean (l ∷ ls) = (every (is_not 61) l.key ≡ true) × (every (is_not 10) l.value ≡ true) × Clean ls

clean_append : (a b : List Line) → Clean a → Clean b → Clean (a ++ b)
clean_append [] b x y = y
clean_append (l ∷ a) b x y = (x.0, x.1, clean_append a b x.2 y)

not_self : {B : Type 0} (b c : ℕ) (s : List ℕ) → every (is_not b) (c ∷ s) ≡ true → c ≡ b → B
not_self b c s e q = no (sym (both (is_not b c) (every (is_not b) s) e).0 ∙ ap not (eq-eqb c b q))

-- two lists up to the first byte b
split : (b : ℕ) (s t x y : List ℕ) → every (is_not b) s ≡ true → every (is_not b) t ≡ true → s ++ b ∷ x ≡ t ++ b ∷ y → (s ≡ t) × (x ≡ y)
split b [] [] x y g h e = (refl, cc)
split b [] (d ∷ t) x y g h e = not_self b d t h cc
split b (c ∷ s) [] x y g h e = not_self b c s g cc
split b (c ∷ s) (d ∷ t) x y g h e =
    let q : c ≡ d = cc in
    let r : s ++ b ∷ x ≡ t ++ b ∷ y = cc in
    let (i, j) = split b s t x y (both (is_not b c) (every (is_not b) s) g).1 (both (is_not b d) (every (is_not b) t) h).1 r in
    (rw (q, i), j)

not_nil : {B : Type 0} (s : List ℕ) (b : ℕ) (x : List ℕ) → [] ≡ s ++ b ∷ x → B
not_nil [] b x e = let z : ◌≡◌ {A = ℕ} 0 1 = cc in absurd (omega arith)
not_nil (c ∷ s) b x e = let z : ◌≡◌ {A = ℕ} 0 1 = cc in absurd (omega arith)

-- Lines whose keys hold no `=` and whose values hold no byte 10 are determined by their print.
pub print_once : (ls ms : List Line) → Clean ls → Clean ms → print ls ≡ print ms → ls ≡ ms
print_once [] [] g h e = refl
print_once [] (m ∷ ms) g h e = not_nil m.key 61 (m.value ++ 10 ∷ print ms) e
print_once (l ∷ ls) [] g h e = not_nil l.key 61 (l.value ++ 10 ∷ print ls) (sym e)
print_once (l ∷ ls) (m ∷ ms) g h e =
    let (k, r) = split 61 l.key m.key (l.value ++ 10 ∷ print ls) (m.value ++ 10 ∷ print ms) g.0 h.0 e in
    let (v, t) = split 10 l.value m.value (print ls) (print ms) g.1 h.1 r in
    make l.key m.key l.value m.value ls ms k v (print_once ls ms g.2 h.2 t)
  where
    make : (k k' v v' : List ℕ) (ls ms : List Line) → k ≡ k' → v ≡ v' → ls ≡ ms → line k v ∷ ls ≡ line k' v' ∷ ms
    make k k' v v' ls ms a b c = rw (a, b, c)

-- ---- the lines of an element determine its slots

-- the keys of an element's fields
abbrev pub keys_of : List ℕ → List Field → List (List ℕ)
keys_of k [] = []
keys_of k (f ∷ fs) = (k ++ f.letters) ∷ keys_of k fs

-- the keys of an element
abbrev keys : Kind → List (List ℕ)
keys k = keys_of (path k) (fields_of k)

-- the first line has this key
abbrev pub first_is_lem : List ℕ → List Line → Bool
first_is_lem n [] = false
first_is_lem n (l ∷ ls) = same l.key n

-- the first line has none of these keys
abbrev pub outside : List (List ℕ) → List Line → Bool
outside ns x = every (λ n. not (first_is_lem n x)) ns

-- the value of the first line
abbrev first_value : List Line → List ℕ
first_value [] = []
first_value (l ∷ ls) = l.value

-- the lines behind the first
abbrev behind : List Line → List Line
behind [] = []
behind (l ∷ ls) = ls

first_not : (n k : List ℕ) (fs : List Field) (vs : Slots) (x : List Line) → elem n (keys_of k fs) ≡ false → first_is_lem n x ≡ false → first_is_lem n (field_lines k fs vs ++ x) ≡ false
first_not n k [] vs x e o = o
first_not n k (f ∷ fs) [] x e o = o
first_not n k (f ∷ fs) ([] ∷ vs) x e o = first_not n k fs vs x (neither (same n (k ++ f.letters)) (elem n (keys_of k fs)) e).1 o
first_not n k (f ∷ fs) ((c ∷ v) ∷ vs) x e o = same_comm (k ++ f.letters) n ∙ (neither (same n (k ++ f.letters)) (elem n (keys_of k fs)) e).0

-- a field that is absent here and present there tells the lines apart
told_apart : {B : Type 0} (n k v : List ℕ) (fs : List Field) (vs : Slots) (x y : List Line) → elem n (keys_of k fs) ≡ false → first_is_lem n x ≡ false → field_lines k fs vs ++ x ≡ line n v ∷ y → B
told_apart n k v fs vs x y e o q = no (sym (same_self n) ∙ sym (ap (first_is_lem n) q) ∙ first_not n k fs vs x e o)

-- The lines of an element, whatever follows under other keys, determine its slots and what follows.
pub slots_once : (k : List ℕ) (fs : List Field) (vs us : Slots) (x y : List Line) → twice (keys_of k fs) ≡ false → length vs ≡ length fs → length us ≡ length fs
    → outside (keys_of k fs) x ≡ true → outside (keys_of k fs) y ≡ true → field_lines k fs vs ++ x ≡ field_lines k fs us ++ y → (vs ≡ us) × (x ≡ y)
slots_once k [] [] [] x y d l m o p e = (refl, e)
slots_once k [] [] (u ∷ us) x y d l m o p e = absurd (omega arith)
slots_once k [] (v ∷ vs) us x y d l m o p e = absurd (omega arith)
slots_once k (f ∷ fs) [] us x y d l m o p e = absurd (omega arith)
slots_once k (f ∷ fs) (v ∷ vs) [] x y d l m o p e = absurd (omega arith)
slots_once k (f ∷ fs) (v ∷ vs) (u ∷ us) x y d l m o p e =
    let n : List ℕ = k ++ f.letters in
    let (a, b) = neither (elem n (keys_of k fs)) (twice (keys_of k fs)) d in
    let (i, j) = both (not (first_is_lem n x)) (outside (keys_of k fs) x) o in
    let (g, h) = both (not (first_is_lem n y)) (outside (keys_of k fs) y) p in
    at v u a (no_not (first_is_lem n x) i) (no_not (first_is_lem n y) g) e (λ q. slots_once k fs vs us x y b (omega arith) (omega arith) j h q)
  where
    at : (v u : List ℕ) → elem (k ++ f.letters) (keys_of k fs) ≡ false → first_is_lem (k ++ f.letters) x ≡ false → first_is_lem (k ++ f.letters) y ≡ false
        → field_lines k (f ∷ fs) (v ∷ vs) ++ x ≡ field_lines k (f ∷ fs) (u ∷ us) ++ y → (field_lines k fs vs ++ x ≡ field_lines k fs us ++ y → (vs ≡ us) × (x ≡ y)) → (v ∷ vs ≡ u ∷ us) × (x ≡ y)
    at [] [] a i g e ih = let (q, r) = ih e in (rw q, r)
    at [] (c ∷ u) a i g e ih = told_apart (k ++ f.letters) k (c ∷ u) fs vs x (field_lines k fs us ++ y) a i e
    at (c ∷ v) [] a i g e ih = told_apart (k ++ f.letters) k (c ∷ v) fs us y (field_lines k fs vs ++ x) a g (sym e)
    at (c ∷ v) (d ∷ u) a i g e ih =
        let s : c ∷ v ≡ d ∷ u = ap first_value e in
        let (q, r) = ih (ap behind e) in
        (rw (s, q), r)

distinct_keys : (k : Kind) → twice (keys k) ≡ false
unfolding fields_of
distinct_keys k = none (λ k. twice (keys k)) refl k

good_length : (fs : List Field) (vs : Slots) → good_slots fs vs ≡ true → length vs ≡ length fs
good_length [] [] g = refl
good_length [] (v ∷ vs) g = no (sym g)
good_length (f ∷ fs) [] g = no (sym g)
good_length (f ∷ fs) (v ∷ vs) g = ap suc (good_length fs vs (both (good_slot f v) (good_slots fs vs) g).1)

element_once : (k : Kind) (vs us : Slots) (x y : List Line) → good_element k vs ≡ true → good_element k us ≡ true → outside (keys k) x ≡ true → outside (keys k) y ≡ true
    → element_lines k vs ++ x ≡ element_lines k us ++ y → (vs ≡ us) × (x ≡ y)
element_once k vs us x y g h o p e =
    slots_once (path k) (fields_of k) vs us x y (distinct_keys k) (good_length (fields_of k) vs (good_slots_lem k vs g)) (good_length (fields_of k) us (good_slots_lem k us h)) o p e

-- ---- what follows an element

-- no key of the first list is one of the second
abbrev apart : List (List ℕ) → List (List ℕ) → Bool
apart ns ms = every (λ n. not (elem n ms)) ns

outside_element : (ns : List (List ℕ)) (k : Kind) (vs : Slots) (x : List Line) → apart ns (keys k) ≡ true → outside ns x ≡ true → outside ns (element_lines k vs ++ x) ≡ true
outside_element [] k vs x a o = refl
outside_element (n ∷ ns) k vs x a o =
    let (b, c) = both (not (elem n (keys k))) (apart ns (keys k)) a in
    let (i, j) = both (not (first_is_lem n x)) (outside ns x) o in
    and_intro (not (first_is_lem n (element_lines k vs ++ x))) (outside ns (element_lines k vs ++ x))
    (ap not (first_not n (path k) (fields_of k) vs x (no_not (elem n (keys k)) b) (no_not (first_is_lem n x) i))) (outside_element ns k vs x c j)

outside_line : (ns : List (List ℕ)) (k v : List ℕ) (x : List Line) → apart ns (k ∷ []) ≡ true → outside ns (line k v ∷ x) ≡ true
outside_line [] k v x a = refl
outside_line (n ∷ ns) k v x a =
    let (b, c) = both (not (same n k || false)) (apart ns (k ∷ [])) a in
    let q = (neither (same n k) false (no_not (same n k || false) b)).0 in
    and_intro (not (same k n)) (outside ns (line k v ∷ x)) (ap not (same_comm k n ∙ q)) (outside_line ns k v x c)

-- ---- the W of an M

-- a good W has its w
data Full : Slots → Type 0 where
  full : (c : ℕ) (v s : List ℕ) → Full ((c ∷ v) ∷ s ∷ [])

two_slots : (w : Slots) → good_element W w ≡ true → length w ≡ 2
unfolding fields_of
two_slots w g = good_length (fields_of W) w (good_slots_lem W w g)

full_w : (w : Slots) → good_element W w ≡ true → Full w
unfolding fields_of
full_w [] g = absurd (omega (arith, two_slots [] g))
full_w ([] ∷ vs) g = no (good_whole W ([] ∷ vs) g).0
full_w ((c ∷ v) ∷ []) g = absurd (omega (arith, two_slots ((c ∷ v) ∷ []) g))
full_w ((c ∷ v) ∷ s ∷ []) g = full c v s
full_w ((c ∷ v) ∷ s ∷ t ∷ vs) g = absurd (omega (arith, two_slots ((c ∷ v) ∷ s ∷ t ∷ vs) g))

-- the key of a W's w
abbrev w_key : List ℕ
w_key = bytes "MP.S.M.W.w"

-- the key of a W's s
abbrev s_key : List ℕ
s_key = bytes "MP.S.M.W.s"

outside_w : (x : List Line) → outside (keys W) x ≡ true → (first_is_lem w_key x ≡ false) × (first_is_lem s_key x ≡ false)
unfolding fields_of
outside_w x o =
    let (a, b) = both (not (first_is_lem w_key x)) (not (first_is_lem s_key x) && true) o in
    (no_not (first_is_lem w_key x) a, no_not (first_is_lem s_key x) (both (not (first_is_lem s_key x)) true b).0)

-- a W's first line is its w, so no line of it is taken for the next one's
first_w : {w : Slots} → Full w → (x : List Line) → (first_is_lem w_key (element_lines W w ++ x) ≡ true) × (first_is_lem s_key (element_lines W w ++ x) ≡ false)
unfolding fields_of
first_w (full c v s) x = (refl, refl)

s_not_first : (ws : List Slots) (x : List Line) → every (good_element W) ws ≡ true → first_is_lem s_key x ≡ false → first_is_lem s_key (w_lines ws ++ x) ≡ false
s_not_first [] x g o = o
s_not_first (w ∷ ws) x g o = ap (first_is_lem s_key) (append_assoc (element_lines W w) (w_lines ws) x) ∙ (first_w (full_w w (both (good_element W w) (every (good_element W) ws) g).0) (w_lines ws ++ x)).1

w_once : {w u : Slots} → Full w → Full u → (x y : List Line) → first_is_lem s_key x ≡ false → first_is_lem s_key y ≡ false → element_lines W w ++ x ≡ element_lines W u ++ y → (w ≡ u) × (x ≡ y)
unfolding fields_of
w_once (full c v s) (full d u t) x y o p e =
    let a : c ∷ v ≡ d ∷ u = ap first_value e in
    let (b, r) = slots_once (path W) (drop 1 (fields_of W)) (s ∷ []) (t ∷ []) x y refl refl refl (rw o) (rw p) (ap behind e) in
    (ap (λ (z : List ℕ). z ∷ s ∷ []) a ∙ ap (λ (z : Slots). (d ∷ u) ∷ z) b, r)

ws_once : (ws us : List Slots) (x y : List Line) → every (good_element W) ws ≡ true → every (good_element W) us ≡ true → outside (keys W) x ≡ true → outside (keys W) y ≡ true
    → w_lines ws ++ x ≡ w_lines us ++ y → (ws ≡ us) × (x ≡ y)
ws_once [] [] x y g h o p e = (refl, e)
ws_once [] (u ∷ us) x y g h o p e =
    let f = full_w u (both (good_element W u) (every (good_element W) us) h).0 in
    no (sym (first_w f (w_lines us ++ y)).0 ∙ sym (ap (first_is_lem w_key) (e ∙ append_assoc (element_lines W u) (w_lines us) y)) ∙ (outside_w x o).0)
ws_once (w ∷ ws) [] x y g h o p e =
    let f = full_w w (both (good_element W w) (every (good_element W) ws) g).0 in
    no (sym (first_w f (w_lines ws ++ x)).0 ∙ sym (ap (first_is_lem w_key) (sym e ∙ append_assoc (element_lines W w) (w_lines ws) x)) ∙ (outside_w y p).0)
ws_once (w ∷ ws) (u ∷ us) x y g h o p e =
    let (g₁, g₂) = both (good_element W w) (every (good_element W) ws) g in
    let (h₁, h₂) = both (good_element W u) (every (good_element W) us) h in
    let q : element_lines W w ++ (w_lines ws ++ x) ≡ element_lines W u ++ (w_lines us ++ y) = sym (append_assoc (element_lines W w) (w_lines ws) x) ∙ e ∙ append_assoc (element_lines W u) (w_lines us) y in
    let (a, r) = w_once (full_w w g₁) (full_w u h₁) (w_lines ws ++ x) (w_lines us ++ y) (s_not_first ws x g₂ (outside_w x o).1) (s_not_first us y h₂ (outside_w y p).1) q in
    let (b, t) = ws_once ws us x y g₂ h₂ o p r in
    (rw (a, b), t)

-- ---- rows

-- the kind of row that a mark stands for
abbrev marked : List ℕ → Kind
marked m = if (same m (bytes "H")) S (if (same m (bytes "M")) M (if (same m (bytes "R")) R X))

-- what a sound row's lines show: good slots, good W, the kind by its mark, and no key that a W has
record Known (r : Row) : Type 0 where
  good : good_element r.kind (row_slots r) ≡ true
  inner : every (good_element W) r.ws ≡ true
  mark : marked (row_mark r.kind) ≡ r.kind
  aside : apart (keys r.kind) (keys W) ≡ true

known : {r : Row} → View r → Known r
unfolding fields_of
known (head vs e g) = record { good = g; inner = refl; mark = refl; aside = refl }
known (med n vs ws l w e g) = record { good = g; inner = w; mark = refl; aside = refl }
known (rec vs g) = record { good = g; inner = refl; mark = refl; aside = refl }
known (free vs g) = record { good = g; inner = refl; mark = refl; aside = refl }

outside_ws : (ns : List (List ℕ)) (ws : List Slots) (x : List Line) → apart ns (keys W) ≡ true → outside ns x ≡ true → outside ns (w_lines ws ++ x) ≡ true
outside_ws ns [] x a o = o
outside_ws ns (w ∷ ws) x a o = ap (outside ns) (append_assoc (element_lines W w) (w_lines ws) x) ∙ outside_element ns W w (w_lines ws ++ x) a (outside_ws ns ws x a o)

-- what no element's line begins with
abbrev Aside : List Line → Type 0
Aside x = (k : Kind) → outside (keys k) x ≡ true

inside_once : (k : Kind) (vs us : Slots) (ws zs : List Slots) (x y : List Line) → good_element k vs ≡ true → good_element k us ≡ true → every (good_element W) ws ≡ true → every (good_element W) zs ≡ true
    → apart (keys k) (keys W) ≡ true → Aside x → Aside y → (element_lines k vs ++ w_lines ws) ++ x ≡ (element_lines k us ++ w_lines zs) ++ y → (vs ≡ us) × (ws ≡ zs) × (x ≡ y)
inside_once k vs us ws zs x y g h i j a o p e =
    let q : element_lines k vs ++ (w_lines ws ++ x) ≡ element_lines k us ++ (w_lines zs ++ y) = sym (append_assoc (element_lines k vs) (w_lines ws) x) ∙ e ∙ append_assoc (element_lines k us) (w_lines zs) y in
    let (b, r) = element_once k vs us (w_lines ws ++ x) (w_lines zs ++ y) g h (outside_ws (keys k) ws x a (o k)) (outside_ws (keys k) zs y a (p k)) q in
    let (c, t) = ws_once ws zs x y i j (o W) (p W) r in
    (b, c, t)

row_once : {r q : Row} → View r → View q → (x y : List Line) → Aside x → Aside y → row_lines r ++ x ≡ row_lines q ++ y → (r ≡ q) × (x ≡ y)
row_once {r} {q} v u x y o p e =
    let K = known v in
    let J = known u in
    let k : q.kind ≡ r.kind = sym J.mark ∙ ap marked (sym (ap first_value e)) ∙ K.mark in
    let h : good_element r.kind (row_slots q) ≡ true = ap (λ (j : Kind). good_element j (row_slots q)) (sym k) ∙ J.good in
    let t : (element_lines r.kind (row_slots r) ++ w_lines r.ws) ++ x ≡ (element_lines r.kind (row_slots q) ++ w_lines q.ws) ++ y = ap behind e ∙ ap (λ (j : Kind). (element_lines j (row_slots q) ++ w_lines q.ws) ++ y) k in
    let (a, b, c) = inside_once r.kind (row_slots r) (row_slots q) r.ws q.ws x y K.good h K.inner J.inner K.aside o p t in
    let rows : r ∷ [] ≡ q ∷ [] = sym (back_one v) ∙ told r.kind q.kind (row_slots r) (row_slots q) r.ws q.ws (sym k) a b ∙ back_one u in
    (ap (first_row r) rows, c)
  where
    told : (j k : Kind) (vs us : Slots) (ws zs : List Slots) → j ≡ k → vs ≡ us → ws ≡ zs → row_of (item j vs ws) ≡ row_of (item k us zs)
    told j k vs us ws zs a b c = rw (a, b, c)

    first_row : Row → List Row → Row
    first_row d [] = d
    first_row d (r ∷ rs) = r

keys_aside : (k : Kind) → (apart (keys k) (bytes "row" ∷ []) && apart (keys k) (bytes "rows" ∷ [])) ≡ true
unfolding fields_of
keys_aside k = each (λ k. apart (keys k) (bytes "row" ∷ []) && apart (keys k) (bytes "rows" ∷ [])) refl k

-- the rows and the row count, which the head's lines are followed by
abbrev rows_and : List Row → List ℕ → List Line
rows_and rs n = rows_lines rs ++ line (bytes "rows") n ∷ []

rows_aside : (rs : List Row) (n : List ℕ) → Aside (rows_and rs n)
rows_aside [] n k = outside_line (keys k) (bytes "rows") n [] (both (apart (keys k) (bytes "row" ∷ [])) (apart (keys k) (bytes "rows" ∷ [])) (keys_aside k)).1
rows_aside (r ∷ rs) n k =
    outside_line (keys k) (bytes "row") (row_mark r.kind) (behind (rows_and (r ∷ rs) n)) (both (apart (keys k) (bytes "row" ∷ [])) (apart (keys k) (bytes "rows" ∷ [])) (keys_aside k)).0

rows_once : (rs qs : List Row) (n m : List ℕ) → AllSound rs → AllSound qs → rows_and rs n ≡ rows_and qs m → rs ≡ qs
rows_once [] [] n m a b e = refl
rows_once [] (q ∷ qs) n m a b e = no (sym (ap (first_is_lem (bytes "row")) e))
rows_once (r ∷ rs) [] n m a b e = no (ap (first_is_lem (bytes "row")) e)
rows_once (r ∷ rs) (q ∷ qs) n m a b e =
    let t : row_lines r ++ rows_and rs n ≡ row_lines q ++ rows_and qs m = sym (append_assoc (row_lines r) (rows_lines rs) (line (bytes "rows") n ∷ [])) ∙ e ∙ append_assoc (row_lines q) (rows_lines qs) (line (bytes "rows") m ∷ []) in
    let (c, d) = row_once a.0 b.0 (rows_and rs n) (rows_and qs m) (rows_aside rs n) (rows_aside qs m) t in
    rw (c, rows_once rs qs n m a.1 b.1 d)

-- ---- the head

head_apart : (apart (keys MP) (keys P) ≡ true) × (apart (keys MP) (keys A) ≡ true) × (apart (keys MP) (keys O) ≡ true)
    × (apart (keys P) (keys A) ≡ true) × (apart (keys P) (keys O) ≡ true) × (apart (keys A) (keys O) ≡ true)
unfolding fields_of
head_apart = (refl, refl, refl, refl, refl, refl)

listed_length : (h : Head) → length (mp_listed h) ≡ length (fields_of MP)
unfolding fields_of
listed_length h = refl

-- the lines of O and what follows
abbrev o_and : Head → List Line → List Line
o_and h x = element_lines O h.measures ++ x

-- the lines of A and what follows
abbrev a_and : Head → List Line → List Line
a_and h x = element_lines A h.author ++ o_and h x

-- the lines of P and what follows
abbrev p_and : Head → List Line → List Line
p_and h x = element_lines P h.person ++ a_and h x

head_and : (h : Head) (x : List Line) → head_lines h ++ x ≡ element_lines MP (mp_listed h) ++ p_and h x
head_and h x =
    let o : List Line = element_lines O h.measures in
    let a : List Line = element_lines A h.author in
    let p : List Line = element_lines P h.person in
    append_assoc (element_lines MP (mp_listed h)) (p ++ (a ++ o)) x
    ∙ ap (λ (l : List Line). element_lines MP (mp_listed h) ++ l) (append_assoc p (a ++ o) x ∙ ap (λ (l : List Line). p ++ l) (append_assoc a o x))

-- behind each element of a head no line has one of its keys first
record HeadAside (h : Head) (x : List Line) : Type 0 where
  of_mp : outside (keys MP) (p_and h x) ≡ true
  of_p : outside (keys P) (a_and h x) ≡ true
  of_a : outside (keys A) (o_and h x) ≡ true

head_aside : (h : Head) (x : List Line) → Aside x → HeadAside h x
head_aside h x o =
    let (mp, ma, mo, pa, po, ao) = head_apart in
    let after : (k : Kind) → apart (keys k) (keys O) ≡ true → outside (keys k) (o_and h x) ≡ true = λ k s. outside_element (keys k) O h.measures x s (o k) in
    let before : (k : Kind) → apart (keys k) (keys A) ≡ true → apart (keys k) (keys O) ≡ true → outside (keys k) (a_and h x) ≡ true = λ k s t. outside_element (keys k) A h.author (o_and h x) s (after k t) in
    record { of_mp = outside_element (keys MP) P h.person (a_and h x) mp (before MP ma mo); of_p = before P pa po; of_a = after A ao }

patch_good : (h : Head) → sound_head h ≡ true → good_slot p_f (decimal h.patch) ≡ true
patch_good h e = (parts edition (decimal h.patch) h.ident h.lang (49 ∷ []) (49 ∷ []) (head_sound_lem h e).mp_ok).0

same_patch : (h g : Head) → sound_head h ≡ true → sound_head g ≡ true → decimal h.patch ≡ decimal g.patch → h.patch ≡ g.patch
same_patch h g s t e = sym (decimal_back p_f h.patch (omega arith) (patch_good h s)) ∙ ap (number 0) e ∙ decimal_back p_f g.patch (omega arith) (patch_good g t)

head_once : (h g : Head) (x y : List Line) → sound_head h ≡ true → sound_head g ≡ true → Aside x → Aside y → head_lines h ++ x ≡ head_lines g ++ y → (h ≡ g) × (x ≡ y)
head_once h g x y s t o p e =
    let H = head_aside h x o in
    let G = head_aside g y p in
    let K = head_sound_lem h s in
    let J = head_sound_lem g t in
    let (mp, e₁) = slots_once (path MP) (fields_of MP) (mp_listed h) (mp_listed g) (p_and h x) (p_and g y) (distinct_keys MP) (listed_length h) (listed_length g) H.of_mp G.of_mp (sym (head_and h x) ∙ e ∙ head_and g y) in
    let (per, e₂) = element_once P h.person g.person (a_and h x) (a_and g y) K.person_ok J.person_ok H.of_p G.of_p e₁ in
    let (aut, e₃) = element_once A h.author g.author (o_and h x) (o_and g y) K.author_ok J.author_ok H.of_a G.of_a e₂ in
    let (mea, e₄) = element_once O h.measures g.measures x y K.measures_ok J.measures_ok (o O) (p O) e₃ in
    let n : decimal h.patch ≡ decimal g.patch = cc in
    let i : h.ident ≡ g.ident = cc in
    let l : h.lang ≡ g.lang = cc in
    (make h.patch g.patch h.ident g.ident h.lang g.lang h.person g.person h.author g.author h.measures g.measures (same_patch h g s t n) i l per aut mea, e₄)
  where
    make : (p p' : ℕ) (i i' l l' : List ℕ) (x x' y y' z z' : Slots) → p ≡ p' → i ≡ i' → l ≡ l' → x ≡ x' → y ≡ y' → z ≡ z'
        → ◌≡◌ {A = Head} (record { patch = p; ident = i; lang = l; person = x; author = y; measures = z }) (record { patch = p'; ident = i'; lang = l'; person = x'; author = y'; measures = z' })
    make p p' i i' l l' x x' y y' z z' a b c d e f = rw (a, b, c, d, e, f)

-- ---- the lines of a sound plan are clean

not_ten : (c : ℕ) → is_decoded c ≡ true → is_not 10 c ≡ true
not_ten c e = ap not (ne_eqb c 10 (λ q. no (sym e ∙ ap is_decoded q)))

decoded_plain : (v : List ℕ) → every is_decoded v ≡ true → every (is_not 10) v ≡ true
decoded_plain [] e = refl
decoded_plain (c ∷ v) e = let (a, b) = both (is_decoded c) (every is_decoded v) e in and_intro (is_not 10 c) (every (is_not 10) v) (not_ten c a) (decoded_plain v b)

slot_plain : (f : Field) (v : List ℕ) → good_slot f v ≡ true → every (is_not 10) v ≡ true
slot_plain f [] g = refl
slot_plain f (c ∷ v) g = decoded_plain (c ∷ v) (good_value_lem f c v g).decoded

-- no slot holds a byte 10
abbrev plain : Slots → Bool
plain vs = every (every (is_not 10)) vs

slots_plain : (fs : List Field) (vs : Slots) → good_slots fs vs ≡ true → plain vs ≡ true
slots_plain [] [] g = refl
slots_plain [] (v ∷ vs) g = no (sym g)
slots_plain (f ∷ fs) [] g = no (sym g)
slots_plain (f ∷ fs) (v ∷ vs) g = let (a, b) = both (good_slot f v) (good_slots fs vs) g in and_intro (every (is_not 10) v) (plain vs) (slot_plain f v a) (slots_plain fs vs b)

fields_clean : (k : List ℕ) (fs : List Field) (vs : Slots) → every (every (is_not 61)) (keys_of k fs) ≡ true → plain vs ≡ true → Clean (field_lines k fs vs)
fields_clean k [] vs g h = tt
fields_clean k (f ∷ fs) [] g h = tt
fields_clean k (f ∷ fs) ([] ∷ vs) g h = fields_clean k fs vs (both (every (is_not 61) (k ++ f.letters)) (every (every (is_not 61)) (keys_of k fs)) g).1 h
fields_clean k (f ∷ fs) ((c ∷ v) ∷ vs) g h =
    let (a, b) = both (every (is_not 61) (k ++ f.letters)) (every (every (is_not 61)) (keys_of k fs)) g in
    let (i, j) = both (every (is_not 10) (c ∷ v)) (plain vs) h in
    (a, i, fields_clean k fs vs b j)

keys_clean : (k : Kind) → every (every (is_not 61)) (keys k) ≡ true
unfolding fields_of
keys_clean k = each (λ k. every (every (is_not 61)) (keys k)) refl k

element_clean : (k : Kind) (vs : Slots) → good_element k vs ≡ true → Clean (element_lines k vs)
element_clean k vs g = fields_clean (path k) (fields_of k) vs (keys_clean k) (slots_plain (fields_of k) vs (good_slots_lem k vs g))

ws_clean : (ws : List Slots) → every (good_element W) ws ≡ true → Clean (w_lines ws)
ws_clean [] g = tt
ws_clean (w ∷ ws) g = let (a, b) = both (good_element W w) (every (good_element W) ws) g in clean_append (element_lines W w) (w_lines ws) (element_clean W w a) (ws_clean ws b)

mark_plain : (k : Kind) → every (is_not 10) (row_mark k) ≡ true
mark_plain k = each (λ k. every (is_not 10) (row_mark k)) refl k

rows_clean : (rs : List Row) → AllSound rs → Clean (rows_lines rs)
rows_clean [] a = tt
rows_clean (r ∷ rs) a =
    let K = known a.0 in
    clean_append (row_lines r) (rows_lines rs)
    (refl, mark_plain r.kind, clean_append (element_lines r.kind (row_slots r)) (w_lines r.ws) (element_clean r.kind (row_slots r) K.good) (ws_clean r.ws K.inner)) (rows_clean rs a.1)

head_clean : (h : Head) → sound_head h ≡ true → Clean (head_lines h)
head_clean h e =
    let K = head_sound_lem h e in
    let (p, u, l, n) = parts edition (decimal h.patch) h.ident h.lang (49 ∷ []) (49 ∷ []) K.mp_ok in
    let mp : plain (mp_listed h) ≡ true = rw (slot_plain p_f (decimal h.patch) p, slot_plain u_f h.ident u, slot_plain l_f h.lang l) in
    clean_append (element_lines MP (mp_listed h)) (element_lines P h.person ++ (element_lines A h.author ++ element_lines O h.measures)) (fields_clean (path MP) (fields_of MP) (mp_listed h) (keys_clean MP) mp)
    (clean_append (element_lines P h.person) (element_lines A h.author ++ element_lines O h.measures) (element_clean P h.person K.person_ok)
    (clean_append (element_lines A h.author) (element_lines O h.measures) (element_clean A h.author K.author_ok) (element_clean O h.measures K.measures_ok)))

digits_plain : (k n : ℕ) → every (is_not 10) (digits_of k n) ≡ true
digits_plain zero n = refl
digits_plain (suc k) n = at (ltb n 10) (digits_plain k (n / 10))
  where
    high : (m : ℕ) → every (is_not 10) ((48 + m) ∷ []) ≡ true
    high m = and_intro (is_not 10 (48 + m)) true (ap not (ne_eqb (48 + m) 10 (omega arith))) refl

    at : (b : Bool) → every (is_not 10) (digits_of k (n / 10)) ≡ true → every (is_not 10) (if b ((48 + n) ∷ []) (digits_of k (n / 10) ++ (48 + n % 10) ∷ [])) ≡ true
    at true ih = high n
    at false ih = every_append (is_not 10) (digits_of k (n / 10)) ((48 + n % 10) ∷ []) ih (high (n % 10))

plan_clean : (p : Plan) → sound p ≡ true → Clean (plan_lines p)
unfolding plan_lines
plan_clean p e =
    let (h, r) = both (sound_head p.head) (every sound_row p.rows) e in
    clean_append (head_lines p.head) (rows_and p.rows (numeral (length p.rows))) (head_clean p.head h)
    (clean_append (rows_lines p.rows) (line (bytes "rows") (numeral (length p.rows)) ∷ []) (rows_clean p.rows (all_sound p.rows r)) (refl, digits_plain 20 (length p.rows), tt))

-- ---- the listing

lines_once : (p q : Plan) → sound p ≡ true → sound q ≡ true → plan_lines p ≡ plan_lines q → p ≡ q
unfolding plan_lines
lines_once p q s t e =
    let (h, r) = both (sound_head p.head) (every sound_row p.rows) s in
    let (g, u) = both (sound_head q.head) (every sound_row q.rows) t in
    let n : List ℕ = numeral (length p.rows) in
    let m : List ℕ = numeral (length q.rows) in
    let (a, d) = head_once p.head q.head (rows_and p.rows n) (rows_and q.rows m) h g (rows_aside p.rows n) (rows_aside q.rows m) e in
    make p.head q.head p.rows q.rows a (rows_once p.rows q.rows n m (all_sound p.rows r) (all_sound q.rows u) d)
  where
    make : (h g : Head) (rs qs : List Row) → h ≡ g → rs ≡ qs → ◌≡◌ {A = Plan} (record { head = h; rows = rs }) (record { head = g; rows = qs })
    make h g rs qs a b = rw (a, b)

-- The listing determines the plan: sound plans with the same listing are the same.
pub listing_once : (p q : Plan) → sound p ≡ true → sound q ≡ true → listing p ≡ listing q → p ≡ q
unfolding listing
listing_once p q s t e = lines_once p q s t (print_once (plan_lines p) (plan_lines q) (plan_clean p s) (plan_clean q t) e)

-- the first byte
abbrev first_byte : List ℕ → ℕ
first_byte [] = 0
first_byte (c ∷ s) = c

-- A refusal's lines are no plan's listing: a listing begins with "MP.v=", a refusal's lines with "refused=".
pub refusal_no_listing : (p : Plan) (n k i : ℕ) → listing p ≡ refusal_lines n k i → ⊥
unfolding listing plan_lines refusal_lines fields_of
refusal_no_listing p n k i e = let b : ◌≡◌ {A = ℕ} 77 114 = ap first_byte e in omega arith
