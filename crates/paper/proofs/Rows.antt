-- The rows of a fresh page: fine, and they say the rows.
use mathlib.Core.Path.{◌≡◌, refl, sym}
use mathlib.Core.Bool.{Bool, true, false, not, ◌&&◌, ◌||◌}
use mathlib.Core.List.{List, [], ◌∷◌, ◌++◌, append_assoc, append-nil}
use Prim.Native.Nat.{ℕ, zero, suc, ◌+◌, ◌*◌, ◌-◌, ◌/◌, ◌%◌, ◌≤◌, ◌<◌}
use native.Mathlib.Omega.{arith}
use lib.Dec.{eqb, leb, ltb}
use lib.ListN.{length, length-append, drop}
use borrow.Author.Tests.{eqb-true, ne_eqb, leb-true, lt-leb}
use Rattle.paper.specs.Lists.{bytes, if, same, every, some_of, is_empty, number, count}
use Rattle.paper.specs.Bytes.{is_decoded}
use Rattle.paper.proofs.Small.{no, both, no_not}
use Rattle.paper.specs.Fields.{Kind, unknown, MP, P, A, O, S, M, W, R, X, is, Field, field, pzn, fields_of, tag_name, later}
use Rattle.paper.specs.Rules.{keeps, obeys, is_zero}
use Rattle.paper.specs.Values.{cut}
use Rattle.paper.specs.Plan.{Slots, slot, Row, blank}
use Rattle.paper.specs.Judging.{Frame, Stack, misplaced, how_many, Item, item, lacks, all_empty, row_of, rows_of, part}
use Rattle.paper.specs.Writing.{good_slot, good_slots, good_element, opening, ws_text, body_text, rows_text, heading, row_slots, sound_row, none_of, needs, decimal, digits_of}
use Rattle.paper.proofs.Element.{MpFine, name_of, good_slots_lem}
use Rattle.paper.proofs.Told.{nothing}
use Rattle.paper.proofs.Fine.{Fine, Elem, fine_bare, fine_open, fine_close}
use Rattle.paper.proofs.ByKind.{none}

-- ---- what a sound row is, by its kind

abbrev pub row : Kind → ℕ → Slots → List Slots → Row
row k n vs ws = record { kind = k; pzn = n; slots = vs; ws = ws }

pub data View : Row → Type 0 where
  head : (vs : Slots) → all_empty vs ≡ false → good_element S vs ≡ true → View (row S 0 vs [])
  med : (n : ℕ) (vs : Slots) (ws : List Slots) → length ws ≤ 3 → every (good_element W) ws ≡ true
      → (none_of ws && (is_empty (slot (bytes "p") (fields_of M) (decimal n ∷ vs)) && is_empty (slot (bytes "a") (fields_of M) (decimal n ∷ vs)))) ≡ false
      → good_element M (decimal n ∷ vs) ≡ true → View (row M n vs ws)
  rec : (vs : Slots) → good_element R vs ≡ true → View (row R 0 vs [])
  free : (vs : Slots) → good_element X vs ≡ true → View (row X 0 vs [])

view_head : (n : ℕ) (vs : Slots) (ws : List Slots) → (not (all_empty vs) && (eqb n 0 && none_of ws)) ≡ true → good_element S vs ≡ true → View (row S n vs ws)
view_head n vs [] e g = let (a, b) = both (not (all_empty vs)) (eqb n 0 && true) e in let (c, d) = both (eqb n 0) true b in rw (eqb-true n 0 c) (head vs (no_not (all_empty vs) a) g)
view_head n vs (w ∷ ws) e g = let (a, b) = both (not (all_empty vs)) (eqb n 0 && false) e in let (c, d) = both (eqb n 0) false b in no (sym d)

view_rec : (n : ℕ) (vs : Slots) (ws : List Slots) → (eqb n 0 && none_of ws) ≡ true → good_element R vs ≡ true → View (row R n vs ws)
view_rec n vs [] b g = let (c, d) = both (eqb n 0) true b in rw (eqb-true n 0 c) (rec vs g)
view_rec n vs (w ∷ ws) b g = let (c, d) = both (eqb n 0) false b in no (sym d)

view_free : (n : ℕ) (vs : Slots) (ws : List Slots) → (eqb n 0 && none_of ws) ≡ true → good_element X vs ≡ true → View (row X n vs ws)
view_free n vs [] b g = let (c, d) = both (eqb n 0) true b in rw (eqb-true n 0 c) (free vs g)
view_free n vs (w ∷ ws) b g = let (c, d) = both (eqb n 0) false b in no (sym d)

view_at : (k : Kind) (n : ℕ) (vs : Slots) (ws : List Slots) → needs k (row k n vs ws) ≡ true → good_element k (row_slots (row k n vs ws)) ≡ true → View (row k n vs ws)
view_at unknown n vs ws e g = no (sym e)
view_at MP n vs ws e g = no (sym e)
view_at P n vs ws e g = no (sym e)
view_at A n vs ws e g = no (sym e)
view_at O n vs ws e g = no (sym e)
view_at S n vs ws e g = view_head n vs ws e g
view_at M n vs ws e g =
    let (a, b) = both (leb (length ws) 3) (every (good_element W) ws && not (nothing (decimal n ∷ vs) ws)) e in
    let (c, d) = both (every (good_element W) ws) (not (nothing (decimal n ∷ vs) ws)) b in
    med n vs ws (leb-true (length ws) 3 a) c (no_not (nothing (decimal n ∷ vs) ws) d) g
view_at W n vs ws e g = no (sym e)
view_at R n vs ws e g = view_rec n vs ws e g
view_at X n vs ws e g = view_free n vs ws e g

pub view : (r : Row) → sound_row r ≡ true → View r
unfolding sound_row
view r e = let (a, b) = both (needs r.kind r) (good_element r.kind (row_slots r)) e in view_at r.kind r.pzn r.slots r.ws a b

-- ---- what the rows say

abbrev pub row_items : Bool → List Row → List Item
row_items o [] = []
row_items true (r ∷ rs) = if (heading r) (item S r.slots [] ∷ row_items true rs) (item r.kind (row_slots r) r.ws ∷ row_items true rs)
row_items false (r ∷ rs) = if (heading r) (item S r.slots [] ∷ row_items true rs) (item S ([] ∷ [] ∷ []) [] ∷ item r.kind (row_slots r) r.ws ∷ row_items true rs)

-- ---- the numbers come back

digits_back : (k n : ℕ) → length (digits_of k n) < k → number 0 (digits_of k n) ≡ n
digits_back zero n h = absurd (omega arith)
digits_back (suc k) n h = at (ltb n 10) refl h (λ m. digits_back k m)
  where
    number_append : (a : ℕ) (s t : List ℕ) → number a (s ++ t) ≡ number (number a s) t
    number_append a [] t = refl
    number_append a (c ∷ s) t = number_append (a * 10 + (c - 48)) s t

    at : (b : Bool) → ltb n 10 ≡ b → length (digits_of (suc k) n) < suc k → ((m : ℕ) → length (digits_of k m) < k → number 0 (digits_of k m) ≡ m) → number 0 (digits_of (suc k) n) ≡ n
    at true e h ih = rw (e, digits_of) (omega arith)
    at false e h ih =
        let g : length (digits_of k (n / 10) ++ (48 + n % 10) ∷ []) < suc k = rw (e, digits_of) at h in
        let g' : length (digits_of k (n / 10)) + 1 < suc k = rw (length-append (digits_of k (n / 10)) ((48 + n % 10) ∷ [])) at g in
        rw (e, digits_of) (rw (number_append 0 (digits_of k (n / 10)) ((48 + n % 10) ∷ []), ih (n / 10) (omega arith)) (omega arith))

good_short : (f : Field) (v : List ℕ) → f.most ≤ 8 → good_slot f v ≡ true → length v ≤ 8
good_short f [] h g = omega arith
good_short f (c ∷ v) h g =
    let (a, b) = both (keeps f (c ∷ v)) (same (cut (c ∷ v)) (c ∷ v) && not (is_zero f.rule (c ∷ v))) g in
    let (d, e) = both (every is_decoded (c ∷ v)) (leb f.least (length (c ∷ v)) && (leb (length (c ∷ v)) f.most && (leb (count 126 (c ∷ v)) f.tildes && obeys f.rule (c ∷ v)))) a in
    let (i, j) = both (leb f.least (length (c ∷ v))) (leb (length (c ∷ v)) f.most && (leb (count 126 (c ∷ v)) f.tildes && obeys f.rule (c ∷ v))) e in
    let (k, l) = both (leb (length (c ∷ v)) f.most) (leb (count 126 (c ∷ v)) f.tildes && obeys f.rule (c ∷ v)) j in
    omega (arith, leb-true (length (c ∷ v)) f.most k)

pub decimal_back : (f : Field) (n : ℕ) → f.most ≤ 8 → good_slot f (decimal n) ≡ true → number 0 (decimal n) ≡ n
decimal_back f zero h g = refl
decimal_back f (suc n) h g = digits_back 9 (suc n) (omega (arith, good_short f (digits_of 9 (suc n)) h g))

package_back : (n : ℕ) (vs : Slots) → good_element M (decimal n ∷ vs) ≡ true → number 0 (slot (bytes "p") (fields_of M) (decimal n ∷ vs)) ≡ n
unfolding fields_of
package_back n vs g =
    let p : Field = field M (bytes "p") pzn 1 8 0 false in
    decimal_back p n (omega arith) (both (good_slot p (decimal n)) (good_slots (drop 1 (fields_of M)) vs) (good_slots_lem M (decimal n ∷ vs) g)).0

-- ---- and say them

pub back_one : {r : Row} → View r → row_of (item r.kind (row_slots r) r.ws) ≡ r ∷ []
unfolding fields_of
back_one (head vs e g) = rw e
back_one (med n vs ws l w e g) = rw (package_back n vs g)
back_one (rec vs g) = refl
back_one (free vs g) = refl

blank_one : row_of (item S ([] ∷ [] ∷ []) []) ≡ []
blank_one = refl

abbrev pub AllSound : List Row → Type 0
AllSound [] = Unit {0}
AllSound (r ∷ rs) = View r × AllSound rs

pub all_sound : (rs : List Row) → every sound_row rs ≡ true → AllSound rs
all_sound [] e = tt
all_sound (r ∷ rs) e = let (a, b) = both (sound_row r) (every sound_row rs) e in (view r a, all_sound rs b)

pub rows_back : (o : Bool) (rs : List Row) → AllSound rs → rows_of (row_items o rs) ≡ rs
rows_back true [] h = refl
rows_back false [] h = refl
rows_back true (r ∷ rs) h = at h.0 (rows_back true rs h.1)
  where
    at : {r : Row} → View r → rows_of (row_items true rs) ≡ rs → rows_of (row_items true (r ∷ rs)) ≡ r ∷ rs
    at (head vs e g) ih = rw (e, ih)
    at (med n vs ws l w e g) ih = rw (package_back n vs g, ih)
    at (rec vs g) ih = rw ih
    at (free vs g) ih = rw ih
rows_back false (r ∷ rs) h = at h.0 (rows_back true rs h.1)
  where
    at : {r : Row} → View r → rows_of (row_items true rs) ≡ rs → rows_of (row_items false (r ∷ rs)) ≡ r ∷ rs
    at (head vs e g) ih = rw (e, ih)
    at (med n vs ws l w e g) ih = rw (package_back n vs g, ih)
    at (rec vs g) ih = rw ih
    at (free vs g) ih = rw ih

-- ---- the rows are fine

never : (k : Kind) (js : List Kind) → ((j : Kind) → later k j ≡ false) → some_of (later k) js ≡ false
never k [] h = refl
never k (j ∷ js) h = rw (h j, never k js h)

abbrev NotMp : Kind → Type 0
NotMp k = is k MP ≡ false

pub mp_no : (k : Kind) (vs : Slots) → is k MP ≡ false → MpFine k vs
mp_no k vs e = record { version = rw e; under = rw e; paired = rw e }

-- frames of M, S and MP
abbrev mframe : ℕ → List Kind → Slots → List Slots → Frame
mframe i js vs ws = record { kind = M; at = i; seen = js; slots = vs; ws = ws }

abbrev sframe : ℕ → List Kind → Slots → Frame
sframe i js vs = record { kind = S; at = i; seen = js; slots = vs; ws = [] }

abbrev pub mpframe : ℕ → List Kind → Slots → Frame
mpframe i js vs = record { kind = MP; at = i; seen = js; slots = vs; ws = [] }

fine_ws_lem : (ws : List Slots) (L i : ℕ) (js : List Kind) (vs : Slots) (acc : List Slots) (F : Frame) (st : Stack) (m : List ℕ) (ns : List (List ℕ)) (x : List ℕ) (xs : List Item)
    → every (good_element W) ws ≡ true → how_many W js + length ws ≤ 3 → 1 ≤ how_many W js + length ws → Fine L (F ∷ st) (m ∷ ns) x xs
    → Fine L (mframe i js vs acc ∷ F ∷ st) (tag_name M ∷ m ∷ ns) (ws_text ws x) (item M vs (acc ++ ws) ∷ xs)
fine_ws_lem [] L i js vs acc F st m ns x xs g h k G =
    let l : lacks M js vs ≡ false = rw (ne_eqb (how_many W js) 0 (omega arith)) in
    rw (append-nil acc) (fine_close L (mframe i js vs acc) (F ∷ st) (m ∷ ns) M x xs l G)
fine_ws_lem (w ∷ ws) L i js vs acc F st m ns x xs g h k G =
    let (a, b) = both (good_element W w) (every (good_element W) ws) g in
    let right : (is W unknown || misplaced (mframe i js vs acc ∷ F ∷ st) W) ≡ false = rw (never W js (λ j. refl), lt-leb 3 (how_many W js) (omega arith)) in
    let E : Elem (mframe i js vs acc ∷ F ∷ st) W w = record { named = refl; right = right; good = a; mp = mp_no W w refl } in
    let G' = fine_ws_lem ws L i (W ∷ js) vs (acc ++ w ∷ []) F st m ns x xs b (omega arith) (omega arith) G in
    let G'' : Fine L (mframe i (W ∷ js) vs (acc ++ w ∷ []) ∷ F ∷ st) (tag_name M ∷ m ∷ ns) (ws_text ws x) (item M vs (acc ++ (w ∷ ws)) ∷ xs) = rw (append_assoc acc (w ∷ []) ws) at G' in
    fine_bare L (mframe i js vs acc) (F ∷ st) (tag_name M) (m ∷ ns) W w (ws_text ws x) (item M vs (acc ++ (w ∷ ws)) ∷ xs) (name_of (tag_name W) refl) E refl G''

-- a row in an S that is open
fine_body : {r : Row} → View r → heading r ≡ false → (L i : ℕ) (js : List Kind) (vs : Slots) (st : Stack) (ns : List (List ℕ)) (x : List ℕ) (xs : List Item)
    → ((js : List Kind) → Fine L (sframe i js vs ∷ st) (tag_name S ∷ ns) x xs)
    → Fine L (sframe i js vs ∷ st) (tag_name S ∷ ns) (body_text r.ws r.kind (row_slots r) x) (item r.kind (row_slots r) r.ws ∷ xs)
fine_body (head us e g) q L i js vs st ns x xs G = no q
fine_body (med n us [] l w e g) q L i js vs st ns x xs G =
    let E : Elem (sframe i js vs ∷ st) M (decimal n ∷ us) = record { named = refl; right = rw (never M js (λ j. refl)); good = g; mp = mp_no M (decimal n ∷ us) refl } in
    fine_bare L (sframe i js vs) st (tag_name S) ns M (decimal n ∷ us) x xs (name_of (tag_name M) refl) E e (G (M ∷ js))
fine_body (med n us (v ∷ ws) l w e g) q L i js vs st ns x xs G =
    let E : Elem (sframe i js vs ∷ st) M (decimal n ∷ us) = record { named = refl; right = rw (never M js (λ j. refl)); good = g; mp = mp_no M (decimal n ∷ us) refl } in
    fine_open L (sframe i js vs) st (tag_name S) ns M (decimal n ∷ us) (ws_text (v ∷ ws) x) (item M (decimal n ∷ us) (v ∷ ws) ∷ xs) (name_of (tag_name M) refl) E
    (λ k. fine_ws_lem (v ∷ ws) L k [] (decimal n ∷ us) [] (sframe i (M ∷ js) vs) st (tag_name S) ns x xs w (omega arith) (omega arith) (G (M ∷ js)))
fine_body (rec us g) q L i js vs st ns x xs G =
    let E : Elem (sframe i js vs ∷ st) R us = record { named = refl; right = rw (never R js (λ j. refl)); good = g; mp = mp_no R us refl } in
    fine_bare L (sframe i js vs) st (tag_name S) ns R us x xs (name_of (tag_name R) refl) E refl (G (R ∷ js))
fine_body (free us g) q L i js vs st ns x xs G =
    let E : Elem (sframe i js vs ∷ st) X us = record { named = refl; right = rw (never X js (λ j. refl)); good = g; mp = mp_no X us refl } in
    fine_bare L (sframe i js vs) st (tag_name S) ns X us x xs (name_of (tag_name X) refl) E refl (G (X ∷ js))

-- no kind is later than S
pub latest : (j : Kind) → later S j ≡ false
latest j = none (later S) refl j

-- P and A have been seen
abbrev pub Present : List Kind → Type 0
Present js = (eqb (how_many P js) 0 || eqb (how_many A js) 0) ≡ false

module _ (L at : ℕ) (mp : Slots) (x : List ℕ) (tail : (js : List Kind) → Present js → Fine L (mpframe at js mp ∷ []) (tag_name MP ∷ []) x []) where
  section : (js : List Kind) → Present js → (us : Slots) → good_element S us ≡ true → (y : List ℕ) (xs : List Item)
      → ((i : ℕ) → Fine L (sframe i [] us ∷ mpframe at (S ∷ js) mp ∷ []) (tag_name S ∷ tag_name MP ∷ []) y xs)
      → Fine L (mpframe at js mp ∷ []) (tag_name MP ∷ []) (opening S us y) (item S us [] ∷ xs)
  section js h us g y xs G =
      let E : Elem (mpframe at js mp ∷ []) S us = record { named = refl; right = rw (never S js latest); good = g; mp = mp_no S us refl } in
      fine_open L (mpframe at js mp) [] (tag_name MP) [] S us y xs (name_of (tag_name S) refl) E G

  fine_open_rows : (rs : List Row) → AllSound rs → (js : List Kind) → Present js → (i : ℕ) (ks : List Kind) (vs : Slots)
      → Fine L (sframe i ks vs ∷ mpframe at js mp ∷ []) (tag_name S ∷ tag_name MP ∷ []) (rows_text true rs x) (row_items true rs)
  fine_open_rows [] h js p i ks vs = fine_close L (sframe i ks vs) (mpframe at js mp ∷ []) (tag_name MP ∷ []) S x [] refl (tail js p)
  fine_open_rows (r ∷ rs) h js p i ks vs = go h.0 (λ js p i ks vs. fine_open_rows rs h.1 js p i ks vs)
    where
      go : {r : Row} → View r → ((js : List Kind) → Present js → (i : ℕ) (ks : List Kind) (vs : Slots) → Fine L (sframe i ks vs ∷ mpframe at js mp ∷ []) (tag_name S ∷ tag_name MP ∷ []) (rows_text true rs x) (row_items true rs))
          → Fine L (sframe i ks vs ∷ mpframe at js mp ∷ []) (tag_name S ∷ tag_name MP ∷ []) (rows_text true (r ∷ rs) x) (row_items true (r ∷ rs))
      go (head us e g) ih = fine_close L (sframe i ks vs) (mpframe at js mp ∷ []) (tag_name MP ∷ []) S (opening S us (rows_text true rs x)) (item S us [] ∷ row_items true rs) refl
          (section js p us g (rows_text true rs x) (row_items true rs) (λ k. ih (S ∷ js) p k [] us))
      go (med n us ws l w e g) ih = fine_body (med n us ws l w e g) refl L i ks vs (mpframe at js mp ∷ []) (tag_name MP ∷ []) (rows_text true rs x) (row_items true rs) (λ ks. ih js p i ks vs)
      go (rec us g) ih = fine_body (rec us g) refl L i ks vs (mpframe at js mp ∷ []) (tag_name MP ∷ []) (rows_text true rs x) (row_items true rs) (λ ks. ih js p i ks vs)
      go (free us g) ih = fine_body (free us g) refl L i ks vs (mpframe at js mp ∷ []) (tag_name MP ∷ []) (rows_text true rs x) (row_items true rs) (λ ks. ih js p i ks vs)

  unheaded : good_element S ([] ∷ [] ∷ []) ≡ true
  unfolding good_element fields_of
  unheaded = refl

  pub fine_rows : (rs : List Row) → AllSound rs → (js : List Kind) → Present js → Fine L (mpframe at js mp ∷ []) (tag_name MP ∷ []) (rows_text false rs x) (row_items false rs)
  fine_rows [] h js p = tail js p
  fine_rows (r ∷ rs) h js p = go h.0
    where
      bodied : {r : Row} → View r → heading r ≡ false → Fine L (mpframe at js mp ∷ []) (tag_name MP ∷ []) (opening S ([] ∷ [] ∷ []) (body_text r.ws r.kind (row_slots r) (rows_text true rs x)))
          (item S ([] ∷ [] ∷ []) [] ∷ item r.kind (row_slots r) r.ws ∷ row_items true rs)
      bodied {r} v q = section js p ([] ∷ [] ∷ []) unheaded (body_text r.ws r.kind (row_slots r) (rows_text true rs x)) (item r.kind (row_slots r) r.ws ∷ row_items true rs)
          (λ k. fine_body v q L k [] ([] ∷ [] ∷ []) (mpframe at (S ∷ js) mp ∷ []) (tag_name MP ∷ []) (rows_text true rs x) (row_items true rs) (λ ks. fine_open_rows rs h.1 (S ∷ js) p k ks ([] ∷ [] ∷ [])))

      go : {r : Row} → View r → Fine L (mpframe at js mp ∷ []) (tag_name MP ∷ []) (rows_text false (r ∷ rs) x) (row_items false (r ∷ rs))
      go (head us e g) = section js p us g (rows_text true rs x) (row_items true rs) (λ k. fine_open_rows rs h.1 (S ∷ js) p k [] us)
      go (med n us ws l w e g) = bodied (med n us ws l w e g) refl
      go (rec us g) = bodied (rec us g) refl
      go (free us g) = bodied (free us g) refl

pub part_rows : (o : Bool) (rs : List Row) → AllSound rs → part O (row_items o rs) ≡ blank (fields_of O)
part_rows true [] h = refl
part_rows false [] h = refl
part_rows true (r ∷ rs) h = at h.0 (part_rows true rs h.1)
  where
    at : {r : Row} → View r → part O (row_items true rs) ≡ blank (fields_of O) → part O (row_items true (r ∷ rs)) ≡ blank (fields_of O)
    at (head vs e g) ih = ih
    at (med n vs ws l w e g) ih = ih
    at (rec vs g) ih = ih
    at (free vs g) ih = ih
part_rows false (r ∷ rs) h = at h.0 (part_rows true rs h.1)
  where
    at : {r : Row} → View r → part O (row_items true rs) ≡ blank (fields_of O) → part O (row_items false (r ∷ rs)) ≡ blank (fields_of O)
    at (head vs e g) ih = ih
    at (med n vs ws l w e g) ih = ih
    at (rec vs g) ih = ih
    at (free vs g) ih = ih
