-- Reading gives sound plans.
use mathlib.Core.Path.{◌≡◌, refl, ap, sym, ◌∙◌}
use mathlib.Core.Bool.{Bool, true, false, not, ◌&&◌, ◌||◌}
use mathlib.Core.Option.{Option, none, some}
use mathlib.Core.List.{List, [], ◌∷◌, ◌++◌}
use Prim.Native.Nat.{ℕ, zero, suc, ◌+◌, ◌/◌, ◌%◌, ◌≤◌}
use native.Mathlib.Omega.{arith}
use lib.Dec.{eqb, leb, ltb}
use lib.ListN.{length, drop}
use borrow.Author.Tests.{eqb-false, leb-true, le-leb, ltb-false}
use Rattle.paper.specs.Lists.{bytes, if, same, every, is_empty, number, count, until}
use Rattle.paper.specs.Bytes.{is_digit, is_decoded, is_allowed}
use Rattle.paper.proofs.Small.{no, both, neither, and_intro, no_not}
use Rattle.paper.specs.Grammar.{Attr, Tag, start, end, Page, placed}
use Rattle.paper.specs.Machine.{scan, before}
use Rattle.paper.specs.Values.{cut}
use Rattle.paper.proofs.Exact.{exact}
use Rattle.paper.proofs.Least.{is_sheet}
use Rattle.paper.proofs.Sheets.{a_field, z_field}
use Rattle.paper.specs.Fields.{Kind, unknown, MP, P, A, O, S, M, W, R, X, is, Field, field, digits, pzn, hexes, language, version, fields_of, excluded, named}
use Rattle.paper.specs.Rules.{padded, checks, is_package, keeps, obeys, is_zero, settle}
use Rattle.paper.specs.Plan.{Slots, slot, Row, Head, Plan, names_of, blank}
use Rattle.paper.specs.Judging.{Fault, faults, items, Item, item, here, early, enter, frame, slots_of, found, kind_in, sheet_of, head_of, rows_of, row_of, or, all_empty, part, missing, clash, Sheet, Judged, refused, sheet, verdict, judge_tags, judge}
use Rattle.paper.specs.Reading.{refusal, plan, decide, judge_all, read, rows_at, joined}
use Rattle.paper.specs.Writing.{good_slot, good_slots, good_element, decimal, digits_of, mp_slots, sound_head, sound_row, sound, none_of}
use Rattle.paper.proofs.Element.{good_slots_lem}
use Rattle.paper.proofs.Given.{append_nil_both}
use Rattle.paper.proofs.Told.{ItemOk, ItemsOk, items_ok, both_there, found_any, Root, Bal, page_placed, started, frame_ok, nothing, is_eq}
use Rattle.paper.proofs.Canon.{canon, padded_zero}
use Rattle.paper.proofs.AnyOrder.{is_plan, judged_each, each_judged, Each, Accept, accepts}

-- ---- the two numbers

abbrev pub p_f : Field
p_f = field MP (bytes "p") digits 1 2 0 false

abbrev pub z_f : Field
z_f = field M (bytes "p") pzn 1 8 0 false

package_minds : (s : List ℕ) → length s ≤ 7 → is_package (48 ∷ s) ≡ true → is_package s ≡ true
package_minds s h e =
    let (a, b) = both (every is_digit s && leb 1 (number 0 s)) (checks (padded (48 ∷ s))) e in
    and_intro (every is_digit s && leb 1 (number 0 s)) (checks (padded s)) a (ap checks (sym (padded_zero s h)) ∙ b)

pub package_digits : (v : List ℕ) → is_package v ≡ true → every is_digit v ≡ true
package_digits v e = (both (every is_digit v) (leb 1 (number 0 v)) (both (every is_digit v && leb 1 (number 0 v)) (checks (padded v)) e).0).0

canon_patch : (p : List ℕ) → good_slot p_f p ≡ true → good_slot p_f (decimal (number 0 p)) ≡ true
canon_patch = canon p_f refl (omega arith) (λ v. refl) (λ s h e. e) (λ v e. e)

canon_package : (p : List ℕ) → good_slot z_f p ≡ true → good_slot z_f (decimal (number 0 p)) ≡ true
canon_package = canon z_f refl (omega arith) (λ v. refl) package_minds package_digits

-- ---- an M

names_p : (vs : Slots) (x : List ℕ) → clash (excluded M) (names_of (fields_of M) (x ∷ vs)) ≡ clash (excluded M) (names_of (drop 1 (fields_of M)) vs)
unfolding fields_of
names_p vs [] = refl
names_p vs (c ∷ v) = refl

abbrev rest_m : Slots → Bool
rest_m vs = not (missing (fields_of M) vs) && not (clash (excluded M) (names_of (fields_of M) vs))

missing_p : (vs : Slots) (x y : List ℕ) → missing (fields_of M) (x ∷ vs) ≡ missing (fields_of M) (y ∷ vs)
unfolding fields_of
missing_p vs x y = refl

pub slots_m : (vs : Slots) (x : List ℕ) → good_slots (fields_of M) (x ∷ vs) ≡ good_slot z_f x && good_slots (drop 1 (fields_of M)) vs
unfolding fields_of
slots_m vs x = refl

good_m : (p : List ℕ) (vs : Slots) → good_element M (p ∷ vs) ≡ true → good_element M (decimal (number 0 p) ∷ vs) ≡ true
unfolding good_element
good_m p vs g =
    let d : List ℕ = decimal (number 0 p) in
    let (gs, rest) = both (good_slots (fields_of M) (p ∷ vs)) (rest_m (p ∷ vs)) g in
    let (a, b) = both (good_slot z_f p) (good_slots (drop 1 (fields_of M)) vs) (sym (slots_m vs p) ∙ gs) in
    let s : good_slots (fields_of M) (d ∷ vs) ≡ true = slots_m vs d ∙ and_intro (good_slot z_f d) (good_slots (drop 1 (fields_of M)) vs) (canon_package p a) b in
    let r : rest_m (d ∷ vs) ≡ true = ap (λ (x : Bool). not x && not (clash (excluded M) (names_of (fields_of M) (d ∷ vs)))) (missing_p vs d p)
    ∙ ap (λ (x : Bool). not (missing (fields_of M) (p ∷ vs)) && not x) (names_p vs d ∙ sym (names_p vs p)) ∙ rest in
    and_intro (good_slots (fields_of M) (d ∷ vs)) (rest_m (d ∷ vs)) s r

snoc_full : (s : List ℕ) (c : ℕ) → is_empty (s ++ c ∷ []) ≡ false
snoc_full [] c = refl
snoc_full (x ∷ s) c = refl

digits_full : (k n : ℕ) → is_empty (digits_of (suc k) n) ≡ false
digits_full k n = at (ltb n 10)
  where
    at : (b : Bool) → is_empty (if b ((48 + n) ∷ []) (digits_of k (n / 10) ++ (48 + n % 10) ∷ [])) ≡ false
    at true = refl
    at false = snoc_full (digits_of k (n / 10)) (48 + n % 10)

decimal_full : (n : ℕ) → 1 ≤ n → is_empty (decimal n) ≡ false
decimal_full zero h = absurd (omega arith)
decimal_full (suc n) h = digits_full 8 (suc n)

-- what a good present value keeps: its least and greatest length, and its rule
pub record Keeping (f : Field) (v : List ℕ) : Type 0 where
  pub long : f.least ≤ length v
  pub short : length v ≤ f.most
  pub rule : obeys f.rule v ≡ true

-- A good present value keeps its field.
pub keeping : (f : Field) (c : ℕ) (v : List ℕ) → good_slot f (c ∷ v) ≡ true → Keeping f (c ∷ v)
keeping f c v g =
    let w : List ℕ = c ∷ v in
    let r₃ : Bool = leb (count 126 w) f.tildes && obeys f.rule w in
    let r₂ : Bool = leb (length w) f.most && r₃ in
    let r₁ : Bool = leb f.least (length w) && r₂ in
    let k = (both (keeps f w) (same (cut w) w && not (is_zero f.rule w)) g).0 in
    let (a, b) = both (leb f.least (length w)) r₂ (both (every is_decoded w) r₁ k).1 in
    let (d, e) = both (leb (length w) f.most) r₃ b in
    record { long = leb-true f.least (length w) a; short = leb-true (length w) f.most d; rule = (both (leb (count 126 w) f.tildes) (obeys f.rule w) e).1 }

obeyed : (f : Field) (c : ℕ) (v : List ℕ) → good_slot f (c ∷ v) ≡ true → obeys f.rule (c ∷ v) ≡ true
obeyed f c v g = (keeping f c v g).rule

short_slot : (f : Field) (c : ℕ) (v : List ℕ) → good_slot f (c ∷ v) ≡ true → length (c ∷ v) ≤ f.most
short_slot f c v g = (keeping f c v g).short

same_empty : (p : List ℕ) → good_slot z_f p ≡ true → is_empty (decimal (number 0 p)) ≡ is_empty p
same_empty [] g = refl
same_empty (c ∷ v) g =
    let o : is_package (c ∷ v) ≡ true = obeyed z_f c v g in
    let n = leb-true 1 (number 0 (c ∷ v)) (both (every is_digit (c ∷ v)) (leb 1 (number 0 (c ∷ v))) (both (every is_digit (c ∷ v) && leb 1 (number 0 (c ∷ v))) (checks (padded (c ∷ v))) o).0).1 in
    decimal_full (number 0 (c ∷ v)) n

-- ---- rows

pub slot_p : (x : List ℕ) (vs : Slots) → slot (bytes "p") (fields_of M) (x ∷ vs) ≡ x
unfolding fields_of
slot_p x vs = refl

slot_a : (x y : List ℕ) (vs : Slots) → slot (bytes "a") (fields_of M) (x ∷ vs) ≡ slot (bytes "a") (fields_of M) (y ∷ vs)
unfolding fields_of
slot_a x y vs = refl

pub no_slots : good_slots (fields_of M) [] ≡ false
unfolding fields_of
no_slots = refl

m_row : (p : List ℕ) (vs : Slots) (ws : List Slots) → good_element M (p ∷ vs) ≡ true → every (good_element W) ws ≡ true → length ws ≤ 3 → nothing (p ∷ vs) ws ≡ false
    → sound_row (record { kind = M; pzn = number 0 p; slots = vs; ws = ws }) ≡ true
unfolding sound_row
m_row p vs ws g w l e =
    let d : List ℕ = decimal (number 0 p) in
    let a = (both (good_slot z_f p) (good_slots (drop 1 (fields_of M)) vs) (sym (slots_m vs p) ∙ good_slots_lem M (p ∷ vs) g)).0 in
    let n : nothing (d ∷ vs) ws ≡ false =
    ap (λ (x : List ℕ). none_of ws && (is_empty x && is_empty (slot (bytes "a") (fields_of M) (d ∷ vs)))) (slot_p d vs)
    ∙ ap (λ (x : Bool). none_of ws && (x && is_empty (slot (bytes "a") (fields_of M) (d ∷ vs)))) (same_empty p a)
    ∙ ap (λ (x : List ℕ). none_of ws && (is_empty p && is_empty x)) (slot_a d p vs)
    ∙ ap (λ (x : List ℕ). none_of ws && (is_empty x && is_empty (slot (bytes "a") (fields_of M) (p ∷ vs)))) (sym (slot_p p vs)) ∙ e in
    rw (le-leb (length ws) 3 l, w, n, good_m p vs g)

head_row : (vs : Slots) → all_empty vs ≡ false → good_element S vs ≡ true → sound_row (record { kind = S; pzn = 0; slots = vs; ws = [] }) ≡ true
unfolding sound_row
head_row vs e g = rw (e, g)

plain_r : (vs : Slots) → good_element R vs ≡ true → sound_row (record { kind = R; pzn = 0; slots = vs; ws = [] }) ≡ true
unfolding sound_row
plain_r vs g = rw g

plain_x : (vs : Slots) → good_element X vs ≡ true → sound_row (record { kind = X; pzn = 0; slots = vs; ws = [] }) ≡ true
unfolding sound_row
plain_x vs g = rw g

row_sound : (k : Kind) (vs : Slots) (ws : List Slots) → ItemOk (item k vs ws) → every sound_row (row_of (item k vs ws)) ≡ true
row_sound unknown vs ws o = refl
row_sound MP vs ws o = refl
row_sound P vs ws o = refl
row_sound A vs ws o = refl
row_sound O vs ws o = refl
row_sound S vs ws o = at (all_empty vs) refl
  where
    sound_s : all_empty vs ≡ false → sound_row (record { kind = S; pzn = 0; slots = vs; ws = [] }) ≡ true
    sound_s e = head_row vs e o.good

    at : (b : Bool) → all_empty vs ≡ b → every sound_row (if (not b) (record { kind = S; pzn = 0; slots = vs; ws = [] } ∷ []) []) ≡ true
    at true e = refl
    at false e = rw (sound_s e)
row_sound M [] ws o = no (sym (good_slots_lem M [] o.good) ∙ no_slots)
row_sound M (p ∷ vs) ws o =
    let s = m_row p vs ws o.good o.inner o.three (o.enough refl) in
    ap (λ (x : List ℕ). sound_row (record { kind = M; pzn = number 0 x; slots = vs; ws = ws }) && true) (slot_p p vs) ∙ rw s
row_sound W vs ws o = refl
row_sound R vs ws o = rw (plain_r vs o.good)
row_sound X vs ws o = rw (plain_x vs o.good)

rows_append : (a b : List Row) → every sound_row a ≡ true → every sound_row b ≡ true → every sound_row (a ++ b) ≡ true
rows_append [] b x y = y
rows_append (r ∷ a) b x y = let (u, v) = both (sound_row r) (every sound_row a) x in rw (u, rows_append a b v y)

rows_sound : (xs : List Item) → ItemsOk xs → every sound_row (rows_of xs) ≡ true
rows_sound [] s = refl
rows_sound (x ∷ xs) s = rows_append (row_of x) (rows_of xs) (row_sound x.kind x.slots x.ws s.0) (rows_sound xs s.1)

-- ---- the head

patch_small : (p : List ℕ) → good_slot p_f p ≡ true → number 0 p ≤ 99
patch_small [] g = omega arith
patch_small (c ∷ []) g = let d : every is_digit (c ∷ []) ≡ true = obeyed p_f c [] g in let (x, y) = both (is_digit c) true d in let (i, j) = both (leb 48 c) (leb c 57) x in omega (arith, leb-true c 57 j)
patch_small (c ∷ e ∷ []) g =
    let d : every is_digit (c ∷ e ∷ []) ≡ true = obeyed p_f c (e ∷ []) g in
    let (x, y) = both (is_digit c) (every is_digit (e ∷ [])) d in
    let (z, w) = both (is_digit e) true y in
    let (i, j) = both (leb 48 c) (leb c 57) x in
    let (k, l) = both (leb 48 e) (leb e 57) z in
    omega (arith, leb-true c 57 j, leb-true e 57 l)
patch_small (c ∷ e ∷ f ∷ v) g = absurd (let h = short_slot p_f c (e ∷ f ∷ v) g in omega arith)

abbrev pub u_f : Field
u_f = field MP (bytes "U") hexes 32 32 0 true

abbrev pub l_f : Field
l_f = field MP (bytes "l") language 5 5 0 false

good_lang : (l : List ℕ) → good_slot l_f l ≡ true → (good_slot l_f (or l (bytes "de-DE")) ≡ true) × (is_empty (or l (bytes "de-DE")) ≡ false)
good_lang [] g = (refl, refl)
good_lang (c ∷ l) g = (g, refl)

not_missing : (u : List ℕ) (b : Bool) → not (is_empty u || false) && b ≡ true → is_empty u ≡ false
not_missing [] b e = no (sym e)
not_missing (c ∷ u) b e = refl

pub parts : (v p u l a z : List ℕ) → good_element MP (v ∷ p ∷ u ∷ l ∷ a ∷ z ∷ []) ≡ true → (good_slot p_f p ≡ true) × (good_slot u_f u ≡ true) × (good_slot l_f l ≡ true) × (is_empty u ≡ false)
unfolding good_element fields_of
parts v p u l a z g =
    let F : List Field = fields_of MP in
    let v_f : Field = field MP (bytes "v") version 3 3 0 true in
    let rest : Bool = not (missing F (v ∷ p ∷ u ∷ l ∷ a ∷ z ∷ [])) && not (clash (excluded MP) (names_of F (v ∷ p ∷ u ∷ l ∷ a ∷ z ∷ []))) in
    let (gs, r) = both (good_slots F (v ∷ p ∷ u ∷ l ∷ a ∷ z ∷ [])) rest g in
    let (g₁, s₁) = both (good_slot v_f v) (good_slots (drop 1 F) (p ∷ u ∷ l ∷ a ∷ z ∷ [])) gs in
    let (g₂, s₂) = both (good_slot p_f p) (good_slots (drop 2 F) (u ∷ l ∷ a ∷ z ∷ [])) s₁ in
    let (g₃, s₃) = both (good_slot u_f u) (good_slots (drop 3 F) (l ∷ a ∷ z ∷ [])) s₂ in
    let (g₄, s₄) = both (good_slot l_f l) (good_slots (drop 4 F) (a ∷ z ∷ [])) s₃ in
    let (m, c) = both (not (missing F (v ∷ p ∷ u ∷ l ∷ a ∷ z ∷ []))) (not (clash (excluded MP) (names_of F (v ∷ p ∷ u ∷ l ∷ a ∷ z ∷ [])))) r in
    let m' = no_not (is_empty v || (is_empty u || false)) m in
    (g₂, g₃, g₄, (neither (is_empty u) false (neither (is_empty v) (is_empty u || false) m').1).0)

built : (n : ℕ) (u l : List ℕ) (person author measures : Slots) → good_slot p_f (decimal n) ≡ true → good_slot u_f u ≡ true → good_slot l_f l ≡ true → is_empty u ≡ false
    → good_element MP (mp_slots (record { patch = n; ident = u; lang = l; person = person; author = author; measures = measures }) 1 1) ≡ true
unfolding good_element fields_of
built n u l person author measures gp gu gl e =
    let F : List Field = fields_of MP in
    let one : List ℕ = 49 ∷ [] in
    let vs : Slots = bytes "027" ∷ decimal n ∷ u ∷ l ∷ one ∷ one ∷ [] in
    let s₃ : good_slots (drop 3 F) (l ∷ one ∷ one ∷ []) ≡ true = and_intro (good_slot l_f l) (good_slots (drop 4 F) (one ∷ one ∷ [])) gl refl in
    let s₂ : good_slots (drop 2 F) (u ∷ l ∷ one ∷ one ∷ []) ≡ true = and_intro (good_slot u_f u) (good_slots (drop 3 F) (l ∷ one ∷ one ∷ [])) gu s₃ in
    let s₁ : good_slots F vs ≡ true = and_intro (good_slot p_f (decimal n)) (good_slots (drop 2 F) (u ∷ l ∷ one ∷ one ∷ [])) gp s₂ in
    let m : missing F vs ≡ false = ap (λ (b : Bool). b || false) e in
    and_intro (good_slots F vs) (not (missing F vs) && not (clash (excluded MP) (names_of F vs))) s₁ (ap (λ (b : Bool). not b && true) m)

build : (h : Head) → leb h.patch 99 ≡ true → is_empty h.lang ≡ false → good_element MP (mp_slots h 1 1) ≡ true → good_element P h.person ≡ true → good_element A h.author ≡ true
    → good_element O h.measures ≡ true → sound_head h ≡ true
unfolding sound_head
build h a b c d e f = rw (a, b, c, d, e, f)

head_good : (v p u l a z : List ℕ) (person author measures : Slots) → good_element MP (v ∷ p ∷ u ∷ l ∷ a ∷ z ∷ []) ≡ true
    → good_element P person ≡ true → good_element A author ≡ true → good_element O measures ≡ true
    → sound_head (record { patch = number 0 p; ident = u; lang = or l (bytes "de-DE"); person = person; author = author; measures = measures }) ≡ true
head_good v p u l a z person author measures g x y w = finish (parts v p u l a z g)
  where
    finish : (good_slot p_f p ≡ true) × (good_slot u_f u ≡ true) × (good_slot l_f l ≡ true) × (is_empty u ≡ false) → sound_head (record { patch = number 0 p; ident = u; lang = or l (bytes "de-DE"); person = person; author = author; measures = measures }) ≡ true
    finish (gp, gu, gl, n) =
        let (ga, gb) = good_lang l gl in
        let m = built (number 0 p) u (or l (bytes "de-DE")) person author measures (canon_patch p gp) gu ga n in
        build (record { patch = number 0 p; ident = u; lang = or l (bytes "de-DE"); person = person; author = author; measures = measures }) (le-leb (number 0 p) 99 (patch_small p gp)) gb m x y w

-- ---- a page, and all pages

pub record SheetOk (s : Sheet) : Type 0 where
  pub head_ok : sound_head s.head ≡ true
  pub rows_ok : every sound_row s.rows ≡ true

blank_o : good_element O (blank (fields_of O)) ≡ true
unfolding good_element fields_of
blank_o = refl

mp_head : (l : List Attr) (ys : List Item) → good_element MP (slots_of (fields_of MP) l) ≡ true → good_element P (part P ys) ≡ true → good_element A (part A ys) ≡ true → good_element O (part O ys) ≡ true
    → sound_head (head_of (slots_of (fields_of MP) l) (item MP (slots_of (fields_of MP) l) [] ∷ ys)) ≡ true
unfolding fields_of
mp_head l ys g x y z =
    head_good (settle v_f (found l (bytes "v"))) (settle p_f (found l (bytes "p"))) (settle u_f (found l (bytes "U"))) (settle l_f (found l (bytes "l"))) (settle a_field (found l (bytes "a"))) (settle z_field (found l (bytes "z")))
    (part P ys) (part A ys) (part O ys) g x y z
  where
    v_f : Field
    v_f = field MP (bytes "v") version 3 3 0 true

mp_sheet : (i : ℕ) (l : List Attr) (t : List Tag) → good_element MP (slots_of (fields_of MP) l) ≡ true → Bal t 1 → faults (frame MP i (slots_of (fields_of MP) l) ∷ []) t ≡ []
    → SheetOk (sheet_of (item MP (slots_of (fields_of MP) l) [] ∷ items (frame MP i (slots_of (fields_of MP) l) ∷ []) t))
mp_sheet i l t g b f =
    let mp : Slots = slots_of (fields_of MP) l in
    let ys : List Item = items (frame MP i mp ∷ []) t in
    let s = items_ok t (frame MP i mp ∷ []) (frame_ok MP i mp g, tt) f in
    let (x, y) = both_there t i mp g b f in
    record { head_ok = mp_head l ys g x y (found_any O ys s blank_o); rows_ok = rows_sound ys s }

root_sheet : (k : Kind) (i : ℕ) (l : List Attr) (t : List Tag) → is k MP ≡ true → good_element k (slots_of (fields_of k) l) ≡ true → Bal t 1 → faults (frame k i (slots_of (fields_of k) l) ∷ []) t ≡ []
    → SheetOk (sheet_of ((if (early k) (item k (slots_of (fields_of k) l) [] ∷ []) []) ++ items (frame k i (slots_of (fields_of k) l) ∷ []) t))
root_sheet k i l t e = rw (is_eq k MP e) (mp_sheet i l t)

-- an outermost element that is known is an MP
pub root_mp : (n : List ℕ) → is (named n (MP ∷ [])) unknown ≡ false → is (named n (MP ∷ [])) MP ≡ true
root_mp n e = at (same n (bytes "MP")) e
  where
    at : (b : Bool) → is (if b MP unknown) unknown ≡ false → is (if b MP unknown) MP ≡ true
    at true e = refl
    at false e = no e

tags_sheet : (t : List Tag) → Root t → faults [] t ≡ [] → SheetOk (sheet_of (items [] t))
tags_sheet [] r f = absurd r
tags_sheet (end ∷ t) r f = absurd r
tags_sheet (start i n l ∷ t) r f =
    let k : Kind = kind_in [] n in
    let vs : Slots = slots_of (fields_of k) l in
    let (a, b) = append_nil_both (here [] (start i n l)) (faults (enter [] k i vs) t) f in
    let S = started [] i n l a in
    root_sheet k i l t (root_mp n S.known) S.fine.good r b

abbrev sheet_in : Sheet → Judged → Sheet
sheet_in d (refused n i) = d
sheet_in d (sheet s) = s

-- what it takes that a page is a sheet: it is well-formed, its tags have no faults and say the sheet, and it is neither empty nor too long
pub record Judges (w : List ℕ) (s : Sheet) : Type 0 where
  pub tags : List Tag
  pub taken : Page w tags
  pub clean : faults [] (placed (length w) tags) ≡ []
  pub told : sheet_of (items [] (placed (length w) tags)) ≡ s
  pub some_bytes : 1 ≤ length w
  pub short : length w ≤ 1400

-- A page that is judged to a sheet says it, by tags without faults.
pub judges : (w : List ℕ) (s : Sheet) → judge w ≡ sheet s → Judges w s
unfolding judge
judges w s e = at (eqb (length w) 0 || ltb 1400 (length w)) refl (every is_allowed w) (scan before w) refl e
  where
    fits : (eqb (length w) 0 || ltb 1400 (length w)) ≡ false → (1 ≤ length w) × (length w ≤ 1400)
    fits q =
        let (x, y) = neither (eqb (length w) 0) (ltb 1400 (length w)) q in
        let z = eqb-false (length w) 0 x in
        (omega arith, ltb-false 1400 (length w) y)

    last : (t : List Tag) → Page w t → (1 ≤ length w) × (length w ≤ 1400) → (fs : List Fault) → faults [] (placed (length w) t) ≡ fs → verdict fs (items [] (placed (length w) t)) ≡ sheet s → Judges w s
    last t p h [] q e = record { tags = t; taken = p; clean = q; told = ap (sheet_in s) e; some_bytes = h.0; short = h.1 }
    last t p h (f ∷ fs) q e = no (sym (ap is_sheet e))

    at : (b : Bool) → (eqb (length w) 0 || ltb 1400 (length w)) ≡ b → (c : Bool) (o : Option (List Tag)) → scan before w ≡ o → if b (refused 2 0) (if c (judge_tags o w) (refused 3 (until is_allowed w))) ≡ sheet s → Judges w s
    at true l c o q e = no (sym (ap is_sheet e))
    at false l false o q e = no (sym (ap is_sheet e))
    at false l true none q e = no (sym (ap is_sheet e))
    at false l true (some t) q e = last t ((exact w t).1 q) (fits l) (faults [] (placed (length w) t)) refl e

-- A page that is judged to a sheet has a sound head and sound rows.
pub judge_ok : (w : List ℕ) (s : Sheet) → judge w ≡ sheet s → SheetOk s
judge_ok w s e = let j = judges w s e in rw (sym j.told) (tags_sheet (placed (length w) j.tags) (page_placed (length w) j.taken) j.clean)

abbrev SheetsOk : List Sheet → Type 0
SheetsOk [] = Unit {0}
SheetsOk (s ∷ l) = SheetOk s × SheetsOk l

each_ok : (ws : List (List ℕ)) (l : List Sheet) → Each ws l → SheetsOk l
each_ok [] [] e = tt
each_ok [] (s ∷ l) e = tt' e
  where
    tt' : ⊥ → SheetsOk (s ∷ l)
    tt' e = absurd e
each_ok (w ∷ ws) [] e = tt
each_ok (w ∷ ws) (s ∷ l) e = (judge_ok w s e.0, each_ok ws l e.1)

at_ok : (n : ℕ) (l : List Sheet) → SheetsOk l → every sound_row (rows_at n l) ≡ true
at_ok n [] s = refl
at_ok n (x ∷ l) s = at (eqb x.no n) (at_ok n l s.1)
  where
    at : (b : Bool) → every sound_row (rows_at n l) ≡ true → every sound_row (if b x.rows (rows_at n l)) ≡ true
    at true ih = s.0.rows_ok
    at false ih = ih

joined_ok : (l : List Sheet) (k n : ℕ) → SheetsOk l → every sound_row (joined l n k) ≡ true
joined_ok l zero n s = refl
joined_ok l (suc k) n s = rows_append (rows_at n l) (joined l (suc n) k) (at_ok n l s) (joined_ok l k (suc n) s)

plan_ok : (p : Plan) (l : List Sheet) → SheetsOk l → Accept l p → sound p ≡ true
plan_ok p [] s a = absurd (let h = a.some in omega arith)
plan_ok p (x ∷ l) s a =
    let h : sound_head p.head ≡ true = ap sound_head (sym a.alike.1) ∙ s.0.head_ok in
    let r : every sound_row p.rows ≡ true = ap (every sound_row) (sym a.rows) ∙ joined_ok (x ∷ l) a.count 1 s in
    and_intro (sound_head p.head) (every sound_row p.rows) h r

-- what it takes that pages are read to a plan: at most nine, each a sheet, and the sheets accepted as the plan
pub record Reads (f : List (List ℕ)) (p : Plan) : Type 0 where
  pub sheets : List Sheet
  pub each : Each f sheets
  pub accept : Accept sheets p
  pub nine : length f ≤ 9

-- Pages that are read to a plan are sheets that make it up.
pub reads : (f : List (List ℕ)) (p : Plan) → read f ≡ plan p → Reads f p
unfolding read
reads f p e = at (leb 1 (length f) && leb (length f) 9) refl e
  where
    at : (b : Bool) → (leb 1 (length f) && leb (length f) 9) ≡ b → if b (decide (judge_all 1 f)) (refusal 1 0 0) ≡ plan p → Reads f p
    at false q e = no (sym (ap is_plan e))
    at true q e =
        let (l, d) = judged_each 1 f p e in
        record {
          sheets = l;
          each = d;
          accept = accepts l p (sym (ap decide (each_judged 1 f l d)) ∙ e);
          nine = leb-true (length f) 9 (both (leb 1 (length f)) (leb (length f) 9) q).1;
        }

-- 3. reading gives sound plans, of at most 256 rows
pub read_sound : (f : List (List ℕ)) (p : Plan) → read f ≡ plan p → (sound p ≡ true) × (length p.rows ≤ 256)
read_sound f p e = let r = reads f p e in (plan_ok p r.sheets (each_ok f r.sheets r.each) r.accept, r.accept.few)
