-- The room of document 01 is always enough for what was read: 256 rows, 12,600 bytes of text, 25,200 bytes of listing.
-- Assumes nothing.
use mathlib.Core.Path.{◌≡◌, refl, ap, sym, ◌∙◌}
use mathlib.Core.Bool.{Bool, true, false, not}
use mathlib.Core.List.{List, [], ◌∷◌, ◌++◌}
use Prim.Native.Nat.{ℕ, zero, suc, ◌+◌, ◌*◌, ◌/◌, ◌%◌, ◌≤◌}
use native.Mathlib.Omega.{arith}
use lib.Dec.{eqb, leb, ltb}
use lib.ListN.{length, length-append, drop}
use borrow.Author.Tests.{eqb-true, leb-true}
use Rattle.paper.specs.Lists.{bytes, if, same, every, is_empty, number, concat}
use Rattle.paper.specs.Grammar.{placed}
use Rattle.paper.specs.Fields.{Kind, unknown, MP, P, A, O, S, M, W, R, X, is, edition, Field, fields_of}
use Rattle.paper.specs.Plan.{Slots, Row, Head, Plan, slot, blank}
use Rattle.paper.specs.Judging.{Item, item, items, part, row_of, rows_of, sheet_of, all_empty, Sheet, sheet, judge}
use Rattle.paper.specs.Reading.{Answer, refusal, plan, read, rows_at, joined}
use Rattle.paper.specs.Writing.{good_slot, good_slots, good_element, digits_of, decimal, sound_head, sound_row, sound, row_slots}
use Rattle.paper.specs.Layout.{head_values, row_values, rows_values, plan_values, text_of}
use Rattle.paper.specs.Listing.{Line, line, path, field_lines, element_lines, mp_listed, head_lines, w_lines, row_lines, rows_lines, numeral, plan_lines, print, listing, refusal_lines, answer_lines}
use Rattle.paper.specs.Calls.{row_room, text_room, listing_room}
use Rattle.paper.proofs.Small.{no, both, if_same, below_at, same_eq}
use Rattle.paper.proofs.Element.{good_slots_lem}
use Rattle.paper.proofs.Rows.{View, head, med, rec, free, AllSound, all_sound}
use Rattle.paper.proofs.Sheets.{head_sound_lem}
use Rattle.paper.proofs.Join.{skip, joined_none}
use Rattle.paper.proofs.AnyOrder.{Each, Accept}
use Rattle.paper.proofs.Told.{ItemOk, ItemsOk, items_ok}
use Rattle.paper.proofs.Canon.{strip, decimal_strip}
use Rattle.paper.proofs.ReadSound.{p_f, z_f, u_f, l_f, package_digits, slots_m, slot_p, no_slots, parts, keeping, judge_ok, judges, reads, read_sound}
use Rattle.paper.proofs.Weights.{slot_weight, slots_weight, element_weight, ws_weight, item_weight, items_weight, page_weight}

-- ---- what a plan weighs

-- the least that a row costs in a page
abbrev pub row_weight : Row → ℕ
row_weight r = element_weight r.kind (row_slots r) + ws_weight r.ws

-- the least that rows cost
abbrev pub rows_weight : List Row → ℕ
rows_weight [] = 0
rows_weight (r ∷ rs) = row_weight r + rows_weight rs

-- the least that a head costs: the tag of MP and its U, and the values of P, A and O
abbrev pub head_weight : Head → ℕ
head_weight h = 8 + length h.ident + (slots_weight (fields_of P) h.person + (slots_weight (fields_of A) h.author + slots_weight (fields_of O) h.measures))

-- head and rows
abbrev pub plan_weight : Plan → ℕ
plan_weight p = head_weight p.head + rows_weight p.rows

rows_weight_append : (a b : List Row) → rows_weight (a ++ b) ≡ rows_weight a + rows_weight b
rows_weight_append [] b = omega arith
rows_weight_append (r ∷ a) b = omega (arith, rows_weight_append a b)

-- ---- a row costs no more than the element that said it

strip_short : (p : List ℕ) → length (strip p) ≤ length p
strip_short [] = omega arith
strip_short (c ∷ s) = at (eqb c 48) (strip_short s)
  where
    at : (b : Bool) → length (strip s) ≤ length s → length (if b (strip s) (c ∷ s)) ≤ suc (length s)
    at true ih = omega (arith, ih)
    at false ih = omega arith

-- a package number is not longer without its leading zeros
package_short : (p : List ℕ) → good_slot z_f p ≡ true → length (decimal (number 0 p)) ≤ length p
package_short [] g = omega arith
package_short (c ∷ v) g =
    let k = keeping z_f c v g in
    omega (arith, strip_short (c ∷ v), ap length (decimal_strip (c ∷ v) (package_digits (c ∷ v) k.rule) k.short))

weight_less : (f : Field) (v w : List ℕ) → length v ≤ length w → slot_weight f v ≤ slot_weight f w
weight_less f [] w h = omega arith
weight_less f (c ∷ v) [] h = absurd (omega arith)
weight_less f (c ∷ v) (d ∷ w) h = omega arith

weights_m : (x : List ℕ) (vs : Slots) → slots_weight (fields_of M) (x ∷ vs) ≡ slot_weight z_f x + slots_weight (drop 1 (fields_of M)) vs
unfolding fields_of
weights_m x vs = refl

row_weighed : (k : Kind) (vs : Slots) (ws : List Slots) → ItemOk (item k vs ws) → rows_weight (row_of (item k vs ws)) ≤ item_weight (item k vs ws)
row_weighed unknown vs ws o = omega arith
row_weighed MP vs ws o = omega arith
row_weighed P vs ws o = omega arith
row_weighed A vs ws o = omega arith
row_weighed O vs ws o = omega arith
row_weighed S vs ws o = at (all_empty vs)
  where
    at : (b : Bool) → rows_weight (if (not b) (record { kind = S; pzn = 0; slots = vs; ws = [] } ∷ []) []) ≤ item_weight (item S vs ws)
    at true = omega arith
    at false = omega arith
row_weighed M [] ws o = no (sym (good_slots_lem M [] o.good) ∙ no_slots)
row_weighed M (p ∷ vs) ws o =
    let g = (both (good_slot z_f p) (good_slots (drop 1 (fields_of M)) vs) (sym (slots_m vs p) ∙ good_slots_lem M (p ∷ vs) o.good)).0 in
    let d : List ℕ = decimal (number 0 p) in
    omega (arith, ap (λ (x : List ℕ). slots_weight (fields_of M) (decimal (number 0 x) ∷ vs)) (slot_p p vs), weights_m d vs, weights_m p vs, weight_less z_f d p (package_short p g))
row_weighed W vs ws o = omega arith
row_weighed R vs ws o = omega arith
row_weighed X vs ws o = omega arith

-- ---- a sheet costs no more than the elements of its page

-- the first element of a kind; 0 if there is none
abbrev there : Kind → List Item → ℕ
there k [] = 0
there k (x ∷ xs) = if (is x.kind k) (element_weight k x.slots) (there k xs)

blank_weight : (fs : List Field) → slots_weight fs (blank fs) ≡ 0
blank_weight [] = refl
blank_weight (f ∷ fs) = omega (arith, blank_weight fs)

part_there : (k : Kind) (xs : List Item) → slots_weight (fields_of k) (part k xs) ≤ there k xs
part_there k [] = omega (arith, blank_weight (fields_of k))
part_there k (x ∷ xs) = at (is x.kind k) (part_there k xs)
  where
    at : (b : Bool) → slots_weight (fields_of k) (part k xs) ≤ there k xs → slots_weight (fields_of k) (if b x.slots (part k xs)) ≤ if b (element_weight k x.slots) (there k xs)
    at true ih = omega arith
    at false ih = ih

slot_weighs : (n : List ℕ) (fs : List Field) (vs : Slots) → 1 ≤ length (slot n fs vs) → 4 + (length n + length (slot n fs vs)) ≤ slots_weight fs vs
slot_weighs n [] vs h = absurd (omega arith)
slot_weighs n (f ∷ fs) [] h = absurd (omega arith)
slot_weighs n (f ∷ fs) (v ∷ vs) h = at (same n f.letters) refl v h (slot_weighs n fs vs)
  where
    at : (b : Bool) → same n f.letters ≡ b → (v : List ℕ) → 1 ≤ length (if b v (slot n fs vs)) → (1 ≤ length (slot n fs vs) → 4 + (length n + length (slot n fs vs)) ≤ slots_weight fs vs)
        → 4 + (length n + length (if b v (slot n fs vs))) ≤ slot_weight f v + slots_weight fs vs
    at true q [] h ih = absurd (omega arith)
    at true q (c ∷ v) h ih = omega (arith, ap length (same_eq n f.letters q))
    at false q v h ih = omega (arith, ih h)

slot_blank : (n : List ℕ) (fs : List Field) → slot n fs (blank fs) ≡ []
slot_blank n [] = refl
slot_blank n (f ∷ fs) = rw (slot_blank n fs) (if_same (same n f.letters) [])

-- an element with a present value is there
slot_there : (n : List ℕ) (k : Kind) (xs : List Item) → 1 ≤ length (slot n (fields_of k) (part k xs)) → 7 + (length n + length (slot n (fields_of k) (part k xs))) ≤ there k xs
slot_there n k [] h = absurd (omega (arith, ap length (slot_blank n (fields_of k))))
slot_there n k (x ∷ xs) h = at (is x.kind k) h (slot_there n k xs)
  where
    at : (b : Bool) → 1 ≤ length (slot n (fields_of k) (if b x.slots (part k xs)))
        → (1 ≤ length (slot n (fields_of k) (part k xs)) → 7 + (length n + length (slot n (fields_of k) (part k xs))) ≤ there k xs)
        → 7 + (length n + length (slot n (fields_of k) (if b x.slots (part k xs)))) ≤ if b (element_weight k x.slots) (there k xs)
    at true h ih = omega (arith, slot_weighs n (fields_of k) x.slots h)
    at false h ih = ih h

-- the elements that a head is made of
abbrev headed : List Item → ℕ
headed xs = there MP xs + (there P xs + (there A xs + there O xs))

-- an element counts once: for the head, or for a row
share : (k : Kind) (vs : Slots) (ws : List Slots) (xs : List Item) → ItemOk (item k vs ws) → headed (item k vs ws ∷ xs) + rows_weight (row_of (item k vs ws)) ≤ headed xs + item_weight (item k vs ws)
share unknown vs ws xs o = omega arith
share MP vs ws xs o = omega arith
share P vs ws xs o = omega arith
share A vs ws xs o = omega arith
share O vs ws xs o = omega arith
share S vs ws xs o = omega (arith, row_weighed S vs ws o)
share M vs ws xs o = omega (arith, row_weighed M vs ws o)
share W vs ws xs o = omega arith
share R vs ws xs o = omega (arith, row_weighed R vs ws o)
share X vs ws xs o = omega (arith, row_weighed X vs ws o)

shared : (xs : List Item) → ItemsOk xs → headed xs + rows_weight (rows_of xs) ≤ items_weight xs
shared [] o = omega arith
shared (x ∷ xs) o = omega (arith, share x.kind x.slots x.ws xs o.0, rows_weight_append (row_of x) (rows_of xs), shared xs o.1)

-- the lengths in a sound head: U has 32 bytes at least, l at most five, the patch at most two
record HeadLengths (h : Head) : Type 0 where
  ident_long : 32 ≤ length h.ident
  lang_short : length h.lang ≤ 5
  patch_short : length (decimal h.patch) ≤ 2

least_long : (f : Field) (v : List ℕ) → good_slot f v ≡ true → is_empty v ≡ false → f.least ≤ length v
least_long f [] g e = no e
least_long f (c ∷ v) g e = (keeping f c v g).long

pub most_short : (f : Field) (v : List ℕ) → good_slot f v ≡ true → length v ≤ f.most
most_short f [] g = omega arith
most_short f (c ∷ v) g = (keeping f c v g).short

head_lengths : (h : Head) → sound_head h ≡ true → HeadLengths h
head_lengths h e =
    let (p, u, l, n) = parts edition (decimal h.patch) h.ident h.lang (49 ∷ []) (49 ∷ []) (head_sound_lem h e).mp_ok in
    record { ident_long = least_long u_f h.ident u n; lang_short = most_short l_f h.lang l; patch_short = most_short p_f (decimal h.patch) p }

sheet_weighed : (xs : List Item) → ItemsOk xs → sound_head (sheet_of xs).head ≡ true → head_weight (sheet_of xs).head + rows_weight (rows_of xs) ≤ items_weight xs
sheet_weighed xs o e =
    let long = (head_lengths (sheet_of xs).head e).ident_long in
    omega (arith, slot_there (bytes "U") MP xs (omega (arith, long)), part_there P xs, part_there A xs, part_there O xs, shared xs o)

-- A sheet's head and rows cost no more than its page has.
pub sheet_weight : (w : List ℕ) (s : Sheet) → judge w ≡ sheet s → head_weight s.head + rows_weight s.rows ≤ 1400
sheet_weight w s e =
    let j = judges w s e in
    let xs : List Item = items [] (placed (length w) j.tags) in
    let ok : sound_head (sheet_of xs).head ≡ true = ap (λ (t : Sheet). sound_head t.head) j.told ∙ (judge_ok w s e).head_ok in
    let all = sheet_weighed xs (items_ok (placed (length w) j.tags) [] tt j.clean) ok in
    let same-weight : head_weight (sheet_of xs).head + rows_weight (sheet_of xs).rows ≡ head_weight s.head + rows_weight s.rows = ap (λ (t : Sheet). head_weight t.head + rows_weight t.rows) j.told in
    omega (arith, all, same-weight, page_weight j.taken (length w), j.short)

-- ---- all pages

-- the rows of all sheets
abbrev sheets_weight : List Sheet → ℕ
sheets_weight [] = 0
sheets_weight (s ∷ l) = rows_weight s.rows + sheets_weight l

-- one sheet more gives no more than its own rows
joined_more : (s : Sheet) (l : List Sheet) (k n : ℕ) → rows_weight (joined (s ∷ l) n k) ≤ rows_weight s.rows + rows_weight (joined l n k)
joined_more s l zero n = omega arith
joined_more s l (suc k) n = at (eqb s.no n) refl (joined_more s l k (suc n))
  where
    at : (b : Bool) → eqb s.no n ≡ b → rows_weight (joined (s ∷ l) (suc n) k) ≤ rows_weight s.rows + rows_weight (joined l (suc n) k)
        → rows_weight (if b s.rows (rows_at n l) ++ joined (s ∷ l) (suc n) k) ≤ rows_weight s.rows + rows_weight (rows_at n l ++ joined l (suc n) k)
    at true q ih =
        let past : joined (s ∷ l) (suc n) k ≡ joined l (suc n) k = skip s l k (suc n) (omega (arith, eqb-true s.no n q)) in
        omega (arith, rows_weight_append s.rows (joined (s ∷ l) (suc n) k), rows_weight_append (rows_at n l) (joined l (suc n) k), ap rows_weight past)
    at false q ih = omega (arith, ih, rows_weight_append (rows_at n l) (joined (s ∷ l) (suc n) k), rows_weight_append (rows_at n l) (joined l (suc n) k))

joined_weight : (l : List Sheet) (k n : ℕ) → rows_weight (joined l n k) ≤ sheets_weight l
joined_weight [] k n = omega (arith, ap rows_weight (joined_none k n))
joined_weight (s ∷ l) k n = omega (arith, joined_more s l k n, joined_weight l k n)

pages_weight : (ws : List (List ℕ)) (l : List Sheet) → Each ws l → sheets_weight l ≤ 1400 * length ws
pages_weight [] [] e = omega arith
pages_weight [] (s ∷ l) e = absurd e
pages_weight (w ∷ ws) [] e = absurd e
pages_weight (w ∷ ws) (s ∷ l) e = omega (arith, sheet_weight w s e.0, pages_weight ws l e.1)

accept_weight : (ws : List (List ℕ)) (l : List Sheet) (p : Plan) → Each ws l → Accept l p → plan_weight p ≤ 1400 * length ws
accept_weight [] [] p e a = absurd (let h = a.some in omega arith)
accept_weight [] (s ∷ l) p e a = absurd e
accept_weight (w ∷ ws) [] p e a = absurd e
accept_weight (w ∷ ws) (s ∷ l) p e a =
    omega (arith, ap head_weight a.alike.1, ap rows_weight a.rows, joined_weight (s ∷ l) a.count 1, sheet_weight w s e.0, pages_weight ws l e.1)

-- A plan that was read costs no more than nine pages have.
pub plan_weight_lem : (f : List (List ℕ)) (p : Plan) → read f ≡ plan p → plan_weight p ≤ 12600
plan_weight_lem f p e = let r = reads f p e in omega (arith, accept_weight f r.sheets p r.each r.accept, r.nine)

-- ---- the text

concat_append : (a b : Slots) → length (concat (a ++ b)) ≡ length (concat a) + length (concat b)
concat_append [] b = omega arith
concat_append (v ∷ a) b = omega (arith, length-append v (concat (a ++ b)), length-append v (concat a), concat_append a b)

values_text : (fs : List Field) (vs : Slots) → good_slots fs vs ≡ true → length (concat vs) ≤ slots_weight fs vs
values_text [] [] g = omega arith
values_text [] (v ∷ vs) g = no (sym g)
values_text (f ∷ fs) [] g = no (sym g)
values_text (f ∷ fs) ([] ∷ vs) g = omega (arith, values_text fs vs (both (good_slot f []) (good_slots fs vs) g).1)
values_text (f ∷ fs) ((c ∷ v) ∷ vs) g = omega (arith, length-append (c ∷ v) (concat vs), values_text fs vs (both (good_slot f (c ∷ v)) (good_slots fs vs) g).1)

element_text : (k : Kind) (vs : Slots) → good_element k vs ≡ true → length (concat vs) ≤ slots_weight (fields_of k) vs
element_text k vs g = values_text (fields_of k) vs (good_slots_lem k vs g)

ws_text_lem : (ws : List Slots) → every (good_element W) ws ≡ true → length (concat (concat ws)) ≤ ws_weight ws
ws_text_lem [] g = omega arith
ws_text_lem (w ∷ ws) g = let (a, b) = both (good_element W w) (every (good_element W) ws) g in omega (arith, concat_append w (concat ws), element_text W w a, ws_text_lem ws b)

row_text_lem : {r : Row} → View r → length (concat (row_values r)) ≤ row_weight r
row_text_lem (head vs e g) = omega (arith, concat_append vs [], element_text S vs g)
row_text_lem (med n vs ws l w e g) = omega (arith, concat_append vs (concat ws), length-append (decimal n) (concat vs), element_text M (decimal n ∷ vs) g, ws_text_lem ws w)
row_text_lem (rec vs g) = omega (arith, concat_append vs [], element_text R vs g)
row_text_lem (free vs g) = omega (arith, concat_append vs [], element_text X vs g)

rows_text_lem : (rs : List Row) → AllSound rs → length (concat (rows_values rs)) ≤ rows_weight rs
rows_text_lem [] a = omega arith
rows_text_lem (r ∷ rs) a = omega (arith, concat_append (row_values r) (rows_values rs), row_text_lem a.0, rows_text_lem rs a.1)

pub head_text_lem : (h : Head) → sound_head h ≡ true → length (concat (head_values h)) ≤ head_weight h
head_text_lem h e =
    let k = head_sound_lem h e in
    omega (
      arith,
      (head_lengths h e).lang_short,
      length-append h.ident (h.lang ++ concat (h.person ++ (h.author ++ h.measures))),
      length-append h.lang (concat (h.person ++ (h.author ++ h.measures))),
      concat_append h.person (h.author ++ h.measures),
      concat_append h.author h.measures,
      element_text P h.person k.person_ok,
      element_text A h.author k.author_ok,
      element_text O h.measures k.measures_ok,
    )

-- A sound plan's text is not longer than what the plan costs in pages.
pub text_weight : (p : Plan) → sound p ≡ true → length (text_of p) ≤ plan_weight p
unfolding text_of plan_values
text_weight p e =
    let (h, r) = both (sound_head p.head) (every sound_row p.rows) e in
    omega (arith, concat_append (head_values p.head) (rows_values p.rows), head_text_lem p.head h, rows_text_lem p.rows (all_sound p.rows r))

-- ---- the listing

-- how long a field's line is, behind a path of k bytes
abbrev line_size : ℕ → Field → List ℕ → ℕ
line_size k f [] = 0
line_size k f (c ∷ v) = k + (length f.letters + (2 + length (c ∷ v)))

-- how long the lines of an element are, behind a path of k bytes
abbrev lines_size : ℕ → List Field → Slots → ℕ
lines_size k [] vs = 0
lines_size k (f ∷ fs) [] = 0
lines_size k (f ∷ fs) (v ∷ vs) = line_size k f v + lines_size k fs vs

pub line_length : (k v : List ℕ) (ls : List Line) → length (print (line k v ∷ ls)) ≡ length k + (2 + length v) + length (print ls)
line_length k v ls = omega (arith, length-append k (61 ∷ (v ++ 10 ∷ print ls)), length-append v (10 ∷ print ls))

print_append : (a b : List Line) → length (print (a ++ b)) ≡ length (print a) + length (print b)
print_append [] b = omega arith
print_append (l ∷ a) b = omega (arith, line_length l.key l.value (a ++ b), line_length l.key l.value a, print_append a b)

field_lines_lem : (k : List ℕ) (fs : List Field) (vs : Slots) → length (print (field_lines k fs vs)) ≡ lines_size (length k) fs vs
field_lines_lem k [] vs = refl
field_lines_lem k (f ∷ fs) [] = refl
field_lines_lem k (f ∷ fs) ([] ∷ vs) = omega (arith, field_lines_lem k fs vs)
field_lines_lem k (f ∷ fs) ((c ∷ v) ∷ vs) = omega (arith, line_length (k ++ f.letters) (c ∷ v) (field_lines k fs vs), length-append k f.letters, field_lines_lem k fs vs)

line_pays : (k : ℕ) (f : Field) (v : List ℕ) → k ≤ 7 → line_size k f v ≤ 2 * slot_weight f v
line_pays k f [] h = omega arith
line_pays k f (c ∷ v) h = omega arith

lines_pay : (k : ℕ) (fs : List Field) (vs : Slots) → k ≤ 7 → lines_size k fs vs ≤ 2 * slots_weight fs vs
lines_pay k [] vs h = omega arith
lines_pay k (f ∷ fs) [] h = omega arith
lines_pay k (f ∷ fs) (v ∷ vs) h = omega (arith, line_pays k f v h, lines_pay k fs vs h)

element_lines_lem : (k : Kind) (vs : Slots) → length (path k) ≤ 7 → length (print (element_lines k vs)) ≤ 2 * slots_weight (fields_of k) vs
element_lines_lem k vs h = omega (arith, field_lines_lem (path k) (fields_of k) vs, lines_pay (length (path k)) (fields_of k) vs h)

-- two bytes more before each of an element's lines
lines_more : (k : ℕ) (fs : List Field) (vs : Slots) → lines_size (2 + k) fs vs ≤ lines_size k fs vs + 2 * length fs
lines_more k [] vs = omega arith
lines_more k (f ∷ fs) [] = omega arith
lines_more k (f ∷ fs) ([] ∷ vs) = omega (arith, lines_more k fs vs)
lines_more k (f ∷ fs) ((c ∷ v) ∷ vs) = omega (arith, lines_more k fs vs)

two_fields : length (fields_of W) ≡ 2
unfolding fields_of
two_fields = refl

w_lines_lem : (ws : List Slots) → length (print (w_lines ws)) ≤ 2 * ws_weight ws
w_lines_lem [] = omega arith
w_lines_lem (w ∷ ws) =
    omega (arith, print_append (element_lines W w) (w_lines ws), field_lines_lem (path W) (fields_of W) w, lines_more 7 (fields_of W) w, two_fields, lines_pay 7 (fields_of W) w (omega arith), w_lines_lem ws)

-- a row's mark is paid by its tag, its lines by its values
marked : (k m : List ℕ) (ls : List Line) (ws : List Slots) (e : ℕ) → length k + length m ≤ 4 → length (print ls) ≤ 2 * e → length (print (line k m ∷ (ls ++ w_lines ws))) ≤ 2 * (3 + e + ws_weight ws)
marked k m ls ws e h i = omega (arith, line_length k m (ls ++ w_lines ws), print_append ls (w_lines ws), w_lines_lem ws)

row_lines_lem : {r : Row} → View r → length (print (row_lines r)) ≤ 2 * row_weight r
row_lines_lem (head vs e g) = marked (bytes "row") (bytes "H") (element_lines S vs) [] (slots_weight (fields_of S) vs) (omega arith) (element_lines_lem S vs (omega arith))
row_lines_lem (med n vs ws l w e g) = marked (bytes "row") (bytes "M") (element_lines M (decimal n ∷ vs)) ws (slots_weight (fields_of M) (decimal n ∷ vs)) (omega arith) (element_lines_lem M (decimal n ∷ vs) (omega arith))
row_lines_lem (rec vs g) = marked (bytes "row") (bytes "R") (element_lines R vs) [] (slots_weight (fields_of R) vs) (omega arith) (element_lines_lem R vs (omega arith))
row_lines_lem (free vs g) = marked (bytes "row") (bytes "X") (element_lines X vs) [] (slots_weight (fields_of X) vs) (omega arith) (element_lines_lem X vs (omega arith))

rows_lines_lem : (rs : List Row) → AllSound rs → length (print (rows_lines rs)) ≤ 2 * rows_weight rs
rows_lines_lem [] a = omega arith
rows_lines_lem (r ∷ rs) a = omega (arith, print_append (row_lines r) (rows_lines rs), row_lines_lem a.0, rows_lines_lem rs a.1)

line_most : (k : ℕ) (f : Field) (v : List ℕ) → line_size k f v ≤ k + (length f.letters + (2 + length v))
line_most k f [] = omega arith
line_most k f (c ∷ v) = omega arith

-- the lines of MP and the row count's, which has at most nine bytes, are paid by U
mp_lines_lem : (h : Head) → HeadLengths h → lines_size 3 (fields_of MP) (mp_listed h) + 9 ≤ 2 * (8 + length h.ident)
unfolding fields_of
mp_lines_lem h k =
    omega (arith, line_most 3 p_f (decimal h.patch), line_most 3 u_f h.ident, line_most 3 l_f h.lang, k.ident_long, k.lang_short, k.patch_short)

head_lines_lem : (h : Head) → sound_head h ≡ true → length (print (head_lines h)) + 9 ≤ 2 * head_weight h
head_lines_lem h e =
    omega (
      arith,
      print_append (element_lines MP (mp_listed h)) (element_lines P h.person ++ (element_lines A h.author ++ element_lines O h.measures)),
      print_append (element_lines P h.person) (element_lines A h.author ++ element_lines O h.measures),
      print_append (element_lines A h.author) (element_lines O h.measures),
      field_lines_lem (path MP) (fields_of MP) (mp_listed h),
      mp_lines_lem h (head_lengths h e),
      element_lines_lem P h.person (omega arith),
      element_lines_lem A h.author (omega arith),
      element_lines_lem O h.measures (omega arith),
    )

pub count_short : (n : ℕ) → n ≤ 256 → length (numeral n) ≤ 3
count_short n h = leb-true (length (numeral n)) 3 (below_at 257 (λ m. leb (length (numeral m)) 3) refl n (omega arith))

-- A sound plan's listing is not longer than twice what the plan costs in pages.
pub listing_weight : (p : Plan) → sound p ≡ true → length p.rows ≤ 256 → length (listing p) ≤ 2 * plan_weight p
unfolding listing plan_lines
listing_weight p e few =
    let (h, r) = both (sound_head p.head) (every sound_row p.rows) e in
    let last : List Line = line (bytes "rows") (numeral (length p.rows)) ∷ [] in
    omega (
      arith,
      print_append (head_lines p.head) (rows_lines p.rows ++ last),
      print_append (rows_lines p.rows) last,
      line_length (bytes "rows") (numeral (length p.rows)) [],
      count_short (length p.rows) few,
      head_lines_lem p.head h,
      rows_lines_lem p.rows (all_sound p.rows r),
    )

-- ---- the rooms

-- what the stated rooms must hold
pub record Fits (p : Plan) : Type 0 where
  pub rows_fit : length p.rows ≤ row_room
  pub text_fits : length (text_of p) ≤ text_room
  pub listing_fits : length (listing p) ≤ listing_room

-- The stated room is always enough: what was read has at most 256 rows, 12,600 bytes of text and 25,200 bytes of listing.
pub rooms : (f : List (List ℕ)) (p : Plan) → read f ≡ plan p → Fits p
rooms f p e =
    let (s, few) = read_sound f p e in
    let w = plan_weight_lem f p e in
    record { rows_fit = few; text_fits = omega (arith, w, text_weight p s); listing_fits = omega (arith, w, listing_weight p s few) }

-- a number in at most k digits has at most k
pub digits_most : (k n : ℕ) → length (digits_of k n) ≤ k
digits_most zero n = omega arith
digits_most (suc k) n = at (ltb n 10) (digits_most k (n / 10))
  where
    at : (b : Bool) → length (digits_of k (n / 10)) ≤ k → length (if b ((48 + n) ∷ []) (digits_of k (n / 10) ++ (48 + n % 10) ∷ [])) ≤ suc k
    at true ih = omega arith
    at false ih = omega (arith, length-append (digits_of k (n / 10)) ((48 + n % 10) ∷ []))

-- the lines of any refusal are short
pub refusal_short : (n k i : ℕ) → length (refusal_lines n k i) ≤ 82
unfolding refusal_lines
refusal_short n k i =
    let third : List Line = line (bytes "place") (numeral i) ∷ [] in
    let second : List Line = line (bytes "page") (numeral k) ∷ third in
    omega (arith, line_length (bytes "refused") (numeral n) second, line_length (bytes "page") (numeral k) third, line_length (bytes "place") (numeral i) [], digits_most 20 n, digits_most 20 k, digits_most 20 i)

-- The listing room holds every answer's lines, a plan's or a refusal's.
pub answer_fits : (f : List (List ℕ)) → length (answer_lines (read f)) ≤ listing_room
answer_fits f = at (read f) refl
  where
    at : (a : Answer) → read f ≡ a → length (answer_lines a) ≤ listing_room
    at (refusal n k i) e = omega (arith, refusal_short n k i)
    at (plan p) e = (rooms f p e).listing_fits
