-- Writing: document 01, "Fresh pages" and refusals 13 and 14. What a sound plan is, the one spelling of a page, and the pages that a plan fills.
-- Assumes nothing.
use Rattle.std.specs.Prelude.{Bool, true, false, not, ◌&&◌, ◌||◌, List, [], ◌∷◌, ◌++◌, ℕ, zero, suc, ◌+◌, ◌/◌, ◌%◌, eqb, leb, ltb, length}
use Rattle.paper.specs.Lists.{bytes, if, same, is_empty, every}
use Rattle.paper.specs.Grammar.{Attr}
use Rattle.paper.specs.Values.{escape, cut}
use Rattle.paper.specs.Fields.{Kind, unknown, MP, P, A, O, S, M, W, R, X, is, edition, Field, fields_of, tag_name, excluded}
use Rattle.paper.specs.Rules.{keeps, is_zero}
use Rattle.paper.specs.Plan.{Slots, Head, Row, Plan, slot, names_of}
use Rattle.paper.specs.Judging.{missing, clash, all_empty}
use Rattle.paper.specs.Sizes.{page_bytes}

-- ---- numbers in digits

-- a number in digits without leading zeros, at most k of them
abbrev pub digits_of : ℕ → ℕ → List ℕ
digits_of zero n = []
digits_of (suc k) n = if (ltb n 10) ((48 + n) ∷ []) (digits_of k (n / 10) ++ (48 + n % 10) ∷ [])

-- patch and package number as values: 0 is absent; a number of nine digits or more is too long for any field
abbrev pub decimal : ℕ → List ℕ
decimal zero = []
decimal (suc n) = digits_of 9 (suc n)

-- ---- soundness: refusal 13, "breaks a rule above, holds a value in a form that reading never gives"

-- an absent slot, or one that keeps its field, without a trailing space, and no dose of 0
abbrev pub good_slot : Field → List ℕ → Bool
good_slot f v = is_empty v || (keeps f v && (same (cut v) v && not (is_zero f.rule v)))

-- an element has just its table's slots, each good
abbrev pub good_slots : List Field → Slots → Bool
good_slots [] [] = true
good_slots [] (v ∷ vs) = false
good_slots (f ∷ fs) [] = false
good_slots (f ∷ fs) (v ∷ vs) = good_slot f v && good_slots fs vs

-- an element's slots are good, no field marked * is missing, and no two fields exclude each other
unfoldable pub good_element : Kind → Slots → Bool
good_element k vs = good_slots (fields_of k) vs && (not (missing (fields_of k) vs) && not (clash (excluded k) (names_of (fields_of k) vs)))

-- all of MP's slots on page a of z
abbrev pub mp_slots : Head → ℕ → ℕ → Slots
mp_slots h a z = edition ∷ decimal h.patch ∷ h.ident ∷ h.lang ∷ ((48 + a) ∷ []) ∷ ((48 + z) ∷ []) ∷ []

-- a sound head: patch 0..99, l present, and MP, P, A, O good
unfoldable pub sound_head : Head → Bool
sound_head h = leb h.patch 99 && (not (is_empty h.lang) && (good_element MP (mp_slots h 1 1)
    && (good_element P h.person && (good_element A h.author && good_element O h.measures))))

-- all of a row's slots, an M's package number first
abbrev pub row_slots : Row → Slots
row_slots r = if (is r.kind M) (decimal r.pzn ∷ r.slots) r.slots

-- there is no W
abbrev pub none_of : List Slots → Bool
none_of [] = true
none_of (w ∷ ws) = false

-- what a row of its kind needs: a heading has c or t; an M has at most three W, and p, a or a W; only an M has a package number or a W
abbrev pub needs : Kind → Row → Bool
needs S r = not (all_empty r.slots) && (eqb r.pzn 0 && none_of r.ws)
needs M r = leb (length r.ws) 3 && (every (good_element W) r.ws
    && not (none_of r.ws && (is_empty (slot (bytes "p") (fields_of M) (row_slots r)) && is_empty (slot (bytes "a") (fields_of M) (row_slots r)))))
needs R r = eqb r.pzn 0 && none_of r.ws
needs X r = eqb r.pzn 0 && none_of r.ws
needs unknown r = false
needs MP r = false
needs P r = false
needs A r = false
needs O r = false
needs W r = false

-- a sound row
unfoldable pub sound_row : Row → Bool
sound_row r = needs r.kind r && good_element r.kind (row_slots r)

-- a sound plan
abbrev pub sound : Plan → Bool
sound p = sound_head p.head && every sound_row p.rows

-- ---- spelling, each piece with what comes after it

-- the attributes of an element: "absent fields … are left out"
abbrev pub attrs_of : List Field → Slots → List Attr
attrs_of [] vs = []
attrs_of (f ∷ fs) [] = []
attrs_of (f ∷ fs) ([] ∷ vs) = attrs_of fs vs
attrs_of (f ∷ fs) ((c ∷ v) ∷ vs) = record { name = f.letters; raw = escape (c ∷ v) } ∷ attrs_of fs vs

-- "one blank before each attribute and no other space outside values, double quotes"
abbrev pub print_attrs : List Attr → List ℕ
print_attrs [] = []
print_attrs (a ∷ l) = 32 ∷ (a.name ++ (61 ∷ (34 ∷ (a.raw ++ 34 ∷ print_attrs l))))

-- an element's attributes, spelled
abbrev pub spelled : Kind → Slots → List ℕ
spelled k vs = print_attrs (attrs_of (fields_of k) vs)

-- a self-closed element
abbrev pub bare : Kind → Slots → List ℕ → List ℕ
bare k vs x = 60 ∷ (tag_name k ++ (spelled k vs ++ 47 ∷ 62 ∷ x))

-- a start tag
abbrev pub opening : Kind → Slots → List ℕ → List ℕ
opening k vs x = 60 ∷ (tag_name k ++ (spelled k vs ++ 62 ∷ x))

-- an end tag
abbrev pub closing : Kind → List ℕ → List ℕ
closing k x = 60 ∷ 47 ∷ (tag_name k ++ 62 ∷ x)

-- the W of an M and the M's end tag
abbrev pub ws_text : List Slots → List ℕ → List ℕ
ws_text [] x = closing M x
ws_text (w ∷ ws) x = bare W w (ws_text ws x)

-- a row that is no heading: "`<M …/>` without W, else paired; P, A, O, W, R, X self-closed"
abbrev pub body_text : List Slots → Kind → Slots → List ℕ → List ℕ
body_text [] k vs x = bare k vs x
body_text (w ∷ ws) k vs x = opening k vs (ws_text (w ∷ ws) x)

-- a heading row
abbrev pub heading : Row → Bool
heading r = is r.kind S

-- the rows: "A heading row opens a new S. A page whose first row is no heading opens it with `<S>`." The flag says that an S is open.
abbrev pub rows_text : Bool → List Row → List ℕ → List ℕ
rows_text true [] x = closing S x
rows_text false [] x = x
rows_text true (r ∷ rs) x = if (heading r) (closing S (opening S r.slots (rows_text true rs x))) (body_text r.ws r.kind (row_slots r) (rows_text true rs x))
rows_text false (r ∷ rs) x = if (heading r) (opening S r.slots (rows_text true rs x))
    (opening S ([] ∷ [] ∷ []) (body_text r.ws r.kind (row_slots r) (rows_text true rs x)))

-- O, if it has a field
abbrev pub measures_text : Slots → List ℕ → List ℕ
measures_text vs x = if (all_empty vs) x (bare O vs x)

-- page a of z
unfoldable pub page : Head → List Row → ℕ → ℕ → List ℕ
page h rs a z = opening MP (mp_slots h a z) (bare P h.person (bare A h.author (measures_text h.measures (rows_text false rs (closing MP [])))))

-- ---- the cut

-- pages 1 to z of z, spelled, one for each part of the rows; a is the number of the first
abbrev pub pages : Head → ℕ → ℕ → List (List Row) → List (List ℕ)
pages h z a [] = []
pages h z a (rs ∷ ps) = page h rs a z ∷ pages h z (suc a) ps

-- a page of these rows fits into 1,400 bytes; a and z are one digit each, so its length is that of page 1 of 1
abbrev pub fits : Head → List Row → Bool
fits h rs = leb (length (page h rs 1 1)) page_bytes

-- "Each page takes as many rows as fit into 1,400 bytes; a plan without rows is one page." `on` are the rows that stand on the page already. A row that fits
-- on no page stands alone on one that is too long; `cuttable` refuses it.
abbrev pub fill : Head → List Row → List Row → List (List Row)
fill h on [] = on ∷ []
fill h on (r ∷ rs) = if (fits h (on ++ r ∷ [])) (fill h (on ++ r ∷ []) rs) (on ∷ fill h (r ∷ []) rs)

-- so filled, the rows stand on at most nine pages that all fit
unfoldable pub cuttable : Head → List Row → Bool
cuttable h rs = every (fits h) (fill h [] rs) && leb (length (fill h [] rs)) 9

-- refusal 14: "first row r such that rows 1..r have no cut"; `on` are the rows before
abbrev pub first_without : Head → List Row → List Row → ℕ
first_without h on [] = length on
first_without h on (r ∷ rs) = if (cuttable h (on ++ r ∷ [])) (first_without h (on ++ r ∷ []) rs) (suc (length on))

-- "0 if the head alone is too long"
unfoldable pub place14 : Head → List Row → ℕ
place14 h rs = if (fits h []) (first_without h [] rs) 0

-- the first row that breaks a rule, counted from k; 0 if none does
abbrev pub first_bad : ℕ → List Row → ℕ
first_bad k [] = 0
first_bad k (r ∷ rs) = if (sound_row r) (first_bad (suc k) rs) k

-- refusal 13: "first bad row counted from 1, 0 for the head, head first"
abbrev pub place13 : Plan → ℕ
place13 p = if (sound_head p.head) (first_bad 1 p.rows) 0

-- refused with 1 (a call that is not well made: more than 256 rows, and for the writer's calls more rows than are lent or too little room), with 13 or 14 and
-- the place, or the fresh pages
pub data Written : Type 0 where
  bad_call : Written
  unsound : ℕ → Written
  too_long : ℕ → Written
  written : List (List ℕ) → Written

-- a sound plan to its fresh pages
abbrev pub lay : Head → List Row → Written
lay h rs = if (cuttable h rs) (written (pages h (length (fill h [] rs)) 1 (fill h [] rs))) (too_long (place14 h rs))

-- a plan to its fresh pages: "Writer: 1, 13, 14."
unfoldable pub fresh : Plan → Written
fresh p = if (leb (length p.rows) 256) (if (sound p) (lay p.head p.rows) (unsound (place13 p))) bad_call
