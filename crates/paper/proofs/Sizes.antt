-- The length of a page is a sum over its rows.
use mathlib.Core.Path.{◌≡◌, refl, sym, ◌∙◌}
use mathlib.Core.Bool.{Bool, true, false}
use mathlib.Core.List.{List, [], ◌∷◌, ◌++◌}
use Prim.Native.Nat.{ℕ, ◌+◌, ◌≤◌}
use native.Mathlib.Omega.{arith}
use lib.ListN.{length, length-append}
use borrow.Author.Tests.{ne_eqb}
use Rattle.paper.specs.Lists.{if}
use Rattle.paper.specs.Fields.{Kind, MP, P, A, O, S, W, Field, fields_of}
use Rattle.paper.specs.Plan.{Slots, Row, Head}
use Rattle.paper.specs.Values.{esc, escape}
use Rattle.paper.specs.Judging.{all_empty}
use Rattle.paper.specs.Writing.{bare, opening, closing, ws_text, body_text, rows_text, heading, row_slots, measures_text, mp_slots, page, spelled, attrs_of, print_attrs}
use Rattle.paper.proofs.BySize.{row_size, base}
use Rattle.paper.proofs.AnyCut as C

bare_size : (k : Kind) (vs : Slots) (x : List ℕ) → length (bare k vs x) ≡ length (bare k vs []) + length x
bare_size k vs x = simp length-append (omega arith)

opening_size : (k : Kind) (vs : Slots) (x : List ℕ) → length (opening k vs x) ≡ length (opening k vs []) + length x
opening_size k vs x = simp length-append (omega arith)

ws_size : (ws : List Slots) (x : List ℕ) → length (ws_text ws x) ≡ length (ws_text ws []) + length x
ws_size [] x = omega arith
ws_size (w ∷ ws) x = bare_size W w (ws_text ws x) ∙ omega (arith, bare_size W w (ws_text ws []), ws_size ws x)

body_size : (ws : List Slots) (k : Kind) (vs : Slots) (x : List ℕ) → length (body_text ws k vs x) ≡ length (body_text ws k vs []) + length x
body_size [] k vs x = bare_size k vs x
body_size (w ∷ ws) k vs x = opening_size k vs (ws_text (w ∷ ws) x) ∙ omega (arith, opening_size k vs (ws_text (w ∷ ws) []), ws_size (w ∷ ws) x)

pub size_head : (r : Row) → heading r ≡ true → row_size r ≡ length (opening S r.slots []) + 4
unfolding row_size
size_head r e = rw e

pub size_body : (r : Row) → heading r ≡ false → row_size r ≡ length (body_text r.ws r.kind (row_slots r) [])
unfolding row_size
size_body r e = rw e

empty_section : (x : List ℕ) → length (opening S ([] ∷ [] ∷ []) x) ≡ 3 + length x
unfolding fields_of
empty_section x = omega arith

module _ (b : ℕ) where
  abbrev pub total : List Row → ℕ
  total rs = C.total row_size heading b 1400 rs

  open_size : (rs : List Row) (x : List ℕ) → length (rows_text true rs x) ≡ total rs + 4 + length x
  open_size [] x = omega arith
  open_size (r ∷ rs) x = at (heading r) refl (open_size rs x)
    where
      at : (c : Bool) → heading r ≡ c → length (rows_text true rs x) ≡ total rs + 4 + length x → length (rows_text true (r ∷ rs) x) ≡ row_size r + total rs + 4 + length x
      at true e ih = rw (e, rows_text) (omega (arith, size_head r e, opening_size S r.slots (rows_text true rs x)))
      at false e ih = rw (e, rows_text) (omega (arith, size_body r e, body_size r.ws r.kind (row_slots r) (rows_text true rs x)))

  extra_body : (r : Row) → heading r ≡ false → C.extra row_size heading b 1400 r ≡ 7
  extra_body r e = rw (e, C.extra)

  extra_head : (r : Row) → heading r ≡ true → C.extra row_size heading b 1400 r ≡ 0
  extra_head r e = rw (e, C.extra)

  pub rows_size : (r : Row) (rs : List Row) (x : List ℕ) → length (rows_text false (r ∷ rs) x) ≡ C.extra row_size heading b 1400 r + row_size r + total rs + length x
  rows_size r rs x = at (heading r) refl (open_size rs x)
    where
      at : (c : Bool) → heading r ≡ c → length (rows_text true rs x) ≡ total rs + 4 + length x → length (rows_text false (r ∷ rs) x) ≡ C.extra row_size heading b 1400 r + row_size r + total rs + length x
      at true e ih = rw (e, rows_text) (omega (arith, extra_head r e, size_head r e, opening_size S r.slots (rows_text true rs x)))
      at false e ih = rw (e, rows_text) (omega (arith, extra_body r e, size_body r e, body_size r.ws r.kind (row_slots r) (rows_text true rs x), empty_section (body_text r.ws r.kind (row_slots r) (rows_text true rs x))))

-- ---- the head

digit_length : (a : ℕ) → a ≤ 9 → length (escape ((48 + a) ∷ [])) ≡ 1
digit_length a h = rw (ne_eqb (48 + a) 38 (omega arith), esc, ne_eqb (48 + a) 60 (omega arith), ne_eqb (48 + a) 34 (omega arith))

measures_size : (vs : Slots) (x : List ℕ) → length (measures_text vs x) ≡ length (measures_text vs []) + length x
measures_size vs x = at (all_empty vs)
  where
    at : (b : Bool) → length (if b x (bare O vs x)) ≡ length (if b [] (bare O vs [])) + length x
    at true = omega arith
    at false = bare_size O vs x

abbrev front : Head → ℕ → ℕ → List ℕ → List ℕ
front h a z x = opening MP (mp_slots h a z) (bare P h.person (bare A h.author (measures_text h.measures x)))

front_size : (h : Head) (a z : ℕ) (x : List ℕ) → length (front h a z x) ≡ length (front h a z []) + length x
front_size h a z x =
    let m : List ℕ → List ℕ = measures_text h.measures in
    omega (
      arith,
      opening_size MP (mp_slots h a z) (bare P h.person (bare A h.author (m x))),
      opening_size MP (mp_slots h a z) (bare P h.person (bare A h.author (m []))),
      bare_size P h.person (bare A h.author (m x)),
      bare_size P h.person (bare A h.author (m [])),
      bare_size A h.author (m x),
      bare_size A h.author (m []),
      measures_size h.measures x,
    )

abbrev pub slot_size : Field → List ℕ → ℕ
slot_size f [] = 0
slot_size f (c ∷ v) = 4 + (length f.letters + length (escape (c ∷ v)))

abbrev pub slot_sizes : List Field → Slots → ℕ
slot_sizes [] vs = 0
slot_sizes (f ∷ fs) [] = 0
slot_sizes (f ∷ fs) (v ∷ vs) = slot_size f v + slot_sizes fs vs

pub attrs_size_lem : (fs : List Field) (vs : Slots) → length (print_attrs (attrs_of fs vs)) ≡ slot_sizes fs vs
attrs_size_lem [] vs = refl
attrs_size_lem (f ∷ fs) [] = refl
attrs_size_lem (f ∷ fs) ([] ∷ vs) = omega (arith, attrs_size_lem fs vs)
attrs_size_lem (f ∷ fs) ((c ∷ v) ∷ vs) =
    let r : List ℕ = print_attrs (attrs_of fs vs) in
    omega (arith, attrs_size_lem fs vs, length-append f.letters (61 ∷ (34 ∷ (escape (c ∷ v) ++ 34 ∷ r))), length-append (escape (c ∷ v)) (34 ∷ r))

mp_sizes : (h : Head) (a z : ℕ) → a ≤ 9 → z ≤ 9 → slot_sizes (fields_of MP) (mp_slots h a z) ≡ slot_sizes (fields_of MP) (mp_slots h 1 1)
unfolding fields_of
mp_sizes h a z p q =
    let A : List ℕ = escape ((48 + a) ∷ []) in
    let Z : List ℕ = escape ((48 + z) ∷ []) in
    omega (arith, digit_length a p, digit_length z q)

mp_size : (h : Head) (a z : ℕ) → a ≤ 9 → z ≤ 9 → length (opening MP (mp_slots h a z) []) ≡ length (opening MP (mp_slots h 1 1) [])
mp_size h a z p q =
    omega (
      arith,
      length-append (spelled MP (mp_slots h a z)) (62 ∷ []),
      length-append (spelled MP (mp_slots h 1 1)) (62 ∷ []),
      attrs_size_lem (fields_of MP) (mp_slots h a z),
      attrs_size_lem (fields_of MP) (mp_slots h 1 1),
      mp_sizes h a z p q,
    )

front_same : (h : Head) (a z : ℕ) → a ≤ 9 → z ≤ 9 → length (front h a z []) ≡ length (front h 1 1 [])
front_same h a z p q =
    let y : List ℕ = bare P h.person (bare A h.author (measures_text h.measures [])) in
    omega (arith, opening_size MP (mp_slots h a z) y, opening_size MP (mp_slots h 1 1) y, mp_size h a z p q)

pub page_base : (h : Head) (a z : ℕ) → a ≤ 9 → z ≤ 9 → length (page h [] a z) ≡ base h
unfolding page
page_base h a z p q = omega (arith, front_size h a z (closing MP []), front_size h 1 1 (closing MP []), front_same h a z p q)

pub page_size : (h : Head) (r : Row) (rs : List Row) (a z : ℕ) → a ≤ 9 → z ≤ 9 → length (page h (r ∷ rs) a z) ≡ C.start row_size heading (base h) 1400 r + C.total row_size heading (base h) 1400 rs
unfolding page
page_size h r rs a z p q =
    let x : List ℕ = closing MP [] in
    omega (arith, front_size h a z (rows_text false (r ∷ rs) x), front_size h 1 1 x, front_same h a z p q, rows_size (base h) r rs x)

-- a and z are one digit each, so a page is as long as page 1 of 1 with the same rows
pub page_same : (h : Head) (rs : List Row) (a z : ℕ) → a ≤ 9 → z ≤ 9 → length (page h rs a z) ≡ length (page h rs 1 1)
page_same h [] a z p q = page_base h a z p q
page_same h (r ∷ rs) a z p q = page_size h r rs a z p q ∙ sym (page_size h r rs 1 1 (omega arith) (omega arith))
