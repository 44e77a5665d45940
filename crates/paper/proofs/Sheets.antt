-- A fresh page of a sound head and sound rows is judged to be just those.
use mathlib.Core.Path.{◌≡◌, refl, ap, sym, ◌∙◌}
use mathlib.Core.Bool.{Bool, true, false, not, ◌&&◌, ◌||◌}
use mathlib.Core.List.{List, [], ◌∷◌}
use Prim.Native.Nat.{ℕ, ◌+◌, ◌-◌, ◌≤◌}
use native.Mathlib.Omega.{arith}
use lib.Dec.{eqb, leb}
use lib.ListN.{length, drop}
use borrow.Author.Tests.{eqb-true, ne_eqb, leb-true, le-ltb}
use Rattle.paper.specs.Lists.{bytes, if, every, is_empty, number}
use Rattle.paper.specs.Bytes.{is_allowed}
use Rattle.paper.proofs.Small.{no, both, no_not, every_append, and_intro, below_at}
use Rattle.paper.specs.Grammar.{Tag, start, Page, full, done, placed}
use Rattle.paper.proofs.Taken.{taken_page}
use Rattle.paper.specs.Fields.{Kind, MP, P, A, O, Field, field, fields_of, tag_name, excluded, digits, hexes, language, page_no}
use Rattle.paper.specs.Plan.{Slots, Row, Head, blank, names_of}
use Rattle.paper.specs.Judging.{Item, item, all_empty, rows_of, part, sheet_of, or, Sheet, sheet, judge, faults, items, missing, clash}
use Rattle.paper.specs.Writing.{good_slot, good_slots, good_element, opening, closing, rows_text, measures_text, sound_head, decimal, mp_slots, page, spelled, attrs_of}
use Rattle.paper.specs.Writing as Wr
use Rattle.paper.proofs.Element.{MpFine, name_of, good_slots_lem, attrs_in, allowed_spelled}
use Rattle.paper.proofs.Fine.{Fine, Elem, fine_bare, fine_close, faults_start, items_start}
use Rattle.paper.proofs.Rows.{AllSound, mpframe, Present, fine_rows, row_items, rows_back, part_rows, mp_no}

-- ---- MP

abbrev pub a_field : Field
a_field = field MP (bytes "a") page_no 1 1 0 false

abbrev pub z_field : Field
z_field = field MP (bytes "z") page_no 1 1 0 false

or_true : (a b : Bool) → a ≡ false → a || b ≡ true → b ≡ true
or_true a b e f = rw e at f

good_a : (a : ℕ) → 1 ≤ a → a ≤ 9 → good_slot a_field ((48 + a) ∷ []) ≡ true
good_a a h k = or_true (eqb a 0) (good_slot a_field ((48 + a) ∷ [])) (ne_eqb a 0 (omega arith)) (below_at 10 (λ a. eqb a 0 || good_slot a_field ((48 + a) ∷ [])) refl a (omega arith))

good_z : (a : ℕ) → 1 ≤ a → a ≤ 9 → good_slot z_field ((48 + a) ∷ []) ≡ true
good_z a h k = or_true (eqb a 0) (good_slot z_field ((48 + a) ∷ [])) (ne_eqb a 0 (omega arith)) (below_at 10 (λ a. eqb a 0 || good_slot z_field ((48 + a) ∷ [])) refl a (omega arith))

abbrev slots_rest : List Field → Slots → Bool
slots_rest fs vs = not (missing fs vs) && not (clash (excluded MP) (names_of fs vs))

good_mp : (h : Head) (a z : ℕ) → 1 ≤ a → a ≤ 9 → 1 ≤ z → z ≤ 9 → good_element MP (mp_slots h 1 1) ≡ true → good_element MP (mp_slots h a z) ≡ true
unfolding good_element fields_of
good_mp h a z a1 a9 z1 z9 g =
    let p_f : Field = field MP (bytes "p") digits 1 2 0 false in
    let u_f : Field = field MP (bytes "U") hexes 32 32 0 true in
    let l_f : Field = field MP (bytes "l") language 5 5 0 false in
    let one : List ℕ = 49 ∷ [] in
    let (gs, rest) = both (good_slots (fields_of MP) (mp_slots h 1 1)) (slots_rest (fields_of MP) (mp_slots h 1 1)) g in
    let (p, gs₂) = both (good_slot p_f (decimal h.patch)) (good_slots (drop 2 (fields_of MP)) (h.ident ∷ h.lang ∷ one ∷ one ∷ [])) gs in
    let (u, gs₃) = both (good_slot u_f h.ident) (good_slots (drop 3 (fields_of MP)) (h.lang ∷ one ∷ one ∷ [])) gs₂ in
    let (l, gs₄) = both (good_slot l_f h.lang) (good_slots (drop 4 (fields_of MP)) (one ∷ one ∷ [])) gs₃ in
    let A : List ℕ = (48 + a) ∷ [] in
    let Z : List ℕ = (48 + z) ∷ [] in
    let t₄ : good_slots (drop 4 (fields_of MP)) (A ∷ Z ∷ []) ≡ true = and_intro (good_slot a_field A) (good_slots (z_field ∷ []) (Z ∷ [])) (good_a a a1 a9) (and_intro (good_slot z_field Z) true (good_z z z1 z9) refl) in
    let t₃ : good_slots (drop 3 (fields_of MP)) (h.lang ∷ A ∷ Z ∷ []) ≡ true = and_intro (good_slot l_f h.lang) (good_slots (drop 4 (fields_of MP)) (A ∷ Z ∷ [])) l t₄ in
    let t₂ : good_slots (drop 2 (fields_of MP)) (h.ident ∷ h.lang ∷ A ∷ Z ∷ []) ≡ true = and_intro (good_slot u_f h.ident) (good_slots (drop 3 (fields_of MP)) (h.lang ∷ A ∷ Z ∷ [])) u t₃ in
    and_intro (good_slots (fields_of MP) (mp_slots h a z)) (slots_rest (fields_of MP) (mp_slots h a z))
    (and_intro (good_slot p_f (decimal h.patch)) (good_slots (drop 2 (fields_of MP)) (h.ident ∷ h.lang ∷ A ∷ Z ∷ [])) p t₂) rest

number_digit : (a : ℕ) → number 0 ((48 + a) ∷ []) ≡ a
number_digit a = omega arith

fine_mp : (h : Head) (a z : ℕ) → a ≤ z → MpFine MP (mp_slots h a z)
unfolding fields_of
fine_mp h a z e = record { version = refl; under = rw (number_digit a, number_digit z) (le-ltb z a e); paired = refl }

-- ---- the head

pub record SoundHead (h : Head) : Type 0 where
  pub patch_ok : h.patch ≤ 99
  pub lang_ok : is_empty h.lang ≡ false
  pub mp_ok : good_element MP (mp_slots h 1 1) ≡ true
  pub person_ok : good_element P h.person ≡ true
  pub author_ok : good_element A h.author ≡ true
  pub measures_ok : good_element O h.measures ≡ true

pub head_sound_lem : (h : Head) → sound_head h ≡ true → SoundHead h
unfolding sound_head
head_sound_lem h e =
    let x₁ : Bool = good_element O h.measures in
    let x₂ : Bool = good_element A h.author && x₁ in
    let x₃ : Bool = good_element P h.person && x₂ in
    let x₄ : Bool = good_element MP (mp_slots h 1 1) && x₃ in
    let x₅ : Bool = not (is_empty h.lang) && x₄ in
    let (a, e₁) = both (leb h.patch 99) x₅ e in
    let (b, e₂) = both (not (is_empty h.lang)) x₄ e₁ in
    let (c, e₃) = both (good_element MP (mp_slots h 1 1)) x₃ e₂ in
    let (d, e₄) = both (good_element P h.person) x₂ e₃ in
    let (f, e₅) = both (good_element A h.author) x₁ e₄ in
    record { patch_ok = leb-true h.patch 99 a; lang_ok = no_not (is_empty h.lang) b; mp_ok = c; person_ok = d; author_ok = f; measures_ok = e₅ }

abbrev m_items : Slots → List Item → List Item
m_items vs xs = if (all_empty vs) xs (item O vs [] ∷ xs)

abbrev pub page_items : Head → List Row → ℕ → ℕ → List Item
page_items h rs a z = item MP (mp_slots h a z) [] ∷ item P h.person [] ∷ item A h.author [] ∷ m_items h.measures (row_items false rs)

nothing_left : (L : ℕ) → Fine L [] [] [] []
nothing_left L = record { tags = []; taken = done; clean = refl; told = refl; allowed = refl }

fine_end : (L i : ℕ) (mp : Slots) (js : List Kind) → Present js → Fine L (mpframe i js mp ∷ []) (tag_name MP ∷ []) (closing MP []) []
fine_end L i mp js p = fine_close L (mpframe i js mp) [] [] MP [] [] (rw p) (nothing_left L)

fine_measures : (L i : ℕ) (mp vs : Slots) (x : List ℕ) (xs : List Item) → good_element O vs ≡ true
    → ((js : List Kind) → Present js → Fine L (mpframe i js mp ∷ []) (tag_name MP ∷ []) x xs)
    → Fine L (mpframe i (A ∷ P ∷ []) mp ∷ []) (tag_name MP ∷ []) (measures_text vs x) (m_items vs xs)
fine_measures L i mp vs x xs g G = at (all_empty vs)
  where
    at : (b : Bool) → Fine L (mpframe i (A ∷ P ∷ []) mp ∷ []) (tag_name MP ∷ []) (if b x (Wr.bare O vs x)) (if b xs (item O vs [] ∷ xs))
    at true = G (A ∷ P ∷ []) refl
    at false =
        let E : Elem (mpframe i (A ∷ P ∷ []) mp ∷ []) O vs = record { named = refl; right = refl; good = g; mp = mp_no O vs refl } in
        fine_bare L (mpframe i (A ∷ P ∷ []) mp) [] (tag_name MP) [] O vs x xs (name_of (tag_name O) refl) E refl (G (O ∷ A ∷ P ∷ []) refl)

abbrev after_mp : Head → List Row → List ℕ
after_mp h rs = Wr.bare P h.person (Wr.bare A h.author (measures_text h.measures (rows_text false rs (closing MP []))))

fine_inner : (L i : ℕ) (mp : Slots) (h : Head) (rs : List Row) → SoundHead h → AllSound rs
    → Fine L (mpframe i [] mp ∷ []) (tag_name MP ∷ []) (after_mp h rs) (item P h.person [] ∷ item A h.author [] ∷ m_items h.measures (row_items false rs))
fine_inner L i mp h rs s v =
    let x : List ℕ = rows_text false rs (closing MP []) in
    let G₃ = fine_measures L i mp h.measures x (row_items false rs) s.measures_ok (λ js p. fine_rows L i mp (closing MP []) (λ js p. fine_end L i mp js p) rs v js p) in
    let E₂ : Elem (mpframe i (P ∷ []) mp ∷ []) A h.author = record { named = refl; right = refl; good = s.author_ok; mp = mp_no A h.author refl } in
    let G₂ = fine_bare L (mpframe i (P ∷ []) mp) [] (tag_name MP) [] A h.author (measures_text h.measures x) (m_items h.measures (row_items false rs)) (name_of (tag_name A) refl) E₂ refl G₃ in
    let E₁ : Elem (mpframe i [] mp ∷ []) P h.person = record { named = refl; right = refl; good = s.person_ok; mp = mp_no P h.person refl } in
    fine_bare L (mpframe i [] mp) [] (tag_name MP) [] P h.person (Wr.bare A h.author (measures_text h.measures x)) (item A h.author [] ∷ m_items h.measures (row_items false rs)) (name_of (tag_name P) refl) E₁ refl G₂

pub record FinePage (w : List ℕ) (xs : List Item) : Type 0 where
  pub tags : List Tag
  pub taken : Page w tags
  pub clean : faults [] (placed (length w) tags) ≡ []
  pub told : items [] (placed (length w) tags) ≡ xs
  pub allowed : every is_allowed w ≡ true

pub fine_page : (h : Head) (rs : List Row) (a z : ℕ) → SoundHead h → AllSound rs → 1 ≤ a → a ≤ z → z ≤ 9 → FinePage (page h rs a z) (page_items h rs a z)
unfolding page
fine_page h rs a z s v a1 az z9 =
    let mp : Slots = mp_slots h a z in
    let w : List ℕ = opening MP mp (after_mp h rs) in
    let L : ℕ = length w in
    let i : ℕ = L - L in
    let g : good_element MP mp ≡ true = good_mp h a z a1 (omega arith) (omega arith) z9 s.mp_ok in
    let E : Elem [] MP mp = record { named = refl; right = refl; good = g; mp = fine_mp h a z az } in
    let G = fine_inner L i mp h rs s v in
    record {
      tags = start L (tag_name MP) (attrs_of (fields_of MP) mp) ∷ G.tags;
      taken = full (tag_name MP) (spelled MP mp) (name_of (tag_name MP) refl) (attrs_in MP mp g) G.taken;
      clean = faults_start [] MP mp i (placed L G.tags) E ∙ G.clean;
      told = items_start [] MP mp i (placed L G.tags) E ∙ ap (λ (ys : List Item). item MP mp [] ∷ ys) G.told;
      allowed = every_append is_allowed (spelled MP mp) (62 ∷ after_mp h rs) (allowed_spelled MP mp g) G.allowed;
    }

-- ---- what the page says is the sheet

blank_is : (fs : List Field) (vs : Slots) → good_slots fs vs ≡ true → all_empty vs ≡ true → blank fs ≡ vs
blank_is [] [] g e = refl
blank_is [] (v ∷ vs) g e = no (sym g)
blank_is (f ∷ fs) [] g e = no (sym g)
blank_is (f ∷ fs) ([] ∷ vs) g e = ap (λ (l : Slots). [] ∷ l) (blank_is fs vs g e)
blank_is (f ∷ fs) ((c ∷ v) ∷ vs) g e = no (sym e)

part_measures : (vs : Slots) (rs : List Row) → good_element O vs ≡ true → AllSound rs → part O (m_items vs (row_items false rs)) ≡ vs
part_measures vs rs g v = at (all_empty vs) refl
  where
    at : (b : Bool) → all_empty vs ≡ b → part O (if b (row_items false rs) (item O vs [] ∷ row_items false rs)) ≡ vs
    at true e = part_rows false rs v ∙ blank_is (fields_of O) vs (good_slots_lem O vs g) e
    at false e = refl

rows_measures : (vs : Slots) (rs : List Row) → AllSound rs → rows_of (m_items vs (row_items false rs)) ≡ rs
rows_measures vs rs v = at (all_empty vs)
  where
    at : (b : Bool) → rows_of (if b (row_items false rs) (item O vs [] ∷ row_items false rs)) ≡ rs
    at true = rows_back false rs v
    at false = rows_back false rs v

patch_back : (n : ℕ) → n ≤ 99 → number 0 (decimal n) ≡ n
patch_back n h = eqb-true (number 0 (decimal n)) n (below_at 100 (λ n. eqb (number 0 (decimal n)) n) refl n (omega arith))

or_self : (v d : List ℕ) → is_empty v ≡ false → or v d ≡ v
or_self [] d e = no e
or_self (c ∷ v) d e = refl

abbrev pub the_sheet : Head → List Row → ℕ → ℕ → Sheet
the_sheet h rs a z = record { no = a; of = z; head = h; rows = rs }

pub sheet_back : (h : Head) (rs : List Row) (a z : ℕ) → SoundHead h → AllSound rs → sheet_of (page_items h rs a z) ≡ the_sheet h rs a z
unfolding fields_of
sheet_back h rs a z s v =
    rw (number_digit a, number_digit z, patch_back h.patch s.patch_ok, or_self h.lang (bytes "de-DE") s.lang_ok, part_measures h.measures rs s.measures_ok v, rows_measures h.measures rs v)

judge_fine : (w : List ℕ) (xs : List Item) → FinePage w xs → 1 ≤ length w → length w ≤ 1400 → judge w ≡ sheet (sheet_of xs)
unfolding judge
judge_fine w xs F h l = rw (ne_eqb (length w) 0 (omega arith), le-ltb 1400 (length w) l, F.allowed, taken_page F.taken, F.clean, F.told)

-- no page is empty
pub not_empty : (h : Head) (rs : List Row) (a z : ℕ) → 1 ≤ length (page h rs a z)
unfolding page
not_empty h rs a z = omega arith

pub page_judged : (h : Head) (rs : List Row) (a z : ℕ) → SoundHead h → AllSound rs → 1 ≤ a → a ≤ z → z ≤ 9 → length (page h rs a z) ≤ 1400 → judge (page h rs a z) ≡ sheet (the_sheet h rs a z)
page_judged h rs a z s v a1 az z9 l = judge_fine (page h rs a z) (page_items h rs a z) (fine_page h rs a z s v a1 az z9) (not_empty h rs a z) l ∙ ap sheet (sheet_back h rs a z s v)
