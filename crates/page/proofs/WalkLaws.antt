-- WalkLaws: the elements of a tape one at a time, and what they give.
-- Assumes nothing.
use mathlib.Core.Path.{◌≡◌, refl, sym, ap, ◌∙◌, subst}
use mathlib.Core.Bool.{Bool, true, false, not, ◌&&◌}
use mathlib.Core.List.{List, [], ◌∷◌, ◌++◌}
use Prim.Native.Nat.{ℕ, suc, ◌+◌, ◌*◌, ◌≤◌, ◌<◌}
use native.Mathlib.Omega.{arith}
use lib.Dec.{eqb, leb}
use lib.ListN.{length, get_or, length-append}
use borrow.Author.Tests.{eq-eqb, ne_eqb, leb-true}
use Rattle.paper.specs.Lists.{bytes, if, concat, number, is_empty, same}
use Rattle.paper.specs.Grammar.{Tag, start, end}
use Rattle.paper.specs.Fields.{Kind, MP, S, M, W, is, Field, fields_of}
use Rattle.paper.specs.Plan.{Slots, Row, Head, slot, blank, same_slots, same_head}
use Rattle.paper.specs.Judging.{item, row_of, broken, or}
use Rattle.paper.specs.Layout.{row_values}
use Rattle.paper.proofs.Told.{is_eq}
use Rattle.paper.proofs.Small.{below_at}
use Rattle.paper.proofs.ByKind.{code_small}
use Rattle.room.specs.Laid.{laid}
use Rattle.markup.specs.Walk.{tags_at}
use Rattle.fields.specs.Places.{kind_at, count_of, field_at}
use Rattle.fields.proofs.TableLaws.{kind_back, code_back}
use Rattle.plan.specs.Numbers.{record_with}
use Rattle.plan.proofs.Spans.{record_size}
use Rattle.room.proofs.LaidLaws.{laid_long}
use Rattle.sheet.specs.Content.{part_from, head_from}
use Rattle.sheet.specs.Fit.{Fit}
use Rattle.page.specs.Laying.{Room, Lays, gives_row, row_from, LaysRow}
use Rattle.page.proofs.ContentLaws.{row_given, row_none, placed_at, behind}
use Rattle.page.proofs.RowLaws.{row_laid, package_short}
use Rattle.page.proofs.HeadLaws.{short_kept, mp_kept, ident_is, lang_is}
use Rattle.sheet.proofs.PageLaws.{page_fit}
use Rattle.tape.specs.Tape.{Elem, elem, header, starts_of, elems_of, part_by, ws_by, rows_by, shown_in, values_at, Span, Spans, Lies}
use Rattle.tape.proofs.TapeLaws.{part_by_lem, ws_by_lem}
use Rattle.page.specs.Walking.{Blank, Read, FitBy, Walk, PartAt}
use Rattle.page.proofs.SlotLaws.{values_long, values_at_lem, span_at_lem}

-- ---- a page that is taped

pub fit_by : (ts : List Tag) → Fit ts → FitBy (starts_of ts)
unfolding starts_of
fit_by [] f = f
fit_by (end ∷ ts) f = fit_by ts f
fit_by (start i n l ∷ ts) f = (f.0.kept, λ q. rw (ws_by_lem ts) (f.1 q), fit_by ts f.2)

pub page_fits : {w x t : List ℕ} {i j : ℕ} → Read w x t i j → Fit (tags_at w 0)
page_fits {w} T = page_fit w _ T.taped.judged

pub walk_page : {w x t : List ℕ} {i j : ℕ} → Read w x t i j → Walk w x t i j
walk_page {w} T = record { elems = elems_of w; lies = T.taped.lies; within = T.taped.within.0; fit = fit_by (tags_at w 0) (page_fits T) }

-- ---- the next element

lies_up : (w x : List ℕ) (m : ℕ) (t : List ℕ) (i j : ℕ) (es : List Elem) → Lies w x m t i j es → i ≤ j
lies_up w x m t i j [] L = omega arith
lies_up w x m t i j (e ∷ es) L = let h = lies_up w x m t (i + header + 2 * length (fields_of e.kind)) j es L.1 in omega arith

-- an element stands next: k is its number, from next on lie the others
pub record Step (w x t : List ℕ) (i j : ℕ) (es : List Elem) : Type 0 where
  pub one : Elem
  pub rest : List Elem
  pub is_one : es ≡ one ∷ rest
  pub kind_is : kind_at (get_or t i 0) ≡ one.kind
  pub known : get_or t i 0 < 10
  pub values_are : values_at w x (count_of (kind_at (get_or t i 0))) t (i + 3) ≡ one.slots
  pub lie : Spans w (length x) (count_of (kind_at (get_or t i 0))) t (i + 3)
  pub wide : get_or t (i + 2) 0 ≡ i + 3 + 2 * count_of (kind_at (get_or t i 0))
  pub high : get_or t (i + 2) 0 ≤ j
  pub behind_it : Lies w x (length x) t (get_or t (i + 2) 0) j rest

count_is : (k : Kind) → length (fields_of k) ≡ count_of k
unfolding count_of
count_is k = refl

pub step : (w x t : List ℕ) (i j : ℕ) (es : List Elem) → Lies w x (length x) t i j es → i < j → Step w x t i j es
step w x t i j [] L h = absurd (omega (arith, L))
step w x t i j (e ∷ es) L h =
    let E = L.0 in
    let q : kind_at (get_or t i 0) ≡ e.kind = ap kind_at E.kind_is ∙ kind_back e.kind in
    let c : length (fields_of e.kind) ≡ count_of (kind_at (get_or t i 0)) = count_is e.kind ∙ ap count_of (sym q) in
    record {
      one = e;
      rest = es;
      is_one = refl;
      kind_is = q;
      known = omega (arith, E.kind_is, code_small e.kind);
      values_are = ap (λ (n : ℕ). values_at w x n t (i + 3)) (sym c) ∙ E.slots_are;
      lie = subst (λ (n : ℕ). Spans w (length x) n t (i + 3)) c E.lie;
      wide = omega (arith, E.next_is, c);
      high = omega (arith, E.next_is, lies_up w x (length x) t _ j es L.1);
      behind_it = subst (λ (n : ℕ). Lies w x (length x) t n j es) (sym E.next_is) L.1;
    }

-- no element stands next
pub no_step : (w x t : List ℕ) (i j : ℕ) (es : List Elem) → Lies w x (length x) t i j es → j ≤ i → es ≡ []
no_step w x t i j [] L h = refl
no_step w x t i j (e ∷ es) L h = absurd (omega (arith, lies_up w x (length x) t _ j es L.1))

elem_eq : (a b : Kind) (c d : ℕ) (u v : Slots) → a ≡ b → c ≡ d → u ≡ v → elem a c u ≡ elem b d v
elem_eq a b c d u v p q r = rw (p, q, r)

-- the tape tells which elements lie on it
pub lies_same : (w x : List ℕ) (m : ℕ) (t : List ℕ) (i j : ℕ) (es fs : List Elem) → Lies w x m t i j es → Lies w x m t i j fs → es ≡ fs
lies_same w x m t i j [] [] L K = refl
lies_same w x m t i j [] (f ∷ fs) L K = absurd (omega (arith, L, lies_up w x m t _ j fs K.1))
lies_same w x m t i j (e ∷ es) [] L K = absurd (omega (arith, K, lies_up w x m t (i + header + 2 * length (fields_of e.kind)) j es L.1))
lies_same w x m t i j (e ∷ es) (f ∷ fs) L K =
    let k : e.kind ≡ f.kind = sym (kind_back e.kind) ∙ (ap kind_at (sym L.0.kind_is ∙ K.0.kind_is) ∙ kind_back f.kind) in
    let p : e.place ≡ f.place = sym L.0.place_is ∙ K.0.place_is in
    let s : e.slots ≡ f.slots = sym L.0.slots_are ∙ (ap (λ (q : Kind). values_at w x (length (fields_of q)) t (i + 3)) k ∙ K.0.slots_are) in
    let y : e ≡ f = elem_eq e.kind f.kind e.place f.place e.slots f.slots k p s in
    let r : es ≡ fs = lies_same w x m t (i + header + 2 * length (fields_of e.kind)) j es fs L.1 (subst (λ (q : Kind). Lies w x m t (i + 3 + 2 * length (fields_of q)) j fs) (sym k) K.1) in
    rw (y, r)

-- ---- the parts of the head

module _ (w x t : List ℕ) (B : Blank t) where
  shown_blank : shown_in w x 0 0 ≡ []
  unfolding shown_in
  shown_blank = refl

  blank_values : (fs : List Field) (b : ℕ) → b + 2 * length fs ≤ 20 → values_at w x (length fs) t b ≡ blank fs
  blank_values [] b h = refl
  blank_values (f ∷ fs) b h = rw (B.zeros b (omega arith), B.zeros (b + 1) (omega arith), shown_blank, blank_values fs (b + 2) (omega arith))

  blank_lie : (m : ℕ) (fs : List Field) (b : ℕ) → b + 2 * length fs ≤ 20 → Spans w m (length fs) t b
  blank_lie m [] b h = tt
  blank_lie m (f ∷ fs) b h = (
    rw (B.zeros b (omega arith), B.zeros (b + 1) (omega arith)) (record { inner = λ z. (omega arith, omega arith); outer = λ z. absurd (omega arith) }),
    blank_lie m fs (b + 2) (omega arith),
  )

few_fields : (k : ℕ) → k < 5 → 2 * length (fields_of (kind_at k)) ≤ 20
unfolding kind_at fields_of
few_fields k h = leb-true (2 * length (fields_of (kind_at k))) 20 (below_at 5 (λ (n : ℕ). leb (2 * length (fields_of (kind_at n))) 20) refl k h)

module _ {w x t : List ℕ} {i j : ℕ} (T : Read w x t i j) (k : ℕ) (small : k < 5) where
  -- the element is not there
  pub part_none : (es : List Elem) → part_by (kind_at k) (elems_of w) ≡ part_by (kind_at k) es → es ≡ [] → PartAt w x t (kind_at k) 0
  unfolding part_by
  part_none es e z =
      let f = few_fields k small in
      let l = T.blank.long in
      record {
        within = omega arith;
        lie = blank_lie w x t T.blank (length x) (fields_of (kind_at k)) 0 (omega arith);
        values = blank_values w x t T.blank (fields_of (kind_at k)) 0 (omega arith) ∙ sym (e ∙ rw z);
      }

  module _ {f : ℕ} {es : List Elem} (N : Step w x t f j es) (e : part_by (kind_at k) (elems_of w) ≡ part_by (kind_at k) es) where
    here_is : is N.one.kind (kind_at k) ≡ eqb (get_or t f 0) k
    here_is = ap (λ (q : Kind). is q (kind_at k)) (sym N.kind_is) ∙ rw (code_back (get_or t f 0) N.known, code_back k (omega arith))

    -- it stands next
    pub part_here : get_or t f 0 ≡ k → j ≤ length t → PartAt w x t (kind_at k) (f + 3)
    unfolding part_by count_of
    part_here q h =
        let c : kind_at (get_or t f 0) ≡ kind_at k = ap kind_at q in
        let s : part_by (kind_at k) es ≡ N.one.slots = rw (N.is_one, here_is, eq-eqb (get_or t f 0) k q) in
        record {
          within = omega (arith, N.wide, N.high, h, ap (λ (z : Kind). length (fields_of z)) c);
          lie = subst (λ (z : Kind). Spans w (length x) (length (fields_of z)) t (f + 3)) c N.lie;
          values = ap (λ (z : Kind). values_at w x (length (fields_of z)) t (f + 3)) (sym c) ∙ (N.values_are ∙ sym (e ∙ s));
        }

    -- another does
    pub part_past : (get_or t f 0 ≡ k → ⊥) → part_by (kind_at k) (elems_of w) ≡ part_by (kind_at k) N.rest
    unfolding part_by
    part_past q = e ∙ rw (N.is_one, here_is, ne_eqb (get_or t f 0) k q)

-- ---- rows

module _ {w x t : List ℕ} {f j : ℕ} {es : List Elem} (N : Step w x t f j es) where
  -- the values of the element
  abbrev pub here : Slots
  here = values_at w x (count_of (kind_at (get_or t f 0))) t (f + 3)

  rows_are : rows_by es ≡ row_of (item (kind_at (get_or t f 0)) here (ws_by N.rest)) ++ rows_by N.rest
  unfolding rows_by
  rows_are =
      ap rows_by N.is_one
      ∙ sym (ap (λ (q : Kind). row_of (item q here (ws_by N.rest)) ++ rows_by N.rest) N.kind_is
      ∙ ap (λ (vs : Slots). row_of (item N.one.kind vs (ws_by N.rest)) ++ rows_by N.rest) N.values_are)

  -- it gives a row
  pub row_next : gives_row (kind_at (get_or t f 0)) here ≡ true → rows_by es ≡ row_from (kind_at (get_or t f 0)) here (ws_by N.rest) ∷ rows_by N.rest
  row_next g = rows_are ∙ ap (λ (l : List Row). l ++ rows_by N.rest) (row_given (kind_at (get_or t f 0)) here (ws_by N.rest) g)

  -- it gives none
  pub no_row_next : gives_row (kind_at (get_or t f 0)) here ≡ false → rows_by es ≡ rows_by N.rest
  no_row_next g = rows_are ∙ ap (λ (l : List Row). l ++ rows_by N.rest) (row_none (kind_at (get_or t f 0)) here (ws_by N.rest) g)

  -- it is fit
  pub fit_next : FitBy es → (broken (fields_of (kind_at (get_or t f 0))) here ≡ false) × (is (kind_at (get_or t f 0)) M ≡ true → length (ws_by N.rest) ≤ 3) × FitBy N.rest
  fit_next F =
      let G : FitBy (N.one ∷ N.rest) = subst (λ (l : List Elem). FitBy l) N.is_one F in
      (ap (λ (q : Kind). broken (fields_of q) here) N.kind_is ∙ (ap (broken (fields_of N.one.kind)) N.values_are ∙ G.0), λ q. G.1 (ap (λ (z : Kind). is z M) (sym N.kind_is) ∙ q), G.2)

  is_w : is N.one.kind W ≡ eqb (get_or t f 0) 7
  is_w = ap (λ (q : Kind). is q W) (sym N.kind_is) ∙ rw (code_back (get_or t f 0) N.known)

  -- it is a W
  pub w_next : get_or t f 0 ≡ 7 → ws_by es ≡ values_at w x 2 t (f + 3) ∷ ws_by N.rest
  unfolding ws_by kind_at count_of fields_of
  w_next q =
      let v : values_at w x 2 t (f + 3) ≡ N.one.slots = ap (λ (n : ℕ). values_at w x (count_of (kind_at n)) t (f + 3)) (sym q) ∙ N.values_are in
      ap ws_by N.is_one ∙ rw (is_w, eq-eqb (get_or t f 0) 7 q, v)

  pub w_lie : get_or t f 0 ≡ 7 → Spans w (length x) 2 t (f + 3) × (get_or t (f + 2) 0 ≡ f + 3 + 4)
  unfolding kind_at count_of fields_of
  w_lie q = (subst (λ (n : ℕ). Spans w (length x) (count_of (kind_at n)) t (f + 3)) q N.lie, N.wide ∙ ap (λ (n : ℕ). f + 3 + 2 * count_of (kind_at n)) q)

  -- it is none
  pub no_w_lem : (get_or t f 0 ≡ 7 → ⊥) → ws_by es ≡ []
  unfolding ws_by
  no_w_lem q = ap ws_by N.is_one ∙ rw (is_w, ne_eqb (get_or t f 0) 7 q)

pub rows_none : (es : List Elem) → es ≡ [] → rows_by es ≡ []
unfolding rows_by
rows_none es e = rw e

pub ws_none : (es : List Elem) → es ≡ [] → ws_by es ≡ []
unfolding ws_by
ws_none es e = rw e

-- ---- medications

-- a medication stands next
pub record Medication (w x t : List ℕ) (f j : ℕ) (es rest : List Elem) : Type 0 where
  pub row_is : rows_by es ≡ row_from M (values_at w x 14 t (f + 3)) (ws_by rest) ∷ rows_by rest
  pub lie : Spans w (length x) 14 t (f + 3)
  pub wide : get_or t (f + 2) 0 ≡ f + 3 + 28
  pub short : length (get_or (values_at w x 14 t (f + 3)) 0 []) ≤ 8
  pub few : length (ws_by rest) ≤ 3

med_given : (k : Kind) (vs : Slots) → k ≡ M → gives_row k vs ≡ true
unfolding gives_row
med_given k vs e = rw e

pub medication_next : {w x t : List ℕ} {f j : ℕ} {es : List Elem} (N : Step w x t f j es) → FitBy es → get_or t f 0 ≡ 6 → Medication w x t f j es N.rest
unfolding kind_at count_of fields_of
medication_next {w} {x} {t} {f} {j} {es} N F q =
    let G = fit_next N F in
    let v : here N ≡ values_at w x 14 t (f + 3) = ap (λ (n : ℕ). values_at w x (count_of (kind_at n)) t (f + 3)) q in
    let k : kind_at (get_or t f 0) ≡ M = ap kind_at q in
    record {
      row_is = row_next N (med_given (kind_at (get_or t f 0)) (here N) k)
          ∙ (ap (λ (z : Kind). row_from z (here N) (ws_by N.rest) ∷ rows_by N.rest) k ∙ ap (λ (vs : Slots). row_from M vs (ws_by N.rest) ∷ rows_by N.rest) v);
      lie = subst (λ (n : ℕ). Spans w (length x) (count_of (kind_at n)) t (f + 3)) q N.lie;
      wide = N.wide ∙ ap (λ (n : ℕ). f + 3 + 2 * count_of (kind_at n)) q;
      short = package_short (values_at w x 14 t (f + 3)) (sym (ap (broken (fields_of M)) v) ∙ (sym (ap (λ (z : Kind). broken (fields_of z) (here N)) k) ∙ G.0));
      few = G.1 (ap (λ (z : Kind). is z M) k);
    }

-- a W has two values
pub ws_twice : (w x t : List ℕ) (i j : ℕ) (es : List Elem) → Lies w x (length x) t i j es → length (concat (ws_by es)) ≡ 2 * length (ws_by es)
unfolding ws_by fields_of
ws_twice w x t i j [] L = refl
ws_twice w x t i j (e ∷ es) L = go (is e.kind W) refl (ws_twice w x t (i + header + 2 * length (fields_of e.kind)) j es L.1)
  where
    go : (b : Bool) → is e.kind W ≡ b → length (concat (ws_by es)) ≡ 2 * length (ws_by es) → length (concat (if b (e.slots ∷ ws_by es) [])) ≡ 2 * length (if b (e.slots ∷ ws_by es) [])
    go true q h = omega (arith, length-append e.slots (concat (ws_by es)), two q, h)
      where
        two : is e.kind W ≡ true → length e.slots ≡ 2
        two q = ap length (sym L.0.slots_are) ∙ (values_long w x (length (fields_of e.kind)) t (i + 3) ∙ ap (λ (k : Kind). length (fields_of k)) (is_eq e.kind W q))
    go false q h = refl

slot_p : (vs : Slots) → slot (bytes "p") (fields_of M) vs ≡ get_or vs 0 []
unfolding fields_of
slot_p [] = refl
slot_p (v ∷ vs) = refl

pub medication_laid : (v : List ℕ) (vs : Slots) (ws : List Slots) {text text₁ text₂ : List ℕ} {n m e p : ℕ} {rows rows₁ rows₂ rows₃ : List ℕ} (i : ℕ) → length (concat ws) ≤ 6 → length vs ≡ 13
    → p ≡ number 0 v → rows₁ ≡ laid rows (i * 48) (record_with 2 p []) → (i + 1) * 48 ≤ length rows
    → Room (row_values (row_from M (v ∷ vs) ws)) text n → Lays vs text text₁ n m rows₁ rows₂ (i * 48 + 2) → Lays (concat ws) text₁ text₂ m e rows₂ rows₃ (i * 48 + 28)
    → LaysRow (row_from M (v ∷ vs) ws) text text₂ n e rows rows₃ i
unfolding row_from
medication_laid v vs ws {p = p} {rows = rows} {rows₁ = rows₁} i few t hp o h Q L K =
    let l = length-append vs (concat ws) in
    let s : length rows₁ ≡ length rows = ap length o ∙ laid_long rows (record_with 2 p []) (i * 48) (omega (arith, record_size 2 p [])) in
    let B = behind L (placed_at (omega arith) K) Q (omega arith) in
    row_laid (row_from M (v ∷ vs) ws) i refl (o ∙ ap (λ (x : ℕ). laid rows (i * 48) (record_with 2 x [])) (hp ∙ ap (number 0) (sym (slot_p (v ∷ vs))))) B h (omega arith)

-- the rooms of its two runs
pub medication_values : (v : List ℕ) (vs : Slots) (ws : List Slots) → row_values (row_from M (v ∷ vs) ws) ≡ vs ++ concat ws
unfolding row_from
medication_values v vs ws = refl

-- ---- the values of the head

module _ {w x t : List ℕ} {k : Kind} {r : ℕ} (P : PartAt w x t k r) where
  pub part_values : (n : ℕ) → n ≡ count_of k → values_at w x n t r ≡ part_from k (tags_at w 0)
  unfolding count_of
  part_values n e = ap (λ (m : ℕ). values_at w x m t r) e ∙ (P.values ∙ part_by_lem k (tags_at w 0))

  pub part_lie : (n : ℕ) → n ≡ count_of k → Spans w (length x) n t r
  unfolding count_of
  part_lie n e = subst (λ (m : ℕ). Spans w (length x) m t r) (sym e) P.lie

  pub part_within : (n : ℕ) → n ≡ count_of k → r + 2 * n ≤ length t
  unfolding count_of
  part_within n e = omega (arith, P.within, e)

six : count_of MP ≡ 6
unfolding count_of fields_of
six = refl

module _ {w x t : List ℕ} {r : ℕ} (P : PartAt w x t MP r) where
  pub mp_within : r + 12 ≤ length t
  mp_within = omega (arith, part_within P 6 (sym six))

  -- a value of MP by its place
  pub mp_value : (k : ℕ) → k < 6 → shown_in w x (get_or t (r + 2 * k) 0) (get_or t (r + 2 * k + 1) 0) ≡ get_or (part_from MP (tags_at w 0)) k []
  mp_value k h = sym (values_at_lem w x t r 6 k h) ∙ ap (λ (vs : Slots). get_or vs k []) (part_values P 6 (sym six))

  pub mp_span : (k : ℕ) → k < 6 → Span w (length x) (get_or t (r + 2 * k) 0) (get_or t (r + 2 * k + 1) 0)
  mp_span k h = span_at_lem w x t (length x) r 6 k h (part_lie P 6 (sym six))

  pub mp_short : Fit (tags_at w 0) → (k : ℕ) → k < 6 → (field_at k).most ≤ 8 → length (shown_in w x (get_or t (r + 2 * k) 0) (get_or t (r + 2 * k + 1) 0)) ≤ 8
  mp_short f k h m =
      let s = short_kept (field_at k) (get_or (part_from MP (tags_at w 0)) k []) (mp_kept (tags_at w 0) k f h) in
      omega (arith, ap length (mp_value k h), s, m)

  -- U, as the one value from its place on
  pub ident_values : values_at w x 1 t (r + 4) ≡ (head_from (tags_at w 0)).ident ∷ []
  ident_values = ap (λ (v : List ℕ). v ∷ []) (mp_value 2 (omega arith)) ∙ sym (ident_is (tags_at w 0))

  pub ident_lie : Spans w (length x) 1 t (r + 4)
  ident_lie = (mp_span 2 (omega arith), tt)

-- a value, or another where it is absent
pub or_empty : (v u d : List ℕ) → v ≡ u → length v ≡ 0 → d ≡ or u d
or_empty [] u d e h = rw (← e)
or_empty (c ∷ v) u d e h = absurd (omega arith)

pub or_value : (v u d : List ℕ) → v ≡ u → (length v ≡ 0 → ⊥) → v ≡ or u d
or_value [] u d e h = absurd (h refl)
or_value (c ∷ v) u d e h = rw (← e)

-- ---- headings

empty_is : (v : List ℕ) → is_empty v ≡ eqb (length v) 0
empty_is [] = refl
empty_is (c ∷ v) = sym (ne_eqb (suc (length v)) 0 (λ z. omega arith))

and_true : (b : Bool) → (b && true) ≡ b
and_true true = refl
and_true false = refl

pub heading_c : (u v c : List ℕ) → c ≡ u → (length c ≡ 0 → ⊥) → gives_row S (u ∷ v ∷ []) ≡ true
unfolding gives_row
heading_c u v c e h =
    let q : is_empty u ≡ false = empty_is u ∙ ne_eqb (length u) 0 (λ z. h (ap length e ∙ z)) in
    rw q

pub heading_t : (u v c d : List ℕ) → c ≡ u → length c ≡ 0 → d ≡ v → gives_row S (u ∷ v ∷ []) ≡ not (eqb (length d) 0)
unfolding gives_row
heading_t u v c d e h f =
    let q : is_empty u ≡ true = empty_is u ∙ eq-eqb (length u) 0 (sym (ap length e) ∙ h) in
    rw (q, and_true (is_empty v), empty_is v, f)

-- ---- heads compared

-- tests one after the other: behind one that holds the next decides, and behind one that fails nothing more
pub decides : (p q v : Bool) → p ≡ true → v ≡ q → v ≡ (p && q)
decides p q v e f = rw e f

pub ends_it : (p q v : Bool) → p ≡ false → v ≡ p → v ≡ (p && q)
ends_it p q v e f = rw e (f ∙ e)

-- one value alone
pub one_same : (u v : List ℕ) → same_slots (u ∷ []) (v ∷ []) ≡ same u v
one_same u v = and_true (same u v)

pub slots_are : (us vs u v : Slots) → us ≡ u → vs ≡ v → same_slots us vs ≡ same_slots u v
slots_are us vs u v e f = rw (e, f)

-- the languages of two pages
head_eq : (u v : List ℕ) → u ∷ [] ≡ v ∷ [] → u ≡ v
head_eq u v e = ap (λ (l : Slots). get_or l 0 []) e

pub lang_same : (ts us : List Tag) → same (or (get_or (part_from MP ts) 3 []) (bytes "de-DE")) (or (get_or (part_from MP us) 3 []) (bytes "de-DE")) ≡ same (head_from ts).lang (head_from us).lang
lang_same ts us = rw (head_eq _ _ (lang_is ts), head_eq _ _ (lang_is us))
