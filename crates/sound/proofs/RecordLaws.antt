-- RecordLaws: a row's record by its kind, and the row that it shows.
-- Assumes nothing.
use mathlib.Core.Path.{◌≡◌, refl, sym, ap, ◌∙◌}
use mathlib.Core.Bool.{Bool, true, false, not, ◌&&◌, ◌||◌}
use mathlib.Core.List.{List, [], ◌∷◌}
use Prim.Native.Nat.{ℕ, zero, suc, ◌+◌, ◌*◌, ◌-◌, ◌≤◌, ◌<◌}
use native.Mathlib.Omega.{arith}
use lib.Dec.{eqb, leb}
use lib.ListN.{length, take, drop, get_or}
use lib.Seq.{drop-drop}
use borrow.Author.Tests.{leb-true}
use Rattle.paper.specs.Lists.{if, is_empty, every}
use Rattle.paper.specs.Fields.{Kind, unknown, S, M, W, R, X, is, Field, table, fields_of, excluded}
use Rattle.paper.specs.Plan.{Slots, names_of}
use Rattle.paper.specs.Judging.{missing, clash, all_empty}
use Rattle.paper.specs.Layout.{Span, shown, shown_all}
use Rattle.paper.specs.Writing.{decimal, good_slot, good_slots, good_element, none_of, sound_row}
use Rattle.paper.proofs.Small.{no, both, below_at}
use Rattle.fields.specs.Places.{kind_at, field_at, count_of}
use Rattle.plan.specs.Numbers.{record_at, span_in, spans_in, spans_of, kind_shown, has_spans, to_last, row_with, show_row, absent, within, in_text, known_kind, spare_absent}
use Rattle.plan.proofs.Spans.{part_shown}
use Rattle.plan.proofs.Shown.{unknown_shown}
use Rattle.plan.proofs.Doses.{shows, all_empty_lem}
use Rattle.sound.specs.Sound.{record_sound, first_bad_in}
use Rattle.sound.specs.Judged.{fine_from, there, clash_at, fine_element, absent_from, fine_plain, last_w, fine_ws, lacking, fine_medication}
use Rattle.sound.proofs.ValueLaws.{decimal_empty}
use Rattle.sound.proofs.ElementLaws.{and_no, fields_are, every_parts, shown_long, shown_there, clash_is, absent_within}

-- ---- a record by its kind

-- a number stands for a kind just when it shows one
known_is : (n : ℕ) → known_kind n ≡ not (is (kind_shown n) unknown)
known_is n = at (known_kind n) refl
  where
    at : (b : Bool) → known_kind n ≡ b → b ≡ not (is (kind_shown n) unknown)
    at true e = let h = leb-true n 4 (both (leb 1 n) (leb n 4) e).1 in sym (rw e at (below_at 5 (λ (k : ℕ). if (known_kind k) (not (is (kind_shown k) unknown)) true) refl n (omega arith)))
    at false e = rw (unknown_shown n e)

-- a record that shows a row of that kind
abbrev by_kind : List ℕ → List ℕ → Kind → Bool
by_kind t l k =
    (not (is k unknown) && (every (within (length t)) (spans_of l) && (every absent (drop (has_spans k) (spans_of l)) && (is k M || eqb (get_or l 1 0) 0))))
    && sound_row (row_with k (get_or l 1 0) (shown_all t (spans_of l)))

by_kind_lem : (t l : List ℕ) → record_sound t l ≡ by_kind t l (kind_shown (get_or l 0 0))
unfolding record_sound in_text spare_absent show_row
by_kind_lem t l = rw (known_is (get_or l 0 0))

-- a record of no kind
pub unknown_is : (t l : List ℕ) → kind_shown (get_or l 0 0) ≡ unknown → record_sound t l ≡ false
unknown_is t l e = by_kind_lem t l ∙ ap (by_kind t l) e

-- ---- a record that is no medication

-- the tests of such a record in the order of the code; absent spans lie within any text
arranged : (a b c z ne g : Bool) → (c ≡ true → b ≡ true) → (((a && b) && (c && z)) && ((ne && (z && true)) && g)) ≡ (ne && (z && ((a && g) && c)))
arranged a b false z ne g f = rw (and_no (a && b), and_no (a && g), and_no z, and_no ne)
arranged true b true true true true f = rw (f refl)
arranged true b true true true false f = rw (f refl)
arranged true b true true false g f = rw (f refl)
arranged true b true false ne g f = rw (f refl, and_no ne)
arranged false b true z ne g f = sym (rw (and_no z, and_no ne))

-- spans behind the first n
drop_spans : (l : List ℕ) (n m j : ℕ) → drop n (spans_in (n + m) j l) ≡ spans_in m (j + n) l
unfolding spans_in
drop_spans l zero m j = let e : 0 + m ≡ m = omega arith in let f : j + 0 ≡ j = omega arith in rw (e, f)
drop_spans l (suc n) m j =
    let e : suc n + m ≡ suc (n + m) = omega arith in
    let f : suc j + n ≡ j + suc n = omega arith in
    ap (λ (k : ℕ). drop (suc n) (spans_in k j l)) e ∙ drop_spans l n m (suc j) ∙ ap (λ (k : ℕ). spans_in m k l) f

-- a row of a kind whose n fields all have spans, and that needs `ne` beside them
plain_is : (t l : List ℕ) (k : Kind) (n : ℕ) (ne : Bool) → n ≤ 19 → count_of k ≡ n → has_spans k ≡ n → is k M ≡ false → is k unknown ≡ false
    → sound_row (row_with k (get_or l 1 0) (shown_all t (spans_of l))) ≡ ((ne && (eqb (get_or l 1 0) 0 && true)) && good_element k (take n (shown_all t (spans_of l))))
    → by_kind t l k ≡ (ne && fine_plain t k l)
unfolding fine_plain fine_element absent_from
plain_is t l k n ne h c s m u r =
    let w : Span → Bool = within (length t) in
    let z : 0 + n ≡ n = omega arith in
    let q : n + (19 - n) ≡ 19 = omega arith in
    let own : List Span = spans_in n 0 l in
    let spare : List Span = spans_in (19 - n) n l in
    let behind : drop n (spans_of l) ≡ spare = ap (λ (k : ℕ). drop n (spans_in k 0 l)) (sym q) ∙ drop_spans l n (19 - n) 0 ∙ ap (λ (k : ℕ). spans_in (19 - n) k l) z in
    let all : every w (spans_of l) ≡ (every w own && every w spare) = ap (λ (k : ℕ). every w (spans_in k 0 l)) (sym q) ∙ every_parts l w n (19 - n) 0 ∙ ap (λ (k : ℕ). every w own && every w (spans_in (19 - n) k l)) z in
    rw (r, part_shown l t 19 0 n 0 (omega arith), s, m, u, behind, all, c)
    (arranged (every w own) (every w spare) (every absent spare) (eqb (get_or l 1 0) 0) ne (good_element k (shown_all t own)) (absent_within (length t) spare))

-- what a heading needs, by its values or by its spans
retold : (ne ne' z a g c : Bool) → (a ≡ true → ne ≡ ne') → (ne && (z && ((a && g) && c))) ≡ (ne' && (z && ((a && g) && c)))
retold ne ne' z true g c f = rw (f refl)
retold ne ne' z false g c f = rw (and_no z, and_no ne, and_no ne')

module _ (t l : List ℕ) where
  abbrev values : Slots
  values = shown_all t (spans_of l)

  heading_row : sound_row (row_with S (get_or l 1 0) values) ≡ ((not (all_empty (take 2 values)) && (eqb (get_or l 1 0) 0 && true)) && good_element S (take 2 values))
  unfolding sound_row
  heading_row = refl

  recipe_row : sound_row (row_with R (get_or l 1 0) values) ≡ ((true && (eqb (get_or l 1 0) 0 && true)) && good_element R (take 2 values))
  unfolding sound_row
  recipe_row = refl

  note_row : sound_row (row_with X (get_or l 1 0) values) ≡ ((true && (eqb (get_or l 1 0) 0 && true)) && good_element X (take 1 values))
  unfolding sound_row
  note_row = refl

  counts : (count_of S ≡ 2) × (count_of R ≡ 2) × (count_of X ≡ 1)
  unfolding count_of fields_of
  counts = (refl, refl, refl)

  heading_needs : (not (all_empty (take 2 values)) && fine_plain t S l) ≡ (not (absent_from 2 0 l) && fine_plain t S l)
  unfolding fine_plain fine_element absent_from
  heading_needs =
      rw (counts.0, part_shown l t 19 0 2 0 (omega arith))
      (retold (not (all_empty (shown_all t (spans_in 2 0 l)))) (not (every absent (spans_in 2 0 l))) (eqb (get_or l 1 0) 0)
      (every (within (length t)) (spans_in 2 0 l)) (good_element S (shown_all t (spans_in 2 0 l))) (every absent (spans_in 17 2 l))
      (λ e. ap not (all_empty_lem t (spans_in 2 0 l) e)))

  -- a heading
  pub heading_is : kind_shown (get_or l 0 0) ≡ S → record_sound t l ≡ (not (absent_from 2 0 l) && fine_plain t S l)
  heading_is e = by_kind_lem t l ∙ ap (by_kind t l) e ∙ plain_is t l S 2 (not (all_empty (take 2 values))) (omega arith) counts.0 refl refl refl heading_row ∙ heading_needs

  -- a recipe
  pub recipe_is : kind_shown (get_or l 0 0) ≡ R → record_sound t l ≡ fine_plain t R l
  recipe_is e = by_kind_lem t l ∙ ap (by_kind t l) e ∙ plain_is t l R 2 true (omega arith) counts.1 refl refl refl recipe_row

  -- a note
  pub note_is : kind_shown (get_or l 0 0) ≡ X → record_sound t l ≡ fine_plain t X l
  note_is e = by_kind_lem t l ∙ ap (by_kind t l) e ∙ plain_is t l X 1 true (omega arith) counts.2 refl refl refl note_row

-- ---- the W of a medication

last_is : (u v w : Slots) (a b c : Bool) → all_empty u ≡ a → all_empty v ≡ b → all_empty w ≡ c
    → to_last (u ∷ v ∷ w ∷ []) ≡ if c (if b (if a [] (u ∷ [])) (u ∷ v ∷ [])) (u ∷ v ∷ w ∷ [])
last_is u v w true true true e f g = rw (g, f, e)
last_is u v w false true true e f g = rw (g, f, e)
last_is u v w a false true e f g = rw (g, f)
last_is u v w a b false e f g = rw g

module _ (t l : List ℕ) where
  abbrev values_at : ℕ → Slots
  values_at j = shown_all t (spans_in 2 j l)

  abbrev inside_at : ℕ → Bool
  inside_at j = every (within (length t)) (spans_in 2 j l)

  -- the W of the row that the record shows
  abbrev shown_ws : List Slots
  shown_ws = to_last (values_at 13 ∷ values_at 15 ∷ values_at 17 ∷ [])

  fine_at : (j : ℕ) → inside_at j ≡ true → fine_element t W (spans_in 2 j l) ≡ good_element W (values_at j)
  unfolding fine_element
  fine_at j e = rw e

  -- where the spans lie within the text, the W are told by the spans
  pub ws_are : inside_at 13 ≡ true → inside_at 15 ≡ true → inside_at 17 ≡ true
      → (leb (length shown_ws) 3 ≡ true) × (every (good_element W) shown_ws ≡ fine_ws t (last_w l) 13 l) × (none_of shown_ws ≡ eqb (last_w l) 0)
  unfolding last_w fine_ws absent_from
  ws_are x y z = go (every absent (spans_in 2 13 l)) (every absent (spans_in 2 15 l)) (every absent (spans_in 2 17 l)) (all_empty_lem t (spans_in 2 13 l) x) (all_empty_lem t (spans_in 2 15 l) y) (all_empty_lem t (spans_in 2 17 l) z)
    where
      go : (a b c : Bool) → all_empty (values_at 13) ≡ a → all_empty (values_at 15) ≡ b → all_empty (values_at 17) ≡ c
          → (leb (length shown_ws) 3 ≡ true) × (every (good_element W) shown_ws ≡ fine_ws t (if c (if b (if a 0 1) 2) 3) 13 l) × (none_of shown_ws ≡ eqb (if c (if b (if a 0 1) 2) 3) 0)
      go true true true e f g = rw (last_is (values_at 13) (values_at 15) (values_at 17) true true true e f g) (refl, refl, refl)
      go false true true e f g = rw (last_is (values_at 13) (values_at 15) (values_at 17) false true true e f g, fine_at 13 x) (refl, refl, refl)
      go a false true e f g = rw (last_is (values_at 13) (values_at 15) (values_at 17) a false true e f g, fine_at 13 x, fine_at 15 y) (refl, refl, refl)
      go a b false e f g = rw (last_is (values_at 13) (values_at 15) (values_at 17) a b false e f g, fine_at 13 x, fine_at 15 y, fine_at 17 z) (refl, refl, refl)

  inside_fine : (j : ℕ) → fine_element t W (spans_in 2 j l) ≡ true → inside_at j ≡ true
  unfolding fine_element
  inside_fine j e = (both (inside_at j) (good_element W (values_at j)) e).0

  inside_absent : (j : ℕ) → every absent (spans_in 2 j l) ≡ true → inside_at j ≡ true
  inside_absent j e = absent_within (length t) (spans_in 2 j l) e

  -- fine W lie within the text, and so do those behind them
  pub ws_inside : fine_ws t (last_w l) 13 l ≡ true → (inside_at 13 ≡ true) × (inside_at 15 ≡ true) × (inside_at 17 ≡ true)
  unfolding last_w fine_ws absent_from
  ws_inside = go (every absent (spans_in 2 13 l)) (every absent (spans_in 2 15 l)) (every absent (spans_in 2 17 l)) refl refl refl
    where
      go : (a b c : Bool) → every absent (spans_in 2 13 l) ≡ a → every absent (spans_in 2 15 l) ≡ b → every absent (spans_in 2 17 l) ≡ c
          → fine_ws t (if c (if b (if a 0 1) 2) 3) 13 l ≡ true → (inside_at 13 ≡ true) × (inside_at 15 ≡ true) × (inside_at 17 ≡ true)
      go true true true e f g h = (inside_absent 13 e, inside_absent 15 f, inside_absent 17 g)
      go false true true e f g h = (inside_fine 13 (both (fine_element t W (spans_in 2 13 l)) true h).0, inside_absent 15 f, inside_absent 17 g)
      go a false true e f g h =
          let (x, y) = both (fine_element t W (spans_in 2 13 l)) (fine_element t W (spans_in 2 15 l) && true) h in
          (inside_fine 13 x, inside_fine 15 (both (fine_element t W (spans_in 2 15 l)) true y).0, inside_absent 17 g)
      go a b false e f g h =
          let (x, y) = both (fine_element t W (spans_in 2 13 l)) (fine_element t W (spans_in 2 15 l) && (fine_element t W (spans_in 2 17 l) && true)) h in
          let (u, v) = both (fine_element t W (spans_in 2 15 l)) (fine_element t W (spans_in 2 17 l) && true) y in
          (inside_fine 13 x, inside_fine 15 u, inside_fine 17 (both (fine_element t W (spans_in 2 17 l)) true v).0)

-- ---- the W of a medication in a loop

module _ (t l : List ℕ) (n i : ℕ) (h : i < n) where
  pub ws_more : fine_ws t (n - i) (13 + 2 * i) l ≡ (fine_element t W (spans_in 2 (13 + 2 * i) l) && fine_ws t (n - (i + 1)) (13 + 2 * (i + 1)) l)
  unfolding fine_ws
  ws_more =
      let e : n - i ≡ suc (n - (i + 1)) = omega arith in
      let f : 13 + 2 * i + 2 ≡ 13 + 2 * (i + 1) = omega arith in
      ap (λ (m : ℕ). fine_ws t m (13 + 2 * i) l) e ∙ rw f

-- ---- a medication

-- the package number is M's first field, and need not be there
m_slots : (d : List ℕ) (vs : Slots) → good_slots (fields_of M) (d ∷ vs) ≡ (good_slot (field_at 33) d && good_slots (take 13 (drop 34 table)) vs)
unfolding fields_of field_at
m_slots d vs = refl

m_missing : (d : List ℕ) (vs : Slots) → missing (fields_of M) (d ∷ vs) ≡ missing (take 13 (drop 34 table)) vs
unfolding fields_of
m_missing d vs = refl

-- how many fields M has
pub m_count : count_of (kind_at 6) ≡ 14
unfolding kind_at count_of fields_of
m_count = refl

-- there are at most three W
pub last_few : (l : List ℕ) → last_w l ≤ 3
unfolding last_w
last_few l = go (absent_from 2 17 l) (absent_from 2 15 l) (absent_from 2 13 l)
  where
    go : (c b a : Bool) → if c (if b (if a 0 1) 2) 3 ≤ 3
    go true true true = omega arith
    go true true false = omega arith
    go true false a = omega arith
    go false b a = omega arith

-- a medication is fine by the answers to its tests
pub medication_by : (t l : List ℕ) (n : ℕ) → n ≡ last_w l
    → fine_medication t l ≡ (not (lacking n l) && (good_slot (field_at 33) (decimal (get_or l 1 0)) && (fine_from t 34 13 0 l && (not (clash_at (kind_at 6) l 0) && fine_ws t n 13 l))))
unfolding fine_medication kind_at
medication_by t l n q = rw q

-- the tests of a medication in the order of the code
sorted : (w nl gp g nm nc : Bool) → ((true && (w && nl)) && ((gp && g) && (nm && nc))) ≡ (nl && (gp && ((true && (g && nm)) && (nc && w))))
sorted false nl gp g nm nc = sym (rw (and_no nc, and_no (g && nm), and_no gp, and_no nl))
sorted true false gp g nm nc = refl
sorted true true false g nm nc = refl
sorted true true true false nm nc = refl
sorted true true true true false nc = refl
sorted true true true true true true = refl
sorted true true true true true false = refl

-- a test that cannot hold fails
pub so_not : (b : Bool) → (b ≡ true → ⊥) → b ≡ false
so_not true f = absurd (f refl)
so_not false f = refl

module _ (t l : List ℕ) where
  abbrev digits : List ℕ
  digits = decimal (get_or l 1 0)

  abbrev own : Slots
  own = shown_all t (spans_in 13 0 l)

  abbrev own_in : Bool
  own_in = every (within (length t)) (spans_in 13 0 l)

  abbrev mine : List Field
  mine = take 13 (drop 34 table)

  medication_row_lem : sound_row (row_with M (get_or l 1 0) (shown_all t (spans_of l)))
      ≡ ((leb (length (shown_ws t l)) 3 && (every (good_element W) (shown_ws t l) && not (none_of (shown_ws t l) && (is_empty digits && is_empty (shown t (span_in l 0)))))) && good_element M (digits ∷ own))
  unfolding sound_row fields_of spans_in
  medication_row_lem = refl

  present : own_in ≡ true → (a : ℕ) → a < suc (length own) → not (is_empty (get_or (digits ∷ own) a [])) ≡ there l 0 a
  present e zero h = ap not (decimal_empty (get_or l 1 0))
  present e (suc a) h =
      let q : 2 + 2 * 0 + (2 * a + 1) ≡ 0 + (2 * suc a + 1) = omega arith in
      let k : a < 13 = omega (arith, shown_long t l 13 0) in
      shown_there t l 13 0 a e k ∙ ap (λ (m : ℕ). not (eqb (get_or l m 0) 0)) q

  m_clash : own_in ≡ true → clash (excluded M) (names_of (fields_of M) (digits ∷ own)) ≡ clash_at M l 0
  unfolding kind_at
  m_clash e = clash_is 6 (omega arith) (digits ∷ own) l 0 (ap suc (shown_long t l 13 0) ∙ sym m_count) (present e)

  m_good : own_in ≡ true → good_element M (digits ∷ own) ≡ ((good_slot (field_at 33) digits && good_slots mine own) && (not (missing mine own) && not (clash_at M l 0)))
  unfolding good_element
  m_good e = rw (m_slots digits own, m_missing digits own, m_clash e)

  all_parts : every (within (length t)) (spans_of l) ≡ (own_in && (inside_at t l 13 && (inside_at t l 15 && inside_at t l 17)))
  all_parts =
      let w : Span → Bool = within (length t) in
      every_parts l w 13 6 0 ∙ ap (λ (x : Bool). own_in && x) (every_parts l w 2 4 13 ∙ ap (λ (x : Bool). inside_at t l 13 && x) (every_parts l w 2 2 15))

  none_behind : drop 19 (spans_of l) ≡ []
  unfolding spans_in
  none_behind = refl

  own_fine : fine_from t 34 13 0 l ≡ (own_in && (good_slots mine own && not (missing mine own)))
  own_fine = fields_are t l 34 13 0 (omega arith)

  first_inside : own_in ≡ true → is_empty (shown t (span_in l 0)) ≡ absent (span_in l 0)
  unfolding spans_in
  first_inside e = shows t (span_in l 0) (both (within (length t) (span_in l 0)) (every (within (length t)) (spans_in 12 1 l)) e).0

  lacks_is : own_in ≡ true → none_of (shown_ws t l) ≡ eqb (last_w l) 0 → (none_of (shown_ws t l) && (is_empty digits && is_empty (shown t (span_in l 0)))) ≡ lacking (last_w l) l
  unfolding lacking
  lacks_is o e = rw (e, decimal_empty (get_or l 1 0), first_inside o)

  -- the spans of a fine medication lie within the text
  fine_inside : fine_medication t l ≡ true → (own_in && (inside_at t l 13 && (inside_at t l 15 && inside_at t l 17))) ≡ true
  unfolding fine_medication
  fine_inside e =
      let g : Bool = good_slot (field_at 33) digits in
      let f : Bool = fine_from t 34 13 0 l in
      let c : Bool = not (clash_at M l 0) in
      let w : Bool = fine_ws t (last_w l) 13 l in
      let (a, b) = both (not (lacking (last_w l) l)) (g && (f && (c && w))) e in
      let (d, h) = both g (f && (c && w)) b in
      let (i, j) = both f (c && w) h in
      let (m, n) = both c w j in
      let o : own_in ≡ true = (both own_in (good_slots mine own && not (missing mine own)) (sym own_fine ∙ i)).0 in
      let s = ws_inside t l n in
      rw (o, s.0, s.1, s.2)

  by_parts : by_kind t l M ≡ fine_medication t l
  unfolding fine_medication
  by_parts = ap (λ (x : Bool). (x && (every absent (drop 19 (spans_of l)) && true)) && sound_row (row_with M (get_or l 1 0) (shown_all t (spans_of l)))) all_parts
      ∙ go (own_in && (inside_at t l 13 && (inside_at t l 15 && inside_at t l 17))) refl
    where
      go : (b : Bool) → (own_in && (inside_at t l 13 && (inside_at t l 15 && inside_at t l 17))) ≡ b
          → ((b && (every absent (drop 19 (spans_of l)) && true)) && sound_row (row_with M (get_or l 1 0) (shown_all t (spans_of l)))) ≡ fine_medication t l
      go true e =
          let (o, r) = both own_in (inside_at t l 13 && (inside_at t l 15 && inside_at t l 17)) e in
          let (x, q) = both (inside_at t l 13) (inside_at t l 15 && inside_at t l 17) r in
          let (y, z) = both (inside_at t l 15) (inside_at t l 17) q in
          let (few, good, any) = ws_are t l x y z in
          rw (none_behind, medication_row_lem, few, good, lacks_is o any, m_good o, own_fine, o)
          (sorted (fine_ws t (last_w l) 13 l) (not (lacking (last_w l) l)) (good_slot (field_at 33) digits) (good_slots mine own) (not (missing mine own)) (not (clash_at M l 0)))
      go false e = sym (so_not (fine_medication t l) (λ z. no (sym (fine_inside z) ∙ e)))

  -- a medication
  pub medication_is : kind_shown (get_or l 0 0) ≡ M → record_sound t l ≡ fine_medication t l
  medication_is e = by_kind_lem t l ∙ ap (by_kind t l) e ∙ by_parts

-- ---- the rows in a loop

-- the part of the rows that is record i
pub part_sound : (t rows : List ℕ) (i : ℕ) → record_sound t (take (i * 48 + 48 - i * 48) (drop (i * 48) rows)) ≡ record_sound t (record_at rows i)
part_sound t rows i = let e : i * 48 + 48 - i * 48 ≡ 48 = omega arith in ap (λ (n : ℕ). record_sound t (take n (drop (i * 48) rows))) e

module _ (t rows : List ℕ) (n i : ℕ) (h : i < n) where
  pub rows_more : first_bad_in (1 + i) t (n - i) (drop (i * 48) rows)
      ≡ if (record_sound t (record_at rows i)) (first_bad_in (1 + (i + 1)) t (n - (i + 1)) (drop ((i + 1) * 48) rows)) (i + 1)
  rows_more =
      let e : n - i ≡ suc (n - (i + 1)) = omega arith in
      let f : suc (1 + i) ≡ 1 + (i + 1) = omega arith in
      let g : i * 48 + 48 ≡ (i + 1) * 48 = omega arith in
      let k : 1 + i ≡ i + 1 = omega arith in
      ap (λ (m : ℕ). first_bad_in (1 + i) t m (drop (i * 48) rows)) e
      ∙ rw (drop-drop 48 (i * 48) rows, f, g, k)
