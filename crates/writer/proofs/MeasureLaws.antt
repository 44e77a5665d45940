-- MeasureLaws: a sound row, and a page of a sound head without rows, are spelled in at most 8,192 bytes; and the rows as numbers, one at a time.
-- Assumes nothing.
use mathlib.Core.Path.{◌≡◌, refl, ap, sym, ◌∙◌}
use mathlib.Core.Bool.{Bool, true, false}
use mathlib.Core.List.{List, [], ◌∷◌, ◌++◌, map, append_assoc, append-nil}
use Prim.Native.Nat.{ℕ, ◌+◌, ◌*◌, ◌≤◌, ◌<◌}
use native.Mathlib.Numerals.{add-one}
use native.Mathlib.Omega.{arith}
use lib.Dec.{leb}
use lib.ListN.{length, take, drop, get_or, set, replicate, length-append, length-set, drop_of_length-le}
use lib.Seq.{take-suc-set, take_at, length-take-le}
use borrow.Author.Tests.{leb-true}
use Rattle.paper.specs.Lists.{if, every}
use Rattle.paper.specs.Fields.{Kind, MP, P, A, O, S, M, W, R, X, is, Field, fields_of, tag_name}
use Rattle.paper.specs.Plan.{Slots, Head, Row}
use Rattle.paper.specs.Judging.{all_empty}
use Rattle.paper.specs.Writing.{good_slot, good_slots, good_element, sound_head, sound_row, mp_slots, decimal, spelled, bare, opening, closing, ws_text, body_text, measures_text, heading, page}
use Rattle.paper.proofs.Small.{both}
use Rattle.paper.proofs.Element.{good_slots_lem}
use Rattle.paper.proofs.ReadSound.{keeping}
use Rattle.paper.proofs.Rows.{View, head, med, rec, free, view}
use Rattle.paper.proofs.Sheets.{head_sound_lem}
use Rattle.paper.proofs.Sizes.{slot_size, slot_sizes, attrs_size_lem}
use Rattle.markup.proofs.Spells.{escape_short}
use Rattle.plan.specs.Numbers.{record_at, show_row, show_rows, kind_shown}
use Rattle.plan.specs.Records.{paper_kind, code_kind}
use Rattle.plan.proofs.Shown.{rows_shown, row_next}
use Rattle.plan.proofs.Parts.{kind_is}
use Rattle.room.specs.Laid.{laid}
use Rattle.writer.specs.Spelling.{row_text, people_text}
use Rattle.writer.specs.Tags.{gap_text, placed_text, rows_placed, Stays}
use Rattle.writer.specs.Cutting.{measure_of, size_in}
use Rattle.writer.proofs.Placed.{placed_append, placed_size}
use Rattle.writer.proofs.Stretches.{rows_split}

-- ---- values and elements

-- the most that the fields of an element take
abbrev pub most_of : List Field → ℕ
most_of [] = 0
most_of (f ∷ fs) = 4 + (length f.letters + 6 * f.most) + most_of fs

slot_short : (f : Field) (v : List ℕ) → good_slot f v ≡ true → slot_size f v ≤ 4 + (length f.letters + 6 * f.most)
slot_short f [] g = omega arith
slot_short f (c ∷ v) g = let s = (keeping f c v g).short in omega (arith, escape_short (c ∷ v))

slots_short : (fs : List Field) (vs : Slots) → good_slots fs vs ≡ true → slot_sizes fs vs ≤ most_of fs
slots_short [] vs g = omega arith
slots_short (f ∷ fs) [] g = omega arith
slots_short (f ∷ fs) (v ∷ vs) g = let (a, b) = both (good_slot f v) (good_slots fs vs) g in omega (arith, slot_short f v a, slots_short fs vs b)

spelled_short : (k : Kind) (n : ℕ) (vs : Slots) → leb (most_of (fields_of k)) n ≡ true → good_element k vs ≡ true → length (spelled k vs) ≤ n
spelled_short k n vs e g = omega (arith, attrs_size_lem (fields_of k) vs, slots_short (fields_of k) vs (good_slots_lem k vs g), leb-true (most_of (fields_of k)) n e)

bare_long : (k : Kind) (vs : Slots) (x : List ℕ) → length (bare k vs x) ≡ length (tag_name k) + length (spelled k vs) + 3 + length x
bare_long k vs x = omega (arith, length-append (tag_name k) (spelled k vs ++ 47 ∷ 62 ∷ x), length-append (spelled k vs) (47 ∷ 62 ∷ x))

opening_long : (k : Kind) (vs : Slots) (x : List ℕ) → length (opening k vs x) ≡ length (tag_name k) + length (spelled k vs) + 2 + length x
opening_long k vs x = omega (arith, length-append (tag_name k) (spelled k vs ++ 62 ∷ x), length-append (spelled k vs) (62 ∷ x))

-- ---- rows

-- the computed bounds: the most that the fields of each element take
pub record Bounds : Type 0 where
  pub mp : leb (most_of (fields_of MP)) 300 ≡ true
  pub person : leb (most_of (fields_of P)) 1100 ≡ true
  pub author : leb (most_of (fields_of A)) 1400 ≡ true
  pub measures : leb (most_of (fields_of O)) 900 ≡ true
  pub section : leb (most_of (fields_of S)) 400 ≡ true
  pub medication : leb (most_of (fields_of M)) 2900 ≡ true
  pub substance : leb (most_of (fields_of W)) 600 ≡ true
  pub recipe : leb (most_of (fields_of R)) 2500 ≡ true
  pub note : leb (most_of (fields_of X)) 1300 ≡ true

bounds : Bounds
unfolding fields_of
bounds = record { mp = refl; person = refl; author = refl; measures = refl; section = refl; medication = refl; substance = refl; recipe = refl; note = refl }

ws_short : (ws : List Slots) → every (good_element W) ws ≡ true → length (ws_text ws []) ≤ 604 * length ws + 4
ws_short [] g = omega arith
ws_short (w ∷ ws) g =
    let (a, b) = both (good_element W w) (every (good_element W) ws) g in
    omega (arith, bare_long W w (ws_text ws []), spelled_short W 600 w bounds.substance a, ws_short ws b)

body_short : (ws : List Slots) (vs : Slots) → length ws ≤ 3 → every (good_element W) ws ≡ true → good_element M vs ≡ true → length (body_text ws M vs []) ≤ 8000
body_short [] vs l w g = omega (arith, bare_long M vs [], spelled_short M 2900 vs bounds.medication g)
body_short (v ∷ ws) vs l w g = omega (arith, opening_long M vs (ws_text (v ∷ ws) []), spelled_short M 2900 vs bounds.medication g, ws_short (v ∷ ws) w)

row_viewed : {r : Row} → View r → length (row_text r) ≤ 8192
unfolding row_text
row_viewed (head vs e g) = omega (arith, opening_long S vs [], spelled_short S 400 vs bounds.section g)
row_viewed (med n vs ws l w e g) = omega (arith, body_short ws (decimal n ∷ vs) l w g)
row_viewed (rec vs g) = omega (arith, bare_long R vs [], spelled_short R 2500 vs bounds.recipe g)
row_viewed (free vs g) = omega (arith, bare_long X vs [], spelled_short X 1300 vs bounds.note g)

-- a sound row is spelled in at most 8,192 bytes
pub row_short : (r : Row) → sound_row r ≡ true → length (row_text r) ≤ 8192
row_short r e = row_viewed (view r e)

-- ---- the head

measures_short : (vs : Slots) (x : List ℕ) → good_element O vs ≡ true → length (measures_text vs x) ≤ 904 + length x
measures_short vs x g = at (all_empty vs)
  where
    at : (b : Bool) → length (if b x (bare O vs x)) ≤ 904 + length x
    at true = omega arith
    at false = omega (arith, bare_long O vs x, spelled_short O 900 vs bounds.measures g)

-- a page of a sound head without rows has at most 8,192 bytes
pub page_short : (h : Head) → sound_head h ≡ true → length (page h [] 1 1) ≤ 8192
unfolding page
page_short h e =
    let H = head_sound_lem h e in
    let z : List ℕ = closing MP [] in
    let o : List ℕ = measures_text h.measures z in
    let a : List ℕ = bare A h.author o in
    let p : List ℕ = bare P h.person a in
    omega (
      arith,
      opening_long MP (mp_slots h 1 1) p,
      spelled_short MP 300 (mp_slots h 1 1) bounds.mp H.mp_ok,
      bare_long P h.person a,
      spelled_short P 1100 h.person bounds.person H.person_ok,
      bare_long A h.author o,
      spelled_short A 1400 h.author bounds.author H.author_ok,
      measures_short h.measures z H.measures_ok,
    )

-- P, A and O of a sound head
pub people_short : (h : Head) → sound_head h ≡ true → length (people_text h) ≤ 4096
people_short h e =
    let H = head_sound_lem h e in
    let o : List ℕ = measures_text h.measures [] in
    let a : List ℕ = bare A h.author o in
    omega (
      arith,
      bare_long P h.person a,
      spelled_short P 1100 h.person bounds.person H.person_ok,
      bare_long A h.author o,
      spelled_short A 1400 h.author bounds.author H.author_ok,
      measures_short h.measures [] H.measures_ok,
    )

-- ---- the numbers of the rows

-- a sound row and what stands before it
pub placed_short : (r : Row) → sound_row r ≡ true → length (placed_text true r) ≤ 8196
unfolding placed_text
placed_short r e = omega (arith, length-append (gap_text true (heading r)) (row_text r), row_short r e, at (heading r))
  where
    at : (b : Bool) → length (gap_text true b) ≤ 4
    at true = omega arith
    at false = omega arith

-- a heading's number
pub heading_number : (r : Row) (n : ℕ) → heading r ≡ true → n ≡ length (placed_text true r) → n * 2 + 1 ≡ measure_of r
unfolding placed_text
heading_number r n e q = let l : n ≡ 4 + length (row_text r) = q ∙ rw e (omega arith) in rw e (omega arith)

-- any other row's number
pub other_number : (r : Row) (n : ℕ) → heading r ≡ false → n ≡ length (placed_text true r) → n * 2 ≡ measure_of r
unfolding placed_text
other_number r n e q = let l : n ≡ length (row_text r) = q ∙ rw e in rw e (omega arith)

-- the kind of a record tells whether its row is a heading
pub heading_told : (t l : List ℕ) → is (paper_kind (code_kind (kind_shown (get_or l 0 0)))) S ≡ heading (show_row t l)
unfolding show_row
heading_told t l = ap (λ (k : Kind). is k S) (sym (kind_is (get_or l 0 0)))

-- the first j rows, one behind the other
abbrev pub placed_up_to : List ℕ → List ℕ → ℕ → List ℕ
placed_up_to t rows j = rows_placed (show_rows t j rows)

next_placed : (t rows : List ℕ) (i : ℕ) → placed_up_to t rows (i + 1) ≡ placed_up_to t rows i ++ placed_text true (show_row t (record_at rows i))
unfolding rows_placed
next_placed t rows i =
    ap rows_placed (rows_split t i 1 (i + 1) rows refl)
    ∙ placed_append (show_rows t i rows) (show_row t (record_at rows i) ∷ [])
    ∙ ap (λ (w : List ℕ). placed_up_to t rows i ++ w) (append-nil (placed_text true (show_row t (record_at rows i))))

-- bytes laid behind the beginning of a room
laid_behind : (s w : List ℕ) (at : ℕ) → at ≤ length s → take (at + length w) (laid s at w) ≡ take at s ++ w
laid_behind s w at h =
    let l = length-take-le at s h in
    ap (take (at + length w)) (sym (append_assoc (take at s) w (drop (at + length w) s)))
    ∙ take_at (take at s ++ w) (drop (at + length w) s) (at + length w) (omega (arith, l, length-append (take at s) w))

-- i rows are measured, and their numbers stand in ms; as long as nine pages take them, they stand in the scratch room up to place `at`
pub record Measured (t rows : List ℕ) (n : ℕ) (s₀ s ms : List ℕ) (at i : ℕ) : Type 0 where
  pub within : i ≤ n
  pub few : n ≤ 256
  pub scratch : length s ≡ length s₀
  pub room : 20800 ≤ length s₀
  pub low : at ≤ 12600
  pub long : length ms ≡ 256
  pub right : take i ms ++ map measure_of (drop i (show_rows t n rows)) ≡ map measure_of (show_rows t n rows)
  pub stays : length (placed_up_to t rows i) ≤ 12600 → (at ≡ length (placed_up_to t rows i)) × (take at s ≡ placed_up_to t rows i)

-- none is measured
pub measured_start : (t rows : List ℕ) (n : ℕ) (s : List ℕ) → n ≤ 256 → 20800 ≤ length s → Measured t rows n s s (replicate 256 0) 0 0
unfolding rows_placed
measured_start t rows n s f r = record { within = omega arith; few = f; scratch = refl; room = r; low = omega arith; long = refl; right = refl; stays = λ l. (refl, refl) }

-- the next one is measured
pub measured_next : {t rows : List ℕ} {n : ℕ} {s₀ s ms : List ℕ} {at i : ℕ} (s' : List ℕ) (m at' : ℕ) → Measured t rows n s₀ s ms at i → i < n → m ≡ measure_of (show_row t (record_at rows i))
    → s' ≡ laid s at (placed_text true (show_row t (record_at rows i))) → length s' ≡ length s → at' ≤ 12600 → (at + size_in m ≤ 12600 → at' ≡ at + size_in m)
    → Measured t rows n s₀ s' (set ms i m) at' (i + 1)
measured_next {t} {rows} {n} {s₀} {s} {ms} {at} {i} s' m at' H h e b k low go =
    let few = H.few in
    let long = H.long in
    let w : List ℕ = placed_text true (show_row t (record_at rows i)) in
    let rest : List ℕ = map measure_of (drop (i + 1) (show_rows t n rows)) in
    let next : map measure_of (drop i (show_rows t n rows)) ≡ measure_of (show_row t (record_at rows i)) ∷ rest = ap (map measure_of) (row_next t n rows i h) in
    let more : take (i + 1) (set ms i m) ≡ take i ms ++ m ∷ [] = rw (add-one i) (take-suc-set ms i m (omega arith)) in
    let size : size_in m ≡ length w = ap size_in e ∙ placed_size (show_row t (record_at rows i)) in
    let put = next_placed t rows i in
    let grown : length (placed_up_to t rows (i + 1)) ≡ length (placed_up_to t rows i) + length w = ap length put ∙ length-append (placed_up_to t rows i) w in
    record {
      within = omega arith;
      few = few;
      scratch = k ∙ H.scratch;
      room = H.room;
      low = low;
      long = length-set ms i m ∙ long;
      right = ap (λ (x : List ℕ). x ++ rest) more ∙ append_assoc (take i ms) (m ∷ []) rest ∙ ap (λ (x : ℕ). take i ms ++ x ∷ rest) e ∙ ap (λ (x : List ℕ). take i ms ++ x) (sym next) ∙ H.right;
      stays = λ l.
          let (p, q) = H.stays (omega (arith, l, grown)) in
          let to : at' ≡ at + length w = go (omega (arith, l, grown, p, size)) ∙ ap (λ (x : ℕ). at + x) size in (
            omega (arith, to, p, grown),
            ap (λ (x : ℕ). take x s') to ∙ ap (take (at + length w)) b ∙ laid_behind s w at (omega (arith, H.low, H.room, H.scratch)) ∙ ap (λ (x : List ℕ). x ++ w) q ∙ sym put,
          );
    }

-- all are measured
pub measured_all : {t rows : List ℕ} {n : ℕ} {s₀ s ms : List ℕ} {at i : ℕ} → Measured t rows n s₀ s ms at i → n ≤ i
    → (take n ms ≡ map measure_of (show_rows t n rows)) × Stays s (rows_placed (show_rows t n rows))
measured_all {t} {rows} {n} {s₀} {s} {ms} {at} {i} H h =
    let e : n ≡ i = omega (arith, H.within) in
    let gone : drop i (show_rows t n rows) ≡ [] = drop_of_length-le (show_rows t n rows) {i = i} (omega (arith, rows_shown t n rows)) in (
      ap (λ (k : ℕ). take k ms) e ∙ sym (append-nil (take i ms)) ∙ ap (λ (x : List Row). take i ms ++ map measure_of x) (sym gone) ∙ H.right,
      rw e (λ l. let (p, q) = H.stays l in ap (λ (k : ℕ). take k s) (sym p) ∙ q),
    )
