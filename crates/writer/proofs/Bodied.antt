-- Bodied: rows from their records: what the code lays for a sound row is what paper spells for the row that the record shows.
-- Assumes nothing.
use mathlib.Core.Path.{◌≡◌, refl, sym, ap, ◌∙◌}
use mathlib.Core.Bool.{Bool, true, false, not, ◌&&◌, ◌||◌}
use mathlib.Core.List.{List, [], ◌∷◌, ◌++◌, append-nil, append_assoc}
use Prim.Native.Nat.{ℕ, suc, ◌+◌, ◌*◌, ◌≤◌, ◌<◌}
use native.Mathlib.Nat.{zero-add}
use native.Mathlib.Omega.{arith}
use lib.Dec.{eqb, leb}
use lib.ListN.{length, take, drop, get_or}
use lib.Seq.{drop-drop}
use borrow.Author.Tests.{eq-eqb, ne_eqb}
use Rattle.paper.specs.Lists.{bytes, if, same, elem, every, is_empty}
use Rattle.paper.specs.Fields.{Kind, unknown, S, M, W, R, X, Field, fields_of, tag_name}
use Rattle.paper.specs.Plan.{Slots, slot, names_of, dose_from, dose_of}
use Rattle.paper.specs.Judging.{all_empty}
use Rattle.paper.specs.Layout.{Span, shown, shown_all}
use Rattle.paper.specs.Writing.{good_element, sound_row, decimal, none_of, print_attrs, attrs_of, spelled, bare, opening, closing, ws_text, body_text}
use Rattle.paper.proofs.Small.{no, unequal, both, neither}
use Rattle.paper.proofs.Element.{good_slots_lem, good_whole}
use Rattle.paper.proofs.Rows.{row}
use Rattle.fields.specs.Places.{field_at, name_of, fields_from}
use Rattle.fields.specs.Columns.{key_column}
use Rattle.plan.specs.Numbers.{record_at, span_in, spans_in, spans_of, kind_shown, before, to_last, row_with, show_row, paper_span, absent, within, in_text, known_kind, spare_absent, span_place}
use Rattle.plan.specs.Records.{paper_kind, code_kind, dose_in, paper_dose, code_span_in, times_in}
use Rattle.plan.specs.declared.Times.{Times}
use Rattle.plan.specs.declared.Kind as Code
use Rattle.plan.specs.declared.Dose.TheVariants.{Scheme, Free, Unstated}
use Rattle.plan.proofs.Parts.{kind_is}
use Rattle.plan.proofs.Doses.{shows, each_span, dose_is}
use Rattle.sound.specs.Sound.{record_sound}
use Rattle.room.specs.Numbered.{span_at, spans_at}
use Rattle.plan.proofs.Numbered.{part_of_row, spans_inside}
use Rattle.fields.proofs.Parts.{row_fields}
use Rattle.writer.specs.Spelling.{row_text}
use Rattle.writer.specs.Tags.{attribute, fields_text, tag_text, dose_text, dose_within, substance_text, end_text, medication_text}
use Rattle.writer.proofs.Spelled.{attrs_step, attrs_are, fields_parted, key_name, span_of_lem, spans_parted}

-- ---- each piece, and what comes after it

pub bare_on : (k : Kind) (vs : Slots) (x : List ℕ) → bare k vs x ≡ bare k vs [] ++ x
bare_on k vs x =
    let s : List ℕ = spelled k vs in
    ap (λ (z : List ℕ). 60 ∷ z) (ap (λ (z : List ℕ). tag_name k ++ z) (sym (append_assoc s (47 ∷ 62 ∷ []) x)) ∙ sym (append_assoc (tag_name k) (s ++ 47 ∷ 62 ∷ []) x))

pub opening_on : (k : Kind) (vs : Slots) (x : List ℕ) → opening k vs x ≡ opening k vs [] ++ x
opening_on k vs x =
    let s : List ℕ = spelled k vs in
    ap (λ (z : List ℕ). 60 ∷ z) (ap (λ (z : List ℕ). tag_name k ++ z) (sym (append_assoc s (62 ∷ []) x)) ∙ sym (append_assoc (tag_name k) (s ++ 62 ∷ []) x))

pub closing_on : (k : Kind) (x : List ℕ) → closing k x ≡ closing k [] ++ x
closing_on k x = ap (λ (z : List ℕ). 60 ∷ 47 ∷ z) (sym (append_assoc (tag_name k) (62 ∷ []) x))

pub ws_on : (ws : List Slots) (x : List ℕ) → ws_text ws x ≡ ws_text ws [] ++ x
ws_on [] x = closing_on M x
ws_on (w ∷ ws) x =
    bare_on W w (ws_text ws x)
    ∙ ap (λ (z : List ℕ). bare W w [] ++ z) (ws_on ws x)
    ∙ sym (append_assoc (bare W w []) (ws_text ws []) x)
    ∙ ap (λ (z : List ℕ). z ++ x) (sym (bare_on W w (ws_text ws [])))

pub body_on : (ws : List Slots) (k : Kind) (vs : Slots) (x : List ℕ) → body_text ws k vs x ≡ body_text ws k vs [] ++ x
body_on [] k vs x = bare_on k vs x
body_on (w ∷ ws) k vs x =
    opening_on k vs (ws_text (w ∷ ws) x)
    ∙ ap (λ (z : List ℕ). opening k vs [] ++ z) (ws_on (w ∷ ws) x)
    ∙ sym (append_assoc (opening k vs []) (ws_text (w ∷ ws) []) x)
    ∙ ap (λ (z : List ℕ). z ++ x) (sym (opening_on k vs (ws_text (w ∷ ws) [])))

-- ---- what a sound record is

-- its spans lie in the text, and the row that it shows is sound
pub sound_parts : (t l : List ℕ) → record_sound t l ≡ true → (in_text t l ≡ true) × (sound_row (show_row t l) ≡ true)
unfolding record_sound
sound_parts t l e =
    let (a, b) = both (known_kind (get_or l 0 0) && (in_text t l && spare_absent l)) (sound_row (show_row t l)) e in
    let (c, d) = both (known_kind (get_or l 0 0)) (in_text t l && spare_absent l) a in
    ((both (in_text t l) (spare_absent l) d).0, b)

-- the row that a record of some kind shows
pub row_with_lem : (t l : List ℕ) (k : Kind) → (show_row t l).kind ≡ k → show_row t l ≡ row_with k (get_or l 1 0) (shown_all t (spans_of l))
unfolding show_row
row_with_lem t l k e = ap (λ (q : Kind). row_with q (get_or l 1 0) (shown_all t (spans_of l))) e

-- it has the kind that its first number stands for
pub kind_shown_lem : (t l : List ℕ) → (show_row t l).kind ≡ kind_shown (get_or l 0 0)
unfolding show_row
kind_shown_lem t l = refl

-- and so for the kind that the code tells
pub kind_told : (t l : List ℕ) (k : Code.Kind) → k ≡ code_kind (kind_shown (get_or l 0 0)) → paper_kind k ≡ (show_row t l).kind
kind_told t l k e = ap paper_kind e ∙ sym (kind_is (get_or l 0 0)) ∙ sym (kind_shown_lem t l)

-- a row of no kind is not sound
pub unknown_never : (t l : List ℕ) → (show_row t l).kind ≡ unknown → record_sound t l ≡ true → ⊥
unfolding sound_row
unknown_never t l e h =
    let s = (sound_parts t l h).1 in
    no (sym (sym (ap sound_row (row_with_lem t l unknown e)) ∙ s))

-- ---- rows without package number and W

-- the attributes of a record's first n values
own_spelled : (t rows : List ℕ) (i : ℕ) (k : Kind) (first n : ℕ) → fields_of k ≡ fields_from first n → n ≤ 19 → spelled k (take n (shown_all t (spans_of (record_at rows i)))) ≡ fields_text first n t (span_place i 0) rows
unfolding fields_text
own_spelled t rows i k first n f h =
    ap (λ (fs : List Field). print_attrs (attrs_of fs (take n (shown_all t (spans_of (record_at rows i)))))) f
    ∙ ap (λ (vs : Slots). print_attrs (attrs_of (fields_from first n) vs)) (part_of_row t rows i n 0 (omega arith))

-- a heading
pub heading_is : (t rows : List ℕ) (i : ℕ) → (show_row t (record_at rows i)).kind ≡ S → row_text (show_row t (record_at rows i)) ≡ tag_text (bytes "<S") 31 2 t (span_place i 0) rows (bytes ">")
unfolding row_text tag_text
heading_is t rows i e =
    ap row_text (row_with_lem t (record_at rows i) S e)
    ∙ ap (λ (s : List ℕ). 60 ∷ 83 ∷ (s ++ 62 ∷ [])) (own_spelled t rows i S 31 2 row_fields.0 (omega arith))

-- a recipe
pub recipe_is : (t rows : List ℕ) (i : ℕ) → (show_row t (record_at rows i)).kind ≡ R → row_text (show_row t (record_at rows i)) ≡ tag_text (bytes "<R") 49 2 t (span_place i 0) rows (bytes "/>")
unfolding row_text tag_text
recipe_is t rows i e =
    ap row_text (row_with_lem t (record_at rows i) R e)
    ∙ ap (λ (s : List ℕ). 60 ∷ 82 ∷ (s ++ 47 ∷ 62 ∷ [])) (own_spelled t rows i R 49 2 row_fields.1 (omega arith))

-- a note
pub note_is : (t rows : List ℕ) (i : ℕ) → (show_row t (record_at rows i)).kind ≡ X → row_text (show_row t (record_at rows i)) ≡ tag_text (bytes "<X") 51 1 t (span_place i 0) rows (bytes "/>")
unfolding row_text tag_text
note_is t rows i e =
    ap row_text (row_with_lem t (record_at rows i) X e)
    ∙ ap (λ (s : List ℕ). 60 ∷ 88 ∷ (s ++ 47 ∷ 62 ∷ [])) (own_spelled t rows i X 51 1 row_fields.2 (omega arith))

-- ---- the dose

-- a field whose letters are not among the present ones has no value
absent_slot : (n : List ℕ) (fs : List Field) (vs : Slots) → elem n (names_of fs vs) ≡ false → slot n fs vs ≡ []
absent_slot n [] vs e = refl
absent_slot n (f ∷ fs) [] e = refl
absent_slot n (f ∷ fs) ([] ∷ vs) e = go (same n f.letters) (absent_slot n fs vs e)
  where
    go : (b : Bool) → slot n fs vs ≡ [] → if b [] (slot n fs vs) ≡ []
    go true q = refl
    go false q = q
absent_slot n (f ∷ fs) ((c ∷ v) ∷ vs) e =
    let (a, b) = neither (same n f.letters) (elem n (names_of fs vs)) e in
    rw a (absent_slot n fs vs b)

-- a field with a value stands among them
present_slot : (n : List ℕ) (fs : List Field) (vs : Slots) (c : ℕ) (v : List ℕ) → slot n fs vs ≡ c ∷ v → elem n (names_of fs vs) ≡ true
present_slot n fs vs c v e = go (elem n (names_of fs vs)) refl
  where
    go : (b : Bool) → elem n (names_of fs vs) ≡ b → elem n (names_of fs vs) ≡ true
    go true q = q
    go false q = let z : [] ≡ c ∷ v = sym (absent_slot n fs vs q) ∙ e in unequal cc

-- of two tests that do not both hold, where the second holds the first does not
not_first : (a b : Bool) → (a && b) ≡ false → b ≡ true → a ≡ false
not_first true b e h = no (sym h ∙ e)
not_first false b e h = refl

-- beside a free text no time of day is present
module _ (vs : Slots) (g : good_element M vs ≡ true) (c : ℕ) (y : List ℕ) (e : slot (bytes "t") (fields_of M) vs ≡ c ∷ y) where
  apart : (slot (bytes "m") (fields_of M) vs ≡ []) × (slot (bytes "d") (fields_of M) vs ≡ []) × (slot (bytes "v") (fields_of M) vs ≡ []) × (slot (bytes "h") (fields_of M) vs ≡ [])
  apart =
      let ns : List (List ℕ) = names_of (fields_of M) vs in
      let x : Bool = elem (bytes "t") ns in
      let there : x ≡ true = present_slot (bytes "t") (fields_of M) vs c y e in
      let m : Bool = elem (bytes "m") ns in
      let d : Bool = elem (bytes "d") ns in
      let v : Bool = elem (bytes "v") ns in
      let h : Bool = elem (bytes "h") ns in
      let u : Bool = (elem (bytes "du") ns && elem (bytes "dud") ns) || false in
      let (f, q₁) = neither (elem (bytes "f") ns && elem (bytes "fd") ns) ((m && x) || ((d && x) || ((v && x) || ((h && x) || u)))) (good_whole M vs g).1 in
      let (m₁, q₂) = neither (m && x) ((d && x) || ((v && x) || ((h && x) || u))) q₁ in
      let (d₁, q₃) = neither (d && x) ((v && x) || ((h && x) || u)) q₂ in
      let (v₁, q₄) = neither (v && x) ((h && x) || u) q₃ in
      let (h₁, q₅) = neither (h && x) u q₄ in (
        absent_slot (bytes "m") (fields_of M) vs (not_first m x m₁ there),
        absent_slot (bytes "d") (fields_of M) vs (not_first d x d₁ there),
        absent_slot (bytes "v") (fields_of M) vs (not_first v x v₁ there),
        absent_slot (bytes "h") (fields_of M) vs (not_first h x h₁ there),
      )

-- the attributes of five values of which the last excludes the others
abbrev five_text : List ℕ → List ℕ → List ℕ → List ℕ → List ℕ → List ℕ
five_text m d v h x = attribute (bytes "m") m ++ (attribute (bytes "d") d ++ (attribute (bytes "v") v ++ (attribute (bytes "h") h ++ (attribute (bytes "t") x ++ []))))

-- are those of the dose that they make
dose_spelled : (m d v h x : List ℕ) → ((c : ℕ) (y : List ℕ) → x ≡ c ∷ y → (m ≡ []) × (d ≡ []) × (v ≡ []) × (h ≡ [])) → dose_text (dose_from m d v h x) ≡ five_text m d v h x
dose_spelled [] [] [] [] [] q = refl
dose_spelled [] [] [] (a ∷ h) [] q = sym (append-nil (attribute (bytes "h") (a ∷ h)))
dose_spelled [] [] (a ∷ v) h [] q = ap (λ (z : List ℕ). attribute (bytes "v") (a ∷ v) ++ z) (sym (append-nil (attribute (bytes "h") h)))
dose_spelled [] (a ∷ d) v h [] q = ap (λ (z : List ℕ). attribute (bytes "d") (a ∷ d) ++ (attribute (bytes "v") v ++ z)) (sym (append-nil (attribute (bytes "h") h)))
dose_spelled (a ∷ m) d v h [] q = ap (λ (z : List ℕ). attribute (bytes "m") (a ∷ m) ++ (attribute (bytes "d") d ++ (attribute (bytes "v") v ++ z))) (sym (append-nil (attribute (bytes "h") h)))
dose_spelled m d v h (c ∷ y) q = let (a, b, e, f) = q c y refl in rw (a, b, e, f) (sym (append-nil (attribute (bytes "t") (c ∷ y))))

-- fields m, d, v, h and t with five values
five_fields : (m d v h x : List ℕ) → print_attrs (attrs_of (fields_from 37 5) (m ∷ d ∷ v ∷ h ∷ x ∷ [])) ≡ five_text m d v h x
unfolding fields_from fields_of
five_fields m d v h x = attrs_are (fields_from 37 5) (m ∷ d ∷ v ∷ h ∷ x ∷ [])

-- value j of a record
abbrev value_in : List ℕ → List ℕ → ℕ → List ℕ
value_in t l j = shown t (span_in l j)

-- paper's dose of a medication with 19 values goes by values 3 to 7
dose_values : (n : ℕ) (t l : List ℕ) → dose_of (row_with M n (shown_all t (spans_of l))) ≡ dose_from (value_in t l 3) (value_in t l 4) (value_in t l 5) (value_in t l 6) (value_in t l 7)
unfolding fields_of spans_in
dose_values n t l = refl

-- beside its free text a record has no times
times_apart : (t l v : List ℕ) → good_element M (v ∷ take 13 (shown_all t (spans_of l))) ≡ true → (c : ℕ) (y : List ℕ) → value_in t l 7 ≡ c ∷ y
    → (value_in t l 3 ≡ []) × (value_in t l 4 ≡ []) × (value_in t l 5 ≡ []) × (value_in t l 6 ≡ [])
unfolding fields_of spans_in
times_apart t l v g c y e = apart (v ∷ take 13 (shown_all t (spans_of l))) g c y e

-- values 3 to 7 of a record
five_values : (t l : List ℕ) → take 5 (drop 3 (shown_all t (spans_of l))) ≡ value_in t l 3 ∷ value_in t l 4 ∷ value_in t l 5 ∷ value_in t l 6 ∷ value_in t l 7 ∷ []
unfolding spans_in
five_values t l = refl

-- the fields of a sound record's dose are spelled as the dose that the code finds in it
dose_fields : (t rows : List ℕ) (i : ℕ) (v : List ℕ) → (show_row t (record_at rows i)).kind ≡ M → in_text t (record_at rows i) ≡ true → good_element M (v ∷ take 13 (shown_all t (spans_of (record_at rows i)))) ≡ true
    → fields_text 37 5 t (span_place i 3) rows ≡ dose_text (paper_dose t (dose_in (record_at rows i)))
unfolding fields_text
dose_fields t rows i v k w g =
    let l : List ℕ = record_at rows i in
    let found : paper_dose t (dose_in l) ≡ dose_from (value_in t l 3) (value_in t l 4) (value_in t l 5) (value_in t l 6) (value_in t l 7) =
    dose_is t l (sym (kind_shown_lem t l) ∙ k) w ∙ ap dose_of (row_with_lem t l M k) ∙ dose_values (get_or l 1 0) t l in
    ap (λ (vs : Slots). print_attrs (attrs_of (fields_from 37 5) vs)) (sym (part_of_row t rows i 5 3 (omega arith)) ∙ five_values t l)
    ∙ five_fields (value_in t l 3) (value_in t l 4) (value_in t l 5) (value_in t l 6) (value_in t l 7)
    ∙ sym (dose_spelled (value_in t l 3) (value_in t l 4) (value_in t l 5) (value_in t l 6) (value_in t l 7) (times_apart t l v g))
    ∙ ap dose_text (sym found)

-- the dose that the code finds in a record lies in the text
pub dose_inside : (t l : List ℕ) → in_text t l ≡ true → dose_within (length t) (dose_in l) ≡ true
unfolding in_text
dose_inside t l w = pick (eqb (span_in l 7).len 0) (absent (span_in l 3) && (absent (span_in l 4) && (absent (span_in l 5) && absent (span_in l 6))))
  where
    lies : (j : ℕ) → j < 19 → within (length t) (span_in l j) ≡ true
    lies j h = ap (λ (k : ℕ). within (length t) (span_in l k)) (sym (zero-add j)) ∙ each_span (within (length t)) 19 0 l w j h

    pick : (b c : Bool) → dose_within (length t) (if b (if c Unstated (Scheme (times_in l))) (Free (code_span_in l 7))) ≡ true
    pick true true = refl
    pick true false = rw (lies 3 (omega arith), lies 4 (omega arith), lies 5 (omega arith), lies 6 (omega arith))
    pick false c = lies 7 (omega arith)

-- the letters of the fields of a dose
pub dose_names : (keys : List ℕ) → keys ≡ key_column
    → (name_of (get_or keys 37 0) ≡ bytes "m") × (name_of (get_or keys 38 0) ≡ bytes "d") × (name_of (get_or keys 39 0) ≡ bytes "v") × (name_of (get_or keys 40 0) ≡ bytes "h") × (name_of (get_or keys 41 0) ≡ bytes "t")
unfolding field_at fields_of
dose_names keys e = (key_name keys 37 e (omega arith), key_name keys 38 e (omega arith), key_name keys 39 e (omega arith), key_name keys 40 e (omega arith), key_name keys 41 e (omega arith))

-- the times of a dose that lies in the text
pub times_inside : (n : ℕ) (x : Times) → dose_within n (Scheme x) ≡ true
    → (within n (paper_span x.morning) ≡ true) × (within n (paper_span x.midday) ≡ true) × (within n (paper_span x.evening) ≡ true) × (within n (paper_span x.night) ≡ true)
times_inside n x e =
    let (a, b) = both (within n (paper_span x.morning)) (within n (paper_span x.midday) && (within n (paper_span x.evening) && within n (paper_span x.night))) e in
    let (c, d) = both (within n (paper_span x.midday)) (within n (paper_span x.evening) && within n (paper_span x.night)) b in
    let (f, g) = both (within n (paper_span x.evening)) (within n (paper_span x.night)) d in
    (a, c, f, g)

-- ---- the W of a medication

-- a W without its w
abbrev no_w : Slots → Bool
no_w [] = true
no_w (v ∷ vs) = is_empty v

-- a W, nothing if it has no w; and W one behind the other
abbrev w_part : Slots → List ℕ
w_part w = if (no_w w) [] (bare W w [])

abbrev w_parts : List Slots → List ℕ
w_parts [] = []
w_parts (w ∷ ws) = w_part w ++ w_parts ws

-- a good W has its w
good_w : (w : Slots) → good_element W w ≡ true → no_w w ≡ false
unfolding fields_of
good_w [] g = no (sym (good_slots_lem W [] g))
good_w ([] ∷ vs) g = no (good_whole W ([] ∷ vs) g).0
good_w ((c ∷ v) ∷ vs) g = refl

-- a W without values has no w
empty_w : (w : Slots) → all_empty w ≡ true → no_w w ≡ true
empty_w [] e = refl
empty_w (v ∷ vs) e = (both (is_empty v) (all_empty vs) e).0

-- a W before good ones is either absent, and so are those behind it, or it is there
data Front (w : Slots) (r : List Slots) : Type 0 where
  gone : before w r ≡ [] → r ≡ [] → no_w w ≡ true → Front w r
  stays : before w r ≡ w ∷ r → no_w w ≡ false → every (good_element W) r ≡ true → Front w r

front : (w : Slots) (r : List Slots) → every (good_element W) (before w r) ≡ true → Front w r
front w [] g = at (all_empty w) refl g
  where
    at : (b : Bool) → all_empty w ≡ b → every (good_element W) (if b [] (w ∷ [])) ≡ true → Front w []
    at true e g = gone (rw e) refl (empty_w w e)
    at false e g = stays (rw e) (good_w w (both (good_element W w) true g).0) refl
front w (v ∷ r) g = let (a, b) = both (good_element W w) (every (good_element W) (v ∷ r)) g in stays refl (good_w w a) b

-- the W of a sound medication and its end tag
ws_spelled : (ws : List Slots) → every (good_element W) (to_last ws) ≡ true → ws_text (to_last ws) [] ≡ w_parts ws ++ bytes "</M>"
ws_spelled [] g = refl
ws_spelled (w ∷ ws) g = at (front w (to_last ws) g) (ws_spelled ws)
  where
    at : Front w (to_last ws) → (every (good_element W) (to_last ws) ≡ true → ws_text (to_last ws) [] ≡ w_parts ws ++ bytes "</M>") → ws_text (before w (to_last ws)) [] ≡ (w_part w ++ w_parts ws) ++ bytes "</M>"
    at (gone e r n) ih =
        let none : ws_text [] [] ≡ w_parts ws ++ bytes "</M>" = ap (λ (q : List Slots). ws_text q []) (sym r) ∙ ih (ap (every (good_element W)) r) in
        rw (e, n) none
    at (stays e n g') ih =
        rw (e, n)
        (bare_on W w (ws_text (to_last ws) []) ∙ ap (λ (z : List ℕ). bare W w [] ++ z) (ih g') ∙ sym (append_assoc (bare W w []) (w_parts ws) (bytes "</M>")))

-- a sound medication ends at once, or with its W
body_spelled : (w : Slots) (ws : List Slots) (vs : Slots) → every (good_element W) (to_last (w ∷ ws)) ≡ true
    → body_text (to_last (w ∷ ws)) M vs [] ≡ 60 ∷ 77 ∷ (spelled M vs ++ if (no_w w) (bytes "/>") (62 ∷ (w_parts (w ∷ ws) ++ bytes "</M>")))
body_spelled w ws vs g = at (front w (to_last ws) g) (ws_spelled (w ∷ ws) g)
  where
    at : Front w (to_last ws) → ws_text (before w (to_last ws)) [] ≡ w_parts (w ∷ ws) ++ bytes "</M>"
        → body_text (before w (to_last ws)) M vs [] ≡ 60 ∷ 77 ∷ (spelled M vs ++ if (no_w w) (bytes "/>") (62 ∷ (w_parts (w ∷ ws) ++ bytes "</M>")))
    at (gone e r n) q = rw (e, n)
    at (stays e n g') q =
        let p : ws_text (w ∷ to_last ws) [] ≡ w_parts (w ∷ ws) ++ bytes "</M>" = ap (λ (r : List Slots). ws_text r []) (sym e) ∙ q in
        ap (λ (r : List Slots). body_text r M vs []) e
        ∙ ap (λ (z : List ℕ). 60 ∷ 77 ∷ (spelled M vs ++ 62 ∷ z)) p
        ∙ ap (λ (b : Bool). 60 ∷ 77 ∷ (spelled M vs ++ if b (bytes "/>") (62 ∷ (w_parts (w ∷ ws) ++ bytes "</M>")))) (sym n)

-- six spans are three times two
pub three_parts : (t l : List ℕ) (k : ℕ) → every (within (length t)) (spans_at 6 k l) ≡ true
    → (every (within (length t)) (spans_at 2 k l) ≡ true) × ((every (within (length t)) (spans_at 2 (k + 4) l) ≡ true) × (every (within (length t)) (spans_at 2 (k + 8) l) ≡ true))
three_parts t l k e =
    let p : Span → Bool = within (length t) in
    let (a, b) = spans_parted p l 2 4 k e in
    let (c, d) = spans_parted p l 2 2 (k + 4) b in
    let q : k + 4 + 4 ≡ k + 8 = omega arith in
    (a, (c, rw q at d))

-- without a w there is no W, and a medication without its first W ends at once
module _ (t : List ℕ) (k : ℕ) (l : List ℕ) (z : get_or l (k + 1) 0 ≡ 0) where
  gone_at : absent (span_at l k) ≡ true
  gone_at = ap absent (sym (span_of_lem l k)) ∙ eq-eqb (get_or l (k + 1) 0) 0 z

  pub substance_none : substance_text t k l ≡ []
  unfolding substance_text
  substance_none = rw gone_at

  pub end_none : end_text t k l ≡ bytes "/>"
  unfolding end_text
  end_none = rw gone_at

-- with it the W has its tag, and the medication its W and its end tag
module _ (t : List ℕ) (k : ℕ) (l : List ℕ) (z : get_or l (k + 1) 0 ≡ 0 → ⊥) where
  there_at : absent (span_at l k) ≡ false
  there_at = ap absent (sym (span_of_lem l k)) ∙ ne_eqb (get_or l (k + 1) 0) 0 z

  pub substance_some : substance_text t k l ≡ tag_text (bytes "<W") 47 2 t k l (bytes "/>")
  unfolding substance_text
  substance_some = rw there_at

  pub end_some : end_text t k l ≡ 62 ∷ (substance_text t k l ++ (substance_text t (k + 4) l ++ (substance_text t (k + 8) l ++ bytes "</M>")))
  unfolding end_text
  end_some = rw there_at

-- the W of two spans
module _ (t l : List ℕ) (k : ℕ) (e : every (within (length t)) (spans_at 2 k l) ≡ true) where
  no_w_is : no_w (shown_all t (spans_at 2 k l)) ≡ absent (span_at l k)
  unfolding spans_at
  no_w_is = shows t (span_at l k) (both (within (length t) (span_at l k)) (every (within (length t)) (spans_at 1 (suc (suc k)) l)) e).0

  substance_is : w_part (shown_all t (spans_at 2 k l)) ≡ substance_text t k l
  unfolding substance_text tag_text fields_text
  substance_is =
      ap (λ (b : Bool). if b [] (bare W (shown_all t (spans_at 2 k l)) [])) no_w_is
      ∙ ap (λ (fs : List Field). if (absent (span_at l k)) [] (60 ∷ 87 ∷ (print_attrs (attrs_of fs (shown_all t (spans_at 2 k l))) ++ 47 ∷ 62 ∷ []))) row_fields.3

-- the end of a medication with these three W
end_is : (t l : List ℕ) (k : ℕ) (w₁ w₂ w₃ : Slots) → every (within (length t)) (spans_at 6 k l) ≡ true
    → w₁ ≡ shown_all t (spans_at 2 k l) → w₂ ≡ shown_all t (spans_at 2 (k + 4) l) → w₃ ≡ shown_all t (spans_at 2 (k + 8) l)
    → if (no_w w₁) (bytes "/>") (62 ∷ (w_parts (w₁ ∷ w₂ ∷ w₃ ∷ []) ++ bytes "</M>")) ≡ end_text t k l
unfolding end_text
end_is t l k w₁ w₂ w₃ e a b c =
    let (x, y) = three_parts t l k e in
    let p : List ℕ = substance_text t k l in
    let q : List ℕ = substance_text t (k + 4) l in
    let r : List ℕ = substance_text t (k + 8) l in
    let all : w_parts (w₁ ∷ w₂ ∷ w₃ ∷ []) ≡ p ++ (q ++ (r ++ [])) = rw (a, b, c, substance_is t l k x, substance_is t l (k + 4) y.0, substance_is t l (k + 8) y.1) in
    let n : no_w w₁ ≡ absent (span_at l k) = ap no_w a ∙ no_w_is t l k x in
    let m : List ℕ = bytes "</M>" in
    let flat : (p ++ (q ++ (r ++ []))) ++ m ≡ p ++ (q ++ (r ++ m)) =
    append_assoc p (q ++ (r ++ [])) m ∙ ap (λ (z : List ℕ). p ++ z) (append_assoc q (r ++ []) m ∙ ap (λ (z : List ℕ). q ++ (z ++ m)) (append-nil r)) in
    ap (λ (u : Bool). if u (bytes "/>") (62 ∷ (w_parts (w₁ ∷ w₂ ∷ w₃ ∷ []) ++ m))) n
    ∙ ap (λ (z : List ℕ). if (absent (span_at l k)) (bytes "/>") (62 ∷ z)) (ap (λ (z : List ℕ). z ++ m) all ∙ flat)

-- ---- a medication

-- a sound medication's W are good, and so are its fields
med_good : (n : ℕ) (vs : Slots) (ws : List Slots) → sound_row (row M n vs ws) ≡ true → (every (good_element W) ws ≡ true) × (good_element M (decimal n ∷ vs) ≡ true)
unfolding sound_row
med_good n vs ws e =
    let some : Bool = not (none_of ws && (is_empty (slot (bytes "p") (fields_of M) (decimal n ∷ vs)) && is_empty (slot (bytes "a") (fields_of M) (decimal n ∷ vs)))) in
    let (a, g) = both (leb (length ws) 3 && (every (good_element W) ws && some)) (good_element M (decimal n ∷ vs)) e in
    let (b, c) = both (leb (length ws) 3) (every (good_element W) ws && some) a in
    ((both (every (good_element W) ws) some c).0, g)

-- the package number stands before a medication's other fields
package_first : (v : List ℕ) (vs : Slots) → spelled M (v ∷ vs) ≡ attribute (bytes "p") v ++ print_attrs (attrs_of (fields_from 34 13) vs)
unfolding fields_of fields_from field_at
package_first v vs = attrs_step (field_at 33) (fields_from 34 13) v vs

-- the other fields' values are a record's first 13
rest_spelled : (t rows : List ℕ) (i : ℕ) → print_attrs (attrs_of (fields_from 34 13) (take 13 (shown_all t (spans_of (record_at rows i))))) ≡ fields_text 34 13 t (span_place i 0) rows
unfolding fields_text
rest_spelled t rows i = ap (λ (vs : Slots). print_attrs (attrs_of (fields_from 34 13) vs)) (part_of_row t rows i 13 0 (omega arith))

-- the other fields in three parts
med_fields : (t rows : List ℕ) (i : ℕ) → fields_text 34 13 t (span_place i 0) rows ≡ fields_text 34 3 t (span_place i 0) rows ++ (fields_text 37 5 t (span_place i 3) rows ++ fields_text 42 5 t (span_place i 8) rows)
med_fields t rows i =
    let a : span_place i 0 + 2 * 3 ≡ span_place i 3 = omega arith in
    let b : span_place i 3 + 2 * 5 ≡ span_place i 8 = omega arith in
    fields_parted t rows 3 10 34 (span_place i 0) (omega arith)
    ∙ ap (λ (z : List ℕ). fields_text 34 3 t (span_place i 0) rows ++ z) (ap (λ (k : ℕ). fields_text 37 10 t k rows) a ∙ fields_parted t rows 5 5 37 (span_place i 3) (omega arith) ∙ ap (λ (k : ℕ). fields_text 37 5 t (span_place i 3) rows ++ fields_text 42 5 t k rows) b)

-- what the code lays for a sound medication
pub medication_is : (t rows : List ℕ) (i : ℕ) → (show_row t (record_at rows i)).kind ≡ M → record_sound t (record_at rows i) ≡ true → row_text (show_row t (record_at rows i)) ≡ medication_text t rows i
unfolding row_text medication_text
medication_is t rows i k h =
    let l : List ℕ = record_at rows i in
    let vs : Slots = shown_all t (spans_of l) in
    let n : ℕ = get_or l 1 0 in
    let own : Slots = decimal n ∷ take 13 vs in
    let w₁ : Slots = take 2 (drop 13 vs) in
    let w₂ : Slots = take 2 (drop 2 (drop 13 vs)) in
    let w₃ : Slots = take 2 (drop 2 (drop 2 (drop 13 vs))) in
    let (inside, sound) = sound_parts t l h in
    let (good, fine) = med_good n (take 13 vs) (to_last (w₁ ∷ w₂ ∷ w₃ ∷ [])) (ap sound_row (sym (row_with_lem t l M k)) ∙ sound) in
    let p₂ : span_place i 15 ≡ span_place i 13 + 4 = omega arith in
    let p₃ : span_place i 17 ≡ span_place i 13 + 8 = omega arith in
    let b : w₂ ≡ shown_all t (spans_at 2 (span_place i 13 + 4) rows) = ap (take 2) (drop-drop 2 13 vs) ∙ part_of_row t rows i 2 15 (omega arith) ∙ ap (λ (k : ℕ). shown_all t (spans_at 2 k rows)) p₂ in
    let c : w₃ ≡ shown_all t (spans_at 2 (span_place i 13 + 8) rows) =
    ap (take 2) (ap (drop 2) (drop-drop 2 13 vs) ∙ drop-drop 2 15 vs) ∙ part_of_row t rows i 2 17 (omega arith) ∙ ap (λ (k : ℕ). shown_all t (spans_at 2 k rows)) p₃ in
    let P : List ℕ = attribute (bytes "p") (decimal n) in
    let F : List ℕ = fields_text 34 3 t (span_place i 0) rows in
    let D : List ℕ = dose_text (paper_dose t (dose_in l)) in
    let G : List ℕ = fields_text 42 5 t (span_place i 8) rows in
    let E : List ℕ = end_text t (span_place i 13) rows in
    let fields_are : spelled M own ≡ P ++ (F ++ (D ++ G)) =
    package_first (decimal n) (take 13 vs) ∙ ap (λ (z : List ℕ). P ++ z) (rest_spelled t rows i ∙ med_fields t rows i ∙ ap (λ (z : List ℕ). F ++ (z ++ G)) (dose_fields t rows i (decimal n) k inside fine)) in
    ap row_text (row_with_lem t l M k)
    ∙ body_spelled w₁ (w₂ ∷ w₃ ∷ []) own good
    ∙ ap (λ (z : List ℕ). 60 ∷ 77 ∷ (spelled M own ++ z)) (end_is t rows (span_place i 13) w₁ w₂ w₃ (spans_inside t rows i 6 13 (omega arith) inside) (part_of_row t rows i 2 13 (omega arith)) b c)
    ∙ ap (λ (z : List ℕ). 60 ∷ 77 ∷ (z ++ E)) fields_are
    ∙ ap (λ (z : List ℕ). 60 ∷ 77 ∷ z) (append_assoc P (F ++ (D ++ G)) E ∙ ap (λ (z : List ℕ). P ++ z) (append_assoc F (D ++ G) E ∙ ap (λ (z : List ℕ). F ++ z) (append_assoc D G E)))
