-- Paged: a page is its head, its rows one behind the other, and its end; and the head is the tags of its elements.
-- Assumes nothing.
use mathlib.Core.Path.{◌≡◌, refl, sym, ap, ◌∙◌}
use mathlib.Core.Bool.{Bool, true, false}
use mathlib.Core.List.{List, [], ◌∷◌, ◌++◌, map, append-nil, append_assoc}
use Prim.Native.Nat.{ℕ, ◌+◌, ◌*◌, ◌≤◌}
use native.Mathlib.Omega.{arith}
use lib.ListN.{length, take, drop, get_or}
use Rattle.paper.specs.Lists.{bytes, if, every}
use Rattle.paper.specs.Fields.{Kind, MP, P, A, O, S, edition, Field, fields_of}
use Rattle.paper.specs.Plan.{Slots, Head, Row}
use Rattle.paper.specs.Judging.{all_empty}
use Rattle.paper.specs.Layout.{Span, shown_all}
use Rattle.paper.specs.Writing.{mp_slots, row_slots, decimal, sound_head, print_attrs, attrs_of, spelled, bare, opening, closing, body_text, heading, rows_text, measures_text, page}
use Rattle.paper.proofs.Small.{both}
use Rattle.plan.specs.Numbers.{spans_in, paper_span, head_numbers, head_with, show_head, absent, within, head_in_text}
use Rattle.plan.specs.declared.Plan as Code
use Rattle.plan.proofs.Spans.{flat_long}
use Rattle.plan.proofs.Doses.{all_empty_lem}
use Rattle.sound.specs.Sound.{head_sound}
use Rattle.sound.specs.Judged.{absent_from}
use Rattle.room.specs.Numbered.{spans_at}
use Rattle.fields.specs.Places.{fields_from}
use Rattle.fields.proofs.Parts.{head_fields}
use Rattle.plan.proofs.Numbered.{part_shown, part_every, two_first}
use Rattle.writer.specs.Spelling.{row_text, people_text, head_text}
use Rattle.writer.specs.Tags.{attribute, fields_text, tag_text, start_text, measures_part, gap_text, placed_text}
use Rattle.writer.proofs.Spelled.{esc_digit, attrs_are}
use Rattle.writer.proofs.Bodied.{bare_on, opening_on, closing_on, body_on}

-- ---- the page

pub measures_on : (vs : Slots) (x : List ℕ) → measures_text vs x ≡ measures_text vs [] ++ x
measures_on vs x = at (all_empty vs)
  where
    at : (b : Bool) → if b x (bare O vs x) ≡ if b [] (bare O vs []) ++ x
    at true = refl
    at false = bare_on O vs x

-- a row on a page, behind what stands before it, comes before the other rows
pub placed_first : (b : Bool) (r : Row) (rs : List Row) (x : List ℕ) → rows_text b (r ∷ rs) x ≡ placed_text b r ++ rows_text true rs x
unfolding placed_text row_text fields_of
placed_first true r rs x = at (heading r)
  where
    at : (c : Bool) → if c (closing S (opening S r.slots (rows_text true rs x))) (body_text r.ws r.kind (row_slots r) (rows_text true rs x))
        ≡ (gap_text true c ++ if c (opening S r.slots []) (body_text r.ws r.kind (row_slots r) [])) ++ rows_text true rs x
    at true = ap (λ (z : List ℕ). closing S z) (opening_on S r.slots (rows_text true rs x))
    at false = body_on r.ws r.kind (row_slots r) (rows_text true rs x)
placed_first false r rs x = at (heading r)
  where
    at : (c : Bool) → if c (opening S r.slots (rows_text true rs x)) (opening S ([] ∷ [] ∷ []) (body_text r.ws r.kind (row_slots r) (rows_text true rs x)))
        ≡ (gap_text false c ++ if c (opening S r.slots []) (body_text r.ws r.kind (row_slots r) [])) ++ rows_text true rs x
    at true = opening_on S r.slots (rows_text true rs x)
    at false = ap (λ (z : List ℕ). opening S ([] ∷ [] ∷ []) z) (body_on r.ws r.kind (row_slots r) (rows_text true rs x))

pub rows_on : (b : Bool) (rs : List Row) (x : List ℕ) → rows_text b rs x ≡ rows_text b rs [] ++ x
rows_on true [] x = closing_on S x
rows_on false [] x = refl
rows_on b (r ∷ rs) x =
    placed_first b r rs x
    ∙ ap (λ (z : List ℕ). placed_text b r ++ z) (rows_on true rs x)
    ∙ sym (append_assoc (placed_text b r) (rows_text true rs []) x)
    ∙ ap (λ (z : List ℕ). z ++ x) (sym (placed_first b r rs []))

-- P, A and O one behind the other
people_flat : (h : Head) → people_text h ≡ bare P h.person [] ++ (bare A h.author [] ++ measures_text h.measures [])
people_flat h =
    let m : List ℕ = measures_text h.measures [] in
    bare_on P h.person (bare A h.author m) ∙ ap (λ (y : List ℕ). bare P h.person [] ++ y) (bare_on A h.author m)

-- the head is the tags of its elements, one behind the other
pub head_flat : (h : Head) (a z : ℕ)
    → head_text h a z ≡ opening MP (mp_slots h a z) [] ++ (bare P h.person [] ++ (bare A h.author [] ++ measures_text h.measures []))
unfolding head_text
head_flat h a z = opening_on MP (mp_slots h a z) (people_text h) ∙ ap (λ (y : List ℕ). opening MP (mp_slots h a z) [] ++ y) (people_flat h)

-- a page is its head, its rows and its end
pub page_front : (h : Head) (rs : List Row) (a z : ℕ) → page h rs a z ≡ head_text h a z ++ rows_text false rs (closing MP [])
unfolding page
page_front h rs a z =
    let x : List ℕ = rows_text false rs (closing MP []) in
    let o : List ℕ = opening MP (mp_slots h a z) [] in
    let p : List ℕ = bare P h.person [] in
    let q : List ℕ = bare A h.author [] in
    let m : List ℕ = measures_text h.measures [] in
    opening_on MP (mp_slots h a z) (bare P h.person (bare A h.author (measures_text h.measures x)))
    ∙ ap (λ (y : List ℕ). o ++ y) (bare_on P h.person (bare A h.author (measures_text h.measures x))
    ∙ ap (λ (y : List ℕ). p ++ y) (bare_on A h.author (measures_text h.measures x) ∙ ap (λ (y : List ℕ). q ++ y) (measures_on h.measures x)))
    ∙ sym (append_assoc o (p ++ (q ++ m)) x ∙ ap (λ (y : List ℕ). o ++ y) (append_assoc p (q ++ m) x ∙ ap (λ (y : List ℕ). p ++ y) (append_assoc q m x)))
    ∙ ap (λ (y : List ℕ). y ++ x) (sym (head_flat h a z))

-- ---- the head from its numbers

-- the pieces of MP's start tag, put together anew
mp_flat : (v p u l a z e : List ℕ) → (v ++ (p ++ (u ++ (l ++ (a ++ (z ++ [])))))) ++ e ≡ v ++ (p ++ ((u ++ (l ++ [])) ++ (a ++ (z ++ e))))
mp_flat v p u l a z e = simp (append_assoc, append-nil)

-- a page number of one digit
digit_attribute : (n : List ℕ) (d : ℕ) → d ≤ 9 → attribute n ((48 + d) ∷ []) ≡ 32 ∷ (n ++ (61 ∷ 34 ∷ (48 + d) ∷ 34 ∷ []))
digit_attribute n d h = ap (λ (r : List ℕ). 32 ∷ (n ++ (61 ∷ (34 ∷ ((r ++ []) ++ 34 ∷ []))))) (esc_digit (48 + d) (omega arith) (omega arith))

-- MP's start tag from its values
mp_spelled : (p u l : List ℕ) (a z : ℕ) → a ≤ 9 → z ≤ 9
    → opening MP (edition ∷ p ∷ u ∷ l ∷ ((48 + a) ∷ []) ∷ ((48 + z) ∷ []) ∷ []) []
    ≡ bytes "<MP v=\"027\"" ++ (attribute (bytes "p") p ++ (print_attrs (attrs_of (fields_from 2 2) (u ∷ l ∷ [])) ++ (32 ∷ 97 ∷ 61 ∷ 34 ∷ (48 + a) ∷ 34 ∷ 32 ∷ 122 ∷ 61 ∷ 34 ∷ (48 + z) ∷ 34 ∷ 62 ∷ [])))
unfolding fields_of fields_from
mp_spelled p u l a z h k =
    let v : List ℕ = attribute (bytes "v") edition in
    let U : List ℕ = attribute (bytes "U") u in
    let L : List ℕ = attribute (bytes "l") l in
    let A : List ℕ = attribute (bytes "a") ((48 + a) ∷ []) in
    let Z : List ℕ = attribute (bytes "z") ((48 + z) ∷ []) in
    let Y : List ℕ = attribute (bytes "p") p in
    let ends : A ++ (Z ++ 62 ∷ []) ≡ 32 ∷ 97 ∷ 61 ∷ 34 ∷ (48 + a) ∷ 34 ∷ 32 ∷ 122 ∷ 61 ∷ 34 ∷ (48 + z) ∷ 34 ∷ 62 ∷ [] =
    ap (λ (y : List ℕ). y ++ (Z ++ 62 ∷ [])) (digit_attribute (bytes "a") a h) ∙ ap (λ (y : List ℕ). 32 ∷ 97 ∷ 61 ∷ 34 ∷ (48 + a) ∷ 34 ∷ (y ++ 62 ∷ [])) (digit_attribute (bytes "z") z k) in
    ap (λ (s : List ℕ). 60 ∷ 77 ∷ 80 ∷ (s ++ 62 ∷ [])) (attrs_are (fields_of MP) (edition ∷ p ∷ u ∷ l ∷ ((48 + a) ∷ []) ∷ ((48 + z) ∷ []) ∷ []))
    ∙ ap (λ (s : List ℕ). 60 ∷ 77 ∷ 80 ∷ s) (mp_flat v Y U L A Z (62 ∷ []))
    ∙ ap (λ (s : List ℕ). 60 ∷ 77 ∷ 80 ∷ (v ++ (Y ++ (s ++ (A ++ (Z ++ 62 ∷ [])))))) (sym (attrs_are (fields_from 2 2) (u ∷ l ∷ [])))
    ∙ ap (λ (s : List ℕ). 60 ∷ 77 ∷ 80 ∷ (v ++ (Y ++ (print_attrs (attrs_of (fields_from 2 2) (u ∷ l ∷ [])) ++ s)))) ends

-- the attributes of an element whose values are n of the head's, from value j on
part_spelled : (t : List ℕ) (ss : List Span) (k : Kind) (first n j : ℕ) → fields_of k ≡ fields_from first n → j + n ≤ length ss
    → spelled k (take n (drop j (shown_all t ss))) ≡ fields_text first n t (2 + 2 * j) (head_numbers ss)
unfolding fields_text
part_spelled t ss k first n j f h =
    ap (λ (fs : List Field). print_attrs (attrs_of fs (take n (drop j (shown_all t ss))))) f
    ∙ ap (λ (vs : Slots). print_attrs (attrs_of (fields_from first n) vs)) (part_shown t ss j n h)

-- the head's elements by its numbers
module _ (patch a z : ℕ) (t : List ℕ) (ss : List Span) (long : length ss ≡ 27) (small : a ≤ 9) (few : z ≤ 9) where
  start_is : opening MP (mp_slots (head_with patch (shown_all t ss)) a z) [] ≡ start_text patch a z t (head_numbers ss)
  unfolding start_text fields_text
  start_is =
      let vs : Slots = shown_all t ss in
      let two : get_or vs 0 [] ∷ get_or vs 1 [] ∷ [] ≡ shown_all t (spans_at 2 2 (head_numbers ss)) = two_first t ss (omega arith) ∙ part_shown t ss 0 2 (omega arith) in
      mp_spelled (decimal patch) (get_or vs 0 []) (get_or vs 1 []) a z small few
      ∙ ap (λ (q : Slots). bytes "<MP v=\"027\"" ++ (attribute (bytes "p") (decimal patch) ++ (print_attrs (attrs_of (fields_from 2 2) q) ++ (32 ∷ 97 ∷ 61 ∷ 34 ∷ (48 + a) ∷ 34 ∷ 32 ∷ 122 ∷ 61 ∷ 34 ∷ (48 + z) ∷ 34 ∷ 62 ∷ [])))) two

  pub front_pieces : head_text (head_with patch (shown_all t ss)) a z ≡ start_text patch a z t (head_numbers ss) ++ people_text (head_with patch (shown_all t ss))
  unfolding head_text
  front_pieces =
      let h : Head = head_with patch (shown_all t ss) in
      opening_on MP (mp_slots h a z) (people_text h) ∙ ap (λ (y : List ℕ). y ++ people_text h) start_is

module _ (patch : ℕ) (t : List ℕ) (ss : List Span) (long : length ss ≡ 27) where
  measures_is : every (within (length t)) ss ≡ true → measures_text (take 7 (drop 20 (shown_all t ss))) [] ≡ measures_part t 42 (head_numbers ss)
  unfolding measures_part tag_text
  measures_is w =
      let vs : Slots = take 7 (drop 20 (shown_all t ss)) in
      let none : all_empty vs ≡ every absent (spans_at 7 42 (head_numbers ss)) =
      ap all_empty (part_shown t ss 20 7 (omega arith)) ∙ all_empty_lem t (spans_at 7 42 (head_numbers ss)) (part_every (within (length t)) ss 20 7 (omega arith) w) in
      ap (λ (b : Bool). if b [] (bare O vs [])) none
      ∙ ap (λ (s : List ℕ). if (every absent (spans_at 7 42 (head_numbers ss))) [] (60 ∷ 79 ∷ (s ++ 47 ∷ 62 ∷ []))) (part_spelled t ss O 24 7 20 head_fields.2 (omega arith))

  pub people_pieces : every (within (length t)) ss ≡ true
      → people_text (head_with patch (shown_all t ss))
      ≡ tag_text (bytes "<P") 6 8 t 6 (head_numbers ss) (bytes "/>") ++ (tag_text (bytes "<A") 14 10 t 22 (head_numbers ss) (bytes "/>") ++ measures_part t 42 (head_numbers ss))
  unfolding tag_text
  people_pieces w =
      let h : Head = head_with patch (shown_all t ss) in
      let p : List ℕ = tag_text (bytes "<P") 6 8 t 6 (head_numbers ss) (bytes "/>") in
      let q : List ℕ = tag_text (bytes "<A") 14 10 t 22 (head_numbers ss) (bytes "/>") in
      let p_is : bare P h.person [] ≡ p = ap (λ (s : List ℕ). 60 ∷ 80 ∷ (s ++ 47 ∷ 62 ∷ [])) (part_spelled t ss P 6 8 2 head_fields.0 (omega arith)) in
      let q_is : bare A h.author [] ≡ q = ap (λ (s : List ℕ). 60 ∷ 65 ∷ (s ++ 47 ∷ 62 ∷ [])) (part_spelled t ss A 14 10 10 head_fields.1 (omega arith)) in
      people_flat h
      ∙ ap (λ (y : List ℕ). y ++ (bare A h.author [] ++ measures_text h.measures [])) p_is
      ∙ ap (λ (y : List ℕ). p ++ (y ++ measures_text h.measures [])) q_is
      ∙ ap (λ (y : List ℕ). p ++ (q ++ y)) (measures_is w)

-- spans are half as many as their numbers
pub spans_counted : (ss : List Span) (l : List ℕ) → l ≡ head_numbers ss → length l ≡ 56 → length ss ≡ 27
spans_counted ss l e h = omega (arith, flat_long ss, ap length e)

-- the head of a plan in numbers before P, by the numbers of its spans
pub front_by : (t : List ℕ) (p : Code.Plan) (a z : ℕ) (l : List ℕ) → length (map paper_span p.head) ≡ 27 → a ≤ 9 → z ≤ 9 → l ≡ head_numbers (map paper_span p.head)
    → head_text (show_head t p) a z ≡ start_text p.patch a z t l ++ people_text (show_head t p)
unfolding show_head
front_by t p a z l long h k e = rw e (front_pieces p.patch a z t (map paper_span p.head) long h k)

-- P, A and O by the numbers of their spans
pub people_by : (t : List ℕ) (p : Code.Plan) (l : List ℕ) → length (map paper_span p.head) ≡ 27 → l ≡ head_numbers (map paper_span p.head) → head_sound t p ≡ true
    → people_text (show_head t p) ≡ tag_text (bytes "<P") 6 8 t 6 l (bytes "/>") ++ (tag_text (bytes "<A") 14 10 t 22 l (bytes "/>") ++ measures_part t 42 l)
unfolding show_head head_sound head_in_text
people_by t p l long e s =
    rw e (people_pieces p.patch t (map paper_span p.head) long (both (every (within (length t)) (map paper_span p.head)) (sound_head (show_head t p)) s).0)

-- its spans lie in the text
pub head_inside : (t : List ℕ) (p : Code.Plan) (l : List ℕ) → length (map paper_span p.head) ≡ 27 → l ≡ head_numbers (map paper_span p.head) → head_sound t p ≡ true
    → (j n : ℕ) → j + n ≤ 27 → every (within (length t)) (spans_at n (2 + 2 * j) l) ≡ true
unfolding head_sound head_in_text
head_inside t p l long e s j n h =
    rw e (part_every (within (length t)) (map paper_span p.head) j n (omega arith) (both (every (within (length t)) (map paper_span p.head)) (sound_head (show_head t p)) s).0)

-- O without a field is not there, and with one it is
pub measures_by : (t l : List ℕ) {b : Bool} → absent_from 7 20 l ≡ b → measures_part t 42 l ≡ if b [] (tag_text (bytes "<O") 24 7 t 42 l (bytes "/>"))
unfolding measures_part absent_from spans_in spans_at
measures_by t l e = ap (λ (b : Bool). if b [] (tag_text (bytes "<O") 24 7 t 42 l (bytes "/>"))) e
