-- HeadLaws: the spans of a head among its numbers, and the head that they show.
-- Assumes nothing.
use mathlib.Core.Path.{◌≡◌, refl, sym, ap, ◌∙◌}
use mathlib.Core.Bool.{Bool, true, false, not, ◌&&◌, ◌||◌}
use mathlib.Core.List.{List, [], ◌∷◌, map}
use Prim.Native.Nat.{ℕ, zero, suc, ◌+◌, ◌*◌, ◌≤◌, ◌<◌}
use native.Mathlib.Omega.{arith}
use lib.Dec.{leb}
use lib.ListN.{length, take, drop, get_or}
use borrow.Author.Tests.{leb-true, lt-leb, le-leb}
use Rattle.paper.specs.Lists.{is_empty, every}
use Rattle.paper.specs.Fields.{MP, P, A, O, edition, Field, table, fields_of}
use Rattle.paper.specs.Plan.{Slots}
use Rattle.paper.specs.Judging.{missing}
use Rattle.paper.specs.Layout.{Span, shown, shown_all}
use Rattle.paper.specs.Writing.{decimal, good_slot, good_slots, good_element, sound_head}
use Rattle.paper.proofs.Small.{both, below_at}
use Rattle.fields.specs.Places.{field_at}
use Rattle.plan.specs.Numbers.{span_in, spans_in, paper_span, flat, absent, within, head_with, head_in_text, show_head}
use Rattle.plan.specs.declared.Plan.{Plan}
use Rattle.plan.proofs.Spans.{flat_long, part_shown}
use Rattle.plan.proofs.Doses.{shows}
use Rattle.sound.specs.Sound.{head_sound}
use Rattle.sound.specs.Judged.{fine_from, fine_element, fine_head}
use Rattle.sound.proofs.ElementLaws.{and_no, fields_are, every_parts}

-- ---- the spans are found again among their numbers

shift : (n j x y : ℕ) (l : List ℕ) → spans_in n (suc j) (0 ∷ 0 ∷ x ∷ y ∷ l) ≡ spans_in n j (0 ∷ 0 ∷ l)
unfolding spans_in
shift zero j x y l = refl
shift (suc n) j x y l =
    let a : 2 + 2 * suc j ≡ suc (suc (suc (suc (2 * j)))) = omega arith in
    let b : 3 + 2 * suc j ≡ suc (suc (suc (suc (suc (2 * j))))) = omega arith in
    let c : 2 + 2 * j ≡ suc (suc (2 * j)) = omega arith in
    let d : 3 + 2 * j ≡ suc (suc (suc (2 * j))) = omega arith in
    rw (a, b, c, d, shift n (suc j) x y l)

-- all of them
spans_back : (ss : List Span) → spans_in (length ss) 0 (0 ∷ 0 ∷ flat ss) ≡ ss
unfolding spans_in
spans_back [] = refl
spans_back (s ∷ ss) = ap (λ (r : List Span). s ∷ r) (shift (length ss) 0 s.at s.len (flat ss) ∙ spans_back ss)

-- ---- MP

-- a patch keeps its field
patch_good : (n : ℕ) → n < 100 → good_slot (field_at 1) (decimal n) ≡ true
unfolding field_at fields_of
patch_good n h = below_at 100 (λ (k : ℕ). good_slot (field_at 1) (decimal k)) refl n h

-- MP is good by U and l: the edition, the patch, a and z are
mp_is : (d u l : List ℕ) → good_slot (field_at 1) d ≡ true
    → good_element MP (edition ∷ d ∷ u ∷ l ∷ (49 ∷ []) ∷ (49 ∷ []) ∷ [])
    ≡ (good_slots (take 2 (drop 2 table)) (u ∷ l ∷ []) && not (missing (take 2 (drop 2 table)) (u ∷ l ∷ [])))
unfolding good_element fields_of field_at
mp_is d u l e = rw e (go (good_slot (field_at 2) u) (good_slot (field_at 3) l) (is_empty u))
  where
    go : (a b m : Bool) → ((a && (b && true)) && (not (m || false) && true)) ≡ ((a && (b && true)) && not (m || false))
    go true true true = refl
    go true true false = refl
    go true false m = refl
    go false b m = refl

-- ---- the head

-- the tests of the four elements: first that they lie within the text, or element by element
arranged : (pt nl m gp ga go a b c d : Bool)
    → ((a && (b && (c && d))) && (pt && (nl && (m && (gp && (ga && go)))))) ≡ (pt && (nl && ((a && m) && ((b && gp) && ((c && ga) && (d && go))))))
arranged pt nl m gp ga go true true true true = refl
arranged pt nl m gp ga go true true true false = sym (rw (and_no ga, and_no gp, and_no m, and_no nl, and_no pt))
arranged pt nl m gp ga go true true false d = sym (rw (and_no gp, and_no m, and_no nl, and_no pt))
arranged pt nl m gp ga go true false c d = sym (rw (and_no m, and_no nl, and_no pt))
arranged pt nl m gp ga go false b c d = sym (rw (and_no nl, and_no pt))

-- a test may be told in other words where those beside it hold
retold : (pt nl nl' m m' a z : Bool) → (pt ≡ true → m ≡ m') → (a ≡ true → nl ≡ nl') → (pt && (nl && ((a && m) && z))) ≡ (pt && (nl' && ((a && m') && z)))
retold true nl nl' m m' true z e f = rw (e refl, f refl)
retold true nl nl' m m' false z e f = rw (and_no nl, and_no nl')
retold false nl nl' m m' a z e f = refl

-- U and l
two_shown : (t l : List ℕ) → shown_all t (spans_in 2 0 l) ≡ shown t (span_in l 0) ∷ shown t (span_in l 1) ∷ []
unfolding spans_in
two_shown t l = refl

first_shown : (t l : List ℕ) → (get_or (shown_all t (spans_in 27 0 l)) 0 [] ≡ shown t (span_in l 0)) × (get_or (shown_all t (spans_in 27 0 l)) 1 [] ≡ shown t (span_in l 1))
unfolding spans_in
first_shown t l = (refl, refl)

second_within : (p : Span → Bool) (l : List ℕ) → every p (spans_in 2 0 l) ≡ true → p (span_in l 1) ≡ true
unfolding spans_in
second_within p l e = (both (p (span_in l 1)) true (both (p (span_in l 0)) (p (span_in l 1) && true) e).1).0

-- the head that 27 spans show
head_at : (t l : List ℕ) (n : ℕ) → (every (within (length t)) (spans_in 27 0 l) && sound_head (head_with n (shown_all t (spans_in 27 0 l)))) ≡ (leb n 99 && fine_head t l)
unfolding sound_head fine_head fine_element
head_at t l n =
    let w : Span → Bool = within (length t) in
    let u : List ℕ = shown t (span_in l 0) in
    let v : List ℕ = shown t (span_in l 1) in
    let fs : List Field = take 2 (drop 2 table) in
    let m : Bool = good_element MP (edition ∷ decimal n ∷ u ∷ v ∷ (49 ∷ []) ∷ (49 ∷ []) ∷ []) in
    let m' : Bool = good_slots fs (u ∷ v ∷ []) && not (missing fs (u ∷ v ∷ [])) in
    let gp : Bool = good_element P (shown_all t (spans_in 8 2 l)) in
    let ga : Bool = good_element A (shown_all t (spans_in 10 10 l)) in
    let go : Bool = good_element O (shown_all t (spans_in 7 20 l)) in
    let a : Bool = every w (spans_in 2 0 l) in
    let b : Bool = every w (spans_in 8 2 l) in
    let c : Bool = every w (spans_in 10 10 l) in
    let d : Bool = every w (spans_in 7 20 l) in
    let parts : every w (spans_in 27 0 l) ≡ (a && (b && (c && d))) =
    every_parts l w 2 25 0 ∙ ap (λ (x : Bool). a && x) (every_parts l w 8 17 2 ∙ ap (λ (x : Bool). b && x) (every_parts l w 10 7 10)) in
    let own : fine_from t 2 2 0 l ≡ (a && m') =
    fields_are t l 2 2 0 (omega arith) ∙ ap (λ (vs : Slots). a && (good_slots fs vs && not (missing fs vs))) (two_shown t l) in
    rw (parts, own, (first_shown t l).0, (first_shown t l).1, part_shown l t 27 2 8 0 (omega arith), part_shown l t 27 10 10 0 (omega arith), part_shown l t 27 20 7 0 (omega arith))
    (arranged (leb n 99) (not (is_empty v)) m gp ga go a b c d
    ∙ retold (leb n 99) (not (is_empty v)) (not (absent (span_in l 1))) m m' a ((b && gp) && ((c && ga) && (d && go)))
    (λ z. mp_is (decimal n) u v (let k = leb-true n 99 z in patch_good n (omega arith)))
    (λ z. ap not (shows t (span_in l 1) (second_within w l z))))

-- a head is sound by its patch and its numbers
pub head_is : (t : List ℕ) (p : Plan) (l : List ℕ) → length l ≡ 56 → l ≡ 0 ∷ 0 ∷ flat (map paper_span p.head) → head_sound t p ≡ (leb p.patch 99 && fine_head t l)
unfolding head_sound head_in_text show_head
head_is t p l h e =
    let ss : List Span = map paper_span p.head in
    let long : length ss ≡ 27 = omega (arith, h, ap length e, flat_long ss) in
    let back : ss ≡ spans_in 27 0 l = sym (spans_back ss) ∙ ap (λ (n : ℕ). spans_in n 0 (0 ∷ 0 ∷ flat ss)) long ∙ ap (spans_in 27 0) (sym e) in
    ap (λ (r : List Span). every (within (length t)) r && sound_head (head_with p.patch (shown_all t r))) back ∙ head_at t l p.patch

-- a patch above 99
pub patch_over : (t : List ℕ) (p : Plan) → 99 < p.patch → false ≡ head_sound t p
unfolding head_sound sound_head show_head
patch_over t p g = sym (rw (lt-leb p.patch 99 g) (and_no (head_in_text t p)))

-- one of at most 99
pub patch_within : (t : List ℕ) (p : Plan) (l : List ℕ) → length l ≡ 56 → p.patch ≤ 99 → l ≡ 0 ∷ 0 ∷ flat (map paper_span p.head) → fine_head t l ≡ head_sound t p
patch_within t p l h g e = sym (head_is t p l h e ∙ rw (le-leb p.patch 99 g))
