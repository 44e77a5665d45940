-- `page::content::lay_head` meets its contract: U and l, P, A and O are laid one behind the other.
-- Assumes nothing.
use mathlib.Core.Path.{◌≡◌, refl, sym, ap, ◌∙◌}
use mathlib.Core.List.{List, [], ◌∷◌, ◌++◌}
use Prim.Native.Nat.{ℕ}
use native.Mathlib.Omega.{arith}
use lib.ListN.{length}
use Rattle.paper.specs.Plan.{Head}
use Rattle.paper.specs.Fields.{fields_of}
use Rattle.markup.specs.Walk.{tags_at}
use Rattle.fields.specs.Places.{kind_at, field_at}
use Rattle.sheet.specs.Content.{head_from}
use Rattle.page.specs.Laying.{Room}
use Rattle.page.proofs.ContentLaws.{room_first, room_behind, relay, reroom, behind, placed_at}
use Rattle.page.proofs.HeadLaws.{head_full, head_laid, head_spans_lem, patch_is, lang_is, p_room, a_room, o_room}
use Rattle.tape.specs.Tape.{values_at}
use Rattle.page.proofs.WalkLaws.{mp_within, ident_values, ident_lie, part_values, part_lie, part_within}
use Rattle.page.proofs.content.lay_head.Statement.{statement}
use Rattle.page.proofs.content.lay_head.Tie as tie
use borrow.Author.Rules.{rules}

-- the head that is laid
abbrev head : tie.Start → Head
head S = head_from (tags_at S.args.page.now 0)

-- its values
lang-eq : (c : tie.After-language-l) → c.language-l.result.now ∷ [] ≡ (head c.before.before.before.before.before.before.before.before).lang ∷ []
lang-eq c = ap (λ (v : List ℕ). v ∷ []) c.language-l.ensures ∙ sym (lang_is (tags_at c.before.before.before.before.before.before.before.before.args.page.now 0))

person-eq : (c : tie.After-count_of) → values_at c.before.before.before.before.before.before.before.before.before.before.before.before.before.before.before.before.before.before.before.before.before.before.args.page.now c.before.before.before.before.before.before.before.before.before.before.before.before.before.before.before.before.before.before.before.before.before.before.args.side.now c.count_of.result c.before.before.before.before.before.before.before.before.before.before.before.before.before.before.before.before.before.before.before.before.before.before.args.tape.now c.before.before.before.before.before.before.before.before.before.before.before.before.before.before.before.before.before.before.before.before.before.before.args.h.person ≡ (head c.before.before.before.before.before.before.before.before.before.before.before.before.before.before.before.before.before.before.before.before.before.before).person
unfolding head_from kind_at
person-eq c = part_values c.before.before.before.before.before.before.before.before.before.before.before.before.before.before.before.before.before.before.before.before.before.before.requires.0.person_at c.count_of.result c.count_of.ensures.0

author-eq : (c : tie.After-count_of-2) → values_at c.before.before.before.before.before.before.before.before.before.before.before.before.before.before.before.before.before.before.before.before.before.before.before.before.before.before.before.before.before.args.page.now c.before.before.before.before.before.before.before.before.before.before.before.before.before.before.before.before.before.before.before.before.before.before.before.before.before.before.before.before.before.args.side.now c.count_of-2.result c.before.before.before.before.before.before.before.before.before.before.before.before.before.before.before.before.before.before.before.before.before.before.before.before.before.before.before.before.before.args.tape.now c.before.before.before.before.before.before.before.before.before.before.before.before.before.before.before.before.before.before.before.before.before.before.before.before.before.before.before.before.before.args.h.author ≡ (head c.before.before.before.before.before.before.before.before.before.before.before.before.before.before.before.before.before.before.before.before.before.before.before.before.before.before.before.before.before).author
unfolding head_from kind_at
author-eq c = part_values c.before.before.before.before.before.before.before.before.before.before.before.before.before.before.before.before.before.before.before.before.before.before.before.before.before.before.before.before.before.requires.0.author_at c.count_of-2.result c.count_of-2.ensures.0

measures-eq : (c : tie.After-count_of-3) → values_at c.before.before.before.before.before.before.before.before.before.before.before.before.before.before.before.before.before.before.before.before.before.before.before.before.before.before.before.before.before.before.before.before.before.before.before.before.args.page.now c.before.before.before.before.before.before.before.before.before.before.before.before.before.before.before.before.before.before.before.before.before.before.before.before.before.before.before.before.before.before.before.before.before.before.before.before.args.side.now c.count_of-3.result c.before.before.before.before.before.before.before.before.before.before.before.before.before.before.before.before.before.before.before.before.before.before.before.before.before.before.before.before.before.before.before.before.before.before.before.before.args.tape.now c.before.before.before.before.before.before.before.before.before.before.before.before.before.before.before.before.before.before.before.before.before.before.before.before.before.before.before.before.before.before.before.before.before.before.before.before.args.h.measures ≡ (head c.before.before.before.before.before.before.before.before.before.before.before.before.before.before.before.before.before.before.before.before.before.before.before.before.before.before.before.before.before.before.before.before.before.before.before.before).measures
unfolding head_from kind_at
measures-eq c = part_values c.before.before.before.before.before.before.before.before.before.before.before.before.before.before.before.before.before.before.before.before.before.before.before.before.before.before.before.before.before.before.before.before.before.before.before.before.requires.0.measures_at c.count_of-3.result c.count_of-3.ensures.0

-- the rooms behind U, l, P and A
room₀ : (c : tie.After-lay_slots-u) → Room ((head c.before.before.before.before.before.before.before.before.before.before.before.before).lang ∷ ((head c.before.before.before.before.before.before.before.before.before.before.before.before).person ++ ((head c.before.before.before.before.before.before.before.before.before.before.before.before).author ++ (head c.before.before.before.before.before.before.before.before.before.before.before.before).measures))) c.lay_slots-u.new.text c.lay_slots-u.result
room₀ c = room_behind ((head c.before.before.before.before.before.before.before.before.before.before.before.before).ident ∷ []) _ c.before.before.before.before.before.before.before.before.before.before.before.before.requires.2 (relay (ident_values c.before.before.before.before.before.before.before.before.before.before.before.before.requires.0.mp_at) c.lay_slots-u.ensures)

room₁ : (c : tie.After-lay_one-m) → Room ((head c.before.before.before.before.before.before.before.before.before.before.before.before.before.before.before.before.before.before).person ++ ((head c.before.before.before.before.before.before.before.before.before.before.before.before.before.before.before.before.before.before).author ++ (head c.before.before.before.before.before.before.before.before.before.before.before.before.before.before.before.before.before.before).measures)) c.lay_one-m.new.text c.lay_one-m.result
room₁ c = room_behind ((head c.before.before.before.before.before.before.before.before.before.before.before.before.before.before.before.before.before.before).lang ∷ []) _ (room₀ c.before.before.before.before.before.before) (relay (lang-eq c.before.before.before.before.before.before.before.before.before.before) c.lay_one-m.ensures)

room₂ : (c : tie.After-lay_slots-p) → Room ((head c.before.before.before.before.before.before.before.before.before.before.before.before.before.before.before.before.before.before.before.before.before.before.before.before.before).author ++ (head c.before.before.before.before.before.before.before.before.before.before.before.before.before.before.before.before.before.before.before.before.before.before.before.before.before).measures) c.lay_slots-p.new.text c.lay_slots-p.result
room₂ c = room_behind (head c.before.before.before.before.before.before.before.before.before.before.before.before.before.before.before.before.before.before.before.before.before.before.before.before.before).person _ (room₁ c.before.before.before.before.before.before.before) (relay (person-eq c.before.before.before) c.lay_slots-p.ensures)

room₃ : (c : tie.After-lay_slots-a) → Room (head c.before.before.before.before.before.before.before.before.before.before.before.before.before.before.before.before.before.before.before.before.before.before.before.before.before.before.before.before.before.before.before.before).measures c.lay_slots-a.new.text c.lay_slots-a.result
room₃ c = room_behind (head c.before.before.before.before.before.before.before.before.before.before.before.before.before.before.before.before.before.before.before.before.before.before.before.before.before.before.before.before.before.before.before.before).author _ (room₂ c.before.before.before.before.before.before.before) (relay (author-eq c.before.before.before) c.lay_slots-a.ensures)

-- how long the numbers are
long₀ : (c : tie.After-lay_slots-u) → length c.lay_slots-u.new.numbers ≡ 54
long₀ c = c.lay_slots-u.auto.numbers

long₁ : (c : tie.After-lay_one-m) → length c.lay_one-m.new.numbers ≡ 54
long₁ c = c.lay_one-m.auto.numbers ∙ long₀ c.before.before.before.before.before.before

long₂ : (c : tie.After-lay_slots-p) → length c.lay_slots-p.new.numbers ≡ 54
long₂ c = c.lay_slots-p.auto.numbers ∙ long₁ c.before.before.before.before.before.before.before

long₃ : (c : tie.After-lay_slots-a) → length c.lay_slots-a.new.numbers ≡ 54
long₃ c = c.lay_slots-a.auto.numbers ∙ long₂ c.before.before.before.before.before.before.before

mp-number-requires : tie.Need-mp_number-patch-requires
unfolding field_at fields_of
mp-number-requires c κs = (c.before.before.before.before.requires.0.mp_at, c.before.before.before.before.requires.1, omega arith, omega arith)

language-requires : tie.Need-language-l-requires
language-requires c κs = c.before.before.before.before.before.before.before.requires.0.mp_at

add-lay-slots : tie.Need-overflow_add-h
add-lay-slots c = omega (arith, mp_within c.before.before.before.before.before.before.before.before.before.requires.0.mp_at)

slice-aggregate-lay-slots : tie.Need-slice_bounds-lay_slots-end
slice-aggregate-lay-slots c = refl

lay-slots-requires : tie.Need-lay_slots-u-requires
lay-slots-requires c κs =
    let S = c.before.before.before.before.before.before.before.before.before.before.before in
    let m = S.requires.0.mp_at in
    (omega (arith, mp_within m), ident_lie m, reroom (sym (ident_values m)) (room_first ((head S).ident ∷ []) _ _ _ S.requires.2), omega arith)

slice-aggregate-lay-one : tie.Need-slice_bounds-lay_one-end
slice-aggregate-lay-one c = sym (long₀ c.before.before.before.before.before)

lay-one-requires : tie.Need-lay_one-m-requires
lay-one-requires c κs = (reroom (sym (lang-eq c.before.before.before.before.before.before.before.before.before)) (room_first ((head c.before.before.before.before.before.before.before.before.before.before.before.before.before.before.before.before.before).lang ∷ []) _ _ _ (room₀ c.before.before.before.before.before)), omega (arith, long₀ c.before.before.before.before.before))

count-of-requires : tie.Need-count_of-requires
count-of-requires c κs = search rules

slice-aggregate-lay-slots-2 : tie.Need-slice_bounds-lay_slots-end-2
slice-aggregate-lay-slots-2 c = sym (long₁ c.before.before.before.before.before.before)

lay-slots-requires-2 : tie.Need-lay_slots-p-requires
unfolding kind_at
lay-slots-requires-2 c κs =
    let P = c.before.before.before.before.before.before.before.before.before.before.before.before.before.before.before.before.before.before.before.before.before.before.before.before.requires.0.person_at in
    let e = c.before.before.count_of.ensures.0 in
    (part_within P _ e, part_lie P _ e, reroom (sym (person-eq c.before.before)) (room_first (head c.before.before.before.before.before.before.before.before.before.before.before.before.before.before.before.before.before.before.before.before.before.before.before.before).person _ _ _ (room₁ c.before.before.before.before.before.before)), omega (arith, e, p_room, long₁ c.before.before.before.before.before.before))

count-of-requires-2 : tie.Need-count_of-requires-2
count-of-requires-2 c κs = search rules

slice-aggregate-lay-slots-3 : tie.Need-slice_bounds-lay_slots-end-3
slice-aggregate-lay-slots-3 c = sym (long₂ c.before.before.before.before.before.before)

lay-slots-requires-3 : tie.Need-lay_slots-a-requires
unfolding kind_at
lay-slots-requires-3 c κs =
    let P = c.before.before.before.before.before.before.before.before.before.before.before.before.before.before.before.before.before.before.before.before.before.before.before.before.before.before.before.before.before.before.before.requires.0.author_at in
    let e = c.before.before.count_of-2.ensures.0 in
    (part_within P _ e, part_lie P _ e, reroom (sym (author-eq c.before.before)) (room_first (head c.before.before.before.before.before.before.before.before.before.before.before.before.before.before.before.before.before.before.before.before.before.before.before.before.before.before.before.before.before.before.before).author _ _ _ (room₂ c.before.before.before.before.before.before)), omega (arith, e, a_room, long₂ c.before.before.before.before.before.before))

count-of-requires-3 : tie.Need-count_of-requires-3
count-of-requires-3 c κs = search rules

slice-aggregate-lay-slots-4 : tie.Need-slice_bounds-lay_slots-end-4
slice-aggregate-lay-slots-4 c = sym (long₃ c.before.before.before.before.before.before)

lay-slots-requires-4 : tie.Need-lay_slots-e-requires
unfolding kind_at
lay-slots-requires-4 c κs =
    let P = c.before.before.before.before.before.before.before.before.before.before.before.before.before.before.before.before.before.before.before.before.before.before.before.before.before.before.before.before.before.before.before.before.before.before.before.before.before.before.requires.0.measures_at in
    let e = c.before.before.count_of-3.ensures.0 in
    (part_within P _ e, part_lie P _ e, reroom (sym (measures-eq c.before.before)) (room₃ c.before.before.before.before.before.before), omega (arith, e, o_room, long₃ c.before.before.before.before.before.before))

spans-of-requires : tie.Need-spans_of-spans-requires
spans-of-requires c κs = search rules

same_length : tie.Need-shape_of-text
same_length c = c.before.before.before.before.before.lay_slots-e.auto.text ∙ (c.before.before.before.before.before.before.before.before.before.before.before.before.lay_slots-a.auto.text ∙ (c.before.before.before.before.before.before.before.before.before.before.before.before.before.before.before.before.before.before.before.lay_slots-p.auto.text ∙ (c.before.before.before.before.before.before.before.before.before.before.before.before.before.before.before.before.before.before.before.before.before.before.before.before.before.before.lay_one-m.auto.text ∙ c.before.before.before.before.before.before.before.before.before.before.before.before.before.before.before.before.before.before.before.before.before.before.before.before.before.before.before.before.before.before.before.before.lay_slots-u.auto.text)))

returns : tie.Need-returns
returns c =
    let S = c.before.before.before.before.before.before.before.before.before.before.before.before.before.before.before.before.before.before.before.before.before.before.before.before.before.before.before.before.before.before.before.before.before.before.before.before.before.before.before.before.before.before.before.before in
    let ts = tags_at S.args.page.now 0 in
    let h = head S in
    let L₀ = relay (ident_values S.requires.0.mp_at) c.before.before.before.before.before.before.before.before.before.before.before.before.before.before.before.before.before.before.before.before.before.before.before.before.before.before.before.before.before.before.before.before.lay_slots-u.ensures in
    let L₁ = relay (lang-eq c.before.before.before.before.before.before.before.before.before.before.before.before.before.before.before.before.before.before.before.before.before.before.before.before.before.before.before.before.before.before.before.before.before.before.before.before) c.before.before.before.before.before.before.before.before.before.before.before.before.before.before.before.before.before.before.before.before.before.before.before.before.before.before.lay_one-m.ensures in
    let B = behind L₀ (placed_at (omega arith) L₁) (room_first (h.ident ∷ h.lang ∷ []) _ _ _ S.requires.2) (omega arith) in
    let H = head_laid h (head_full ts) refl S.requires.2 B (relay (person-eq c.before.before.before.before.before.before.before.before.before.before.before.before.before.before.before.before.before.before.before.before.before.before) c.before.before.before.before.before.before.before.before.before.before.before.before.before.before.before.before.before.before.before.lay_slots-p.ensures)
    (relay (author-eq c.before.before.before.before.before.before.before.before.before.before.before.before.before.before.before) c.before.before.before.before.before.before.before.before.before.before.before.before.lay_slots-a.ensures) (relay (measures-eq c.before.before.before.before.before.before.before.before) c.before.before.before.before.before.lay_slots-e.ensures) in
    record {
      end_is = H.end_is;
      text_is = H.text_is;
      patch_is = c.before.before.before.before.before.before.before.before.before.before.before.before.before.before.before.before.before.before.before.before.before.before.before.before.before.before.before.before.before.before.before.before.before.before.before.before.before.before.before.mp_number-patch.ensures ∙ sym (patch_is ts);
      spans_are = head_spans_lem h S.args.n _ _ _ (head_full ts) refl H.numbers_are c.spans_of-spans.ensures;
    }

pub lay_head_spec : {M : Type 1} → statement M
lay_head_spec =
    tie.close
    (tie.spec
    mp-number-requires
    language-requires
    add-lay-slots
    slice-aggregate-lay-slots
    lay-slots-requires
    slice-aggregate-lay-one
    lay-one-requires
    count-of-requires
    slice-aggregate-lay-slots-2
    lay-slots-requires-2
    count-of-requires-2
    slice-aggregate-lay-slots-3
    lay-slots-requires-3
    count-of-requires-3
    slice-aggregate-lay-slots-4
    lay-slots-requires-4
    spans-of-requires
    same_length
    returns)
