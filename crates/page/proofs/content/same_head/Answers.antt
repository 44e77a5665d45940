use Rattle.std.proofs.Common.{◌≡◌, ◌&&◌, ◌∙◌, false, eqb, arith, sym}
use borrow.Author.Tests.{eq-eqb, ne_eqb}
use Rattle.paper.specs.Lists.{same}
use Rattle.paper.specs.Plan.{Head, same_slots}
use Rattle.paper.specs.Fields.{fields_of}
use Rattle.markup.specs.Walk.{tags_at}
use Rattle.fields.specs.Places.{kind_at, field_at}
use Rattle.sheet.specs.Content.{head_from}
use Rattle.page.proofs.HeadLaws.{patch_is}
use Rattle.page.proofs.WalkLaws.{mp_within, ident_values, ident_lie, part_values, part_lie, part_within, decides, ends_it, one_same, slots_are, lang_same}
use Rattle.page.proofs.content.same_head.Goals as goal
use Rattle.page.proofs.content.same_head.Goals.{then-x-y, else-x-y, then-same_slots, else-same_slots, then-same_language, else-same_language, then-same_slots-2, else-same_slots-2}

pub mp_number-x-requires : goal.mp_number-x-requires
unfolding field_at fields_of
mp_number-x-requires c = (c.requires.2.mp_at, c.requires.3, omega arith, omega arith)

pub mp_number-y-requires : goal.mp_number-y-requires
unfolding field_at fields_of
mp_number-y-requires c = (c.requires.0.mp_at, c.requires.1, omega arith, omega arith)

pub same_slots-requires : goal.same_slots-requires
same_slots-requires c =
    let P = c.requires.2.mp_at in
    let Q = c.requires.0.mp_at in
    (omega (arith, mp_within P), omega (arith, mp_within Q), ident_lie P, ident_lie Q)

pub same_slots-requires-then-same_language : goal.same_slots-requires-then-same_language
unfolding kind_at
same_slots-requires-then-same_language c =
    let e = c.count_of.ensures.0 in
    let P = c.requires.2.person_at in
    let Q = c.requires.0.person_at in
    (part_within P _ e, part_within Q _ e, part_lie P _ e, part_lie Q _ e)

pub same_slots-requires-then-same_slots-2 : goal.same_slots-requires-then-same_slots-2
unfolding kind_at
same_slots-requires-then-same_slots-2 c =
    let e = c.count_of-then-same_slots-2.ensures.0 in
    let P = c.requires.2.author_at in
    let Q = c.requires.0.author_at in
    (part_within P _ e, part_within Q _ e, part_lie P _ e, part_lie Q _ e)

pub same_slots-requires-then-same_slots-3 : goal.same_slots-requires-then-same_slots-3
unfolding kind_at
same_slots-requires-then-same_slots-3 c =
    let e = c.count_of-then-same_slots-3.ensures.0 in
    let P = c.requires.2.measures_at in
    let Q = c.requires.0.measures_at in
    (part_within P _ e, part_within Q _ e, part_lie P _ e, part_lie Q _ e)

pub returns-then-same_slots-3 : goal.returns-then-same_slots-3
unfolding head_from kind_at
returns-then-same_slots-3 c =
    let a = c.args in
    let n : Head = head_from (tags_at a.two.now 0) in
    let o : Head = head_from (tags_at a.one.now 0) in
    let N = c.requires.2 in
    let O = c.requires.0 in
    let x : c.mp_number-x.result ≡ n.patch = c.mp_number-x.ensures ∙ sym (patch_is (tags_at a.two.now 0)) in
    let y : c.mp_number-y.result ≡ o.patch = c.mp_number-y.ensures ∙ sym (patch_is (tags_at a.one.now 0)) in
    let ident : c.if-x-y.value ≡ (eqb n.patch o.patch && same n.ident o.ident) =
    elim c.if-x-y.branch [
      | then-x-y w ↦
          decides _ _ _ (eq-eqb n.patch o.patch (sym x ∙ (w.if-x-y.true ∙ y)))
          (w.value-is ∙ (w.same_slots.ensures ∙ (slots_are _ _ _ _ (ident_values N.mp_at) (ident_values O.mp_at) ∙ one_same n.ident o.ident)))
      | else-x-y w ↦
          let e : eqb n.patch o.patch ≡ false = ne_eqb n.patch o.patch (λ z. w.if-x-y.false (x ∙ (z ∙ sym y))) in
          ends_it _ _ _ e (w.value-is ∙ (ne_eqb _ _ w.if-x-y.false ∙ sym e))
    ] in
    let lang : c.if-same_slots.value ≡ ((eqb n.patch o.patch && same n.ident o.ident) && same n.lang o.lang) =
    elim c.if-same_slots.branch [
      | then-same_slots w ↦ decides _ _ _ (sym ident ∙ w.if-same_slots.true) (w.value-is ∙ (w.same_language.ensures ∙ lang_same (tags_at a.two.now 0) (tags_at a.one.now 0)))
      | else-same_slots w ↦ ends_it _ _ _ (sym ident ∙ w.if-same_slots.false) (w.value-is ∙ ident)
    ] in
    let person : c.if-same_language.value ≡ (((eqb n.patch o.patch && same n.ident o.ident) && same n.lang o.lang) && same_slots n.person o.person) =
    elim c.if-same_language.branch [
      | then-same_language w ↦
          let e = w.count_of.ensures.0 in
          decides _ _ _ (sym lang ∙ w.if-same_language.true) (w.value-is ∙ (w.same_slots-then-same_language.ensures ∙ slots_are _ _ _ _ (part_values N.person_at _ e) (part_values O.person_at _ e)))
      | else-same_language w ↦ ends_it _ _ _ (sym lang ∙ w.if-same_language.false) (w.value-is ∙ lang)
    ] in
    let author : c.if-same_slots-2.value ≡ ((((eqb n.patch o.patch && same n.ident o.ident) && same n.lang o.lang) && same_slots n.person o.person) && same_slots n.author o.author) =
    elim c.if-same_slots-2.branch [
      | then-same_slots-2 w ↦
          let e = w.count_of-then-same_slots-2.ensures.0 in
          decides _ _ _ (sym person ∙ w.if-same_slots-2.true) (w.value-is ∙ (w.same_slots-then-same_slots-2.ensures ∙ slots_are _ _ _ _ (part_values N.author_at _ e) (part_values O.author_at _ e)))
      | else-same_slots-2 w ↦ ends_it _ _ _ (sym person ∙ w.if-same_slots-2.false) (w.value-is ∙ person)
    ] in
    let e = c.count_of-then-same_slots-3.ensures.0 in
    let m = c.same_slots-then-same_slots-3.ensures ∙ slots_are _ _ _ _ (part_values N.measures_at _ e) (part_values O.measures_at _ e) in
    decides _ (same_slots n.measures o.measures) _ (sym author ∙ c.if-same_slots-3.true) m

pub returns-else-same_slots-3 : goal.returns-else-same_slots-3
unfolding head_from kind_at
returns-else-same_slots-3 c =
    let a = c.args in
    let n : Head = head_from (tags_at a.two.now 0) in
    let o : Head = head_from (tags_at a.one.now 0) in
    let N = c.requires.2 in
    let O = c.requires.0 in
    let x : c.mp_number-x.result ≡ n.patch = c.mp_number-x.ensures ∙ sym (patch_is (tags_at a.two.now 0)) in
    let y : c.mp_number-y.result ≡ o.patch = c.mp_number-y.ensures ∙ sym (patch_is (tags_at a.one.now 0)) in
    let ident : c.if-x-y.value ≡ (eqb n.patch o.patch && same n.ident o.ident) =
    elim c.if-x-y.branch [
      | then-x-y w ↦
          decides _ _ _ (eq-eqb n.patch o.patch (sym x ∙ (w.if-x-y.true ∙ y)))
          (w.value-is ∙ (w.same_slots.ensures ∙ (slots_are _ _ _ _ (ident_values N.mp_at) (ident_values O.mp_at) ∙ one_same n.ident o.ident)))
      | else-x-y w ↦
          let e : eqb n.patch o.patch ≡ false = ne_eqb n.patch o.patch (λ z. w.if-x-y.false (x ∙ (z ∙ sym y))) in
          ends_it _ _ _ e (w.value-is ∙ (ne_eqb _ _ w.if-x-y.false ∙ sym e))
    ] in
    let lang : c.if-same_slots.value ≡ ((eqb n.patch o.patch && same n.ident o.ident) && same n.lang o.lang) =
    elim c.if-same_slots.branch [
      | then-same_slots w ↦ decides _ _ _ (sym ident ∙ w.if-same_slots.true) (w.value-is ∙ (w.same_language.ensures ∙ lang_same (tags_at a.two.now 0) (tags_at a.one.now 0)))
      | else-same_slots w ↦ ends_it _ _ _ (sym ident ∙ w.if-same_slots.false) (w.value-is ∙ ident)
    ] in
    let person : c.if-same_language.value ≡ (((eqb n.patch o.patch && same n.ident o.ident) && same n.lang o.lang) && same_slots n.person o.person) =
    elim c.if-same_language.branch [
      | then-same_language w ↦
          let e = w.count_of.ensures.0 in
          decides _ _ _ (sym lang ∙ w.if-same_language.true) (w.value-is ∙ (w.same_slots-then-same_language.ensures ∙ slots_are _ _ _ _ (part_values N.person_at _ e) (part_values O.person_at _ e)))
      | else-same_language w ↦ ends_it _ _ _ (sym lang ∙ w.if-same_language.false) (w.value-is ∙ lang)
    ] in
    let author : c.if-same_slots-2.value ≡ ((((eqb n.patch o.patch && same n.ident o.ident) && same n.lang o.lang) && same_slots n.person o.person) && same_slots n.author o.author) =
    elim c.if-same_slots-2.branch [
      | then-same_slots-2 w ↦
          let e = w.count_of-then-same_slots-2.ensures.0 in
          decides _ _ _ (sym person ∙ w.if-same_slots-2.true) (w.value-is ∙ (w.same_slots-then-same_slots-2.ensures ∙ slots_are _ _ _ _ (part_values N.author_at _ e) (part_values O.author_at _ e)))
      | else-same_slots-2 w ↦ ends_it _ _ _ (sym person ∙ w.if-same_slots-2.false) (w.value-is ∙ person)
    ] in
    ends_it _ (same_slots n.measures o.measures) _ (sym author ∙ c.if-same_slots-3.false) author
