-- FlawLaws: the faults of an element's own tag by the raw values of its attributes: a value in the page, the fields one after another, the
-- excluded pairs one after another, and MP's own rules.
-- Assumes nothing.
use mathlib.Core.Path.{◌≡◌, refl, ap, sym, ◌∙◌, subst}
use mathlib.Core.Bool.{Bool, true, false, not, ◌&&◌, ◌||◌}
use mathlib.Core.List.{List, [], ◌∷◌, map}
use Prim.Native.Nat.{ℕ, zero, suc, ◌+◌, ◌*◌, ◌-◌, ◌≤◌, ◌<◌, min}
use native.Mathlib.Numerals.{add-one}
use native.Mathlib.Omega.{arith}
use lib.Dec.{eqb, leb, ltb}
use lib.ListN.{length, get_or, take, drop, length-take, length-map, drop_of_length-le}
use lib.Seq.{slice, drop-cons, take_all, take-append_seam}
use borrow.Author.Tests.{ne_eqb, eq-eqb, lt-ltb, le-ltb, ltb-true, ltb-false, leb-true, leb-false, lt-leb, not-false, eqb-true, eqb-false}
use Rattle.std.specs.Prelude.{Option, None, Some}
use Rattle.paper.specs.Lists.{bytes, if, same, is_empty, every, number, count}
use Rattle.paper.specs.Bytes.{is_decoded}
use Rattle.paper.specs.Causes.{cause_number, flaw_number}
use Rattle.paper.specs.declared.Cause.{Cause}
use Rattle.paper.specs.declared.Cause.TheVariants.{Size, Byte, Malformed, OutOfPlace, Edition, Value, Incomplete}
use Rattle.paper.specs.Grammar.{Attr}
use Rattle.paper.specs.Fields.{Kind, unknown, MP, P, A, O, S, M, W, R, X, code, Rule, page_no, Field, field, fields_of, excluded, Pair}
use Rattle.paper.specs.Values.{value}
use Rattle.paper.specs.Rules.{settle, is_zero, keeps, obeys}
use Rattle.paper.specs.Plan.{Slots, slot}
use Rattle.paper.specs.Judging.{names, slots_of, breaks, broken, missing, clash, mp_version, mp_over, mp_half}
use Rattle.paper.proofs.Small.{no, both, neither, if_same, below_at}
use Rattle.room.specs.Laid.{laid}
use Rattle.room.proofs.PairLaws.{pairs_long}
use Rattle.fields.specs.Places.{kind_at, no_field, rule_at, rule_number, field_at, field_flaw, place_in, first_of, count_of, ones_of, others_of}
use Rattle.fields.proofs.TableLaws.{field_at_lem, code_back}
use Rattle.fields.proofs.RuleLaws.{rule_back}
use Rattle.sheet.specs.Fold.{flaw, needs_w}
use Rattle.sheet.specs.Found.{settled_in, there_in, raw_at, raws_at, told, standing, Tells}
use Rattle.sheet.specs.Flaws.{settle_by, fields_flaw, pages_flaw, digits_flaw, clash_there, clash_at}
use Rattle.sheet.proofs.FoundLaws.{slots_found, shown_at_lem, standing_at, there_place}

-- ---- a value in a room

-- a value of some bytes of a room of m is present
filled : (s : List ℕ) (n : ℕ) → n ≤ length s → (n ≡ 0 → ⊥) → is_empty (take n s) ≡ false
filled s zero h e = absurd (e refl)
filled [] (suc n) h e = absurd (omega arith)
filled (x ∷ s) (suc n) h e = refl

pub some_taken : (s v : List ℕ) (n m : ℕ) → take n s ≡ v → n ≤ m → length s ≡ m → (n ≡ 0 → ⊥) → is_empty v ≡ false
some_taken s v n m e h l z = ap is_empty (sym e) ∙ filled s n (omega arith) z

-- a value of no bytes is absent
pub none_taken : (s v : List ℕ) (n : ℕ) → take n s ≡ v → n ≡ 0 → [] ≡ v
none_taken s v n e z = ap (λ (m : ℕ). take m s) (sym z) ∙ e

-- a value is absent just when it has no bytes
pub taken_empty : (s v : List ℕ) (n m : ℕ) → take n s ≡ v → n ≤ m → length s ≡ m → is_empty v ≡ eqb n 0
taken_empty s v n m e h l = go (eqb n 0) refl
  where
    go : (b : Bool) → eqb n 0 ≡ b → is_empty v ≡ eqb n 0
    go true q = ap is_empty (sym (none_taken s v n e (eqb-true n 0 q))) ∙ sym q
    go false q = some_taken s v n m e h l (eqb-false n 0 q) ∙ sym q

-- ---- the fields one after another

-- 7, or 8, or m, by two tests
abbrev pub by_tests : Bool → Bool → ℕ → ℕ
by_tests a b m = if a 7 (if b 8 m)

-- a field has no fault but 7 and 8
flaw_high : (f : Field) (v : List ℕ) → 7 ≤ field_flaw f v
unfolding field_flaw
flaw_high f v = go (breaks f v) (f.must && is_empty v)
  where
    go : (a b : Bool) → 7 ≤ by_tests a b 9
    go true b = omega arith
    go false true = omega arith
    go false false = omega arith

module _ (m : ℕ) (fs : List Field) (vs : Slots) (j : ℕ) (h : j < length fs) (l : j < length vs) where
  abbrev here : Field
  here = get_or fs j no_field

  abbrev value_here : List ℕ
  value_here = get_or vs j []

  one_more : fields_flaw m (drop j fs) (drop j vs)
      ≡ by_tests (breaks here value_here || broken (drop (j + 1) fs) (drop (j + 1) vs)) ((here.must && is_empty value_here) || missing (drop (j + 1) fs) (drop (j + 1) vs)) m
  unfolding fields_flaw
  one_more = rw (add-one j, drop-cons fs j no_field h, drop-cons vs j [] l)

  -- x is the fault of this field
  module _ (x : ℕ) (q : x ≡ field_flaw here value_here) where
    -- a value breaks its field
    fields_broken : x ≡ 7 → fields_flaw m (drop j fs) (drop j vs) ≡ 7
    unfolding field_flaw
    fields_broken e = one_more ∙ go (breaks here value_here) (here.must && is_empty value_here) (broken (drop (j + 1) fs) (drop (j + 1) vs)) (missing (drop (j + 1) fs) (drop (j + 1) vs)) (sym q ∙ e)
      where
        go : (a b B C : Bool) → by_tests a b 9 ≡ 7 → by_tests (a || B) (b || C) m ≡ 7
        go true b B C e = refl
        go false true B C e = absurd (omega arith)
        go false false B C e = absurd (omega arith)

    -- a field is missing
    fields_missing : x ≡ 8 → fields_flaw m (drop j fs) (drop j vs) ≡ fields_flaw 8 (drop (j + 1) fs) (drop (j + 1) vs)
    unfolding field_flaw fields_flaw
    fields_missing e = one_more ∙ go (breaks here value_here) (here.must && is_empty value_here) (broken (drop (j + 1) fs) (drop (j + 1) vs)) (missing (drop (j + 1) fs) (drop (j + 1) vs)) (sym q ∙ e)
      where
        go : (a b B C : Bool) → by_tests a b 9 ≡ 8 → by_tests (a || B) (b || C) m ≡ by_tests B C 8
        go true b B C e = absurd (omega arith)
        go false true B C e = rw (if_same {A = ℕ} C 8)
        go false false B C e = absurd (omega arith)

    -- a field has no fault
    fields_fine : (x ≡ 7 → ⊥) → (x ≡ 8 → ⊥) → fields_flaw m (drop j fs) (drop j vs) ≡ fields_flaw m (drop (j + 1) fs) (drop (j + 1) vs)
    unfolding field_flaw fields_flaw
    fields_fine e g = one_more ∙ go (breaks here value_here) (here.must && is_empty value_here) (broken (drop (j + 1) fs) (drop (j + 1) vs)) (missing (drop (j + 1) fs) (drop (j + 1) vs)) (λ z. e (q ∙ z)) (λ z. g (q ∙ z))
      where
        go : (a b B C : Bool) → (by_tests a b 9 ≡ 7 → ⊥) → (by_tests a b 9 ≡ 8 → ⊥) → by_tests (a || B) (b || C) m ≡ by_tests B C m
        go true b B C e g = absurd (e refl)
        go false true B C e g = absurd (g refl)
        go false false B C e g = refl

-- no field is left
fields_done : (m : ℕ) (fs : List Field) (vs : Slots) (j : ℕ) → length fs ≤ j → fields_flaw m (drop j fs) (drop j vs) ≡ m
unfolding fields_flaw
fields_done m fs vs j h = rw (drop_of_length-le fs h)

raws_long : (w : List ℕ) (n : ℕ) (rs : List ℕ) → length (raws_at w n rs) ≡ n
raws_long w n rs = pairs_long (λ (a b : ℕ). slice a b w) n rs 0

settled_long : (fs : List Field) (rs : List (List ℕ)) → length rs ≡ length fs → length (settled_in fs rs) ≡ length fs
settled_long [] rs h = refl
settled_long (f ∷ fs) [] h = absurd (omega arith)
settled_long (f ∷ fs) (r ∷ rs) h = ap suc (settled_long fs rs (omega arith))

settled_at : (fs : List Field) (rs : List (List ℕ)) (j : ℕ) → j < length fs → length rs ≡ length fs → get_or (settled_in fs rs) j [] ≡ settle (get_or fs j no_field) (value (get_or rs j []))
settled_at [] rs j h l = absurd (omega arith)
settled_at (f ∷ fs) [] j h l = absurd (omega arith)
settled_at (f ∷ fs) (r ∷ rs) zero h l = refl
settled_at (f ∷ fs) (r ∷ rs) (suc j) h l = settled_at fs rs j (omega arith) (omega arith)

-- an element has a slot for each of its fields
pub slots_long : (w : List ℕ) (k : Kind) (rs : List ℕ) → length (told w k rs) ≡ length (fields_of k)
unfolding told
slots_long w k rs = settled_long (fields_of k) (raws_at w (length (fields_of k)) rs) (raws_long w (length (fields_of k)) rs)

-- the slot at a place
pub slot_at : (w : List ℕ) (k : Kind) (rs : List ℕ) (j : ℕ) → j < length (fields_of k)
    → get_or (told w k rs) j [] ≡ settle (get_or (fields_of k) j no_field) (value (raw_at w rs j))
unfolding told
slot_at w k rs j h =
    settled_at (fields_of k) (raws_at w (length (fields_of k)) rs) j h (raws_long w (length (fields_of k)) rs)
    ∙ ap (λ (r : List ℕ). settle (get_or (fields_of k) j no_field) (value r)) (shown_at_lem w (length (fields_of k)) rs j h)

-- what is left of an element's fields, from the j-th on
abbrev pub fields_from : List ℕ → Kind → List ℕ → ℕ → ℕ → ℕ
fields_from w k rs m j = fields_flaw m (drop j (fields_of k)) (drop j (told w k rs))

-- the fault x is found at the j-th of the element's c fields, which stand in the table from a on
module _ (w : List ℕ) (k : Kind) (rs : List ℕ) (m j a c x : ℕ) (p : a ≡ first_of k) (q : c ≡ count_of k) (h : j < c)
    (e : x ≡ field_flaw (field_at (a + j)) (settle (field_at (a + j)) (value (raw_at w rs j)))) where
  in_fields : j < length (fields_of k)
  unfolding count_of
  in_fields = omega arith

  in_slots : j < length (told w k rs)
  in_slots = let l = in_fields in omega (arith, slots_long w k rs)

  found_here : x ≡ field_flaw (get_or (fields_of k) j no_field) (get_or (told w k rs) j [])
  unfolding count_of
  found_here = e ∙ rw (p, ← field_at_lem k j in_fields, slot_at w k rs j in_fields)

  -- a value breaks its field
  pub turn_broken : x ≡ 7 → fields_from w k rs m j ≡ 7
  turn_broken = fields_broken m (fields_of k) (told w k rs) j in_fields in_slots x found_here

  -- a field is missing
  pub turn_missing : x ≡ 8 → fields_from w k rs m j ≡ fields_from w k rs 8 (j + 1)
  turn_missing = fields_missing m (fields_of k) (told w k rs) j in_fields in_slots x found_here

  high_here : 7 ≤ x
  high_here = omega (arith, found_here, flaw_high (get_or (fields_of k) j no_field) (get_or (told w k rs) j []))

  -- the same by the cause
  pub turn_cause : (y : Cause) → cause_number y ≡ x → (y ≡ Value → ⊥) → fields_from w k rs m j ≡ fields_from w k rs (cause_number y) (j + 1)
  turn_cause Size g n = absurd (omega (arith, high_here))
  turn_cause Byte g n = absurd (omega (arith, high_here))
  turn_cause Malformed g n = absurd (omega (arith, high_here))
  turn_cause OutOfPlace g n = absurd (omega (arith, high_here))
  turn_cause Edition g n = absurd (omega (arith, high_here))
  turn_cause Value g n = absurd (n refl)
  turn_cause Incomplete g n = turn_missing (sym g)

  -- a field has no fault
  pub turn_fine : (x ≡ 7 → ⊥) → (x ≡ 8 → ⊥) → fields_from w k rs m j ≡ fields_from w k rs m (j + 1)
  turn_fine = fields_fine m (fields_of k) (told w k rs) j in_fields in_slots x found_here

-- no field is left
pub turn_done : (w : List ℕ) (k : Kind) (rs : List ℕ) (m j c : ℕ) → c ≡ count_of k → c ≤ j → fields_from w k rs m j ≡ m
unfolding count_of
turn_done w k rs m j c q h = fields_done m (fields_of k) (told w k rs) j (omega arith)

-- ---- a slot by its letters

slot_placed : (n : List ℕ) (fs : List Field) (vs : Slots) → length vs ≡ length fs → slot n fs vs ≡ get_or vs (place_in n fs) []
slot_placed n [] [] h = refl
slot_placed n [] (v ∷ vs) h = absurd (omega arith)
slot_placed n (f ∷ fs) [] h = absurd (omega arith)
slot_placed n (f ∷ fs) (v ∷ vs) h = go (same n f.letters) (slot_placed n fs vs (omega arith))
  where
    go : (b : Bool) → slot n fs vs ≡ get_or vs (place_in n fs) [] → if b v (slot n fs vs) ≡ get_or (v ∷ vs) (if b 0 (suc (place_in n fs))) []
    go true e = refl
    go false e = e

-- the slot of the field with those letters, by its place
slot_of : (w : List ℕ) (k : Kind) (rs : List ℕ) (n : List ℕ) (j : ℕ) → place_in n (fields_of k) ≡ j → j < length (fields_of k)
    → slot n (fields_of k) (told w k rs) ≡ settle (get_or (fields_of k) j no_field) (value (raw_at w rs j))
slot_of w k rs n j e h = slot_placed n (fields_of k) (told w k rs) (slots_long w k rs) ∙ rw e (slot_at w k rs j h)

-- MP's edition, its number and its count; M's package number and its name
module _ (w : List ℕ) (rs : List ℕ) where
  edition_slot : slot (bytes "v") (fields_of MP) (told w MP rs) ≡ value (raw_at w rs 0)
  unfolding fields_of
  edition_slot = slot_of w MP rs (bytes "v") 0 refl (omega arith)

  number_slot : slot (bytes "a") (fields_of MP) (told w MP rs) ≡ value (raw_at w rs 4)
  unfolding fields_of
  number_slot = slot_of w MP rs (bytes "a") 4 refl (omega arith)

  count_slot : slot (bytes "z") (fields_of MP) (told w MP rs) ≡ value (raw_at w rs 5)
  unfolding fields_of
  count_slot = slot_of w MP rs (bytes "z") 5 refl (omega arith)

  package_slot : slot (bytes "p") (fields_of M) (told w M rs) ≡ value (raw_at w rs 0)
  unfolding fields_of
  package_slot = slot_of w M rs (bytes "p") 0 refl (omega arith)

  name_slot : slot (bytes "a") (fields_of M) (told w M rs) ≡ value (raw_at w rs 1)
  unfolding fields_of
  name_slot = slot_of w M rs (bytes "a") 1 refl (omega arith)

-- the elements that have rules of their own
pub is_plan_lem : (e : ℕ) → e ≡ 1 → kind_at e ≡ MP
unfolding kind_at
is_plan_lem e q = rw q

pub is_medication_lem : (e : ℕ) → e ≡ 6 → kind_at e ≡ M
unfolding kind_at
is_medication_lem e q = rw q

-- they have the fields that these rules are of
pub plan_long : (e : ℕ) → e ≡ 1 → 5 < count_of (kind_at e)
unfolding count_of fields_of
plan_long e q = subst (λ (k : Kind). 5 < count_of k) (sym (is_plan_lem e q)) (omega arith)

pub medication_long : (e : ℕ) → e ≡ 6 → 1 < count_of (kind_at e)
unfolding count_of fields_of
medication_long e q = subst (λ (k : Kind). 1 < count_of k) (sym (is_medication_lem e q)) (omega arith)

not_kind : (e n : ℕ) → e < 10 → (e ≡ n → ⊥) → eqb (code (kind_at e)) n ≡ false
not_kind e n h q = rw (code_back e h) (ne_eqb e n q)

-- ---- MP's edition

module _ (w : List ℕ) (rs : List ℕ) (e : ℕ) (h : e < 10) where
  -- another element has none
  pub no_edition : (e ≡ 1 → ⊥) → false ≡ mp_version (kind_at e) (told w (kind_at e) rs)
  no_edition q = rw (not_kind e 1 h q)

  -- MP's, and whether it is 027
  pub edition_by : e ≡ 1 → (v : List ℕ) → v ≡ value (raw_at w rs 0) → (b : Bool) → b ≡ same v (bytes "027") → not b ≡ mp_version (kind_at e) (told w (kind_at e) rs)
  edition_by q v f b g = rw (is_plan_lem e q, edition_slot w rs, ← f, g)

-- ---- MP's number and count

-- nothing, or one digit from 1 to 9
abbrev pub One : List ℕ → Type 0
One [] = Unit {0}
One (c ∷ []) = 49 ≤ c
One (c ∷ d ∷ v) = ⊥

-- a value that does not break the field of a page number
pub one_digit : (n v : List ℕ) → breaks (field MP n page_no 1 1 0 false) v ≡ false → One v
one_digit n [] e = tt
one_digit n (c ∷ []) e =
    let k = not-false (keeps (field MP n page_no 1 1 0 false) (c ∷ [])) e in
    let p = both (every is_decoded (c ∷ [])) (leb (count 126 (c ∷ [])) 0 && obeys page_no (c ∷ [])) k in
    let q = both (leb (count 126 (c ∷ [])) 0) (obeys page_no (c ∷ [])) p.1 in
    leb-true 49 c (both (leb 49 c) (leb c 57) (both (leb 49 c && leb c 57) true q.1).0).0
one_digit n (c ∷ d ∷ v) e =
    let k = not-false (keeps (field MP n page_no 1 1 0 false) (c ∷ d ∷ v)) e in
    let r : leb (length (c ∷ d ∷ v)) 1 ≡ false = lt-leb (length (c ∷ d ∷ v)) 1 (omega arith) in
    let p = both (every is_decoded (c ∷ d ∷ v)) (leb 1 (length (c ∷ d ∷ v)) && (leb (length (c ∷ d ∷ v)) 1 && (leb (count 126 (c ∷ d ∷ v)) 0 && obeys page_no (c ∷ d ∷ v)))) k in
    let q = both (leb 1 (length (c ∷ d ∷ v))) (leb (length (c ∷ d ∷ v)) 1 && (leb (count 126 (c ∷ d ∷ v)) 0 && obeys page_no (c ∷ d ∷ v))) p.1 in
    no (sym (both (leb (length (c ∷ d ∷ v)) 1) (leb (count 126 (c ∷ d ∷ v)) 0 && obeys page_no (c ∷ d ∷ v)) q.1).0 ∙ r)

pub unbroken_at : (fs : List Field) (vs : Slots) (j : ℕ) → broken fs vs ≡ false → j < length fs → length vs ≡ length fs → breaks (get_or fs j no_field) (get_or vs j []) ≡ false
unbroken_at [] vs j e h l = absurd (omega arith)
unbroken_at (f ∷ fs) [] j e h l = absurd (omega arith)
unbroken_at (f ∷ fs) (v ∷ vs) zero e h l = (neither (breaks f v) (broken fs vs) e).0
unbroken_at (f ∷ fs) (v ∷ vs) (suc j) e h l = unbroken_at fs vs j (neither (breaks f v) (broken fs vs) e).1 (omega arith) (omega arith)

module _ (w : List ℕ) (rs : List ℕ) (e : broken (fields_of MP) (told w MP rs) ≡ false) where
  number_one : One (value (raw_at w rs 4))
  unfolding fields_of
  number_one = one_digit (bytes "a") (value (raw_at w rs 4))
      (rw (slot_at w MP rs 4 (omega arith)) at (unbroken_at (fields_of MP) (told w MP rs) 4 e (omega arith) (slots_long w MP rs)))

  count_one : One (value (raw_at w rs 5))
  unfolding fields_of
  count_one = one_digit (bytes "z") (value (raw_at w rs 5))
      (rw (slot_at w MP rs 5 (omega arith)) at (unbroken_at (fields_of MP) (told w MP rs) 5 e (omega arith) (slots_long w MP rs)))

-- the fault of two such values
abbrev pub pair_flaw : List ℕ → List ℕ → ℕ
pair_flaw a z = by_tests (not (is_empty z) && ltb (number 0 z) (number 0 a)) ((is_empty a && not (is_empty z)) || (not (is_empty a) && is_empty z)) 9

pub by_digits : (a z : List ℕ) → One a → One z → digits_flaw (get_or a 0 0) (get_or z 0 0) ≡ pair_flaw a z
unfolding digits_flaw
by_digits [] [] p q = refl
by_digits [] (d ∷ []) p q = rw (ne_eqb d 0 (λ e. omega arith), le-ltb (0 * 10 + (d - 48)) 0 (omega arith))
by_digits (c ∷ []) [] p q = rw (ne_eqb c 0 (λ e. omega arith))
by_digits (c ∷ []) (d ∷ []) p q = rw (ne_eqb c 0 (λ e. omega arith), ne_eqb d 0 (λ e. omega arith)) (go (ltb d c) refl)
  where
    go : (b : Bool) → ltb d c ≡ b → ◌≡◌ {A = ℕ} (if b 7 9) (if (ltb (0 * 10 + (d - 48)) (0 * 10 + (c - 48))) 7 9)
    go true e = let h = ltb-true d c e in rw (lt-ltb (0 * 10 + (d - 48)) (0 * 10 + (c - 48)) (omega arith))
    go false e = let h = ltb-false d c e in rw (le-ltb (0 * 10 + (d - 48)) (0 * 10 + (c - 48)) (omega arith))
by_digits [] (d ∷ x ∷ z) p q = absurd q
by_digits (c ∷ []) (d ∷ x ∷ z) p q = absurd q
by_digits (c ∷ x ∷ a) z p q = absurd p

module _ (w : List ℕ) (rs : List ℕ) (e : ℕ) (h : e < 10) where
  -- another element has none
  pub no_pages : (e ≡ 1 → ⊥) → 9 ≡ pages_flaw (kind_at e) (told w (kind_at e) rs)
  unfolding pages_flaw
  no_pages q = rw (not_kind e 1 h q)

  -- MP's, by their digits
  pub pages_by : e ≡ 1 → broken (fields_of (kind_at e)) (told w (kind_at e) rs) ≡ false
      → (a z : ℕ) → a ≡ get_or (value (raw_at w rs 4)) 0 0 → z ≡ get_or (value (raw_at w rs 5)) 0 0
      → digits_flaw a z ≡ pages_flaw (kind_at e) (told w (kind_at e) rs)
  unfolding pages_flaw
  pages_by q b a z f g =
      let k = is_plan_lem e q in
      let u : broken (fields_of MP) (told w MP rs) ≡ false = rw k at b in
      rw (k, number_slot w rs, count_slot w rs, f, g) (by_digits (value (raw_at w rs 4)) (value (raw_at w rs 5)) (number_one w rs u) (count_one w rs u))

-- ---- excluded pairs

module _ (ones others : List ℕ) (ts : List Bool) (i : ℕ) (h : i < length ones) (l : i < length others) where
  pair_more : clash_there (drop i ones) (drop i others) ts ≡ (get_or ts (get_or ones i 0) false && get_or ts (get_or others i 0) false) || clash_there (drop (i + 1) ones) (drop (i + 1) others) ts
  pair_more = rw (add-one i, drop-cons ones i 0 h, drop-cons others i 0 l)

-- no pair is left
pairs_done : (ones others : List ℕ) (ts : List Bool) (i : ℕ) → length ones ≤ i → clash_there (drop i ones) (drop i others) ts ≡ false
pairs_done ones others ts i h = rw (drop_of_length-le ones h)

no_matter : (b c : Bool) → (b && false) || c ≡ c
no_matter true c = refl
no_matter false c = refl

-- a test that all pass is passed by each
every_at : (p : ℕ → Bool) (l : List ℕ) (i : ℕ) → every p l ≡ true → i < length l → p (get_or l i 0) ≡ true
every_at p [] i e h = absurd (omega arith)
every_at p (x ∷ l) zero e h = (both (p x) (every p l) e).0
every_at p (x ∷ l) (suc i) e h = every_at p l i (both (p x) (every p l) e).1 (omega arith)

module _ (e i : ℕ) (h : e < 10) (l : i < length (excluded (kind_at e))) where
  -- the pairs are as many as the ones and the others
  ones_long : i < length (ones_of (kind_at e))
  unfolding ones_of
  ones_long = omega (arith, length-map (excluded (kind_at e)) (λ (p : Pair). place_in p.0 (fields_of (kind_at e))))

  others_long : i < length (others_of (kind_at e))
  unfolding others_of
  others_long = omega (arith, length-map (excluded (kind_at e)) (λ (p : Pair). place_in p.1 (fields_of (kind_at e))))

  -- they are places of the element's fields
  pub one_within : get_or (ones_of (kind_at e)) i 0 < count_of (kind_at e)
  unfolding kind_at ones_of count_of fields_of
  one_within = ltb-true (get_or (ones_of (kind_at e)) i 0) (count_of (kind_at e)) (every_at (λ (x : ℕ). ltb x (count_of (kind_at e))) (ones_of (kind_at e)) i
      (below_at 10 (λ (m : ℕ). every (λ (x : ℕ). ltb x (count_of (kind_at m))) (ones_of (kind_at m))) refl e h) ones_long)

  pub other_within : get_or (others_of (kind_at e)) i 0 < count_of (kind_at e)
  unfolding kind_at others_of count_of fields_of
  other_within = ltb-true (get_or (others_of (kind_at e)) i 0) (count_of (kind_at e)) (every_at (λ (x : ℕ). ltb x (count_of (kind_at e))) (others_of (kind_at e)) i
      (below_at 10 (λ (m : ℕ). every (λ (x : ℕ). ltb x (count_of (kind_at m))) (others_of (kind_at m))) refl e h) others_long)

  -- what is left of the pairs, from the i-th on
  abbrev pairs_from : ℕ → List ℕ → ℕ → Bool
  pairs_from j t base = clash_there (drop j (ones_of (kind_at e))) (drop j (others_of (kind_at e))) (standing (length (fields_of (kind_at e))) t base)

  -- the numbers of their fields
  abbrev one_at : List ℕ → ℕ → ℕ
  one_at t base = get_or t (base + 2 * get_or (ones_of (kind_at e)) i 0) 0

  abbrev other_at : List ℕ → ℕ → ℕ
  other_at t base = get_or t (base + 2 * get_or (others_of (kind_at e)) i 0) 0

  module _ (t : List ℕ) (base : ℕ) where
    one_there : get_or (standing (length (fields_of (kind_at e))) t base) (get_or (ones_of (kind_at e)) i 0) false ≡ not (eqb (one_at t base) 0)
    unfolding count_of
    one_there = standing_at (length (fields_of (kind_at e))) t base (get_or (ones_of (kind_at e)) i 0) one_within

    other_there : get_or (standing (length (fields_of (kind_at e))) t base) (get_or (others_of (kind_at e)) i 0) false ≡ not (eqb (other_at t base) 0)
    unfolding count_of
    other_there = standing_at (length (fields_of (kind_at e))) t base (get_or (others_of (kind_at e)) i 0) other_within

    -- both stand in the tag, or what is left is asked
    clash_turn : pairs_from i t base ≡ (not (eqb (one_at t base) 0) && not (eqb (other_at t base) 0)) || pairs_from (i + 1) t base
    clash_turn = pair_more (ones_of (kind_at e)) (others_of (kind_at e)) (standing (length (fields_of (kind_at e))) t base) i ones_long others_long ∙ rw (one_there, other_there)

    -- the one is not there
    pub clash_no_one : one_at t base ≡ 0 → pairs_from i t base ≡ pairs_from (i + 1) t base
    clash_no_one z = clash_turn ∙ rw (eq-eqb (one_at t base) 0 z)

    -- the other is not there
    pub clash_no_other : other_at t base ≡ 0 → pairs_from i t base ≡ pairs_from (i + 1) t base
    clash_no_other z = clash_turn ∙ rw (eq-eqb (other_at t base) 0 z) (no_matter (not (eqb (one_at t base) 0)) (pairs_from (i + 1) t base))

    -- both are there
    pub clash_both : (one_at t base ≡ 0 → ⊥) → (other_at t base ≡ 0 → ⊥) → pairs_from i t base ≡ true
    clash_both y z = clash_turn ∙ rw (ne_eqb (one_at t base) 0 y, ne_eqb (other_at t base) 0 z)

-- no pair is left
pub clash_none : (e i : ℕ) (t : List ℕ) (base : ℕ) → length (excluded (kind_at e)) ≤ i
    → clash_there (drop i (ones_of (kind_at e))) (drop i (others_of (kind_at e))) (standing (length (fields_of (kind_at e))) t base) ≡ false
unfolding ones_of
clash_none e i t base l =
    let m = length-map (excluded (kind_at e)) (λ (p : Pair). place_in p.0 (fields_of (kind_at e))) in
    pairs_done (ones_of (kind_at e)) (others_of (kind_at e)) (standing (length (fields_of (kind_at e))) t base) i (omega arith)

-- both letters of a pair are letters of the element
abbrev paired : List Field → Pair → Bool
paired fs p = ltb (place_in p.0 fs) (length fs) && ltb (place_in p.1 fs) (length fs)

all_paired : (k : Kind) → every (paired (fields_of k)) (excluded k) ≡ true
unfolding fields_of
all_paired unknown = refl
all_paired MP = refl
all_paired P = refl
all_paired A = refl
all_paired O = refl
all_paired S = refl
all_paired M = refl
all_paired W = refl
all_paired R = refl
all_paired X = refl

clash_places : (fs : List Field) (l : List Attr) (ps : List Pair) → every (paired fs) ps ≡ true
    → clash_there (map (λ (p : Pair). place_in p.0 fs) ps) (map (λ (p : Pair). place_in p.1 fs) ps) (there_in fs l) ≡ clash ps (names l)
clash_places fs l [] e = refl
clash_places fs l (p ∷ ps) e =
    let (x, y) = both (paired fs p) (every (paired fs) ps) e in
    let (a, b) = both (ltb (place_in p.0 fs) (length fs)) (ltb (place_in p.1 fs) (length fs)) x in
    rw (
      there_place fs l p.0 (ltb-true (place_in p.0 fs) (length fs) a),
      there_place fs l p.1 (ltb-true (place_in p.1 fs) (length fs) b),
      clash_places fs l ps y,
    )

-- two excluded fields are there just when their letters are among the names
pub there_clash : (k : Kind) (t : List ℕ) (i : ℕ) (l : List Attr) → standing (length (fields_of k)) t i ≡ there_in (fields_of k) l → clash_at k t i ≡ clash (excluded k) (names l)
unfolding clash_at ones_of others_of
there_clash k t i l e = rw e (clash_places (fields_of k) l (excluded k) (all_paired k))

-- ---- what the raw values tell of the attributes

-- 7 is the number of one cause only, and no cause has 9
pub seven_value : (o : Option Cause) → flaw_number o ≡ 7 → o ≡ Some Value
seven_value None e = absurd (omega arith)
seven_value (Some Size) e = absurd (omega arith)
seven_value (Some Byte) e = absurd (omega arith)
seven_value (Some Malformed) e = absurd (omega arith)
seven_value (Some OutOfPlace) e = absurd (omega arith)
seven_value (Some Edition) e = absurd (omega arith)
seven_value (Some Value) e = refl
seven_value (Some Incomplete) e = absurd (omega arith)

pub low_cause : (c : Cause) → cause_number c < 9
low_cause Size = omega arith
low_cause Byte = omega arith
low_cause Malformed = omega arith
low_cause OutOfPlace = omega arith
low_cause Edition = omega arith
low_cause Value = omega arith
low_cause Incomplete = omega arith

-- no value breaks its field where the fields' fault is not 7
pub unbroken : (k : Kind) (vs : Slots) (own : ℕ) → own ≡ fields_flaw 9 (fields_of k) vs → (own ≡ 7 → ⊥) → broken (fields_of k) vs ≡ false
unfolding fields_flaw
unbroken k vs own p ne = go (broken (fields_of k) vs) (λ q. ne (p ∙ q))
  where
    go : (a : Bool) → (by_tests a (missing (fields_of k) vs) 9 ≡ 7 → ⊥) → a ≡ false
    go true f = absurd (f refl)
    go false f = refl

module _ {w : List ℕ} {k : Kind} {rs : List ℕ} {l : List Attr} (T : Tells w k rs l) where
  -- the element's slots
  pub told_slots : told w k rs ≡ slots_of (fields_of k) l
  unfolding told
  told_slots = ap (settled_in (fields_of k)) T.raws ∙ sym (slots_found (fields_of k) l)

  -- its excluded pairs
  told_clash : clash_at k rs 0 ≡ clash (excluded k) (names l)
  told_clash = there_clash k rs 0 l T.there

  -- ---- the least fault of the tag

  abbrev vs : Slots
  vs = told w k rs

  abbrev Least : ℕ → Type 0
  Least n = n ≡ flaw k (names l) (slots_of (fields_of k) l)

  -- the edition
  pub flaw_six : true ≡ mp_version k vs → Least 6
  unfolding flaw
  flaw_six e = rw (← told_slots, ← e)

  module _ (e : false ≡ mp_version k vs) (own : ℕ) (p : own ≡ fields_flaw 9 (fields_of k) vs) where
    least_is : (n : ℕ) → n ≡ by_tests (broken (fields_of k) vs || mp_over k vs) (missing (fields_of k) vs || clash_at k rs 0 || mp_half k vs) 9 → Least n
    unfolding flaw
    least_is n q = q ∙ rw (← told_slots, ← e, told_clash)

    -- a value that breaks its field
    pub flaw_seven : own ≡ 7 → Least 7
    unfolding fields_flaw
    flaw_seven q = least_is 7 (go (broken (fields_of k) vs) (missing (fields_of k) vs) (sym p ∙ q))
      where
        go : (a b : Bool) → by_tests a b 9 ≡ 7 → 7 ≡ by_tests (a || mp_over k vs) (b || clash_at k rs 0 || mp_half k vs) 9
        go true b e = refl
        go false true e = absurd (omega arith)
        go false false e = absurd (omega arith)

    module _ (ne : own ≡ 7 → ⊥) where
      whole : broken (fields_of k) vs ≡ false
      whole = unbroken k vs own p ne

      module _ (pages : ℕ) (q : pages ≡ pages_flaw k vs) where
        -- a above z, or one without the other
        pub flaw_pages : pages < 9 → Least pages
        unfolding pages_flaw
        flaw_pages h = least_is pages (q ∙ rw whole (go (mp_over k vs) (mp_half k vs) (missing (fields_of k) vs) (clash_at k rs 0) (subst (λ (n : ℕ). n < 9) q h)))
          where
            go : (o h m c : Bool) → by_tests o h 9 < 9 → by_tests o h 9 ≡ by_tests o (m || c || h) 9
            go true h m c l = refl
            go false true m c l = at m c
              where
                at : (m c : Bool) → by_tests false true 9 ≡ by_tests false (m || c || true) 9
                at true c = refl
                at false true = refl
                at false false = refl
            go false false m c l = absurd (omega arith)

        module _ (nine : 9 ≤ pages) where
          alone : (n : ℕ) → n ≡ by_tests false (missing (fields_of k) vs || clash_at k rs 0 || false) 9 → Least n
          unfolding pages_flaw
          alone n f = least_is n (f ∙ rw whole (go (mp_over k vs) (mp_half k vs) (subst (λ (n : ℕ). 9 ≤ n) q nine)))
            where
              go : (o h : Bool) → 9 ≤ by_tests o h 9 → by_tests false (missing (fields_of k) vs || clash_at k rs 0 || false) 9 ≡ by_tests o (missing (fields_of k) vs || clash_at k rs 0 || h) 9
              go true h l = absurd (omega arith)
              go false true l = absurd (omega arith)
              go false false l = refl

          -- an excluded pair
          pub flaw_clash : true ≡ clash_at k rs 0 → Least 8
          flaw_clash f = alone 8 (rw (← f) (go (missing (fields_of k) vs)))
            where
              go : (m : Bool) → 8 ≡ by_tests false (m || true || false) 9
              go true = refl
              go false = refl

          -- a missing field, or none
          pub flaw_rest : false ≡ clash_at k rs 0 → Least own
          unfolding fields_flaw
          flaw_rest g = alone own (p ∙ rw (whole, ← g) (go (missing (fields_of k) vs)))
            where
              go : (m : Bool) → by_tests false m 9 ≡ by_tests false (m || false || false) 9
              go true = refl
              go false = refl

-- ---- an M that needs a W

module _ {w : List ℕ} {e : ℕ} {rs : List ℕ} {l : List Attr} (T : Tells w (kind_at e) rs l) where
  -- another element
  pub no_need : e < 10 → (e ≡ 6 → ⊥) → false ≡ needs_w (kind_at e) (slots_of (fields_of (kind_at e)) l)
  unfolding needs_w
  no_need h q = rw (not_kind e 6 h q)

  -- an M, by its package number and its name
  pub need_by : e ≡ 6 → is_empty (value (raw_at w rs 0)) && is_empty (value (raw_at w rs 1)) ≡ needs_w (kind_at e) (slots_of (fields_of (kind_at e)) l)
  unfolding needs_w
  need_by q = rw (← told_slots T, is_medication_lem e q, package_slot w rs, name_slot w rs)
