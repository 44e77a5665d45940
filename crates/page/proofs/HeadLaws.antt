-- HeadLaws: the first element of a kind, the values of MP by their places, and a head laid run by run.
-- Assumes nothing.
use mathlib.Core.Path.{◌≡◌, refl, sym, ap, ◌∙◌, subst}
use mathlib.Core.Bool.{Bool, true, false, not, ◌&&◌}
use mathlib.Core.Option.{Option, none, some}
use mathlib.Core.List.{List, [], ◌∷◌, ◌++◌, map, append-nil}
use Prim.Native.Nat.{ℕ, zero, suc, ◌+◌, ◌*◌, ◌-◌, ◌≤◌, ◌<◌}
use native.Mathlib.Nat.{zero-add}
use native.Mathlib.Omega.{arith}
use lib.Dec.{leb}
use lib.ListN.{length, get_or, length-append}
use lib.Seq.{drop-length}
use borrow.Author.Tests.{leb-true}
use Rattle.paper.specs.Lists.{bytes, if, every, count, number}
use Rattle.paper.specs.Bytes.{is_decoded}
use Rattle.paper.specs.Grammar.{Attr, Tag, start, end}
use Rattle.paper.specs.Fields.{Kind, MP, P, A, O, is, Field, fields_of, page_no}
use Rattle.paper.specs.Rules.{obeys, keeps}
use Rattle.paper.specs.Plan.{Slots, Head, slot, blank}
use Rattle.paper.specs.Judging.{slots_of, breaks, broken, or}
use Rattle.paper.specs.Layout.{Span, spans_from, head_values}
use Rattle.paper.proofs.Small.{no, both, neither}
use Rattle.paper.proofs.Element.{settled_nil}
use Rattle.paper.proofs.Told.{is_eq}
use Rattle.room.specs.Laid.{laid}
use Rattle.fields.specs.Places.{no_field, field_at, first_of, count_of, kind_at}
use Rattle.fields.proofs.TableLaws.{field_at_lem}
use Rattle.plan.specs.Numbers.{flat, code_span, head_spans}
use Rattle.plan.proofs.Shown.{HeadShape, spans_count}
use Rattle.plan.specs.declared.Span as Code
use Rattle.sheet.specs.Fold.{strange}
use Rattle.sheet.specs.Content.{kind_named, attrs_of_first, slots_from, part_from, head_from}
use Rattle.sheet.specs.Fit.{Sound, Fit}
use Rattle.page.specs.Laying.{Room, Lays, pairs}
use Rattle.page.proofs.ContentLaws.{flat_long, room_behind, numbers_kept, placed_at, behind}

-- ---- the first element of a kind

-- the attributes of an element, none if it is not there
abbrev attrs_if : Option (List Attr) → List Attr
attrs_if none = []
attrs_if (some l) = l

broken_nil : (fs : List Field) → broken fs (slots_of fs []) ≡ false
broken_nil [] = refl
broken_nil (f ∷ fs) = rw (settled_nil f) (broken_nil fs)

sound_nil : (k : Kind) → Sound k []
unfolding strange
sound_nil k = record { known = refl; kept = broken_nil (fields_of k) }

-- the first element of a kind is sound, where all are
pub sound_first : (k : Kind) (ts : List Tag) → Fit ts → Sound k (attrs_if (attrs_of_first k ts))
unfolding attrs_of_first
sound_first k [] f = sound_nil k
sound_first k (end ∷ ts) f = sound_first k ts f
sound_first k (start i n l ∷ ts) f = go (is (kind_named n) k) refl (sound_first k ts f.2)
  where
    go : (b : Bool) → is (kind_named n) k ≡ b → Sound k (attrs_if (attrs_of_first k ts)) → Sound k (attrs_if (if b (some l) (attrs_of_first k ts)))
    go true e h = subst (λ (q : Kind). Sound q l) (is_eq (kind_named n) k e) f.0
    go false e h = h

slots_nil : (fs : List Field) → slots_of fs [] ≡ blank fs
slots_nil [] = refl
slots_nil (f ∷ fs) = rw (settled_nil f, slots_nil fs)

-- its slots
pub part_slots : (k : Kind) (ts : List Tag) → slots_of (fields_of k) (attrs_if (attrs_of_first k ts)) ≡ part_from k ts
unfolding part_from
part_slots k ts = go (attrs_of_first k ts)
  where
    go : (o : Option (List Attr)) → slots_of (fields_of k) (attrs_if o) ≡ slots_from k o
    go none = slots_nil (fields_of k)
    go (some l) = refl

pub slots_long : (fs : List Field) (l : List Attr) → length (slots_of fs l) ≡ length fs
slots_long [] l = refl
slots_long (f ∷ fs) l = ap suc (slots_long fs l)

pub part_long : (k : Kind) (ts : List Tag) → length (part_from k ts) ≡ count_of k
unfolding count_of
part_long k ts = ap length (sym (part_slots k ts)) ∙ slots_long (fields_of k) (attrs_if (attrs_of_first k ts))

-- no value of it breaks its field
pub part_kept : (k : Kind) (ts : List Tag) → Fit ts → broken (fields_of k) (part_from k ts) ≡ false
part_kept k ts f = ap (broken (fields_of k)) (sym (part_slots k ts)) ∙ (sound_first k ts f).kept

-- ---- values that keep their fields

empty_of : (v : List ℕ) → length v ≡ 0 → v ≡ []
empty_of [] h = refl
empty_of (c ∷ v) h = absurd (omega arith)

pub kept_at : (fs : List Field) (vs : Slots) (j : ℕ) → broken fs vs ≡ false → j < length fs → breaks (get_or fs j no_field) (get_or vs j []) ≡ false
kept_at [] vs j e h = absurd (omega arith)
kept_at (f ∷ fs) [] j e h = refl
kept_at (f ∷ fs) (v ∷ vs) zero e h = (neither (breaks f v) (broken fs vs) e).0
kept_at (f ∷ fs) (v ∷ vs) (suc j) e h = kept_at fs vs j (neither (breaks f v) (broken fs vs) e).1 (omega arith)

-- a test that failed, by its negation
pub not_false : (b : Bool) → not b ≡ false → b ≡ true
not_false true e = refl
not_false false e = no e

-- a present value that does not break its field keeps it
pub keeps_it : (f : Field) (c : ℕ) (v : List ℕ) → breaks f (c ∷ v) ≡ false → keeps f (c ∷ v) ≡ true
keeps_it f c v e = not_false (keeps f (c ∷ v)) e

pub short_kept : (f : Field) (v : List ℕ) → breaks f v ≡ false → length v ≤ f.most
short_kept f [] e = omega arith
short_kept f (c ∷ v) e =
    let k = keeps_it f c v e in
    let a = (both (every is_decoded (c ∷ v)) _ k).1 in
    let b = (both (leb f.least (length (c ∷ v))) _ a).1 in
    let d = (both (leb (length (c ∷ v)) f.most) _ b).0 in
    leb-true (length (c ∷ v)) f.most d

-- ---- MP

-- the values of MP by their places
pub record ByPlace (vs : Slots) : Type 0 where
  pub p_is : slot (bytes "p") (fields_of MP) vs ≡ get_or vs 1 []
  pub u_is : slot (bytes "U") (fields_of MP) vs ≡ get_or vs 2 []
  pub l_is : slot (bytes "l") (fields_of MP) vs ≡ get_or vs 3 []
  pub a_is : slot (bytes "a") (fields_of MP) vs ≡ get_or vs 4 []
  pub z_is : slot (bytes "z") (fields_of MP) vs ≡ get_or vs 5 []

pub by_place : (vs : Slots) → length vs ≡ 6 → ByPlace vs
unfolding fields_of
by_place [] h = absurd (omega arith)
by_place (v ∷ []) h = absurd (omega arith)
by_place (v ∷ p ∷ []) h = absurd (omega arith)
by_place (v ∷ p ∷ u ∷ []) h = absurd (omega arith)
by_place (v ∷ p ∷ u ∷ l ∷ []) h = absurd (omega arith)
by_place (v ∷ p ∷ u ∷ l ∷ a ∷ []) h = absurd (omega arith)
by_place (v ∷ p ∷ u ∷ l ∷ a ∷ z ∷ vs) h = record { p_is = refl; u_is = refl; l_is = refl; a_is = refl; z_is = refl }

pub mp_place : (ts : List Tag) → ByPlace (part_from MP ts)
unfolding count_of fields_of
mp_place ts = by_place (part_from MP ts) (part_long MP ts)

mp_count : count_of MP ≡ 6
unfolding count_of fields_of
mp_count = refl

mp_long : length (fields_of MP) ≡ 6
unfolding fields_of
mp_long = refl

mp_first : first_of MP ≡ 0
unfolding first_of fields_of
mp_first = refl

mp_field : (j : ℕ) → j < 6 → get_or (fields_of MP) j no_field ≡ field_at j
mp_field j h = field_at_lem MP j (omega (arith, mp_count)) ∙ ap field_at (ap (λ (n : ℕ). n + j) mp_first ∙ zero-add j)

-- they do not break their fields
pub mp_kept : (ts : List Tag) (j : ℕ) → Fit ts → j < 6 → breaks (field_at j) (get_or (part_from MP ts) j []) ≡ false
mp_kept ts j f h =
    ap (λ (x : Field). breaks x (get_or (part_from MP ts) j [])) (sym (mp_field j h))
    ∙ kept_at (fields_of MP) (part_from MP ts) j (part_kept MP ts f) (omega (arith, mp_long))

-- U and l of the head
pub ident_is : (ts : List Tag) → (head_from ts).ident ∷ [] ≡ get_or (part_from MP ts) 2 [] ∷ []
unfolding head_from
ident_is ts = rw (mp_place ts).u_is

pub lang_is : (ts : List Tag) → (head_from ts).lang ∷ [] ≡ or (get_or (part_from MP ts) 3 []) (bytes "de-DE") ∷ []
unfolding head_from
lang_is ts = rw (mp_place ts).l_is

-- ---- page numbers

-- a page number's value is empty, or shows a number above 0
pub numbered : (f : Field) (v : List ℕ) (n r : ℕ) → f.rule ≡ page_no → f.most ≡ 1 → breaks f v ≡ false → n ≡ number 0 v → (n ≡ 0 → r ≡ 1) → ((n ≡ 0 → ⊥) → r ≡ n)
    → r ≡ number 0 (or v (bytes "1"))
numbered f [] n r q m b e g h = g e
numbered f (c ∷ v) n r q m b e g h =
    let s = short_kept f (c ∷ v) b in
    let z : v ≡ [] = empty_of v (omega arith) in
    let k1 = (both (every is_decoded (c ∷ v)) _ (keeps_it f c v b)).1 in
    let k2 = (both (leb f.least (length (c ∷ v))) _ k1).1 in
    let k3 = (both (leb (length (c ∷ v)) f.most) _ k2).1 in
    let k4 : obeys f.rule (c ∷ v) ≡ true = (both (leb (count 126 (c ∷ v)) f.tildes) (obeys f.rule (c ∷ v)) k3).1 in
    let k5 : obeys page_no (c ∷ v) ≡ true = rw q at k4 in
    let k6 = (both (leb 49 c && leb c 57) _ k5).0 in
    let k7 = leb-true 49 c (both (leb 49 c) (leb c 57) k6).0 in
    let d : n ≡ 0 * 10 + (c - 48) = e ∙ ap (λ (x : List ℕ). number 0 (c ∷ x)) z in
    h (λ y. omega arith) ∙ e

-- ---- a head laid run by run

p_count : count_of P ≡ 8
unfolding count_of fields_of
p_count = refl

a_count : count_of A ≡ 10
unfolding count_of fields_of
a_count = refl

o_count : count_of O ≡ 7
unfolding count_of fields_of
o_count = refl

-- the numbers have room for the spans of P, A and O
pub p_room : count_of (kind_at 2) ≡ 8
unfolding kind_at
p_room = p_count

pub a_room : count_of (kind_at 3) ≡ 10
unfolding kind_at
a_room = a_count

pub o_room : count_of (kind_at 4) ≡ 7
unfolding kind_at
o_room = o_count

-- a page's head has as many values as its elements have fields
pub head_full : (ts : List Tag) → HeadShape (head_from ts)
unfolding head_from
head_full ts = record { person_long = part_long P ts ∙ p_count; author_long = part_long A ts ∙ a_count; measures_long = part_long O ts ∙ o_count }

-- the patch
pub patch_is : (ts : List Tag) → (head_from ts).patch ≡ number 0 (get_or (part_from MP ts) 1 [])
unfolding head_from
patch_is ts = rw (mp_place ts).p_is

-- the first of its two runs is U and l, the others are P, A and O
pub head_laid : (h : Head) {text text₁ text₂ text₃ text₄ : List ℕ} {n m p a e : ℕ} {numbers numbers₁ numbers₂ numbers₃ numbers₄ : List ℕ}
    → HeadShape h → length numbers ≡ 54 → Room (head_values h) text n
    → Lays (h.ident ∷ h.lang ∷ []) text text₁ n m numbers numbers₁ 0 → Lays h.person text₁ text₂ m p numbers₁ numbers₂ 4
    → Lays h.author text₂ text₃ p a numbers₂ numbers₃ 20 → Lays h.measures text₃ text₄ a e numbers₃ numbers₄ 40
    → Lays (head_values h) text text₄ n e numbers numbers₄ 0
head_laid h {numbers = numbers} H w Q L₁ L₂ L₃ L₄ =
    let x = H.person_long in
    let y = H.author_long in
    let z = H.measures_long in
    let u : Slots = h.ident ∷ h.lang ∷ [] in
    let l₁ = numbers_kept L₁ (omega arith) in
    let l₂ = numbers_kept L₂ (omega arith) in
    let l₃ = numbers_kept L₃ (omega arith) in
    let Q₁ : Room (h.person ++ (h.author ++ h.measures)) _ _ = room_behind u (h.person ++ (h.author ++ h.measures)) Q L₁ in
    let Q₂ = room_behind h.person (h.author ++ h.measures) Q₁ L₂ in
    let s₂ = length-append h.person (h.author ++ h.measures) in
    let s₃ = length-append h.author h.measures in
    let B₃ = behind L₃ (placed_at (omega arith) L₄) Q₂ (omega arith) in
    let B₂ = behind L₂ (placed_at (omega arith) B₃) Q₁ (omega arith) in
    behind L₁ B₂ Q (omega arith)

pairs_flat : (ss : List Span) → pairs (length ss) (flat ss) ≡ map code_span ss
pairs_flat [] = refl
pairs_flat (s ∷ ss) = ap (λ (l : List Code.Span). code_span s ∷ l) (pairs_flat ss)

-- numbers that are as many as those laid are just these
whole_laid : (xs p : List ℕ) → length p ≡ length xs → laid xs 0 p ≡ p
whole_laid xs p h =
    let e : 0 + length p ≡ length xs = omega arith in
    rw (e, drop-length xs) (append-nil p)

-- a head has 27 values
values_long : (h : Head) → HeadShape h → length (head_values h) ≡ 27
values_long h H =
    let x = H.person_long in
    let y = H.author_long in
    let z = H.measures_long in
    omega (arith, length-append h.person (h.author ++ h.measures), length-append h.author h.measures)

-- the spans of the head, from its numbers
pub head_spans_lem : (h : Head) (n : ℕ) (numbers numbers' : List ℕ) (ss : List Code.Span) → HeadShape h → length numbers ≡ 54 → numbers' ≡ laid numbers 0 (flat (spans_from n (head_values h)))
    → ss ≡ pairs 27 numbers' → ss ≡ head_spans n h
head_spans_lem h n numbers numbers' ss H y e f =
    let x = values_long h H in
    let l : length (flat (spans_from n (head_values h))) ≡ length numbers = flat_long n (head_values h) ∙ omega arith in
    let q : numbers' ≡ flat (spans_from n (head_values h)) = e ∙ whole_laid numbers (flat (spans_from n (head_values h))) l in
    let s : length (spans_from n (head_values h)) ≡ 27 = spans_count n (head_values h) ∙ x in
    f ∙ ap (pairs 27) q ∙ ap (λ (k : ℕ). pairs k (flat (spans_from n (head_values h)))) (sym s) ∙ pairs_flat (spans_from n (head_values h))
