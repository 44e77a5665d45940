-- Doses: the dose that the code finds in a medication's record is, shown in the text, document 01's dose of the row.
-- Assumes nothing.
use mathlib.Core.Path.{◌≡◌, refl, sym, ap, ◌∙◌}
use mathlib.Core.Bool.{Bool, true, false, ◌&&◌, ◌||◌}
use mathlib.Core.List.{List, [], ◌∷◌}
use Prim.Native.Nat.{ℕ, zero, suc, ◌+◌, ◌≤◌, ◌<◌}
use native.Mathlib.Nat.{zero-add, not-suc-le-zero, le_of_suc-le-suc}
use native.Mathlib.Omega.{arith}
use lib.Dec.{eqb, leb}
use lib.ListN.{length, take, drop, get_or, length-drop}
use borrow.Author.Tests.{leb-true, ne_eqb}
use Rattle.paper.specs.Lists.{if, every, is_empty}
use Rattle.paper.specs.Fields.{Kind, M, fields_of}
use Rattle.paper.specs.Judging.{all_empty}
use Rattle.paper.specs.Plan.{Dose, scheme, free_text, unstated, timed, dose_from, dose_of}
use Rattle.paper.specs.Layout.{Span, shown, shown_all}
use Rattle.paper.proofs.Small.{both}
use Rattle.plan.specs.declared.Times.{Times}
use Rattle.plan.specs.declared.Dose as Code
use Rattle.plan.specs.declared.Dose.TheVariants.{Scheme, Free, Unstated}
use Rattle.plan.specs.Numbers.{span_in, spans_in, spans_of, kind_shown, row_with, show_row, absent, within, in_text, code_span}
use Rattle.plan.specs.Records.{dose_in, paper_dose}
use Rattle.plan.specs.Records as R

-- a span within the text shows nothing exactly when it is absent
pub shows : (t : List ℕ) (s : Span) → within (length t) s ≡ true → is_empty (shown t s) ≡ absent s
shows t s w = go s.at s.len w
  where
    some : (l : List ℕ) (n : ℕ) → 1 ≤ length l → is_empty (take (suc n) l) ≡ false
    some [] n h = absurd (not-suc-le-zero h)
    some (x ∷ l) n h = refl

    go : (a n : ℕ) → (eqb n 0 || leb (a + n) (length t)) ≡ true → is_empty (take n (drop a t)) ≡ eqb n 0
    go a zero w = refl
    go a (suc n) w =
        let e : eqb (suc n) 0 ≡ false = ne_eqb (suc n) 0 (omega arith) in
        let f : leb (a + suc n) (length t) ≡ true = rw e at w in
        some (drop a t) n (simp length-drop (omega (arith, leb-true (a + suc n) (length t) f))) ∙ sym e

-- and so for spans
pub all_empty_lem : (t : List ℕ) (ss : List Span) → every (within (length t)) ss ≡ true → all_empty (shown_all t ss) ≡ every absent ss
all_empty_lem t [] e = refl
all_empty_lem t (s ∷ ss) e = let (a, b) = both (within (length t) s) (every (within (length t)) ss) e in rw (shows t s a, all_empty_lem t ss b)

-- document 01's dose, by tests
by_tests : (m d v h x : List ℕ) → dose_from m d v h x ≡ if (is_empty x) (timed m d v h) (free_text x)
by_tests m d v h [] = refl
by_tests m d v h (c ∷ x) = refl

-- a dose shown after a test is one of two doses shown
through : (t : List ℕ) (b : Bool) (x y : Code.Dose) → paper_dose t (if b x y) ≡ if b (paper_dose t x) (paper_dose t y)
through t true x y = refl
through t false x y = refl

-- five spans within the text make, shown, the dose of the five values that they show
dose_shown_lem : (t : List ℕ) (m d v h x : Span) → within (length t) m ≡ true → within (length t) d ≡ true → within (length t) v ≡ true → within (length t) h ≡ true → within (length t) x ≡ true
    → paper_dose t (R.dose_from (record { morning = code_span m; midday = code_span d; evening = code_span v; night = code_span h }) (code_span x)) ≡ dose_from (shown t m) (shown t d) (shown t v) (shown t h) (shown t x)
dose_shown_lem t m d v h x wm wd wv wh wx =
    let times : Times = record { morning = code_span m; midday = code_span d; evening = code_span v; night = code_span h } in
    let all : Bool = absent m && (absent d && (absent v && absent h)) in
    let free : Dose = free_text (shown t x) in
    let mine : paper_dose t (R.dose_from times (code_span x)) ≡ if (absent x) (if all unstated (scheme (shown t m) (shown t d) (shown t v) (shown t h))) free =
    through t (absent x) (R.timed times) (Free (code_span x)) ∙ ap (λ (y : Dose). if (absent x) y free) (through t all Unstated (Scheme times)) in
    mine ∙ sym (by_tests (shown t m) (shown t d) (shown t v) (shown t h) (shown t x) ∙ rw (shows t m wm, shows t d wd, shows t v wv, shows t h wh, shows t x wx))

-- what holds of every span of a record holds of each
pub each_span : (p : Span → Bool) (n j : ℕ) (l : List ℕ) → every p (spans_in n j l) ≡ true → (k : ℕ) → k < n → p (span_in l (j + k)) ≡ true
unfolding spans_in
each_span p zero j l e k h = absurd (not-suc-le-zero h)
each_span p (suc n) j l e zero h = let z : j + 0 ≡ j = omega arith in ap (λ (i : ℕ). p (span_in l i)) z ∙ (both (p (span_in l j)) (every p (spans_in n (suc j) l)) e).0
each_span p (suc n) j l e (suc k) h =
    let z : j + suc k ≡ suc j + k = omega arith in
    ap (λ (i : ℕ). p (span_in l i)) z ∙ each_span p n (suc j) l (both (p (span_in l j)) (every p (spans_in n (suc j) l)) e).1 k (le_of_suc-le-suc h)

-- document 01's dose of a medication with 19 values goes by values 3 to 7
dose_values : (n : ℕ) (t l : List ℕ) → dose_of (row_with M n (shown_all t (spans_of l))) ≡ dose_from (shown t (span_in l 3)) (shown t (span_in l 4)) (shown t (span_in l 5)) (shown t (span_in l 6)) (shown t (span_in l 7))
unfolding fields_of spans_in
dose_values n t l = refl

-- the row that a medication's record shows
medication_shown : (t l : List ℕ) → kind_shown (get_or l 0 0) ≡ M → show_row t l ≡ row_with M (get_or l 1 0) (shown_all t (spans_of l))
unfolding show_row
medication_shown t l e = ap (λ (k : Kind). row_with k (get_or l 1 0) (shown_all t (spans_of l))) e

-- the dose of a medication's record is, shown in the text, document 01's dose of the row that the record shows
pub dose_is : (t l : List ℕ) → kind_shown (get_or l 0 0) ≡ M → in_text t l ≡ true → paper_dose t (dose_in l) ≡ dose_of (show_row t l)
unfolding in_text
dose_is t l e w =
    let lies : (j : ℕ) → j < 8 → within (length t) (span_in l j) ≡ true = λ j h. ap (λ (k : ℕ). within (length t) (span_in l k)) (sym (zero-add j)) ∙ each_span (within (length t)) _ 0 l w j (omega arith) in
    dose_shown_lem t (span_in l 3) (span_in l 4) (span_in l 5) (span_in l 6) (span_in l 7) (lies 3 (omega arith)) (lies 4 (omega arith)) (lies 5 (omega arith)) (lies 6 (omega arith)) (lies 7 (omega arith))
    ∙ sym (dose_values (get_or l 1 0) t l)
    ∙ ap dose_of (sym (medication_shown t l e))
