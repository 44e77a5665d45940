-- Numbered: the spans of a head and of a row, found again among their numbers.
-- Assumes nothing.
use mathlib.Core.Path.{◌≡◌, refl, sym, ap, ◌∙◌}
use mathlib.Core.Bool.{Bool, true}
use mathlib.Core.List.{List, [], ◌∷◌}
use Prim.Native.Nat.{ℕ, zero, suc, ◌+◌, ◌*◌, ◌≤◌, ◌<◌}
use native.Mathlib.Omega.{arith}
use lib.ListN.{length, take, drop, get_or}
use borrow.Author.Tests.{ne_eqb, leb-true}
use Rattle.paper.specs.Lists.{every}
use Rattle.paper.specs.Layout.{Span, shown_all}
use Rattle.room.specs.Numbered.{span_at, spans_at}
use Rattle.plan.specs.Numbers.{record_at, span_in, spans_in, spans_of, span_place, flat, head_numbers, within, in_text}
use Rattle.plan.proofs.Records.{record_number}
use Rattle.plan.proofs.Spans.{shown_part, every_part, spans_part}
use Rattle.plan.proofs.Spans as Spans

-- a present span lies within the text
pub span_inside : (n from len : ℕ) → (len ≡ 0 → ⊥) → within n (record { at = from; len = len }) ≡ true → from + len ≤ n
span_inside n from len h e = leb-true (from + len) n (rw (ne_eqb len 0 h) at e)

-- ---- the spans are found again among their numbers

shift : (n k x y : ℕ) (l : List ℕ) → spans_at n (suc (suc k)) (x ∷ y ∷ l) ≡ spans_at n k l
unfolding spans_at
shift zero k x y l = refl
shift (suc n) k x y l = ap (λ (r : List Span). span_at l k ∷ r) (shift n (suc (suc k)) x y l)

behind_two : (ss : List Span) (j n : ℕ) → j + n ≤ length ss → spans_at n (2 * j) (flat ss) ≡ take n (drop j ss)
unfolding spans_at
behind_two ss zero zero h = refl
behind_two [] zero (suc n) h = absurd (omega arith)
behind_two (s ∷ ss) zero (suc n) h = ap (λ (r : List Span). s ∷ r) (shift n 0 s.at s.len (flat ss) ∙ behind_two ss zero n (omega arith))
behind_two [] (suc j) n h = absurd (omega arith)
behind_two (s ∷ ss) (suc j) n h =
    let e : 2 * suc j ≡ suc (suc (2 * j)) = omega arith in
    ap (λ (k : ℕ). spans_at n k (flat (s ∷ ss))) e ∙ shift n (2 * j) s.at s.len (flat ss) ∙ behind_two ss j n (omega arith)

-- n spans from span j on
pub spans_flat : (ss : List Span) (j n : ℕ) → j + n ≤ length ss → spans_at n (2 + 2 * j) (head_numbers ss) ≡ take n (drop j ss)
spans_flat ss j n h = let e : 2 + 2 * j ≡ suc (suc (2 * j)) = omega arith in ap (λ (k : ℕ). spans_at n k (head_numbers ss)) e ∙ shift n (2 * j) 0 0 (flat ss) ∙ behind_two ss j n h

-- ---- parts of what spans show

-- the values of n spans from span j on
pub part_shown : (t : List ℕ) (ss : List Span) (j n : ℕ) → j + n ≤ length ss → take n (drop j (shown_all t ss)) ≡ shown_all t (spans_at n (2 + 2 * j) (head_numbers ss))
part_shown t ss j n h = shown_part t ss j n ∙ ap (shown_all t) (sym (spans_flat ss j n h))

-- what holds of all spans holds of n of them from span j on
pub part_every : (p : Span → Bool) (ss : List Span) (j n : ℕ) → j + n ≤ length ss → every p ss ≡ true → every p (spans_at n (2 + 2 * j) (head_numbers ss)) ≡ true
part_every p ss j n h e = ap (every p) (spans_flat ss j n h) ∙ every_part p ss j n e

-- the first two values
pub two_first : (t : List ℕ) (ss : List Span) → 2 ≤ length ss → get_or (shown_all t ss) 0 [] ∷ get_or (shown_all t ss) 1 [] ∷ [] ≡ take 2 (shown_all t ss)
two_first t [] h = absurd (omega arith)
two_first t (s ∷ []) h = absurd (omega arith)
two_first t (s ∷ r ∷ ss) h = refl

-- ---- the spans of a record among the numbers of the rows

span_at_place : (rows : List ℕ) (i j : ℕ) → j < 19 → span_in (record_at rows i) j ≡ span_at rows (span_place i j)
span_at_place rows i j h =
    let a : i * 48 + (2 + 2 * j) ≡ span_place i j = omega arith in
    let b : i * 48 + (3 + 2 * j) ≡ suc (span_place i j) = omega arith in
    let x = record_number rows i (2 + 2 * j) (omega arith) ∙ ap (λ (k : ℕ). get_or rows k 0) a in
    let y = record_number rows i (3 + 2 * j) (omega arith) ∙ ap (λ (k : ℕ). get_or rows k 0) b in
    ap (λ (k : ℕ). record { at = k; len = get_or (record_at rows i) (3 + 2 * j) 0 }) x ∙ ap (λ (k : ℕ). record { at = get_or rows (span_place i j) 0; len = k }) y

-- n spans of a record, from span j on
spans_in_place : (rows : List ℕ) (i n j : ℕ) → j + n ≤ 19 → spans_in n j (record_at rows i) ≡ spans_at n (span_place i j) rows
unfolding spans_in spans_at
spans_in_place rows i zero j h = refl
spans_in_place rows i (suc n) j h =
    let e : span_place i (suc j) ≡ suc (suc (span_place i j)) = omega arith in
    ap (λ (s : Span). s ∷ spans_in n (suc j) (record_at rows i)) (span_at_place rows i j (omega arith))
    ∙ ap (λ (r : List Span). span_at rows (span_place i j) ∷ r) (spans_in_place rows i n (suc j) (omega arith) ∙ ap (λ (k : ℕ). spans_at n k rows) e)

-- the spans of a row that points nowhere outside the text lie within it
pub spans_inside : (t rows : List ℕ) (i n j : ℕ) → j + n ≤ 19 → in_text t (record_at rows i) ≡ true → every (within (length t)) (spans_at n (span_place i j) rows) ≡ true
unfolding in_text
spans_inside t rows i n j h e =
    let l : List ℕ = record_at rows i in
    let z : 0 + j ≡ j = omega arith in
    let own : take n (drop j (spans_of l)) ≡ spans_at n (span_place i j) rows = spans_part l 19 j n 0 h ∙ ap (λ (k : ℕ). spans_in n k l) z ∙ spans_in_place rows i n j h in
    ap (every (within (length t))) (sym own) ∙ every_part (within (length t)) (spans_of l) j n e

-- the values of n spans of a record, from span j on
pub part_of_row : (t rows : List ℕ) (i n j : ℕ) → j + n ≤ 19 → take n (drop j (shown_all t (spans_of (record_at rows i)))) ≡ shown_all t (spans_at n (span_place i j) rows)
part_of_row t rows i n j h =
    let z : 0 + j ≡ j = omega arith in
    Spans.part_shown (record_at rows i) t 19 j n 0 h ∙ ap (λ (k : ℕ). shown_all t (spans_in n k (record_at rows i))) z ∙ ap (shown_all t) (spans_in_place rows i n j h)
