-- What the reader lays into the text room is found again at its spans, whatever stands before it and behind it.
-- Assumes nothing.
use mathlib.Core.Path.{◌≡◌, refl, ap, sym, ◌∙◌}
use mathlib.Core.List.{List, [], ◌∷◌, ◌++◌, append_assoc}
use Prim.Native.Nat.{ℕ, suc, ◌+◌, ◌≤◌}
use native.Mathlib.Omega.{arith}
use lib.ListN.{length, length-append, take}
use lib.Seq.{take-append_seam, drop-append_seam}
use Rattle.paper.specs.Lists.{concat}
use Rattle.paper.specs.Plan.{Slots, Plan}
use Rattle.paper.specs.Layout.{Span, span_at, spans_from, shown, shown_all, plan_values, text_of}

-- one value is shown by its span
shown_one : (pre v post : List ℕ) → shown (pre ++ (v ++ post)) (span_at (length pre) v) ≡ v
shown_one pre [] post = refl
shown_one pre (c ∷ v) post = ap (take (suc (length v))) (drop-append_seam pre ((c ∷ v) ++ post)) ∙ take-append_seam (c ∷ v) post

-- Values that are laid without gaps behind any bytes, and before any others, are all shown by their spans.
pub laid : (pre : List ℕ) (vs : Slots) (post : List ℕ) → shown_all (pre ++ (concat vs ++ post)) (spans_from (length pre) vs) ≡ vs
laid pre [] post = refl
laid pre (v ∷ vs) post =
    let first : shown (pre ++ ((v ++ concat vs) ++ post)) (span_at (length pre) v) ≡ v =
    ap (λ (t : List ℕ). shown (pre ++ t) (span_at (length pre) v)) (append_assoc v (concat vs) post) ∙ shown_one pre v (concat vs ++ post) in
    let text : pre ++ ((v ++ concat vs) ++ post) ≡ (pre ++ v) ++ (concat vs ++ post) =
    ap (λ (t : List ℕ). pre ++ t) (append_assoc v (concat vs) post) ∙ sym (append_assoc pre v (concat vs ++ post)) in
    let others : shown_all (pre ++ ((v ++ concat vs) ++ post)) (spans_from (length pre + length v) vs) ≡ vs =
    ap (λ (t : List ℕ). shown_all t (spans_from (length pre + length v) vs)) text
    ∙ ap (λ (n : ℕ). shown_all ((pre ++ v) ++ (concat vs ++ post)) (spans_from n vs)) (sym (length-append pre v))
    ∙ laid (pre ++ v) vs post in
    rw (first, others)

-- every span ends within the first n bytes of a text
abbrev pub Inside : ℕ → List Span → Type 0
Inside n [] = Unit {0}
Inside n (s ∷ ss) = (s.at + s.len ≤ n) × Inside n ss

-- the span of a value laid at n ends where the value does, or at 0
one_inside : (n k : ℕ) (v : List ℕ) → n + length v ≤ k → (span_at n v).at + (span_at n v).len ≤ k
one_inside n k [] h = omega arith
one_inside n k (c ∷ v) h = omega arith

-- Every span of values that are laid from n on ends where the last of them does, or before.
pub laid_inside : (n k : ℕ) (vs : Slots) → n + length (concat vs) ≤ k → Inside k (spans_from n vs)
laid_inside n k [] h = tt
laid_inside n k (v ∷ vs) h =
    (one_inside n k v (omega (arith, length-append v (concat vs))), laid_inside (n + length v) k vs (omega (arith, length-append v (concat vs))))

-- A plan's values are found again in its text, whatever the room holds beyond it.
pub plan_laid : (p : Plan) (rest : List ℕ) → shown_all (text_of p ++ rest) (spans_from 0 (plan_values p)) ≡ plan_values p
unfolding text_of
plan_laid p rest = laid [] (plan_values p) rest

-- Every span of a plan's values lies within its text.
pub plan_inside : (p : Plan) → Inside (length (text_of p)) (spans_from 0 (plan_values p))
unfolding text_of
plan_inside p = laid_inside 0 (length (concat (plan_values p))) (plan_values p) (omega arith)
