-- Flat: the spans of a head as numbers, and the lines of the head that these numbers give.
-- Assumes nothing.
use mathlib.Core.Path.{◌≡◌, refl, ap, ◌∙◌}
use mathlib.Core.List.{List, [], ◌∷◌, ◌++◌, map}
use Prim.Native.Nat.{ℕ, suc}
use native.Mathlib.Omega.{arith}
use lib.ListN.{length, get_or}
use Rattle.paper.specs.Lists.{bytes}
use Rattle.paper.specs.Fields.{MP, edition, Field, fields_of}
use Rattle.paper.specs.Plan.{Slots}
use Rattle.paper.specs.Layout.{Span, shown_all}
use Rattle.paper.specs.Writing.{decimal}
use Rattle.paper.specs.Listing.{Line, line, path, field_lines, head_lines}
use Rattle.fields.specs.Places.{no_field, fields_from}
use Rattle.plan.specs.Numbers.{paper_span, head_numbers, head_with}
use Rattle.plan.specs.declared.Span as Code
use Rattle.listing.specs.Numbered.{given, lines_of, mp_lines}
use Rattle.plan.proofs.Numbered.{part_shown, two_first}
use Rattle.fields.proofs.Parts.{head_fields}
use Rattle.room.specs.Numbered.{spans_at}

-- ---- the lines of the head

-- fields without values behind two others have no lines
two_only : (k : List ℕ) (f g a z : Field) (u l : List ℕ) → field_lines k (f ∷ g ∷ a ∷ z ∷ []) (u ∷ l ∷ [] ∷ [] ∷ []) ≡ field_lines k (f ∷ g ∷ []) (u ∷ l ∷ [])
two_only k f g a z [] [] = refl
two_only k f g a z [] (c ∷ l) = refl
two_only k f g a z (d ∷ u) [] = refl
two_only k f g a z (d ∷ u) (c ∷ l) = refl

-- the third to sixth field of MP
abbrev mp_at_lem : ℕ → Field
mp_at_lem i = get_or (fields_from 2 4) i no_field

-- the lines of MP: a and z have no values
mp_is : (p u l : List ℕ)
    → field_lines (path MP) (fields_of MP) (edition ∷ p ∷ u ∷ l ∷ [] ∷ [] ∷ [])
    ≡ line (bytes "MP.v") edition ∷ (given (bytes "MP.p") p ++ field_lines (bytes "MP.") (fields_from 2 2) (u ∷ l ∷ []))
unfolding fields_of fields_from
mp_is [] u l = ap (λ (r : List Line). line (bytes "MP.v") edition ∷ r) (two_only (path MP) (mp_at_lem 0) (mp_at_lem 1) (mp_at_lem 2) (mp_at_lem 3) u l)
mp_is (c ∷ p) u l = ap (λ (r : List Line). line (bytes "MP.v") edition ∷ (line (bytes "MP.p") (c ∷ p) ∷ r)) (two_only (path MP) (mp_at_lem 0) (mp_at_lem 1) (mp_at_lem 2) (mp_at_lem 3) u l)

-- the lines of a head are those of MP, P, A and O, one behind the other
pub head_is : (patch : ℕ) (t : List ℕ) (ss : List Span) → length ss ≡ 27
    → head_lines (head_with patch (shown_all t ss))
    ≡ mp_lines patch t (head_numbers ss) ++ (lines_of (bytes "MP.P.") 6 8 t 6 (head_numbers ss) ++ (lines_of (bytes "MP.A.") 14 10 t 22 (head_numbers ss) ++ lines_of (bytes "MP.O.") 24 7 t 42 (head_numbers ss)))
head_is patch t ss h =
    let vs : Slots = shown_all t ss in
    let two : get_or vs 0 [] ∷ get_or vs 1 [] ∷ [] ≡ shown_all t (spans_at 2 2 (head_numbers ss)) = two_first t ss (omega arith) ∙ part_shown t ss 0 2 (omega arith) in
    rw (mp_is (decimal patch) (get_or vs 0 []) (get_or vs 1 []), two, head_fields.0, head_fields.1, head_fields.2, part_shown t ss 2 8 (omega arith), part_shown t ss 10 10 (omega arith), part_shown t ss 20 7 (omega arith))

-- the same with the numbers by another name
pub head_by_lem : (patch : ℕ) (t : List ℕ) (ss : List Span) (l : List ℕ) → length ss ≡ 27 → l ≡ head_numbers ss
    → head_lines (head_with patch (shown_all t ss))
    ≡ mp_lines patch t l ++ (lines_of (bytes "MP.P.") 6 8 t 6 l ++ (lines_of (bytes "MP.A.") 14 10 t 22 l ++ lines_of (bytes "MP.O.") 24 7 t 42 l))
head_by_lem patch t ss l h e = rw e (head_is patch t ss h)

-- there are as many spans as the code has
pub spans_long : (head : List Code.Span) → length (map paper_span head) ≡ length head
spans_long [] = refl
spans_long (s ∷ head) = ap suc (spans_long head)
