-- A page that is fine has a number within its count.
-- Assumes nothing.
use mathlib.Core.Path.{◌≡◌, refl, ap, sym, ◌∙◌, subst}
use mathlib.Core.Bool.{Bool, true, false, not, ◌&&◌, ◌||◌}
use mathlib.Core.List.{List, [], ◌∷◌, ◌++◌}
use Prim.Native.Nat.{ℕ, zero, suc, ◌≤◌}
use native.Mathlib.Omega.{arith}
use lib.Dec.{leb, ltb}
use lib.ListN.{length, drop}
use borrow.Author.Tests.{leb-true, ltb-false}
use Rattle.paper.specs.Lists.{bytes, if, is_empty, every, count, number}
use Rattle.paper.specs.Bytes.{is_decoded}
use Rattle.paper.specs.Grammar.{Attr, Tag, start, end, placed}
use Rattle.paper.specs.Fields.{Kind, unknown, MP, is, Field, field, page_no, fields_of}
use Rattle.paper.specs.Rules.{keeps, obeys}
use Rattle.paper.specs.Plan.{Slots}
use Rattle.paper.specs.Judging.{found, slots_of, breaks, broken, own, kind_in, enter, here, faults, Item, item, early, items, or, Sheet, sheet_of, sheet, judge}
use Rattle.paper.proofs.Small.{no, both, neither}
use Rattle.paper.proofs.Given.{fault_nil, append_nil_both, own_clear}
use Rattle.paper.proofs.Told.{Root, is_eq, page_placed}
use Rattle.paper.proofs.ReadSound.{root_mp, judges}

-- a page's number is 1 up to its count, and its count at most nine
pub record Numbered (s : Sheet) : Type 0 where
  pub least : 1 ≤ s.no
  pub most : s.no ≤ s.of
  pub nine : s.of ≤ 9

-- the fields a and z, whose rule is the same
abbrev a_or_z : List ℕ → Field
a_or_z n = field MP n page_no 1 1 0 false

-- a present value of a or z is one digit, 1 to 9
one_digit : (n : List ℕ) (c : ℕ) (v : List ℕ) → breaks (a_or_z n) (c ∷ v) ≡ false → (1 ≤ number 0 (c ∷ v)) × (number 0 (c ∷ v) ≤ 9)
one_digit n c v e =
    let k : keeps (a_or_z n) (c ∷ v) ≡ true = holds (keeps (a_or_z n) (c ∷ v)) e in
    let (a, k₁) = both (every is_decoded (c ∷ v)) (leb 1 (length (c ∷ v)) && (leb (length (c ∷ v)) 1 && (leb (count 126 (c ∷ v)) 0 && obeys page_no (c ∷ v)))) k in
    let (b, k₂) = both (leb 1 (length (c ∷ v))) (leb (length (c ∷ v)) 1 && (leb (count 126 (c ∷ v)) 0 && obeys page_no (c ∷ v))) k₁ in
    let (l, k₃) = both (leb (length (c ∷ v)) 1) (leb (count 126 (c ∷ v)) 0 && obeys page_no (c ∷ v)) k₂ in
    let (t, o) = both (leb (count 126 (c ∷ v)) 0) (obeys page_no (c ∷ v)) k₃ in
    one v (leb-true (length (c ∷ v)) 1 l) o
  where
    holds : (b : Bool) → not b ≡ false → b ≡ true
    holds true e = refl
    holds false e = no e

    one : (v : List ℕ) → length (c ∷ v) ≤ 1 → obeys page_no (c ∷ v) ≡ true → (1 ≤ number 0 (c ∷ v)) × (number 0 (c ∷ v) ≤ 9)
    one [] h o =
        let (x, y) = both (leb 49 c && leb c 57) true o in
        let (p, q) = both (leb 49 c) (leb c 57) x in
        let p' = leb-true 49 c p in
        let q' = leb-true c 57 q in
        (omega arith, omega arith)
    one (d ∷ v) h o = absurd (omega arith)

-- the values of a and z, where none of the rules about them is broken
within : (a z : List ℕ) → breaks (a_or_z (bytes "a")) a ≡ false → breaks (a_or_z (bytes "z")) z ≡ false → (not (is_empty z) && ltb (number 0 z) (number 0 a)) ≡ false
    → ((is_empty a && not (is_empty z)) || (not (is_empty a) && is_empty z)) ≡ false
    → (1 ≤ number 0 (or a (bytes "1"))) × (number 0 (or a (bytes "1")) ≤ number 0 (or z (bytes "1"))) × (number 0 (or z (bytes "1")) ≤ 9)
within [] [] p q o h = (omega arith, omega arith, omega arith)
within [] (d ∷ z) p q o h = no h
within (c ∷ a) [] p q o h = no h
within (c ∷ a) (d ∷ z) p q o h =
    let x = one_digit (bytes "a") c a p in
    let y = one_digit (bytes "z") d z q in
    let l = ltb-false (number 0 (d ∷ z)) (number 0 (c ∷ a)) o in
    (x.0, omega arith, y.1)

-- where no value breaks its field, none behind the first k does
broken_rest : (k : ℕ) (fs : List Field) (vs : Slots) → broken fs vs ≡ false → broken (drop k fs) (drop k vs) ≡ false
broken_rest zero fs vs e = e
broken_rest (suc k) [] vs e = refl
broken_rest (suc k) (f ∷ fs) [] e = none (drop k fs)
  where
    none : (gs : List Field) → broken gs [] ≡ false
    none [] = refl
    none (g ∷ gs) = refl
broken_rest (suc k) (f ∷ fs) (v ∷ vs) e = broken_rest k fs vs (neither (breaks f v) (broken fs vs) e).1

-- an MP without a fault of its own is numbered, whatever it holds
mp_numbered : (i : ℕ) (l : List Attr) (ys : List Item) → own MP i l ≡ [] → Numbered (sheet_of (item MP (slots_of (fields_of MP) l) [] ∷ ys))
unfolding fields_of
mp_numbered i l ys e =
    let fs : List Field = fields_of MP in
    let vs : Slots = slots_of fs l in
    let C = own_clear MP i l e in
    let a : List ℕ = found l (bytes "a") in
    let z : List ℕ = found l (bytes "z") in
    let (y₅, y₆) = neither (breaks (a_or_z (bytes "a")) a) (breaks (a_or_z (bytes "z")) z || false) (broken_rest 4 fs vs C.kept) in
    let w = within a z y₅ (neither (breaks (a_or_z (bytes "z")) z) false y₆).0 C.over C.half in
    record { least = w.0; most = w.1; nine = w.2 }

-- a page's number lies within its count
pub numbered : (w : List ℕ) (s : Sheet) → judge w ≡ sheet s → Numbered s
numbered w s e = let J = judges w s e in subst Numbered J.told (at (placed (length w) J.tags) (page_placed (length w) J.taken) J.clean)
  where
    at : (t : List Tag) → Root t → faults [] t ≡ [] → Numbered (sheet_of (items [] t))
    at [] r f = absurd r
    at (end ∷ t) r f = absurd r
    at (start i n l ∷ t) r f =
        let k : Kind = kind_in [] n in
        let (a, b) = append_nil_both (here [] (start i n l)) (faults (enter [] k i (slots_of (fields_of k) l)) t) f in
        let (c, d) = fault_nil (is k unknown || false) 5 i (own k i l) a in
        let q : k ≡ MP = is_eq k MP (root_mp n (neither (is k unknown) false c).0) in
        subst (λ (j : Kind). Numbered (sheet_of ((if (early j) (item j (slots_of (fields_of j) l) [] ∷ []) []) ++ items (enter [] j i (slots_of (fields_of j) l)) t))) (sym q)
        (mp_numbered i l (items (enter [] MP i (slots_of (fields_of MP) l)) t) (ap (λ (j : Kind). own j i l) (sym q) ∙ d))
