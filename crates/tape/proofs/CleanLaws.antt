-- CleanLaws: what is known of each tag of a page without faults, by the one pass over its tags.
-- Assumes nothing.
use mathlib.Core.Path.{◌≡◌, refl, sym}
use mathlib.Core.Bool.{Bool, true, false, ◌&&◌, ◌||◌}
use mathlib.Core.List.{List, [], ◌∷◌}
use Prim.Native.Nat.{ℕ, ◌≤◌}
use native.Mathlib.Omega.{arith}
use lib.Dec.{eqb, ltb}
use borrow.Author.Tests.{eqb-true, ltb-true, ltb-false}
use Rattle.paper.specs.Lists.{if}
use Rattle.paper.specs.Grammar.{Attr, Tag, start, end}
use Rattle.paper.specs.Fields.{Kind, unknown, is, fields_of, excluded}
use Rattle.paper.specs.Plan.{Slots}
use Rattle.paper.specs.Judging.{Fault, names, slots_of, missing, clash, mp_version, mp_half, lower}
use Rattle.paper.proofs.Small.{neither}
use Rattle.sheet.specs.Fold.{given, St, kids_of, kind_under, full, barred, strange, amiss, unfit, flaw, opened, closed, finished, judge_fold}
use Rattle.sheet.specs.Content.{kind_named}
use Rattle.sheet.proofs.FoldContent.{kind_named_lem}

-- ---- the least fault so far

-- the lower of two has no number above theirs
lower_both : (f g : Fault) → ((lower f g).no ≤ f.no) × ((lower f g).no ≤ g.no)
lower_both f g = at (ltb g.no f.no) refl (eqb g.no f.no) refl (ltb g.place f.place)
  where
    at : (b : Bool) → ltb g.no f.no ≡ b → (c : Bool) → eqb g.no f.no ≡ c → (d : Bool) → ((if (b || (c && d)) g f).no ≤ f.no) × ((if (b || (c && d)) g f).no ≤ g.no)
    at true x c y d = let h = ltb-true g.no f.no x in (omega arith, omega arith)
    at false x true y true = let h = eqb-true g.no f.no y in (omega arith, omega arith)
    at false x true y false = let h = eqb-true g.no f.no y in (omega arith, omega arith)
    at false x false y d = let h = ltb-false g.no f.no x in (omega arith, omega arith)

finished_clean : (s : St) → (finished s).no ≡ 9 → 9 ≤ s.best.no
unfolding finished
finished_clean s e = at (s.has_p && s.has_a) e
  where
    at : (b : Bool) → (if b s.best (lower s.best (given 8 s.root))).no ≡ 9 → 9 ≤ s.best.no
    at true q = omega arith
    at false q = let h = (lower_both s.best (given 8 s.root)).0 in omega arith

-- an end tag without a fault
closed_clean : (s : St) → 9 ≤ (closed s).best.no → (9 ≤ s.best.no) × (s.waits ≡ false)
unfolding closed
closed_clean s h = at s.waits refl h
  where
    at : (b : Bool) → s.waits ≡ b → 9 ≤ (if b (lower s.best (given 8 s.from)) s.best).no → (9 ≤ s.best.no) × (s.waits ≡ false)
    at true e q = let g = (lower_both s.best (given 8 s.from)).1 in absurd (omega arith)
    at false e q = (q, e)

-- no field marked * is missing in a tag whose number is 9
flaw_clean : (k : Kind) (ns : List (List ℕ)) (vs : Slots) → 9 ≤ flaw k ns vs → missing (fields_of k) vs ≡ false
unfolding flaw
flaw_clean k ns vs h = at (mp_version k vs) (amiss k vs) (unfit k ns vs) refl h
  where
    at : (a b c : Bool) → unfit k ns vs ≡ c → 9 ≤ if a 6 (if b 7 (if c 8 9)) → missing (fields_of k) vs ≡ false
    at true b c e q = absurd (omega arith)
    at false true c e q = absurd (omega arith)
    at false false true e q = absurd (omega arith)
    at false false false e q = (neither (missing (fields_of k) vs) (clash (excluded k) ns) (neither (missing (fields_of k) vs || clash (excluded k) ns) (mp_half k vs) e).0).0

opened_clean : (s : St) (k : Kind) (i : ℕ) (l : List Attr) → 9 ≤ (opened s k i l).best.no → (9 ≤ s.best.no) × (missing (fields_of k) (slots_of (fields_of k) l) ≡ false)
unfolding opened
opened_clean s k i l h =
    let g = lower_both s.best (given (flaw k (names l) (slots_of (fields_of k) l)) i) in
    (omega (arith, g.0), flaw_clean k (names l) (slots_of (fields_of k) l) (omega (arith, g.1)))

-- ---- one tag of a page without faults

-- the pass over a start tag and those behind it finds nothing
record Passes (s : St) (i : ℕ) (n : List ℕ) (l : List Attr) (ts : List Tag) : Type 0 where
  pub free : barred s (kind_under s.cur n) ≡ false
  pub known : strange (kind_under s.cur n) (names l) ≡ false
  pub rest : (judge_fold (opened s (kind_under s.cur n) i l) ts).no ≡ 9

passes : (s : St) (i : ℕ) (n : List ℕ) (l : List Attr) (ts : List Tag) → (judge_fold s (start i n l ∷ ts)).no ≡ 9 → Passes s i n l ts
unfolding judge_fold
passes s i n l ts e = at (barred s (kind_under s.cur n)) refl (strange (kind_under s.cur n) (names l)) refl e
  where
    at : (b : Bool) → barred s (kind_under s.cur n) ≡ b → (c : Bool) → strange (kind_under s.cur n) (names l) ≡ c
        → (if b (given 5 i) (if c (given 5 i) (judge_fold (opened s (kind_under s.cur n) i l) ts))).no ≡ 9 → Passes s i n l ts
    at true x c y q = absurd (omega arith)
    at false x true y q = absurd (omega arith)
    at false x false y q = record { free = x; known = y; rest = q }

-- so far there is no fault
so_far : (ts : List Tag) (s : St) → (judge_fold s ts).no ≡ 9 → 9 ≤ s.best.no
unfolding judge_fold
so_far [] s e = finished_clean s e
so_far (end ∷ ts) s e = (closed_clean s (so_far ts (closed s) e)).0
so_far (start i n l ∷ ts) s e =
    let P = passes s i n l ts e in
    (opened_clean s (kind_under s.cur n) i l (so_far ts (opened s (kind_under s.cur n) i l) P.rest)).0

-- a start tag: its name says its kind, which is known and may stand here, none of its attributes is strange, none is missing, and the rest has no fault
pub record Begins (s : St) (i : ℕ) (n : List ℕ) (l : List Attr) (ts : List Tag) : Type 0 where
  pub kind_is : kind_under s.cur n ≡ kind_named n
  pub free : barred s (kind_named n) ≡ false
  pub known : strange (kind_named n) (names l) ≡ false
  pub whole : missing (fields_of (kind_named n)) (slots_of (fields_of (kind_named n)) l) ≡ false
  pub rest : (judge_fold (opened s (kind_named n) i l) ts).no ≡ 9

name_says : (c : ℕ) (n : List ℕ) → is (kind_under c n) unknown ≡ false → kind_under c n ≡ kind_named n
unfolding kind_under
name_says c n e = sym (kind_named_lem n (kids_of c) e)

free_known : (s : St) (k : Kind) → barred s k ≡ false → is k unknown ≡ false
unfolding barred
free_known s k e = (neither (is k unknown) (full s k) e).0

pub begins : (s : St) (i : ℕ) (n : List ℕ) (l : List Attr) (ts : List Tag) → (judge_fold s (start i n l ∷ ts)).no ≡ 9 → Begins s i n l ts
begins s i n l ts e =
    let P = passes s i n l ts e in
    let k : Kind = kind_under s.cur n in
    let q : k ≡ kind_named n = name_says s.cur n (free_known s k P.free) in
    let m = (opened_clean s k i l (so_far ts (opened s k i l) P.rest)).1 in
    record { kind_is = q; free = rw (← q) P.free; known = rw (← q) P.known; whole = rw (← q) m; rest = rw (← q) P.rest }

-- an end tag: the element that ends lacks nothing, and the rest has no fault
pub ends_clean : (s : St) (ts : List Tag) → (judge_fold s (end ∷ ts)).no ≡ 9 → ((judge_fold (closed s) ts).no ≡ 9) × (s.waits ≡ false)
unfolding judge_fold
ends_clean s ts e = (e, (closed_clean s (so_far ts (closed s) e)).1)

-- ---- all tags of a page without faults

-- no attribute of a start tag is strange
abbrev pub Known : List Tag → Type 0
Known [] = Unit {0}
Known (end ∷ ts) = Known ts
Known (start i n l ∷ ts) = (strange (kind_named n) (names l) ≡ false) × Known ts

pub known_tags : (ts : List Tag) (s : St) → (judge_fold s ts).no ≡ 9 → Known ts
known_tags [] s e = tt
known_tags (end ∷ ts) s e = known_tags ts (closed s) (ends_clean s ts e).0
known_tags (start i n l ∷ ts) s e = let B = begins s i n l ts e in (B.known, known_tags ts (opened s (kind_named n) i l) B.rest)
