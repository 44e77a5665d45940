-- LeastLaws: the least of a page's faults, found one tag after another.
-- Assumes nothing.
use mathlib.Core.Path.{◌≡◌, refl, ap, sym, ◌∙◌}
use mathlib.Core.Logic.{inl, inr}
use mathlib.Core.Bool.{Bool, true, false, ◌&&◌, ◌||◌}
use mathlib.Core.List.{List, [], ◌∷◌, ◌++◌}
use Prim.Native.Nat.{ℕ, ◌≤◌, ◌<◌}
use native.Mathlib.Omega.{arith}
use lib.Dec.{eqb, ltb}
use borrow.Author.Tests.{eq-eqb, ne_eqb, lt-ltb, le-ltb}
use Rattle.paper.specs.Lists.{if}
use Rattle.paper.specs.Grammar.{Attr, Tag, start, end}
use Rattle.paper.specs.Fields.{Kind, unknown, is, fields_of}
use Rattle.paper.specs.Judging.{Fault, fault, lower, least, own, names, slots_of, mp_version, Stack, kind_in, misplaced, next, here, faults, lacks}
use Rattle.paper.proofs.Least.{NotLower, least_least, Among}
use Rattle.sheet.specs.Fold.{given, spotless, strange, amiss, unfit}
use Rattle.sheet.proofs.Places.{From}

-- ---- the lower of two

-- a fault that is not lower changes nothing
pub stays : (f g : Fault) → NotLower g f → lower f g ≡ f
stays f g (inl h) = rw (le-ltb g.no f.no (omega arith), ne_eqb g.no f.no (omega arith))
stays f g (inr (e, h)) = rw (le-ltb g.no f.no (omega arith), eq-eqb g.no f.no (sym e), le-ltb g.place f.place h)

-- a lower number is taken
pub takes : (f g : Fault) → g.no < f.no → lower f g ≡ g
takes f g h = rw (lt-ltb g.no f.no h)

-- the lower of two is not above either
below_second : (f g : Fault) → NotLower g (lower f g)
below_second f g = least_least f (g ∷ []) g (Among.there Among.here)

-- behind a fault at the same place, one of a higher number changes nothing
idle : (f : Fault) (m n i : ℕ) → m < n → lower (lower f (given m i)) (given n i) ≡ lower f (given m i)
idle f m n i h = stays (lower f (given m i)) (given n i) (at (below_second f (given m i)))
  where
    at : NotLower (given m i) (lower f (given m i)) → NotLower (given n i) (lower f (given m i))
    at (inl k) = inl (omega arith)
    at (inr k) = let e = k.0 in inl (omega arith)

-- the least of two lists, one after the other
pub least_append : (f : Fault) (a b : List Fault) → least f (a ++ b) ≡ least (least f a) b
least_append f [] b = refl
least_append f (g ∷ a) b = least_append (lower f g) a b

-- ---- the least so far

-- the least fault so far: none, or one with number 6 to 8
abbrev pub Sound : Fault → Type 0
Sound f = (6 ≤ f.no) × NotLower spotless f

-- a fault with number 6 to 8 joins
pub sound_lower : (f : Fault) (n i : ℕ) → 6 ≤ n → n ≤ 8 → Sound f → Sound (lower f (given n i))
sound_lower f n i h k S = at (ltb n f.no || (eqb n f.no && ltb i f.place))
  where
    at : (b : Bool) → Sound (if b (given n i) f)
    at true = (h, inl (omega arith))
    at false = S

-- ---- faults from a place on

-- a fault of a page's tags from place i on: its number is 5 to 8, and a 5 stands at i or behind it
abbrev pub Past : ℕ → Fault → Type 0
Past i f = NotLower f (given 5 i) × (f.no ≤ 8)

-- each fault is such
abbrev pub AllPast : ℕ → List Fault → Type 0
AllPast i [] = Unit {0}
AllPast i (f ∷ fs) = Past i f × AllPast i fs

past_append : (i : ℕ) (a b : List Fault) → AllPast i a → AllPast i b → AllPast i (a ++ b)
past_append i [] b x y = y
past_append i (f ∷ a) b x y = (x.0, past_append i a b x.1 y)

past_fault : (b : Bool) (n i j : ℕ) → Past j (given n i) → AllPast j (fault b n i)
past_fault true n i j h = (h, tt)
past_fault false n i j h = tt

past_five : (i j : ℕ) → j ≤ i → Past j (given 5 i)
past_five i j h = (inr (refl, h), omega arith)

past_high : (n i j : ℕ) → 5 < n → n ≤ 8 → Past j (given n i)
past_high n i j h k = (inl h, k)

-- the faults 6, 7, 8 of a tag
past_flaws : (d e g : Bool) (i j : ℕ) → AllPast j (fault d 6 i ++ (fault e 7 i ++ fault g 8 i))
past_flaws d e g i j =
    past_append j (fault d 6 i) (fault e 7 i ++ fault g 8 i) (past_fault d 6 i j (past_high 6 i j (omega arith) (omega arith)))
    (past_append j (fault e 7 i) (fault g 8 i) (past_fault e 7 i j (past_high 7 i j (omega arith) (omega arith))) (past_fault g 8 i j (past_high 8 i j (omega arith) (omega arith))))

past_start : (b c d e g : Bool) (i j : ℕ) → j ≤ i → AllPast j (fault b 5 i ++ (fault c 5 i ++ (fault d 6 i ++ (fault e 7 i ++ fault g 8 i))))
past_start b c d e g i j h =
    past_append j (fault b 5 i) (fault c 5 i ++ (fault d 6 i ++ (fault e 7 i ++ fault g 8 i))) (past_fault b 5 i j (past_five i j h))
    (past_append j (fault c 5 i) (fault d 6 i ++ (fault e 7 i ++ fault g 8 i)) (past_fault c 5 i j (past_five i j h)) (past_flaws d e g i j))

past_own : (b : Bool) (k : Kind) (i : ℕ) (l : List Attr) (j : ℕ) → j ≤ i → AllPast j (fault b 5 i ++ own k i l)
unfolding strange
past_own b k i l j h = past_start b (strange k (names l)) (mp_version k (slots_of (fields_of k) l)) (amiss k (slots_of (fields_of k) l)) (unfit k (names l) (slots_of (fields_of k) l)) i j h

-- the faults of tags that stand at place j or behind it
pub past_faults : (t : List Tag) (st : Stack) (j : ℕ) → From j t → AllPast j (faults st t)
past_faults [] st j f = tt
past_faults (start i n l ∷ t) st j f =
    past_append j (here st (start i n l)) (faults (next st (start i n l)) t) (past_own (is (kind_in st n) unknown || misplaced st (kind_in st n)) (kind_in st n) i l j f.0)
    (past_faults t (next st (start i n l)) j f.1)
past_faults (end ∷ t) [] j f = past_faults t [] j f
past_faults (end ∷ t) (F ∷ st) j f =
    let b : Bool = lacks F.kind F.seen F.slots in
    past_append j (fault b 8 F.at) (faults st t) (past_fault b 8 F.at j (past_high 8 F.at j (omega arith) (omega arith))) (past_faults t st j f)

-- nothing from place i on is lower than a 5 there
five_stays : (i : ℕ) (fs : List Fault) → AllPast i fs → least (given 5 i) fs ≡ given 5 i
five_stays i [] x = refl
five_stays i (f ∷ fs) x = ap (λ (g : Fault). least g fs) (stays (given 5 i) f x.0.0) ∙ five_stays i fs x.1

first_five : (f : Fault) (i : ℕ) (fs : List Fault) → Sound f → AllPast i fs → least (lower f (given 5 i)) fs ≡ given 5 i
first_five f i fs S x = let h = S.0 in ap (λ (g : Fault). least g fs) (takes f (given 5 i) (omega arith)) ∙ five_stays i fs x

-- ---- one tag

-- the number of an element's least flaw
abbrev pub flaw_of : Bool → Bool → Bool → ℕ
flaw_of d e g = if d 6 (if e 7 (if g 8 9))

eight_idle : (f : Fault) (m i : ℕ) (g : Bool) → m < 8 → least (lower f (given m i)) (fault g 8 i) ≡ lower f (given m i)
eight_idle f m i true h = idle f m 8 i h
eight_idle f m i false h = refl

none_idle : (f : Fault) (i : ℕ) → NotLower spotless f → lower f (given 9 i) ≡ f
none_idle f i (inl h) = stays f (given 9 i) (inl h)
none_idle f i (inr (e, h)) = stays f (given 9 i) (inr (e, omega arith))

flaws : (f : Fault) (d e g : Bool) (i : ℕ) → Sound f → least f (fault d 6 i ++ (fault e 7 i ++ fault g 8 i)) ≡ lower f (given (flaw_of d e g) i)
flaws f true true g i S = ap (λ (x : Fault). least x (fault g 8 i)) (idle f 6 7 i (omega arith)) ∙ eight_idle f 6 i g (omega arith)
flaws f true false g i S = eight_idle f 6 i g (omega arith)
flaws f false true g i S = eight_idle f 7 i g (omega arith)
flaws f false false true i S = refl
flaws f false false false i S = sym (none_idle f i S.1)

-- an element's least flaw joins
pub sound_flaw : (f : Fault) (d e g : Bool) (i : ℕ) → Sound f → Sound (lower f (given (flaw_of d e g) i))
sound_flaw f true e g i S = sound_lower f 6 i (omega arith) (omega arith) S
sound_flaw f false true g i S = sound_lower f 7 i (omega arith) (omega arith) S
sound_flaw f false false true i S = sound_lower f 8 i (omega arith) (omega arith) S
sound_flaw f false false false i S = rw (none_idle f i S.1) S

-- a start tag: its first 5 is the answer; else the least of its flaws joins
pub start_least : (b c d e g : Bool) (f : Fault) (i : ℕ) (fs : List Fault) (y : Fault) → Sound f → AllPast i fs
    → (b ≡ false → c ≡ false → y ≡ least (lower f (given (flaw_of d e g) i)) fs)
    → if b (given 5 i) (if c (given 5 i) y) ≡ least f ((fault b 5 i ++ (fault c 5 i ++ (fault d 6 i ++ (fault e 7 i ++ fault g 8 i)))) ++ fs)
start_least true c d e g f i fs y S x h =
    sym (first_five f i ((fault c 5 i ++ (fault d 6 i ++ (fault e 7 i ++ fault g 8 i))) ++ fs) S
    (past_append i (fault c 5 i ++ (fault d 6 i ++ (fault e 7 i ++ fault g 8 i))) fs (past_start false c d e g i i (omega arith)) x))
start_least false true d e g f i fs y S x h =
    sym (first_five f i ((fault d 6 i ++ (fault e 7 i ++ fault g 8 i)) ++ fs) S (past_append i (fault d 6 i ++ (fault e 7 i ++ fault g 8 i)) fs (past_flaws d e g i i) x))
start_least false false d e g f i fs y S x h =
    h refl refl ∙ sym (least_append f (fault d 6 i ++ (fault e 7 i ++ fault g 8 i)) fs ∙ ap (λ (z : Fault). least z fs) (flaws f d e g i S))

-- ---- the whole list

-- with none to begin with, the least of some faults is the least of them
pub least_some : (i : ℕ) (f : Fault) (fs : List Fault) → AllPast i (f ∷ fs) → least spotless (f ∷ fs) ≡ least f fs
least_some i f fs x = let h = x.0.1 in ap (λ (g : Fault). least g fs) (takes spotless f (omega arith))

-- and its number is one of 5 to 8
pub least_number : (i : ℕ) (f : Fault) (fs : List Fault) → AllPast i (f ∷ fs) → (least f fs).no ≤ 8
least_number i f fs x = let h = x.0.1 in at (least_least f fs f Among.here)
  where
    at : NotLower f (least f fs) → (least f fs).no ≤ 8
    at (inl k) = let h = x.0.1 in omega arith
    at (inr k) = let h = x.0.1 in let e = k.0 in omega arith
