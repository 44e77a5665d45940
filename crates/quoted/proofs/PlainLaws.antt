-- PlainLaws: bytes that are all ordinary are the raw bytes of a value in either quotes, and the value is these bytes without trailing blanks.
-- Assumes nothing.
use mathlib.Core.Path.{◌≡◌, refl, sym, ap, ◌∙◌}
use mathlib.Core.Bool.{Bool, true, false, not, ◌&&◌, ◌||◌}
use mathlib.Core.List.{List, [], ◌∷◌, ◌++◌}
use Prim.Native.Nat.{ℕ, suc, ◌+◌, ◌-◌, ◌≤◌, ◌<◌}
use native.Mathlib.Numerals.{add-one}
use native.Mathlib.Omega.{arith}
use lib.Dec.{eqb, leb, eqb→eq}
use lib.ListN.{length, get_or, take, drop}
use lib.Seq.{slice, take-suc, take-add, drop-append-le, length-take-le}
use borrow.Author.Tests.{leb-true, not-true, not-false, ne_eqb}
use Rattle.paper.specs.Lists.{if, until, All}
use Rattle.paper.specs.Bytes.{is_decoded}
use Rattle.paper.specs.Grammar.{Pass, Quote, double, single, Raw, end, plain, is_plain}
use Rattle.paper.specs.Values.{text, decode, keep, cut, value}
use Rattle.paper.proofs.Small.{both}
use Rattle.paper.proofs.Table.{at}
use Rattle.markup.proofs.WalkLaws.{take_drop}
use Rattle.room.proofs.Runs.{run_on}
use Rattle.quoted.specs.Plain.{ordinary, odd_table, Plainly}

-- ---- the table

right : ℕ → ℕ → Bool
right b x = eqb x (if (ordinary b) 0 1)

-- the entry of a byte is 1 exactly if it is not ordinary
pub entry : (b : ℕ) → b < 256 → get_or odd_table b 0 ≡ if (ordinary b) 0 1
unfolding odd_table right ordinary
entry b h = eqb→eq (get_or odd_table b 0) (if (ordinary b) 0 1) (at right odd_table tt b h)

-- and so it tells
pub told : (t : Bool) → eqb (if t 0 1) 1 ≡ not t
told true = refl
told false = refl

-- ---- one ordinary byte

pub record Facts (c : ℕ) : Type 0 where
  pub decoded : is_decoded c ≡ true
  pub no_double : eqb c 34 ≡ false
  pub no_amp : eqb c 38 ≡ false
  pub no_single : eqb c 39 ≡ false
  pub no_less : eqb c 60 ≡ false

facts : (c : ℕ) → ordinary c ≡ true → Facts c
unfolding ordinary
facts c e =
    let a = both (is_decoded c) _ e in
    let b = both (not (eqb c 34)) _ a.1 in
    let d = both (not (eqb c 38)) _ b.1 in
    let f = both (not (eqb c 39)) _ d.1 in
    let g = both (not (eqb c 60)) _ f.1 in
    record {
      decoded = a.0;
      no_double = not-true (eqb c 34) b.0;
      no_amp = not-true (eqb c 38) d.0;
      no_single = not-true (eqb c 39) f.0;
      no_less = not-true (eqb c 60) g.0;
    }

-- it may stand in a value, and is no line break
pub ordinary_text : (c : ℕ) → ordinary c ≡ true → (is_decoded c ≡ true) × (eqb c 126 ≡ false)
unfolding ordinary
ordinary_text c e =
    let a = both (is_decoded c) _ e in
    let b = both (not (eqb c 34)) _ a.1 in
    let d = both (not (eqb c 38)) _ b.1 in
    let f = both (not (eqb c 39)) _ d.1 in
    let g = both (not (eqb c 60)) _ f.1 in
    (a.0, not-true (eqb c 126) g.1)

-- it is no control byte
high : (c : ℕ) → is_decoded c ≡ true → 32 ≤ c
high c e = go (leb 32 c) refl e
  where
    go : (t : Bool) → leb 32 c ≡ t → (t && leb c 126) || (leb 160 c && leb c 255) ≡ true → 32 ≤ c
    go true q e = leb-true 32 c q
    go false q e = let y = leb-true 160 c (both (leb 160 c) (leb c 255) e).0 in omega arith

-- it stands for itself in either quotes
pub itself : (q c : ℕ) → Quote q → ordinary c ≡ true → is_plain q c ≡ true
itself q c double e = let f = facts c e in rw (f.decoded, f.no_double, f.no_less, f.no_amp)
itself q c single e = let f = facts c e in rw (f.decoded, f.no_single, f.no_less, f.no_amp)

stands : (c : ℕ) (s : List ℕ) → ordinary c ≡ true → decode text (c ∷ s) ≡ c ∷ decode text s
stands c s e =
    let f = facts c e in
    let h = high c f.decoded in
    rw (f.no_amp, ne_eqb c 13 (λ z. omega arith), ne_eqb c 10 (λ z. omega arith), ne_eqb c 9 (λ z. omega arith))

-- ---- ordinary bytes

-- they are the raw bytes of a value
pub raw_of : (q : ℕ) → Quote q → (v : List ℕ) → All (Pass ordinary) v → Raw q v
raw_of q k [] a = end
raw_of q k (c ∷ v) a = plain (itself q c k a.0) (raw_of q k v a.1)

-- which is decoded as it stands
decoded : (v : List ℕ) → All (Pass ordinary) v → decode text v ≡ v
decoded [] a = refl
decoded (c ∷ v) a = stands c v a.0 ∙ ap (λ (s : List ℕ). c ∷ s) (decoded v a.1)

-- whatever follows
pub decoded_before : (v x : List ℕ) → All (Pass ordinary) v → decode text (v ++ x) ≡ v ++ decode text x
decoded_before [] x a = refl
decoded_before (c ∷ v) x a = stands c (v ++ x) a.0 ∙ ap (λ (s : List ℕ). c ∷ s) (decoded_before v x a.1)

-- so that only trailing blanks are cut
pub value_of : (v : List ℕ) → All (Pass ordinary) v → value v ≡ cut v
value_of v a = ap cut (decoded v a)

-- ---- a run of them

pub run_all : (p : ℕ → Bool) (s : List ℕ) → All (Pass p) (take (until p s) s)
run_all p [] = tt
run_all p (b ∷ s) = go (p b) refl (run_all p s)
  where
    go : (t : Bool) → p b ≡ t → All (Pass p) (take (until p s) s) → All (Pass p) (take (if t (suc (until p s)) 0) (b ∷ s))
    go true e h = (e, h)
    go false e h = tt

pub all_of : (w : List ℕ) (i e : ℕ) → e ≡ i + until ordinary (drop i w) → All (Pass ordinary) (slice i e w)
all_of w i e h =
    let p : take (until ordinary (drop i w)) (drop i w) ≡ slice i e w = take_drop i (until ordinary (drop i w)) w ∙ rw (← h) in
    rw p at (run_all ordinary (drop i w))

-- ---- the loop: what is told of the whole, by what is left from i on

module _ (w : List ℕ) (u i : ℕ) (inv : u ≡ i + until ordinary (drop i w)) where
  -- an ordinary byte is passed
  pub passed : (j : ℕ) → j ≡ i + 1 → i < length w → not (ordinary (get_or w i 0)) ≡ false → u ≡ j + until ordinary (drop j w)
  passed j q h e = inv ∙ rw q (run_on ordinary w i h (not-false (ordinary (get_or w i 0)) e))

-- ---- trailing blanks

cut_blank : (s : List ℕ) → cut (s ++ 32 ∷ []) ≡ cut s
cut_blank [] = refl
cut_blank (c ∷ s) = ap (keep c) (cut_blank s)

ahead : (x c : ℕ) (s : List ℕ) → keep x (s ++ c ∷ []) ≡ x ∷ (s ++ c ∷ [])
ahead x c [] = refl
ahead x c (d ∷ s) = refl

cut_mark : (c : ℕ) → eqb c 32 ≡ false → (s : List ℕ) → cut (s ++ c ∷ []) ≡ s ++ c ∷ []
cut_mark c e [] = rw e
cut_mark c e (x ∷ s) = ap (keep x) (cut_mark c e s) ∙ ahead x c s

-- the last byte of a part
last : (w : List ℕ) (i j : ℕ) → i ≤ j → j < length w → slice i (suc j) w ≡ slice i j w ++ get_or w j 0 ∷ []
last w i j h k =
    let l : length (take j w) ≡ j = length-take-le j w (omega arith) in
    ap (drop i) (take-suc w j 0 k) ∙ drop-append-le i (take j w) (get_or w j 0 ∷ []) (omega arith)

pub blank_cut : (w : List ℕ) (i j : ℕ) → i ≤ j → j < length w → get_or w j 0 ≡ 32 → cut (slice i (j + 1) w) ≡ cut (slice i j w)
blank_cut w i j h k e = rw (add-one j, last w i j h k, e) (cut_blank (slice i j w))

pub mark_kept : (w : List ℕ) (i j : ℕ) → i ≤ j → j < length w → (get_or w j 0 ≡ 32 → ⊥) → slice i (j + 1) w ≡ cut (slice i (j + 1) w)
mark_kept w i j h k e =
    let p : slice i (j + 1) w ≡ slice i j w ++ get_or w j 0 ∷ [] = rw (add-one j) (last w i j h k) in
    sym (rw p (cut_mark (get_or w j 0) (ne_eqb (get_or w j 0) 32 e) (slice i j w)))

-- the same, counted down from e
pub blank_cut_to : (w : List ℕ) (i e : ℕ) → i < e → e ≤ length w → get_or w (e - 1) 0 ≡ 32 → cut (slice i (e - 1) w) ≡ cut (slice i e w)
blank_cut_to w i e h k q =
    let z : e - 1 + 1 ≡ e = omega arith in
    sym (ap (λ (x : ℕ). cut (slice i x w)) (sym z) ∙ blank_cut w i (e - 1) (omega arith) (omega arith) q)

pub mark_kept_to : (w : List ℕ) (i e : ℕ) → i < e → e ≤ length w → (get_or w (e - 1) 0 ≡ 32 → ⊥) → slice i e w ≡ cut (slice i e w)
mark_kept_to w i e h k q =
    let z : e - 1 + 1 ≡ e = omega arith in
    let m = mark_kept w i (e - 1) (omega arith) (omega arith) q in
    rw z at m

-- ---- a plain value

all_front : (p : ℕ → Bool) (u v : List ℕ) → All (Pass p) (u ++ v) → All (Pass p) u
all_front p [] v a = tt
all_front p (c ∷ u) v a = (a.0, all_front p u v a.1)

-- a shorter part of such bytes
part_clean : (w : List ℕ) (i t e : ℕ) → i ≤ t → t ≤ e → e ≤ length w → All (Pass ordinary) (slice i e w) → All (Pass ordinary) (slice i t w)
part_clean w i t e a b l h =
    let n : t + (e - t) ≡ e = omega arith in
    let m : length (take t w) ≡ t = length-take-le t w (omega arith) in
    let p : slice i e w ≡ slice i t w ++ take (e - t) (drop t w) =
    ap (λ (k : ℕ). slice i k w) (sym n) ∙ ap (drop i) (take-add t (e - t) w) ∙ drop-append-le i (take t w) (take (e - t) (drop t w)) (omega arith) in
    all_front ordinary (slice i t w) (take (e - t) (drop t w)) (rw p at h)

pub plainly : (w : List ℕ) (i q e t : ℕ) → Quote q → e ≡ i + until ordinary (drop i w) → e < length w → get_or w e 0 ≡ q
    → slice i t w ≡ cut (slice i e w) → i ≤ t → t ≤ e → Plainly w i q e t
plainly w i q e t k h l c s a b =
    let o = all_of w i e h in
    record { within = (a, b, l); closes = c; raw = raw_of q k (slice i e w) o; right = s ∙ sym (value_of (slice i e w) o); clean = part_clean w i t e a b (omega arith) o }
