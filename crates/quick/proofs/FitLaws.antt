-- FitLaws: an element's own faults, by its numbers on the tape.
-- Assumes nothing.
use mathlib.Core.Path.{◌≡◌, refl, sym, ap, ◌∙◌, subst}
use mathlib.Core.Bool.{Bool, true, false, not, ◌&&◌, ◌||◌}
use mathlib.Core.List.{List, [], ◌∷◌}
use Prim.Native.Nat.{ℕ, ◌+◌, ◌*◌, ◌-◌, ◌≤◌, ◌<◌}
use native.Mathlib.Omega.{arith}
use lib.Dec.{eqb, leb, ltb}
use lib.ListN.{length, get_or}
use lib.Seq.{slice, slice-cons, slice_empty}
use borrow.Author.Tests.{ne_eqb, eq-eqb, eqb-true, eqb-false, ltb-true, ltb-false, lt-ltb, le-ltb, not-false, not-true}
use Rattle.paper.specs.Lists.{bytes, if, is_empty, same, every, count, number}
use Rattle.paper.specs.Bytes.{is_decoded}
use Rattle.paper.specs.Grammar.{Attr}
use Rattle.paper.specs.Fields.{Kind, unknown, MP, P, A, O, S, M, W, R, X, edition, field, version, fields_of, excluded}
use Rattle.paper.specs.Rules.{keeps}
use Rattle.paper.specs.Plan.{Slots}
use Rattle.paper.specs.Judging.{names, slots_of, breaks, clash}
use Rattle.paper.proofs.Small.{no}
use Rattle.paper.proofs.Small as Small
use Rattle.fields.specs.Places.{kind_at}
use Rattle.fields.proofs.TableLaws.{code_back}
use Rattle.room.proofs.PairLaws.{pairs_at_lem, each_at}
use Rattle.sheet.specs.Fold.{flaw, needs_w}
use Rattle.sheet.specs.Flaws.{digits_flaw, clash_at}
use Rattle.sheet.proofs.FlawLaws.{is_medication_lem, there_clash, One, one_digit, unbroken_at, by_digits, pair_flaw}
use Rattle.tape.specs.Tape.{aside, shown_in, values_at, Span, Spans, Holds}
use Rattle.quick.specs.Fits.{present, Fits}

-- ---- one value

some_byte : (w : List ℕ) (a b : ℕ) → a < b → b ≤ length w → (is_empty (slice a b w) ≡ false) × (get_or (slice a b w) 0 0 ≡ get_or w a 0)
some_byte w a b h l = rw (slice-cons a b w 0 h l) (refl, refl)

module _ (w side : List ℕ) (a b : ℕ) (sp : Span w (length side) a b) where
  -- it is absent exactly if its two numbers are equal
  pub empty_is : is_empty (shown_in w side a b) ≡ eqb a b
  unfolding shown_in
  empty_is = go (ltb a aside) refl (eqb a b) refl
    where
      go : (t : Bool) → ltb a aside ≡ t → (e : Bool) → eqb a b ≡ e → is_empty (if t (slice a b w) (slice (a - aside) b side)) ≡ e
      go true q true e = let z = eqb-true a b e in rw (z, slice_empty b w)
      go true q false e = let z = eqb-false a b e in let x = sp.inner (ltb-true a aside q) in (some_byte w a b (omega (arith, x.0, z)) x.1).0
      go false q true e = let z = eqb-true a b e in let y = ltb-false a aside q in let x = sp.outer y in absurd (omega (arith, x.2))
      go false q false e = let y = ltb-false a aside q in let x = sp.outer y in (some_byte side (a - aside) b (omega (arith, x.0)) x.1).0

  -- its first byte
  pub none_first : a ≡ b → 0 ≡ get_or (shown_in w side a b) 0 0
  none_first e = go (shown_in w side a b) (empty_is ∙ eq-eqb a b e)
    where
      go : (v : List ℕ) → is_empty v ≡ true → 0 ≡ get_or v 0 0
      go [] q = refl
      go (c ∷ v) q = no (sym q)

  pub page_first : (a ≡ b → ⊥) → a < aside → (a < length w) × (get_or w a 0 ≡ get_or (shown_in w side a b) 0 0)
  unfolding shown_in
  page_first n h = let x = sp.inner h in (omega (arith, x.0, x.1, n), rw (lt-ltb a aside h) (sym (some_byte w a b (omega (arith, x.0, n)) x.1).1))

  pub side_first : aside ≤ a → (a - aside < length side) × (get_or side (a - aside) 0 ≡ get_or (shown_in w side a b) 0 0)
  unfolding shown_in
  side_first h = let x = sp.outer h in (omega (arith, x.0, x.1), rw (le-ltb a aside h) (sym (some_byte side (a - aside) b (omega (arith, x.0)) x.1).1))

-- ---- value j of n

module _ (w side t : List ℕ) where
  pub span_at_lem : (n i j : ℕ) → j < n → Spans w (length side) n t i → Span w (length side) (get_or t (i + 2 * j) 0) (get_or t (i + 2 * j + 1) 0)
  span_at_lem n i j h sp = each_at (Span w (length side)) n t i j h sp

  pub value_at : (n i j : ℕ) → j < n → get_or (values_at w side n t i) j [] ≡ shown_in w side (get_or t (i + 2 * j) 0) (get_or t (i + 2 * j + 1) 0)
  value_at n i j h = pairs_at_lem (shown_in w side) n t i j [] h

module _ {w side : List ℕ} {k : Kind} {t : List ℕ} {i : ℕ} {l : List Attr} (H : Holds w side (length side) k t i l) where
  slot_is : (j : ℕ) → j < length (fields_of k) → get_or (slots_of (fields_of k) l) j [] ≡ shown_in w side (get_or t (i + 2 * j) 0) (get_or t (i + 2 * j + 1) 0)
  slot_is j h = ap (λ (vs : Slots). get_or vs j []) (sym H.slots) ∙ value_at w side t (length (fields_of k)) i j h

  -- a value that counts
  absent_is : (j : ℕ) → j < length (fields_of k) → is_empty (get_or (slots_of (fields_of k) l) j []) ≡ eqb (get_or t (i + 2 * j) 0) (get_or t (i + 2 * j + 1) 0)
  absent_is j h = ap is_empty (slot_is j h) ∙ empty_is w side (get_or t (i + 2 * j) 0) (get_or t (i + 2 * j + 1) 0) (span_at_lem w side t (length (fields_of k)) i j h H.lie)

  given : (j : ℕ) → j < length (fields_of k) → present t i j ≡ true → is_empty (get_or (slots_of (fields_of k) l) j []) ≡ false
  given j h e = absent_is j h ∙ not-true (eqb (get_or t (i + 2 * j) 0) (get_or t (i + 2 * j + 1) 0)) e

  -- no two fields that exclude each other stand in the tag
  apart : clash_at k t i ≡ false → clash (excluded k) (names l) ≡ false
  apart e = sym (there_clash k t i l H.there) ∙ e

-- no fault of a and z
nine : (x y : Bool) → ◌≡◌ {A = ℕ} (if x 7 (if y 8 9)) 9 → (x ≡ false) × (y ≡ false)
nine true y e = absurd (omega arith)
nine false true e = absurd (omega arith)
nine false false e = (refl, refl)

twice_not : (b : Bool) → not (not b) ≡ b
twice_not true = refl
twice_not false = refl

-- an edition that does not break its field
edition_kept : (v : List ℕ) → is_empty v ≡ false → breaks (field MP (bytes "v") version 3 3 0 true) v ≡ false → same v edition ≡ true
edition_kept v e b =
    let f = field MP (bytes "v") version 3 3 0 true in
    let k : keeps f v ≡ true = not-false (keeps f v) (rw e at b) in
    let p = Small.both (every is_decoded v) _ k in
    let q = Small.both (leb 3 (length v)) _ p.1 in
    let r = Small.both (leb (length v) 3) _ q.1 in
    (Small.both (leb (count 126 v) 0) _ r.1).1

-- ---- element by element

module _ {w side t : List ℕ} {i : ℕ} where
  pub fits_p : present t i 0 && (present t i 1 && present t i 2) ≡ true → Fits w side P t i
  unfolding fields_of flaw
  fits_p e l H =
      let (a, q) = Small.both (present t i 0) (present t i 1 && present t i 2) e in
      let (b, c) = Small.both (present t i 1) (present t i 2) q in
      rw (H.kept, given H 0 (omega arith) a, given H 1 (omega arith) b, given H 2 (omega arith) c)

  pub fits_a : clash_at A t i ≡ false → present t i 3 && present t i 9 ≡ true → Fits w side A t i
  unfolding fields_of flaw
  fits_a c e l H =
      let (a, b) = Small.both (present t i 3) (present t i 9) e in
      rw (H.kept, given H 3 (omega arith) a, given H 9 (omega arith) b, apart H c)

  pub fits_s : clash_at S t i ≡ false → Fits w side S t i
  unfolding fields_of flaw
  fits_s c l H = rw (H.kept, apart H c)

  pub fits_m : clash_at M t i ≡ false → Fits w side M t i
  unfolding fields_of flaw
  fits_m c l H = rw (H.kept, apart H c)

  pub fits_w : present t i 0 ≡ true → Fits w side W t i
  unfolding fields_of flaw
  fits_w a l H = rw (H.kept, given H 0 (omega arith) a)

  pub fits_r : present t i 0 ≡ true → Fits w side R t i
  unfolding fields_of flaw
  fits_r a l H = rw (H.kept, given H 0 (omega arith) a)

  pub fits_x : present t i 0 ≡ true → Fits w side X t i
  unfolding fields_of flaw
  fits_x a l H = rw (H.kept, given H 0 (omega arith) a)

  pub fits_o : Fits w side O t i
  unfolding fields_of flaw
  fits_o l H = rw H.kept

  pub fits_unknown : Fits w side unknown t i
  unfolding fields_of flaw
  fits_unknown l H = refl

  -- MP: its edition, and its number and count by their digits
  pub fits_mp : present t i 0 ≡ true → present t i 2 ≡ true → (a z : ℕ) → a ≡ get_or (shown_in w side (get_or t (i + 8) 0) (get_or t (i + 8 + 1) 0)) 0 0
      → z ≡ get_or (shown_in w side (get_or t (i + 10) 0) (get_or t (i + 10 + 1) 0)) 0 0 → digits_flaw a z ≡ 9 → Fits w side MP t i
  unfolding fields_of flaw
  fits_mp p u a z ea ez d l H =
      let vs = slots_of (fields_of MP) l in
      let v0 = get_or vs 0 [] in
      let v4 = get_or vs 4 [] in
      let v5 = get_or vs 5 [] in
      let p0 = given H 0 (omega arith) p in
      let o4 : One v4 = one_digit (bytes "a") v4 (unbroken_at (fields_of MP) vs 4 H.kept (omega arith) refl) in
      let o5 : One v5 = one_digit (bytes "z") v5 (unbroken_at (fields_of MP) vs 5 H.kept (omega arith) refl) in
      let q : pair_flaw v4 v5 ≡ 9 = sym (by_digits v4 v5 o4 o5) ∙ rw (slot_is H 4 (omega arith), slot_is H 5 (omega arith), ← ea, ← ez) d in
      let (x, y) = nine (not (is_empty v5) && ltb (number 0 v5) (number 0 v4)) ((is_empty v4 && not (is_empty v5)) || (not (is_empty v4) && is_empty v5)) q in
      let e : same v0 edition ≡ true = edition_kept v0 p0 (unbroken_at (fields_of MP) vs 0 H.kept (omega arith) refl) in
      rw (H.kept, e, x, p0, given H 2 (omega arith) u, y)

-- ---- an M that needs a W

pub needs_none : (e : ℕ) (vs : Slots) → e < 10 → (e ≡ 6 → ⊥) → false ≡ needs_w (kind_at e) vs
unfolding needs_w
needs_none e vs h q = rw (code_back e h, ne_eqb e 6 q)

module _ {w side t : List ℕ} {i : ℕ} {l : List Attr} (H : Holds w side (length side) M t i l) where
  pub needs_not : present t i 0 ≡ true → false ≡ needs_w M (slots_of (fields_of M) l)
  unfolding fields_of needs_w
  needs_not a = rw (given H 0 (omega arith) a)

  pub needs_is : present t i 0 ≡ false → not (present t i 1) ≡ needs_w M (slots_of (fields_of M) l)
  unfolding fields_of needs_w
  needs_is a =
      rw (absent_is H 0 (omega arith), not-false (eqb (get_or t (i + 2 * 0) 0) (get_or t (i + 2 * 0 + 1) 0)) a, absent_is H 1 (omega arith)) (twice_not (eqb (get_or t (i + 2 * 1) 0) (get_or t (i + 2 * 1 + 1) 0)))

-- ---- elements by their numbers

pub fits_at : {w side t : List ℕ} {i : ℕ} (e n : ℕ) → e ≡ n → Fits w side (kind_at n) t i → Fits w side (kind_at e) t i
fits_at {w} {side} {t} {i} e n q f = subst (λ (x : ℕ). Fits w side (kind_at x) t i) (sym q) f

pub count_by : (e n m : ℕ) → e ≡ n → length (fields_of (kind_at n)) ≡ m → length (fields_of (kind_at e)) ≡ m
count_by e n m q f = subst (λ (x : ℕ). length (fields_of (kind_at x)) ≡ m) (sym q) f

pub counts : (length (fields_of (kind_at 1)) ≡ 6) × (length (fields_of (kind_at 2)) ≡ 8) × (length (fields_of (kind_at 3)) ≡ 10) × (length (fields_of (kind_at 6)) ≡ 14)
    × (length (fields_of (kind_at 7)) ≡ 2) × (length (fields_of (kind_at 8)) ≡ 2) × (length (fields_of (kind_at 9)) ≡ 1)
unfolding kind_at fields_of
counts = (refl, refl, refl, refl, refl, refl, refl)

module _ {A : Type 0} (e : ℕ) (low : 6 < e) (high : e < 10) (f : e ≡ 7 → A) (g : e ≡ 8 → A) (h : e ≡ 9 → A) where
  pub last_three : A
  last_three = seven (eqb e 7) refl
    where
      eight : (e ≡ 7 → ⊥) → (t : Bool) → eqb e 8 ≡ t → A
      eight n true q = g (eqb-true e 8 q)
      eight n false q = let m = eqb-false e 8 q in h (omega (arith, n, m))

      seven : (t : Bool) → eqb e 7 ≡ t → A
      seven true q = f (eqb-true e 7 q)
      seven false q = eight (eqb-false e 7 q) (eqb e 8) refl

pub one_field : (e : ℕ) → 6 < e → e < 10 → 1 ≤ length (fields_of (kind_at e))
one_field e a b =
    last_three e a b (λ q. let z = count_by e 7 2 q counts.4 in omega (arith, z)) (λ q. let z = count_by e 8 2 q counts.5 in omega (arith, z)) (λ q. let z = count_by e 9 1 q counts.6 in omega (arith, z))

pub fits_last : {w side t : List ℕ} {i : ℕ} (e : ℕ) → 6 < e → e < 10 → present t i 0 ≡ true → Fits w side (kind_at e) t i
unfolding kind_at
fits_last e a b p = last_three e a b (λ q. fits_at e 7 q (fits_w p)) (λ q. fits_at e 8 q (fits_r p)) (λ q. fits_at e 9 q (fits_x p))

least : (e : ℕ) → e ≤ 6 → (e ≡ 1 → ⊥) → (e ≡ 2 → ⊥) → (e ≡ 3 → ⊥) → (e ≡ 4 → ⊥) → (e ≡ 5 → ⊥) → (e ≡ 6 → ⊥) → e ≡ 0
least e h a b c d f g = omega arith

-- an element none of whose fields must be present
pub fits_rest : {w side t : List ℕ} {i : ℕ} (e : ℕ) → clash_at (kind_at e) t i ≡ false → (e ≡ 1 → ⊥) → (e ≡ 2 → ⊥) → (e ≡ 3 → ⊥) → e ≤ 6 → Fits w side (kind_at e) t i
unfolding kind_at
fits_rest {w} {side} {t} {i} e z a b c h = four (eqb e 4) refl
  where
    clear : (n : ℕ) → e ≡ n → clash_at (kind_at n) t i ≡ false
    clear n q = subst (λ (x : ℕ). clash_at (kind_at x) t i ≡ false) q z

    six : (e ≡ 4 → ⊥) → (e ≡ 5 → ⊥) → (x : Bool) → eqb e 6 ≡ x → Fits w side (kind_at e) t i
    six d f true q = let p = eqb-true e 6 q in fits_at e 6 p (fits_m (clear 6 p))
    six d f false q = fits_at e 0 (least e h a b c d f (eqb-false e 6 q)) fits_unknown

    five : (e ≡ 4 → ⊥) → (x : Bool) → eqb e 5 ≡ x → Fits w side (kind_at e) t i
    five d true q = let p = eqb-true e 5 q in fits_at e 5 p (fits_s (clear 5 p))
    five d false q = six d (eqb-false e 5 q) (eqb e 6) refl

    four : (x : Bool) → eqb e 4 ≡ x → Fits w side (kind_at e) t i
    four true q = fits_at e 4 (eqb-true e 4 q) fits_o
    four false q = five (eqb-false e 4 q) (eqb e 5) refl

-- the elements that the maker asks for by their numbers
pub fits_numbered : {w side t : List ℕ} {i : ℕ} → (Fits w side MP t i → Fits w side (kind_at 1) t i) × (Fits w side P t i → Fits w side (kind_at 2) t i)
    × (clash_at (kind_at 3) t i ≡ false → present t i 3 && present t i 9 ≡ true → Fits w side (kind_at 3) t i)
unfolding kind_at
fits_numbered = (λ f. f, λ f. f, λ c e. fits_a c e)

pub needs_at : {w side t : List ℕ} {i : ℕ} {l : List Attr}
    → ((e : ℕ) → e ≡ 6 → Holds w side (length side) (kind_at e) t i l → present t i 0 ≡ true → false ≡ needs_w (kind_at e) (slots_of (fields_of (kind_at e)) l))
    × ((e : ℕ) → e ≡ 6 → Holds w side (length side) (kind_at e) t i l → present t i 0 ≡ false → not (present t i 1) ≡ needs_w (kind_at e) (slots_of (fields_of (kind_at e)) l))
needs_at {w} {side} {t} {i} {l} = (
  λ e q H p. let k = is_medication_lem e q in rw k (needs_not (subst (λ (x : Kind). Holds w side (length side) x t i l) k H) p),
  λ e q H p. let k = is_medication_lem e q in rw k (needs_is (subst (λ (x : Kind). Holds w side (length side) x t i l) k H) p),
)
