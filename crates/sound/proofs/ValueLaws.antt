-- ValueLaws: a value without a trailing space, the columns of its field, and the span that shows it.
-- Assumes nothing.
use mathlib.Core.Path.{◌≡◌, refl, sym, ap, ◌∙◌}
use mathlib.Core.Bool.{Bool, true, false, not, ◌&&◌}
use mathlib.Core.List.{List, [], ◌∷◌, ◌++◌}
use Prim.Native.Nat.{ℕ, zero, suc, ◌+◌, ◌-◌, ◌/◌, ◌%◌, ◌≤◌, ◌<◌}
use native.Mathlib.Omega.{arith}
use lib.Dec.{eqb, ltb}
use lib.ListN.{length, take, drop, get_or}
use lib.Seq.{slice, take_at}
use borrow.Author.Tests.{eq-eqb, ne_eqb, le-leb, lt-leb}
use Rattle.std.specs.Prelude.{Option, None, Some, is_some}
use Rattle.paper.specs.declared.Cause.{Cause}
use Rattle.paper.specs.declared.Cause.TheVariants.{Size, Byte, Malformed, OutOfPlace, Edition, Value, Incomplete}
use Rattle.paper.specs.Causes.{cause_number, flaw_number}
use Rattle.paper.specs.Lists.{if, same, is_empty}
use Rattle.paper.specs.Fields.{Field, fields_of}
use Rattle.paper.specs.Values.{keep, cut}
use Rattle.paper.specs.Rules.{keeps, is_zero}
use Rattle.paper.specs.Layout.{Span}
use Rattle.paper.specs.Writing.{digits_of, decimal, good_slot}
use Rattle.paper.proofs.Rooms.{digits_most}
use Rattle.fields.specs.Places.{field_at, field_flaw}
use Rattle.room.proofs.Parts.{part_is, part_some}
use Rattle.sound.specs.Judged.{good_value, fine_span}

-- ---- trailing spaces

-- a value is not cut just when its last byte is no space
uncut : (c : ℕ) (s : List ℕ) → same (cut (c ∷ s)) (c ∷ s) ≡ not (eqb (get_or (c ∷ s) (length s) 0) 32)
uncut c [] = one (eqb c 32)
  where
    one : (b : Bool) → same (if b [] (c ∷ [])) (c ∷ []) ≡ not b
    one true = refl
    one false = rw (eq-eqb c c refl)
uncut c (d ∷ s) = more (cut (d ∷ s)) (uncut d s)
  where
    none : (b : Bool) → same (if b [] (c ∷ [])) (c ∷ d ∷ s) ≡ false
    none true = refl
    none false = rw (eq-eqb c c refl)

    more : (l : List ℕ) → same l (d ∷ s) ≡ not (eqb (get_or (d ∷ s) (length s) 0) 32) → same (keep c l) (c ∷ d ∷ s) ≡ not (eqb (get_or (d ∷ s) (length s) 0) 32)
    more [] e = none (eqb c 32) ∙ e
    more (x ∷ l) e = rw (eq-eqb c c refl) e

not_twice : (b : Bool) → not (not b) ≡ b
not_twice true = refl
not_twice false = refl

-- the last byte of a value tells whether it is cut
pub last_blank : (v : List ℕ) → 0 < length v → eqb (get_or v (length v - 1) 0) 32 ≡ not (same (cut v) v)
last_blank [] h = absurd (omega arith)
last_blank (c ∷ s) h =
    let e : suc (length s) - 1 ≡ length s = omega arith in
    ap (λ (n : ℕ). eqb (get_or (c ∷ s) n 0) 32) e ∙ sym (ap not (uncut c s) ∙ not_twice (eqb (get_or (c ∷ s) (length s) 0) 32))

-- ---- a good value

-- what is wrong with a value by its field decides, where it is absent
pub value_absent : (f : Field) (v : List ℕ) → [] ≡ v → eqb (field_flaw f v) 9 ≡ good_value f v
unfolding field_flaw
value_absent f v e = rw (← e) (go f.must)
  where
    go : (m : Bool) → eqb (if (m && true) 8 9) 9 ≡ not (m && true)
    go true = refl
    go false = refl

-- and where it is there, with how reading would give it
pub value_present : (f : Field) (v : List ℕ) → is_empty v ≡ false → (eqb (field_flaw f v) 9 && (same (cut v) v && not (is_zero f.rule v))) ≡ good_value f v
unfolding field_flaw
value_present f v e = rw e (go (keeps f v) f.must (same (cut v) v && not (is_zero f.rule v)))
  where
    go : (k m r : Bool) → (eqb (if (not k) 7 (if (m && false) 8 9)) 9 && r) ≡ ((k && r) && not (m && false))
    go true true true = refl
    go true true false = refl
    go true false true = refl
    go true false false = refl
    go false m r = refl

-- nothing is wrong with a value exactly when no cause is told
pub told_none : (o : Option Cause) (b : Bool) {n : ℕ} → flaw_number o ≡ n → is_some o ≡ not b → eqb n 9 ≡ b
told_none o b e f = ap (λ (n : ℕ). eqb n 9) (sym e) ∙ go o ∙ ap not f ∙ not_twice b
  where
    told : (c : Cause) → eqb (cause_number c) 9 ≡ false
    told Size = refl
    told Byte = refl
    told Malformed = refl
    told OutOfPlace = refl
    told Edition = refl
    told Value = refl
    told Incomplete = refl

    go : (o : Option Cause) → eqb (flaw_number o) 9 ≡ not (is_some o)
    go None = refl
    go (Some c) = told c

-- a value with which something is wrong is not good
pub flawed : (f : Field) (v : List ℕ) → eqb (field_flaw f v) 9 ≡ false → false ≡ good_value f v
flawed f [] e = sym e ∙ value_absent f [] refl
flawed f (c ∷ v) e = sym (sym (value_present f (c ∷ v) refl) ∙ rw e)

-- ---- the span of a value

module _ (t : List ℕ) (f : Field) (a n : ℕ) where
  abbrev span : Span
  span = record { at = a; len = n }

  -- an absent one
  pub fine_absent : n ≡ 0 → (b : Bool) → b ≡ good_value f (slice 0 0 t) → b ≡ fine_span t f span
  unfolding fine_span
  fine_absent e b q = q ∙ rw e

  -- one that points outside the text
  pub fine_outside : (n ≡ 0 → ⊥) → length t < a + n → false ≡ fine_span t f span
  unfolding fine_span
  fine_outside z h = rw (ne_eqb n 0 z, lt-leb (a + n) (length t) h)

  -- one that lies within it
  pub fine_inside : (n ≡ 0 → ⊥) → a + n ≤ length t → (x y : ℕ) → x ≡ a → y ≡ a + n → (b : Bool) → b ≡ good_value f (slice x y t) → b ≡ fine_span t f span
  unfolding fine_span
  fine_inside z h x y i j b q =
      let m : y - x ≡ n = omega arith in
      let l : is_empty (slice x y t) ≡ false = part_some t x y (omega arith) (omega arith) (λ k. z (omega arith)) in
      let v : slice x y t ≡ take n (drop a t) = sym (part_is t x y) ∙ ap (λ (k : ℕ). take k (drop x t)) m ∙ ap (λ (k : ℕ). take n (drop k t)) i in
      q ∙ ap (λ (k : Bool). good_slot f (slice x y t) && not (f.must && k)) l ∙ ap (λ (k : List ℕ). good_slot f k && not (f.must && false)) v
      ∙ sym (rw (ne_eqb n 0 z, le-leb (a + n) (length t) h))

-- ---- the digits of a package number

-- at most nine of them
pub decimal_nine : (n : ℕ) → length (decimal n) ≤ 9
decimal_nine zero = omega arith
decimal_nine (suc n) = digits_most 9 (suc n)

-- there are none just when the number is 0
pub decimal_empty : (n : ℕ) → is_empty (decimal n) ≡ eqb n 0
decimal_empty zero = refl
decimal_empty (suc n) = some (ltb (suc n) 10) (digits_of 8 (suc n / 10)) ∙ sym (ne_eqb (suc n) 0 (λ q. omega arith))
  where
    some : (b : Bool) (front : List ℕ) → is_empty (if b ((48 + suc n) ∷ []) (front ++ (48 + suc n % 10) ∷ [])) ≡ false
    some true front = refl
    some false [] = refl
    some false (d ∷ front) = refl

-- the package number has no mark *
pub no_mark : (v : List ℕ) → good_value (field_at 33) v ≡ good_slot (field_at 33) v
unfolding field_at fields_of
no_mark v = go (good_slot (field_at 33) v)
  where
    go : (b : Bool) → b && true ≡ b
    go true = refl
    go false = refl

-- they are what is spelled into a room from its beginning on
pub spelled : (n w : ℕ) (room room' : List ℕ) → w ≡ 0 + length (decimal n) → room' ≡ take 0 room ++ (decimal n ++ drop (0 + length (decimal n)) room) → slice 0 w room' ≡ decimal n
spelled n w room room' e f = rw f (take_at (decimal n) (drop (0 + length (decimal n)) room) w (omega arith))
