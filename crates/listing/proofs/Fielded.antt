-- Fielded: the lines of fields one after the other: what a field's part of the text gives, and the next field's line in front of the others.
-- Assumes nothing.
use mathlib.Core.Path.{◌≡◌, refl, sym, ap, ◌∙◌}
use mathlib.Core.Bool.{true}
use mathlib.Core.List.{List, [], ◌∷◌, ◌++◌, append_assoc}
use Prim.Native.Nat.{ℕ, suc, ◌+◌, ◌*◌, ◌-◌, ◌≤◌, ◌<◌}
use native.Mathlib.Numerals.{add-one}
use native.Mathlib.Omega.{arith}
use lib.ListN.{length, take, drop, get_or, length-take, length-drop}
use lib.Seq.{drop-cons}
use Rattle.paper.specs.Lists.{every}
use Rattle.paper.specs.Fields.{Field, table, fields_of}
use Rattle.paper.specs.Plan.{Slots}
use Rattle.paper.specs.Layout.{shown, shown_all}
use Rattle.paper.specs.Listing.{Line, line, print, field_lines}
use Rattle.paper.proofs.Small.{both}
use Rattle.fields.specs.Places.{no_field, field_at, key_of, name_of, fields_from}
use Rattle.fields.proofs.TableLaws.{letters_back}
use Rattle.plan.specs.Numbers.{within}
use Rattle.room.specs.Written.{Wrote}
use Rattle.listing.specs.Numbered.{given, lines_of}
use Rattle.room.specs.Numbered.{span_at, spans_at}
use Rattle.plan.proofs.Numbered.{span_inside}
use Rattle.room.proofs.Pieces.{Fits, Going, going_start, going_fits, going_on, first_fits, second_fits, both_written}

-- lines behind lines are printed behind them
pub print_append : (a b : List Line) → print (a ++ b) ≡ print a ++ print b
print_append [] b = refl
print_append (l ∷ a) b =
    rw (print_append a b)
    (sym (append_assoc l.key (61 ∷ (l.value ++ 10 ∷ print a)) (print b) ∙ ap (λ (z : List ℕ). l.key ++ 61 ∷ z) (append_assoc l.value (10 ∷ print a) (print b))))

-- a present value has its line
given_some : (k v : List ℕ) → 1 ≤ length v → given k v ≡ line k v ∷ []
given_some k [] h = absurd (omega arith)
given_some k (c ∷ v) h = refl

-- the line of a present value, with the letters' key in the place of the letters
pub present_line : (path t : List ℕ) (id key from len : ℕ) → id < 52 → key ≡ key_of (field_at id).letters → (len ≡ 0 → ⊥) → within (length t) (record { at = from; len = len }) ≡ true
    → print (given (path ++ (field_at id).letters) (take len (drop from t))) ≡ print (line (path ++ name_of key) (take (from + len - from) (drop from t)) ∷ [])
present_line path t id key from len h e z w =
    let i = span_inside (length t) from len z w in
    let l : length (take len (drop from t)) ≡ len = simp (length-take, length-drop) (omega arith) in
    let m : 1 ≤ length (take len (drop from t)) = omega arith in
    let n : from + len - from ≡ len = omega arith in
    rw (given_some (path ++ (field_at id).letters) (take len (drop from t)) m, n, e, letters_back id h)

-- the first field's line stands before the others
fields_step : (k : List ℕ) (f : Field) (fs : List Field) (v : List ℕ) (vs : Slots) → field_lines k (f ∷ fs) (v ∷ vs) ≡ given (k ++ f.letters) v ++ field_lines k fs vs
fields_step k f fs [] vs = refl
fields_step k f fs (c ∷ v) vs = refl

lines_step : (path t l : List ℕ) (first n k : ℕ) → first < 52
    → lines_of path first (suc n) t k l ≡ given (path ++ (field_at first).letters) (shown t (span_at l k)) ++ lines_of path (suc first) n t (suc (suc k)) l
unfolding fields_from spans_at field_at fields_of
lines_step path t l first n k h =
    ap (λ (fs : List Field). field_lines path (take (suc n) fs) (shown t (span_at l k) ∷ shown_all t (spans_at n (suc (suc k)) l))) (drop-cons table first no_field h)
    ∙ fields_step path (get_or table first no_field) (take n (drop (suc first) table)) (shown t (span_at l k)) (shown_all t (spans_at n (suc (suc k)) l))

-- what is left to print, from field i of n on
abbrev pub left : List ℕ → ℕ → ℕ → List ℕ → ℕ → List ℕ → ℕ → List ℕ
left path first n t k l i = print (lines_of path (first + i) (n - i) t (k + 2 * i) l)

-- the next line is printed first
pub next_field : (path t l : List ℕ) (first n k i : ℕ) → first + n ≤ 52 → i < n
    → left path first n t k l i ≡ print (given (path ++ (field_at (first + i)).letters) (shown t (span_at l (k + 2 * i)))) ++ left path first n t k l (i + 1)
next_field path t l first n k i h j =
    let a : n - i ≡ suc (n - (i + 1)) = omega arith in
    let b : first + (i + 1) ≡ suc (first + i) = omega arith in
    let c : k + 2 * (i + 1) ≡ suc (suc (k + 2 * i)) = omega arith in
    rw (a, b, c, lines_step path t l (first + i) (n - (i + 1)) (k + 2 * i) (omega arith))
    (print_append (given (path ++ (field_at (first + i)).letters) (shown t (span_at l (k + 2 * i)))) (lines_of path (suc (first + i)) (n - (i + 1)) t (suc (suc (k + 2 * i))) l))

-- nothing is left behind the last field
pub no_field_lem : (path t l : List ℕ) (first n k i : ℕ) → n ≤ i → left path first n t k l i ≡ []
unfolding fields_from fields_of
no_field_lem path t l first n k i h = let a : n - i ≡ 0 = omega arith in rw a

-- the span at a place lies within the text, and so do those behind it
pub span_next : (m : ℕ) (l : List ℕ) (n k i : ℕ) → i < n → every (within m) (spans_at (n - i) (k + 2 * i) l) ≡ true
    → (within m (span_at l (k + 2 * i)) ≡ true) × (every (within m) (spans_at (n - (i + 1)) (k + 2 * (i + 1)) l) ≡ true)
unfolding spans_at
span_next m l n k i h e =
    let a : n - i ≡ suc (n - (i + 1)) = omega arith in
    let c : k + 2 * (i + 1) ≡ suc (suc (k + 2 * i)) = omega arith in
    rw c (both (within m (span_at l (k + 2 * i))) (every (within m) (spans_at (n - (i + 1)) (suc (suc (k + 2 * i))) l)) (rw a at e))

-- ---- the fields in a loop

-- the room out₀ has become out: i of the fields are printed, the place reached is a, and the spans of the others lie within the text
pub record Fielding (out₀ path text numbers : List ℕ) (at first count from : ℕ) (out : List ℕ) (a i : ℕ) : Type 0 where
  pub turns : i ≤ count
  pub inside : every (within (length text)) (spans_at (count - i) (from + 2 * i) numbers) ≡ true
  pub going : Going out₀ out at a (print (lines_of path first count text from numbers)) (left path first count text from numbers i)

-- no field is printed yet
pub fields_start : {out path text numbers : List ℕ} {at first count from : ℕ} → every (within (length text)) (spans_at count from numbers) ≡ true
    → Fits out at (print (lines_of path first count text from numbers)) → Fielding out path text numbers at first count from out at 0
fields_start {out} {path} {text} {numbers} {at} {first} {count} {from} e f =
    let a : count - 0 ≡ count = omega arith in
    let b : from + 2 * 0 ≡ from = omega arith in
    let c : first + 0 ≡ first = omega arith in
    record { turns = omega arith; inside = rw (a, b) e; going = rw (a, b, c) (going_start f) }

module _ {out₀ path text numbers out : List ℕ} {at first count from a i : ℕ} (H : Fielding out₀ path text numbers at first count from out a i) (few : first + count ≤ 52) (h : i < count)
    (start len : ℕ) (s : start ≡ get_or numbers (from + 2 * i) 0) (e : len ≡ get_or numbers (from + 2 * i + 1) 0) where
  span_is : record { at = start; len = len } ≡ span_at numbers (from + 2 * i)
  span_is = rw (s, e, add-one (from + 2 * i))

  next_is : left path first count text from numbers i
      ≡ print (given (path ++ (field_at (first + i)).letters) (take len (drop start text))) ++ left path first count text from numbers (i + 1)
  next_is = rw (s, e, add-one (from + 2 * i)) (next_field path text numbers first count from i few h)

  -- what the next field's line asks for
  pub fields_asked : (first + i < 52) × (within (length text) (record { at = start; len = len }) ≡ true)
      × (a + length (print (given (path ++ (field_at (first + i)).letters) (take len (drop start text)))) ≤ length out)
  fields_asked = (
    omega arith,
    ap (within (length text)) span_is ∙ (span_next (length text) numbers count from i h H.inside).0,
    going_fits H.going (print (given (path ++ (field_at (first + i)).letters) (take len (drop start text)))) (left path first count text from numbers (i + 1)) next_is,
  )

  -- the next field is printed
  pub fields_turn : {out' : List ℕ} {r : ℕ} → Wrote out out' a r (print (given (path ++ (field_at (first + i)).letters) (take len (drop start text))))
      → Fielding out₀ path text numbers at first count from out' r (i + 1)
  fields_turn w = record {
    turns = omega arith;
    inside = (span_next (length text) numbers count from i h H.inside).1;
    going = going_on H.going (print (given (path ++ (field_at (first + i)).letters) (take len (drop start text)))) (left path first count text from numbers (i + 1)) next_is w;
  }

-- ---- lines behind lines

module _ {o : List ℕ} {a : ℕ} (x y : List Line) (f : Fits o a (print (x ++ y))) where
  apart_fits : Fits o a (print x ++ print y)
  apart_fits = rw (print_append x y) at f

  -- where lines fit, the first of them fit
  pub first_lines : Fits o a (print x)
  first_lines = first_fits (print x) (print y) apart_fits

  -- and once these are written, the others
  pub other_lines : {o₁ : List ℕ} {b : ℕ} → Wrote o o₁ a b (print x) → Fits o₁ b (print y)
  other_lines u = second_fits (print y) apart_fits u

  -- written one behind the other they are all of them
  pub lines_written : {o₁ o₂ : List ℕ} {b c : ℕ} → Wrote o o₁ a b (print x) → Wrote o₁ o₂ b c (print y) → Wrote o o₂ a c (print (x ++ y))
  lines_written u v = rw (print_append x y) (both_written apart_fits u v)
