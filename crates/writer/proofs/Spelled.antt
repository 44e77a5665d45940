-- Spelled: pieces laid one behind the other, and the attributes of fields as such pieces.
-- Assumes nothing.
use mathlib.Core.Path.{◌≡◌, refl, sym, ap, ◌∙◌}
use mathlib.Core.Bool.{Bool, true, false}
use mathlib.Core.List.{List, [], ◌∷◌, ◌++◌, append-nil, append_assoc}
use Prim.Native.Nat.{ℕ, zero, suc, ◌+◌, ◌*◌, ◌-◌, ◌/◌, ◌%◌, ◌≤◌, ◌<◌}
use native.Mathlib.Nat.{zero-add, not-suc-le-zero, le_of_suc-le-suc}
use native.Mathlib.Numerals.{add-one}
use native.Mathlib.Omega.{arith}
use lib.Dec.{eqb, ltb}
use lib.ListN.{length, take, drop, get_or, set, length-take, length-drop, length-append}
use lib.Seq.{slice, drop-cons, drop-drop, take_at, length-take-le, drop-append-add}
use borrow.Author.Tests.{ne_eqb, ltb-true}
use Rattle.paper.specs.Lists.{bytes, if, every}
use Rattle.paper.specs.Fields.{Field, table, fields_of}
use Rattle.paper.specs.Values.{esc, escape}
use Rattle.paper.specs.Plan.{Slots}
use Rattle.paper.specs.Layout.{Span, shown, shown_all}
use Rattle.paper.specs.Writing.{attrs_of, print_attrs, digits_of, decimal}
use Rattle.paper.proofs.Small.{both}
use Rattle.room.specs.Laid.{laid}
use Rattle.fields.specs.Places.{no_field, field_at, name_of, fields_from}
use Rattle.fields.specs.Columns.{key_column}
use Rattle.fields.proofs.ColumnLaws.{letters_at, key_length}
use Rattle.fields.proofs.TableLaws.{letters_back}
use Rattle.plan.specs.Numbers.{within}
use Rattle.room.specs.Written.{Wrote}
use Rattle.room.specs.Numbered.{span_at, spans_at}
use Rattle.room.proofs.Pieces.{Fits, Going, going_fits, going_on, going_done, byte_written}
use Rattle.plan.proofs.Numbered.{span_inside}
use Rattle.writer.specs.Tags.{quoted, attribute, fields_text}

-- ---- pieces

module _ {o o₁ all t : List ℕ} {a n x : ℕ} (G : Going o o₁ a n all (x ∷ t)) where
  -- the next byte fits
  pub byte_fits : n < length o₁
  byte_fits = omega (arith, going_fits G (x ∷ []) t refl)

  -- the next byte is stored
  pub byte_on : Going o (set o₁ n x) a (n + 1) all t
  byte_on = going_on G (x ∷ []) t refl (byte_written o₁ n x byte_fits)

module _ {o o₁ all p : List ℕ} {a n : ℕ} (G : Going o o₁ a n all p) where
  -- the last piece fits
  pub last_fits : n + length p ≤ length o₁
  last_fits = going_fits G p [] (sym (append-nil p))

  -- with the last piece all is written
  pub last_on : {o₂ : List ℕ} {m : ℕ} → Fits o a all → Wrote o₁ o₂ n m p → Wrote o o₂ a m all
  last_on f w = going_done f (going_on G p [] (sym (append-nil p)) w) refl

-- ---- attributes

-- a present value has its attribute
pub attribute_some : (n v : List ℕ) → 1 ≤ length v → attribute n v ≡ quoted n (escape v)
attribute_some n [] h = absurd (omega arith)
attribute_some n (c ∷ v) h = refl

-- a part of a list, from its beginning and its length
pub part_is : (f n : ℕ) (t : List ℕ) → slice f (f + n) t ≡ take n (drop f t)
part_is zero n t = ap (λ (k : ℕ). take k t) (zero-add n)
part_is (suc f) n [] = let e : suc f + n ≡ suc (f + n) = omega arith in ap (λ (k : ℕ). drop (suc f) (take {A = ℕ} k [])) e ∙ nothing n
  where
    nothing : (n : ℕ) → ◌≡◌ {A = List ℕ} [] (take n [])
    nothing zero = refl
    nothing (suc n) = refl
part_is (suc f) n (x ∷ t) = let e : suc f + n ≡ suc (f + n) = omega arith in ap (λ (k : ℕ). drop (suc f) (take k (x ∷ t))) e ∙ part_is f n t

-- the attribute of a present span
pub span_quoted : (n t : List ℕ) (s : Span) → (s.len ≡ 0 → ⊥) → within (length t) s ≡ true → attribute n (shown t s) ≡ quoted n (escape (slice s.at (s.at + s.len) t))
span_quoted n t s z w =
    let i = span_inside (length t) s.at s.len z w in
    let l : length (take s.len (drop s.at t)) ≡ s.len = simp (length-take, length-drop) (omega arith) in
    attribute_some n (shown t s) (omega arith) ∙ ap (λ (v : List ℕ). quoted n (escape v)) (sym (part_is s.at s.len t))

-- a value is spelled in no fewer bytes than it has
pub escape_long : (v : List ℕ) → length v ≤ length (escape v)
escape_long [] = omega arith
escape_long (c ∷ v) = omega (arith, length-append (esc c) (escape v), some (eqb c 38) (eqb c 60) (eqb c 34), escape_long v)
  where
    some : (x y z : Bool) → 1 ≤ length (if x (bytes "&amp;") (if y (bytes "&lt;") (if z (bytes "&quot;") (c ∷ []))))
    some true y z = omega arith
    some false true z = omega arith
    some false false true = omega arith
    some false false false = omega arith

-- bytes laid over others that are no longer
pub laid_over : (o s e : List ℕ) (a : ℕ) → a + length e ≤ length o → length s ≤ length e → laid (laid o a s) a e ≡ laid o a e
laid_over o s e a h k =
    let t : List ℕ = take a o in
    let z : List ℕ = drop (a + length s) o in
    let l : length t ≡ a = length-take-le a o (omega arith) in
    let m : ℕ = length e - length s in
    let front : take a (t ++ (s ++ z)) ≡ t = take_at t (s ++ z) a l in
    let i : a + length e ≡ length t + length e = omega (arith, l) in
    let j : length e ≡ length s + m = omega arith in
    let n : a + length s + m ≡ a + length e = omega arith in
    let back : drop (a + length e) (t ++ (s ++ z)) ≡ drop (a + length e) o =
    ap (λ (x : ℕ). drop x (t ++ (s ++ z))) i
    ∙ drop-append-add t (s ++ z) (length e)
    ∙ ap (λ (x : ℕ). drop x (s ++ z)) j
    ∙ drop-append-add s z m
    ∙ drop-drop m (a + length s) o
    ∙ ap (λ (x : ℕ). drop x o) n in
    ap (λ (x : List ℕ). x ++ (e ++ drop (a + length e) (t ++ (s ++ z)))) front ∙ ap (λ (x : List ℕ). t ++ (e ++ x)) back

-- a digit is spelled as it is
pub esc_digit : (c : ℕ) → 48 ≤ c → c ≤ 57 → esc c ≡ c ∷ []
esc_digit c h k = rw (ne_eqb c 38 (omega arith), esc, ne_eqb c 60 (omega arith), ne_eqb c 34 (omega arith))

escape_append : (a b : List ℕ) → escape (a ++ b) ≡ escape a ++ escape b
escape_append [] b = refl
escape_append (c ∷ a) b = ap (λ (l : List ℕ). esc c ++ l) (escape_append a b) ∙ sym (append_assoc (esc c) (escape a) (escape b))

digits_plain : (k n : ℕ) → escape (digits_of k n) ≡ digits_of k n
digits_plain zero n = refl
digits_plain (suc k) n = at (ltb n 10) refl (digits_plain k (n / 10))
  where
    at : (b : Bool) → ltb n 10 ≡ b → escape (digits_of k (n / 10)) ≡ digits_of k (n / 10) → escape (digits_of (suc k) n) ≡ digits_of (suc k) n
    at true e ih = rw (e, digits_of) (rw (esc_digit (48 + n) (omega arith) (omega (arith, ltb-true n 10 e))))
    at false e ih = rw (e, digits_of) (escape_append (digits_of k (n / 10)) ((48 + n % 10) ∷ []) ∙ rw (ih, esc_digit (48 + n % 10) (omega arith) (omega arith)))

-- a number that is not 0 has its attribute, the digits as they are
pub decimal_quoted : (key : List ℕ) (n : ℕ) → (n ≡ 0 → ⊥) → attribute key (decimal n) ≡ quoted key (decimal n)
decimal_quoted key zero h = absurd (h refl)
decimal_quoted key (suc n) h = attribute_some key (digits_of 9 (suc n)) (some (ltb (suc n) 10) (digits_of 8 (suc n / 10))) ∙ ap (quoted key) (digits_plain 9 (suc n))
  where
    some : (b : Bool) (front : List ℕ) → 1 ≤ length (if b ((48 + suc n) ∷ []) (front ++ (48 + suc n % 10) ∷ []))
    some true front = omega arith
    some false front = simp length-append (omega arith)

-- ---- fields

-- the first field's attribute stands before the others
pub attrs_step : (f : Field) (fs : List Field) (v : List ℕ) (vs : Slots) → print_attrs (attrs_of (f ∷ fs) (v ∷ vs)) ≡ attribute f.letters v ++ print_attrs (attrs_of fs vs)
attrs_step f fs [] vs = refl
attrs_step f fs (c ∷ v) vs =
    let e : List ℕ = escape (c ∷ v) in
    let r : List ℕ = print_attrs (attrs_of fs vs) in
    ap (λ (z : List ℕ). 32 ∷ z) (sym (append_assoc f.letters (61 ∷ (34 ∷ (e ++ 34 ∷ []))) r ∙ ap (λ (z : List ℕ). f.letters ++ 61 ∷ 34 ∷ z) (append_assoc e (34 ∷ []) r)))

-- the attributes of fields one behind the other
abbrev pub pieces : List Field → Slots → List ℕ
pieces [] vs = []
pieces (f ∷ fs) [] = []
pieces (f ∷ fs) (v ∷ vs) = attribute f.letters v ++ pieces fs vs

pub attrs_are : (fs : List Field) (vs : Slots) → print_attrs (attrs_of fs vs) ≡ pieces fs vs
attrs_are [] vs = refl
attrs_are (f ∷ fs) [] = refl
attrs_are (f ∷ fs) (v ∷ vs) = attrs_step f fs v vs ∙ ap (λ (z : List ℕ). attribute f.letters v ++ z) (attrs_are fs vs)

-- and so for fields of the table
pub fields_step : (t l : List ℕ) (first n k : ℕ) → first < 52 → fields_text first (suc n) t k l ≡ attribute (field_at first).letters (shown t (span_at l k)) ++ fields_text (suc first) n t (suc (suc k)) l
unfolding fields_text fields_from spans_at field_at fields_of
fields_step t l first n k h =
    ap (λ (fs : List Field). print_attrs (attrs_of (take (suc n) fs) (shown t (span_at l k) ∷ shown_all t (spans_at n (suc (suc k)) l)))) (drop-cons table first no_field h)
    ∙ attrs_step (get_or table first no_field) (take n (drop (suc first) table)) (shown t (span_at l k)) (shown_all t (spans_at n (suc (suc k)) l))

-- no field has no attribute
pub fields_none : (t l : List ℕ) (first k : ℕ) → fields_text first 0 t k l ≡ []
unfolding fields_text fields_from fields_of
fields_none t l first k = refl

-- fields in two parts
pub fields_parted : (t l : List ℕ) (m n first k : ℕ) → first + m ≤ 52 → fields_text first (m + n) t k l ≡ fields_text first m t k l ++ fields_text (first + m) n t (k + 2 * m) l
fields_parted t l zero n first k h =
    let a : 0 + n ≡ n = omega arith in
    let b : first + 0 ≡ first = omega arith in
    let c : k + 2 * 0 ≡ k = omega arith in
    rw (a, b, c, fields_none t l first k)
fields_parted t l (suc m) n first k h =
    let a : suc m + n ≡ suc (m + n) = omega arith in
    let b : suc first + m ≡ first + suc m = omega arith in
    let c : suc (suc k) + 2 * m ≡ k + 2 * suc m = omega arith in
    let x : List ℕ = attribute (field_at first).letters (shown t (span_at l k)) in
    ap (λ (i : ℕ). fields_text first i t k l) a
    ∙ fields_step t l first (m + n) k (omega arith)
    ∙ ap (λ (r : List ℕ). x ++ r) (fields_parted t l m n (suc first) (suc (suc k)) (omega arith) ∙ rw (b, c))
    ∙ sym (append_assoc x (fields_text (suc first) m t (suc (suc k)) l) (fields_text (first + suc m) n t (k + 2 * suc m) l))
    ∙ ap (λ (r : List ℕ). r ++ fields_text (first + suc m) n t (k + 2 * suc m) l) (sym (fields_step t l first m k (omega arith)))

-- ---- fields in a loop

-- what is left to spell, from field i of n on
abbrev pub fields_left : ℕ → ℕ → List ℕ → ℕ → List ℕ → ℕ → List ℕ
fields_left first n t k l i = fields_text (first + i) (n - i) t (k + 2 * i) l

-- the next field is spelled first
pub next_field : (t l : List ℕ) (first n k i : ℕ) → first + n ≤ 52 → i < n
    → fields_left first n t k l i ≡ attribute (field_at (first + i)).letters (shown t (span_at l (k + 2 * i))) ++ fields_left first n t k l (i + 1)
next_field t l first n k i h j =
    let a : n - i ≡ suc (n - (i + 1)) = omega arith in
    let b : first + (i + 1) ≡ suc (first + i) = omega arith in
    let c : k + 2 * (i + 1) ≡ suc (suc (k + 2 * i)) = omega arith in
    rw (a, b, c) (fields_step t l (first + i) (n - (i + 1)) (k + 2 * i) (omega arith))

-- nothing is left behind the last field
pub no_field_lem : (t l : List ℕ) (first n k i : ℕ) → n ≤ i → fields_left first n t k l i ≡ []
no_field_lem t l first n k i h = let a : n - i ≡ 0 = omega arith in ap (λ (m : ℕ). fields_text (first + i) m t (k + 2 * i) l) a ∙ fields_none t l (first + i) (k + 2 * i)

-- the letters of a field, by its key among the table's
pub key_name : (keys : List ℕ) (id : ℕ) → keys ≡ key_column → id < 52 → name_of (get_or keys id 0) ≡ (field_at id).letters
key_name keys id e h = ap (λ (l : List ℕ). name_of (get_or l id 0)) e ∙ ap name_of (letters_at id h) ∙ letters_back id h

-- the table has 52 keys
pub keys_long : (keys : List ℕ) → keys ≡ key_column → length keys ≡ 52
keys_long keys e = ap length e ∙ key_length

-- ---- spans among numbers

-- the span of two numbers, as the code takes them
abbrev pub span_of : List ℕ → ℕ → Span
span_of l k = record { at = get_or l k 0; len = get_or l (k + 1) 0 }

pub span_of_lem : (l : List ℕ) (k : ℕ) → span_of l k ≡ span_at l k
span_of_lem l k = rw (add-one k)

module _ (p : Span → Bool) (l : List ℕ) where
  -- what holds of every span holds of each
  pub each_at : (n k i : ℕ) → i < n → every p (spans_at n k l) ≡ true → p (span_at l (k + 2 * i)) ≡ true
  unfolding spans_at
  each_at zero k i h e = absurd (not-suc-le-zero h)
  each_at (suc n) k zero h e = let q : k + 2 * 0 ≡ k = omega arith in ap (λ (j : ℕ). p (span_at l j)) q ∙ (both (p (span_at l k)) (every p (spans_at n (suc (suc k)) l)) e).0
  each_at (suc n) k (suc i) h e =
      let q : k + 2 * suc i ≡ suc (suc k) + 2 * i = omega arith in
      ap (λ (j : ℕ). p (span_at l j)) q ∙ each_at n (suc (suc k)) i (le_of_suc-le-suc h) (both (p (span_at l k)) (every p (spans_at n (suc (suc k)) l)) e).1

  -- and of two parts of them
  pub spans_parted : (m n k : ℕ) → every p (spans_at (m + n) k l) ≡ true → (every p (spans_at m k l) ≡ true) × (every p (spans_at n (k + 2 * m) l) ≡ true)
  unfolding spans_at
  spans_parted zero n k e =
      let a : 0 + n ≡ n = omega arith in
      let c : k + 2 * 0 ≡ k = omega arith in
      (refl, rw c (rw a at e))
  spans_parted (suc m) n k e =
      let a : suc m + n ≡ suc (m + n) = omega arith in
      let c : suc (suc k) + 2 * m ≡ k + 2 * suc m = omega arith in
      let f : every p (spans_at (suc (m + n)) k l) ≡ true = rw a at e in
      let (x, y) = both (p (span_at l k)) (every p (spans_at (m + n) (suc (suc k)) l)) f in
      let (u, v) = spans_parted m n (suc (suc k)) y in
      (rw (x, u), rw c at v)

-- the next field, as the code takes its key and its span
module _ (keys t l : List ℕ) (first n k i : ℕ) (e : keys ≡ key_column) (h : first + n ≤ 52) (j : i < n) where
  pub field_next : fields_left first n t k l i ≡ attribute (name_of (get_or keys (first + i) 0)) (shown t (span_of l (k + 2 * i))) ++ fields_left first n t k l (i + 1)
  field_next =
      let rest : List ℕ = fields_left first n t k l (i + 1) in
      next_field t l first n k i h j
      ∙ ap (λ (m : List ℕ). attribute m (shown t (span_at l (k + 2 * i))) ++ rest) (sym (key_name keys (first + i) e (omega arith)))
      ∙ ap (λ (s : Span). attribute (name_of (get_or keys (first + i) 0)) (shown t s) ++ rest) (sym (span_of_lem l (k + 2 * i)))

  pub field_inside : every (within (length t)) (spans_at n k l) ≡ true → within (length t) (span_of l (k + 2 * i)) ≡ true
  field_inside w = ap (within (length t)) (span_of_lem l (k + 2 * i)) ∙ each_at (within (length t)) l n k i j w
