-- LetterLaws: the table of one-letter fields is that of the document, and what stands behind such a letter makes an attribute.
-- Assumes nothing.
use mathlib.Core.Path.{◌≡◌, refl, sym, ap, ◌∙◌, subst}
use mathlib.Core.Bool.{Bool, true, false, ◌&&◌}
use mathlib.Core.List.{List, [], ◌∷◌, ◌++◌}
use Prim.Native.Nat.{ℕ, ◌+◌, ◌*◌, ◌<◌}
use native.Mathlib.Omega.{arith}
use lib.Dec.{eqb, ltb}
use lib.ListN.{length, get_or, drop}
use lib.Seq.{slice}
use borrow.Author.Tests.{eqb-true, ltb-true, lt-ltb}
use Rattle.paper.specs.Lists.{if, until}
use Rattle.paper.specs.Bytes.{is_space, is_letter}
use Rattle.paper.specs.Grammar.{Attrs, Quote, double, single, is_name_byte}
use Rattle.paper.specs.Fields.{Kind, fields_of}
use Rattle.paper.proofs.Small.{below, below_at, both}
use Rattle.fields.specs.Places.{kind_at, place_in, first_of, count_of}
use Rattle.room.proofs.Runs.{run_ends, run_on}
use Rattle.quoted.specs.Raws.{RawAt}
use Rattle.quick.specs.Letters.{letter_table, LetterAt}
use Rattle.quick.specs.Taken.{attr, NamedAt}
use Rattle.quoted.proofs.Pieces.{in_it}
use Rattle.quick.proofs.PassedLaws.{no_nought, attr_derives}
use Rattle.quick.proofs.TagLaws.{letter_at}

-- ---- the table

abbrev entry : ℕ → ℕ → ℕ
entry k b = get_or letter_table (k * 128 + b) 0

-- the row of an element: how many fields it has, where they begin, and the fields of one letter
right : ℕ → ℕ → Bool
right k b = if (eqb b 0) (eqb (entry k b) (128 + count_of (kind_at k)))
    (if (eqb b 1) (eqb (entry k b) (128 + first_of (kind_at k)))
    (if (ltb (entry k b) 128) (is_letter b && (eqb (entry k b) (place_in (b ∷ []) (fields_of (kind_at k))) && ltb (entry k b) (length (fields_of (kind_at k))))) true))

rows : below 10 (λ (k : ℕ). below 128 (right k)) ≡ true
unfolding letter_table right kind_at count_of first_of fields_of
rows = refl

row_at : (k b : ℕ) → k < 10 → b < 128 → right k b ≡ true
row_at k b h l = below_at 128 (right k) (below_at 10 (λ (n : ℕ). below 128 (right n)) rows k h) b l

pub count_entry : (k : ℕ) → k < 10 → get_or letter_table (k * 128) 0 ≡ 128 + count_of (kind_at k)
unfolding right
count_entry k h =
    let z : k * 128 + 0 ≡ k * 128 = omega arith in
    ap (λ (n : ℕ). get_or letter_table n 0) (sym z) ∙ eqb-true (entry k 0) (128 + count_of (kind_at k)) (row_at k 0 h (omega arith))

pub first_entry : (k : ℕ) → k < 10 → get_or letter_table (k * 128 + 1) 0 ≡ 128 + first_of (kind_at k)
unfolding right
first_entry k h = eqb-true (entry k 1) (128 + first_of (kind_at k)) (row_at k 1 h (omega arith))

-- an entry that is a place is that of the field whose name is the letter
pub letter_entry : (k b : ℕ) → k < 10 → b < 128 → get_or letter_table (k * 128 + b) 0 < 128
    → (is_letter b ≡ true) × (get_or letter_table (k * 128 + b) 0 ≡ place_in (b ∷ []) (fields_of (kind_at k))) × (get_or letter_table (k * 128 + b) 0 < length (fields_of (kind_at k)))
unfolding right
letter_entry k b h l s = zero (eqb b 0) refl (row_at k b h l)
  where
    letter : if (ltb (entry k b) 128) (is_letter b && (eqb (entry k b) (place_in (b ∷ []) (fields_of (kind_at k))) && ltb (entry k b) (length (fields_of (kind_at k))))) true ≡ true
        → (is_letter b ≡ true) × (entry k b ≡ place_in (b ∷ []) (fields_of (kind_at k))) × (entry k b < length (fields_of (kind_at k)))
    letter e =
        let e' : is_letter b && (eqb (entry k b) (place_in (b ∷ []) (fields_of (kind_at k))) && ltb (entry k b) (length (fields_of (kind_at k)))) ≡ true = rw (lt-ltb (entry k b) 128 s) at e in
        let x = both (is_letter b) _ e' in
        let y = both (eqb (entry k b) (place_in (b ∷ []) (fields_of (kind_at k)))) _ x.1 in
        (x.0, eqb-true _ _ y.0, ltb-true _ _ y.1)

    one : (t : Bool) → eqb b 1 ≡ t
        → if t (eqb (entry k b) (128 + first_of (kind_at k))) (if (ltb (entry k b) 128) (is_letter b && (eqb (entry k b) (place_in (b ∷ []) (fields_of (kind_at k))) && ltb (entry k b) (length (fields_of (kind_at k))))) true) ≡ true
        → (is_letter b ≡ true) × (entry k b ≡ place_in (b ∷ []) (fields_of (kind_at k))) × (entry k b < length (fields_of (kind_at k)))
    one true q e = let z = eqb-true (entry k b) (128 + first_of (kind_at k)) e in absurd (omega (arith, z, s))
    one false q e = letter e

    zero : (t : Bool) → eqb b 0 ≡ t
        → if t (eqb (entry k b) (128 + count_of (kind_at k))) (if (eqb b 1) (eqb (entry k b) (128 + first_of (kind_at k))) (if (ltb (entry k b) 128) (is_letter b && (eqb (entry k b) (place_in (b ∷ []) (fields_of (kind_at k))) && ltb (entry k b) (length (fields_of (kind_at k))))) true)) ≡ true
        → (is_letter b ≡ true) × (entry k b ≡ place_in (b ∷ []) (fields_of (kind_at k))) × (entry k b < length (fields_of (kind_at k)))
    zero true q e = let z = eqb-true (entry k b) (128 + count_of (kind_at k)) e in absurd (omega (arith, z, s))
    zero false q e = one (eqb b 1) refl e

-- ---- an attribute of one letter

pub letter_found : (w : List ℕ) (k a b : ℕ) (t : List ℕ) → k < 10 → t ≡ letter_table → b ≡ get_or w a 0 → get_or w (a + 1) 0 ≡ 61 → Quote (get_or w (a + 2) 0) → b < 128
    → get_or t (k * 128 + b) 0 < 128 → LetterAt w (kind_at k) a (get_or t (k * 128 + b) 0)
letter_found w k a b t h e q eq qu l s =
    let s' : get_or letter_table (k * 128 + b) 0 < 128 = rw e at s in
    let x = letter_entry k b h l s' in
    record { letter = rw q at x.0; equals = eq; quoted = qu; field = rw (e, ← q) x.1; known = rw e x.2 }

no_space : (q : ℕ) → Quote q → is_space q ≡ false
no_space q double = refl
no_space q single = refl

-- nothing is passed where the first byte is no such byte
pub none_passed : (p : ℕ → Bool) (w : List ℕ) (i c : ℕ) → i < length w → get_or w i 0 ≡ c → p c ≡ false → i ≡ i + until p (drop i w)
none_passed p w i c h e n = sym (run_ends p w i h (rw e n))

module _ {w : List ℕ} {k : Kind} {a j : ℕ} (L : LetterAt w k a j) where
  in_page : a + 2 < length w
  in_page = in_it w (a + 2) (no_nought _ L.quoted)

  pub letter_named : NamedAt w k a j (a + 3) (get_or w (a + 2) 0)
  letter_named =
      let q = get_or w (a + 2) 0 in
      let l = L.letter in
      let i = in_page in
      let n : is_name_byte (get_or w a 0) ≡ true = rw l in
      let he : a + 1 ≡ a + until is_name_byte (drop a w) = none_passed is_name_byte w (a + 1) 61 (omega arith) L.equals refl ∙ sym (run_on is_name_byte w a (omega arith) n) in
      let hu : a + 1 ≡ a + 1 + until is_space (drop (a + 1) w) = none_passed is_space w (a + 1) 61 (omega arith) L.equals refl in
      let z2 : a + 1 + 1 ≡ a + 2 = omega arith in
      let z3 : a + 2 + 1 ≡ a + 3 = omega arith in
      let hv : a + 2 ≡ a + 1 + 1 + until is_space (drop (a + 1 + 1) w) = rw z2 (none_passed is_space w (a + 2) q (omega arith) refl (no_space q L.quoted)) in
      let name : slice a (a + 1) w ≡ get_or w a 0 ∷ [] = letter_at w a (get_or w a 0) (omega arith) refl in
      record {
        name = slice a (a + 1) w;
        within = (omega arith, omega arith);
        quoted = L.quoted;
        field = L.field ∙ ap (λ (x : List ℕ). place_in x (fields_of k)) (sym name);
        known = L.known;
        derives = λ z R x m d.
            let R' : RawAt w (a + 2 + 1) q z = subst (λ (v : ℕ). RawAt w v q z) (sym z3) R in
            subst (λ (v : ℕ). Attrs true (slice a (z + 1) w ++ x) (attr (slice a (a + 1) w) (slice v z w) ∷ m)) z3
            (attr_derives w a (a + 1) (a + 1) (a + 2) q z l he (omega arith) hu (omega arith) (omega arith) L.equals hv (omega arith) i refl L.quoted R' x m d);
      }
