-- TableLaws: what a caller of the look-ups needs of paper's table: known letters, the field at a place of an element, and names from their keys.
-- Assumes nothing.
use mathlib.Core.Path.{◌≡◌, refl, sym, ap, ◌∙◌}
use mathlib.Core.Bool.{Bool, true, false, ◌||◌}
use mathlib.Core.List.{List, [], ◌∷◌}
use Prim.Native.Nat.{ℕ, suc, ◌+◌, ◌<◌}
use native.Mathlib.Omega.{arith}
use lib.Dec.{eqb, ltb}
use lib.ListN.{length, take, drop, get_or}
use lib.Seq.{get_or-take, get_or-drop}
use borrow.Author.Tests.{eqb-true, lt-ltb, ltb-true, ltb-false, le-ltb}
use Rattle.paper.specs.Lists.{if, same, elem}
use Rattle.paper.specs.Fields.{Kind, code, Field, table, fields_of}
use Rattle.paper.specs.Judging.{letters_of}
use Rattle.paper.proofs.Small.{below_at}
use Rattle.paper.proofs.ByKind.{by_kind_lem, kind_at_lem}
use Rattle.fields.specs.Places.{kind_at, no_field, field_at, place_in, first_of, count_of, key_of, name_of}
use Rattle.fields.proofs.NameLaws.{name_back}
use Rattle.fields.proofs.ColumnLaws.{short}
use Rattle.fields.proofs.FoundLaws.{short_is}

-- letters are known just when a field is found
pub known : (n : List ℕ) (fs : List Field) → elem n (letters_of fs) ≡ ltb (place_in n fs) (length fs)
known n [] = refl
known n (f ∷ fs) = go (same n f.letters) (known n fs)
  where
    go : (b : Bool) → elem n (letters_of fs) ≡ ltb (place_in n fs) (length fs) → (b || elem n (letters_of fs)) ≡ ltb (if b 0 (suc (place_in n fs))) (suc (length fs))
    go true e = sym (lt-ltb 0 (suc (length fs)) (omega arith))
    go false e = e ∙ shift (ltb (place_in n fs) (length fs)) refl
      where
        shift : (b : Bool) → ltb (place_in n fs) (length fs) ≡ b → ltb (place_in n fs) (length fs) ≡ ltb (suc (place_in n fs)) (suc (length fs))
        shift true q = let l = ltb-true (place_in n fs) (length fs) q in q ∙ sym (lt-ltb (suc (place_in n fs)) (suc (length fs)) (omega arith))
        shift false q = let l = ltb-false (place_in n fs) (length fs) q in q ∙ sym (le-ltb (suc (place_in n fs)) (suc (length fs)) (omega arith))

-- the field that is found has those letters
pub found_letters : (n : List ℕ) (fs : List Field) → place_in n fs < length fs → same n (get_or fs (place_in n fs) no_field).letters ≡ true
found_letters n [] h = absurd (omega arith)
found_letters n (f ∷ fs) h = go (same n f.letters) refl h (found_letters n fs)
  where
    go : (b : Bool) → same n f.letters ≡ b → if b 0 (suc (place_in n fs)) < suc (length fs) → (place_in n fs < length fs → same n (get_or fs (place_in n fs) no_field).letters ≡ true)
        → same n (get_or (f ∷ fs) (if b 0 (suc (place_in n fs))) no_field).letters ≡ true
    go true e h ih = e
    go false e h ih = ih (omega arith)

-- the element of an element's number
pub kind_back : (k : Kind) → kind_at (code k) ≡ k
unfolding kind_at
kind_back k = kind_at_lem k

-- the number of a number's element
pub code_back : (e : ℕ) → e < 10 → code (kind_at e) ≡ e
unfolding kind_at
code_back e h = eqb-true (code (kind_at e)) e (below_at 10 (λ (n : ℕ). eqb (code (kind_at n)) n) refl e h)

-- an element's fields are a part of the table
pub part_of_table : (k : Kind) → fields_of k ≡ take (count_of k) (drop (first_of k) table)
unfolding first_of count_of fields_of
part_of_table k =
    by_kind_lem (λ k. fields_of k ≡ take (count_of k) (drop (first_of k) table)) (refl, refl, refl, refl, refl, refl, refl, refl, refl, refl) k

-- the field at a place of an element
pub field_at_lem : (k : Kind) (i : ℕ) → i < count_of k → get_or (fields_of k) i no_field ≡ field_at (first_of k + i)
unfolding field_at fields_of
field_at_lem k i h =
    ap (λ (l : List Field). get_or l i no_field) (part_of_table k)
    ∙ get_or-take (count_of k) (drop (first_of k) table) i no_field h
    ∙ get_or-drop (first_of k) table i no_field

-- ---- names from keys

short_at : (id : ℕ) → id < 52 → short (field_at id).letters ≡ true
unfolding field_at fields_of
short_at id h = below_at 52 (λ (n : ℕ). short (field_at n).letters) refl id h

-- the letters of a field, back from their key
pub letters_back : (id : ℕ) → id < 52 → name_of (key_of (field_at id).letters) ≡ (field_at id).letters
letters_back id h = name_back (field_at id).letters (short_is (field_at id).letters (short_at id h))
