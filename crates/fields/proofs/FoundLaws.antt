-- FoundLaws: a field and an element that are found by their keys are those that paper finds by their names.
-- Assumes nothing.
use mathlib.Core.Path.{◌≡◌, refl, sym, ap, ◌∙◌}
use mathlib.Core.Bool.{Bool, true, false, not}
use mathlib.Core.List.{List, [], ◌∷◌, map}
use Prim.Native.Nat.{ℕ, zero, suc, ◌+◌, ◌-◌, ◌≤◌, ◌<◌}
use native.Mathlib.Omega.{arith}
use lib.Dec.{leb, ltb}
use lib.ListN.{length, take, drop, get_or, length-take, get_or-eq_default}
use lib.Seq.{get_or-take, get_or-drop}
use borrow.Author.Tests.{leb-true, ltb-true}
use Rattle.paper.specs.Lists.{if, same, every, until}
use Rattle.paper.specs.Fields.{Kind, code, Field, fields_of, tag_name, named}
use Rattle.paper.proofs.Small.{both}
use Rattle.fields.specs.Places.{kind_at, place_in, first_of, count_of, under, key_of, key_or_none}
use Rattle.fields.specs.Columns.{other, key_column, child_key_column, child_kind_column, child_first_column, child_count_column}
use Rattle.fields.proofs.LookupLaws.{Short, other_name}
use Rattle.fields.proofs.ColumnLaws.{field_key, kind_key, short, part_keys, short_letters, child_keys, child_kinds, short_names}

-- ---- short names

byte_at : (n : List ℕ) → every (λ (c : ℕ). ltb c 256) n ≡ true → (i : ℕ) → get_or n i 0 < 256
byte_at [] e i = omega arith
byte_at (c ∷ n) e zero = ltb-true c 256 (both (ltb c 256) (every (λ (c : ℕ). ltb c 256) n) e).0
byte_at (c ∷ n) e (suc i) = byte_at n (both (ltb c 256) (every (λ (c : ℕ). ltb c 256) n) e).1 i

-- a short name by its test
pub short_is : (n : List ℕ) → short n ≡ true → Short n
short_is n e =
    let (a, b) = both (leb (length n) 7) (every (λ (c : ℕ). ltb c 256) n) e in
    record { few = leb-true (length n) 7 a; small = byte_at n b }

-- ---- fields

place_keys : (n : List ℕ) (fs : List Field) → every (λ (f : Field). short f.letters) fs ≡ true → ((i : ℕ) → get_or n i 0 < 256)
    → until (other (key_or_none n)) (map field_key fs) ≡ place_in n fs
place_keys n [] ok q = refl
place_keys n (f ∷ fs) ok q =
    let (a, b) = both (short f.letters) (every (λ (f : Field). short f.letters) fs) ok in
    go (same n f.letters) (other_name f.letters n (short_is f.letters a) q) (place_keys n fs b q)
  where
    go : (b : Bool) → other (key_or_none n) (key_of f.letters) ≡ not b → until (other (key_or_none n)) (map field_key fs) ≡ place_in n fs
        → until (other (key_or_none n)) (field_key f ∷ map field_key fs) ≡ if b 0 (suc (place_in n fs))
    go true e ih = rw (e, until)
    go false e ih = rw (e, until) (ap suc ih)

-- the place that is found among an element's keys
pub field_found : (e : ℕ) (n keys : List ℕ) (a c k : ℕ) → e < 10 → ((i : ℕ) → get_or n i 0 < 256)
    → keys ≡ key_column → a ≡ first_of (kind_at e) → c ≡ count_of (kind_at e) → k ≡ key_or_none n
    → until (other k) (take (a + c - a) (drop a keys)) ≡ place_in n (fields_of (kind_at e))
field_found e n keys a c k h q p f g m =
    let z : a + c - a ≡ c = omega arith in
    ap (λ (j : ℕ). until (other k) (take j (drop a keys))) z
    ∙ ap (λ (l : List ℕ). until (other k) (take c (drop a l))) p
    ∙ ap (λ (j : ℕ). until (other k) (take c (drop j key_column))) f
    ∙ ap (λ (j : ℕ). until (other k) (take j (drop (first_of (kind_at e)) key_column))) g
    ∙ ap (until (other k)) (part_keys e h)
    ∙ ap (λ (j : ℕ). until (other j) (map field_key (fields_of (kind_at e)))) m
    ∙ place_keys n (fields_of (kind_at e)) (short_letters e h) q

-- ---- elements

named_keys : (n : List ℕ) (ks : List Kind) → every (λ (k : Kind). short (tag_name k)) ks ≡ true → ((i : ℕ) → get_or n i 0 < 256)
    → get_or (map code ks) (until (other (key_or_none n)) (map kind_key ks)) 0 ≡ code (named n ks)
named_keys n [] ok q = refl
named_keys n (k ∷ ks) ok q =
    let (a, b) = both (short (tag_name k)) (every (λ (k : Kind). short (tag_name k)) ks) ok in
    go (same n (tag_name k)) (other_name (tag_name k) n (short_is (tag_name k) a) q) (named_keys n ks b q)
  where
    go : (b : Bool) → other (key_or_none n) (key_of (tag_name k)) ≡ not b → get_or (map code ks) (until (other (key_or_none n)) (map kind_key ks)) 0 ≡ code (named n ks)
        → get_or (code k ∷ map code ks) (until (other (key_or_none n)) (kind_key k ∷ map kind_key ks)) 0 ≡ code (if b k (named n ks))
    go true e ih = rw (e, until)
    go false e ih = rw (e, until) ih

module _ (p i k : ℕ) (n : List ℕ) (h : p < 11) (q : (j : ℕ) → get_or n j 0 < 256) (m : k ≡ key_or_none n)
    (found : i ≡ until (other k) (take (get_or child_first_column p 0 + get_or child_count_column p 0 - get_or child_first_column p 0) (drop (get_or child_first_column p 0) child_key_column))) where
  told : get_or (take (get_or child_count_column p 0) (drop (get_or child_first_column p 0) child_kind_column)) i 0 ≡ code (named n (under p))
  told =
      let a = get_or child_first_column p 0 in
      let c = get_or child_count_column p 0 in
      let z : a + c - a ≡ c = omega arith in
      let f : i ≡ until (other (key_or_none n)) (map kind_key (under p)) =
      found ∙ ap (λ (j : ℕ). until (other k) (take j (drop a child_key_column))) z ∙ ap (until (other k)) (child_keys p h)
      ∙ ap (λ (j : ℕ). until (other j) (map kind_key (under p))) m in
      ap (λ (l : List ℕ). get_or l i 0) (child_kinds p h) ∙ ap (λ (j : ℕ). get_or (map code (under p)) j 0) f ∙ named_keys n (under p) (short_names p h) q

  -- the element that is found among a parent's keys
  pub child_found : i < get_or child_count_column p 0 → get_or child_kind_column (get_or child_first_column p 0 + i) 0 ≡ code (named n (under p))
  child_found l =
      sym (get_or-drop (get_or child_first_column p 0) child_kind_column i 0)
      ∙ sym (get_or-take (get_or child_count_column p 0) (drop (get_or child_first_column p 0) child_kind_column) i 0 l)
      ∙ told

  -- none is found
  pub child_none : get_or child_count_column p 0 ≤ i → 0 ≡ code (named n (under p))
  child_none l =
      let s = drop (get_or child_first_column p 0) child_kind_column in
      let c = get_or child_count_column p 0 in
      sym (get_or-eq_default (take c s) 0 (omega (arith, length-take c s))) ∙ told
