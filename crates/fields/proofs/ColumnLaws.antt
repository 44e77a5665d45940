-- ColumnLaws: what stands in the columns at a place is what paper's table has there.
-- Assumes nothing.
use mathlib.Core.Path.{◌≡◌, refl, sym, ap, ◌∙◌}
use mathlib.Core.Bool.{Bool, true, false, ◌&&◌}
use mathlib.Core.List.{List, [], ◌∷◌, map}
use Prim.Native.Nat.{ℕ, zero, suc, ◌+◌, ◌≤◌, ◌<◌}
use native.Mathlib.Omega.{arith}
use lib.Dec.{eqb, leb, ltb}
use lib.ListN.{length, take, drop, get_or}
use lib.Seq.{get_or-take, get_or-drop}
use borrow.Author.Tests.{eqb-true, leb-true}
use Rattle.paper.specs.Lists.{same, every}
use Rattle.paper.specs.Fields.{Kind, code, Field, table, fields_of, tag_name, excluded}
use Rattle.paper.proofs.Small.{below_at, same_eq, every_at}
use Rattle.fields.specs.Places.{field_count, kind_at, rule_number, no_field, field_at, first_of, count_of, under, ones_of, others_of, key_of}
use Rattle.fields.specs.Columns.{bit, packed, entry_of, limit_of, part_of, key_column, limit_column, first_column, count_column, child_key_column, child_kind_column, child_first_column, child_count_column, one_column, other_column, pair_first_column, pair_count_column}

-- ---- a field's columns

-- an entry of a list within its length, whatever stands beyond it
get_d_of : {A : Type 0} (f : A → ℕ) (l : List A) (i : ℕ) (d : A) → i < length l → get_or (map f l) i 0 ≡ f (get_or l i d)
get_d_of f [] i d h = absurd (omega arith)
get_d_of f (x ∷ l) zero d h = refl
get_d_of f (x ∷ l) (suc i) d h = get_d_of f l i d (omega arith)

-- the letters of a field
pub letters_at : (id : ℕ) → id < 52 → get_or key_column id 0 ≡ key_of (field_at id).letters
unfolding key_column field_at fields_of
letters_at id h = get_d_of (λ (f : Field). key_of f.letters) table id no_field h

-- number k of a field's limits is what the field says there, by one computed test
limit_by : (g : Field → ℕ) (k : ℕ) → every (λ (f : Field). eqb (part_of (limit_of f) k) (g f)) table ≡ true → (id : ℕ) → id < 52 → part_of (get_or limit_column id 0) k ≡ g (field_at id)
unfolding limit_column field_at fields_of
limit_by g k e id h = ap (λ (n : ℕ). part_of n k) (get_d_of limit_of table id no_field h) ∙ eqb-true _ _ (every_at (λ (f : Field). eqb (part_of (limit_of f) k) (g f)) table no_field id e h)

-- the same in limits that a caller hands down
pub handed : (k : ℕ) (l : List ℕ) (id x : ℕ) → l ≡ limit_column → part_of (get_or limit_column id 0) k ≡ x → part_of (get_or l id 0) k ≡ x
handed k l id x e f = ap (λ (s : List ℕ). part_of (get_or s id 0) k) e ∙ f

-- its rule
pub rule_at_lem : (id : ℕ) → id < 52 → part_of (get_or limit_column id 0) 0 ≡ rule_number (field_at id).rule
unfolding fields_of
rule_at_lem = limit_by (λ (f : Field). rule_number f.rule) 0 refl

pub rule_small : (id : ℕ) → id < 52 → rule_number (field_at id).rule ≤ 255
unfolding field_at fields_of
rule_small id h = leb-true _ 255 (every_at (λ (f : Field). leb (rule_number f.rule) 255) table no_field id refl h)

-- its least length
pub least_at : (id : ℕ) → id < 52 → part_of (get_or limit_column id 0) 1 ≡ (field_at id).least
unfolding fields_of
least_at = limit_by (λ (f : Field). f.least) 1 refl

-- its greatest length
pub most_at : (id : ℕ) → id < 52 → part_of (get_or limit_column id 0) 2 ≡ (field_at id).most
unfolding fields_of
most_at = limit_by (λ (f : Field). f.most) 2 refl

-- how many line breaks it may have
pub tilde_at : (id : ℕ) → id < 52 → part_of (get_or limit_column id 0) 3 ≡ (field_at id).tildes
unfolding fields_of
tilde_at = limit_by (λ (f : Field). f.tildes) 3 refl

-- whether it must be present
pub must_at : (id : ℕ) → id < 52 → part_of (get_or limit_column id 0) 4 ≡ bit (field_at id).must
unfolding fields_of
must_at = limit_by (λ (f : Field). bit f.must) 4 refl

-- the number of a truth value is 1 just for the true one
pub bit_one : (b : Bool) → eqb (bit b) 1 ≡ b
bit_one true = refl
bit_one false = refl

-- ---- an element's columns

-- the place of an element's first field
pub first_at : (e : ℕ) → e < 10 → entry_of (packed first_column) e ≡ first_of (kind_at e)
unfolding first_column first_of kind_at fields_of
first_at e h = eqb-true (entry_of (packed first_column) e) (first_of (kind_at e)) (below_at 10 (λ (n : ℕ). eqb (entry_of (packed first_column) n) (first_of (kind_at n))) refl e h)

-- how many fields an element has
pub count_at : (e : ℕ) → e < 10 → entry_of (packed count_column) e ≡ count_of (kind_at e)
unfolding count_column count_of kind_at fields_of
count_at e h = eqb-true (entry_of (packed count_column) e) (count_of (kind_at e)) (below_at 10 (λ (n : ℕ). eqb (entry_of (packed count_column) n) (count_of (kind_at n))) refl e h)

-- how many excluded pairs an element has
pub pairs_at_lem : (e : ℕ) → e < 10 → entry_of (packed pair_count_column) e ≡ length (excluded (kind_at e))
unfolding pair_count_column kind_at
pairs_at_lem e h =
    eqb-true (entry_of (packed pair_count_column) e) (length (excluded (kind_at e))) (below_at 10 (λ (n : ℕ). eqb (entry_of (packed pair_count_column) n) (length (excluded (kind_at n)))) refl e h)

-- ---- excluded pairs

-- the pairs of an element stand within the columns
pub pairs_within : (e : ℕ) → e < 10 → entry_of (packed pair_first_column) e + length (excluded (kind_at e)) ≤ 10
unfolding pair_first_column ones_of kind_at fields_of
pairs_within e h = leb-true (entry_of (packed pair_first_column) e + length (excluded (kind_at e))) 10
    (below_at 10 (λ (n : ℕ). leb (entry_of (packed pair_first_column) n + length (excluded (kind_at n))) 10) refl e h)

-- an entry of a part of a column
entry : (l m : List ℕ) (a c i : ℕ) → take c (drop a l) ≡ m → i < c → get_or l (a + i) 0 ≡ get_or m i 0
entry l m a c i e h = sym (get_or-drop a l i 0) ∙ sym (get_or-take c (drop a l) i 0 h) ∙ ap (λ (s : List ℕ). get_or s i 0) e

-- the entries of the packed ones are the column's
one_entry : (p : ℕ) → p < 10 → entry_of (packed one_column) p ≡ get_or one_column p 0
unfolding one_column ones_of fields_of
one_entry p h = eqb-true (entry_of (packed one_column) p) (get_or one_column p 0) (below_at 10 (λ (n : ℕ). eqb (entry_of (packed one_column) n) (get_or one_column n 0)) refl p h)

-- the one of an element's pair
pub one_at : (e i : ℕ) → e < 10 → i < length (excluded (kind_at e)) → entry_of (packed one_column) (entry_of (packed pair_first_column) e + i) ≡ get_or (ones_of (kind_at e)) i 0
unfolding one_column pair_first_column ones_of kind_at fields_of
one_at e i h l = let within = pairs_within e h in one_entry (entry_of (packed pair_first_column) e + i) (omega arith) ∙ entry one_column (ones_of (kind_at e)) (entry_of (packed pair_first_column) e) (length (excluded (kind_at e))) i
    (same_eq (take (length (excluded (kind_at e))) (drop (entry_of (packed pair_first_column) e) one_column)) (ones_of (kind_at e))
    (below_at 10 (λ (n : ℕ). same (take (length (excluded (kind_at n))) (drop (entry_of (packed pair_first_column) n) one_column)) (ones_of (kind_at n))) refl e h)) l

-- the entries of the packed others are the column's
other_entry : (p : ℕ) → p < 10 → entry_of (packed other_column) p ≡ get_or other_column p 0
unfolding other_column ones_of others_of fields_of
other_entry p h = eqb-true (entry_of (packed other_column) p) (get_or other_column p 0) (below_at 10 (λ (n : ℕ). eqb (entry_of (packed other_column) n) (get_or other_column n 0)) refl p h)

-- the other of an element's pair
pub other_at : (e i : ℕ) → e < 10 → i < length (excluded (kind_at e)) → entry_of (packed other_column) (entry_of (packed pair_first_column) e + i) ≡ get_or (others_of (kind_at e)) i 0
unfolding other_column pair_first_column ones_of others_of kind_at fields_of
other_at e i h l = let within = pairs_within e h in other_entry (entry_of (packed pair_first_column) e + i) (omega arith) ∙ entry other_column (others_of (kind_at e)) (entry_of (packed pair_first_column) e) (length (excluded (kind_at e))) i
    (same_eq (take (length (excluded (kind_at e))) (drop (entry_of (packed pair_first_column) e) other_column)) (others_of (kind_at e))
    (below_at 10 (λ (n : ℕ). same (take (length (excluded (kind_at n))) (drop (entry_of (packed pair_first_column) n) other_column)) (others_of (kind_at n))) refl e h)) l

-- ---- an element's part of the columns

-- the part of an element stands within the table
pub part_within : (e : ℕ) → e < 10 → first_of (kind_at e) + count_of (kind_at e) ≤ 52
unfolding first_of count_of kind_at fields_of
part_within e h = leb-true (first_of (kind_at e) + count_of (kind_at e)) 52 (below_at 10 (λ (n : ℕ). leb (first_of (kind_at n) + count_of (kind_at n)) 52) refl e h)

-- the table has as many fields as is said
pub table_length : length table ≡ field_count
unfolding fields_of
table_length = refl

-- the column of keys is as long as the table
pub key_length : length key_column ≡ 52
unfolding key_column fields_of
key_length = refl

-- the key of a field
abbrev pub field_key : Field → ℕ
field_key f = key_of f.letters

-- the key of an element
abbrev pub kind_key : Kind → ℕ
kind_key k = key_of (tag_name k)

-- the part holds the letters of the element's fields
pub part_keys : (e : ℕ) → e < 10 → take (count_of (kind_at e)) (drop (first_of (kind_at e)) key_column) ≡ map field_key (fields_of (kind_at e))
unfolding first_of count_of kind_at fields_of key_column
part_keys e h = same_eq (take (count_of (kind_at e)) (drop (first_of (kind_at e)) key_column)) (map field_key (fields_of (kind_at e)))
    (below_at 10 (λ (n : ℕ). same (take (count_of (kind_at n)) (drop (first_of (kind_at n)) key_column)) (map field_key (fields_of (kind_at n)))) refl e h)

-- at most seven bytes
abbrev pub short : List ℕ → Bool
short n = leb (length n) 7 && every (λ (c : ℕ). ltb c 256) n

-- the letters of an element's fields are short
pub short_letters : (e : ℕ) → e < 10 → every (λ (f : Field). short f.letters) (fields_of (kind_at e)) ≡ true
unfolding kind_at fields_of
short_letters e h = below_at 10 (λ (n : ℕ). every (λ (f : Field). short f.letters) (fields_of (kind_at n))) refl e h

-- ---- a parent's part of the columns

-- the part of a parent holds the names of what it may hold
pub child_keys : (p : ℕ) → p < 11 → take (get_or child_count_column p 0) (drop (get_or child_first_column p 0) child_key_column) ≡ map kind_key (under p)
unfolding child_first_column child_count_column child_key_column under kind_at
child_keys p h = same_eq (take (get_or child_count_column p 0) (drop (get_or child_first_column p 0) child_key_column)) (map kind_key (under p))
    (below_at 11 (λ (n : ℕ). same (take (get_or child_count_column n 0) (drop (get_or child_first_column n 0) child_key_column)) (map kind_key (under n))) refl p h)

-- and their numbers
pub child_kinds : (p : ℕ) → p < 11 → take (get_or child_count_column p 0) (drop (get_or child_first_column p 0) child_kind_column) ≡ map code (under p)
unfolding child_first_column child_count_column child_kind_column under kind_at
child_kinds p h = same_eq (take (get_or child_count_column p 0) (drop (get_or child_first_column p 0) child_kind_column)) (map code (under p))
    (below_at 11 (λ (n : ℕ). same (take (get_or child_count_column n 0) (drop (get_or child_first_column n 0) child_kind_column)) (map code (under n))) refl p h)

-- the names of elements are short
pub short_names : (p : ℕ) → p < 11 → every (λ (k : Kind). short (tag_name k)) (under p) ≡ true
unfolding under kind_at
short_names p h = below_at 11 (λ (n : ℕ). every (λ (k : Kind). short (tag_name k)) (under n)) refl p h
