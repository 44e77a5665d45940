-- Columns: the table of elements and fields column by column, as the code holds it. A caller that hands columns down cites key_column and
-- limit_column; the others serve this crate.
-- Assumes nothing.
use Rattle.std.specs.Prelude.{Bool, true, false, not, List, [], ◌∷◌, map, ℕ, ◌+◌, ◌*◌, ◌^◌, ◌/◌, ◌%◌, eqb, length, take}
use Rattle.paper.specs.Lists.{concat}
use Rattle.paper.specs.Fields.{Kind, code, Field, table, tag_name, excluded, kinds}
use Rattle.fields.specs.Places.{rule_number, key_of, first_of, count_of, under, ones_of, others_of}

-- a truth value as a number
abbrev pub bit : Bool → ℕ
bit true = 1
bit false = 0

-- the letters of the fields, as keys
unfoldable pub key_column : List ℕ
key_column = map (λ (f : Field). key_of f.letters) table

-- a field's limits as one number, twelve bits to each: its rule, its least and its greatest length, how many line breaks it may have, and whether it must be present
abbrev pub limit_of : Field → ℕ
limit_of f = rule_number f.rule + 4096 * (f.least + 4096 * (f.most + 4096 * (f.tildes + 4096 * bit f.must)))

-- the limits of the fields
unfoldable pub limit_column : List ℕ
limit_column = map limit_of table

-- number k of a field's limits
abbrev pub part_of : ℕ → ℕ → ℕ
part_of n k = n / 2 ^ (12 * k) % 4096

-- the place of each element's first field
unfoldable pub first_column : List ℕ
first_column = map first_of kinds

-- how many fields each element has
unfoldable pub count_column : List ℕ
count_column = map count_of kinds

-- the numbers of the parents, the last one outside of all elements
abbrev pub parents : List ℕ
parents = 0 ∷ 1 ∷ 2 ∷ 3 ∷ 4 ∷ 5 ∷ 6 ∷ 7 ∷ 8 ∷ 9 ∷ 10 ∷ []

-- what may stand under each parent, one behind the other
abbrev pub child_row : List Kind
child_row = concat (map under parents)

-- the names of those, as keys
unfoldable pub child_key_column : List ℕ
child_key_column = map (λ (k : Kind). key_of (tag_name k)) child_row

-- the numbers of those
unfoldable pub child_kind_column : List ℕ
child_kind_column = map code child_row

-- the place of the first one of each parent
unfoldable pub child_first_column : List ℕ
child_first_column = map (λ (n : ℕ). length (concat (map under (take n parents)))) parents

-- how many each parent may hold
unfoldable pub child_count_column : List ℕ
child_count_column = map (λ (n : ℕ). length (under n)) parents

-- the ones of the excluded pairs, one element's behind the other's
unfoldable pub one_column : List ℕ
one_column = concat (map ones_of kinds)

-- the others of the excluded pairs
unfoldable pub other_column : List ℕ
other_column = concat (map others_of kinds)

-- the place of each element's first pair
unfoldable pub pair_first_column : List ℕ
pair_first_column = map (λ (n : ℕ). length (concat (map ones_of (take n kinds)))) (take 10 parents)

-- how many pairs each element has
unfoldable pub pair_count_column : List ℕ
pair_count_column = map (λ (k : Kind). length (excluded k)) kinds

-- a column of small numbers as one number, six bits to each
abbrev pub packed : List ℕ → ℕ
packed [] = 0
packed (x ∷ l) = x + 64 * packed l

-- the number at a place of a packed column
abbrev pub entry_of : ℕ → ℕ → ℕ
entry_of column i = column / 2 ^ (6 * i) % 64

-- another key than this
abbrev pub other : ℕ → ℕ → Bool
other k x = not (eqb x k)
