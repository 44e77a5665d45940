-- Places: the numbers by which the code names elements, rules and fields. An element's number is paper's `code`, its place in `kinds`; a field's is its place in the
-- table.
-- Assumes nothing.
use Rattle.std.specs.Prelude.{Bool, false, ◌&&◌, List, [], ◌∷◌, map, ℕ, zero, suc, ◌+◌, ◌*◌, ◌/◌, ◌%◌, eqb, leb, ltb, length, take, drop, get_or}
use Rattle.paper.specs.Lists.{if, same, is_empty}
use Rattle.paper.specs.Fields.{Kind, unknown, MP, is, Field, field, table, fields_of, children, excluded, Pair, kinds}
use Rattle.paper.specs.Fields.{Rule, text, version, digits, hexes, language, page_no, birthday, sex, insured, stamp, one, lines, pzn, code3, dose, sign}
use Rattle.paper.specs.Rules.{obeys}
use Rattle.paper.specs.Judging.{breaks}

-- how many kinds of elements there are, and how many fields the table has
abbrev pub kind_count : ℕ
kind_count = length kinds

abbrev pub field_count : ℕ
field_count = 52

-- the element of a number; a number of no element is that of an unknown one
unfoldable pub kind_at : ℕ → Kind
kind_at n = get_or kinds n unknown

-- the rule of a number; a number of no rule is that of free text
abbrev pub rule_at : ℕ → Rule
rule_at n = get_or (text ∷ version ∷ digits ∷ hexes ∷ language ∷ page_no ∷ birthday ∷ sex ∷ insured ∷ stamp ∷ one ∷ lines ∷ pzn ∷ code3 ∷ dose ∷ sign ∷ []) n text

-- the number of a rule
abbrev pub rule_number : Rule → ℕ
rule_number text = 0
rule_number version = 1
rule_number digits = 2
rule_number hexes = 3
rule_number language = 4
rule_number page_no = 5
rule_number birthday = 6
rule_number sex = 7
rule_number insured = 8
rule_number stamp = 9
rule_number one = 10
rule_number lines = 11
rule_number pzn = 12
rule_number code3 = 13
rule_number dose = 14
rule_number sign = 15

-- what stands at a place beyond the table
abbrev pub no_field : Field
no_field = field unknown [] text 0 0 0 false

-- the field at a place of the table
unfoldable pub field_at : ℕ → Field
field_at id = get_or table id no_field

-- a value has a length and a form that its field allows
abbrev pub formed : Field → List ℕ → Bool
formed f v = leb f.least (length v) && (leb (length v) f.most && obeys f.rule v)

-- the fault of one field: 7 if its value breaks it, 8 if it must be present and is not, 9 if none
unfoldable pub field_flaw : Field → List ℕ → ℕ
field_flaw f v = if (breaks f v) 7 (if (f.must && is_empty v) 8 9)

-- how many fields stand before the one with those letters; all of them if there is none
abbrev pub place_in : List ℕ → List Field → ℕ
place_in n [] = 0
place_in n (f ∷ fs) = if (same n f.letters) 0 (suc (place_in n fs))

-- how many lines stand before the first one of an element; all of them if it has none
abbrev pub lines_before : Kind → List Field → ℕ
lines_before k [] = 0
lines_before k (f ∷ fs) = if (is f.element k) 0 (suc (lines_before k fs))

-- the place of an element's first field in the table
unfoldable pub first_of : Kind → ℕ
first_of k = lines_before k table

-- how many fields an element has
unfoldable pub count_of : Kind → ℕ
count_of k = length (fields_of k)

-- n fields of the table, from a place on
unfoldable pub fields_from : ℕ → ℕ → List Field
fields_from first n = take n (drop first table)

-- what may stand under a parent of that number: number 10 is outside of all elements, where only MP stands
unfoldable pub under : ℕ → List Kind
under n = if (eqb n 10) (MP ∷ []) (children (kind_at n))

-- of each two fields that exclude each other, the place of the one among its element's fields
unfoldable pub ones_of : Kind → List ℕ
ones_of k = map (λ (p : Pair). place_in p.0 (fields_of k)) (excluded k)

-- and the place of the other
unfoldable pub others_of : Kind → List ℕ
others_of k = map (λ (p : Pair). place_in p.1 (fields_of k)) (excluded k)

-- the letters of a name as one number, its key: the first byte lowest, with a 1 above the last
abbrev pub key_of : List ℕ → ℕ
key_of [] = 1
key_of (c ∷ n) = key_of n * 256 + c

-- a name of more than seven bytes has the key 0, which no name of the table has
abbrev pub key_or_none : List ℕ → ℕ
key_or_none n = if (leb (length n) 7) (key_of n) 0

-- the name of a key: its bytes from the lowest on, at most j of them, up to the 1 above the last
abbrev pub bytes_of : ℕ → ℕ → List ℕ
bytes_of zero k = []
bytes_of (suc j) k = if (ltb k 256) [] (k % 256 ∷ bytes_of j (k / 256))

-- a key has seven bytes at most
unfoldable pub name_of : ℕ → List ℕ
name_of k = bytes_of 7 k
