-- Rules: document 01, "Elements and fields", and for birth dates document 02, ask 1; the check digit is set out as ask 3 wants it. When a value keeps its field.
-- Assumes nothing.
use Rattle.std.specs.Prelude.{Bool, true, false, not, ◌&&◌, ◌||◌, List, [], ◌∷◌, ◌++◌, ℕ, zero, suc, ◌+◌, ◌*◌, ◌-◌, ◌%◌, eqb, leb, ltb, length, take, drop, get_or, replicate}
use Rattle.paper.specs.Lists.{bytes, if, same, every, count, number, is_empty, until}
use Rattle.paper.specs.Bytes.{is_digit, is_capital, is_small, is_letter, is_decoded}
use Rattle.paper.specs.Fields.{edition, Field, Rule, text, version, digits, hexes, language, page_no, birthday, sex, insured, stamp, one, lines, pzn, code3, dose, sign}

-- "digits or capitals A..F"
abbrev pub is_hex_capital : ℕ → Bool
is_hex_capital c = is_digit c || (leb 65 c && leb c 70)

-- a byte list of just these classes, one after another
abbrev pub shape : List (ℕ → Bool) → List ℕ → Bool
shape [] [] = true
shape [] (c ∷ s) = false
shape (p ∷ ps) [] = false
shape (p ∷ ps) (c ∷ s) = p c && shape ps s

-- just this byte
abbrev pub is_byte : ℕ → ℕ → Bool
is_byte b c = eqb c b

-- ---- days

-- "Years are Gregorian"
abbrev pub leap : ℕ → Bool
leap y = eqb (y % 4) 0 && (not (eqb (y % 100) 0) || eqb (y % 400) 0)

-- how many days a month has; month 0 and months above 12 have none
abbrev pub month_days : ℕ → ℕ → ℕ
month_days y m = get_or (0 ∷ 31 ∷ if (leap y) 29 28 ∷ 31 ∷ 30 ∷ 31 ∷ 30 ∷ 31 ∷ 31 ∷ 30 ∷ 31 ∷ 30 ∷ 31 ∷ []) m 0

-- a real day, "0001 to 9999"
abbrev pub real_day : ℕ → ℕ → ℕ → Bool
real_day y m d = leb 1 y && leb 1 d && leb d (month_days y m)

-- the number that n digits from place i on show
abbrev pub part : ℕ → ℕ → List ℕ → ℕ
part i n v = number 0 (take n (drop i v))

-- "after 1 January 1875"
abbrev pub late_day : ℕ → ℕ → ℕ → Bool
late_day y m d = ltb 1875 y || (eqb y 1875 && not (eqb m 1 && eqb d 1))

-- "a real day of the calendar after 1 January 1875 (18750101)"
abbrev pub full_date : ℕ → ℕ → ℕ → Bool
full_date y m d = real_day y m d && late_day y m d

-- "a year and month with day 00, or a year with 0000. The month, when given, is 01 to 12. A partial date's year is 1875 or later."
abbrev pub partial_date : ℕ → ℕ → ℕ → Bool
partial_date y m d = eqb d 0 && leb m 12 && leb 1875 y

-- "a birth date may be a real day as before", or a partial date
abbrev pub birth_date : ℕ → ℕ → ℕ → Bool
birth_date y m d = full_date y m d || partial_date y m d

-- "eight digits" that show a birth date
abbrev pub is_birthday : List ℕ → Bool
is_birthday v = every is_digit v && birth_date (part 0 4 v) (part 4 2 v) (part 6 2 v)

-- "as YYYY-MM-DDThh:mm:ss, real day, 00:00:00 to 23:59:59"
abbrev pub is_stamp : List ℕ → Bool
is_stamp v = shape (is_digit ∷ is_digit ∷ is_digit ∷ is_digit ∷ is_byte 45 ∷ is_digit ∷ is_digit ∷ is_byte 45 ∷ is_digit ∷ is_digit ∷ is_byte 84
    ∷ is_digit ∷ is_digit ∷ is_byte 58 ∷ is_digit ∷ is_digit ∷ is_byte 58 ∷ is_digit ∷ is_digit ∷ []) v
    && real_day (part 0 4 v) (part 5 2 v) (part 8 2 v) && leb (part 11 2 v) 23 && leb (part 14 2 v) 59 && leb (part 17 2 v) 59

-- ---- doses

-- behind the first digits: nothing; a comma and digits; a slash and digits that are above zero
abbrev pub tail_ok : List ℕ → Bool
tail_ok [] = true
tail_ok (c ∷ s) = not (is_empty s) && every is_digit s && (eqb c 44 || (eqb c 47 && leb 1 (number 0 s)))

-- "digits; digits, comma, digits; or digits, '/', digits with a denominator above zero"
abbrev pub is_dose : List ℕ → Bool
is_dose v = leb 1 (until is_digit v) && tail_ok (drop (until is_digit v) v)

-- ---- package number

-- the n-th digit of a value, counted from 1, where the byte 48 is the digit 0; 0 where it has none
abbrev pub nth_digit : List ℕ → ℕ → ℕ
nth_digit v zero = 0
nth_digit v (suc i) = get_or v i 0 - 48

-- "The first seven digits times 1 to 7 are added": each digit beside its weight. 2394428 is 02394428 in eight digits:
--
--     digit      0    2    3    9    4    4    2
--     weight     1    2    3    4    5    6    7
--     product    0 +  4 +  9 + 36 + 20 + 24 + 14  =  107  =  9 * 11 + 8
--
-- The remainder is 8, and so is the eighth digit.
abbrev pub weighted_sum : List ℕ → ℕ
weighted_sum v =
    nth_digit v 1 * 1
    + nth_digit v 2 * 2
    + nth_digit v 3 * 3
    + nth_digit v 4 * 4
    + nth_digit v 5 * 5
    + nth_digit v 6 * 6
    + nth_digit v 7 * 7

-- "the remainder by 11 equals the eighth digit"
abbrev pub checks : List ℕ → Bool
checks v = eqb (weighted_sum v % 11) (nth_digit v 8)

-- "padded on the left to eight"
abbrev pub padded : List ℕ → List ℕ
padded v = replicate (8 - length v) 48 ++ v

-- "1 to 8 digits, not zero", and the check digit is right
abbrev pub is_package : List ℕ → Bool
is_package v = every is_digit v && leb 1 (number 0 v) && checks (padded v)

-- "up to three lines of 25": lines of at most 25 bytes, parted by `~`; n bytes stand in this line so far
abbrev pub lines_ok : ℕ → List ℕ → Bool
lines_ok n [] = leb n 25
lines_ok n (c ∷ s) = if (eqb c 126) (leb n 25 && lines_ok 0 s) (lines_ok (suc n) s)

-- a value keeps a rule
abbrev pub obeys : Rule → List ℕ → Bool
obeys text v = true
obeys version v = same v edition
obeys digits v = every is_digit v
obeys hexes v = every is_hex_capital v
obeys language v = shape (is_small ∷ is_small ∷ is_byte 45 ∷ is_capital ∷ is_capital ∷ []) v
obeys page_no v = every (λ c. leb 49 c && leb c 57) v
obeys birthday v = is_birthday v
obeys sex v = every (λ c. eqb c 77 || eqb c 87 || eqb c 68 || eqb c 88) v
obeys insured v = shape (is_capital ∷ is_digit ∷ is_digit ∷ is_digit ∷ is_digit ∷ is_digit ∷ is_digit ∷ is_digit ∷ is_digit ∷ is_digit ∷ []) v
obeys stamp v = is_stamp v
obeys one v = every (is_byte 49) v
obeys lines v = lines_ok 0 v
obeys pzn v = is_package v
obeys code3 v = every (λ c. is_capital c || is_digit c) v
obeys dose v = is_dose v
obeys sign v = every (λ c. is_letter c || is_digit c) v

-- a present value keeps its field: its bytes, its length, its line breaks, its rule
abbrev pub keeps : Field → List ℕ → Bool
keeps f v = every is_decoded v && (leb f.least (length v) && (leb (length v) f.most && (leb (count 126 v) f.tildes && obeys f.rule v)))

-- "Exactly '0' reads as absent", in a dose
abbrev pub is_zero : Rule → List ℕ → Bool
is_zero dose v = same v (bytes "0")
is_zero text v = false
is_zero version v = false
is_zero digits v = false
is_zero hexes v = false
is_zero language v = false
is_zero page_no v = false
is_zero birthday v = false
is_zero sex v = false
is_zero insured v = false
is_zero stamp v = false
is_zero one v = false
is_zero lines v = false
is_zero pzn v = false
is_zero code3 v = false
is_zero sign v = false

-- the value that counts
abbrev pub settle : Field → List ℕ → List ℕ
settle f v = if (is_zero f.rule v) [] v
