-- Birthdays: which eight bytes a birth date may be (document 02, ask 1), said of year, month and day; both sides of each sentence, computed on whole pages;
-- and dates that differ are different plans with different fresh sheets.
-- Assumes nothing.
use mathlib.Core.Path.{◌≡◌, refl, ap, sym}
use mathlib.Core.Logic.{◌↔◌, ◌≢◌}
use mathlib.Core.Bool.{Bool, true, false, not, ◌&&◌, ◌||◌}
use mathlib.Core.List.{List, [], ◌∷◌, ◌++◌}
use Prim.Native.Nat.{ℕ, zero, suc, ◌+◌, ◌*◌, ◌≤◌, ◌<◌}
use Prim.Native.String as Str
use native.Mathlib.Omega.{arith}
use lib.Dec.{eqb, leb, ltb}
use lib.ListN.{length}
use borrow.Author.Tests.{eqb-true, eqb-false, leb-true, ltb-true, ltb-false, eq-eqb, ne_eqb, le-leb}
use Rattle.paper.specs.Lists.{bytes, same, every, count}
use Rattle.paper.specs.Bytes.{is_digit, is_decoded}
use Rattle.paper.specs.Fields.{P, A, Field, field, birthday, stamp, fields_of}
use Rattle.paper.specs.Rules.{month_days, real_day, part, late_day, full_date, partial_date, birth_date, is_birthday, keeps}
use Rattle.paper.specs.Plan.{Plan, slot}
use Rattle.paper.specs.Judging.{judge}
use Rattle.paper.specs.Reading.{refusal, plan, read}
use Rattle.paper.specs.Writing.{unsound, written, good_element, sound_head, sound_row, page, cuttable, fresh}
use Rattle.paper.proofs.Small.{no, both}
use Rattle.paper.proofs.Least.{Among, here, there}
use Rattle.paper.proofs.Faulty.{or_right}
use Rattle.paper.proofs.Canon.{digit_range}
use Rattle.paper.proofs.Writer.{same_pages}
use Rattle.paper.proofs.NineCases.{born}
use Rattle.paper.proofs.Examples.{head_of, plan_of}

-- ---- the words

-- "From now on a birth date may be a real day as before, a year and month with day 00, or a year with 0000. The month, when given, is 01 to 12.
-- A partial date's year is 1875 or later." A real day stands in the calendar and is after 18750101.
pub data Born (y m d : ℕ) : Type 0 where
  real : 1 ≤ d → d ≤ month_days y m → 18750101 < 10000 * y + 100 * m + d → Born y m d
  month : 1875 ≤ y → 1 ≤ m → m ≤ 12 → d ≡ 0 → Born y m d
  year : 1875 ≤ y → m ≡ 0 → d ≡ 0 → Born y m d

-- P.b's line of the table
abbrev pub birth_field : Field
birth_field = field P (bytes "b") birthday 8 8 0 true

pub in_table : Among birth_field (fields_of P)
unfolding fields_of
in_table = there (there here)

-- ---- which eight bytes

-- two digits show at most 99
two_digits : (i : ℕ) (v : List ℕ) → every is_digit v ≡ true → part i 2 v ≤ 99
two_digits zero [] e = omega arith
two_digits zero (a ∷ []) e = let (p, q) = both (is_digit a) true e in let (l, h) = digit_range a p in omega arith
two_digits zero (a ∷ b ∷ v) e =
    let (p, q) = both (is_digit a) (is_digit b && every is_digit v) e in
    let (r, s) = both (is_digit b) (every is_digit v) q in
    let (l, h) = digit_range a p in
    let (k, g) = digit_range b r in
    omega arith
two_digits (suc i) [] e = omega arith
two_digits (suc i) (c ∷ v) e = let (p, q) = both (is_digit c) (every is_digit v) e in two_digits i v q

-- a real day stands in its month
in_calendar : (y m d : ℕ) → real_day y m d ≡ true → (1 ≤ d) × (d ≤ month_days y m)
in_calendar y m d e =
    let (t, g) = both (leb 1 y && leb 1 d) (leb d (month_days y m)) e in
    let (_, f) = both (leb 1 y) (leb 1 d) t in
    (leb-true 1 d f, leb-true d (month_days y m) g)

-- a day of the calendar is after 1 January 1875 exactly when its eight digits are above 18750101
late : (y m d : ℕ) → 1 ≤ d → d ≤ month_days y m → late_day y m d ≡ true → 18750101 < 10000 * y + 100 * m + d
late y zero d a b e = absurd (omega arith)
late y (suc m) d a b e = at (ltb 1875 y) refl e
  where
    at : (x : Bool) → ltb 1875 y ≡ x → x || (eqb y 1875 && not (eqb (suc m) 1 && eqb d 1)) ≡ true → 18750101 < 10000 * y + 100 * suc m + d
    at true q e = let h = ltb-true 1875 y q in omega arith
    at false q e =
        let (r, s) = both (eqb y 1875) (not (eqb (suc m) 1 && eqb d 1)) e in
        let t = eqb-true y 1875 r in
        first (eqb (suc m) 1) (eqb d 1) refl refl s t
      where
        first : (u w : Bool) → eqb (suc m) 1 ≡ u → eqb d 1 ≡ w → not (u && w) ≡ true → y ≡ 1875 → 18750101 < 10000 * y + 100 * suc m + d
        first true true f g s t = no (sym s)
        first true false f g s t = let h = eqb-true (suc m) 1 f in let k = eqb-false d 1 g in omega (arith, k)
        first false w f g s t = let k = eqb-false (suc m) 1 f in omega (arith, k)

-- and in the other way, for numbers of two digits
after : (y m d : ℕ) → m ≤ 99 → d ≤ 99 → 18750101 < 10000 * y + 100 * m + d → late_day y m d ≡ true
after y m d a b h = at (ltb 1875 y) refl
  where
    at : (x : Bool) → ltb 1875 y ≡ x → x || (eqb y 1875 && not (eqb m 1 && eqb d 1)) ≡ true
    at true q = refl
    at false q = let k = ltb-false 1875 y q in let e : y ≡ 1875 = omega arith in rw (eq-eqb y 1875 e) (first (eqb m 1) (eqb d 1) refl refl e)
      where
        first : (u w : Bool) → eqb m 1 ≡ u → eqb d 1 ≡ w → y ≡ 1875 → not (u && w) ≡ true
        first true true f g e = let i = eqb-true m 1 f in let j = eqb-true d 1 g in absurd (omega arith)
        first true false f g e = refl
        first false w f g e = refl

-- a date that the rule takes is one of the three
pub in_words : (y m d : ℕ) → birth_date y m d ≡ true → Born y m d
in_words y m d e = at (full_date y m d) refl e
  where
    parted : (m : ℕ) → 1875 ≤ y → m ≤ 12 → d ≡ 0 → Born y m d
    parted zero a b c = year a refl c
    parted (suc m) a b c = month a (omega arith) b c

    at : (x : Bool) → full_date y m d ≡ x → x || partial_date y m d ≡ true → Born y m d
    at true q e =
        let (r, l) = both (real_day y m d) (late_day y m d) q in
        let (a, b) = in_calendar y m d r in
        real a b (late y m d a b l)
    at false q e =
        let (t, g) = both (eqb d 0 && leb m 12) (leb 1875 y) e in
        let (z, f) = both (eqb d 0) (leb m 12) t in
        parted m (leb-true 1875 y g) (leb-true m 12 f) (eqb-true d 0 z)

-- each of the three is taken
pub by_words : (y m d : ℕ) → m ≤ 99 → d ≤ 99 → Born y m d → birth_date y m d ≡ true
by_words y m d a b (real f g h) = rw (le-leb 1 y (omega arith), le-leb 1 d f, le-leb d (month_days y m) g, after y m d a b h)
by_words y m d a b (month f g h e) = or_right (full_date y m d) (partial_date y m d) (rw (eq-eqb d 0 e, le-leb m 12 h, le-leb 1875 y f))
by_words y m d a b (year f g e) = or_right (full_date y m d) (partial_date y m d) (rw (eq-eqb d 0 e, le-leb m 12 (omega arith), le-leb 1875 y f))

-- digits are bytes of a value, and no line break
plain : (v : List ℕ) → every is_digit v ≡ true → (every is_decoded v ≡ true) × (count 126 v ≡ 0)
plain [] e = (refl, refl)
plain (c ∷ v) e =
    let (p, q) = both (is_digit c) (every is_digit v) e in
    let (l, h) = digit_range c p in
    let (a, b) = plain v q in
    (rw (le-leb 32 c (omega arith), le-leb c 126 (omega arith), a), rw (ne_eqb c 126 (λ x. omega arith), b))

-- P.b keeps its field exactly when it is eight digits, of which the first four show a year, the next two a month and the last two a day that are a birth date
pub birth_dates : (v : List ℕ) → (keeps birth_field v ≡ true) ↔ ((length v ≡ 8) × (every is_digit v ≡ true) × Born (part 0 4 v) (part 4 2 v) (part 6 2 v))
birth_dates v = (there', back)
  where
    there' : keeps birth_field v ≡ true → (length v ≡ 8) × (every is_digit v ≡ true) × Born (part 0 4 v) (part 4 2 v) (part 6 2 v)
    there' e =
        let (_, e₁) = both (every is_decoded v) (leb 8 (length v) && (leb (length v) 8 && (leb (count 126 v) 0 && is_birthday v))) e in
        let (a, e₂) = both (leb 8 (length v)) (leb (length v) 8 && (leb (count 126 v) 0 && is_birthday v)) e₁ in
        let (b, e₃) = both (leb (length v) 8) (leb (count 126 v) 0 && is_birthday v) e₂ in
        let (_, e₄) = both (leb (count 126 v) 0) (is_birthday v) e₃ in
        let (g, d) = both (every is_digit v) (birth_date (part 0 4 v) (part 4 2 v) (part 6 2 v)) e₄ in
        let h = leb-true 8 (length v) a in
        let k = leb-true (length v) 8 b in
        (omega arith, g, in_words (part 0 4 v) (part 4 2 v) (part 6 2 v) d)

    back : (length v ≡ 8) × (every is_digit v ≡ true) × Born (part 0 4 v) (part 4 2 v) (part 6 2 v) → keeps birth_field v ≡ true
    back (n, g, d) =
        let (a, b) = plain v g in
        rw (a, n, b, g, by_words (part 0 4 v) (part 4 2 v) (part 6 2 v) (two_digits 4 v g) (two_digits 6 v g) d)

-- ---- what was taken before

-- document 01's rule: "eight digits, a real day of the calendar after 1 January 1875 (18750101)"
abbrev pub was_taken : List ℕ → Bool
was_taken v = every is_digit v && full_date (part 0 4 v) (part 4 2 v) (part 6 2 v)

-- every date that was taken is taken
pub still_taken : (v : List ℕ) → was_taken v ≡ true → is_birthday v ≡ true
still_taken v e =
    let (g, d) = both (every is_digit v) (full_date (part 0 4 v) (part 4 2 v) (part 6 2 v)) e in
    rw (g, d)

-- of the dates that are taken, those with day 00 are new, and no other
pub new_exactly : (v : List ℕ) → is_birthday v ≡ true → (was_taken v ≡ false) ↔ (part 6 2 v ≡ 0)
new_exactly v e = let (g, b) = both (every is_digit v) (birth_date y m d) e in (day_00 (every is_digit v) (full_date y m d) g b, refused_before)
  where
    y : ℕ
    y = part 0 4 v

    m : ℕ
    m = part 4 2 v

    d : ℕ
    d = part 6 2 v

    day_00 : (x r : Bool) → x ≡ true → r || partial_date y m d ≡ true → x && r ≡ false → d ≡ 0
    day_00 true true g b w = no w
    day_00 true false g b w =
        let (t, _) = both (eqb d 0 && leb m 12) (leb 1875 y) b in
        let (z, _) = both (eqb d 0) (leb m 12) t in
        eqb-true d 0 z
    day_00 false r g b w = no (sym g)

    refused_before : d ≡ 0 → was_taken v ≡ false
    refused_before z = at (was_taken v) refl
      where
        at : (x : Bool) → was_taken v ≡ x → was_taken v ≡ false
        at true w =
            let (_, r) = both (every is_digit v) (full_date y m d) w in
            let (c, _) = both (real_day y m d) (late_day y m d) r in
            let (h, _) = in_calendar y m d c in
            absurd (omega arith)
        at false w = w

-- ---- both sides of each sentence

-- a plan without rows and with this birth date
abbrev pub noted : Str.String → Plan
noted b = plan_of (head_of 0 "de-DE" b) []

-- its fresh sheet
abbrev pub fresh_of : Str.String → List (List ℕ)
fresh_of b = (bytes "<MP v=\"027\" U=\"00112233445566778899AABBCCDDEEFF\" l=\"de-DE\" a=\"1\" z=\"1\"><P g=\"Ida\" f=\"Kern\" b=\""
    ++ (bytes b ++ bytes "\"/><A n=\"Praxis Holm\" t=\"2023-03-01T09:30:00\"/></MP>")) ∷ []

-- a page with this birth date is read as that plan, which is written so
abbrev pub Kept : Str.String → Type 0
Kept b = (read (born b) ≡ plan (noted b)) × (fresh (noted b) ≡ written (fresh_of b))

-- it is refused with 7 at its element, and the plan with 13 at its head
abbrev pub Refused : Str.String → Type 0
Refused b = (read (born b) ≡ refusal 7 1 49) × (fresh (noted b) ≡ unsound 0)

pub both_sides :
    -- "a real day as before"
    Refused "18750101" × Kept "18750102" × Refused "19000229" × Kept "20000229" × Refused "19510732"
    -- "a year and month with day 00"
    × Kept "19510700" × Kept "19000200" × Kept "99991200"
    -- "or a year with 0000"
    × Kept "19510000" × Kept "99990000"
    -- "The month, when given, is 01 to 12."
    × Kept "19510100" × Kept "19511200" × Refused "19511300"
    -- "A partial date's year is 1875 or later."
    × Kept "18750000" × Kept "18750100" × Refused "18740000" × Refused "18741200" × Refused "00000000"
    -- "A day without a month stays refusal 7."
    × Refused "19510004"
unfolding read judge fresh cuttable page sound_head sound_row good_element fields_of
both_sides = (
  (refl, refl),
  (refl, refl),
  (refl, refl),
  (refl, refl),
  (refl, refl),
  (refl, refl),
  (refl, refl),
  (refl, refl),
  (refl, refl),
  (refl, refl),
  (refl, refl),
  (refl, refl),
  (refl, refl),
  (refl, refl),
  (refl, refl),
  (refl, refl),
  (refl, refl),
  (refl, refl),
  (refl, refl),
)

-- A.t's line of the table
abbrev pub stamp_field : Field
stamp_field = field A (bytes "t") stamp 19 19 0 true

-- "A.t is not affected": 00 is no day and no month of a print time
pub print_time : Among stamp_field (fields_of A)
    × (keeps stamp_field (bytes "2023-03-01T09:30:00") ≡ true) × (keeps stamp_field (bytes "2023-03-00T09:30:00") ≡ false) × (keeps stamp_field (bytes "2023-00-00T09:30:00") ≡ false)
unfolding fields_of
print_time = (there (there (there (there (there (there (there (there (there here)))))))), refl, refl, refl)

-- ---- dates that differ

-- the birth date that a plan keeps
abbrev pub birth_of : Plan → List ℕ
birth_of p = slot (bytes "b") (fields_of P) p.head.person

-- two plans with different birth dates are different, and so are their fresh sheets
pub different : (p q : Plan) → birth_of p ≢ birth_of q → (p ≢ q) × ((f g : List (List ℕ)) → fresh p ≡ written f → fresh q ≡ written g → f ≢ g)
different p q n = (apart, λ f g a b e. apart ((same_pages p q f g a b).0 e))
  where
    apart : p ≢ q
    apart e = n (ap birth_of e)

-- "19510000 and 19510700 are different dates"
pub two_dates : Kept "19510000" × Kept "19510700" × (noted "19510000" ≢ noted "19510700") × (fresh_of "19510000" ≢ fresh_of "19510700")
unfolding fields_of
two_dates = let (p, f) = different (noted "19510000") (noted "19510700") other in (year_alone, with_month, p, f (fresh_of "19510000") (fresh_of "19510700") year_alone.1 with_month.1)
  where
    with_month : Kept "19510700"
    with_month = both_sides.5

    year_alone : Kept "19510000"
    year_alone = both_sides.8

    other : birth_of (noted "19510000") ≢ birth_of (noted "19510700")
    other e = no (ap (same (bytes "19510000")) e)
