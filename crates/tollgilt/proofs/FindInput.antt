-- FindInput: an input that asks for a number; and what planfind prints: the lines of the rows that hold it, which fit the room.
-- Assumes nothing.
use mathlib.Core.Path.{◌≡◌, refl, ap, sym, ◌∙◌, subst}
use mathlib.Core.Bool.{Bool, true, false, ◌&&◌}
use mathlib.Core.List.{List, [], ◌∷◌, ◌++◌}
use Prim.Native.Nat.{ℕ, zero, suc, ◌+◌, ◌*◌, ◌-◌, ◌≤◌, ◌<◌}
use native.Mathlib.Numerals.{add-one}
use native.Mathlib.Omega.{arith}
use lib.Dec.{leb, ltb}
use lib.ListN.{length, take, drop, get_or, length-take, length-drop, length-append, drop_of_length-le}
use lib.Seq.{drop-cons, take-append_seam, take_all, take-take, get_or-take, length-take-le}
use borrow.Author.Tests.{le-leb, lt-leb, leb-true, leb-false, lt-ltb, le-ltb, ltb-true, ltb-false}
use Rattle.std.specs.Prelude.{Option, Some, Result, Ok, Err}
use Rattle.paper.specs.Lists.{bytes, if, every, number, All}
use Rattle.paper.specs.Bytes.{is_digit}
use Rattle.paper.specs.Plan as Said
use Rattle.paper.specs.Reading as Paper
use Rattle.paper.specs.Reading.{read}
use Rattle.paper.specs.Listing.{line, numeral, print, parted, refusal_lines}
use Rattle.paper.specs.Calls.{read_at}
use Rattle.paper.specs.Index.{holds, holders_from, holders}
use Rattle.paper.specs.Plan.{Row}
use Rattle.paper.proofs.Small.{unequal}
use Rattle.paper.proofs.Rooms.{line_length, count_short, refusal_short}
use Rattle.paper.proofs.ReadSound.{read_sound}
use Rattle.room.specs.Laid.{laid}
use Rattle.fields.specs.Sets.{in_set}
use Rattle.listing.specs.Split.{to_zero}
use Rattle.listing.proofs.Fielded.{print_append}
use Rattle.room.proofs.Pieces.{Fits, fits_as, fits_whole}
use Rattle.tollgilt.specs.Find.{Promised, answered}
use Rattle.tollgilt.specs.Printed.{refusal, prints, row_lines, held_lines, found_lines, found_in, is_asked, asks, number_asked, behind_number, AsksFor, Asks, asked, planfind, found_room, find_answer, length_of, length_told, Prints}
use Rattle.tollgilt.specs.Refused.{refused_with}
use Rattle.tollgilt.specs.declared.refused.Refused.{Refused}
use Rattle.tollgilt.proofs.FindLaws.{find_call_lem}
use Rattle.tollgilt.proofs.InputLaws.{bytes_printed}

-- ---- the rows that hold a number

few_from : (j n : ℕ) (rs : List Row) → length (holders_from j n rs) ≤ length rs
few_from j n [] = omega arith
few_from j n (r ∷ rs) = at (holds n r) (few_from (suc j) n rs)
  where
    at : (b : Bool) → length (holders_from (suc j) n rs) ≤ length rs → length (if b (j ∷ holders_from (suc j) n rs) (holders_from (suc j) n rs)) ≤ suc (length rs)
    at true h = omega arith
    at false h = omega arith

low_from : (j n m : ℕ) (rs : List Row) → j + length rs ≤ suc m → All (λ i. i ≤ m) (holders_from j n rs)
low_from j n m [] h = tt
low_from j n m (r ∷ rs) h = at (holds n r) (low_from (suc j) n m rs (omega arith))
  where
    at : (b : Bool) → All (λ i. i ≤ m) (holders_from (suc j) n rs) → All (λ i. i ≤ m) (if b (j ∷ holders_from (suc j) n rs) (holders_from (suc j) n rs))
    at true g = (omega arith, g)
    at false g = g

-- ---- their lines are short

rows_short : (is : List ℕ) → All (λ i. i ≤ 256) is → length (print (row_lines is)) ≤ 8 * length is
rows_short [] h = omega arith
rows_short (i ∷ is) (h, g) = omega (arith, line_length (bytes "row") (numeral i) (row_lines is), count_short i h, rows_short is g)

lines_short : (is : List ℕ) → All (λ i. i ≤ 256) is → length is ≤ 256 → length (held_lines is) ≤ 2057
unfolding held_lines
lines_short is h few = omega (arith, line_length (bytes "held") (numeral (length is)) (row_lines is), count_short (length is) few, rows_short is h)

-- those of a plan that was read
pub held_short : (n : ℕ) (p : Said.Plan) → length p.rows ≤ 256 → (length (holders n p.rows) ≤ 256) × (length (held_lines (holders n p.rows)) ≤ 2057)
unfolding holders
held_short n p few =
    let most : length (holders_from 1 n p.rows) ≤ 256 = omega (arith, few_from 1 n p.rows) in
    (most, lines_short (holders_from 1 n p.rows) (low_from 1 n 256 p.rows (omega arith)) most)

-- and so the lines of any answer
found_short : (n : ℕ) (f : List (List ℕ)) → length (found_lines n (read f)) ≤ 2057
found_short n f = at (read f) refl
  where
    at : (a : Paper.Answer) → read f ≡ a → length (found_lines n a) ≤ 2057
    at (Paper.refusal m k i) e = omega (arith, refusal_short m k i)
    at (Paper.plan p) e = (held_short n p (read_sound f p e).1).1

-- ---- one line behind the other: the first of a list's numbers are the rows

module _ (list : List ℕ) (count : ℕ) (there : count ≤ length list) where
  -- the count comes first
  pub count_first : held_lines (take count list) ≡ print (line (bytes "held") (numeral count) ∷ []) ++ print (row_lines (take count list))
  unfolding held_lines
  count_first = rw (length-take-le count list there) (print_append (line (bytes "held") (numeral count) ∷ []) (row_lines (take count list)))

  -- where all lines fit, they fit one behind the other
  pub all_fit : (out : List ℕ) → length (held_lines (take count list)) ≤ length out → Fits out 0 (print (line (bytes "held") (numeral count) ∷ []) ++ print (row_lines (take count list)))
  all_fit out h = fits_as count_first (fits_whole out (held_lines (take count list)) h)

  -- what is still to be printed is the line of the next row, and then the rest
  pub next_line : (i : ℕ) → i < count → print (row_lines (drop i (take count list))) ≡ print (line (bytes "row") (numeral (get_or list i 0)) ∷ []) ++ print (row_lines (drop (i + 1) (take count list)))
  next_line i h =
      rw (add-one i, drop-cons (take count list) i 0 (omega (arith, length-take-le count list there)), get_or-take count list i 0 h)
      (print_append (line (bytes "row") (numeral (get_or list i 0)) ∷ []) (row_lines (drop (suc i) (take count list))))

  -- behind the last row there is nothing
  pub no_line : (i : ℕ) → count ≤ i → print (row_lines (drop i (take count list))) ≡ []
  no_line i h = let end : length (take count list) ≤ i = omega (arith, length-take-le count list there) in rw (drop_of_length-le (take count list) end)

-- ---- the number that is asked for

off : (a b : Bool) → b ≡ false → a && b ≡ false
off true b e = e
off false b e = refl

-- where the first zero byte stands, or the input's end
module _ (s : List ℕ) (e : ℕ) (found : e ≡ 0 + to_zero s) (inside : e ≤ length s) where
  z : e ≡ to_zero s
  z = omega arith

  long : length (take (to_zero s) s) ≡ e
  long = omega (arith, z, length-take (to_zero s) s)

  -- there is no zero byte
  pub no_zero : length s ≤ e → asks s ≡ false
  no_zero h = ap (λ (b : Bool). b && is_asked (take (to_zero s) s)) (le-ltb (to_zero s) (length s) (omega (arith, z)))

  -- there is no digit, or more than eight
  wrong : (leb 1 (length (take (to_zero s) s)) && leb (length (take (to_zero s) s)) 8) ≡ false → asks s ≡ false
  wrong h = off (ltb (to_zero s) (length s)) (is_asked (take (to_zero s) s)) (off (every is_digit (take (to_zero s) s)) (leb 1 (length (take (to_zero s) s)) && leb (length (take (to_zero s) s)) 8) h)

  pub too_few : e < 1 → asks s ≡ false
  too_few h = wrong (ap (λ (b : Bool). b && leb (length (take (to_zero s) s)) 8) (lt-leb 1 (length (take (to_zero s) s)) (omega (arith, long))))

  pub too_many : 8 < e → asks s ≡ false
  too_many h = wrong (off (leb 1 (length (take (to_zero s) s))) (leb (length (take (to_zero s) s)) 8) (lt-leb (length (take (to_zero s) s)) 8 (omega (arith, long))))

  -- another byte than a digit
  pub no_digits : every (in_set 35) (drop 0 (take e s)) ≡ false → asks s ≡ false
  unfolding in_set
  no_digits h =
      off (ltb (to_zero s) (length s)) (is_asked (take (to_zero s) s))
      (ap (λ (b : Bool). b && (leb 1 (length (take (to_zero s) s)) && leb (length (take (to_zero s) s)) 8)) (ap (λ (k : ℕ). every is_digit (take k s)) (sym z) ∙ h))

  -- a number
  pub a_number : e < length s → 1 ≤ e → e ≤ 8 → every (in_set 35) (drop 0 (take e s)) ≡ true → (n : ℕ) → n ≡ number 0 (take (e - 0) (drop 0 s)) → Asks s (Some (record { number = n; pages = e + 1 }))
  unfolding in_set
  a_number more least most digits n q =
      let plain : e - 0 ≡ e = omega arith in
      let behind : e + 1 ≡ suc (to_zero s) = omega (arith, z) in
      let d : every is_digit (take (to_zero s) s) ≡ true = ap (λ (k : ℕ). every is_digit (take k s)) (sym z) ∙ digits in
      record {
        asks_one = rw (lt-ltb (to_zero s) (length s) (omega (arith, z)), d, le-leb 1 (length (take (to_zero s) s)) (omega (arith, long)), le-leb (length (take (to_zero s) s)) 8 (omega (arith, long)));
        number_is = q ∙ ap (λ (k : ℕ). number 0 (take k s)) (plain ∙ z);
        pages_are = ap (λ (k : ℕ). drop k s) behind;
        inside = omega arith;
      }

-- what is printed for it
module _ (f : ℕ → List ℕ → List ℕ) (s : List ℕ) where
  pub asked_none : asks s ≡ false → refusal_lines 1 0 0 ≡ asked f s
  asked_none e = rw e

  pub asked_one : (m at : ℕ) → AsksFor s m at → f m (take (length s - at) (drop at s)) ≡ asked f s
  asked_one m at A =
      let rest : take (length s - at) (drop at s) ≡ behind_number s = take_all (length s - at) (drop at s) (omega (arith, length-drop at s)) ∙ A.pages_are in
      rw (A.asks_one, A.number_is, rest)

  -- it is no longer than what is printed for any number, and than a refusal's lines
  pub asked_short : (l : ℕ) → 82 ≤ l → ((m : ℕ) (s : List ℕ) → length (f m s) ≤ l) → length (asked f s) ≤ l
  asked_short l h g = at (asks s)
    where
      at : (b : Bool) → length (if b (f (number_asked s) (behind_number s)) (refusal_lines 1 0 0)) ≤ l
      at true = g (number_asked s) (behind_number s)
      at false = omega (arith, refusal_short 1 0 0)

-- ---- the first bytes decide: eight digits, a zero byte, and what counts behind it

zero_within : (s : List ℕ) → to_zero s ≤ length s
zero_within [] = omega arith
zero_within (zero ∷ s) = omega arith
zero_within (suc c ∷ s) = omega (arith, zero_within s)

pub zero_among : (m : ℕ) (s : List ℕ) → to_zero s < m → to_zero (take m s) ≡ to_zero s
zero_among zero s h = absurd (omega arith)
zero_among (suc m) [] h = refl
zero_among (suc m) (zero ∷ s) h = refl
zero_among (suc m) (suc c ∷ s) h = ap suc (zero_among m s (omega arith))

zero_behind : (m : ℕ) (s : List ℕ) → m ≤ to_zero s → to_zero (take m s) ≡ m
zero_behind zero s h = refl
zero_behind (suc m) [] h = absurd (omega arith)
zero_behind (suc m) (zero ∷ s) h = absurd (omega arith)
zero_behind (suc m) (suc c ∷ s) h = ap suc (zero_behind m s (omega arith))

pub part_of : (a b m : ℕ) (s : List ℕ) → a + b ≤ m → take a (drop b (take m s)) ≡ take a (drop b s)
part_of a zero m s h = take-take a m s (omega arith)
part_of a (suc b) zero s h = absurd (omega arith)
part_of a (suc b) (suc m) [] h = refl
part_of a (suc b) (suc m) (x ∷ s) h = part_of a b m s (omega arith)

-- a zero byte among the first bytes is one of the input
pub zero_there : (m : ℕ) (s : List ℕ) → to_zero s < m → ltb (to_zero s) (length (take m s)) ≡ ltb (to_zero s) (length s)
zero_there m s h = at (ltb (to_zero s) (length s)) refl
  where
    at : (b : Bool) → ltb (to_zero s) (length s) ≡ b → ltb (to_zero s) (length (take m s)) ≡ ltb (to_zero s) (length s)
    at true e = lt-ltb (to_zero s) (length (take m s)) (omega (arith, ltb-true (to_zero s) (length s) e, length-take m s)) ∙ sym e
    at false e = le-ltb (to_zero s) (length (take m s)) (omega (arith, ltb-false (to_zero s) (length s) e, length-take m s)) ∙ sym e

-- a zero byte that comes late comes late among the first bytes too
pub zero_late : (k m : ℕ) (s : List ℕ) → k < m → k < to_zero s → k < to_zero (take m s)
zero_late k m s l h = at (leb m (to_zero s)) refl
  where
    at : (b : Bool) → leb m (to_zero s) ≡ b → k < to_zero (take m s)
    at true f = omega (arith, zero_behind m s (leb-true m (to_zero s) f))
    at false f = omega (arith, zero_among m s (leb-false m (to_zero s) f))

-- more than eight bytes before the first zero byte are no number
long_number : (s : List ℕ) → 8 < to_zero s → asks s ≡ false
long_number s = too_many s (to_zero s) (omega arith) (zero_within s)

module _ (f : ℕ → List ℕ → List ℕ) (n : ℕ) (counts : (m : ℕ) (s : List ℕ) → f m (take n s) ≡ f m s) where
  few_digits : (s : List ℕ) → to_zero s ≤ 8 → asked f (take (9 + n) s) ≡ asked f s
  few_digits s h =
      let z : to_zero (take (9 + n) s) ≡ to_zero s = zero_among (9 + n) s (omega arith) in
      let behind : f (number_asked s) (drop (suc (to_zero s)) (take (9 + n) s)) ≡ f (number_asked s) (behind_number s) = sym (counts (number_asked s) (drop (suc (to_zero s)) (take (9 + n) s)))
      ∙ (ap (f (number_asked s)) (part_of n (suc (to_zero s)) (9 + n) s (omega arith)) ∙ counts (number_asked s) (behind_number s)) in
      rw (z, take-take (to_zero s) (9 + n) s (omega arith), zero_there (9 + n) s (omega arith), behind)

  many_digits : (s : List ℕ) → 8 < to_zero s → asked f (take (9 + n) s) ≡ asked f s
  many_digits s h = rw (long_number s h, long_number (take (9 + n) s) (zero_late 8 (9 + n) s (omega arith) h))

  pub first_asked : (s : List ℕ) → asked f (take (9 + n) s) ≡ asked f s
  first_asked s = at (leb (to_zero s) 8) refl
    where
      at : (b : Bool) → leb (to_zero s) 8 ≡ b → asked f (take (9 + n) s) ≡ asked f s
      at true e = few_digits s (leb-true (to_zero s) 8 e)
      at false e = many_digits s (leb-false (to_zero s) 8 e)

-- so planfind reads no more of its input than 12,618 bytes
pub first_decide : (s : List ℕ) → planfind (take 12618 s) ≡ planfind s
unfolding planfind found_in
first_decide = first_asked found_in 12609 (λ m s. rw (take-take 12609 12609 s (omega arith)))

-- ---- what is printed

-- the rows of pages, found in their plan
module _ (n : ℕ) (input list₀ ss ns : List ℕ) (list' : List ℕ) (long : length list₀ ≡ 256) (handed_in : read_at true input ss ns ≡ read (parted (take 12609 input))) where
  abbrev answer : Paper.Answer
  answer = read (parted (take 12609 input))

  found_as : (f : Result ℕ Refused) → Promised (answered list₀ input ss ns) n list₀ f list' → Promised answer n list₀ f list'
  found_as f P = subst (λ (a : Paper.Answer). Promised a n list₀ f list') (find_call_lem list₀ input ss ns (omega arith) ∙ handed_in) P

  -- a plan: the list begins with its rows, whose lines fit
  pub rows_listed : (m : ℕ) → Promised (answered list₀ input ss ns) n list₀ (Ok m) list' → (m ≤ length list') × (held_lines (take m list') ≡ found_in n input)
  unfolding found_in
  rows_listed m P = at answer (found_as (Ok m) P)
    where
      at : (a : Paper.Answer) → Promised a n list₀ (Ok m) list' → (m ≤ length list') × (held_lines (take m list') ≡ found_lines n a)
      at (Paper.refusal j k i) Q = unequal (cc (Q.result_is))
      at (Paper.plan p) Q =
          let is : List ℕ = holders n p.rows in
          let rest : List ℕ = drop (0 + length is) list₀ in
          let many : m ≡ length is = cc (Q.result_is) in
          (omega (arith, many, ap length Q.list_is, length-append is rest), ap held_lines (rw (many, Q.list_is) (take-append_seam is rest)))

  -- a refusal: its lines
  pub refusal_listed : (e : Refused) → Promised (answered list₀ input ss ns) n list₀ (Err e) list' → refusal_lines e.number e.page e.place ≡ found_in n input
  unfolding found_in
  refusal_listed e P = at answer (found_as (Err e) P)
    where
      at : (a : Paper.Answer) → Promised a n list₀ (Err e) list' → refusal_lines e.number e.page e.place ≡ found_lines n a
      at (Paper.refusal m k i) Q = let p : e ≡ refused_with m k i = cc (Q.result_is) in ap (λ (t : Refused). refusal_lines t.number t.page t.place) p
      at (Paper.plan p) Q = unequal (cc (Q.result_is))

-- bytes told in other words are laid as well
pub bytes_as : {w v : List ℕ} → w ≡ v → (out : List ℕ) (n : ℕ) (out' : List ℕ) → (n ≡ length w) × (out' ≡ laid out 0 w) → (n ≡ length v) × (out' ≡ laid out 0 v)
bytes_as {w} {v} e out n out' h = subst (λ (x : List ℕ). (n ≡ length x) × (out' ≡ laid out 0 x)) e h

-- what is found fits
pub found_in_short : (n : ℕ) (s : List ℕ) → length (found_in n s) ≤ 2057
unfolding found_in
found_in_short n s = found_short n (parted (take 12609 s))

-- what is printed is never longer than the room
pub find_fits : (out input : List ℕ) (r : Option ℕ) (out' : List ℕ) → Prints (find_answer out input) out r out' → length_of r ≤ length out
unfolding find_answer planfind
find_fits out input r out' P = at (leb found_room (length out)) refl P.length_is
  where
    at : (b : Bool) → leb found_room (length out) ≡ b → length_of r ≡ length_told (if b (prints (asked found_in input)) (refusal 1 0 0)) → length_of r ≤ length out
    at true e q = omega (arith, leb-true found_room (length out) e, asked_short found_in input 2057 (omega arith) found_in_short)
    at false e q = omega arith

-- too little room is refusal 1
pub find_no_room : (out input : List ℕ) → length out < 2057 → find_answer out input ≡ refusal 1 0 0
unfolding find_answer
find_no_room out input h = rw (lt-leb found_room (length out) h)

module _ (out input : List ℕ) (room : 2057 ≤ length out) where
  answer_is : find_answer out input ≡ prints (planfind input)
  unfolding find_answer
  answer_is = rw (le-leb found_room (length out) room)

  -- no number is asked for
  pub no_number_printed : asks input ≡ false → (n : ℕ) (out' : List ℕ) → (n ≡ length (refusal_lines 1 0 0)) × (out' ≡ laid out 0 (refusal_lines 1 0 0)) → Prints (find_answer out input) out (Some n) out'
  unfolding planfind
  no_number_printed e = bytes_printed (refusal_lines 1 0 0) out (answer_is ∙ ap prints (sym (asked_none found_in input e)))

  -- the number that is asked for
  pub found_printed : (m at : ℕ) → AsksFor input m at → (n : ℕ) (out' : List ℕ) → (n ≡ length (found_in m (take (length input - at) (drop at input)))) × (out' ≡ laid out 0 (found_in m (take (length input - at) (drop at input))))
      → Prints (find_answer out input) out (Some n) out'
  unfolding planfind
  found_printed m at A = bytes_printed (found_in m (take (length input - at) (drop at input))) out (answer_is ∙ ap prints (sym (asked_one found_in input m at A)))
