-- AskLaws: the rows that records show, tested against pairs one by one; and the pairs of a number, which stand together in an index.
-- Assumes nothing.
use Rattle.std.specs.Prelude.{Ok, Err, Some}
use mathlib.Core.Path.{◌≡◌, refl, sym, ap, ◌∙◌, subst}
use mathlib.Core.Bool.{Bool, true, false, not, ◌&&◌, ◌||◌}
use mathlib.Core.List.{List, [], ◌∷◌}
use Prim.Native.Nat.{ℕ, zero, suc, ◌+◌, ◌-◌, ◌*◌, ◌≤◌, ◌<◌}
use native.Mathlib.Nat.{not-suc-le-zero, le_of_suc-le-suc}
use native.Mathlib.Numerals.{add-one}
use native.Mathlib.Omega.{arith}
use lib.Dec.{eqb, leb, ltb}
use lib.ListN.{length, take, drop, get_or, drop_of_length-le}
use lib.Seq.{get_or-drop, drop-drop}
use borrow.Author.Tests.{eqb-true, eqb-false, eq-eqb, ne_eqb, ltb-true, ltb-false, le-ltb, lt-ltb, leb-true, leb-false, le-leb, lt-leb}
use Rattle.paper.specs.Lists.{if, every}
use Rattle.paper.specs.Plan.{Row}
use Rattle.paper.specs.Index.{number_of, holds, held_from, held_at, Pair, pair, before, ascending, pairs_from, index_of, same_pairs, holders, bad_call, stale, absent, reply_of, asked, kth, none, row}
use Rattle.paper.specs.Calls.{row_room}
use Rattle.paper.proofs.Small.{no, both}
use Rattle.paper.proofs.Indexed.{same_pairs_lem, rows_with, as_many, not_more, index, rows_there, before_trans, by_tests, rows_with_lem}
use Rattle.room.specs.Laid.{laid}
use Rattle.plan.specs.Numbers.{rows_lent, record_at, show_row, show_rows}
use Rattle.plan.proofs.Records.{records_behind}
use Rattle.plan.proofs.Shown.{rows_shown, row_next}
use Rattle.index.specs.Pairs.{pairs_lent, pair_at, pairs_in, in_place, rows_in, ahead, rows_of}
use Rattle.index.specs.Answers.{Stand, Finds, rows_fit, replied, replied_into, reply_told, kth_told, nth_told, list_after}
use Rattle.index.specs.declared.answer.Nth.TheVariants as N
use Rattle.index.specs.declared.answer.Refusal.{Refusal}
use Rattle.index.specs.declared.answer.Refusal.TheVariants.{NoRoom, OtherIndex}
use Rattle.index.proofs.PairLaws.{pairs_long, pairs_from_lem, pairs_first, ahead_within}

-- ---- the rows that records show

-- row i of the first n, counted from 0
abbrev pub row_at : List ℕ → ℕ → Row
row_at rows i = show_row [] (record_at rows i)

-- there are as many as were asked for
pub rows_long : (n : ℕ) (rows : List ℕ) → length (rows_in n rows) ≡ n
unfolding rows_in
rows_long n rows = rows_shown [] n rows

-- how many of the rows from row i on have a number
abbrev pub numbers_from : ℕ → ℕ → List ℕ → ℕ
numbers_from i n rows = length (pairs_from (suc i) (drop i (rows_in n rows)))

-- those from row i on are row i and those behind it
next : (n i : ℕ) (rows : List ℕ) → i < n → drop i (rows_in n rows) ≡ row_at rows i ∷ drop (suc i) (rows_in n rows)
unfolding rows_in
next n i rows h = row_next [] n rows i h ∙ ap (λ (k : ℕ). row_at rows i ∷ drop k (rows_in n rows)) (add-one i)

-- behind the last there is none
pub none_behind : (n i : ℕ) (rows : List ℕ) → n ≤ i → numbers_from i n rows ≡ 0
none_behind n i rows h = rw (drop_of_length-le (rows_in n rows) {i = i} (omega (arith, rows_long n rows)))

pub one_without : (n i : ℕ) (rows : List ℕ) → i < n → number_of (row_at rows i) ≡ 0 → numbers_from i n rows ≡ numbers_from (i + 1) n rows
one_without n i rows h e = rw (add-one i, next n i rows h, eq-eqb (number_of (row_at rows i)) 0 e)

pub one_with : (n i : ℕ) (rows : List ℕ) → i < n → (number_of (row_at rows i) ≡ 0 → ⊥) → numbers_from i n rows ≡ suc (numbers_from (i + 1) n rows)
one_with n i rows h e = rw (add-one i, next n i rows h, ne_eqb (number_of (row_at rows i)) 0 e)

-- ---- a number that a row holds

and_no : (b : Bool) → b && false ≡ false
and_no true = refl
and_no false = refl

or_no : (b : Bool) → b || false ≡ b
or_no true = refl
or_no false = refl

-- 0 is no number
pub none_zero : (j : ℕ) (rs : List Row) (n i : ℕ) → n ≡ 0 → held_from j rs n i ≡ false
none_zero j [] n i e = refl
none_zero j (r ∷ rs) n i e = rw (eq-eqb n 0 e, and_no (eqb i j)) (none_zero (suc j) rs n i e)

-- a row before the first
pub none_before : (j : ℕ) (rs : List Row) (n i : ℕ) → i < j → held_from j rs n i ≡ false
none_before j [] n i h = refl
none_before j (r ∷ rs) n i h = rw (ne_eqb i j (λ e. omega arith)) (none_before (suc j) rs n i (omega arith))

-- a row behind the last
pub none_past : (j : ℕ) (rs : List Row) (n i : ℕ) → j + length rs ≤ i → held_from j rs n i ≡ false
none_past j [] n i h = refl
none_past j (r ∷ rs) n i h = rw (ne_eqb i j (λ e. omega arith)) (none_past (suc j) rs n i (omega arith))

-- one of the rows
shown_holds : (j n : ℕ) (rows : List ℕ) (m i : ℕ) → i < n → held_from j (show_rows [] n rows) m (j + i) ≡ holds m (row_at rows i)
shown_holds j zero rows m i h = absurd (not-suc-le-zero h)
shown_holds j (suc n) rows m zero h =
    rw (eq-eqb (j + 0) j (omega arith), none_before (suc j) (show_rows [] n (drop 48 rows)) m (j + 0) (omega arith)) (or_no (holds m (row_at rows 0)))
shown_holds j (suc n) rows m (suc i) h =
    let e : j + suc i ≡ suc j + i = omega arith in
    rw (ne_eqb (j + suc i) j (λ q. omega arith), e, shown_holds (suc j) n (drop 48 rows) m i (le_of_suc-le-suc h), records_behind i rows)

-- a number is held by the row that has it
pub held_there : (n : ℕ) (rows : List ℕ) (m i : ℕ) → (m ≡ 0 → ⊥) → 1 ≤ i → i ≤ n → held_at (rows_in n rows) m i ≡ eqb (number_of (row_at rows (i - 1))) m
unfolding rows_in
held_there n rows m i z a b =
    let e : i ≡ 1 + (i - 1) = omega arith in
    ap (λ (k : ℕ). held_at (show_rows [] n rows) m k) e ∙ shown_holds 1 n rows m (i - 1) (omega arith) ∙ rw (ne_eqb m 0 z)

-- so what is tested of a row decides
pub held_by : (n : ℕ) (rows : List ℕ) (m i : ℕ) → held_at (rows_in n rows) m i ≡ (not (eqb m 0) && (leb 1 i && (leb i n && eqb (number_of (row_at rows (i - 1))) m)))
held_by n rows m i = at (eqb m 0) refl (leb 1 i) refl (leb i n) refl
  where
    at : (a : Bool) → eqb m 0 ≡ a → (b : Bool) → leb 1 i ≡ b → (c : Bool) → leb i n ≡ c → held_at (rows_in n rows) m i ≡ (not a && (b && (c && eqb (number_of (row_at rows (i - 1))) m)))
    at true e b f c g = none_zero 1 (rows_in n rows) m i (eqb-true m 0 e)
    at false e false f c g = none_before 1 (rows_in n rows) m i (leb-false 1 i f)
    at false e true f false g = none_past 1 (rows_in n rows) m i (omega (arith, leb-false i n g, rows_long n rows))
    at false e true f true g = held_there n rows m i (eqb-false m 0 e) (leb-true 1 i f) (leb-true i n g)

-- ---- the test of pairs, one by one

-- the pair has the number that its row holds
abbrev pub held : List Row → Pair → Bool
held rs p = held_at rs p.number p.row

-- k pairs from pair i on are right: each has the number that its row holds, and comes behind the one before it
abbrev pub right_from : List Row → List ℕ → ℕ → ℕ → Bool
right_from rs s zero i = true
right_from rs s (suc k) i = held rs (pair_at s i) && (in_place s i && right_from rs s k (suc i))

-- each comes before the next
abbrev chained : Pair → List Pair → Bool
chained p [] = true
chained p (q ∷ l) = before p q && chained q l

-- what a pair comes before, all comes before that comes before the pair
all_behind : (p q : Pair) (l : List Pair) → before p q ≡ true → every (before q) l ≡ true → every (before p) l ≡ true
all_behind p q [] e f = refl
all_behind p q (r ∷ l) e f = let (a, b) = both (before q r) (every (before q) l) f in rw (before_trans p q r e a, all_behind p q l e b)

-- so where each comes before the next, each comes before all those behind it
chained_all : (p : Pair) (l : List Pair) → every (before p) l && ascending l ≡ chained p l
chained_all p [] = refl
chained_all p (q ∷ l) = at (before p q) (every (before q) l && ascending l) refl refl (chained_all q l)
  where
    at : (a b : Bool) → before p q ≡ a → every (before q) l && ascending l ≡ b → b ≡ chained q l → (a && every (before p) l) && b ≡ a && chained q l
    at false b e f g = refl
    at true true e f g = rw (all_behind p q l e (both (every (before q) l) (ascending l) f).0) g
    at true false e f g = and_no (every (before p) l) ∙ g

-- a pair, and those behind the pairs before it
pairs_next : (k i : ℕ) (s : List ℕ) → pairs_in (suc k) (drop (2 * i) s) ≡ pair_at s i ∷ pairs_in k (drop (2 * suc i) s)
pairs_next k i s =
    let a : 2 * i + 0 ≡ 2 * i = omega arith in
    let b : 2 * i + 2 ≡ 2 * suc i = omega arith in
    rw (get_or-drop (2 * i) s 0 0, get_or-drop (2 * i) s 1 0, drop-drop 2 (2 * i) s, a, b)

shuffled : (a b c d : Bool) → (a && b) && (c && d) ≡ a && (c && (b && d))
shuffled true true c d = refl
shuffled true false true d = refl
shuffled true false false d = refl
shuffled false b c d = refl

rest_right : (rs : List Row) (s : List ℕ) (k i : ℕ)
    → every (held rs) (pairs_in k (drop (2 * suc i) s)) && chained (pair_at s i) (pairs_in k (drop (2 * suc i) s)) ≡ right_from rs s k (suc i)
rest_right rs s zero i = refl
rest_right rs s (suc k) i =
    let p : Pair = pair_at s i in
    let q : Pair = pair_at s (suc i) in
    let l : List Pair = pairs_in k (drop (2 * suc (suc i)) s) in
    ap (λ (m : List Pair). every (held rs) m && chained p m) (pairs_next k (suc i) s)
    ∙ shuffled (held rs q) (every (held rs) l) (before p q) (chained q l)
    ∙ ap (λ (b : Bool). held rs q && (before p q && b)) (rest_right rs s k (suc i))

all_right : (rs : List Row) (s : List ℕ) (k : ℕ) → every (held rs) (pairs_in k s) && ascending (pairs_in k s) ≡ right_from rs s k 0
all_right rs s zero = refl
all_right rs s (suc k) =
    let p : Pair = pair_at s 0 in
    let l : List Pair = pairs_in k (drop 2 s) in
    ap (λ (b : Bool). (held rs p && every (held rs) l) && b) (chained_all p l)
    ∙ shuffled (held rs p) (every (held rs) l) true (chained p l)
    ∙ ap (λ (b : Bool). held rs p && b) (rest_right rs s k 0)

module _ (rs : List Row) (s : List ℕ) (len : ℕ) where
  -- that the pairs are the index of the rows, as it is tested
  tested : same_pairs (pairs_in len s) (index_of rs) ≡ (eqb (length (pairs_from 1 rs)) len && right_from rs s len 0)
  tested =
      by_tests rs (pairs_in len s)
      ∙ ap (λ (n : ℕ). eqb (length (pairs_from 1 rs)) n && (every (held rs) (pairs_in len s) && ascending (pairs_in len s))) (pairs_long len s)
      ∙ ap (λ (b : Bool). eqb (length (pairs_from 1 rs)) len && b) (all_right rs s len)

  -- there are not as many
  pub others : (length (pairs_from 1 rs) ≡ len → ⊥) → same_pairs (pairs_in len s) (index_of rs) ≡ false
  others h = tested ∙ ap (λ (b : Bool). b && right_from rs s len 0) (ne_eqb (length (pairs_from 1 rs)) len h)

  -- there are as many, so the pairs decide
  pub as_tested : length (pairs_from 1 rs) ≡ len → same_pairs (pairs_in len s) (index_of rs) ≡ right_from rs s (len - 0) 0
  as_tested h =
      let e : len ≡ len - 0 = omega arith in
      tested ∙ ap (λ (b : Bool). b && right_from rs s len 0) (eq-eqb (length (pairs_from 1 rs)) len h) ∙ ap (λ (n : ℕ). right_from rs s n 0) e

  -- the next pair is tested
  pub turn : (i : ℕ) → i < len → right_from rs s (len - i) i ≡ (held rs (pair_at s i) && (in_place s i && right_from rs s (len - (i + 1)) (i + 1)))
  turn i h =
      let e : len - i ≡ suc (len - (i + 1)) = omega arith in
      ap (λ (n : ℕ). right_from rs s n i) e ∙ ap (λ (j : ℕ). held rs (pair_at s i) && (in_place s i && right_from rs s (len - (i + 1)) j)) (sym (add-one i))

  -- behind the last all are tested
  pub at_end_lem : (i : ℕ) → len ≤ i → right_from rs s (len - i) i ≡ true
  at_end_lem i h = let e : len - i ≡ 0 = omega arith in ap (λ (n : ℕ). right_from rs s n i) e

-- ---- the pairs of a number stand together

-- the pair's row is one of the first m
abbrev fits : ℕ → Pair → Bool
fits m p = leb 1 p.row && leb p.row m

-- the pairs of the number n stand from pair `low` on, before pair `high`
record Together (n : ℕ) (l : List Pair) (low high : ℕ) : Type 0 where
  many : ℕ
  ends : high ≡ low + many
  rows : rows_of (take many (drop low l)) ≡ rows_with n l
  long : length (rows_with n l) ≡ many

-- a pair of a lower number stands before them
lower : (n : ℕ) (q : Pair) (l : List Pair) (low high : ℕ) → q.number < n → Together n l low high → Together n (q ∷ l) (suc low) (suc high)
lower n q l low high h t =
    let z = ne_eqb q.number n (λ e. omega arith) in
    record { many = t.many; ends = omega (arith, t.ends); rows = t.rows ∙ rw z; long = rw z t.long }

-- one of the number is the first of them
equal : (n : ℕ) (q : Pair) (l : List Pair) (high : ℕ) → q.number ≡ n → Together n l 0 high → Together n (q ∷ l) 0 (suc high)
equal n q l high e t =
    let z = eq-eqb q.number n e in
    record { many = suc t.many; ends = omega (arith, t.ends); rows = ap (λ (r : List ℕ). q.row ∷ r) t.rows ∙ rw z; long = rw z (ap suc t.long) }

-- behind one of a higher number there is none
above : (n : ℕ) (q : Pair) (l : List Pair) → n < q.number → rows_with n l ≡ [] → Together n (q ∷ l) 0 0
above n q l h e =
    let z = ne_eqb q.number n (λ f. omega arith) in
    record { many = 0; ends = refl; rows = rw (z, e); long = rw (z, e) }

-- numbers do not fall
not_lower : (p q : Pair) → before p q ≡ true → p.number ≤ q.number
not_lower p q e = at (eqb p.number q.number) refl e
  where
    at : (b : Bool) → eqb p.number q.number ≡ b → if b (ltb p.row q.row) (ltb p.number q.number) ≡ true → p.number ≤ q.number
    at true f e = omega (arith, eqb-true p.number q.number f)
    at false f e = omega (arith, ltb-true p.number q.number e)

-- no pair of the number or of a higher one comes before row 0 of it
not_before : (n : ℕ) (q : Pair) → n ≤ q.number → before q (pair n 0) ≡ false
not_before n q h = at (eqb q.number n) refl
  where
    at : (b : Bool) → eqb q.number n ≡ b → if b (ltb q.row 0) (ltb q.number n) ≡ false
    at true f = le-ltb q.row 0 (omega arith)
    at false f = le-ltb q.number n h

-- so behind one of the number none does
none_lower : (n : ℕ) (q : Pair) (l : List Pair) → n ≤ q.number → every (before q) l ≡ true → ahead (pair n 0) l ≡ 0
none_lower n q [] h a = refl
none_lower n q (r ∷ l) h a = let k = not_lower q r (both (before q r) (every (before q) l) a).0 in rw (not_before n r (omega arith))

-- and behind one of a higher number none is of the number
none_with : (n : ℕ) (q : Pair) (l : List Pair) → n < q.number → every (before q) l ≡ true → rows_with n l ≡ []
none_with n q [] h a = refl
none_with n q (r ∷ l) h a =
    let (b, c) = both (before q r) (every (before q) l) a in
    let k = not_lower q r b in
    rw (ne_eqb r.number n (λ e. omega arith)) (none_with n q l h c)

ahead_yes : (p q : Pair) (l : List Pair) → before q p ≡ true → ahead p (q ∷ l) ≡ suc (ahead p l)
ahead_yes p q l e = rw e

ahead_no : (p q : Pair) (l : List Pair) → before q p ≡ false → ahead p (q ∷ l) ≡ 0
ahead_no p q l e = rw e

-- a pair of a lower number comes before every row of the number, one of a higher number before none, one of the number before each row above its own
before_lower : (n i : ℕ) (q : Pair) → q.number < n → before q (pair n i) ≡ true
before_lower n i q h = rw (ne_eqb q.number n (λ e. omega arith)) (lt-ltb q.number n h)

before_above : (n i : ℕ) (q : Pair) → n < q.number → before q (pair n i) ≡ false
before_above n i q h = rw (ne_eqb q.number n (λ e. omega arith)) (le-ltb q.number n (omega arith))

before_equal : (n i : ℕ) (q : Pair) → q.number ≡ n → q.row < i → before q (pair n i) ≡ true
before_equal n i q e h = rw (eq-eqb q.number n e) (lt-ltb q.row i h)

-- in order, the pairs of a number stand where a search for its row 0 and for a row above all rows leads
together : (n top m : ℕ) → m < top → (l : List Pair) → ascending l ≡ true → every (fits m) l ≡ true → Together n l (ahead (pair n 0) l) (ahead (pair n top) l)
together n top m h [] a f = record { many = 0; ends = refl; rows = refl; long = refl }
together n top m h (q ∷ l) a f =
    let (b, c) = both (every (before q) l) (ascending l) a in
    let (d, e) = both (fits m q) (every (fits m) l) f in
    let k = leb-true q.row m (both (leb 1 q.row) (leb q.row m) d).1 in
    at b (omega arith) (eqb q.number n) (ltb q.number n) refl refl (together n top m h l c e)
  where
    at : every (before q) l ≡ true → q.row < top → (x y : Bool) → eqb q.number n ≡ x → ltb q.number n ≡ y
        → Together n l (ahead (pair n 0) l) (ahead (pair n top) l) → Together n (q ∷ l) (ahead (pair n 0) (q ∷ l)) (ahead (pair n top) (q ∷ l))
    at b k true y e g t =
        let u = eqb-true q.number n e in
        let z = none_lower n q l (omega arith) b in
        let t' = subst (λ (i : ℕ). Together n l i (ahead (pair n top) l)) z t in
        subst (λ (i : ℕ). Together n (q ∷ l) i (ahead (pair n top) (q ∷ l))) (sym (ahead_no (pair n 0) q l (not_before n q (omega arith))))
        (subst (Together n (q ∷ l) 0) (sym (ahead_yes (pair n top) q l (before_equal n top q u k))) (equal n q l (ahead (pair n top) l) u t'))
    at b k false true e g t =
        let u = ltb-true q.number n g in
        subst (λ (i : ℕ). Together n (q ∷ l) i (ahead (pair n top) (q ∷ l))) (sym (ahead_yes (pair n 0) q l (before_lower n 0 q u)))
        (subst (Together n (q ∷ l) (suc (ahead (pair n 0) l))) (sym (ahead_yes (pair n top) q l (before_lower n top q u))) (lower n q l (ahead (pair n 0) l) (ahead (pair n top) l) u t))
    at b k false false e g t =
        let v = ltb-false q.number n g in
        let w = eqb-false q.number n e in
        let u : n < q.number = omega arith in
        subst (λ (i : ℕ). Together n (q ∷ l) i (ahead (pair n top) (q ∷ l))) (sym (ahead_no (pair n 0) q l (before_above n 0 q u)))
        (subst (Together n (q ∷ l) 0) (sym (ahead_no (pair n top) q l (before_above n top q u))) (above n q l u (none_with n q l u b)))

-- k pairs from pair a on
pairs_between : (a k len : ℕ) (s : List ℕ) → a + k ≤ len → take k (drop a (pairs_in len s)) ≡ pairs_in k (drop (2 * a) s)
pairs_between a k len s h = ap (take k) (pairs_from_lem a len s (omega arith)) ∙ pairs_first k (len - a) (drop (2 * a) s) (omega arith)

-- the index has not more pairs than there are rows
index_long : (rs : List Row) → length (index_of rs) ≤ length rs
unfolding index_of
index_long rs = omega (arith, as_many (pairs_from 1 rs), not_more 1 rs)

module _ (rs : List Row) (s : List ℕ) (len n : ℕ) (few : length rs ≤ 256) (lent : 2 * len ≤ length s) (e : pairs_in len s ≡ index_of rs) where
  -- where the search for the number's row 0 leads, and the one for a row above all rows
  low : ℕ
  low = ahead (pair n 0) (pairs_in len s)

  high : ℕ
  high = ahead (pair n 257) (pairs_in len s)

  stands : Together n (pairs_in len s) low high
  unfolding low high
  stands = together n 257 (length rs) (omega arith) (pairs_in len s) (ap ascending e ∙ (index rs).in_order) (ap (every (fits (length rs))) e ∙ rows_there rs)

  -- the second does not lead before the first
  pub in_turn : ahead (pair n 0) (pairs_in len s) ≤ ahead (pair n 257) (pairs_in len s)
  unfolding low high
  in_turn = omega (arith, stands.ends)

  -- the rows that hold the number are those of the pairs between
  pub rows_stand : (at end : ℕ) → at ≡ ahead (pair n 0) (pairs_in len s) → end ≡ ahead (pair n 257) (pairs_in len s) → Stand s (holders n rs) at (end - at)
  unfolding low high
  rows_stand at end u v =
      let m : ℕ = stands.many in
      let x : end ≡ at + m = omega (arith, stands.ends) in
      let c : end - at ≡ m = omega arith in
      let w : end ≤ len = omega (arith, ahead_within (pair n 257) (pairs_in len s), pairs_long len s) in
      let y : length (pairs_in len s) ≡ length (index_of rs) = ap length e in
      let told : rows_with n (pairs_in len s) ≡ holders n rs = ap (rows_with n) e ∙ rows_with_lem n rs in
      record {
        lent = omega arith;
        few = omega (arith, index_long rs, pairs_long len s);
        many = sym (ap length told) ∙ stands.long ∙ sym c;
        rows_are =
            ap (λ (j : ℕ). rows_of (pairs_in j (drop (2 * at) s))) c ∙ ap rows_of (sym (pairs_between at m len s (omega arith)))
            ∙ ap (λ (j : ℕ). rows_of (take m (drop j (pairs_in len s)))) u ∙ stands.rows ∙ told;
      }

-- ---- the rows of pairs

pub rows_of_long : (k : ℕ) (s : List ℕ) → length (rows_of (pairs_in k s)) ≡ k
rows_of_long zero s = refl
rows_of_long (suc k) s = ap suc (rows_of_long k (drop 2 s))

-- the row of pair i
rows_of_at : (k : ℕ) (s : List ℕ) (i : ℕ) → i < k → get_or (rows_of (pairs_in k s)) i 0 ≡ get_or s (2 * i + 1) 0
rows_of_at zero s i h = absurd (not-suc-le-zero h)
rows_of_at (suc k) s zero h = refl
rows_of_at (suc k) s (suc i) h =
    let e : 2 + (2 * i + 1) ≡ 2 * suc i + 1 = omega arith in
    rows_of_at k (drop 2 s) i (le_of_suc-le-suc h) ∙ get_or-drop 2 s (2 * i + 1) 0 ∙ ap (λ (j : ℕ). get_or s j 0) e

-- the row of pair i of those from pair a on
pub row_there_lem : (k : ℕ) (s : List ℕ) (a i : ℕ) → i < k → get_or s (2 * (a + i) + 1) 0 ≡ get_or (rows_of (pairs_in k (drop (2 * a) s))) i 0
row_there_lem k s a i h =
    let e : 2 * (a + i) + 1 ≡ 2 * a + (2 * i + 1) = omega arith in
    ap (λ (j : ℕ). get_or s j 0) e ∙ sym (get_or-drop (2 * a) s (2 * i + 1) 0) ∙ sym (rows_of_at k (drop (2 * a) s) i h)

-- row i of those that stand there
pub row_stands : (s is : List ℕ) (a k i : ℕ) → Stand s is a k → i < k → get_or s (2 * (a + i) + 1) 0 ≡ get_or is i 0
row_stands s is a k i S h = row_there_lem k s a i h ∙ ap (λ (l : List ℕ). get_or l i 0) S.rows_are

-- the first of them
pub first_stands : (s is : List ℕ) (a k : ℕ) → Stand s is a k → (k ≡ 0 → ⊥) → get_or s (2 * a + 1) 0 ≡ get_or is 0 0
first_stands s is a k S h = let e : 2 * a + 1 ≡ 2 * (a + 0) + 1 = omega arith in ap (λ (j : ℕ). get_or s j 0) e ∙ row_stands s is a k 0 S (omega arith)

-- ---- document 02's answer

first_no : (a b c : Bool) → a && b ≡ false → a && (b && c) ≡ false
first_no true true c e = no e
first_no true false c e = refl
first_no false b c e = refl

last_no : (a b : Bool) → a && (b && false) ≡ false
last_no true true = refl
last_no true false = refl
last_no false b = refl

all_yes : (a b c : Bool) → a && b ≡ true → c ≡ true → a && (b && c) ≡ true
all_yes true b c e f = rw (e, f)
all_yes false b c e f = no (sym e)

module _ (rows : List ℕ) (count : ℕ) (s : List ℕ) (len n : ℕ) where
  -- not so many rows
  pub bad_rows : rows_fit rows count ≡ false → replied rows count s len n ≡ bad_call
  unfolding replied asked
  bad_rows e =
      ap (λ (f : Bool). asked f (rows_in count rows) (pairs_in len s) n) (first_no (leb count row_room) (leb count (rows_lent (length rows))) (leb len (pairs_lent (length s))) e)

  -- not so many pairs
  pub bad_pairs : pairs_lent (length s) < len → replied rows count s len n ≡ bad_call
  unfolding replied asked
  bad_pairs h =
      ap (λ (b : Bool). asked (leb count row_room && (leb count (rows_lent (length rows)) && b)) (rows_in count rows) (pairs_in len s) n) (lt-leb len (pairs_lent (length s)) h)
      ∙ ap (λ (f : Bool). asked f (rows_in count rows) (pairs_in len s) n) (last_no (leb count row_room) (leb count (rows_lent (length rows))))

  module _ (e : rows_fit rows count ≡ true) (h : len ≤ pairs_lent (length s)) where
    well_made : replied rows count s len n ≡ asked true (rows_in count rows) (pairs_in len s) n
    unfolding replied
    well_made =
        ap (λ (f : Bool). asked f (rows_in count rows) (pairs_in len s) n)
        (all_yes (leb count row_room) (leb count (rows_lent (length rows))) (leb len (pairs_lent (length s))) e (le-leb len (pairs_lent (length s)) h))

    -- the pairs are not the index of the rows
    pub other_index : same_pairs (pairs_in len s) (index_of (rows_in count rows)) ≡ false → replied rows count s len n ≡ stale
    unfolding asked
    other_index z = well_made ∙ ap (λ (b : Bool). if b (reply_of (holders n (rows_in count rows))) stale) z

    -- they are
    pub this_index : same_pairs (pairs_in len s) (index_of (rows_in count rows)) ≡ true → replied rows count s len n ≡ reply_of (holders n (rows_in count rows))
    unfolding asked
    this_index z = well_made ∙ ap (λ (b : Bool). if b (reply_of (holders n (rows_in count rows))) stale) z

-- they are, so that they can be searched
module _ (rows : List ℕ) (count : ℕ) (s : List ℕ) (len n : ℕ) (e : rows_fit rows count ≡ true) (h : len ≤ pairs_lent (length s)) (z : same_pairs (pairs_in len s) (index_of (rows_in count rows)) ≡ true) where
  lent : 2 * len ≤ length s
  lent = omega arith

  same : pairs_in len s ≡ index_of (rows_in count rows)
  same = same_pairs_lem (pairs_in len s) (index_of (rows_in count rows)) z

  few : length (rows_in count rows) ≤ 256
  few = let k = leb-true count row_room (both (leb count row_room) (leb count (rows_lent (length rows))) e).0 in omega (arith, rows_long count rows)

  pub searched : (2 * len ≤ length s) × (ascending (pairs_in len s) ≡ true)
  searched = (lent, ap ascending same ∙ (index (rows_in count rows)).in_order)

  pub in_turn_there : ahead (pair n 0) (pairs_in len s) ≤ ahead (pair n 257) (pairs_in len s)
  in_turn_there = in_turn (rows_in count rows) s len n few lent same

  -- the rows that hold the number stand between the two places
  pub found_there : (at end : ℕ) → at ≡ ahead (pair n 0) (pairs_in len s) → end ≡ ahead (pair n 257) (pairs_in len s)
      → (is : List ℕ) × ((replied rows count s len n ≡ reply_of is) × Stand s is at (end - at))
  found_there at end u v = (holders n (rows_in count rows), (this_index rows count s len n e h z, rows_stand (rows_in count rows) s len n few lent same at end u v))

-- what is answered where rows hold the number, and where none does
pub told_none : (is : List ℕ) → length is ≡ 0 → reply_of is ≡ absent
told_none [] e = refl
told_none (i ∷ is) e = absurd (omega arith)

pub told_first : (is : List ℕ) (k : ℕ) → length is ≡ k → (k ≡ 0 → ⊥) → reply_told (reply_of is) ≡ Ok (Some (record { first = get_or is 0 0; count = k }))
told_first [] k e h = absurd (h (sym e))
told_first (i ∷ is) k e h = ap (λ (n : ℕ). Ok (Some (record { first = i; count = n }))) e

pub told_nth : (is : List ℕ) (k : ℕ) → (length is ≡ 0 → ⊥) → nth_told k (reply_of is) ≡ Ok (kth_told (kth k is))
told_nth [] k h = absurd (h refl)
told_nth (i ∷ is) k h = refl

pub told_all : (is list : List ℕ) → (length is ≡ 0 → ⊥) → list_after (reply_of is) list ≡ laid list 0 is
told_all [] list h = absurd (h refl)
told_all (i ∷ is) list h = refl

-- "k of 0 or above the count is answered none"
pub kth_none : (is : List ℕ) (k : ℕ) → k < 1 → kth_told (kth k is) ≡ N.None
kth_none is k h = ap (λ (b : Bool). kth_told (if (b && leb k (length is)) (row (get_or is (k - 1) 0)) none)) (lt-leb 1 k h)

pub kth_past : (is : List ℕ) (k : ℕ) → length is < k → kth_told (kth k is) ≡ N.None
kth_past is k h = ap (λ (b : Bool). kth_told (if b (row (get_or is (k - 1) 0)) none)) (ap (λ (b : Bool). leb 1 k && b) (lt-leb k (length is) h) ∙ and_no (leb 1 k))

pub kth_row : (is : List ℕ) (k : ℕ) → 1 ≤ k → k ≤ length is → kth_told (kth k is) ≡ N.Row (get_or is (k - 1) 0)
kth_row is k h g =
    ap (λ (b : Bool). kth_told (if (b && leb k (length is)) (row (get_or is (k - 1) 0)) none)) (le-leb 1 k h) ∙ ap (λ (b : Bool). kth_told (if b (row (get_or is (k - 1) 0)) none)) (le-leb k (length is) g)

-- the list is too short, or is not
module _ (list rows : List ℕ) (count : ℕ) (s : List ℕ) (len n : ℕ) where
  pub list_short : length list < 256 → replied_into list rows count s len n ≡ bad_call
  unfolding replied_into
  list_short h = ap (λ (b : Bool). if b (replied rows count s len n) bad_call) (lt-leb 256 (length list) h)

  pub list_fits : 256 ≤ length list → replied_into list rows count s len n ≡ replied rows count s len n
  unfolding replied_into
  list_fits h = ap (λ (b : Bool). if b (replied rows count s len n) bad_call) (le-leb 256 (length list) h)

  -- what is refused of the index is refused with the list
  pub list_refused : (x : Refusal) → 256 ≤ length list → Finds (Err x) (replied rows count s len n) s
      → (Err x ≡ reply_told (replied_into list rows count s len n)) × (list ≡ list_after (replied_into list rows count s len n) list)
  list_refused NoRoom h f = let e = list_fits h ∙ f in (sym (ap reply_told e), sym (ap (λ a. list_after a list) e))
  list_refused OtherIndex h f = let e = list_fits h ∙ f in (sym (ap reply_told e), sym (ap (λ a. list_after a list) e))
