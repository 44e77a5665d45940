-- PageLaws: what is asked of page numbers, on the numbers alone; and the masks of sheets, with the missing numbers that they give.
-- Assumes nothing.
use mathlib.Core.Path.{◌≡◌, refl, ap, sym, ◌∙◌}
use mathlib.Core.Bool.{Bool, true, false, not, ◌||◌}
use mathlib.Core.List.{List, [], ◌∷◌, ◌++◌}
use Prim.Native.Nat.{ℕ, zero, suc, ◌+◌, ◌-◌, ◌*◌, ◌/◌, ◌%◌, ◌^◌, ◌≤◌, ◌<◌}
use native.Mathlib.Nat.{add-zero, zero-add, mul_comm, pow-suc, mod-eq_of_lt}
use native.Mathlib.Numerals.{add-one}
use native.Mathlib.Omega.{arith}
use Rattle.std.specs.Prelude.{Option, Some, None, MatchOption, is_some}
use lib.Bits.{bit_and, bit_or, or_block, and_high}
use lib.Count.{ones, count_trailing_zeros}
use lib.Dec.{eqb}
use lib.Pow.{pow_pos, pow-lt}
use lib.ListN.{length, take, drop, get_or, drop_of_length-le}
use lib.Seq.{drop-cons, take-suc, take-take, get_or-take, length-take-le}
use borrow.Author.Tests.{eq-eqb, ne_eqb, eqb-true, le-leb}
use Rattle.paper.specs.Lists.{if}
use Rattle.paper.specs.Judging.{Sheet}
use Rattle.paper.specs.Reading.{has, page10, number11, rows_at}
use Rattle.paper.specs.Collecting.{without, mask_of}
use Rattle.paper.proofs.Small.{no, below_at}
use Rattle.reader.specs.Pages.{nos_of, place_of, picked, present, marked, numbers_in, absent, first_of, first_in, Says}
use Rattle.reader.proofs.Digits.{digit, value, same_picked, none_picked, fewer_picked, mask_value, marked_half, value_marked, above_marked, digits, whole, others, or_value, ones_value, low_value}

-- ---- sheets by their numbers

-- a sheet of that number, with nothing on it
bare : ℕ → Sheet
bare n = record { no = n; of = 0; head = record { patch = 0; ident = []; lang = []; person = []; author = []; measures = [] }; rows = [] }

-- any numbers are those of some sheets, so what holds for all sheets of these numbers determines an answer
pub bearing : (ns : List ℕ) → (l : List Sheet) × (nos_of l ≡ ns)
unfolding bare
bearing [] = ([], refl)
bearing (n ∷ ns) = let (l, e) = bearing ns in (bare n ∷ l, ap (λ (m : List ℕ). n ∷ m) e)

-- the number stands among these
abbrev pub among : ℕ → List ℕ → Bool
among n [] = false
among n (x ∷ ns) = eqb x n || among n ns

-- how many numbers stand before the first that is n
abbrev pub place_in : ℕ → List ℕ → ℕ
place_in n [] = 0
place_in n (x ∷ ns) = if (eqb x n) 0 (suc (place_in n ns))

-- the first number that came before, counted from k; `was` are those before
abbrev pub again_in : List ℕ → ℕ → List ℕ → ℕ
again_in was k [] = 0
again_in was k (x ∷ ns) = if (among x was) k (again_in (x ∷ was) (suc k) ns)

-- a sheet has the number just if it stands among theirs
pub has_among : (n : ℕ) (l : List Sheet) → has n l ≡ among n (nos_of l)
has_among n [] = refl
has_among n (s ∷ l) = rw (has_among n l)

-- where the sheet stands, by the numbers alone
pub place_in_lem : (n : ℕ) (l : List Sheet) → place_of n l ≡ place_in n (nos_of l)
place_in_lem n [] = refl
place_in_lem n (s ∷ l) = rw (place_in_lem n l)

-- the page whose number came before, by the numbers alone
pub again_in_lem : (was : List Sheet) (k : ℕ) (l : List Sheet) → page10 was k l ≡ again_in (nos_of was) k (nos_of l)
again_in_lem was k [] = refl
again_in_lem was k (s ∷ l) = rw (has_among s.no was, again_in_lem (s ∷ was) (suc k) l)

-- ---- where a number stands among the first n of an array

module _ (nos : List ℕ) (n : ℕ) (room : n ≤ length nos) where
  -- they are n
  pub first_n : length (take n nos) ≡ n
  first_n = length-take-le n nos room

  -- each is the array's
  pub entry : (i : ℕ) → i < n → get_or (take n nos) i 0 ≡ get_or nos i 0
  entry i h = get_or-take n nos i 0 h

  module _ (k i : ℕ) where
    -- it stands here
    pub place_hit : i < n → get_or nos i 0 ≡ k → i + place_in k (drop i (take n nos)) ≡ i
    place_hit h e = rw (drop-cons (take n nos) i 0 (omega (arith, first_n)), eq-eqb (get_or (take n nos) i 0) k (entry i h ∙ e), place_in) (add-zero i)

    -- another stands here
    pub place_miss : i < n → (get_or nos i 0 ≡ k → ⊥) → i + place_in k (drop i (take n nos)) ≡ i + 1 + place_in k (drop (i + 1) (take n nos))
    place_miss h e = rw (add-one, drop-cons (take n nos) i 0 (omega (arith, first_n)), ne_eqb (get_or (take n nos) i 0) k (λ q. e (sym (entry i h) ∙ q)), place_in) (omega arith)

    -- none is left
    pub place_done : n ≤ i → i + place_in k (drop i (take n nos)) ≡ i
    place_done h = rw (drop_of_length-le (take n nos) {i = i} (omega (arith, first_n))) (add-zero i)

-- the place among the numbers is the place among their sheets
pub place_told : (k : ℕ) (ns : List ℕ) (r : ℕ) → place_in k ns ≡ r → (l : List Sheet) → nos_of l ≡ ns → r ≡ place_of k l
place_told k ns r h l e = sym (place_in_lem k l ∙ (ap (place_in k) e ∙ h))

-- a number stands before the end just if it is there
pub there : (k : ℕ) (ns : List ℕ) → place_in k ns < length ns → among k ns ≡ true
there k [] h = absurd (omega arith)
there k (x ∷ ns) h = at (eqb x k) h (there k ns)
  where
    at : (b : Bool) → if b 0 (suc (place_in k ns)) < suc (length ns) → (place_in k ns < length ns → among k ns ≡ true) → (b || among k ns) ≡ true
    at true h ih = refl
    at false h ih = ih (omega arith)

-- and not before the end if it is not there
pub not_there : (k : ℕ) (ns : List ℕ) → length ns ≤ place_in k ns → among k ns ≡ false
not_there k [] h = refl
not_there k (x ∷ ns) h = at (eqb x k) h (not_there k ns)
  where
    at : (b : Bool) → suc (length ns) ≤ if b 0 (suc (place_in k ns)) → (length ns ≤ place_in k ns → among k ns ≡ false) → (b || among k ns) ≡ false
    at true h ih = absurd (omega arith)
    at false h ih = ih (omega arith)

-- what `page_of` answers for these numbers says whether the number is there
pub is_there : (k n : ℕ) (ns : List ℕ) (r : Option ℕ) → length ns ≡ n → ((l : List Sheet) → nos_of l ≡ ns → MatchOption r (place_of k l ≡ n) (λ i. (i ≡ place_of k l) × (i < n)))
    → among k ns ≡ is_some r
is_there k n ns None e h =
    let (l, q) = bearing ns in
    let p : place_of k l ≡ place_in k ns = place_in_lem k l ∙ ap (place_in k) q in
    not_there k ns (omega (arith, h l q))
is_there k n ns (Some i) e h =
    let (l, q) = bearing ns in
    let p : place_of k l ≡ place_in k ns = place_in_lem k l ∙ ap (place_in k) q in
    there k ns (omega (arith, (h l q).0, (h l q).1))

-- a page of that number: it stands there, and its rows are the rows of the number
pub place_rows : (n : ℕ) (l : List Sheet) (d : Sheet) → has n l ≡ true → (place_of n l < length l) × ((get_or l (place_of n l) d).no ≡ n) × (rows_at n l ≡ (get_or l (place_of n l) d).rows)
place_rows n [] d e = no (sym e)
place_rows n (s ∷ l) d e = at (eqb s.no n) refl e (place_rows n l d)
  where
    at : (b : Bool) → eqb s.no n ≡ b → (b || has n l) ≡ true → (has n l ≡ true → (place_of n l < length l) × ((get_or l (place_of n l) d).no ≡ n) × (rows_at n l ≡ (get_or l (place_of n l) d).rows))
        → (if b 0 (suc (place_of n l)) < suc (length l)) × ((get_or (s ∷ l) (if b 0 (suc (place_of n l))) d).no ≡ n) × (if b s.rows (rows_at n l) ≡ (get_or (s ∷ l) (if b 0 (suc (place_of n l))) d).rows)
    at true q e ih = (omega arith, eqb-true s.no n q, refl)
    at false q e ih = let (x, y, z) = ih e in (omega arith, y, z)

-- no page has that number
pub place_none : (n : ℕ) (l : List Sheet) → has n l ≡ false → (place_of n l ≡ length l) × (rows_at n l ≡ [])
place_none n [] e = (refl, refl)
place_none n (s ∷ l) e = at (eqb s.no n) e (place_none n l)
  where
    at : (b : Bool) → (b || has n l) ≡ false → (has n l ≡ false → (place_of n l ≡ length l) × (rows_at n l ≡ [])) → (if b 0 (suc (place_of n l)) ≡ suc (length l)) × (if b s.rows (rows_at n l) ≡ [])
    at true e ih = no e
    at false e ih = let (x, y) = ih e in (ap suc x, y)

-- ---- a number that came before

among_behind : (k : ℕ) (ns : List ℕ) (x : ℕ) → among k (ns ++ x ∷ []) ≡ (eqb x k || among k ns)
among_behind k [] x = refl
among_behind k (y ∷ ns) x = rw (among_behind k ns x) (turn (eqb y k) (eqb x k) (among k ns))
  where
    turn : (a b c : Bool) → (a || (b || c)) ≡ (b || (a || c))
    turn true true c = refl
    turn true false c = refl
    turn false b c = refl

-- i numbers are passed, each new among those before it
pub record Passed (ns : List ℕ) (i : ℕ) : Type 0 where
  pub was : List ℕ
  pub rest : again_in [] 1 ns ≡ again_in was (suc i) (drop i ns)
  pub same : (k : ℕ) → among k was ≡ among k (take i ns)

-- at first none is passed
pub passed_none : (ns : List ℕ) → Passed ns 0
passed_none ns = record { was = []; rest = refl; same = λ k. refl }

module _ (nos : List ℕ) (n i : ℕ) (room : n ≤ length nos) (P : Passed (take n nos) i) where
  -- the numbers before this one
  earlier : i ≤ n → take i (take n nos) ≡ take i nos
  earlier h = take-take i n nos h

  module _ (h : i < n) where
    here : (b : Bool) → among (get_or nos i 0) (take i nos) ≡ b → among (get_or (take n nos) i 0) (take i (take n nos)) ≡ b
    here b e = rw (entry nos n room i h, earlier (omega arith)) e

    -- it is new
    pub passed_new : among (get_or nos i 0) (take i nos) ≡ false → Passed (take n nos) (i + 1)
    passed_new g =
        let e = here false g in
        let m : i < length (take n nos) = omega (arith, first_n nos n room) in
        record {
          was = get_or (take n nos) i 0 ∷ P.was;
          rest = P.rest ∙ rw (add-one, drop-cons (take n nos) i 0, P.same (get_or (take n nos) i 0), e, again_in);
          same = λ k. rw (add-one, take-suc (take n nos) i 0 m, among_behind k (take i (take n nos)) (get_or (take n nos) i 0), P.same k);
        }

    -- it came before
    pub passed_old : among (get_or nos i 0) (take i nos) ≡ true → again_in [] 1 (take n nos) ≡ i + 1
    passed_old g =
        let e = here true g in
        let m : i < length (take n nos) = omega (arith, first_n nos n room) in
        P.rest ∙ rw (drop-cons (take n nos) i 0, P.same (get_or (take n nos) i 0), e, again_in) (sym (add-one i))

-- none is left
pub passed_all : (ns : List ℕ) (i : ℕ) → Passed ns i → length ns ≤ i → again_in [] 1 ns ≡ 0
passed_all ns i P h = P.rest ∙ rw (drop_of_length-le ns h)

-- the page among the numbers is the page among their sheets
pub again_told : (ns : List ℕ) (r : ℕ) → again_in [] 1 ns ≡ r → (l : List Sheet) → nos_of l ≡ ns → r ≡ page10 [] 1 l
again_told ns r h l e = sym (again_in_lem [] 1 l ∙ (ap (again_in [] 1) e ∙ h))

-- ---- masks

-- two masks together: the numbers of either
pub or_masks : (p q : ℕ → Bool) (n k : ℕ) → bit_or (mask_of (picked p n k)) (mask_of (picked q n k)) ≡ mask_of (picked (λ i. p i || q i) n k)
or_masks p q n k =
    let v : ℕ = value p n k in
    let w : ℕ = value q n k in
    rw (mask_value p n k, mask_value q n k, mask_value (λ i. p i || q i) n k, sym (add-zero (v * 2 ^ n)), sym (add-zero (w * 2 ^ n)), or_block n v w 0 0 (pow_pos n) (pow_pos n), or_value p q n k) (add-zero (value (λ i. p i || q i) n k * 2 ^ n))

-- the mask of numbers, with one more
pub numbers_more : (ns : List ℕ) (x : ℕ) → bit_or (mask_of (picked (λ n. among n ns) 1 9)) (mask_of (picked (eqb x) 1 9)) ≡ mask_of (picked (λ n. among n (ns ++ x ∷ [])) 1 9)
numbers_more ns x = or_masks (λ n. among n ns) (eqb x) 1 9 ∙ ap mask_of (same_picked (λ n. among n ns || eqb x n) (λ n. among n (ns ++ x ∷ [])) 1 9 (λ i l h. turn (among i ns) (eqb x i) ∙ sym (among_behind i ns x)))
  where
    turn : (a b : Bool) → (a || b) ≡ (b || a)
    turn true true = refl
    turn true false = refl
    turn false true = refl
    turn false false = refl

-- the numbers that are there, by the numbers alone
pub present_in : (l : List Sheet) → present l ≡ picked (λ n. among n (nos_of l)) 1 9
present_in l = same_picked (λ n. has n l) (λ n. among n (nos_of l)) 1 9 (λ i h g. has_among i l)

-- the mask of the numbers is that of their sheets
pub present_told : (ns : List ℕ) (mask : ℕ) → mask ≡ mask_of (picked (λ n. among n ns) 1 9) → (l : List Sheet) → nos_of l ≡ ns → mask ≡ mask_of (present l)
present_told ns mask h l e = h ∙ sym (ap mask_of (present_in l) ∙ ap (λ (ms : List ℕ). mask_of (picked (λ n. among n ms) 1 9)) e)

-- one number of an array more
pub number_passed : (nos : List ℕ) (i mask : ℕ) → i < length nos → mask ≡ mask_of (picked (λ n. among n (take i nos)) 1 9) → bit_or mask (mask_of (picked (eqb (get_or nos i 0)) 1 9)) ≡ mask_of (picked (λ n. among n (take (i + 1) nos)) 1 9)
number_passed nos i mask h e =
    ap (λ (m : ℕ). bit_or m (mask_of (picked (eqb (get_or nos i 0)) 1 9))) e
    ∙ (numbers_more (take i nos) (get_or nos i 0) ∙ ap (λ (ms : List ℕ). mask_of (picked (λ n. among n ms) 1 9)) (sym (ap (λ (j : ℕ). take j nos) (add-one i) ∙ take-suc nos i 0 h)))

-- a sheet behind others: the mask with its number
pub present_more : (l : List Sheet) (s : Sheet) → bit_or (mask_of (present l)) (mask_of (picked (eqb s.no) 1 9)) ≡ mask_of (present (l ++ s ∷ []))
present_more l s = rw (present_in l, numbers_more (nos_of l) s.no, present_in (l ++ s ∷ []), behind l)
  where
    behind : (l : List Sheet) → nos_of (l ++ s ∷ []) ≡ nos_of l ++ s.no ∷ []
    behind [] = refl
    behind (t ∷ l) = ap (λ (m : List ℕ). t.no ∷ m) (behind l)

-- the bits of a mask of some of the numbers 1 to k
mask_half : (p : ℕ → Bool) (k j : ℕ) → marked (mask_of (picked p 1 k)) (suc j) ≡ marked (value p 1 k) j
mask_half p k j = let h : value p 1 k * 2 ^ 1 / 2 ≡ value p 1 k = omega arith in ap (λ (m : ℕ). marked m (suc j)) (mask_value p 1 k) ∙ (marked_half (value p 1 k * 2 ^ 1) j ∙ ap (λ (v : ℕ). marked v j) h)

-- bit i says whether i passes
pub mask_marked : (p : ℕ → Bool) (k i : ℕ) → 1 ≤ i → i < 1 + k → marked (mask_of (picked p 1 k)) i ≡ p i
mask_marked p k zero h g = absurd (omega arith)
mask_marked p k (suc j) h g = let e : 1 + j ≡ suc j = omega arith in mask_half p k j ∙ (value_marked p 1 k j (omega arith) ∙ ap p e)

mask_above : (p : ℕ → Bool) (k i : ℕ) → 1 + k ≤ i → marked (mask_of (picked p 1 k)) i ≡ false
mask_above p k zero h = absurd (omega arith)
mask_above p k (suc j) h = mask_half p k j ∙ above_marked p 1 k j (omega arith)

-- bit 0 is not set
mask_zero : (p : ℕ → Bool) (k : ℕ) → marked (mask_of (picked p 1 k)) 0 ≡ false
mask_zero p k = let e : value p 1 k * 2 ^ 1 / 1 % 2 ≡ 0 = omega arith in ap (λ (m : ℕ). marked m 0) (mask_value p 1 k) ∙ ap (λ (x : ℕ). eqb x 1) e

-- the mask of one number is its bit
pub one_bit : (k : ℕ) → 1 ≤ k → k ≤ 9 → (1 * 2 ^ k) % 65536 ≡ mask_of (picked (eqb k) 1 9)
one_bit zero h g = absurd (omega arith)
one_bit (suc j) h g = eqb-true ((1 * 2 ^ suc j) % 65536) (mask_of (picked (eqb (suc j)) 1 9)) (below_at 9 (λ i. eqb ((1 * 2 ^ suc i) % 65536) (mask_of (picked (eqb (suc i)) 1 9))) refl j (omega arith))

-- what is no page's number has no bit
pub no_bit : (k : ℕ) → ((i : ℕ) → 1 ≤ i → i < 10 → k ≡ i → ⊥) → 0 ≡ mask_of (picked (eqb k) 1 9)
no_bit k h = sym (ap mask_of (none_picked (eqb k) 1 9 (λ i l g. ne_eqb k i (h i l g))))

-- the bits of the numbers 1 to z, and the one bit above them
pub above_z : (z : ℕ) → z ≤ 9 → (2 * 2 ^ z) % 65536 ≡ 2 ^ (z + 1)
above_z z h = rw (mul_comm 2 (2 ^ z), sym (pow-suc 2 z), sym (add-one z)) (mod-eq_of_lt (pow-lt {j = 16} (omega arith)))

-- the bits that a mask lacks, cut to the numbers 1 to z
pub lacking : (have z : ℕ) → have < 65536 → z ≤ 9 → bit_and (65535 - have) (2 ^ (z + 1) - 2) ≡ mask_of (absent have z)
unfolding absent
lacking have z h g =
    let n : ℕ = 65535 - have in
    rw (le-leb z 9 g)
    (and_high n z 1 ∙ (ap (λ (v : ℕ). v * 2 ^ 1) (digits n 1 z) ∙ (sym (mask_value (marked n) 1 z) ∙ ap mask_of (same_picked (marked n) (λ i. not (marked have i)) 1 z (λ i l k. others 16 i have (omega arith) h)))))

-- as many ones as numbers
pub count_numbers : (mask : ℕ) → mask < 65536 → ones mask ≡ length (numbers_in mask)
unfolding numbers_in
count_numbers mask h = ap ones (sym (whole mask 16 h)) ∙ ones_value (marked mask) 0 16

-- numbers that make a mask above 0 have a first one
has_first : (p : ℕ → Bool) (n k : ℕ) → 0 < value p n k → Some (first_of (picked p n k)) ≡ first_in (picked p n k)
has_first p n zero h = absurd (omega arith)
has_first p n (suc k) h = at (p n) h (has_first p (suc n) k)
  where
    at : (b : Bool) → 0 < value p (suc n) k * 2 + digit b → (0 < value p (suc n) k → Some (first_of (picked p (suc n) k)) ≡ first_in (picked p (suc n) k))
        → Some (first_of (if b (n ∷ picked p (suc n) k) (picked p (suc n) k))) ≡ first_in (if b (n ∷ picked p (suc n) k) (picked p (suc n) k))
    at true h e = refl
    at false h e = e (omega arith)

-- as many zeros below as the lowest number says
pub first_number : (mask : ℕ) → mask < 65536 → (mask ≡ 0 → ⊥) → Some (count_trailing_zeros 16 mask) ≡ first_in (numbers_in mask)
unfolding numbers_in
first_number mask h ne =
    let w = whole mask 16 h in
    let pos : 0 < value (marked mask) 0 16 = omega arith in
    let e : count_trailing_zeros 16 mask ≡ first_of (picked (marked mask) 0 16) = sym (ap (count_trailing_zeros 16) w) ∙ (sym (zero-add (count_trailing_zeros 16 (value (marked mask) 0 16))) ∙ low_value (marked mask) 0 16 pos) in
    ap Some e ∙ has_first (marked mask) 0 16 pos

-- an empty mask has no number
pub no_number : (mask : ℕ) → mask ≡ 0 → None ≡ first_in (numbers_in mask)
unfolding numbers_in
no_number mask e = rw e

-- the numbers of a mask of numbers are these
pub numbers_back : (p : ℕ → Bool) (z : ℕ) → z ≤ 9 → numbers_in (mask_of (picked p 1 z)) ≡ picked p 1 z
unfolding numbers_in
numbers_back p z h =
    let m : ℕ = mask_of (picked p 1 z) in
    let e : z + (15 - z) ≡ 15 = omega arith in
    ap (λ (b : Bool). if b (0 ∷ picked (marked m) 1 15) (picked (marked m) 1 15)) (mask_zero p z)
    ∙ (ap (picked (marked m) 1) (sym e) ∙ (fewer_picked (marked m) 1 z (15 - z) (λ i l g. mask_above p z i l) ∙ same_picked (marked m) p 1 z (λ i l g. mask_marked p z i l g)))

-- ---- the missing numbers

pub without_picked : (l : List Sheet) (n k : ℕ) → without l n k ≡ picked (λ i. not (has i l)) n k
without_picked l n zero = refl
without_picked l n (suc k) = rw (without_picked l (suc n) k) (at (has n l) (picked (λ i. not (has i l)) (suc n) k))
  where
    at : (b : Bool) (ms : List ℕ) → if b ms (n ∷ ms) ≡ if (not b) (n ∷ ms) ms
    at true ms = refl
    at false ms = refl

-- the numbers that the mask of the sheets lacks are those that the sheets lack
pub absent_without : (l : List Sheet) (z : ℕ) → z ≤ 9 → absent (mask_of (present l)) z ≡ without l 1 z
unfolding absent
absent_without l z h =
    rw (le-leb z 9 h)
    (same_picked (λ i. not (marked (mask_of (present l)) i)) (λ i. not (has i l)) 1 z (λ i g k. ap not (mask_marked (λ n. has n l) 9 i g (omega arith))) ∙ sym (without_picked l 1 z))

-- the numbers of the mask of the missing numbers are these
pub numbers_missing : (l : List Sheet) (z : ℕ) → z ≤ 9 → numbers_in (mask_of (without l 1 z)) ≡ without l 1 z
numbers_missing l z h = ap (λ (ms : List ℕ). numbers_in (mask_of ms)) (without_picked l 1 z) ∙ (numbers_back (λ i. not (has i l)) z h ∙ sym (without_picked l 1 z))

-- the lowest missing number is the first of them
pub lowest_first : (l : List Sheet) (n k : ℕ) → 1 ≤ n → Says (first_in (without l n k)) (number11 l n k)
lowest_first l n zero h = refl
lowest_first l n (suc k) h = at (has n l) (lowest_first l (suc n) k (omega arith))
  where
    at : (b : Bool) → Says (first_in (without l (suc n) k)) (number11 l (suc n) k) → Says (first_in (if b (without l (suc n) k) (n ∷ without l (suc n) k))) (if b (number11 l (suc n) k) n)
    at true e = e
    at false e = (refl, h)

-- what `missing_mask`, `missing_count` and `lowest_missing` answer for sheets whose numbers make the mask `have`
pub record Missing (l : List Sheet) (z mask count : ℕ) (low : Option ℕ) : Type 0 where
  pub mask_is : mask ≡ mask_of (without l 1 z)
  pub count_is : count ≡ length (without l 1 z)
  pub lowest_is : Says low (number11 l 1 z)

-- they are the missing numbers of the sheets, their count and the lowest
pub missing : (l : List Sheet) (have z mask count : ℕ) (low : Option ℕ) → z ≤ 9 → have ≡ mask_of (present l) → mask ≡ mask_of (absent have z) → count ≡ length (numbers_in mask) → low ≡ first_in (numbers_in mask) → Missing l z mask count low
missing l have z mask count low h e m c f =
    let q : mask ≡ mask_of (without l 1 z) = m ∙ (ap (λ (x : ℕ). mask_of (absent x z)) e ∙ ap mask_of (absent_without l z h)) in
    let ns : numbers_in mask ≡ without l 1 z = ap numbers_in q ∙ numbers_missing l z h in
    record { mask_is = q; count_is = c ∙ ap length ns; lowest_is = rw (f ∙ ap first_in ns) (lowest_first l 1 z (omega arith)) }
