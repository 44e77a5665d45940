-- Shown: a collector that began empty and was given pages shows, after each of them, the collector of document 01 that was given the same; its answers, its
-- missing numbers and its reading are document 01's. So the order in which the pages came does not matter to what is read.
-- Assumes nothing.
use mathlib.Core.Path.{◌≡◌, refl, ap, sym, ◌∙◌, subst}
use mathlib.Core.Bool.{Bool, true, false, not, ◌||◌}
use mathlib.Core.List.{List, [], ◌∷◌, ◌++◌}
use Prim.Native.Nat.{ℕ, zero, suc, ◌+◌, ◌-◌, ◌≤◌}
use native.Mathlib.Omega.{arith}
use lib.Dec.{eqb, leb}
use lib.ListN.{length, take, drop, set, length-set, get_or-replicate, length-replicate}
use lib.Seq.{drop-drop, take-take, get_or-set_same, get_or-set_other}
use borrow.Author.Tests.{eqb-true, eqb-false, eq-eqb, le-leb, leb-true, leb-false}
use Rattle.paper.specs.Lists.{if, same}
use Rattle.paper.specs.Plan.{Plan}
use Rattle.paper.specs.Judging.{Sheet}
use Rattle.paper.specs.Reading as Said
use Rattle.paper.specs.Reading.{has}
use Rattle.paper.specs.Calls.{roomy}
use Rattle.paper.specs.Collecting as Paper
use Rattle.paper.specs.Collecting.{sheets_in, pages_in, bytes_at, agrees, missing_numbers, missing_mask, missing_count, mask_of, read_collected}
use Rattle.paper.proofs.Small.{no, same_self}
use Rattle.paper.proofs.AnyOrder.{Perm}
use Rattle.paper.proofs.ReadSound.{judges}
use Rattle.paper.proofs.PageNumbers.{Numbered, numbered}
use Rattle.paper.proofs.Collected.{keep, Way, way, broken, stranger, here, second, fresh, Reached, empty, more, Holds, holds, agrees_first_lem, Rising, up_to_nine, incomplete, as_handed_in, add_all, reached_all, fed_any_order}
use Rattle.room.specs.Laid.{laid}
use Rattle.room.proofs.LaidLaws.{laid_long, laid_there, laid_before, laid_behind}
use Rattle.plan.specs.Numbers.{rows_lent}
use Rattle.reader.specs.Pages.{first_of, first_in as lowest_in}
use Rattle.reader.proofs.Digits.{same_picked}
use Rattle.reader.proofs.PageLaws.{without_picked}
use Rattle.collector.specs.Keeping as Code
use Rattle.collector.specs.Keeping.{start_of, len_of, kept, agrees_first, first_with, Answered, kept_with, taken_in, added_to, added_call, count_of, missing, in_order, pages_of, read_of, collected}
use Rattle.collector.specs.Answers.{Answer, Tells}
use Rattle.collector.specs.Promise.{Promised}
use Rattle.collector.specs.Shows.{Shows, count_in, first_in, Leads, added_all}
use Rattle.collector.specs.declared.store.Collector.{Collector}
use Rattle.collector.proofs.KeepLaws.{Kept, is_kept, kept_here, here_by, slice_part}
use Rattle.collector.proofs.ByNumber.{order_same, all_there, in_order_lem}

-- ---- the empty collector

-- "Clearing makes it empty."
pub shows_empty : Shows Code.empty_collector Paper.cleared
unfolding Code.here
shows_empty = record { room = length-replicate {A = ℕ} 12600 0; nine = refl; pages_are = none; bytes_are = λ n e. no (sym e); count_is = refl; first_is = refl }
  where
    none : (n : ℕ) → Code.here (Code.empty_collector).lens n ≡ false
    none n = at (Code.here (Code.empty_collector).lens n) refl
      where
        at : (b : Bool) → Code.here (Code.empty_collector).lens n ≡ b → Code.here (Code.empty_collector).lens n ≡ false
        at true e =
            let K = is_kept (Code.empty_collector).lens n e in
            let z = get_or-replicate {A = ℕ} 9 (n - 1) 0 0 (omega (arith, K.least, K.most)) in
            absurd (omega (arith, z, K.some))
        at false e = e

-- ---- its first page

-- number 0 has no page
no_zero : (lens : List ℕ) → Code.here lens 0 ≡ false
unfolding Code.here
no_zero lens = refl

module _ (c : Collector) where
  -- "then 9 against its first page"
  first_agrees : (k : Paper.Collector) → Shows c k → Holds k → (s : Sheet) → agrees_first c.pages c.lens c.first s ≡ agrees s k
  unfolding agrees_first
  first_agrees [] S H s = rw (S.first_is, no_zero c.lens)
  first_agrees (x ∷ k) S H s =
      let self : eqb x.says.no x.says.no ≡ true = eq-eqb x.says.no x.says.no refl in
      let there : has x.says.no (sheets_in (x ∷ k)) ≡ true = rw self in
      let bytes : kept c.pages c.lens x.says.no ≡ x.bytes = S.bytes_are x.says.no there ∙ rw self in
      rw (S.first_is, S.pages_are x.says.no ∙ there, bytes, H.judged.0)

  -- the first page stays the first
  first_stays : (k : Paper.Collector) → Shows c k → (y : Paper.Kept) → first_with c.lens c.first y.says.no ≡ first_in (k ++ y ∷ [])
  unfolding first_with
  first_stays [] S y = rw (S.first_is, no_zero c.lens)
  first_stays (x ∷ k) S y =
      let there : has x.says.no (sheets_in (x ∷ k)) ≡ true = rw (eq-eqb x.says.no x.says.no refl) in
      rw (S.first_is, S.pages_are x.says.no ∙ there)

count_stays : (k : Paper.Collector) (y : Paper.Kept) → agrees y.says k ≡ true → y.says.of ≡ count_in (k ++ y ∷ [])
count_stays [] y e = refl
count_stays (x ∷ k) y e = ((agrees_first_lem y.says x k).0 e).0

-- ---- one page more

has_more : (n : ℕ) (k : Paper.Collector) (y : Paper.Kept) → has n (sheets_in (k ++ y ∷ [])) ≡ (eqb y.says.no n || has n (sheets_in k))
has_more n [] y = refl
has_more n (x ∷ k) y = rw (has_more n k y) (turn (eqb x.says.no n) (eqb y.says.no n) (has n (sheets_in k)))
  where
    turn : (a b c : Bool) → (a || (b || c)) ≡ (b || (a || c))
    turn true true c = refl
    turn true false c = refl
    turn false b c = refl

bytes_more : (n : ℕ) (k : Paper.Collector) (y : Paper.Kept) → bytes_at n (k ++ y ∷ []) ≡ if (has n (sheets_in k)) (bytes_at n k) (if (eqb y.says.no n) y.bytes [])
bytes_more n [] y = refl
bytes_more n (x ∷ k) y = rw (bytes_more n k y) (at (eqb x.says.no n))
  where
    at : (b : Bool) → if b x.bytes (if (has n (sheets_in k)) (bytes_at n k) (if (eqb y.says.no n) y.bytes []))
        ≡ if (b || has n (sheets_in k)) (if b x.bytes (bytes_at n k)) (if (eqb y.says.no n) y.bytes [])
    at true = refl
    at false = refl

-- a part before the place, and one behind it, are as they were
module _ (xs p : List ℕ) (at : ℕ) (fits : at + length p ≤ length xs) where
  part_before : (a l : ℕ) → a + l ≤ at → take l (drop a (laid xs at p)) ≡ take l (drop a xs)
  part_before a l h =
      let long : length (laid xs at p) ≡ length xs = laid_long xs p at fits in
      let cut : take (a + l) (laid xs at p) ≡ take (a + l) xs = sym (take-take (a + l) at (laid xs at p) h) ∙ (ap (take (a + l)) (laid_before xs p at fits) ∙ take-take (a + l) at xs h) in
      sym (slice_part a l (laid xs at p) (omega arith)) ∙ (ap (drop a) cut ∙ slice_part a l xs (omega arith))

  part_behind : (a l : ℕ) → at + length p ≤ a → take l (drop a (laid xs at p)) ≡ take l (drop a xs)
  part_behind a l h =
      let e : at + length p + (a - (at + length p)) ≡ a = omega arith in
      let cut : (ys : List ℕ) → drop a ys ≡ drop (a - (at + length p)) (drop (at + length p) ys) = λ ys. sym (drop-drop (a - (at + length p)) (at + length p) ys ∙ ap (λ (i : ℕ). drop i ys) e) in
      ap (take l) (cut (laid xs at p) ∙ (ap (drop (a - (at + length p))) (laid_behind xs p at fits) ∙ sym (cut xs)))

-- the length of another number is as it was
module _ (lens : List ℕ) (no n x : ℕ) (low : 1 ≤ no) (ne : no ≡ n → ⊥) where
  len_other : 1 ≤ n → len_of (set lens (no - 1) x) n ≡ len_of lens n
  len_other h = get_or-set_other lens (no - 1) (n - 1) x 0 (omega arith)

  here_other : Code.here (set lens (no - 1) x) n ≡ Code.here lens n
  unfolding Code.here
  here_other = at n ne
    where
      at : (n : ℕ) → (no ≡ n → ⊥) → Code.here (set lens (no - 1) x) n ≡ Code.here lens n
      at zero ne = refl
      at (suc m) ne = here_by (set lens (no - 1) x) lens (suc m) (get_or-set_other lens (no - 1) (suc m - 1) x 0 (omega arith))

module _ (c : Collector) (k : Paper.Collector) (S : Shows c k) (w : List ℕ) (s : Sheet) (N : Numbered s) (some : 1 ≤ length w) (short : length w ≤ 1400) (new : has s.no (sheets_in k) ≡ false) where
  abbrev after : Collector
  after = kept_with c w s

  fits : start_of s.no + length w ≤ length c.pages
  fits = omega (arith, S.room, N.least, N.most, N.nine)

  len_own : len_of after.lens s.no ≡ length w
  len_own = get_or-set_same c.lens (s.no - 1) (length w) 0 (omega (arith, S.nine, N.least, N.most, N.nine))

  here_own : Code.here after.lens s.no ≡ true
  here_own = kept_here after.lens s.no (record { least = N.least; most = omega (arith, N.most, N.nine); some = omega (arith, len_own); short = omega (arith, len_own) })

  pages_after : (n : ℕ) → Code.here after.lens n ≡ has n (sheets_in (k ++ keep w s ∷ []))
  pages_after n = at (eqb s.no n) refl
    where
      at : (b : Bool) → eqb s.no n ≡ b → Code.here after.lens n ≡ has n (sheets_in (k ++ keep w s ∷ []))
      at true e = ap (Code.here after.lens) (sym (eqb-true s.no n e)) ∙ (here_own ∙ sym (has_more n k (keep w s) ∙ rw e))
      at false e = here_other c.lens s.no n (length w) N.least (eqb-false s.no n e) ∙ (S.pages_are n ∙ sym (has_more n k (keep w s) ∙ rw e))

  bytes_own : kept after.pages after.lens s.no ≡ w
  bytes_own = ap (λ (l : ℕ). take l (drop (start_of s.no) after.pages)) len_own ∙ laid_there c.pages w (start_of s.no) fits

  bytes_other : (n : ℕ) → (s.no ≡ n → ⊥) → Kept c.lens n → kept after.pages after.lens n ≡ kept c.pages c.lens n
  bytes_other n ne K =
      ap (λ (l : ℕ). take l (drop (start_of n) after.pages)) (len_other c.lens s.no n (length w) N.least ne K.least) ∙ at (leb n s.no) refl
    where
      at : (b : Bool) → leb n s.no ≡ b → take (len_of c.lens n) (drop (start_of n) after.pages) ≡ kept c.pages c.lens n
      at true e =
          let l = leb-true n s.no e in
          let low = K.least in
          let h = K.short in
          part_before c.pages w (start_of s.no) fits (start_of n) (len_of c.lens n) (omega arith)
      at false e =
          let l = leb-false n s.no e in
          let low = N.least in
          part_behind c.pages w (start_of s.no) fits (start_of n) (len_of c.lens n) (omega arith)

  bytes_after : (n : ℕ) → has n (sheets_in (k ++ keep w s ∷ [])) ≡ true → kept after.pages after.lens n ≡ bytes_at n (k ++ keep w s ∷ [])
  bytes_after n h = at (eqb s.no n) refl
    where
      at : (b : Bool) → eqb s.no n ≡ b → kept after.pages after.lens n ≡ bytes_at n (k ++ keep w s ∷ [])
      at true e =
          let q : s.no ≡ n = eqb-true s.no n e in
          let f : has n (sheets_in k) ≡ false = ap (λ (m : ℕ). has m (sheets_in k)) (sym q) ∙ new in
          ap (kept after.pages after.lens) (sym q) ∙ (bytes_own ∙ sym (bytes_more n k (keep w s) ∙ rw (f, e)))
      at false e =
          let t : has n (sheets_in k) ≡ true = (sym (has_more n k (keep w s) ∙ rw e) ∙ h) in
          let K = is_kept c.lens n (S.pages_are n ∙ t) in
          bytes_other n (eqb-false s.no n e) K ∙ (S.bytes_are n t ∙ sym (bytes_more n k (keep w s) ∙ rw t))

  shows_more : agrees s k ≡ true → Shows after (k ++ keep w s ∷ [])
  shows_more a = record {
    room = laid_long c.pages w (start_of s.no) fits ∙ S.room;
    nine = length-set c.lens (s.no - 1) (length w) ∙ S.nine;
    pages_are = pages_after;
    bytes_are = bytes_after;
    count_is = count_stays k (keep w s) a;
    first_is = first_stays c k S (keep w s);
  }

-- ---- a page added

-- the answer is document 01's, and the collector afterwards shows document 01's
pub record Adds (p : Paper.Adding) (x : Answered) : Type 0 where
  pub answer_is : x.answer ≡ p.answer
  pub shown : Shows x.after p.after

module _ (c : Collector) (k : Paper.Collector) (R : Reached k) (S : Shows c k) where
  -- a page as its bytes
  pub shows_added : (w : List ℕ) → Adds (Paper.add k w) (added_to c w)
  unfolding added_to taken_in
  shows_added w = at (way k w)
    where
      alike : (s : Sheet) (b : Bool) → agrees s k ≡ b → agrees_first c.pages c.lens c.first s ≡ b
      alike s b a = first_agrees c k S (holds R) s ∙ a

      at : {p : Paper.Adding} → Way k w p → Adds p (added_to c w)
      at (broken n i j) = rw j (record { answer_is = refl; shown = S })
      at (stranger s j a) = rw (j, alike s false a) (record { answer_is = refl; shown = S })
      at (here s j a b e) =
          let t : same w (kept c.pages c.lens s.no) ≡ true = ap (same w) (S.bytes_are s.no b) ∙ (ap (λ (v : List ℕ). same v (bytes_at s.no k)) e ∙ same_self (bytes_at s.no k)) in
          rw (j, alike s true a, S.pages_are s.no ∙ b, t) (record { answer_is = refl; shown = S })
      at (second s j a b e) = rw (j, alike s true a, S.pages_are s.no ∙ b, ap (same w) (S.bytes_are s.no b) ∙ e) (record { answer_is = refl; shown = S })
      at (fresh s j a b) =
          let J = judges w s j in
          rw (j, alike s true a, S.pages_are s.no ∙ b) (record { answer_is = refl; shown = shows_more c k S w s (numbered w s j) J.some_bytes J.short b a })

  -- a page of a buffer
  pub shows_call : (b : List ℕ) (start len : ℕ) → Adds (Paper.add_call k b start len) (added_call c b start len)
  unfolding Paper.add_call added_call
  shows_call b start len = at (leb (start + len) (length b))
    where
      at : (t : Bool) → Adds (if t (Paper.add k (take len (drop start b))) (Paper.unchanged (Paper.refused_with 1 0) k)) (if t (added_to c (take len (drop start b))) (Code.unchanged (Paper.refused_with 1 0) c))
      at true = shows_added (take len (drop start b))
      at false = record { answer_is = refl; shown = S }

-- so what `add`, `add_bytes` and `add_page` give: an answer that tells document 01's, and a collector that shows document 01's
pub shows_promised : (p : Paper.Adding) (x : Answered) (a : Answer) (after : Collector) → Adds p x → Promised x a after → Tells p.answer a × Shows after p.after
shows_promised p x a after A P = (subst (λ (y : Paper.Added). Tells y a) A.answer_is P.answer_is, subst (λ (d : Collector). Shows d p.after) (sym P.collector_is) A.shown)

-- ---- the missing numbers

module _ (c : Collector) where
  missing_are : (k : Paper.Collector) → Reached k → Shows c k → missing c ≡ missing_numbers k
  unfolding missing missing_numbers count_of
  missing_are [] R S = rw S.count_is
  missing_are (x ∷ k) R S =
      let nine = (holds R).within.0.nine in
      rw (S.count_is, le-leb x.says.of 9 nine)
      (same_picked (λ n. not (Code.here c.lens n)) (λ n. not (has n (sheets_in (x ∷ k)))) 1 x.says.of (λ i a b. ap not (S.pages_are i)) ∙ sym (without_picked (sheets_in (x ∷ k)) 1 x.says.of))

module _ (c : Collector) (k : Paper.Collector) (R : Reached k) (S : Shows c k) where
  -- "which of the z numbers are missing": the mask that is answered
  pub shows_missing : mask_of (missing c) ≡ missing_mask k
  shows_missing = ap mask_of (missing_are c k R S)

  -- "and how many"
  pub shows_count : length (missing c) ≡ missing_count k
  shows_count = ap length (missing_are c k R S)

  -- and the lowest of them
  pub shows_lowest : lowest_in (missing c) ≡ lowest_in (missing_numbers k)
  shows_lowest = ap lowest_in (missing_are c k R S)

-- ---- reading

count_in_lem : (k : Paper.Collector) → Reached k → count_of (count_in k) ≡ count_in k
unfolding count_of
count_in_lem [] R = refl
count_in_lem (x ∷ k) R = rw (le-leb x.says.of 9 (holds R).within.0.nine)

module _ (c : Collector) (k : Paper.Collector) (R : Reached k) (S : Shows c k) where
  -- where none is missing, the pages by their numbers are those that came, in another order
  pages_order : missing_numbers k ≡ [] → Perm (pages_in k) (pages_of c)
  pages_order e =
      let z : count_of c.z ≡ count_in k = ap count_of S.count_is ∙ count_in_lem k R in
      let bytes : in_order (kept c.pages c.lens) 1 (count_in k) ≡ in_order (λ j. bytes_at j k) 1 (count_in k) = order_same (kept c.pages c.lens) (λ j. bytes_at j k) (count_in k) 1 (λ j a b. S.bytes_are j (all_there k e j a b)) in
      subst (Perm (pages_in k)) (sym (ap (in_order (kept c.pages c.lens) 1) z ∙ bytes)) (in_order_lem k R e)

  -- "Complete, it reads as the same pages handed in at once; incomplete, with 11; empty, with 1."
  pub shows_read : read_of c ≡ read_collected k
  unfolding read_of
  shows_read = rw (missing_are c k R S) (at (missing_numbers k) refl (up_to_nine R))
    where
      above : (n : ℕ) (a : Said.Answer) → 1 ≤ n → Said.refuse_at 11 n a ≡ Said.refusal 11 n 0
      above zero a h = absurd (omega arith)
      above (suc n) a h = refl

      at : (ms : List ℕ) → missing_numbers k ≡ ms → Rising 1 10 (missing_numbers k) → Said.refuse_at 11 (first_of ms) (Said.read (pages_of c)) ≡ read_collected k
      at [] e u = as_handed_in R (pages_of c) (pages_order e)
      at (n ∷ ns) e u = let r : Rising 1 10 (n ∷ ns) = subst (Rising 1 10) e u in above n (Said.read (pages_of c)) r.0 ∙ sym (incomplete R n ns e)

  -- the same with the rooms that are lent
  pub shows_collected : (rows text : List ℕ) → collected rows text c ≡ Paper.collected_call (rows_lent (length rows)) (length text) k
  unfolding collected Paper.collected_call
  shows_collected rows text = ap (λ (a : Said.Answer). if (roomy (rows_lent (length rows)) (length text)) a (Said.refusal 1 0 0)) shows_read

-- ---- whatever the order

-- what `add` and `add_page` give for a page that lies in the buffer, `add_bytes` gives for its bytes
pub as_bytes : (c : Collector) (b : List ℕ) (start len : ℕ) (a : Answer) (after : Collector) → start + len ≤ length b → Promised (added_call c b start len) a after → Promised (added_to c (take len (drop start b))) a after
unfolding added_call
as_bytes c b start len a after h P =
    subst (λ (t : Bool). Promised (if t (added_to c (take len (drop start b))) (Code.unchanged (Paper.refused_with 1 0) c)) a after) (le-leb (start + len) (length b) h) P

-- pages added one after another lead to one collector
pub led : (c : Collector) (ws : List (List ℕ)) (d : Collector) → Leads c ws d → d ≡ added_all c ws
led c [] d e = e
led c (w ∷ ws) d (a, e, P, L) = subst (λ (x : Collector). d ≡ added_all x ws) P.collector_is (led e ws d L)

-- pages one after another
pub shows_all : (c : Collector) (k : Paper.Collector) → Reached k → Shows c k → (ws : List (List ℕ)) → Shows (added_all c ws) (add_all k ws)
shows_all c k R S [] = S
shows_all c k R S (w ∷ ws) = shows_all (added_to c w).after (Paper.add k w).after (more w R) (shows_added c k R S w).shown ws

-- the empty collector, given pages
module _ (g : List (List ℕ)) (d : Collector) (L : Leads Code.empty_collector g d) where
  -- reads as document 01's collector that was given the same
  pub reads_led : read_of d ≡ read_collected (add_all Paper.cleared g)
  reads_led =
      ap read_of (led Code.empty_collector g d L)
      ∙ shows_read (added_all Code.empty_collector g) (add_all Paper.cleared g) (reached_all empty g) (shows_all Code.empty_collector Paper.cleared empty shows_empty g)

-- pages that are accepted at once, given to an empty collector in any order: none is missing, and it reads as their plan
pub any_order : (f g : List (List ℕ)) (p : Plan) → Perm f g → Said.read f ≡ Said.plan p → (missing (added_all Code.empty_collector g) ≡ []) × (read_of (added_all Code.empty_collector g) ≡ Said.plan p)
any_order f g p q e =
    let r = fed_any_order f g p q e in
    let R = reached_all empty g in
    let S = shows_all Code.empty_collector Paper.cleared empty shows_empty g in
    (missing_are (added_all Code.empty_collector g) (add_all Paper.cleared g) R S ∙ r.1, shows_read (added_all Code.empty_collector g) (add_all Paper.cleared g) R S ∙ r.2)
