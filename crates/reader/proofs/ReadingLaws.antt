-- ReadingLaws: the steps of reading, each against document 01's answer: the call, the pages judged one by one, what pages without faults give their readers,
-- and the join step by step.
-- Assumes nothing.
use mathlib.Core.Path.{◌≡◌, refl, ap, sym, ◌∙◌}
use mathlib.Core.Bool.{Bool, true, false, ◌&&◌}
use mathlib.Core.List.{List, [], ◌∷◌}
use Prim.Native.Nat.{ℕ, zero, suc, ◌+◌, ◌≤◌, ◌<◌}
use native.Mathlib.Numerals.{add-one}
use native.Mathlib.Omega.{arith}
use Rattle.std.specs.Prelude.{Option}
use lib.Dec.{eqb, leb}
use lib.ListN.{length, drop, drop_of_length-le}
use borrow.Author.Tests.{le-leb, lt-leb}
use Rattle.paper.specs.Lists.{if}
use Rattle.paper.specs.Plan.{same_head}
use Rattle.paper.specs.Plan as Said
use Rattle.paper.specs.Judging.{Sheet, Judged, refused, sheet, judge}
use Rattle.paper.specs.Reading.{Numbers, numbers, Judgement, stopped, sheets, cons, judge_all, has, page9, page10, number11, joined, refuse_at, enough, join, decide, read}
use Rattle.paper.specs.Reading as Paper
use Rattle.paper.specs.Layout.{text_of}
use Rattle.paper.specs.Collecting.{mask_of}
use Rattle.paper.specs.Calls.{inside, pages_at, read_at, roomy, read_call}
use Rattle.paper.proofs.Small.{no, unequal}
use Rattle.paper.proofs.PageNumbers.{numbered}
use Rattle.paper.proofs.Judged.{two_to_eight}
use Rattle.paper.proofs.CallLaws.{pages_count}
use Rattle.paper.proofs.ReadSound.{judges}
use Rattle.paper.proofs.Rooms.{rooms}
use Rattle.markup.specs.Walk.{tags_at}
use Rattle.plan.specs.Numbers.{rows_lent}
use Rattle.sheet.specs.Content.{content_of}
use Rattle.sheet.specs.Judged.{is_fine}
use Rattle.reader.specs.Answers.{numbers_of, told_of, refused_as}
use Rattle.reader.specs.Pages.{present, absent, numbers_in, first_in, Says}
use Rattle.reader.specs.Joining.{sheets_of, PageFits, AllFit, first_other, count_said, plan_in, no_plan}
use Rattle.reader.specs.Promise.{answered}
use Rattle.reader.specs.declared.answer.Refusal.{Refusal}
use Rattle.reader.specs.declared.answer.Refusal.TheVariants.{NoRoom, PageSize, ByteRefused, Malformed, OutOfPlace, OtherEdition, BrokenValue, Incomplete, OtherHead, NumberTwice, NumberMissing, TooManyRows}
use Rattle.reader.proofs.CallFacts.{call_fits_lem, room_fits}
use Rattle.reader.proofs.JoiningLaws.{sheets_count}
use Rattle.sheet.proofs.PageLaws.{page_content, page_fit, page_short}
use Rattle.reader.proofs.PageLaws as Page

-- ---- what a page without faults gives its readers

-- a page that is judged to a sheet can be laid out, its number and count are page numbers, and it says what its tags say
said : (w : List ℕ) (s : Sheet) → judge w ≡ sheet s → PageFits w × (s ≡ content_of (tags_at w 0))
said w s e =
    let q = page_content w s e in
    let N = numbered w s e in (
      record {
        short = (judges w s e).short;
        fit = page_fit w s e;
        no_small = rw q (omega (arith, N.most, N.nine));
        of_small = rw q N.nine;
        head_short = omega (arith, page_short w s e);
      },
      sym q,
    )

-- so do all pages, where none is refused
pub all_said : (ws : List (List ℕ)) (k : ℕ) (l : List Sheet) → judge_all k ws ≡ sheets l → AllFit ws × (l ≡ sheets_of ws)
all_said [] k [] e = (tt, refl)
all_said [] k (s ∷ l) e = let y : ◌≡◌ {A = ℕ} 0 1 = cc in unequal y
all_said (w ∷ ws) k l e = at (judge w) (judge_all (suc k) ws) refl (λ m q. all_said ws (suc k) m q) e
  where
    at : (j : Judged) (J : Judgement) → judge w ≡ j → ((m : List Sheet) → J ≡ sheets m → AllFit ws × (m ≡ sheets_of ws)) → cons j k J ≡ sheets l → AllFit (w ∷ ws) × (l ≡ sheets_of (w ∷ ws))
    at (refused n i) J p h e = let y : ◌≡◌ {A = ℕ} 0 1 = cc in unequal y
    at (sheet s) (stopped n j i) p h e = let y : ◌≡◌ {A = ℕ} 0 1 = cc in unequal y
    at (sheet s) (sheets m) p h e =
        let q : s ∷ m ≡ l = cc in
        let (a, b) = said w s p in
        let (c, d) = h m refl in
        ((a, c), sym q ∙ rw (← b, ← d))

-- ---- the pages judged one by one

module _ (ws : List (List ℕ)) (i : ℕ) (w : List ℕ) (turn : drop i ws ≡ w ∷ drop (suc i) ws) where
  -- a page that is refused ends it
  pub stops : (n p : ℕ) → judge w ≡ refused n p → told_of (judge_all (i + 1) (drop i ws)) ≡ numbers n (i + 1) p
  stops n p e = rw (turn, e)

  -- behind a page without faults it goes on
  pub goes_on : is_fine (judge w) ≡ true → told_of (judge_all (i + 1) (drop i ws)) ≡ told_of (judge_all (i + 1 + 1) (drop (i + 1) ws))
  goes_on e = rw (turn, add-one i, add-one (suc i)) (at (judge w) (judge_all (suc (suc i)) (drop (suc i) ws)) e)
    where
      at : (j : Judged) (J : Judgement) → is_fine j ≡ true → told_of (cons j (suc i) J) ≡ told_of J
      at (refused m q) J e = no (sym e)
      at (sheet s) (stopped n k q) e = refl
      at (sheet s) (sheets l) e = refl

-- no page is left
pub none_refused : (ws : List (List ℕ)) (i : ℕ) → length ws ≤ i → told_of (judge_all (i + 1) (drop i ws)) ≡ numbers 0 0 0
none_refused ws i h = rw (drop_of_length-le ws h)

-- so where nothing is told, no page is refused
pub none_told : (ws : List (List ℕ)) (k : ℕ) → (told_of (judge_all k ws)).number ≡ 0 → (l : List Sheet) × (judge_all k ws ≡ sheets l)
none_told [] k e = ([], refl)
none_told (w ∷ ws) k e = at (judge w) refl (judge_all (suc k) ws) (none_told ws (suc k)) e
  where
    at : (j : Judged) → judge w ≡ j → (J : Judgement) → ((told_of J).number ≡ 0 → (l : List Sheet) × (J ≡ sheets l)) → (told_of (cons j k J)).number ≡ 0 → (l : List Sheet) × (cons j k J ≡ sheets l)
    at (refused m q) p J h e = let (a, b) = two_to_eight w m q p in absurd (omega arith)
    at (sheet s) p (stopped m j q) h e = let (l, x) = h e in let y : ◌≡◌ {A = ℕ} 0 1 = cc in unequal y
    at (sheet s) p (sheets l) h e = (s ∷ l, refl)

-- ---- the join, step by step

refused_at : (n k : ℕ) (a : Paper.Answer) → (k ≡ 0 → ⊥) → refuse_at n k a ≡ Paper.refusal n k 0
refused_at n zero a h = absurd (h refl)
refused_at n (suc k) a h = refl

-- the first page whose head or count differs, and the first whose number came before, are pages of the call
other_within : (s : Sheet) (k : ℕ) (l : List Sheet) → page9 s k l ≤ k + length l
other_within s k [] = omega arith
other_within s k (t ∷ l) = at (eqb t.of s.of && same_head t.head s.head) (other_within s (suc k) l)
  where
    at : (b : Bool) → page9 s (suc k) l ≤ suc k + length l → if b (page9 s (suc k) l) k ≤ k + suc (length l)
    at true h = omega (arith, h)
    at false h = omega arith

pub other_small : (l : List Sheet) → first_other l ≤ 2 + length l
other_small [] = omega arith
other_small (s ∷ l) = omega (arith, other_within s 2 l)

pub again_within : (was : List Sheet) (k : ℕ) (l : List Sheet) → page10 was k l ≤ k + length l
again_within was k [] = omega arith
again_within was k (s ∷ l) = at (has s.no was) (again_within (s ∷ was) (suc k) l)
  where
    at : (b : Bool) → page10 (s ∷ was) (suc k) l ≤ suc k + length l → if b k (page10 (s ∷ was) (suc k) l) ≤ k + suc (length l)
    at true h = omega arith
    at false h = omega (arith, h)

-- document 01's order: the four tests one after another, then the plan
join_is : (l : List Sheet) → 1 ≤ length l
    → join l ≡ refuse_at 9 (first_other l) (refuse_at 10 (page10 [] 1 l) (refuse_at 11 (number11 l 1 (count_said l)) (enough (plan_in l no_plan))))
join_is [] h = absurd (omega arith)
join_is (s ∷ l) h = refl

rows_in : (l : List Sheet) → 1 ≤ length l → (plan_in l no_plan).rows ≡ joined l 1 (count_said l)
rows_in [] h = absurd (omega arith)
rows_in (s ∷ l) h = refl

module _ (l : List Sheet) (some : 1 ≤ length l) where
  -- refusal 9
  pub other_head : (k : ℕ) → k ≡ first_other l → (k ≡ 0 → ⊥) → join l ≡ Paper.refusal 9 k 0
  other_head k e h = join_is l some ∙ rw (← e) (refused_at 9 k _ h)

  module _ (alike : 0 ≡ first_other l) where
    -- refusal 10
    pub number_twice : (k : ℕ) → k ≡ page10 [] 1 l → (k ≡ 0 → ⊥) → join l ≡ Paper.refusal 10 k 0
    number_twice k e h = join_is l some ∙ rw (← alike, ← e) (refused_at 10 k _ h)

    module _ (once : 0 ≡ page10 [] 1 l) where
      -- refusal 11
      pub number_missing : (k : ℕ) → k ≡ number11 l 1 (count_said l) → (k ≡ 0 → ⊥) → join l ≡ Paper.refusal 11 k 0
      number_missing k e h = join_is l some ∙ rw (← alike, ← once, ← e) (refused_at 11 k _ h)

      module _ (none : 0 ≡ number11 l 1 (count_said l)) where
        -- refusal 12
        pub too_many : 256 < length (joined l 1 (count_said l)) → join l ≡ Paper.refusal 12 0 0
        too_many h = join_is l some ∙ rw (← alike, ← once, ← none, rows_in l some, lt-leb (length (joined l 1 (count_said l))) 256 h)

        -- else the plan
        pub the_plan_lem : length (joined l 1 (count_said l)) ≤ 256 → join l ≡ Paper.plan (plan_in l no_plan)
        the_plan_lem h = join_is l some ∙ rw (← alike, ← once, ← none, rows_in l some, le-leb (length (joined l 1 (count_said l))) 256 h)

-- ---- reading, step by step

module _ (rows text b ss ns : List ℕ) where
  -- too little room, or a call that is not well made
  pub no_room : roomy (rows_lent (length rows)) (length text) ≡ false → answered rows text b ss ns ≡ Paper.refusal 1 0 0
  unfolding read_call read_at
  no_room e = rw e

  pub no_call : (leb 1 (length ss) && (leb (length ss) 9 && inside b ss ns)) ≡ false → answered rows text b ss ns ≡ Paper.refusal 1 0 0
  unfolding read_call read_at
  no_call e = rw e (at (roomy (rows_lent (length rows)) (length text)))
    where
      at : (r : Bool) → if (r && false) (read (pages_at b ss ns)) (Paper.refusal 1 0 0) ≡ Paper.refusal 1 0 0
      at true = refl
      at false = refl

  module _ (room : roomy (rows_lent (length rows)) (length text) ≡ true) (call : (leb 1 (length ss) && (leb (length ss) 9 && inside b ss ns)) ≡ true) where
    -- a call that is well made is read
    pub is_read : answered rows text b ss ns ≡ read (pages_at b ss ns)
    unfolding read_call read_at
    is_read = rw (room, call)

    pub is_judged : answered rows text b ss ns ≡ decide (judge_all 1 (pages_at b ss ns))
    unfolding read_call read_at read
    is_judged =
        let F = call_fits_lem b ss ns call in
        rw (room, call, pages_count b ss ns F.lie, le-leb 1 (length ss) F.some, le-leb (length ss) 9 F.nine)

-- a refusal has a number
pub numbered_some : (x : Refusal) → 1 ≤ (numbers_of x).number
numbered_some NoRoom = omega arith
numbered_some (PageSize k) = omega arith
numbered_some (ByteRefused k i) = omega arith
numbered_some (Malformed k i) = omega arith
numbered_some (OutOfPlace k i) = omega arith
numbered_some (OtherEdition k i) = omega arith
numbered_some (BrokenValue k i) = omega arith
numbered_some (Incomplete k i) = omega arith
numbered_some (OtherHead k) = omega arith
numbered_some (NumberTwice k) = omega arith
numbered_some (NumberMissing n) = omega arith
numbered_some TooManyRows = omega arith

-- the pages are judged, and the first that is refused is told
pub judged_refused : (ws : List (List ℕ)) (x : Refusal) → numbers_of x ≡ told_of (judge_all 1 ws) → decide (judge_all 1 ws) ≡ refused_as x
judged_refused ws x e = at (judge_all 1 ws) e
  where
    at : (J : Judgement) → numbers_of x ≡ told_of J → decide J ≡ refused_as x
    at (stopped n k i) e = ap (λ (t : Numbers). Paper.refusal t.number t.page t.place) (sym e)
    at (sheets l) e = let z : (numbers_of x).number ≡ 0 = ap (λ (t : Numbers). t.number) e in absurd (omega (arith, z, numbered_some x))

-- the pages are judged, and none is refused: what they say is joined
pub record Clean (ws : List (List ℕ)) : Type 0 where
  pub fits : AllFit ws
  pub joins : decide (judge_all 1 ws) ≡ join (sheets_of ws)

pub clean : (ws : List (List ℕ)) → told_of (judge_all 1 ws) ≡ numbers 0 0 0 → Clean ws
clean ws e =
    let (l, p) = none_told ws 1 (ap (λ (t : Numbers). t.number) e) in
    let (f, q) = all_said ws 1 l p in
    record { fits = f; joins = ap decide p ∙ ap join q }

-- the count that the first page says is a page number
pub count_small : (ws : List (List ℕ)) → AllFit ws → count_said (sheets_of ws) ≤ 9
count_small [] f = omega arith
count_small (w ∷ ws) f = f.0.of_small

-- what is known of a call that is well made and of which no page is refused
pub record Joins (rows text b ss ns : List ℕ) : Type 0 where
  pub some_starts : 1 ≤ length ss
  pub nine : length ss ≤ 9
  pub lie : inside b ss ns ≡ true
  pub row_room : 12288 ≤ length rows
  pub text_room_lem : 12600 ≤ length text
  pub fits : AllFit (pages_at b ss ns)
  pub some_sheets : 1 ≤ length (sheets_of (pages_at b ss ns))
  pub small : count_said (sheets_of (pages_at b ss ns)) ≤ 9
  pub other_small : first_other (sheets_of (pages_at b ss ns)) ≤ 11
  pub again_small : page10 [] 1 (sheets_of (pages_at b ss ns)) ≤ 11
  pub read_is : answered rows text b ss ns ≡ read (pages_at b ss ns)
  pub join_is : answered rows text b ss ns ≡ join (sheets_of (pages_at b ss ns))

pub joins : (rows text b ss ns : List ℕ) → roomy (rows_lent (length rows)) (length text) ≡ true → (leb 1 (length ss) && (leb (length ss) 9 && inside b ss ns)) ≡ true
    → told_of (judge_all 1 (pages_at b ss ns)) ≡ numbers 0 0 0 → Joins rows text b ss ns
joins rows text b ss ns room call e =
    let ws : List (List ℕ) = pages_at b ss ns in
    let F = call_fits_lem b ss ns call in
    let R = room_fits (length rows) (length text) room in
    let C = clean ws e in
    let n : length (sheets_of ws) ≡ length ss = sheets_count ws ∙ pages_count b ss ns F.lie in
    record {
      some_starts = F.some;
      nine = F.nine;
      lie = F.lie;
      row_room = R.0;
      text_room_lem = R.1;
      fits = C.fits;
      some_sheets = omega (arith, n, F.some);
      small = count_small ws C.fits;
      other_small = omega (arith, other_small (sheets_of ws), n, F.nine);
      again_small = omega (arith, again_within [] 1 (sheets_of ws), n, F.nine);
      read_is = is_read rows text b ss ns room call;
      join_is = is_judged rows text b ss ns room call ∙ C.joins;
    }

-- the text of what was read fits the room
pub text_fits : (ws : List (List ℕ)) (p : Said.Plan) → read ws ≡ Paper.plan p → length (text_of p) ≤ 12600
text_fits ws p e = (rooms ws p e).text_fits

-- its rows are those counted
pub rows_counted : (l : List Sheet) → 1 ≤ length l → length (joined l 1 (count_said l)) ≤ 256 → length (plan_in l no_plan).rows ≤ 256
rows_counted l some h = rw (rows_in l some) h

-- the lowest missing number, by the masks
pub low_is : (l : List Sheet) (have z mask : ℕ) (low : Option ℕ) → z ≡ count_said l → count_said l ≤ 9 → have ≡ mask_of (present l) → mask ≡ mask_of (absent have z)
    → low ≡ first_in (numbers_in mask) → Says low (number11 l 1 (count_said l))
low_is l have z mask low e h p m f = rw (← e) ((Page.missing l have z mask (length (numbers_in mask)) low (omega arith) p m refl f).lowest_is)
