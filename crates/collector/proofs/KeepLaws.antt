-- KeepLaws: which pages are here, what stands at a number's place, and what a page without faults gives.
-- Assumes nothing.
use Rattle.std.specs.Prelude.{Option, Some, None, is_some, Ok, Err}
use mathlib.Core.Path.{◌≡◌, refl, ap, sym, ◌∙◌, subst}
use mathlib.Core.Bool.{Bool, true, false, not, ◌&&◌}
use mathlib.Core.List.{List}
use Prim.Native.Nat.{ℕ, ◌+◌, ◌-◌, ◌*◌, ◌≤◌}
use native.Mathlib.Omega.{arith}
use lib.Dec.{eqb, leb}
use lib.ListN.{length, take, drop, set}
use lib.Seq.{slice, take-add, drop_at, length-take-le}
use borrow.Author.Tests.{leb-true, le-leb, ne_eqb}
use Rattle.paper.specs.Lists.{if, same}
use Rattle.paper.specs.Plan.{same_head}
use Rattle.paper.specs.Judging.{Sheet, Judged, refused, sheet, judge}
use Rattle.paper.specs.Reading.{numbers}
use Rattle.paper.specs.Collecting.{Added, added, already_here, refused_with}
use Rattle.paper.proofs.Small.{both, unequal, same_comm}
use Rattle.paper.proofs.PageNumbers.{numbered}
use Rattle.room.specs.Laid.{laid}
use Rattle.markup.specs.Walk.{tags_at}
use Rattle.sheet.specs.Content.{content_of, head_from}
use Rattle.paper.specs.Causes.{cause_number}
use Rattle.paper.specs.declared.Cause.{Cause}
use Rattle.paper.specs.declared.Cause.TheVariants.{Size, Byte, Malformed, OutOfPlace, Edition, Value, Incomplete}
use Rattle.paper.proofs.Judged.{size_place}
use Rattle.sheet.specs.declared.state.Refusal as Fault
use Rattle.tape.specs.Making.{IsSheet}
use Rattle.tape.proofs.TapeLaws.{sheet_by_lem}
use Rattle.reader.specs.Joining.{PageFits}
use Rattle.reader.specs.Answers as Reader
use Rattle.reader.specs.declared.answer.Refusal.{Refusal}
use Rattle.reader.specs.declared.answer.Refusal.TheVariants.{NoRoom, OtherHead, NumberTwice}
use Rattle.reader.proofs.TakenLaws.{page_good}
use Rattle.collector.specs.Keeping.{start_of, len_of, here, page_at, kept, agrees_with, agrees_first, first_with, Answered, unchanged, kept_with, taken_in, added_as, added_to, added_call}
use Rattle.collector.specs.Answers.{Answer, page_of, Tells}
use Rattle.collector.specs.Promise.{Promised}
use Rattle.collector.specs.declared.store.Collector.{Collector}
use Rattle.collector.specs.declared.adding.Kept as Told
use Rattle.collector.specs.declared.store.Slot.{Slot}

-- ---- which pages are here

-- what is known of a page that is here
pub record Kept (lens : List ℕ) (n : ℕ) : Type 0 where
  pub least : 1 ≤ n
  pub most : n ≤ 9
  pub some : 1 ≤ len_of lens n
  pub short : len_of lens n ≤ 1400

pub is_kept : (lens : List ℕ) (n : ℕ) → here lens n ≡ true → Kept lens n
unfolding here
is_kept lens n e =
    let (a, e₁) = both (leb 1 n) (leb n 9 && (leb 1 (len_of lens n) && leb (len_of lens n) 1400)) e in
    let (b, e₂) = both (leb n 9) (leb 1 (len_of lens n) && leb (len_of lens n) 1400) e₁ in
    let (c, d) = both (leb 1 (len_of lens n)) (leb (len_of lens n) 1400) e₂ in
    record { least = leb-true 1 n a; most = leb-true n 9 b; some = leb-true 1 (len_of lens n) c; short = leb-true (len_of lens n) 1400 d }

pub kept_here : (lens : List ℕ) (n : ℕ) → Kept lens n → here lens n ≡ true
unfolding here
kept_here lens n K = rw (le-leb 1 n K.least, le-leb n 9 K.most, le-leb 1 (len_of lens n) K.some, le-leb (len_of lens n) 1400 K.short)

-- the length decides whether it is here
pub here_by : (lens lens' : List ℕ) (n : ℕ) → len_of lens n ≡ len_of lens' n → here lens n ≡ here lens' n
unfolding here
here_by lens lens' n e = ap (λ (l : ℕ). leb 1 n && (leb n 9 && (leb 1 l && leb l 1400))) e

-- a page that is told to be here is here, at its place and with its length, within the room
pub record Place (lens : List ℕ) (n s l : ℕ) : Type 0 where
  pub is_here : here lens n ≡ true
  pub start_is : s ≡ start_of n
  pub len_is : l ≡ len_of lens n
  pub inside : s + l ≤ 12600

pub place : (lens : List ℕ) (n : ℕ) (x : Slot) → Some x ≡ page_at lens n → Place lens n x.start x.len
unfolding page_at
place lens n x e = at (here lens n) refl e
  where
    at : (b : Bool) → here lens n ≡ b → ◌≡◌ {A = Option Slot} (Some x) (if b (Some (record { start = start_of n; len = len_of lens n })) None) → Place lens n x.start x.len
    at true h e =
        let q : ◌≡◌ {A = Slot} x (record { start = start_of n; len = len_of lens n }) = cc in
        let p : x.start ≡ start_of n = ap (λ (y : Slot). y.start) q in
        let l : x.len ≡ len_of lens n = ap (λ (y : Slot). y.len) q in
        let K = is_kept lens n h in
        record { is_here = h; start_is = p; len_is = l; inside = omega (arith, p, l, K.least, K.most, K.short) }
    at false h e = cc

-- one that none is told of is not
pub told_missing : (lens : List ℕ) (n : ℕ) → None ≡ page_at lens n → here lens n ≡ false
unfolding page_at
told_missing lens n e = at (here lens n) e
  where
    at : (b : Bool) → ◌≡◌ {A = Option Slot} None (if b (Some (record { start = start_of n; len = len_of lens n })) None) → b ≡ false
    at true e = cc
    at false e = refl

-- whether a place is told says whether it is here
pub told_here : (lens : List ℕ) (n : ℕ) (r : Option Slot) → r ≡ page_at lens n → is_some r ≡ here lens n
unfolding page_at
told_here lens n r e = ap is_some e ∙ at (here lens n)
  where
    at : (b : Bool) → is_some {T = Slot} (if b (Some (record { start = start_of n; len = len_of lens n })) None) ≡ b
    at true = refl
    at false = refl

-- a part by its two ends is a part by its start and length
pub slice_part : (a n : ℕ) (l : List ℕ) → a ≤ length l → slice a (a + n) l ≡ take n (drop a l)
slice_part a n l h = ap (drop a) (take-add a n l) ∙ drop_at (take a l) (take n (drop a l)) a (length-take-le a l h)

-- the bytes that are kept, by the place that is told
pub kept_there : (pages lens : List ℕ) (n s l : ℕ) → Place lens n s l → take (s + l - s) (drop s pages) ≡ kept pages lens n
kept_there pages lens n s l P =
    let e : s + l - s ≡ l = omega arith in
    rw (e, P.start_is, P.len_is)

-- whether a page's bytes are those that are kept
pub same_kept : (pages lens w : List ℕ) (n s l : ℕ) (r : Bool) → length pages ≡ 12600 → Place lens n s l → r ≡ same (slice s (s + l) pages) w → same w (kept pages lens n) ≡ r
same_kept pages lens w n s l r long P e =
    let h : s ≤ length pages = omega (arith, long, P.inside) in
    let k : take l (drop s pages) ≡ kept pages lens n = rw (P.start_is, P.len_is) in
    same_comm w (kept pages lens n) ∙ sym (e ∙ ap (λ (v : List ℕ). same v w) (slice_part s l pages h ∙ k))

-- the same of a place that is told
pub kept_same : (c : Collector) (w : List ℕ) (s : Sheet) (n : ℕ) (x : Slot) (r : Bool) → n ≡ s.no → length c.pages ≡ 12600 → Some x ≡ page_at c.lens n → r ≡ same (slice x.start (x.start + x.len) c.pages) w
    → (here c.lens s.no ≡ true) × (same w (kept c.pages c.lens s.no) ≡ r)
kept_same c w s n x r q long e f = rw (← q) ((place c.lens n x e).is_here, same_kept c.pages c.lens w n x.start x.len r long (place c.lens n x e) f)

-- ---- a page without faults

-- what it says, that it can be laid out, and that its number is a page's
pub record Says (w : List ℕ) : Type 0 where
  pub judged : judge w ≡ sheet (content_of (tags_at w 0))
  pub fits : PageFits w
  pub least : 1 ≤ (content_of (tags_at w 0)).no

pub says : (w : List ℕ) → IsSheet w → Says w
says w q =
    let is = sheet_by_lem (tags_at w 0) in
    record { judged = q ∙ ap sheet is; fits = page_good w _ q; least = rw (← is) (numbered w _ q).least }

-- ---- the first page

-- a first page with faults: no page agrees with it
pub refused_first : (s : Sheet) (v : List ℕ) (n i : ℕ) → judge v ≡ refused n i → false ≡ agrees_with s (judge v)
refused_first s v n i e = rw e refl

-- any other is compared with
pub by_heads : (w v : List ℕ) (r : Bool) → Says v → r ≡ (eqb (content_of (tags_at w 0)).of (content_of (tags_at v 0)).of && same_head (head_from (tags_at w 0)) (head_from (tags_at v 0))) → r ≡ agrees_with (content_of (tags_at w 0)) (judge v)
unfolding content_of
by_heads w v r S h = rw S.judged h

-- no first page
pub no_first : (pages lens : List ℕ) (n : ℕ) (s : Sheet) → here lens n ≡ false → true ≡ agrees_first pages lens n s
unfolding agrees_first
no_first pages lens n s e = rw e

-- the first page decides
pub by_first : (pages lens : List ℕ) (n a l : ℕ) (s : Sheet) (r : Bool) → Place lens n a l → r ≡ agrees_with s (judge (take (a + l - a) (drop a pages))) → r ≡ agrees_first pages lens n s
unfolding agrees_first
by_first pages lens n a l s r P e = rw P.is_here (e ∙ ap (λ (v : List ℕ). agrees_with s (judge v)) (kept_there pages lens n a l P))

-- ---- a page taken in

-- what is promised of an answer and a collector is promised of the same
pub promised_same : (x : Answered) (a b : Answer) (c d : Collector) → a ≡ b → c ≡ d → Promised x b d → Promised x a c
promised_same x a b c d e f p = rw (e, f) p

module _ (c : Collector) (w : List ℕ) (s : Sheet) where
  pub takes_other : agrees_first c.pages c.lens c.first s ≡ false → Promised (taken_in c w s) (Err (OtherHead 1)) c
  unfolding taken_in
  takes_other e = rw e (record { answer_is = (OtherHead 1, refl, refl); collector_is = refl })

  module _ (alike : agrees_first c.pages c.lens c.first s ≡ true) where
    pub takes_same : here c.lens s.no ≡ true → same w (kept c.pages c.lens s.no) ≡ true → Promised (taken_in c w s) (Ok Told.TheVariants.AlreadyHere) c
    unfolding taken_in
    takes_same h e = rw (alike, h, e) (record { answer_is = refl; collector_is = refl })

    pub takes_second : here c.lens s.no ≡ true → same w (kept c.pages c.lens s.no) ≡ false → Promised (taken_in c w s) (Err (NumberTwice 1)) c
    unfolding taken_in
    takes_second h e = rw (alike, h, e) (record { answer_is = (NumberTwice 1, refl, refl); collector_is = refl })

    pub takes_new : here c.lens s.no ≡ false → (after : Collector) → after ≡ kept_with c w s → Promised (taken_in c w s) (Ok Told.TheVariants.Added) after
    unfolding taken_in
    takes_new h after e = rw (alike, h) (record { answer_is = refl; collector_is = e })

-- the collector with the page of that number, from what is stored
pub keeps : (c : Collector) (w : List ℕ) (s : Sheet) (n of first : ℕ) (pages : List ℕ) → n ≡ s.no → of ≡ s.of → first ≡ first_with c.lens c.first n → pages ≡ laid c.pages ((n - 1) * 1400) w
    → ◌≡◌ {A = Collector} (record { pages = pages; lens = set c.lens (n - 1) (length w); z = of; first = first }) (kept_with c w s)
keeps c w s n of first pages p q f e = rw (e, f, q, p)

-- no cause of a page's refusal is 1
not_one : (x : Cause) → cause_number x ≡ 1 → ⊥
not_one Size e = absurd (omega (arith, e))
not_one Byte e = absurd (omega (arith, e))
not_one Malformed e = absurd (omega (arith, e))
not_one OutOfPlace e = absurd (omega (arith, e))
not_one Edition e = absurd (omega (arith, e))
not_one Value e = absurd (omega (arith, e))
not_one Incomplete e = absurd (omega (arith, e))

-- a page that judging refuses
pub adds_refused : (c : Collector) (w : List ℕ) (f : Fault.Refusal) (x : Refusal) → judge w ≡ refused (cause_number f.cause) f.place → Reader.numbers_of x ≡ numbers (cause_number f.cause) 1 f.place → Promised (added_to c w) (Err x) c
unfolding added_to
adds_refused c w f x e g = rw e (record { answer_is = (x, refl, rw one g); collector_is = refl })
  where
    one : page_of (cause_number f.cause) ≡ 1
    one = rw (ne_eqb (cause_number f.cause) 1 (not_one f.cause))

-- one of its size has no place
pub size_placeless : (w : List ℕ) (f : Fault.Refusal) → judge w ≡ refused (cause_number f.cause) f.place → cause_number f.cause ≡ 2 → f.place ≡ 0
size_placeless w f e = size_place w (cause_number f.cause) f.place e

-- any other is taken in
pub adds_taken : (c : Collector) (w : List ℕ) → Says w → taken_in c w (content_of (tags_at w 0)) ≡ added_to c w
unfolding added_to
adds_taken c w S = rw S.judged

-- a page that does not lie in the buffer
pub outside : (c : Collector) (b : List ℕ) (start len : ℕ) → leb (start + len) (length b) ≡ false → Promised (added_call c b start len) (Err NoRoom) c
unfolding added_call
outside c b start len e = rw e (record { answer_is = (NoRoom, refl, refl); collector_is = refl })

-- ---- a page that is not added

-- leaves the collector as it was
abbrev Stays : Collector → Answered → Type 0
Stays c x = (x.answer ≡ added → ⊥) → x.after ≡ c

taken_stays : (c : Collector) (w : List ℕ) (s : Sheet) → Stays c (taken_in c w s)
unfolding taken_in
taken_stays c w s = at (agrees_first c.pages c.lens c.first s) (here c.lens s.no) (same w (kept c.pages c.lens s.no))
  where
    at : (x y z : Bool) → Stays c (if (not x) (unchanged (refused_with 9 0) c) (if y (if z (unchanged already_here c) (unchanged (refused_with 10 0) c)) (record { answer = added; after = kept_with c w s })))
    at false y z h = refl
    at true true true h = refl
    at true true false h = refl
    at true false z h = absurd (h refl)

bytes_stay : (c : Collector) (w : List ℕ) → Stays c (added_to c w)
unfolding added_to
bytes_stay c w = at (judge w)
  where
    at : (j : Judged) → Stays c (added_as c w j)
    at (refused n i) h = refl
    at (sheet s) h = taken_stays c w s h

call_stays : (c : Collector) (b : List ℕ) (start len : ℕ) → Stays c (added_call c b start len)
unfolding added_call
call_stays c b start len = at (leb (start + len) (length b))
  where
    at : (x : Bool) → Stays c (if x (added_to c (take len (drop start b))) (unchanged (refused_with 1 0) c))
    at true h = bytes_stay c (take len (drop start b)) h
    at false h = refl

-- so it is of any result that meets the promise
stays : (c : Collector) (x : Answered) → Stays c x → (a : Answer) (after : Collector) → Promised x a after → (a ≡ Ok Told.TheVariants.Added → ⊥) → after ≡ c
stays c x S a after P h = P.collector_is ∙ S (λ e. h (subst (λ (y : Added). Tells y a) e P.answer_is))

pub add_stays : (c : Collector) (b : List ℕ) (start len : ℕ) (a : Answer) (after : Collector) → Promised (added_call c b start len) a after → (a ≡ Ok Told.TheVariants.Added → ⊥) → after ≡ c
add_stays c b start len = stays c (added_call c b start len) (call_stays c b start len)

pub add_bytes_stays : (c : Collector) (w : List ℕ) (a : Answer) (after : Collector) → Promised (added_to c w) a after → (a ≡ Ok Told.TheVariants.Added → ⊥) → after ≡ c
add_bytes_stays c w = stays c (added_to c w) (bytes_stay c w)
