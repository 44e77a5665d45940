-- REFUSALS: document 01's table, one theorem for each number. Each says that the number, with this page and this place, is answered exactly when
-- its cause is there and the causes that go first are not. The causes, in the table's words, are those of Causes; `Lowest Q k` is "first such",
-- `None Q` "none is".
-- Assumes nothing.
use mathlib.Core.Path.{◌≡◌, refl, ap, sym, ◌∙◌, subst}
use mathlib.Core.Bool.{Bool, true, false}
use mathlib.Core.Logic.{◌↔◌, ◌⊎◌, ◌≢◌}
use mathlib.Core.List.{List, [], ◌∷◌}
use Prim.Native.Nat.{ℕ, zero, suc, ◌+◌, ◌≤◌, ◌<◌}
use native.Mathlib.Omega.{arith}
use lib.Dec.{leb}
use lib.ListN.{length}
use Rattle.paper.specs.Grammar.{Tag}
use Rattle.paper.specs.Plan.{Row, Plan}
use Rattle.paper.specs.Judging.{Sheet, Judged, refused, sheet, judge, faults, items, sheet_of, verdict}
use Rattle.paper.specs.Reading.{Answer, refusal, plan, Judgement, join, decide, read}
use Rattle.paper.specs.Writing.{bad_call, unsound, too_long, fresh}
use Rattle.paper.specs.Calls.{roomy, read_call, list_call, fresh_call, find_call, cell_call}
use Rattle.paper.specs.Collecting.{Collector, refused_with, add, add_call, collected_call}
use Rattle.paper.specs.Cells.{CellField, no_cell, cell_in}
use Rattle.paper.specs.Index as Index
use Rattle.paper.specs.Index.{Pair, index_of, askable, buildable, asked}
use Rattle.paper.proofs.Small.{no, unequal, Nth, nth_zero, nth_once}
use Rattle.paper.proofs.Longest.{IsPage}
use Rattle.paper.proofs.CallLaws.{Ranged, ranged_join, one_room, room_small, room_short}
use Rattle.paper.proofs.Collected.{Reached, outside_one, empty_or_small, refused_added, nine_added, ten_added}
use Rattle.paper.proofs.CellLaws.{no_cell_lem}
use Rattle.paper.proofs.Indexed.{unaskable, refused_exactly, stale_exactly}
use Rattle.paper.proofs.Judged.{not_both, all_allowed, longest_once, Way, by_size, by_byte, by_form, by_tags, way, verdict_number, judged_tags, judged_cause, cause5, cause6, cause7, cause8, one_more, below5, below6, below7, below8, clean, verdict_sheet}
use Rattle.paper.proofs.Faulty.{Cause, of_five, of_six, of_seven, of_eight, has_cause, cause_has}
use Rattle.paper.proofs.Firsts.{lowest_once, lowest_alike}
use Rattle.paper.proofs.Least.{Among, among_some, fault_at}
use Rattle.paper.proofs.Writer.{too_many, FirstUncut}
use Rattle.paper.proofs.Writer as Writer
use Rattle.paper.proofs.Joining.{first9, behind9, first10, behind10, first11, behind_all, all_rows, over, under, RefusedAt, Judging, fine as all-fine, stop, judging, each_fine, Read, judged, none as other-count, read_by, not_both as no-count, some_sheet, read_late}
use Rattle.paper.proofs.Causes.{None, Lowest, Unread, NoSuchCell, BadSize, Sized, NotAllowed, Allowed, LongestShared, Formed, Five, Six, Seven, Eight, Refused, Handed, Other, Again, Missing, row_count, plan_of, Stranger, Second, Bad}

-- ---- 1, at page 0 and place 0

-- a call that reads pages, with so many rows and so many bytes of text lent
pub one_reading : (rows text : ℕ) (b ss ns : List ℕ) (k i : ℕ)
    → (read_call rows text b ss ns ≡ refusal 1 k i) ↔ (Unread ((rows < 256) ⊎ (text < 12600)) b ss ns × (k ≡ 0) × (i ≡ 0))
unfolding read_call
one_reading rows text = one_room ((rows < 256) ⊎ (text < 12600)) (roomy rows text) (room_small rows text)

-- a call that lists pages, with so many bytes lent
pub one_listing : (out : ℕ) (b ss ns : List ℕ) (k i : ℕ) → (list_call out b ss ns ≡ refusal 1 k i) ↔ (Unread (out < 25200) b ss ns × (k ≡ 0) × (i ≡ 0))
unfolding list_call
one_listing out = one_room (out < 25200) (leb 25200 out) (room_short 25200 out)

-- a call that writes pages afresh, with so many bytes lent
pub one_afresh : (out : ℕ) (b ss ns : List ℕ) (k i : ℕ) → (fresh_call out b ss ns ≡ refusal 1 k i) ↔ (Unread (out < 12600) b ss ns × (k ≡ 0) × (i ≡ 0))
unfolding fresh_call
one_afresh out = one_room (out < 12600) (leb 12600 out) (room_short 12600 out)

-- a call that finds a package number in pages, with a list of so many rows lent
pub one_finding : (list : ℕ) (b ss ns : List ℕ) (k i : ℕ) → (find_call list b ss ns ≡ refusal 1 k i) ↔ (Unread (list < 256) b ss ns × (k ≡ 0) × (i ≡ 0))
unfolding find_call
one_finding list = one_room (list < 256) (leb 256 list) (room_short 256 list)

-- a call that asks for a printed cell, with so many bytes lent
pub one_printing : (out : ℕ) (b ss ns : List ℕ) (k i : ℕ) → (cell_call out b ss ns ≡ refusal 1 k i) ↔ (Unread (out < 80) b ss ns × (k ≡ 0) × (i ≡ 0))
unfolding cell_call
one_printing out = one_room (out < 80) (leb 80 out) (room_short 80 out)

-- building an index, and asking one
pub one_building : (count rows lent : ℕ) → (buildable count rows lent ≡ false) ↔ ((256 < count) ⊎ (rows < count) ⊎ (lent < 256))
one_building count rows lent = unaskable count rows 256 lent

pub one_asking : (count rows pairs lent : ℕ) (rs : List Row) (l : List Pair) (n : ℕ)
    → (asked (askable count rows pairs lent) rs l n ≡ Index.bad_call) ↔ ((256 < count) ⊎ (rows < count) ⊎ (lent < pairs))
one_asking count rows pairs lent rs l n =
    let R = refused_exactly (askable count rows pairs lent) rs l n in
    let U = unaskable count rows pairs lent in
    (λ e. U.0 (R.0 e), λ u. R.1 (U.1 u))

-- the writer: "a row count above 256"
pub one_writing : (p : Plan) → (fresh p ≡ bad_call) ↔ (256 < length p.rows)
one_writing = too_many

-- a cell: "a field or row that does not exist"
pub one_cell : (rs : List Row) (n : ℕ) (f : CellField) (k : List ℕ) → (cell_in rs n f k ≡ no_cell) ↔ NoSuchCell rs n f
one_cell = no_cell_lem

-- a page for the collector: "page outside the buffer"
pub one_adding : (c : Collector) (b : List ℕ) (s n i : ℕ) → ((add_call c b s n).answer ≡ refused_with 1 i) ↔ ((length b < s + n) × (i ≡ 0))
one_adding = outside_one

-- reading a collector: "room too small", or it is empty
pub one_collected : (rows text : ℕ) (c : Collector) (k i : ℕ) → Reached c
    → (collected_call rows text c ≡ refusal 1 k i) ↔ (((rows < 256) ⊎ (text < 12600) ⊎ (c ≡ [])) × (k ≡ 0) × (i ≡ 0))
one_collected = empty_or_small

-- ---- 2 to 8, of one page

-- "page empty or above 1,400"
pub two : (w : List ℕ) (i : ℕ) → (judge w ≡ refused 2 i) ↔ (BadSize w × (i ≡ 0))
two w i = (there (way w), λ (b, z). back (way w) b z)
  where
    there : {x : Judged} → Way w x → x ≡ refused 2 i → BadSize w × (i ≡ 0)
    there (by_size b) e = (b, cc)
    there (by_byte j s l) e = let q : ◌≡◌ {A = ℕ} 3 2 = cc in absurd (omega arith)
    there (by_form j s a f l) e = let q : ◌≡◌ {A = ℕ} 4 2 = cc in absurd (omega arith)
    there (by_tags ts F) e = let r = verdict_number ts 2 i e in absurd (omega arith)

    back : {x : Judged} → Way w x → BadSize w → i ≡ 0 → x ≡ refused 2 i
    back (by_size b) c z = rw z
    back (by_byte j s l) c z = not_both w c s
    back (by_form j s a f l) c z = not_both w c s
    back (by_tags ts F) c z = not_both w c F.sized

-- "a byte not allowed", at the "first such byte"
pub three : (w : List ℕ) (i : ℕ) → (judge w ≡ refused 3 i) ↔ (Sized w × Lowest (NotAllowed w) i)
three w i = (there (way w), λ (s, l). back (way w) s l)
  where
    there : {x : Judged} → Way w x → x ≡ refused 3 i → Sized w × Lowest (NotAllowed w) i
    there (by_size b) e = let q : ◌≡◌ {A = ℕ} 2 3 = cc in absurd (omega arith)
    there (by_byte j s l) e = let q : j ≡ i = cc in (s, subst (Lowest (NotAllowed w)) q l)
    there (by_form j s a f l) e = let q : ◌≡◌ {A = ℕ} 4 3 = cc in absurd (omega arith)
    there (by_tags ts F) e = let r = verdict_number ts 3 i e in absurd (omega arith)

    back : {x : Judged} → Way w x → Sized w → Lowest (NotAllowed w) i → x ≡ refused 3 i
    back (by_size b) s l = not_both w b s
    back (by_byte j t m) s l = ap (refused 3) (lowest_once (NotAllowed w) j i m l)
    back (by_form j t a f m) s l = absurd (all_allowed w a i l.0)
    back (by_tags ts F) s l = absurd (all_allowed w F.allowed i l.0)

-- "malformed", at the "length of the longest beginning that some well-formed page of any length shares"
pub four : (w : List ℕ) (i : ℕ) → (judge w ≡ refused 4 i) ↔ (Sized w × Allowed w × (IsPage w → ⊥) × LongestShared w i)
four w i = (there (way w), λ (s, a, f, l). back (way w) s a f l)
  where
    there : {x : Judged} → Way w x → x ≡ refused 4 i → Sized w × Allowed w × (IsPage w → ⊥) × LongestShared w i
    there (by_size b) e = let q : ◌≡◌ {A = ℕ} 2 4 = cc in absurd (omega arith)
    there (by_byte j s l) e = let q : ◌≡◌ {A = ℕ} 3 4 = cc in absurd (omega arith)
    there (by_form j s a f l) e = let q : j ≡ i = cc in (s, a, f, subst (LongestShared w) q l)
    there (by_tags ts F) e = let r = verdict_number ts 4 i e in absurd (omega arith)

    back : {x : Judged} → Way w x → Sized w → Allowed w → (IsPage w → ⊥) → LongestShared w i → x ≡ refused 4 i
    back (by_size b) s a f l = not_both w b s
    back (by_byte j t m) s a f l = absurd (all_allowed w a j m.0)
    back (by_form j t b g m) s a f l = ap (refused 4) (longest_once w j i m l)
    back (by_tags ts F) s a f l = absurd (f (F.tags, F.page))

-- "element unknown, misplaced or too many; attribute unknown or twice", at "its `<`"
pub five : (w : List ℕ) (i : ℕ) → (judge w ≡ refused 5 i) ↔ ((ts : List Tag) × Formed w ts × Lowest (Five ts) i)
five w i =
    let J = judged_cause w 5 i (omega arith) in (
      λ e. let (ts, F, l, b) = J.0 e in (ts, F, lowest_alike (Cause ts 5) (Five ts) (cause5 ts) i l),
      λ (ts, F, l). J.1 (ts, F, lowest_alike (Five ts) (Cause ts 5) (λ j. ((cause5 ts j).1, (cause5 ts j).0)) i l, below5 ts),
    )

-- "v other than 027 or absent", at "`<` of MP"
pub six : (w : List ℕ) (i : ℕ) → (judge w ≡ refused 6 i) ↔ ((ts : List Tag) × Formed w ts × None (Five ts) × Lowest (Six ts) i)
six w i =
    let J = judged_cause w 6 i (omega arith) in (
      λ e. let (ts, F, l, b) = J.0 e in (ts, F, λ j c. b 5 (omega arith) j (of_five c), lowest_alike (Cause ts 6) (Six ts) (cause6 ts) i l),
      λ (ts, F, a, l). J.1 (ts, F, lowest_alike (Six ts) (Cause ts 6) (λ j. ((cause6 ts j).1, (cause6 ts j).0)) i l, below6 ts a),
    )

-- "value breaks its field, or a above z", at "`<` of the element"
pub seven : (w : List ℕ) (i : ℕ) → (judge w ≡ refused 7 i) ↔ ((ts : List Tag) × Formed w ts × None (Five ts) × None (Six ts) × Lowest (Seven ts) i)
seven w i =
    let J = judged_cause w 7 i (omega arith) in (
      λ e. let (ts, F, l, b) = J.0 e in (ts, F, λ j c. b 5 (omega arith) j (of_five c), λ j c. b 6 (omega arith) j (of_six c), lowest_alike (Cause ts 7) (Seven ts) (cause7 ts) i l),
      λ (ts, F, a, c, l). J.1 (ts, F, lowest_alike (Seven ts) (Cause ts 7) (λ j. ((cause7 ts j).1, (cause7 ts j).0)) i l, below7 ts a c),
    )

-- "excluded pair, missing field or element, a without z, z without a", at "`<` of the element, of MP for a missing P or A"
pub eight : (w : List ℕ) (i : ℕ) → (judge w ≡ refused 8 i) ↔ ((ts : List Tag) × Formed w ts × None (Five ts) × None (Six ts) × None (Seven ts) × Lowest (Eight ts) i)
eight w i =
    let J = judged_cause w 8 i (omega arith) in (
      λ e. let (ts, F, l, b) = J.0 e in
          (ts, F, λ j c. b 5 (omega arith) j (of_five c), λ j c. b 6 (omega arith) j (of_six c), λ j c. b 7 (omega arith) j (of_seven c), lowest_alike (Cause ts 8) (Eight ts) (cause8 ts) i l),
      λ (ts, F, a, c, d, l). J.1 (ts, F, lowest_alike (Eight ts) (Cause ts 8) (λ j. ((cause8 ts j).1, (cause8 ts j).0)) i l, below8 ts a c d),
    )

-- a page is fine exactly when none of these is the case; then it says what its tags say
pub fine : (w : List ℕ) (s : Sheet)
    → (judge w ≡ sheet s) ↔ ((ts : List Tag) × Formed w ts × None (Five ts) × None (Six ts) × None (Seven ts) × None (Eight ts) × (sheet_of (items [] ts) ≡ s))
fine w s = (λ e. there e, λ (ts, F, a, b, c, d, t). J.1 (ts, F, (verdict_sheet (faults [] ts) (items [] ts) s).1 (clean ts (faults [] ts) (has_cause ts) (one_more ts 8 (below8 ts a b c) (λ j x. d j ((cause8 ts j).0 x))), t)))
  where
    J : (judge w ≡ sheet s) ↔ ((ts : List Tag) × Formed w ts × (verdict (faults [] ts) (items [] ts) ≡ sheet s))
    J = judged_tags w (sheet s) tt

    -- where there are no faults there is no cause
    off : (ts : List Tag) → faults [] ts ≡ [] → {n i : ℕ} → Cause ts n i → ⊥
    off ts q {n} {i} c = let h = among_some (subst (Among (fault_at n i)) q (cause_has c)) in omega arith

    there : judge w ≡ sheet s → (ts : List Tag) × Formed w ts × None (Five ts) × None (Six ts) × None (Seven ts) × None (Eight ts) × (sheet_of (items [] ts) ≡ s)
    there e =
        let (ts, F, v) = J.0 e in
        let (q, t) = (verdict_sheet (faults [] ts) (items [] ts) s).0 v in
        (ts, F, λ j c. off ts q (of_five c), λ j c. off ts q (of_six c), λ j c. off ts q (of_seven c), λ j c. off ts q (of_eight c), t)

-- ---- 2 to 12, of 1 to 9 pages

-- "each page in order handed in for 2 to 8": the refusal is that of the first page that has one
pub page_first : (ws : List (List ℕ)) (n k i : ℕ) → 2 ≤ n → n ≤ 8
    → (read ws ≡ refusal n k i) ↔ ((1 ≤ length ws) × (length ws ≤ 9) × Lowest (Refused ws) k × (w : List ℕ) × Nth ws k w × (judge w ≡ refused n i))
page_first ws n k i g h = (λ e. there e (read_by ws), λ (a, b, l, w, q, f). back l w q f (read_by ws) a b)
  where
    Early : Type 0
    Early = (1 ≤ length ws) × (length ws ≤ 9) × Lowest (Refused ws) k × (w : List ℕ) × Nth ws k w × (judge w ≡ refused n i)

    -- places from 0, numbers from 1
    shifted : (j : ℕ) → ((h : ℕ) → h < j → RefusedAt ws h → ⊥) → (h : ℕ) → h < suc j → Refused ws h → ⊥
    shifted j b zero c (w, n, i, q, f) = nth_zero ws w q
    shifted j b (suc h) c r = b h (omega arith) r

    by : 1 ≤ length ws → length ws ≤ 9 → {y : Judgement} → Judging ws 1 y → decide y ≡ refusal n k i → Early
    by a b (all-fine l d) e =
        let (s, t, q) = some_sheet ws l a d in
        let r : Ranged 9 (refusal n k i) = subst (Ranged 9) (ap join (sym q) ∙ e) (ranged_join s t) in
        absurd (omega arith)
    by a b (stop j m c x w p q f l) e =
        let u : c ≡ k = cc in
        let v : suc j ≡ k = omega arith in
        let t : judge w ≡ refused n i = f ∙ (cc) in
        (a, b, subst (Lowest (Refused ws)) v ((w, m, x, q, f), shifted j l), w, rw (sym v) q, t)

    there : read ws ≡ refusal n k i → Read ws → Early
    there e (judged a b q) = by a b (judging ws 1) (sym q ∙ e)
    there e (other-count m q) = let z : ◌≡◌ {A = ℕ} 1 n = cc in absurd (omega arith)

    same : {y : Judgement} → Judging ws 1 y → Lowest (Refused ws) k → (w : List ℕ) → Nth ws k w → judge w ≡ refused n i → decide y ≡ refusal n k i
    same (all-fine l d) o w q f = absurd (each_fine ws l d k w n i q f)
    same (stop j m c x v p u t l) o w q f =
        let z : suc j ≡ k = lowest_once (Refused ws) (suc j) k ((v, m, x, u, t), shifted j l) o in
        let y : v ≡ w = nth_once ws k v w (rw z at u) q in
        let b : c ≡ k = omega arith in
        cc

    back : Lowest (Refused ws) k → (w : List ℕ) → Nth ws k w → judge w ≡ refused n i → Read ws → 1 ≤ length ws → length ws ≤ 9 → read ws ≡ refusal n k i
    back l w q f (judged a b e) c d = e ∙ same (judging ws 1) l w q f
    back l w q f (other-count m e) c d = no-count (length ws) c d m

-- "head or z differs from the first page handed in", at the "first such page, 0"
pub nine : (ws : List (List ℕ)) (k i : ℕ) → (read ws ≡ refusal 9 k i) ↔ ((s : Sheet) × (l : List Sheet) × Handed ws s l × Lowest (Other s l) k × (i ≡ 0))
nine ws k i =
    let R = read_late ws (refusal 9 k i) (omega arith, omega arith) in
    (λ e. let (s, l, H, j) = R.0 e in let (o, z) = (first9 s l k i).0 j in (s, l, H, o, z), λ (s, l, H, o, z). R.1 (s, l, H, (first9 s l k i).1 (o, z)))

-- "a page number already seen", at the "first such page, 0"
pub ten : (ws : List (List ℕ)) (k i : ℕ) → (read ws ≡ refusal 10 k i) ↔ ((s : Sheet) × (l : List Sheet) × Handed ws s l × None (Other s l) × Lowest (Again (s ∷ l)) k × (i ≡ 0))
ten ws k i =
    let R = read_late ws (refusal 10 k i) (omega arith, omega arith) in (
      λ e. let (s, l, H, j) = R.0 e in let (n, f) = (behind9 s l (refusal 10 k i) (omega arith)).0 j in let (o, z) = (first10 s l k i).0 f in (s, l, H, n, o, z),
      λ (s, l, H, n, o, z). R.1 (s, l, H, (behind9 s l (refusal 10 k i) (omega arith)).1 (n, (first10 s l k i).1 (o, z))),
    )

-- "numbers 1..z not all there", at the "lowest missing number, 0"
pub eleven : (ws : List (List ℕ)) (k i : ℕ)
    → (read ws ≡ refusal 11 k i) ↔ ((s : Sheet) × (l : List Sheet) × Handed ws s l × None (Other s l) × None (Again (s ∷ l)) × Lowest (Missing s l) k × (i ≡ 0))
eleven ws k i = (λ e. there (R.0 e), λ (s, l, H, n, m, o, z). R.1 (s, l, H, (behind9 s l x (omega arith)).1 (n, (behind10 s l x (omega arith)).1 (m, (first11 s l k i).1 (o, z)))))
  where
    x : Answer
    x = refusal 11 k i

    R : (read ws ≡ x) ↔ ((s : Sheet) × (l : List Sheet) × Handed ws s l × (join (s ∷ l) ≡ x))
    R = read_late ws x (omega arith, omega arith)

    there : (s : Sheet) × (l : List Sheet) × Handed ws s l × (join (s ∷ l) ≡ x) → (s : Sheet) × (l : List Sheet) × Handed ws s l × None (Other s l) × None (Again (s ∷ l)) × Lowest (Missing s l) k × (i ≡ 0)
    there (s, l, H, j) =
        let (n, f) = (behind9 s l x (omega arith)).0 j in
        let (m, g) = (behind10 s l x (omega arith)).0 f in
        let (o, z) = (first11 s l k i).0 g in
        (s, l, H, n, m, o, z)

-- "more than 256 rows", at "0, 0"
pub twelve : (ws : List (List ℕ)) (k i : ℕ)
    → (read ws ≡ refusal 12 k i)
    ↔ ((s : Sheet) × (l : List Sheet) × Handed ws s l × None (Other s l) × None (Again (s ∷ l)) × None (Missing s l) × (256 < row_count (s ∷ l)) × (k ≡ 0) × (i ≡ 0))
twelve ws k i =
    let R = read_late ws (refusal 12 k i) (omega arith, omega arith) in (
      λ e. let (s, l, H, j) = R.0 e in let (n, m, o, f) = (behind_all s l (refusal 12 k i) (omega arith) (omega arith) (omega arith)).0 j in let (h, y, z) = (over (plan_of s l) k i).0 f in
          (s, l, H, n, m, o, rw (all_rows s l ws H.each n m) at h, y, z),
      λ (s, l, H, n, m, o, h, y, z). R.1 (s, l, H, (behind_all s l (refusal 12 k i) (omega arith) (omega arith) (omega arith)).1 (n, m, o, (over (plan_of s l) k i).1 (rw (all_rows s l ws H.each n m) h, y, z))),
    )

-- a plan is answered exactly when none of these is the case: the head of the first page, and the rows of all
pub no_refusal : (ws : List (List ℕ)) (p : Plan)
    → (read ws ≡ plan p)
    ↔ ((s : Sheet) × (l : List Sheet) × Handed ws s l × None (Other s l) × None (Again (s ∷ l)) × None (Missing s l) × (row_count (s ∷ l) ≤ 256) × (plan_of s l ≡ p))
no_refusal ws p =
    let R = read_late ws (plan p) tt in (
      λ e. let (s, l, H, j) = R.0 e in let (n, m, o, f) = (behind_all s l (plan p) (omega arith) (omega arith) (omega arith)).0 j in let (h, z) = (under (plan_of s l) p).0 f in
          (s, l, H, n, m, o, rw (all_rows s l ws H.each n m) at h, z),
      λ (s, l, H, n, m, o, h, z). R.1 (s, l, H, (behind_all s l (plan p) (omega arith) (omega arith) (omega arith)).1 (n, m, o, (under (plan_of s l) p).1 (rw (all_rows s l ws H.each n m) h, z))),
    )

-- ---- 2 to 10, of a page for the collector, "called page 1 in its refusals"

-- "1 to 8": as the page itself is refused
pub two_to_eight_adding : (c : Collector) (w : List ℕ) (n i : ℕ) → n ≤ 8 → ((add c w).answer ≡ refused_with n i) ↔ (judge w ≡ refused n i)
two_to_eight_adding = refused_added

-- "then 9 against its first page"
pub nine_adding : (c : Collector) (w : List ℕ) (i : ℕ) → ((add c w).answer ≡ refused_with 9 i) ↔ ((s : Sheet) × (judge w ≡ sheet s) × Stranger s c × (i ≡ 0))
nine_adding = nine_added

-- "A page number it has is answered 'already here' if the bytes are equal, else 10."
pub ten_adding : {c : Collector} → Reached c → (w : List ℕ) (i : ℕ)
    → ((add c w).answer ≡ refused_with 10 i) ↔ ((s : Sheet) × (judge w ≡ sheet s) × (Stranger s c → ⊥) × Second w s c × (i ≡ 0))
ten_adding = ten_added

-- ---- 13 and 14, of the writer

-- "plan for the writer breaks a rule above …", at the "first bad row counted from 1, 0 for the head, head first"
pub thirteen : (p : Plan) (r : ℕ) → (fresh p ≡ unsound r) ↔ ((length p.rows ≤ 256) × Lowest (Bad p) r)
thirteen = Writer.thirteen

-- "no cut into at most nine pages exists", at the "first row r such that rows 1..r have no cut, 0 if the head alone is too long"
pub fourteen : (p : Plan) (r : ℕ) → (fresh p ≡ too_long r) ↔ ((length p.rows ≤ 256) × None (Bad p) × FirstUncut p.head p.rows r)
fourteen p r =
    let F = Writer.fourteen_exactly p r in
    (λ e. let (n, s, u) = F.0 e in (n, Writer.sound_none p s, u), λ (n, b, u). F.1 (n, Writer.none_sound p b, u))

-- ---- 20, at page 0 and place 0: "index doesn't match, tested after 1"

pub twenty : (count rows pairs lent : ℕ) (rs : List Row) (l : List Pair) (n : ℕ)
    → (asked (askable count rows pairs lent) rs l n ≡ Index.stale) ↔ ((askable count rows pairs lent ≡ true) × (l ≢ index_of rs))
twenty count rows pairs lent rs l n = at (askable count rows pairs lent)
  where
    at : (fit : Bool) → (asked fit rs l n ≡ Index.stale) ↔ ((fit ≡ true) × (l ≢ index_of rs))
    at true = (λ e. (refl, (stale_exactly rs l n).0 e), λ (f, d). (stale_exactly rs l n).1 d)
    at false = (λ e. unequal (cc (e, (refused_exactly false rs l n).1 refl)), λ (f, d). no (sym f))
