-- ReadLaws: the rows that reading lays out have the index of the plan's rows, and a refusal, whose plan has no rows, has none.
-- Assumes nothing.
use mathlib.Core.Path.{◌≡◌, refl, sym, ap, ◌∙◌, subst}
use mathlib.Core.Bool.{Bool, true, false, not, ◌&&◌}
use mathlib.Core.List.{List, [], ◌∷◌, ◌++◌, map, append_assoc}
use Prim.Native.Nat.{ℕ, zero, suc, ◌+◌, ◌*◌, ◌≤◌}
use native.Mathlib.Omega.{arith}
use lib.Dec.{eqb, leb}
use lib.ListN.{length, take, drop, get_or, length-append}
use lib.Seq.{take_at, drop_at}
use borrow.Author.Tests.{leb-true}
use Rattle.paper.specs.Lists.{if, concat}
use Rattle.paper.specs.Fields.{Kind, M, is}
use Rattle.paper.specs.Plan as Said
use Rattle.paper.specs.Plan.{Row}
use Rattle.paper.specs.Reading as Paper
use Rattle.paper.specs.Reading.{read, refuse_at}
use Rattle.paper.specs.Layout.{row_values}
use Rattle.paper.specs.Calls.{read_at, read_call, roomy, inside, pages_at}
use Rattle.paper.specs.Index.{Pair, pair, number_of, holds, pairs_from, sorted, index_of, holders_from, holders, pair_room}
use Rattle.paper.proofs.Small.{both}
use Rattle.paper.proofs.ReadSound.{read_sound}
use Rattle.paper.proofs.ByKind.{alike}
use Rattle.room.specs.Laid.{laid}
use Rattle.plan.specs.Numbers.{kind_shown, kind_number, rows_lent, show_row, show_rows, record_with, row_numbers, rows_numbers, plan_rows}
use Rattle.plan.proofs.Spans.{record_size}
use Rattle.plan.proofs.Shown.{rows_size}
use Rattle.reader.specs.Promise as Reader
use Rattle.plan.specs.declared.Plan.{Plan}
use Rattle.reader.specs.declared.answer.Refusal.{Refusal}
use Rattle.reader.specs.declared.answer.Refusal.TheVariants.{NoRoom}
use Rattle.collector.specs.declared.store.Collector.{Collector}
use Rattle.collector.specs.Keeping.{collected, read_of, missing, pages_of}
use Rattle.reader.specs.Pages.{first_of}
use Rattle.index.specs.Pairs.{pairs_lent, flat, rows_in}
use Rattle.index.specs.Promise.{Refuses, Reads, with_room, pairs_told, index_after}
use Rattle.index.specs.declared.reading.Indexed.{Indexed}

-- ---- rows laid out

-- equal lists are empty together, and have equal first members and rests
no_cons : (n : ℕ) (l : List ℕ) → ◌≡◌ {A = List ℕ} (n ∷ l) [] → ⊥
no_cons n l e = let z : suc (length l) ≡ 0 = ap length e in omega arith

head_of : {n m : ℕ} {l k : List ℕ} → n ∷ l ≡ m ∷ k → n ≡ m
head_of {n} {m} {l} {k} e = ap (λ (x : List ℕ). get_or x 0 0) e

tail_of : {n m : ℕ} {l k : List ℕ} → n ∷ l ≡ m ∷ k → l ≡ k
tail_of {n} {m} {l} {k} e = ap (drop 1) e

-- a kind's number stands for a medication exactly where the kind is one
medication_shown : (k : Kind) → is (kind_shown (kind_number k)) M ≡ is k M
medication_shown k = alike (λ k. is (kind_shown (kind_number k)) M) (λ k. is k M) refl k

-- the record of a row shows the row's number
number_shown : (m : ℕ) (r : Row) → number_of (show_row [] (row_numbers m r)) ≡ number_of r
unfolding show_row record_with
number_shown m r = ap (λ (b : Bool). if b r.pzn 0) (medication_shown r.kind)

-- rows whose numbers are the same have the same pairs
pub same_pairs_from : (j : ℕ) (rs ss : List Row) → map number_of rs ≡ map number_of ss → pairs_from j rs ≡ pairs_from j ss
same_pairs_from j [] [] e = refl
same_pairs_from j [] (s ∷ ss) e = absurd (no_cons _ _ (sym e))
same_pairs_from j (r ∷ rs) [] e = absurd (no_cons _ _ e)
same_pairs_from j (r ∷ rs) (s ∷ ss) e =
    ap (λ (n : ℕ). if (eqb n 0) (pairs_from (suc j) rs) (pair n j ∷ pairs_from (suc j) rs)) (head_of e)
    ∙ ap (λ (l : List Pair). if (eqb (number_of s) 0) l (pair (number_of s) j ∷ l)) (same_pairs_from (suc j) rs ss (tail_of e))

-- and the same of them hold a number
pub same_holders_from : (j n : ℕ) (rs ss : List Row) → map number_of rs ≡ map number_of ss → holders_from j n rs ≡ holders_from j n ss
same_holders_from j n [] [] e = refl
same_holders_from j n [] (s ∷ ss) e = absurd (no_cons _ _ (sym e))
same_holders_from j n (r ∷ rs) [] e = absurd (no_cons _ _ e)
same_holders_from j n (r ∷ rs) (s ∷ ss) e =
    ap (λ (m : ℕ). if (not (eqb n 0) && eqb m n) (j ∷ holders_from (suc j) n rs) (holders_from (suc j) n rs)) (head_of e)
    ∙ ap (λ (l : List ℕ). if (holds n s) (j ∷ l) l) (same_holders_from (suc j) n rs ss (tail_of e))

-- records laid one behind the other show the numbers of their rows
numbers_laid : (m : ℕ) (rs : List Row) (rest : List ℕ) → map number_of (show_rows [] (length rs) (rows_numbers m rs ++ rest)) ≡ map number_of rs
numbers_laid m [] rest = refl
numbers_laid m (r ∷ rs) rest =
    let k = m + length (concat (row_values r)) in
    let one : List ℕ = row_numbers m r in
    let more : List ℕ = rows_numbers k rs ++ rest in
    let apart : (one ++ rows_numbers k rs) ++ rest ≡ one ++ more = append_assoc one (rows_numbers k rs) rest in
    let size : length one ≡ 48 = record_size _ _ _ in
    ap (λ (l : List ℕ). number_of (show_row [] (take 48 l)) ∷ map number_of (show_rows [] (length rs) (drop 48 l))) apart
    ∙ (ap (λ (l : List ℕ). number_of (show_row [] l) ∷ map number_of (show_rows [] (length rs) (drop 48 (one ++ more)))) (take_at one more 48 size)
    ∙ (ap (λ (n : ℕ). n ∷ map number_of (show_rows [] (length rs) (drop 48 (one ++ more)))) (number_shown m r)
    ∙ ap (λ (l : List ℕ). number_of r ∷ l) (ap (λ (l : List ℕ). map number_of (show_rows [] (length rs) l)) (drop_at one more 48 size) ∙ numbers_laid k rs rest)))

-- the rows that reading lays out show the numbers of the plan's rows
shown_laid : (p : Said.Plan) (rows : List ℕ) → map number_of (rows_in (length p.rows) (laid rows 0 (plan_rows p))) ≡ map number_of p.rows
unfolding rows_in
shown_laid p rows = numbers_laid _ p.rows (drop (0 + length (plan_rows p)) rows)

-- so they have the index of the plan's rows
pub index_laid : (p : Said.Plan) (rows : List ℕ) → index_of (rows_in (length p.rows) (laid rows 0 (plan_rows p))) ≡ index_of p.rows
unfolding index_of
index_laid p rows = ap sorted (same_pairs_from 1 (rows_in (length p.rows) (laid rows 0 (plan_rows p))) p.rows (shown_laid p rows))

-- and the same of them hold a number
pub holders_laid : (n : ℕ) (p : Said.Plan) (rows : List ℕ) → holders n (rows_in (length p.rows) (laid rows 0 (plan_rows p))) ≡ holders n p.rows
unfolding holders
holders_laid n p rows = same_holders_from 1 n (rows_in (length p.rows) (laid rows 0 (plan_rows p))) p.rows (shown_laid p rows)

-- ---- what reading leaves is what the index is built for

-- a plan has not more than 256 rows, and room for so many is lent
abbrev pub Few : Paper.Answer → List ℕ → Type 0
Few (Paper.refusal n k i) rows = Unit {0}
Few (Paper.plan p) rows = (length p.rows ≤ 256) × (12288 ≤ length rows)

few_if : (room : Bool) (a : Paper.Answer) (rows : List ℕ) → (room ≡ true → Few a rows) → Few (if room a (Paper.refusal 1 0 0)) rows
few_if true a rows h = h refl
few_if false a rows h = tt

few_read : (f : List (List ℕ)) (rows : List ℕ) → 12288 ≤ length rows → Few (read f) rows
few_read f rows h = at (read f) refl
  where
    at : (a : Paper.Answer) → read f ≡ a → Few a rows
    at (Paper.refusal n k i) e = tt
    at (Paper.plan p) e = ((read_sound f p e).1, h)

-- room for 256 rows
rows_lent_lem : (rows : List ℕ) (text : ℕ) → roomy (rows_lent (length rows)) text ≡ true → 12288 ≤ length rows
rows_lent_lem rows text e = let h = leb-true 256 (rows_lent (length rows)) (both (leb 256 (rows_lent (length rows))) (leb 12600 text) e).0 in omega arith

pub few_call : (rows text b ss ns : List ℕ) → Few (Reader.answered rows text b ss ns) rows
unfolding read_call read_at
few_call rows text b ss ns =
    let more = leb 1 (length ss) && (leb (length ss) 9 && inside b ss ns) in
    few_if (roomy (rows_lent (length rows)) (length text) && more) (read (pages_at b ss ns)) rows
    (λ e. few_read (pages_at b ss ns) rows (rows_lent_lem rows (length text) (both (roomy (rows_lent (length rows)) (length text)) more e).0))

pub few_collected : (rows text : List ℕ) (c : Collector) → Few (collected rows text c) rows
unfolding collected read_of
few_collected rows text c = few_if (roomy (rows_lent (length rows)) (length text)) (refuse_at 11 (first_of (missing c)) (read (pages_of c))) rows (λ e. at (first_of (missing c)) (rows_lent_lem rows (length text) e))
  where
    at : (n : ℕ) → 12288 ≤ length rows → Few (refuse_at 11 n (read (pages_of c))) rows
    at zero h = few_read (pages_of c) rows h
    at (suc n) h = tt

-- so what is asked of the rows of a plan is so
rows_asked : (a : Paper.Answer) (rows text : List ℕ) (q : Plan) (rows' text' : List ℕ) → Few a rows → Reader.Reads a q rows text rows' text' → (q.rows ≤ 256) × (q.rows * 48 ≤ length rows')
rows_asked a rows text q rows' text' f e =
    let p = e.plan in
    let few = subst (λ (b : Paper.Answer). Few b rows) e.answer_is f in
    let long : length (laid rows 0 (plan_rows p)) ≡ length (plan_rows p) + length (drop (0 + length (plan_rows p)) rows) = length-append (plan_rows p) _ in
    let size : length (plan_rows p) ≡ length p.rows * 48 = rows_size _ p.rows in
    rw (e.plan_is, e.rows_are) (few.0, omega (arith, long, size))

-- ---- what is promised

-- the room for the index is enough
enough : (index : List ℕ) (a : Paper.Answer) → true ≡ leb pair_room (pairs_lent (length index)) → (with_room index a ≡ a) × (512 ≤ length index)
enough index a e = let h = leb-true 256 (pairs_lent (length index)) (sym e) in (ap (λ (b : Bool). if b a (Paper.refusal 1 0 0)) (sym e), omega arith)

-- it is too small
pub too_small : (rows text index : List ℕ) (a : Paper.Answer) → false ≡ leb pair_room (pairs_lent (length index)) → Refuses (with_room index a) NoRoom rows text index rows text index
too_small rows text index a e = rw (sym e) (record {
  refused_is = record { answer_is = refl; rows_are = refl; text_is = refl };
  index_is = refl;
})

-- reading refuses
pub refuses : (a : Paper.Answer) (x : Refusal) (rows text index rows' text' : List ℕ) → true ≡ leb pair_room (pairs_lent (length index)) → Reader.Refuses a x rows text rows' text'
    → Refuses (with_room index a) x rows text index rows' text' index
refuses a x rows text index rows' text' h e = record {
  refused_is = record { answer_is = (enough index a h).0 ∙ e.answer_is; rows_are = e.rows_are; text_is = e.text_is };
  index_is = refl;
}

-- the index of what was read
pub indexed : (a : Paper.Answer) (rows text index : List ℕ) (q : Plan) (rows' text' : List ℕ) (x : Indexed) (index' : List ℕ) → true ≡ leb pair_room (pairs_lent (length index))
    → Reader.Reads a q rows text rows' text' → x.plan ≡ q → x.pairs ≡ length (index_of (rows_in q.rows rows')) → index' ≡ laid index 0 (flat (index_of (rows_in q.rows rows')))
    → Reads (with_room index a) x rows text index rows' text' index'
indexed a rows text index q rows' text' x index' h e same many is =
    let p = e.plan in
    let told : with_room index a ≡ Paper.plan p = (enough index a h).0 ∙ e.answer_is in
    let of_plan : index_of (rows_in q.rows rows') ≡ index_of p.rows = rw (e.plan_is, e.rows_are) (index_laid p rows) in
    record {
      reading_is = record { plan = p; answer_is = told; plan_is = same ∙ e.plan_is; rows_are = e.rows_are; text_is = e.text_is };
      pairs_are = many ∙ ap length of_plan ∙ sym (ap pairs_told told);
      index_is = is ∙ ap (λ (l : List Pair). laid index 0 (flat l)) of_plan ∙ sym (ap (λ (b : Paper.Answer). index_after b index) told);
    }

-- what is asked of reading's rows and of the room, for pages handed in
pub call_asked : (rows text index b ss ns : List ℕ) (q : Plan) (rows' text' : List ℕ) → true ≡ leb pair_room (pairs_lent (length index))
    → Reader.Reads (Reader.answered rows text b ss ns) q rows text rows' text' → (q.rows ≤ 256) × (q.rows * 48 ≤ length rows') × (512 ≤ length index)
call_asked rows text index b ss ns q rows' text' h e =
    let (few, lent) = rows_asked (Reader.answered rows text b ss ns) rows text q rows' text' (few_call rows text b ss ns) e in
    (few, lent, (enough index (Paper.refusal 1 0 0) h).1)

-- and for a collector's
pub collected_asked : (rows text index : List ℕ) (c : Collector) (q : Plan) (rows' text' : List ℕ) → true ≡ leb pair_room (pairs_lent (length index))
    → Reader.Reads (collected rows text c) q rows text rows' text' → (q.rows ≤ 256) × (q.rows * 48 ≤ length rows') × (512 ≤ length index)
collected_asked rows text index c q rows' text' h e =
    let (few, lent) = rows_asked (collected rows text c) rows text q rows' text' (few_collected rows text c) e in
    (few, lent, (enough index (Paper.refusal 1 0 0) h).1)
