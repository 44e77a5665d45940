-- Demands: what the customer asks of the index, as theorems about what the functions give: of any results that meet their promises.
-- Assumes nothing.
use Rattle.std.specs.Prelude.{Result, Ok, Err}
use mathlib.Core.Path.{◌≡◌, refl, sym, ap, ◌∙◌, subst}
use mathlib.Core.Bool.{Bool, true, false}
use mathlib.Core.List.{List, [], ◌∷◌, map}
use Prim.Native.Nat.{ℕ, zero, suc, ◌+◌, ◌*◌, ◌≤◌}
use native.Mathlib.Omega.{arith}
use lib.Dec.{leb}
use lib.ListN.{length, take, drop, length-append}
use borrow.Author.Tests.{leb-true, le-leb}
use Rattle.paper.specs.Lists.{if}
use Rattle.paper.specs.Plan as Said
use Rattle.paper.specs.Reading as Paper
use Rattle.paper.specs.Index.{Pair, number_of, sorted, index_of, holders, reply_of, asked, pair_room}
use Rattle.paper.proofs.Small.{both, unequal}
use Rattle.paper.proofs.Indexed.{pairs_same}
use Rattle.room.specs.Laid.{laid}
use Rattle.plan.specs.Numbers.{rows_lent, show_row, show_rows, plan_rows}
use Rattle.plan.proofs.Shown.{rows_size}
use Rattle.reader.specs.Promise as Reader
use Rattle.collector.specs.declared.store.Collector.{Collector}
use Rattle.collector.specs.Keeping.{collected}
use Rattle.index.specs.Pairs.{pairs_lent, pairs_in, flat, rows_in}
use Rattle.index.specs.Answers.{fits_build, built_of, index_after, replied}
use Rattle.index.specs.Promise.{Promised, with_room, pairs_told, index_after as after, answered, collected_with}
use Rattle.index.specs.declared.answer.Refusal as Asked
use Rattle.index.specs.declared.answer.Refusal.TheVariants.{NoRoom}
use Rattle.index.specs.declared.reading.Indexed.{Indexed}
use Rattle.reader.specs.declared.answer.Refusal.{Refusal}
use Rattle.index.proofs.PairLaws.{flat_long, flat_shows}
use Rattle.index.proofs.ReadLaws.{same_pairs_from, same_holders_from, index_laid, holders_laid, Few, few_call, few_collected}

-- ---- which rows are meant

-- the numbers of the rows that records show are the same in whatever text
same_numbers : (t : List ℕ) (n : ℕ) (rows : List ℕ) → map number_of (show_rows t n rows) ≡ map number_of (rows_in n rows)
unfolding rows_in show_row
same_numbers t zero rows = refl
same_numbers t (suc n) rows = ap (λ (l : List ℕ). number_of (show_row [] (take 48 rows)) ∷ l) (same_numbers t n (drop 48 rows))

-- the index is that of the rows which the records show, in whatever text
pub any_text : (t : List ℕ) (n : ℕ) (rows : List ℕ) → index_of (show_rows t n rows) ≡ index_of (rows_in n rows)
unfolding index_of
any_text t n rows = ap sorted (same_pairs_from 1 (show_rows t n rows) (rows_in n rows) (same_numbers t n rows))

-- and those that hold a number are the same
pub any_text_holders : (t : List ℕ) (m n : ℕ) (rows : List ℕ) → holders m (show_rows t n rows) ≡ holders m (rows_in n rows)
unfolding holders
any_text_holders t m n rows = same_holders_from 1 m (show_rows t n rows) (rows_in n rows) (same_numbers t n rows)

-- ---- asked with the index of its rows

-- so many numbers are so many rows and no more than they are
lent_rows : (count : ℕ) (rows : List ℕ) → count * 48 ≤ length rows → count ≤ rows_lent (length rows)
lent_rows count rows h = omega arith

-- an index laid out in a room that is large enough is lent whole, and shown
laid_shown : (l : List Pair) (index : List ℕ) → (pairs_in (length l) (laid index 0 (flat l)) ≡ l) × (length l ≤ pairs_lent (length (laid index 0 (flat l))))
laid_shown l index =
    let rest : List ℕ = drop (0 + length (flat l)) index in
    let long : length (laid index 0 (flat l)) ≡ length (flat l) + length rest = length-append (flat l) rest in
    (flat_shows l rest, omega (arith, long, flat_long l))

-- asked with the index of its rows, a question is answered with the rows that hold the number
pub right_index : (rows : List ℕ) (count : ℕ) (index : List ℕ) (len n : ℕ) → count ≤ 256 → count ≤ rows_lent (length rows) → len ≤ pairs_lent (length index)
    → pairs_in len index ≡ index_of (rows_in count rows) → replied rows count index len n ≡ reply_of (holders n (rows_in count rows))
unfolding replied asked
right_index rows count index len n h k m e =
    rw (le-leb count 256 h, le-leb count (rows_lent (length rows)) k, le-leb len (pairs_lent (length index)) m, e, pairs_same (index_of (rows_in count rows))) refl

-- ---- built, then asked

-- what `build` laid out can be asked as it is
pub built_asked : (rows : List ℕ) (count : ℕ) (index index' : List ℕ) (pairs n : ℕ) → Ok pairs ≡ built_of rows count index → index' ≡ index_after rows count index
    → replied rows count index' pairs n ≡ reply_of (holders n (rows_in count rows))
unfolding built_of index_after
built_asked rows count index index' pairs n e f = at (fits_build rows count index) refl e f
  where
    l : List Pair
    l = index_of (rows_in count rows)

    at : (b : Bool) → fits_build rows count index ≡ b → ◌≡◌ {A = Result ℕ Asked.Refusal} (Ok pairs) (if b (Ok (length l)) (Err NoRoom)) → index' ≡ if b (laid index 0 (flat l)) index
        → replied rows count index' pairs n ≡ reply_of (holders n (rows_in count rows))
    at true q e f =
        let (h, r) = both (leb count 256) _ q in
        let (k, s) = both (leb count (rows_lent (length rows))) _ r in
        let many : pairs ≡ length l = cc in
        let (shown, lent) = laid_shown l index in
        rw (f, many) (right_index rows count (laid index 0 (flat l)) (length l) n (leb-true count 256 h) (leb-true count (rows_lent (length rows)) k) lent shown)
    at false q e f = unequal (cc)

-- ---- read, then asked

-- what was laid out for a plan can be asked as it is: the rows of the plan that hold the number
laid_asked : (p : Said.Plan) (rows index : List ℕ) (n : ℕ) → length p.rows ≤ 256
    → replied (laid rows 0 (plan_rows p)) (length p.rows) (laid index 0 (flat (index_of p.rows))) (length (index_of p.rows)) n ≡ reply_of (holders n p.rows)
laid_asked p rows index n h =
    let rows' : List ℕ = laid rows 0 (plan_rows p) in
    let long : length rows' ≡ length (plan_rows p) + length (drop (0 + length (plan_rows p)) rows) = length-append (plan_rows p) _ in
    let size : length (plan_rows p) ≡ length p.rows * 48 = rows_size _ p.rows in
    let (shown, lent) = laid_shown (index_of p.rows) index in
    right_index rows' (length p.rows) (laid index 0 (flat (index_of p.rows))) (length (index_of p.rows)) n h (lent_rows (length p.rows) rows' (omega (arith, long, size))) lent
    (shown ∙ sym (index_laid p rows)) ∙ ap reply_of (holders_laid n p rows)

-- the answer with room for an index is a plan only where it is one without
with_room_lem : (index : List ℕ) (a : Paper.Answer) (p : Said.Plan) → with_room index a ≡ Paper.plan p → a ≡ Paper.plan p
with_room_lem index a p = at (leb pair_room (pairs_lent (length index)))
  where
    at : (b : Bool) → if b a (Paper.refusal 1 0 0) ≡ Paper.plan p → a ≡ Paper.plan p
    at true e = e
    at false e = unequal (cc)

-- whatever was read, by a call or from a collector: a plan was given, and can be asked as it is
abbrev Asks : List ℕ → List ℕ → ℕ → Said.Plan → Result Indexed Refusal → Type 0
Asks rows' index' n p r = (x : Indexed) × (r ≡ Ok x) × (replied rows' x.plan.rows index' x.pairs n ≡ reply_of (holders n p.rows))

given_asked : (a : Paper.Answer) (p : Said.Plan) (rows text index : List ℕ) (r : Result Indexed Refusal) (rows' text' index' : List ℕ) (n : ℕ) → Few a rows → with_room index a ≡ Paper.plan p
    → Promised (with_room index a) rows text index r rows' text' index' → Asks rows' index' n p r
given_asked a p rows text index (Err x) rows' text' index' n few e P = let f = sym P.refused_is.answer_is ∙ e in unequal (cc)
given_asked a p rows text index (Ok x) rows' text' index' n few e P =
    let R = P.reading_is in
    let same : R.plan ≡ p = cc (R.answer_is) in
    let (small, lent) = subst (λ (b : Paper.Answer). Few b rows) (with_room_lem index a p e) few in
    let pairs : x.pairs ≡ length (index_of p.rows) = P.pairs_are ∙ ap pairs_told e in
    let room : index' ≡ laid index 0 (flat (index_of p.rows)) = P.index_is ∙ ap (λ (b : Paper.Answer). after b index) e in
    let numbers : x.plan.rows ≡ length p.rows = rw (R.plan_is, same) in
    let records : rows' ≡ laid rows 0 (plan_rows p) = R.rows_are ∙ ap (λ (s : Said.Plan). laid rows 0 (plan_rows s)) same in
    (x, refl, rw (numbers, records, pairs, room) (laid_asked p rows index n small))

-- what `read` gave for a plan can be asked as it is: no question about it is refused, and each is answered with the rows of the plan that hold the number
pub read_asked : (rows text index b ss ns : List ℕ) (p : Said.Plan) (r : Result Indexed Refusal) (rows' text' index' : List ℕ) (n : ℕ) → answered rows text index b ss ns ≡ Paper.plan p
    → Promised (answered rows text index b ss ns) rows text index r rows' text' index' → (x : Indexed) × (r ≡ Ok x) × (replied rows' x.plan.rows index' x.pairs n ≡ reply_of (holders n p.rows))
read_asked rows text index b ss ns p r rows' text' index' n = given_asked (Reader.answered rows text b ss ns) p rows text index r rows' text' index' n (few_call rows text b ss ns)

-- and so what `read_collected` gave
pub collected_asked : (rows text index : List ℕ) (c : Collector) (p : Said.Plan) (r : Result Indexed Refusal) (rows' text' index' : List ℕ) (n : ℕ) → collected_with rows text index c ≡ Paper.plan p
    → Promised (collected_with rows text index c) rows text index r rows' text' index' → (x : Indexed) × (r ≡ Ok x) × (replied rows' x.plan.rows index' x.pairs n ≡ reply_of (holders n p.rows))
collected_asked rows text index c p r rows' text' index' n = given_asked (collected rows text c) p rows text index r rows' text' index' n (few_collected rows text c)
