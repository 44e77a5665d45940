-- FindLaws: what the index of the rows that were read answers about a package number is what the documents say of the call.
-- Assumes nothing.
use mathlib.Core.Path.{◌≡◌, refl, ap, sym, ◌∙◌, subst}
use mathlib.Core.Bool.{Bool, true}
use mathlib.Core.List.{List, [], ◌∷◌}
use Prim.Native.Nat.{ℕ, ◌≤◌, ◌<◌}
use lib.Dec.{leb}
use lib.ListN.{length, replicate, length-replicate}
use borrow.Author.Tests.{le-leb, lt-leb}
use Rattle.std.specs.Prelude.{Option, Result, Ok, Err}
use Rattle.paper.specs.Lists.{if}
use Rattle.paper.specs.Plan as Said
use Rattle.paper.specs.Reading as Paper
use Rattle.paper.specs.Calls.{row_room, read_at, find_call}
use Rattle.paper.specs.Index as Asked
use Rattle.paper.specs.Index.{pair_room, holders, reply_of}
use Rattle.room.specs.Laid.{laid}
use Rattle.reader.specs.Answers as Reader
use Rattle.reader.specs.Answers.{told}
use Rattle.reader.specs.Promise as Reads
use Rattle.reader.specs.declared.answer.Refusal.{Refusal}
use Rattle.index.specs.Pairs.{pairs_lent}
use Rattle.index.specs.Answers as Index
use Rattle.index.specs.Answers.{replied, replied_into, reply_told}
use Rattle.index.specs.Promise as Indexing
use Rattle.index.specs.declared.answer.Held.{Held}
use Rattle.index.specs.declared.answer.Refusal as Asking
use Rattle.index.specs.declared.reading.Indexed.{Indexed}
use Rattle.index.proofs.Demands.{read_asked}
use Rattle.tollgilt.specs.Refused.{refused_with, refused, numbers_of}
use Rattle.tollgilt.specs.Find.{Promised, Handed, answered, given, rows_told, list_after, count_of}
use Rattle.tollgilt.specs.declared.refused.Refused.{Refused}
use Rattle.tollgilt.proofs.ListLaws.{rows₀, text₀, pages_decide, told_of}

-- ---- the room

-- a list with room for fewer than 256 rows is refusal 1
pub no_room : (list b ss ns : List ℕ) → length list < 256 → answered list b ss ns ≡ Paper.refusal 1 0 0
unfolding find_call read_at
no_room list b ss ns h = rw (lt-leb row_room (length list) h)

-- with room enough, the call is answered as reading its pages
pub find_call_lem : (list b ss ns : List ℕ) → 256 ≤ length list → answered list b ss ns ≡ read_at true b ss ns
unfolding find_call
find_call_lem list b ss ns h = ap (λ (x : Bool). read_at x b ss ns) (le-leb row_room (length list) h)

-- ---- what is promised

-- a refusal, whatever refused
pub refuses : (a : Paper.Answer) (n : ℕ) (list : List ℕ) (m k i : ℕ) → a ≡ Paper.refusal m k i → Promised a n list (Err (refused_with m k i)) list
refuses a n list m k i e = rw e (record { result_is = refl; list_is = refl })

-- the index that is lent to reading; it is room enough
abbrev pub index₀ : List ℕ
index₀ = replicate 512 0

with_index : (b ss ns : List ℕ) → Indexing.answered rows₀ text₀ index₀ b ss ns ≡ read_at true b ss ns
with_index b ss ns = ap (λ (m : ℕ). if (leb pair_room (pairs_lent m)) (Reads.answered rows₀ text₀ b ss ns) (Paper.refusal 1 0 0)) (length-replicate {A = ℕ} 512 0) ∙ pages_decide b ss ns

-- how many rows are told, and the list as it is handed back, for the rows that hold the number
count_told : (is : List ℕ) → count_of (reply_told (reply_of is)) ≡ length is
count_told [] = refl
count_told (i ∷ is) = refl

list_told : (is list : List ℕ) → Index.list_after (reply_of is) list ≡ laid list 0 is
list_told [] list = refl
list_told (i ∷ is) list = refl

-- what reading with the index gives for a call with room enough
module _ (list b ss ns : List ℕ) (n : ℕ) (h : 256 ≤ length list) (rows text index : List ℕ) where
  same : Indexing.answered rows₀ text₀ index₀ b ss ns ≡ answered list b ss ns
  same = with_index b ss ns ∙ sym (find_call_lem list b ss ns h)

  -- reading refused the pages
  pub nothing_found : (x : Refusal) → Indexing.Refuses (Indexing.answered rows₀ text₀ index₀ b ss ns) x rows₀ text₀ index₀ rows text index
      → Promised (answered list b ss ns) n list (Err (refused (Reader.numbers_of x))) list
  nothing_found x R = refuses (answered list b ss ns) n list _ _ _ (sym same ∙ R.refused_is.answer_is)

  module _ (x : Indexed) (R : Indexing.Reads (Indexing.answered rows₀ text₀ index₀ b ss ns) x rows₀ text₀ index₀ rows text index) where
    -- the answer of the index, with a list lent for the rows
    abbrev reply : Asked.Reply
    reply = replied_into list rows x.plan.rows index x.pairs n

    into : reply ≡ replied rows x.plan.rows index x.pairs n
    unfolding replied_into
    into = rw (le-leb row_room (length list) h)

    -- reading gave a plan: the index of its rows is asked
    pub found : (r : Result (Option Held) Asking.Refusal) (list' : List ℕ) (k : ℕ) → (r ≡ reply_told reply) × (list' ≡ Index.list_after reply list) → k ≡ count_of r
        → Promised (answered list b ss ns) n list (Ok k) list'
    found r list' k (e, f) q =
        let p : Said.Plan = R.reading_is.plan in
        let is : answered list b ss ns ≡ Paper.plan p = sym same ∙ R.reading_is.answer_is in
        let (y, same_read, asked) = read_asked rows₀ text₀ index₀ b ss ns p (Ok x) rows text index n R.reading_is.answer_is R in
        let same_x : y ≡ x = cc (same_read) in
        let said : reply ≡ reply_of (holders n p.rows) = into ∙ subst (λ (t : Indexed). replied rows t.plan.rows index t.pairs n ≡ reply_of (holders n p.rows)) same_x asked in
        record {
          result_is = ap Ok (q ∙ ap count_of (e ∙ ap reply_told said) ∙ count_told (holders n p.rows)) ∙ sym (ap (given n) is);
          list_is = f ∙ ap (λ (t : Asked.Reply). Index.list_after t list) said ∙ list_told (holders n p.rows) list ∙ sym (ap (λ (a : Paper.Answer). list_after n a list) is);
        }

-- ---- the border

-- what is handed out are the numbers of the answer
pub handed : (a : Paper.Answer) (m : ℕ) (list : List ℕ) (r : Result ℕ Refused) (list' : List ℕ) → Promised a m list r list' → Handed a m list (numbers_of r).number list' (told_of r)
handed a m list r list' P =
    record {
      number_is = ap (λ (x : Result ℕ Refused). (numbers_of x).number) P.result_is ∙ number a;
      told_is = ap told_of P.result_is ∙ all a;
      list_is = P.list_is;
    }
  where
    number : (a : Paper.Answer) → (numbers_of (given m a)).number ≡ (told a).number
    number (Paper.refusal n k i) = refl
    number (Paper.plan p) = refl

    all : (a : Paper.Answer) → told_of (given m a) ≡ rows_told m a ∷ (told a).page ∷ (told a).place ∷ []
    all (Paper.refusal n k i) = refl
    all (Paper.plan p) = refl
