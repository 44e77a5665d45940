-- FreshWritten: what reading gives is what writing asks for, and what writing then gives is document 01's answer for the call; at the border in numbers.
-- Assumes nothing.
use mathlib.Core.Path.{◌≡◌, refl, ap, sym, ◌∙◌, subst}
use mathlib.Core.List.{List, [], ◌∷◌, map}
use Prim.Native.Nat.{ℕ, zero, suc, ◌+◌, ◌≤◌, ◌<◌}
use native.Mathlib.Omega.{arith}
use lib.ListN.{length, drop, get_or, drop_of_length-le}
use lib.Seq.{drop-cons}
use borrow.Author.Tests.{lt-leb}
use Rattle.std.specs.Prelude.{Result, Ok, Err}
use Rattle.paper.specs.Plan as Said
use Rattle.paper.specs.Layout.{text_of}
use Rattle.paper.specs.Writing.{Written, bad_call, unsound, too_long, written, fresh}
use Rattle.paper.specs.Calls.{page_room, pages_at, read_at, fresh_call}
use Rattle.paper.proofs.Small.{unequal}
use Rattle.plan.specs.Numbers.{plan_rows}
use Rattle.plan.proofs.Spans.{padded_long}
use Rattle.plan.specs.declared.Plan as Code
use Rattle.reader.specs.Answers as Reading
use Rattle.reader.specs.Promise as Reads
use Rattle.reader.specs.declared.answer.Refusal as Reader
use Rattle.writer.specs.Answers as Writing
use Rattle.writer.specs.Promise as Writes
use Rattle.writer.specs.Promise.{pages_told}
use Rattle.writer.specs.declared.answer.Refusal as Writer
use Rattle.writer.specs.declared.writing.Pages.{Pages}
use Rattle.writer.proofs.WrittenBack.{read_written}
use Rattle.tollgilt.specs.Refused.{refused_with, refused, numbers_of}
use Rattle.tollgilt.specs.Fresh.{Answer, refusal, pages, writes, afresh, answered, given, Promised, told_of, Handed}
use Rattle.tollgilt.specs.declared.refused.Refused.{Refused}
use Rattle.tollgilt.proofs.ListLaws.{rows₀, text₀, read_here}
use Rattle.tollgilt.proofs.FreshLaws.{plan_read, roomy_call, Holds}

-- ---- the room

-- too little room is refusal 1
pub no_room : (out b ss ns : List ℕ) → length out < 12600 → answered out b ss ns ≡ refusal 1 0 0
unfolding fresh_call read_at
no_room out b ss ns h = rw (lt-leb page_room (length out) h)

-- ---- what is promised

-- a refusal, whatever refused
pub refuses : (a : Answer) (out : List ℕ) (n k i : ℕ) → a ≡ refusal n k i → Promised a out (Err (refused_with n k i)) out
refuses a out n k i e = rw e (record { result_is = refl; room_is = refl })

-- what a call answers where the writer answers so
abbrev pub handed_on : Result Pages Writer.Refusal → Result Pages Refused
handed_on (Ok w) = Ok w
handed_on (Err x) = Err (refused (Writing.numbers_of x))

-- so it is of whatever writing answers
laid_as : (x : Written) (out : List ℕ) (w : Result Pages Writer.Refusal) (out' : List ℕ) → Writes.Promised x out w out' → Promised (writes x) out (handed_on w) out'
laid_as bad_call out w out' P = record { result_is = ap handed_on P.result_is; room_is = P.room_is }
laid_as (unsound j) out w out' P = record { result_is = ap handed_on P.result_is; room_is = P.room_is }
laid_as (too_long j) out w out' P = record { result_is = ap handed_on P.result_is; room_is = P.room_is }
laid_as (written f) out w out' P = record { result_is = ap handed_on P.result_is; room_is = P.room_is }

-- where writing gave the fresh pages of a plan, the room holds them
pub holds_written : (p : Said.Plan) (f : List (List ℕ)) (out : List ℕ) (w : Pages) (out' : List ℕ) → fresh p ≡ written f → Writes.Promised (written f) out (Ok w) out' → Holds p out w out'
holds_written p f out w out' e P = record { sheets = f; is_fresh = e; result_is = cc (P.result_is); room_is = P.room_is }

-- `read` within a call, with rooms of its own, reads as the call is answered
pub read_within : (out b ss ns : List ℕ) → 12600 ≤ length out → (rows text : List ℕ) (q : Result Code.Plan Reader.Refusal) → Reads.Promised (Reads.answered rows₀ text₀ b ss ns) rows₀ text₀ q rows text
    → Reads.Promised (fresh_call (length out) b ss ns) rows₀ text₀ q rows text
read_within out b ss ns h rows text q R = read_here b ss ns rows text q (fresh_call (length out) b ss ns) (roomy_call out b ss ns h) R

-- what reading gives where it answers as the call is answered, whatever rooms it was lent
module _ (out b ss ns : List ℕ) (h : 12600 ≤ length out) (rows text rows' text' : List ℕ) where
  -- reading refused the pages
  pub not_written : (x : Reader.Refusal) → Reads.Refuses (fresh_call (length out) b ss ns) x rows text rows' text' → Promised (answered out b ss ns) out (Err (refused (Reading.numbers_of x))) out
  not_written x R = refuses (answered out b ss ns) out _ _ _ (ap afresh R.answer_is)

  -- reading gave a plan: writing its numbers is writing that plan
  pub plan_laid : (q : Code.Plan) → Reads.Reads (fresh_call (length out) b ss ns) q rows text rows' text' → (w : Result Pages Writer.Refusal) (out' : List ℕ)
      → Writes.Promised (Writes.answered out q rows' text') out w out' → Promised (answered out b ss ns) out (handed_on w) out'
  plan_laid q R w out' P =
      let p = R.plan in
      let same : Writes.answered out q rows' text' ≡ fresh p
      = rw (R.plan_is, R.rows_are, R.text_is) (read_written (pages_at b ss ns) p (drop (0 + length (text_of p)) text) (drop (0 + length (plan_rows p)) rows) out (plan_read out b ss ns p R.answer_is) h) in
      let L = laid_as (fresh p) out w out' (subst (λ (x : Written). Writes.Promised x out w out') same P) in
      subst (λ (a : Answer). Promised a out (handed_on w) out') (sym (ap afresh R.answer_is)) L

-- ---- the border

-- k places of a list from place i on, one by one
abbrev pub places_of : List ℕ → ℕ → ℕ → List ℕ
places_of l i zero = []
places_of l i (suc k) = get_or l i 0 ∷ places_of l (suc i) k

one_by_one : (l : List ℕ) (k i : ℕ) → i + k ≡ length l → drop i l ≡ places_of l i k
one_by_one l zero i h = let g : length l ≤ i = omega arith in drop_of_length-le l g
one_by_one l (suc k) i h = drop-cons l i 0 (omega arith) ∙ ap (λ (t : List ℕ). get_or l i 0 ∷ t) (one_by_one l k (suc i) (omega arith))

-- there are nine lengths
nine_lens : (a : Answer) (w : Pages) → Ok w ≡ given a → length w.lens ≡ 9
nine_lens (refusal n k i) w e = unequal (cc (e))
nine_lens (pages f) w e = let q : w ≡ pages_told f = cc (e) in ap (λ (t : Pages). length t.lens) q ∙ padded_long {A = ℕ} 0 9 (map length f)

-- what is handed out of pages are their number and their lengths
pub handed : (a : Answer) (out : List ℕ) (w : Pages) (out' : List ℕ) → Promised a out (Ok w) out' → Handed a out 0 out' (w.count ∷ 0 ∷ 0 ∷ places_of w.lens 0 9)
handed a out w out' P =
    let all : w.lens ≡ places_of w.lens 0 9 = one_by_one w.lens 9 0 (sym (nine_lens a w P.result_is)) in
    record {
      number_is = ap (λ (r : Result Pages Refused). (numbers_of r).number) P.result_is;
      told_is = ap (λ (l : List ℕ). w.count ∷ 0 ∷ 0 ∷ l) (sym all) ∙ ap told_of P.result_is;
      room_is = P.room_is;
    }

-- and of a refusal its numbers
pub refusal_handed : (a : Answer) (out : List ℕ) (e : Refused) (out' : List ℕ) → Promised a out (Err e) out' → Handed a out e.number out' (told_of (Err e))
refusal_handed a out e out' P = record { number_is = ap (λ (r : Result Pages Refused). (numbers_of r).number) P.result_is; told_is = ap told_of P.result_is; room_is = P.room_is }
