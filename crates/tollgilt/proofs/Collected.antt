-- Collected: pages collected one after another, read and written, give what `fresh_pages` gives for the same pages handed in at once: the same number of pages, lengths and
-- bytes, or the same refusal. Each statement is about results that meet the promises: of adding (`Leads`), of the collector's `read`, of `write`, and of `fresh_pages` (`Gives`).
-- Assumes nothing.
use mathlib.Core.Path.{◌≡◌, ap, sym, ◌∙◌, subst}
use mathlib.Core.Bool.{Bool, true}
use mathlib.Core.List.{List, []}
use Prim.Native.Nat.{ℕ, ◌≤◌}
use lib.ListN.{length}
use Rattle.std.specs.Prelude.{Result, Ok, Err, IsOkAnd}
use Rattle.paper.specs.Lists.{if}
use Rattle.paper.specs.Plan as Said
use Rattle.paper.specs.Reading as Paper
use Rattle.paper.specs.Calls.{inside, pages_at, fresh_call}
use Rattle.paper.specs.Collecting.{cleared, pages_in}
use Rattle.paper.proofs.Small.{unequal}
use Rattle.paper.proofs.AnyOrder.{Perm}
use Rattle.paper.proofs.CallLaws.{reads_pages}
use Rattle.paper.proofs.Collected.{empty, add_all, reached_all, as_handed_in}
use Rattle.plan.specs.declared.Plan.{Plan}
use Rattle.reader.specs.Answers as Reading
use Rattle.reader.specs.Promise as Reads
use Rattle.reader.specs.declared.answer.Refusal as Reader
use Rattle.writer.specs.Promise as Writes
use Rattle.writer.specs.declared.answer.Refusal as Writer
use Rattle.writer.specs.declared.writing.Pages.{Pages}
use Rattle.collector.specs.Keeping.{empty_collector, missing, read_of, collected}
use Rattle.collector.specs.Shows.{Leads}
use Rattle.collector.specs.declared.store.Collector.{Collector}
use Rattle.collector.proofs.Shown as Shown
use Rattle.collector.proofs.Shown.{led, reads_led}
use Rattle.tollgilt.specs.Refused.{refused}
use Rattle.tollgilt.specs.Fresh.{answered}
use Rattle.tollgilt.specs.declared.refused.Refused.{Refused}
use Rattle.tollgilt.proofs.FreshLaws.{Gives, plan_read, roomy_call, plan_roomy}
use Rattle.tollgilt.proofs.FreshWritten.{handed_on, not_written, plan_laid}
use Rattle.tollgilt.proofs.Demands.{Enough, Accepted, accepted, roomy_enough}
use Rattle.tollgilt.proofs.Unique.{fresh_once}

-- what `write` gives, and the room that it leaves, are what `fresh_pages` gives and leaves: the same pages in number and lengths, or the same refusal, which names no page
pub record Alike (w : Result Pages Writer.Refusal) (out₂ : List ℕ) (r : Result Pages Refused) (out' : List ℕ) : Type 0 where
  pub result_is : handed_on w ≡ r
  pub room_is : out₂ ≡ out'

-- the collector reads with room enough
room_for : (rows text : List ℕ) (c : Collector) → Enough rows text → collected rows text c ≡ read_of c
unfolding collected
room_for rows text c h = ap (λ (x : Bool). if x (read_of c) (Paper.refusal 1 0 0)) (roomy_enough rows text h)

module _ (out b ss ns : List ℕ) (r : Result Pages Refused) (out' : List ℕ) (F : Gives out b ss ns r out') (rows text : List ℕ) (enough : Enough rows text) where
  -- what the collector's `read` gives, where it answers as the call is answered
  module _ (room : 12600 ≤ length out) (d : Collector) (same : read_of d ≡ fresh_call (length out) b ss ns) (rows' text' : List ℕ) where
    read_as : (q : Result Plan Reader.Refusal) → Reads.Promised (collected rows text d) rows text q rows' text' → Reads.Promised (fresh_call (length out) b ss ns) rows text q rows' text'
    read_as q R = subst (λ (a : Paper.Answer). Reads.Promised a rows text q rows' text') (room_for rows text d enough ∙ same) R

    refused_as : (x : Reader.Refusal) → Reads.Promised (collected rows text d) rows text (Err x) rows' text' → r ≡ Err (refused (Reading.numbers_of x))
    refused_as x R = sym (fresh_once (answered out b ss ns) out (Err (refused (Reading.numbers_of x))) r out out' (not_written out b ss ns room rows text rows' text' x (read_as (Err x) R)) F).0

    written_as : (q : Plan) → Reads.Promised (collected rows text d) rows text (Ok q) rows' text' → (w : Result Pages Writer.Refusal) (out₂ : List ℕ)
        → Writes.Promised (Writes.answered out q rows' text') out w out₂ → Alike w out₂ r out'
    written_as q R w out₂ P =
        let (e, f) = fresh_once (answered out b ss ns) out (handed_on w) r out₂ out' (plan_laid out b ss ns room rows text rows' text' q (read_as (Ok q) R) w out₂ P) F in
        record { result_is = e; room_is = f }

  -- Pages are added to the empty collector, whatever is answered to each. The call hands in, in any order, the pages that it kept, and lends room enough.
  module _ (room : 12600 ≤ length out) (g : List (List ℕ)) (d : Collector) (L : Leads empty_collector g d) (lie : inside b ss ns ≡ true) (kept : Perm (pages_in (add_all cleared g)) (pages_at b ss ns))
      (rows' text' : List ℕ) where
    at_once : read_of d ≡ fresh_call (length out) b ss ns
    at_once = reads_led g d L ∙ sym (roomy_call out b ss ns room ∙ (reads_pages b ss ns lie ∙ as_handed_in (reached_all empty g) (pages_at b ss ns) kept))

    -- Where the collector's `read` refuses, `fresh_pages` refuses the call with the same number, page and place.
    pub refused_alike : (x : Reader.Refusal) → Reads.Promised (collected rows text d) rows text (Err x) rows' text' → r ≡ Err (refused (Reading.numbers_of x))
    refused_alike = refused_as room d at_once rows' text'

    -- Where it gives a plan, writing what it laid out gives what `fresh_pages` gives: the same pages in the same room, or 14 at the same place.
    pub written_alike : (q : Plan) → Reads.Promised (collected rows text d) rows text (Ok q) rows' text' → (w : Result Pages Writer.Refusal) (out₂ : List ℕ)
        → Writes.Promised (Writes.answered out q rows' text') out w out₂ → Alike w out₂ r out'
    written_alike = written_as room d at_once rows' text'

  -- Pages that `fresh_pages` accepts at once are collected in any order: none is missing, the collector's `read` gives a plan, and writing it gives what `fresh_pages` gave.
  pub any_order : Accepted r → (g : List (List ℕ)) → Perm (pages_at b ss ns) g → (d : Collector) → Leads empty_collector g d
      → (q : Result Plan Reader.Refusal) (rows' text' : List ℕ) → Reads.Promised (collected rows text d) rows text q rows' text'
      → (missing d ≡ []) × IsOkAnd q (λ x. (w : Result Pages Writer.Refusal) (out₂ : List ℕ) → Writes.Promised (Writes.answered out x rows' text') out w out₂ → Alike w out₂ r out')
  any_order a g m d L q rows' text' R =
      let (p, e) = (accepted out b ss ns r out' F).0 a in
      let (none, reads) = Shown.any_order (pages_at b ss ns) g p m (plan_read out b ss ns p e) in
      let to = led empty_collector g d L in
      let gives : read_of d ≡ Paper.plan p = ap read_of to ∙ reads in
      (ap missing to ∙ none, by p (plan_roomy out b ss ns p e) (gives ∙ sym e) (room_for rows text d enough ∙ gives) q R)
    where
      by : (p : Said.Plan) → 12600 ≤ length out → read_of d ≡ fresh_call (length out) b ss ns → collected rows text d ≡ Paper.plan p
          → (q : Result Plan Reader.Refusal) → Reads.Promised (collected rows text d) rows text q rows' text'
          → IsOkAnd q (λ x. (w : Result Pages Writer.Refusal) (out₂ : List ℕ) → Writes.Promised (Writes.answered out x rows' text') out w out₂ → Alike w out₂ r out')
      by p h same is (Ok x) R = written_as h d same rows' text' x R
      by p h same is (Err y) R = unequal (cc (R.answer_is, is))
