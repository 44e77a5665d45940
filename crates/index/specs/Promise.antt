-- Promise: what reading with the index promises for any call: all that reading promises, and the index of the plan's rows.
-- Assumes nothing.
use Rattle.std.specs.Prelude.{◌≡◌, List, ℕ, leb, length, Result, MatchResult}
use Rattle.paper.specs.Lists.{if}
use Rattle.paper.specs.Reading as Paper
use Rattle.paper.specs.Index.{index_of, pair_room}
use Rattle.room.specs.Laid.{laid}
use Rattle.reader.specs.Promise as Reader
use Rattle.collector.specs.declared.store.Collector.{Collector}
use Rattle.collector.specs.Keeping.{collected}
use Rattle.index.specs.Pairs.{pairs_lent, flat}
use Rattle.reader.specs.declared.answer.Refusal.{Refusal}
use Rattle.index.specs.declared.reading.Indexed.{Indexed}

-- how many pairs are told: a refusal has none
abbrev pub pairs_told : Paper.Answer → ℕ
pairs_told (Paper.refusal n k i) = 0
pairs_told (Paper.plan p) = length (index_of p.rows)

-- the room as handed back: a refusal changes no number; else it begins with the index, and behind that is as it was
abbrev pub index_after : Paper.Answer → List ℕ → List ℕ
index_after (Paper.refusal n k i) index = index
index_after (Paper.plan p) index = laid index 0 (flat (index_of p.rows))

-- a refusal: as reading refuses, and the room for the index is as it was
pub record Refuses (a : Paper.Answer) (x : Refusal) (rows text index rows' text' index' : List ℕ) : Type 0 where
  pub refused_is : Reader.Refuses a x rows text rows' text'
  pub index_is : index' ≡ index

-- a plan: as reading gives it, with the number of pairs that its index has, and the room begins with the index
pub record Reads (a : Paper.Answer) (x : Indexed) (rows text index rows' text' index' : List ℕ) : Type 0 where
  pub reading_is : Reader.Reads a x.plan rows text rows' text'
  pub pairs_are : x.pairs ≡ pairs_told a
  pub index_is : index' ≡ index_after a index

-- what is promised where the documents answer so: of the rooms as lent, the result, and the rooms as handed back
abbrev pub Promised : Paper.Answer → List ℕ → List ℕ → List ℕ → Result Indexed Refusal → List ℕ → List ℕ → List ℕ → Type 0
Promised a rows text index r rows' text' index' = MatchResult r (λ x. Reads a x rows text index rows' text' index') (λ x. Refuses a x rows text index rows' text' index')

-- an answer, where the room lent for the index is not too small: "less than its room is 1"
abbrev pub with_room : List ℕ → Paper.Answer → Paper.Answer
with_room index a = if (leb pair_room (pairs_lent (length index))) a (Paper.refusal 1 0 0)

-- the documents' answer for a call that lends these rooms
abbrev pub answered : List ℕ → List ℕ → List ℕ → List ℕ → List ℕ → List ℕ → Paper.Answer
answered rows text index buffer starts lens = with_room index (Reader.answered rows text buffer starts lens)

-- and for the pages of a collector
abbrev pub collected_with : List ℕ → List ℕ → List ℕ → Collector → Paper.Answer
collected_with rows text index c = with_room index (collected rows text c)
