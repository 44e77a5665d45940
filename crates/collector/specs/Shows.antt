-- Shows: which collector of document 01 a collector of the code shows. `Shows` and `Leads` are the interface: the theorems of proofs/Shown say that an empty collector shows
-- an empty one, that adding keeps it so with the answer that document 01 gives, and that missing numbers and reading are document 01's.
-- Assumes nothing.
use Rattle.std.specs.Prelude.{◌≡◌, true, List, [], ◌∷◌, ℕ, length}
use Rattle.paper.specs.Reading.{has}
use Rattle.paper.specs.Collecting as Paper
use Rattle.paper.specs.Calls.{page_room}
use Rattle.collector.specs.Answers.{Answer}
use Rattle.collector.specs.Keeping.{here, kept, added_to}
use Rattle.collector.specs.Promise.{Promised}
use Rattle.collector.specs.declared.store.Collector.{Collector}

-- how many pages there are, as the first page says; 0 where there is none
abbrev pub count_in : Paper.Collector → ℕ
count_in [] = 0
count_in (x ∷ k) = x.says.of

-- the number of the page that came first; 0 where there is none
abbrev pub first_in : Paper.Collector → ℕ
first_in [] = 0
first_in (x ∷ k) = x.says.no

-- each page of k is here at its number's place with its bytes, and no other; count and first page are those of k
pub record Shows (c : Collector) (k : Paper.Collector) : Type 0 where
  pub room : length c.pages ≡ page_room
  pub nine : length c.lens ≡ 9
  pub pages_are : (n : ℕ) → here c.lens n ≡ has n (Paper.sheets_in k)
  pub bytes_are : (n : ℕ) → has n (Paper.sheets_in k) ≡ true → kept c.pages c.lens n ≡ Paper.bytes_at n k
  pub count_is : c.z ≡ count_in k
  pub first_is : c.first ≡ first_in k

-- some pages added one after another lead from one collector to another: each time a result that the promise allows, whatever is answered
abbrev pub Leads : Collector → List (List ℕ) → Collector → Type 0
Leads c [] d = d ≡ c
Leads c (w ∷ ws) d = (a : Answer) × (e : Collector) × Promised (added_to c w) a e × Leads e ws d

-- the collector after them
abbrev pub added_all : Collector → List (List ℕ) → Collector
added_all c [] = c
added_all c (w ∷ ws) = added_all (added_to c w).after ws
