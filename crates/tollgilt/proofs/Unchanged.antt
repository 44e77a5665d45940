-- Unchanged: "A refusal changes no lent byte or row, and no collector." One statement for each operation, about any result that meets its promise: where the result
-- is a refusal, what was lent for writing is as it was. A collector changes where a page is added and nowhere else, so "already here" leaves it too.
-- `clear` and the empty collector refuse nothing. The missing numbers, the numbers of a refusal and the functions of `cell` are lent nothing for writing. The numbers `told` at the
-- border are a part of the answer: every call sets them. Of a set of pages that is refused planlist, planfresh, planfind and plancell print three lines, so there only a room
-- too small is a refusal.
-- Assumes nothing.
use mathlib.Core.Path.{◌≡◌, refl, ap, ◌∙◌}
use mathlib.Core.Bool.{Bool, true, false}
use mathlib.Core.List.{List}
use Prim.Native.Nat.{ℕ}
use lib.ListN.{length}
use Rattle.std.specs.Prelude.{Option, Result, Ok, Err}
use Rattle.paper.specs.Lists.{if}
use Rattle.paper.specs.Reading as Paper
use Rattle.paper.specs.Reading.{Numbers}
use Rattle.paper.specs.Writing.{Written, bad_call, unsound, too_long, written}
use Rattle.paper.specs.Index as Asked
use Rattle.paper.specs.Index.{index_of}
use Rattle.paper.proofs.Small.{unequal}
use Rattle.plan.specs.declared.Plan.{Plan}
use Rattle.reader.specs.Answers as Reader
use Rattle.reader.specs.Promise as Reads
use Rattle.reader.specs.declared.answer.Refusal as Read
use Rattle.collector.specs.Answers as Collects
use Rattle.collector.specs.Keeping.{added_to, added_call, collected}
use Rattle.collector.specs.Promise as Adds
use Rattle.collector.specs.declared.store.Collector.{Collector}
use Rattle.collector.specs.declared.adding.Adding.{Adding}
use Rattle.collector.specs.declared.adding.Kept.TheVariants.{Added}
use Rattle.collector.proofs.KeepLaws.{add_stays, add_bytes_stays}
use Rattle.room.specs.Laid.{laid}
use Rattle.index.specs.Pairs.{flat, rows_in}
use Rattle.index.specs.Answers as Index
use Rattle.index.specs.Promise as Indexes
use Rattle.index.specs.declared.answer.Held.{Held}
use Rattle.index.specs.declared.answer.Refusal as Asking
use Rattle.index.specs.declared.answer.Refusal.TheVariants.{NoRoom}
use Rattle.writer.specs.Promise as Writes
use Rattle.writer.specs.declared.answer.Refusal as Write
use Rattle.tollgilt.specs.Refused.{numbers_of}
use Rattle.tollgilt.specs.Promise as Lists
use Rattle.tollgilt.specs.Fresh as Fresh
use Rattle.tollgilt.specs.Find as Find
use Rattle.tollgilt.specs.Cells as Cells
use Rattle.tollgilt.specs.Printed as Prints
use Rattle.tollgilt.specs.declared.refused.Refused.{Refused}

-- ---- reading

-- `read`: no row and no byte of text
pub read_unchanged : (rows text b ss ns : List ℕ) (x : Read.Refusal) (rows' text' : List ℕ) → Reads.Promised (Reads.answered rows text b ss ns) rows text (Err x) rows' text' → (rows' ≡ rows) × (text' ≡ text)
read_unchanged rows text b ss ns x rows' text' P = (P.rows_are, P.text_is)

-- the collector's `read`; the collector itself is handed in by value
pub collected_unchanged : (c : Collector) (rows text : List ℕ) (x : Read.Refusal) (rows' text' : List ℕ) → Reads.Promised (collected rows text c) rows text (Err x) rows' text' → (rows' ≡ rows) × (text' ≡ text)
collected_unchanged c rows text x rows' text' P = (P.rows_are, P.text_is)

-- ---- collecting: every answer but `Added`

-- `add`: the collector that is given back
pub add_unchanged : (c : Collector) (b : List ℕ) (start len : ℕ) (r : Adding) → Adds.Promised (added_call c b start len) r.answer r.collector
    → (r.answer ≡ Ok Added → ⊥) → r.collector ≡ c
add_unchanged c b start len r = add_stays c b start len r.answer r.collector

-- `add_bytes`: the same of any bytes
pub add_bytes_unchanged : (c : Collector) (w : List ℕ) (r : Adding) → Adds.Promised (added_to c w) r.answer r.collector
    → (r.answer ≡ Ok Added → ⊥) → r.collector ≡ c
add_bytes_unchanged c w r = add_bytes_stays c w r.answer r.collector

-- `add_page`: the collector that was lent
pub add_page_unchanged : (c : Collector) (b : List ℕ) (start len : ℕ) (a : Collects.Answer) (c' : Collector) → Adds.Promised (added_call c b start len) a c'
    → (a ≡ Ok Added → ⊥) → c' ≡ c
add_page_unchanged c b start len = add_stays c b start len

-- ---- writing

room_stays : (w : Written) (out : List ℕ) (x : Write.Refusal) (out' : List ℕ) → Writes.Promised w out (Err x) out' → out' ≡ out
room_stays bad_call out x out' P = P.room_is
room_stays (unsound i) out x out' P = P.room_is
room_stays (too_long i) out x out' P = P.room_is
room_stays (written f) out x out' P = unequal (cc (P.result_is))

-- `write`: no byte of the room for pages
pub write_unchanged : (out : List ℕ) (p : Plan) (rows text : List ℕ) (x : Write.Refusal) (out' : List ℕ) → Writes.Promised (Writes.answered out p rows text) out (Err x) out' → out' ≡ out
write_unchanged out p rows text = room_stays (Writes.answered out p rows text) out

-- ---- listing

not_listed : (a : Paper.Answer) (out : List ℕ) → ((Reader.told a).number ≡ 0 → ⊥) → Lists.room_after a out ≡ out
not_listed (Paper.refusal n k i) out h = refl
not_listed (Paper.plan p) out h = absurd (h refl)

list_stays : (a : Paper.Answer) (out : List ℕ) (x : Refused) (out' : List ℕ) → Lists.Promised a out (Err x) out' → out' ≡ out
list_stays (Paper.refusal n k i) out x out' P = P.room_is
list_stays (Paper.plan p) out x out' P = unequal (cc (P.result_is))

-- `list_pages`: no byte of the room for the listing
pub list_pages_unchanged : (out b ss ns : List ℕ) (x : Refused) (out' : List ℕ) → Lists.Promised (Lists.answered out b ss ns) out (Err x) out' → out' ≡ out
list_pages_unchanged out b ss ns = list_stays (Lists.answered out b ss ns) out

-- `tollgilt_list`
pub tollgilt_list_unchanged : (out b ss ns : List ℕ) (r : ℕ) (out' told' : List ℕ) → Lists.Handed (Lists.answered out b ss ns) out r out' told' → (r ≡ 0 → ⊥) → out' ≡ out
tollgilt_list_unchanged out b ss ns r out' told' P h = P.room_is ∙ not_listed (Lists.answered out b ss ns) out (λ e. h (P.number_is ∙ e))

not_printed : (a : Prints.Answer) (out : List ℕ) → ((Prints.told a).number ≡ 0 → ⊥) → Prints.room_after a out ≡ out
not_printed (Prints.refusal n k i) out h = refl
not_printed (Prints.prints w) out h = absurd (h refl)

-- `list_input`: no byte of the room for what is printed
pub list_input_unchanged : (out input : List ℕ) (r : Option ℕ) (out' : List ℕ) → Prints.Prints (Prints.list_answer out input) out r out' → ((Prints.numbers_of r).number ≡ 0 → ⊥) → out' ≡ out
list_input_unchanged out input r out' P h = P.room_is ∙ not_printed (Prints.list_answer out input) out (λ e. h (ap (λ (t : Numbers). t.number) P.answer_is ∙ e))

-- ---- writing afresh

not_fresh : (a : Fresh.Answer) (out : List ℕ) → ((numbers_of (Fresh.given a)).number ≡ 0 → ⊥) → Fresh.room_after a out ≡ out
not_fresh (Fresh.refusal n k i) out h = refl
not_fresh (Fresh.pages f) out h = absurd (h refl)

fresh_stays : (a : Fresh.Answer) (out : List ℕ) (x : Refused) (out' : List ℕ) → Fresh.Promised a out (Err x) out' → out' ≡ out
fresh_stays (Fresh.refusal n k i) out x out' P = P.room_is
fresh_stays (Fresh.pages f) out x out' P = unequal (cc (P.result_is))

-- `fresh_pages`: no byte of the room for pages
pub fresh_pages_unchanged : (out b ss ns : List ℕ) (x : Refused) (out' : List ℕ) → Fresh.Promised (Fresh.answered out b ss ns) out (Err x) out' → out' ≡ out
fresh_pages_unchanged out b ss ns = fresh_stays (Fresh.answered out b ss ns) out

-- `tollgilt_fresh`
pub tollgilt_fresh_unchanged : (out b ss ns : List ℕ) (r : ℕ) (out' told' : List ℕ) → Fresh.Handed (Fresh.answered out b ss ns) out r out' told' → (r ≡ 0 → ⊥) → out' ≡ out
tollgilt_fresh_unchanged out b ss ns r out' told' P h = P.room_is ∙ not_fresh (Fresh.answered out b ss ns) out (λ e. h (P.number_is ∙ e))

-- `fresh_input`
pub fresh_input_unchanged : (out input : List ℕ) (r : Option ℕ) (out' : List ℕ) → Prints.Prints (Prints.fresh_answer out input) out r out' → ((Prints.numbers_of r).number ≡ 0 → ⊥) → out' ≡ out
fresh_input_unchanged out input r out' P h = P.room_is ∙ not_printed (Prints.fresh_answer out input) out (λ e. h (ap (λ (t : Numbers). t.number) P.answer_is ∙ e))

-- ---- finding

not_found : (a : Paper.Answer) (n : ℕ) (list : List ℕ) → ((Reader.told a).number ≡ 0 → ⊥) → Find.list_after n a list ≡ list
not_found (Paper.refusal m k i) n list h = refl
not_found (Paper.plan p) n list h = absurd (h refl)

find_stays : (a : Paper.Answer) (n : ℕ) (list : List ℕ) (x : Refused) (list' : List ℕ) → Find.Promised a n list (Err x) list' → list' ≡ list
find_stays (Paper.refusal m k i) n list x list' P = P.list_is
find_stays (Paper.plan p) n list x list' P = unequal (cc (P.result_is))

-- `find_pages`: no number of the list
pub find_pages_unchanged : (list b ss ns : List ℕ) (n : ℕ) (x : Refused) (list' : List ℕ) → Find.Promised (Find.answered list b ss ns) n list (Err x) list' → list' ≡ list
find_pages_unchanged list b ss ns n = find_stays (Find.answered list b ss ns) n list

-- `tollgilt_find`
pub tollgilt_find_unchanged : (list b ss ns : List ℕ) (n r : ℕ) (list' told' : List ℕ) → Find.Handed (Find.answered list b ss ns) n list r list' told' → (r ≡ 0 → ⊥) → list' ≡ list
tollgilt_find_unchanged list b ss ns n r list' told' P h = P.list_is ∙ not_found (Find.answered list b ss ns) n list (λ e. h (P.number_is ∙ e))

-- `find_input`: no byte of the room for what is printed
pub find_input_unchanged : (out input : List ℕ) (r : Option ℕ) (out' : List ℕ) → Prints.Prints (Prints.find_answer out input) out r out' → ((Prints.numbers_of r).number ≡ 0 → ⊥) → out' ≡ out
find_input_unchanged out input r out' P h = P.room_is ∙ not_printed (Prints.find_answer out input) out (λ e. h (ap (λ (t : Numbers). t.number) P.answer_is ∙ e))

-- ---- a printed cell

not_shown : (a : Cells.Answer) (out : List ℕ) → ((numbers_of (Cells.given a)).number ≡ 0 → ⊥) → Cells.room_after a out ≡ out
not_shown (Cells.refusal n k i) out h = refl
not_shown (Cells.shows s t d o m) out h = absurd (h refl)

cell_stays : (a : Cells.Answer) (out : List ℕ) (x : Refused) (out' : List ℕ) → Cells.Promised a out (Err x) out' → out' ≡ out
cell_stays (Cells.refusal n k i) out x out' P = P.room_is
cell_stays (Cells.shows s t d o m) out x out' P = unequal (cc (P.result_is))

-- `cell_pages`: no byte of the room for the text
pub cell_pages_unchanged : (out b ss ns k : List ℕ) (row n i : ℕ) (x : Refused) (out' : List ℕ) → Cells.Promised (Cells.answered out b ss ns k row n i) out (Err x) out' → out' ≡ out
cell_pages_unchanged out b ss ns k row n i = cell_stays (Cells.answered out b ss ns k row n i) out

-- `tollgilt_cell`
pub tollgilt_cell_unchanged : (out b ss ns k : List ℕ) (row n i r : ℕ) (out' told' : List ℕ) → Cells.Handed (Cells.answered out b ss ns k row n i) out r out' told' → (r ≡ 0 → ⊥) → out' ≡ out
tollgilt_cell_unchanged out b ss ns k row n i r out' told' P h = P.room_is ∙ not_shown (Cells.answered out b ss ns k row n i) out (λ e. h (P.number_is ∙ e))

-- `cell_input`: no byte of the room for what is printed
pub cell_input_unchanged : (out input : List ℕ) (r : Option ℕ) (out' : List ℕ) → Prints.Prints (Prints.cell_answer out input) out r out' → ((Prints.numbers_of r).number ≡ 0 → ⊥) → out' ≡ out
cell_input_unchanged out input r out' P h = P.room_is ∙ not_printed (Prints.cell_answer out input) out (λ e. h (ap (λ (t : Numbers). t.number) P.answer_is ∙ e))

-- ---- the index

-- `index::build::build`: no number of the room
pub build_unchanged : (rows : List ℕ) (count : ℕ) (index : List ℕ) (x : Asking.Refusal) (index' : List ℕ) → (Err x ≡ Index.built_of rows count index) × (index' ≡ Index.index_after rows count index) → index' ≡ index
unfolding Index.built_of Index.index_after
build_unchanged rows count index x index' P = at (Index.fits_build rows count index) P.0 P.1
  where
    at : (b : Bool) → ◌≡◌ {A = Result ℕ Asking.Refusal} (Err x) (if b (Ok (length (index_of (rows_in count rows)))) (Err NoRoom)) → index' ≡ if b (laid index 0 (flat (index_of (rows_in count rows)))) index → index' ≡ index
    at true e f = unequal (cc (e))
    at false e f = f

-- `index::ask::all`: no number of the list
pub all_unchanged : (list rows : List ℕ) (count : ℕ) (index : List ℕ) (len n : ℕ) (x : Asking.Refusal) (list' : List ℕ)
    → (Err x ≡ Index.reply_told (Index.replied_into list rows count index len n)) × (list' ≡ Index.list_after (Index.replied_into list rows count index len n) list) → list' ≡ list
all_unchanged list rows count index len n x list' P = at (Index.replied_into list rows count index len n) P.0 P.1
  where
    at : (a : Asked.Reply) → ◌≡◌ {A = Result (Option Held) Asking.Refusal} (Err x) (Index.reply_told a) → list' ≡ Index.list_after a list → list' ≡ list
    at Asked.bad_call e f = f
    at Asked.stale e f = f
    at Asked.absent e f = f
    at (Asked.held_by i is) e f = unequal (cc (e))

-- `index::reading::read`: no row, no byte of text and no number of the index
pub indexed_unchanged : (rows text index b ss ns : List ℕ) (x : Read.Refusal) (rows' text' index' : List ℕ)
    → Indexes.Promised (Indexes.answered rows text index b ss ns) rows text index (Err x) rows' text' index' → (rows' ≡ rows) × (text' ≡ text) × (index' ≡ index)
indexed_unchanged rows text index b ss ns x rows' text' index' P = (P.refused_is.rows_are, P.refused_is.text_is, P.index_is)

-- `index::reading::read_collected`
pub collected_indexed_unchanged : (c : Collector) (rows text index : List ℕ) (x : Read.Refusal) (rows' text' index' : List ℕ)
    → Indexes.Promised (Indexes.collected_with rows text index c) rows text index (Err x) rows' text' index' → (rows' ≡ rows) × (text' ≡ text) × (index' ≡ index)
collected_indexed_unchanged c rows text index x rows' text' index' P = (P.refused_is.rows_are, P.refused_is.text_is, P.index_is)
