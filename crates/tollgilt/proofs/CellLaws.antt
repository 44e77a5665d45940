-- CellLaws: the cell of the rows that were read is what the documents say of the call.
-- Assumes nothing.
use mathlib.Core.Path.{◌≡◌, refl, ap, sym, ◌∙◌, subst}
use mathlib.Core.Bool.{Bool, true, false, ◌&&◌, ◌||◌}
use mathlib.Core.List.{List, [], ◌∷◌}
use mathlib.Core.Option.{Option, none, some}
use mathlib.Core.Logic.{◌↔◌, ◌⊎◌, inl, inr}
use Prim.Native.Nat.{ℕ, ◌+◌, ◌-◌, ◌*◌, ◌≤◌, ◌<◌}
use native.Mathlib.Nat.{zero-add}
use native.Mathlib.Omega.{arith}
use lib.Dec.{leb}
use lib.ListN.{length, drop, length-append}
use borrow.Author.Tests.{leb-true, leb-false, le-leb, lt-leb}
use Rattle.std.specs.Prelude.{Result, Ok, Err}
use Rattle.paper.specs.Lists.{if, is_empty, concat}
use Rattle.paper.specs.Plan as Said
use Rattle.paper.specs.Plan.{Row}
use Rattle.paper.specs.Reading as Paper
use Rattle.paper.specs.Layout as Layout
use Rattle.paper.specs.Layout.{head_values}
use Rattle.paper.specs.Cells.{CellField, Cell, cell, no_cell, cell_in}
use Rattle.paper.specs.Calls.{cell_room, pages_at, read_at, cell_call}
use Rattle.paper.proofs.Small.{no, both, unequal}
use Rattle.paper.proofs.Causes.{no_row}
use Rattle.paper.proofs.ReadSound.{read_sound}
use Rattle.paper.proofs.CellLaws.{no_cell_lem}
use Rattle.paper.proofs.CellRoom.{cell_fits}
use Rattle.room.specs.Laid.{laid}
use Rattle.plan.specs.Numbers.{record_at, show_rows, absent, fit_rows, plan_rows}
use Rattle.plan.proofs.Shown.{rows_size, rows_shown, sound_back, plan_fit}
use Rattle.listing.proofs.Rowed.{row_inside}
use Rattle.plan.specs.declared.Plan as Code
use Rattle.reader.specs.Answers as Reader
use Rattle.reader.specs.Promise as Reads
use Rattle.reader.specs.declared.answer.Refusal.{Refusal}
use Rattle.cell.specs.Numbered.{field_of, row_there, rows_for, own_span, in_range, cell_for, cell_at}
use Rattle.cell.specs.Answers.{Values, values_of, text_of, is_dose, place_for, values_as, values_at}
use Rattle.cell.specs.declared.answer.NoCell.{NoCell}
use Rattle.cell.specs.declared.answer.Shown.{Shown}
use Rattle.cell.specs.declared.answer.Source.{Source}
use Rattle.cell.specs.declared.answer.Source.TheVariants.{Plan, Catalogue, Neither}
use Rattle.cell.proofs.Plans.{cell_shown}
use Rattle.cell.proofs.Promises.{from_neither}
use Rattle.tollgilt.specs.Refused.{refused_with, refused, numbers_of}
use Rattle.tollgilt.specs.Cells as Cells
use Rattle.tollgilt.specs.Cells.{refusal, shows, source_of, answer_of, cell_from, answered, cell_with, given, room_after, Promised, told_of, Handed}
use Rattle.tollgilt.specs.declared.cells.CellShown.{CellShown}
use Rattle.tollgilt.specs.declared.refused.Refused.{Refused}
use Rattle.tollgilt.proofs.ListLaws.{call_plan, rows₀, text₀, read_here}

-- ---- the room

-- room for fewer than 80 bytes is refusal 1
pub no_room : (out b ss ns k : List ℕ) (row n i : ℕ) → length out < 80 → answered out b ss ns k row n i ≡ refusal 1 0 0
unfolding cell_call read_at
no_room out b ss ns k row n i h = rw (lt-leb cell_room (length out) h)

-- with room enough, the call is answered as reading its pages
pub roomy_call : (out b ss ns : List ℕ) → 80 ≤ length out → cell_call (length out) b ss ns ≡ read_at true b ss ns
unfolding cell_call
roomy_call out b ss ns h = ap (λ (x : Bool). read_at x b ss ns) (le-leb cell_room (length out) h)

-- the plan of a call is that of its pages
pub plan_read : (out b ss ns : List ℕ) (p : Said.Plan) → cell_call (length out) b ss ns ≡ Paper.plan p → Paper.read (pages_at b ss ns) ≡ Paper.plan p
unfolding cell_call
plan_read out b ss ns p e = call_plan (leb cell_room (length out)) b ss ns p e

-- ---- the cell of rows that show a plan's

-- rows of 48 numbers that show a plan's rows, with all values in the text
pub record Laid (p : Said.Plan) (t : List ℕ) (count : ℕ) (rows : List ℕ) : Type 0 where
  pub shows : show_rows t count rows ≡ p.rows
  pub fit : fit_rows t count rows ≡ true
  pub room : count * 48 ≤ length rows

module _ {p : Said.Plan} {t : List ℕ} {count : ℕ} {rows : List ℕ} (L : Laid p t count rows) where
  -- the cell of a row's field is that of the plan's row
  pub plans_cell : (row : ℕ) (f : CellField) (k : List ℕ) → cell_for rows count t k row (some f) ≡ cell_in p.rows row f k
  plans_cell row f k = at (row_there rows count row) refl
    where
      many : length p.rows ≡ count
      many = sym (ap length L.shows) ∙ rows_shown t count rows

      beyond : (x : Bool) → leb 1 row ≡ x → (y : Bool) → leb row count ≡ y → (z : Bool) → leb (row * 48) (length rows) ≡ z → (x && (y && z)) ≡ false → (row ≡ 0) ⊎ (length p.rows < row)
      beyond false u y v z w e = let h = leb-false 1 row u in inl (omega arith)
      beyond true u false v z w e = let h = leb-false row count v in inr (omega (arith, many))
      beyond true u true v false w e = let h = leb-true row count v in let g = leb-false (row * 48) (length rows) w in let r = L.room in absurd (omega arith)
      beyond true u true v true w e = no e

      at : (b : Bool) → row_there rows count row ≡ b → cell_for rows count t k row (some f) ≡ cell_in p.rows row f k
      at true e =
          let (x, y) = both (leb 1 row) (leb row count && leb (row * 48) (length rows)) e in
          let h = leb-true 1 row x in
          let g = leb-true row count (both (leb row count) (leb (row * 48) (length rows)) y).0 in
          cell_shown rows count t k row f e (row_inside t count rows (row - 1) (omega arith) L.fit) ∙ ap (λ (rs : List Row). cell_in rs row f k) L.shows
      at false e =
          ap (λ (b : Bool). if (b && in_range t (record_at rows (row - 1)) f) (cell_in (rows_for t count rows) row f k) no_cell) e
          ∙ sym ((no_cell_lem p.rows row f k).1 (no_row (beyond (leb 1 row) refl (leb row count) refl (leb (row * 48) (length rows)) refl e)))

  -- so is where its text comes from
  source_is : (row n i : ℕ) (f : CellField) (k x : List ℕ) (d : Bool) (o : ℕ) (m : Bool) → field_of n i ≡ some f → cell_in p.rows row f k ≡ cell x d o m
      → (place_for (record_at rows (row - 1)) (some f) k).0 ≡ source_of (cell_in p.rows row f []) (cell x d o m)
  unfolding cell_at
  source_is row n i f k x d o m e q = with_none (cell_in p.rows row f []) refl
    where
      -- with any catalogue, the text comes from neither exactly where it is empty
      neither : (k v : List ℕ) (d : Bool) (o : ℕ) (m : Bool) → cell_in p.rows row f k ≡ cell v d o m → ((place_for (record_at rows (row - 1)) (some f) k).0 ≡ Neither) ↔ (v ≡ [])
      neither k v d o m q =
          subst (λ (g : Option CellField). ((place_for (record_at rows (row - 1)) g k).0 ≡ Neither) ↔ (v ≡ [])) e
          (from_neither rows count t k row n i v d o m (ap (cell_for rows count t k row) e ∙ plans_cell row f k ∙ q))

      -- the place, by whether the row has no value, the cell is a dose, and the catalogue is empty
      place : Bool → Bool → Bool → ℕ → Source × ℕ
      place a s z y = if a (if (s || z) (Neither, 0) (Catalogue, 0)) (Plan, y)

      by : (a s z : Bool) (y : ℕ) (v x : List ℕ) → ((place a s z y).0 ≡ Neither) ↔ (x ≡ []) → ((place a s true y).0 ≡ Neither) ↔ (v ≡ []) → (place a s z y).0 ≡ if (is_empty v) (if (is_empty x) Neither Catalogue) Plan
      by false s z y [] x f g = let u = g.1 refl in unequal (cc)
      by false s z y (c ∷ v) x f g = refl
      by true true z y v x f g = rw (f.0 refl, g.0 refl)
      by true false true y v x f g = rw (f.0 refl, g.0 refl)
      by true false false y v [] f g = let u = f.1 refl in unequal (cc)
      by true false false y v (c ∷ x) f g = rw (g.0 refl)

      with_none : (c : Cell) → cell_in p.rows row f [] ≡ c → (place_for (record_at rows (row - 1)) (some f) k).0 ≡ source_of c (cell x d o m)
      with_none (cell v d' o' m') u = by (absent (own_span (record_at rows (row - 1)) f)) (is_dose f) (is_empty k) (own_span (record_at rows (row - 1)) f).at v x (neither k x d o m q) (neither [] v d' o' m' u)
      with_none no_cell u = let z : no_cell ≡ cell x d o m = sym ((no_cell_lem p.rows row f k).1 ((no_cell_lem p.rows row f []).0 u)) ∙ q in unequal (cc)

  -- so the answer is that of the plan that was read
  pub cell_of_plan : (row n i : ℕ) (k : List ℕ) → answer_of (place_for (record_at rows (row - 1)) (field_of n i) k).0 (cell_at rows count t k row n i) ≡ cell_from (Paper.plan p) row (field_of n i) k
  unfolding cell_at
  cell_of_plan row n i k = at (field_of n i) refl
    where
      by : (f : CellField) (c : Cell) → field_of n i ≡ some f → cell_in p.rows row f k ≡ c → answer_of (place_for (record_at rows (row - 1)) (some f) k).0 c ≡ answer_of (source_of (cell_in p.rows row f []) c) c
      by f (cell x d o m) e q = ap (λ (s : Source). shows s x d o m) (source_is row n i f k x d o m e q)
      by f no_cell e q = refl

      at : (g : Option CellField) → field_of n i ≡ g → answer_of (place_for (record_at rows (row - 1)) g k).0 (cell_for rows count t k row g) ≡ cell_from (Paper.plan p) row g k
      at none e = refl
      at (some f) e = ap (answer_of (place_for (record_at rows (row - 1)) (some f) k).0) (plans_cell row f k) ∙ by f (cell_in p.rows row f k) e refl

-- ---- what is promised

-- a refusal, whatever refused
pub refuses : (a : Cells.Answer) (out : List ℕ) (n k i : ℕ) → a ≡ refusal n k i → Promised a out (Err (refused_with n k i)) out
refuses a out n k i e = rw e (record { result_is = refl; room_is = refl })

-- what the code answers of a cell, and lays of its text, is what is answered of document 01's cell at its place
module _ (rows : List ℕ) (count : ℕ) (t k : List ℕ) (row n i : ℕ) where
  abbrev place : Source × ℕ
  place = place_for (record_at rows (row - 1)) (field_of n i) k

  abbrev asked : Cell
  asked = cell_at rows count t k row n i

  pub laid_cell : (s : Shown) → values_of (Ok s) ≡ values_at rows count t k row n i → (v out : List ℕ) → v ≡ text_of asked → (len : ℕ) (out' : List ℕ)
      → (len ≡ 0 + length v) × (out' ≡ laid out 0 v) → Promised (answer_of place.0 asked) out (Ok (cell_with s.source len s.more s.omitted s.zero)) out'
  unfolding values_at
  laid_cell s e v out q len out' w = at place asked e q
    where
      at : (p : Source × ℕ) (c : Cell) → values_of (Ok s) ≡ values_as p c → v ≡ text_of c → Promised (answer_of p.0 c) out (Ok (cell_with s.source len s.more s.omitted s.zero)) out'
      at p (cell x d o m) e q =
          record { result_is = rw (w.0, zero-add (length v), q) (ap (λ (u : Values). Ok (cell_with u.source (length x) u.more u.omitted u.zero)) e); room_is = w.1 ∙ ap (laid out 0) q }
      at p no_cell e q = let z = ap (λ (u : Values). u.refusal.number) e in absurd (omega (arith, z))

  pub no_such_cell : (x : NoCell) → values_of (Err x) ≡ values_at rows count t k row n i → (out : List ℕ) → Promised (answer_of place.0 asked) out (Err (refused_with 1 0 0)) out
  unfolding values_at
  no_such_cell x e out = at place asked e
    where
      at : (p : Source × ℕ) (c : Cell) → values_of (Err x) ≡ values_as p c → Promised (answer_of p.0 c) out (Err (refused_with 1 0 0)) out
      at p (cell x d o m) e = let z = ap (λ (u : Values). u.refusal.number) e in absurd (omega (arith, z))
      at p no_cell e = record { result_is = refl; room_is = refl }

-- reading gave a plan: these numbers show it, and each of its cells has room
pub record Readable (a : Paper.Answer) (q : Code.Plan) (rows text : List ℕ) : Type 0 where
  pub plan : Said.Plan
  pub is_plan_lem : a ≡ Paper.plan plan
  pub laid : Laid plan text q.rows rows
  pub short : (row : ℕ) (f : CellField) (k t : List ℕ) (d : Bool) (o : ℕ) (m : Bool) → cell_in plan.rows row f k ≡ cell t d o m → length t ≤ 80

given_readable : (f : List (List ℕ)) (a : Paper.Answer) (rows text : List ℕ) (q : Code.Plan) → ((p : Said.Plan) → a ≡ Paper.plan p → Paper.read f ≡ Paper.plan p) → Reads.Reads a q rows₀ text₀ rows text
    → Readable a q rows text
given_readable f a rows text q g R =
    let p = R.plan in
    let e = g p R.answer_is in
    let s = (read_sound f p e).0 in
    let more : List ℕ = drop (0 + length (plan_rows p)) rows₀ in
    let rest : List ℕ = drop (0 + length (Layout.text_of p)) text₀ in
    record {
      plan = p;
      is_plan_lem = R.answer_is;
      laid = rw (R.plan_is, R.rows_are, R.text_is) (record {
        shows = ap (λ (x : Said.Plan). x.rows) (sound_back p rest more s);
        fit = (plan_fit p rest more s).1;
        room = omega (arith, length-append (plan_rows p) more, rows_size (length (concat (head_values p.head))) p.rows);
      });
      short = cell_fits f p e;
    }

-- what reading gives for a call with room enough
module _ (out b ss ns : List ℕ) (h : 80 ≤ length out) (rows text : List ℕ) where
  read_as : (r : Result Code.Plan Refusal) → Reads.Promised (Reads.answered rows₀ text₀ b ss ns) rows₀ text₀ r rows text → Reads.Promised (cell_call (length out) b ss ns) rows₀ text₀ r rows text
  read_as r R = read_here b ss ns rows text r (cell_call (length out) b ss ns) (roomy_call out b ss ns h) R

  -- reading refused the pages
  pub nothing_shown : (catalogue : List ℕ) (row field which : ℕ) (x : Refusal) → Reads.Refuses (Reads.answered rows₀ text₀ b ss ns) x rows₀ text₀ rows text
      → Promised (answered out b ss ns catalogue row field which) out (Err (refused (Reader.numbers_of x))) out
  nothing_shown catalogue row field which x R =
      refuses (answered out b ss ns catalogue row field which) out _ _ _ (ap (λ (a : Paper.Answer). cell_from a row (field_of field which) catalogue) (read_as (Err x) R).answer_is)

  -- reading gave a plan
  pub readable : (q : Code.Plan) → Reads.Reads (Reads.answered rows₀ text₀ b ss ns) q rows₀ text₀ rows text → Readable (cell_call (length out) b ss ns) q rows text
  readable q R = given_readable (pages_at b ss ns) (cell_call (length out) b ss ns) rows text q (plan_read out b ss ns) (read_as (Ok q) R)

module _ {a : Paper.Answer} {q : Code.Plan} {rows text : List ℕ} (G : Readable a q rows text) (k : List ℕ) (row n i : ℕ) where
  -- the cell's text has room
  pub cell_short : (out : List ℕ) → 80 ≤ length out → length (text_of (cell_at rows q.rows text k row n i)) ≤ length out
  unfolding cell_at
  cell_short out h = at (field_of n i)
    where
      by : (f : CellField) (c : Cell) → cell_in G.plan.rows row f k ≡ c → length (text_of c) ≤ length out
      by f (cell t d o m) e = omega (arith, h, G.short row f k t d o m e)
      by f no_cell e = omega arith

      at : (g : Option CellField) → length (text_of (cell_for rows q.rows text k row g)) ≤ length out
      at none = omega arith
      at (some f) = by f (cell_for rows q.rows text k row (some f)) (sym (plans_cell G.laid row f k))

  -- what is laid of the cell is the documents' answer
  pub cell_laid : (out : List ℕ) (r : Result CellShown Refused) (out' : List ℕ)
      → Promised (answer_of (place_for (record_at rows (row - 1)) (field_of n i) k).0 (cell_at rows q.rows text k row n i)) out r out' → Promised (cell_from a row (field_of n i) k) out r out'
  cell_laid out r out' P =
      subst (λ (x : Cells.Answer). Promised x out r out') (cell_of_plan G.laid row n i k ∙ sym (ap (λ (x : Paper.Answer). cell_from x row (field_of n i) k) G.is_plan_lem)) P

-- ---- the border

-- what is handed out are the numbers of the result
pub handed : (a : Cells.Answer) (out : List ℕ) (r : Result CellShown Refused) (out' : List ℕ) → Promised a out r out' → Handed a out (numbers_of r).number out' (told_of r)
handed a out r out' P =
    record { number_is = ap (λ (x : Result CellShown Refused). (numbers_of x).number) P.result_is; told_is = ap told_of P.result_is; room_is = P.room_is }
