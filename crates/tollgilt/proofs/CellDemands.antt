-- CellDemands: what is asked of a printed cell, carried over to what `cell_pages` gives. Each statement is about results that meet its promise (`Shows`), and holds
-- for any call.
-- Assumes nothing.
use mathlib.Core.Path.{◌≡◌, refl, ap, sym, ◌∙◌, subst}
use mathlib.Core.Logic.{◌↔◌, ◌⊎◌, inl, inr}
use mathlib.Core.Bool.{Bool, true, false}
use mathlib.Core.List.{List, [], ◌∷◌}
use mathlib.Core.Option.{Option, none, some}
use Prim.Native.Nat.{ℕ, ◌+◌, ◌≤◌, ◌<◌}
use native.Mathlib.Omega.{arith}
use lib.Dec.{leb}
use lib.ListN.{length, take, drop, length-append}
use lib.Seq.{length-take-le, take-append_seam}
use Rattle.std.specs.Prelude.{Result, Ok}
use Rattle.paper.specs.Lists.{if, is_empty}
use Rattle.paper.specs.Plan as Said
use Rattle.paper.specs.Plan.{Row}
use Rattle.paper.specs.Reading as Paper
use Rattle.paper.specs.Cells.{CellField, Cell, cell, no_cell, own_or, cell_in}
use Rattle.paper.specs.Calls.{cell_room, inside, pages_at, read_at, cell_call}
use Rattle.paper.proofs.Small.{unequal}
use Rattle.paper.proofs.AnyOrder as Orders
use Rattle.paper.proofs.AnyOrder.{Perm}
use Rattle.paper.proofs.CallLaws.{reads_pages}
use Rattle.paper.proofs.Causes.{NoSuchCell}
use Rattle.paper.proofs.CellLaws as CellLaws
use Rattle.paper.proofs.CellLaws.{Limit, limit_roomy, DoseCell, RowAt, row_one, own, plans, catalogues, Part, whole, begun, begins_near, begins_some, is_cell, no_cell_lem, part_of, whole_again, no_catalogue, never_cut, flagged}
use Rattle.paper.proofs.CellRoom.{cell_fits}
use Rattle.room.specs.Laid.{laid}
use Rattle.cell.specs.Numbered.{field_of}
use Rattle.cell.specs.declared.answer.Source.TheVariants.{Plan, Catalogue, Neither}
use Rattle.tollgilt.specs.Cells.{Promised, answered, source_of, answer_of, cell_from, cell_with}
use Rattle.tollgilt.specs.Refused.{numbers_of}
use Rattle.tollgilt.specs.declared.cells.CellShown.{CellShown}
use Rattle.tollgilt.specs.declared.refused.Refused.{Refused}
use Rattle.tollgilt.proofs.ListLaws.{call_plan}
use Rattle.tollgilt.proofs.FindDemands.{roomy_plan}
use Rattle.tollgilt.proofs.Unique.{cell_once}

-- what a call of `cell_pages` gives: the room as lent, the pages handed in, the catalogue's text, the row, the field, which of three, the result, and the room as handed back
abbrev pub Shows : List ℕ → List ℕ → List ℕ → List ℕ → List ℕ → ℕ → ℕ → ℕ → Result CellShown Refused → List ℕ → Type 0
Shows out b ss ns k row n i r out' = Promised (answered out b ss ns k row n i) out r out'

-- the text that it lays
abbrev pub text_shown : CellShown → List ℕ → List ℕ
text_shown r out' = take r.length out'

-- the pages of a call are a plan, and this is the cell of its row's field, with its text, flag, how much was left out, and mark
pub record Printed (b ss ns k : List ℕ) (row n i : ℕ) (r : CellShown) (out' : List ℕ) : Type 0 where
  pub plan : Said.Plan
  pub field : CellField
  pub is_plan_lem : read_at true b ss ns ≡ Paper.plan plan
  pub is_field : field_of n i ≡ some field
  pub lies : r.length ≤ length out'
  pub is_cell : cell_in plan.rows row field k ≡ cell (text_shown r out') r.more r.omitted r.zero
  pub source_is : r.source ≡ source_of (cell_in plan.rows row field []) (cell_in plan.rows row field k)

-- ---- document 01's cell with a limit, and the row's own value

-- what is shown of a text is empty exactly where the text is
part_empty : (n : ℕ) (v t : List ℕ) (d : Bool) (o : ℕ) → 3 < n → Part n v t d o → is_empty t ≡ is_empty v
part_empty n v t d o h (whole l) = refl
part_empty n v t d o h (begun l i b) =
    let near = (begins_near n v i b).0 in
    let some = begins_some n v i h b in
    by (take i v) v (omega (arith, length-take-le i v (omega arith))) (omega arith)
  where
    by : (x v : List ℕ) → 1 ≤ length x → 1 ≤ length v → is_empty x ≡ is_empty v
    by [] v g l = absurd (omega arith)
    by (c ∷ x) [] g l = absurd (omega arith)
    by (c ∷ x) (d ∷ v) g l = refl

module _ (rs : List Row) (j n : ℕ) (f : CellField) (l : Limit f n) (q : Row) (a : RowAt rs j q) where
  -- what it shows is a part of the row's own value, else of the catalogue's text
  part_whole : (k t : List ℕ) (d : Bool) (o : ℕ) (m : Bool) → cell_in rs j f k ≡ cell t d o m → Part n (own_or (own f q) k) t d o
  part_whole k t d o m e =
      let C = part_of rs j n f k t d o m l e in
      let one : C.row ≡ q = row_one rs j C.row q C.there a in
      subst (λ (v : List ℕ). Part n v t d o) (from (own f C.row) C.text C.from ∙ ap (λ (x : Row). own_or (own f x) k) one) C.part
    where
      from : (v x : List ℕ) → CellLaws.Source v k x → x ≡ own_or v k
      from [] x (catalogues e) = refl
      from [] x (plans h) = absurd (h refl)
      from (c ∷ v) x (catalogues e) = unequal (cc)
      from (c ∷ v) x (plans h) = refl

  -- where it comes from
  source_whole : (k t : List ℕ) (d : Bool) (o : ℕ) (m : Bool) → cell_in rs j f k ≡ cell t d o m
      → source_of (cell_in rs j f []) (cell_in rs j f k) ≡ if (is_empty (own f q)) (if (is_empty k) Neither Catalogue) Plan
  source_whole k t d o m e =
      let (t₀, d₀, o₀, m₀, e₀) = (is_cell rs j f []).1 ((is_cell rs j f k).0 (t, d, o, m, e)) in
      rw (e, e₀, part_empty n (own_or (own f q) []) t₀ d₀ o₀ (limit_roomy f n l) (part_whole [] t₀ d₀ o₀ m₀ e₀), part_empty n (own_or (own f q) k) t d o (limit_roomy f n l) (part_whole k t d o m e)) (by (own f q) k)
    where
      by : (v k : List ℕ) → if (is_empty (own_or v [])) (if (is_empty (own_or v k)) Neither Catalogue) Plan ≡ if (is_empty v) (if (is_empty k) Neither Catalogue) Plan
      by [] [] = refl
      by [] (c ∷ k) = refl
      by (c ∷ v) k = refl

-- ---- what a call gives

-- the room begins with what is laid there
laid_first : (r : CellShown) (t out out' : List ℕ) → r.length ≡ length t → out' ≡ laid out 0 t → text_shown r out' ≡ t
laid_first r t out out' e q = rw (e, q) (take-append_seam t (drop (0 + length t) out))

module _ (out b ss ns k : List ℕ) (row n i : ℕ) (r : CellShown) (out' : List ℕ) (F : Shows out b ss ns k row n i (Ok r) out') where
  -- Where the call is not refused, what is told and laid is the documents' cell of the pages' plan.
  pub printed : Printed b ss ns k row n i r out'
  unfolding cell_call
  printed = at (cell_call (length out) b ss ns) refl F
    where
      by : (p : Said.Plan) (f : CellField) (c : Cell) → read_at true b ss ns ≡ Paper.plan p → field_of n i ≡ some f → cell_in p.rows row f k ≡ c
          → Promised (answer_of (source_of (cell_in p.rows row f []) c) c) out (Ok r) out' → Printed b ss ns k row n i r out'
      by p f no_cell e g q P = unequal (cc (P.result_is))
      by p f (cell t d o m) e g q P =
          let R : r ≡ cell_with (source_of (cell_in p.rows row f []) (cell t d o m)) (length t) d o m = cc (P.result_is) in
          let text : text_shown r out' ≡ t = laid_first r t out out' (ap (λ (x : CellShown). x.length) R) P.room_is in
          record {
            plan = p;
            field = f;
            is_plan_lem = e;
            is_field = g;
            lies = omega (arith, ap (λ (x : CellShown). x.length) R, ap length P.room_is, length-append t (drop (0 + length t) out));
            is_cell = q ∙ rw text (sym (ap (λ (x : CellShown). cell t x.more x.omitted x.zero) R));
            source_is = ap (λ (x : CellShown). x.source) R ∙ ap (λ (c : Cell). source_of (cell_in p.rows row f []) c) (sym q);
          }

      of_field : (p : Said.Plan) (g : Option CellField) → read_at true b ss ns ≡ Paper.plan p → field_of n i ≡ g → Promised (cell_from (Paper.plan p) row g k) out (Ok r) out' → Printed b ss ns k row n i r out'
      of_field p none e q P = unequal (cc (P.result_is))
      of_field p (some f) e q P = by p f (cell_in p.rows row f k) e q refl P

      at : (a : Paper.Answer) → cell_call (length out) b ss ns ≡ a → Promised (cell_from a row (field_of n i) k) out (Ok r) out' → Printed b ss ns k row n i r out'
      at (Paper.refusal m j l) e P = unequal (cc (P.result_is))
      at (Paper.plan p) e P = of_field p (field_of n i) (roomy_plan (leb cell_room (length out)) b ss ns p e) refl P

  -- its plan's rows, and its field
  abbrev rows_of : List Row
  rows_of = printed.plan.rows

  abbrev f : CellField
  f = printed.field

  -- The text has at most 80 bytes.
  pub text_short : length (text_shown r out') ≤ cell_room
  text_short = cell_fits (pages_at b ss ns) printed.plan (call_plan true b ss ns printed.plan printed.is_plan_lem) row f k (text_shown r out') r.more r.omitted r.zero printed.is_cell

  -- "a flag that '...' follows": it is set exactly where something was left out
  pub flag_exactly : (r.more ≡ true) ↔ (1 ≤ r.omitted)
  flag_exactly = flagged rows_of row f k (text_shown r out') r.more r.omitted r.zero printed.is_cell

  -- "Dose cells stay uncut."
  pub dose_whole : DoseCell f → (r.more ≡ false) × (r.omitted ≡ 0)
  dose_whole d = never_cut rows_of row f k (text_shown r out') r.more r.omitted r.zero d printed.is_cell

  -- "how many characters were left out": with what is shown, they are the whole text, which is the row's own value, else the catalogue's.
  pub nothing_lost : (m : ℕ) → Limit f m → (q : Row) → RowAt rows_of row q → length (text_shown r out') + r.omitted ≡ length (own_or (own f q) k)
  nothing_lost m l q a = whole_again m (own_or (own f q) k) (text_shown r out') r.more r.omitted (part_whole rows_of row m f l q a k (text_shown r out') r.more r.omitted r.zero printed.is_cell)

  -- "The cell shows the plan's own text if there …, else the catalogue's …; with neither it is empty."
  pub own_first : (m : ℕ) → Limit f m → (q : Row) → RowAt rows_of row q → r.source ≡ if (is_empty (own f q)) (if (is_empty k) Neither Catalogue) Plan
  own_first m l q a = printed.source_is ∙ source_whole rows_of row m f l q a k (text_shown r out') r.more r.omitted r.zero printed.is_cell

  -- "A dose cell never uses the catalogue": its text is the plan's, and the same with any catalogue
  pub dose_source : DoseCell f → r.source ≡ if (is_empty (text_shown r out')) Neither Plan
  dose_source d =
      let same : cell_in rows_of row f [] ≡ cell_in rows_of row f k = no_catalogue rows_of row f [] k d in
      printed.source_is ∙ rw (same, printed.is_cell) (by (text_shown r out'))
    where
      by : (t : List ℕ) → if (is_empty t) (if (is_empty t) Neither Catalogue) Plan ≡ if (is_empty t) Neither Plan
      by [] = refl
      by (c ∷ t) = refl

  -- Nor does the order of scanning matter: the same pages in another order give the same cell.
  pub any_order : (b₂ ss₂ ns₂ : List ℕ) (r₂ : Result CellShown Refused) (out₂' : List ℕ) → Shows out b₂ ss₂ ns₂ k row n i r₂ out₂' → inside b₂ ss₂ ns₂ ≡ true → Perm (pages_at b ss ns) (pages_at b₂ ss₂ ns₂)
      → (Ok r ≡ r₂) × (out' ≡ out₂')
  unfolding cell_call read_at
  any_order b₂ ss₂ ns₂ r₂ out₂' G h m = cell_once (answered out b ss ns k row n i) out (Ok r) r₂ out' out₂' F (subst (λ (a : Paper.Answer). Promised (cell_from a row (field_of n i) k) out r₂ out₂') (sym (same (leb cell_room (length out)))) G)
    where
      there : read_at true b₂ ss₂ ns₂ ≡ Paper.plan printed.plan
      there = reads_pages b₂ ss₂ ns₂ h ∙ Orders.any_order (pages_at b ss ns) (pages_at b₂ ss₂ ns₂) printed.plan m (call_plan true b ss ns printed.plan printed.is_plan_lem)

      same : (x : Bool) → read_at x b ss ns ≡ read_at x b₂ ss₂ ns₂
      same true = printed.is_plan_lem ∙ sym there
      same false = refl

-- Pages that are a plan are refused with 1 exactly where there is no such cell: the field does not exist, or the plan has no such row or none of three.
pub refused_exactly : (out b ss ns k : List ℕ) (row n i : ℕ) (r : Result CellShown Refused) (out' : List ℕ) → Shows out b ss ns k row n i r out' → (p : Said.Plan) → cell_call (length out) b ss ns ≡ Paper.plan p
    → ((numbers_of r).number ≡ 1) ↔ ((field_of n i ≡ none) ⊎ ((f : CellField) × (field_of n i ≡ some f) × NoSuchCell p.rows row f))
refused_exactly out b ss ns k row n i r out' F p e = at (field_of n i) refl (subst (λ (a : Paper.Answer). Promised (cell_from a row (field_of n i) k) out r out') e F)
  where
    Why : Type 0
    Why = (field_of n i ≡ none) ⊎ ((f : CellField) × (field_of n i ≡ some f) × NoSuchCell p.rows row f)

    by : (f : CellField) (c : Cell) → field_of n i ≡ some f → cell_in p.rows row f k ≡ c → Promised (answer_of (source_of (cell_in p.rows row f []) c) c) out r out' → ((numbers_of r).number ≡ 1) ↔ Why
    by f no_cell g q P = (λ u. inr (f, g, (no_cell_lem p.rows row f k).0 q), λ w. ap (λ (x : Result CellShown Refused). (numbers_of x).number) P.result_is)
    by f (cell t d o m) g q P = (λ u. let y : (numbers_of r).number ≡ 0 = ap (λ (x : Result CellShown Refused). (numbers_of x).number) P.result_is in absurd (omega arith), λ w. clash w)
      where
        clash : Why → (numbers_of r).number ≡ 1
        clash (inl u) = unequal (cc)
        clash (inr (h, u, w)) = let same : h ≡ f = cc in let z : no_cell ≡ cell t d o m = sym ((no_cell_lem p.rows row f k).1 (subst (NoSuchCell p.rows row) same w)) ∙ q in unequal (cc)

    at : (g : Option CellField) → field_of n i ≡ g → Promised (cell_from (Paper.plan p) row g k) out r out' → ((numbers_of r).number ≡ 1) ↔ Why
    at none g P = (λ u. inl g, λ w. ap (λ (x : Result CellShown Refused). (numbers_of x).number) P.result_is)
    at (some f) g P = by f (cell_in p.rows row f k) g refl P
