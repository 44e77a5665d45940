-- CellInput: what plancell prints: the cell that its input asks for, whose lines fit the room.
-- Assumes nothing.
use mathlib.Core.Path.{◌≡◌, refl, ap, sym, ◌∙◌, subst}
use mathlib.Core.Bool.{Bool, true, false, ◌&&◌}
use mathlib.Core.List.{List, [], ◌∷◌}
use mathlib.Core.Option.{Option, none, some}
use Prim.Native.Nat.{ℕ, suc, ◌+◌, ◌-◌, ◌≤◌, ◌<◌}
use native.Mathlib.Omega.{arith}
use lib.Dec.{leb, ltb}
use lib.ListN.{length, take, drop, length-take, length-drop}
use lib.Seq.{take_all, take-take}
use borrow.Author.Tests.{le-leb, lt-leb, leb-true, leb-false, lt-ltb, le-ltb}
use Rattle.std.specs.Prelude.{Option as Maybe, Some, Ok, Err}
use Rattle.paper.specs.Lists.{bytes, if}
use Rattle.paper.specs.Plan as Said
use Rattle.paper.specs.Reading as Paper
use Rattle.paper.specs.Reading.{read}
use Rattle.paper.specs.Listing.{Line, line, numeral, print, parted, refusal_lines}
use Rattle.paper.specs.Cells.{CellField, Cell, cell, no_cell, cell_in}
use Rattle.paper.specs.Calls.{read_at}
use Rattle.paper.proofs.Small.{below_at, unequal}
use Rattle.paper.proofs.Rooms.{line_length, refusal_short}
use Rattle.paper.proofs.CellRoom.{cell_fits, left_short}
use Rattle.room.specs.Laid.{laid}
use Rattle.listing.specs.Split.{to_zero}
use Rattle.room.specs.Written.{Wrote}
use Rattle.listing.proofs.Fielded.{print_append}
use Rattle.room.proofs.Pieces.{Going, going_fits, going_on}
use Rattle.cell.specs.Numbered.{field_of}
use Rattle.cell.specs.Answers.{source_number}
use Rattle.cell.specs.declared.answer.Source.{Source}
use Rattle.cell.specs.declared.answer.Source.TheVariants.{Plan, Catalogue, Neither}
use Rattle.tollgilt.specs.Cells as Cells
use Rattle.tollgilt.specs.Cells.{source_of, answer_of, cell_from, answered, Promised, flag_number}
use Rattle.tollgilt.specs.Printed.{refusal, prints, asked, shown_lines, cell_lines, cell_printed, cell_behind, plancell, cell_lines_room, cell_answer, length_of, length_told, Prints}
use Rattle.tollgilt.specs.declared.cells.CellShown.{CellShown}
use Rattle.tollgilt.specs.Refused.{refused_with}
use Rattle.tollgilt.specs.declared.refused.Refused.{Refused}
use Rattle.tollgilt.proofs.CellLaws.{roomy_call}
use Rattle.tollgilt.proofs.CellDemands.{printed}
use Rattle.tollgilt.proofs.InputLaws.{bytes_printed}
use Rattle.tollgilt.proofs.FindInput.{asked_short, zero_among, zero_there, zero_late, part_of, first_asked}

-- ---- one line behind the other

-- the lines of a cell, with the numbers of its flag and its mark
abbrev pub five_lines : ℕ → ℕ → ℕ → ℕ → List ℕ → List Line
five_lines s d o m t = line (bytes "source") (numeral s) ∷ line (bytes "cut") (numeral d) ∷ line (bytes "left") (numeral o) ∷ line (bytes "zero") (numeral m) ∷ line (bytes "text") t ∷ []

pub five_shown : (s : ℕ) (d : Bool) (o : ℕ) (m : Bool) (t : List ℕ) (x y : ℕ) → x ≡ flag_number d → y ≡ flag_number m → shown_lines s d o m t ≡ print (five_lines s x o y t)
unfolding shown_lines
five_shown s d o m t x y e q = rw (e, q)

-- the next line fits where the rest does, and once it is written, the rest is to come
module _ (l : Line) (ls : List Line) {o o₁ all : List ℕ} {n : ℕ} (G : Going o o₁ 0 n all (print (l ∷ ls))) where
  pub next_fits : n + length (print (l ∷ [])) ≤ length o₁
  next_fits = going_fits G (print (l ∷ [])) (print ls) (print_append (l ∷ []) ls)

  pub next_on : {o₂ : List ℕ} {m : ℕ} → Wrote o₁ o₂ n m (print (l ∷ [])) → Going o o₂ 0 m all (print ls)
  next_on w = going_on G (print (l ∷ [])) (print ls) (print_append (l ∷ []) ls) w

-- ---- the lines are short

one_digit : (n : ℕ) → n ≤ 2 → length (numeral n) ≤ 1
one_digit n h = leb-true (length (numeral n)) 1 (below_at 3 (λ m. leb (length (numeral m)) 1) refl n (omega arith))

four_digits : (n : ℕ) → n ≤ 1000 → length (numeral n) ≤ 4
four_digits n h = leb-true (length (numeral n)) 4 (below_at 1001 (λ m. leb (length (numeral m)) 4) refl n (omega arith))

source_low : (s : Source) → source_number s ≤ 2
source_low Plan = omega arith
source_low Catalogue = omega arith
source_low Neither = omega arith

flag_low : (b : Bool) → flag_number b ≤ 2
flag_low true = omega arith
flag_low false = omega arith

lines_short : (s : Source) (d : Bool) (o : ℕ) (m : Bool) (t : List ℕ) → length t ≤ 80 → o ≤ 1000 → length (shown_lines (source_number s) d o m t) ≤ 118
unfolding shown_lines
lines_short s d o m t h g =
    let text : List Line = line (bytes "text") t ∷ [] in
    let zero : List Line = line (bytes "zero") (numeral (flag_number m)) ∷ text in
    let left : List Line = line (bytes "left") (numeral o) ∷ zero in
    let cut : List Line = line (bytes "cut") (numeral (flag_number d)) ∷ left in
    omega (
      arith,
      line_length (bytes "source") (numeral (source_number s)) cut,
      line_length (bytes "cut") (numeral (flag_number d)) left,
      line_length (bytes "left") (numeral o) zero,
      line_length (bytes "zero") (numeral (flag_number m)) text,
      line_length (bytes "text") t [],
      one_digit (source_number s) (source_low s),
      one_digit (flag_number d) (flag_low d),
      one_digit (flag_number m) (flag_low m),
      four_digits o g,
    )

-- those of any cell that is asked for, or of a refusal
pub printed_short : (row n i : ℕ) (k s : List ℕ) → length k ≤ 1000 → length (cell_printed row n i k s) ≤ 118
unfolding cell_printed
printed_short row n i k s h = at (read (parted (take 12609 s))) refl (field_of n i)
  where
    by : (p : Said.Plan) (f : CellField) (c : Cell) → read (parted (take 12609 s)) ≡ Paper.plan p → cell_in p.rows row f k ≡ c → length (cell_lines (answer_of (source_of (cell_in p.rows row f []) c) c)) ≤ 118
    by p f no_cell e q = omega (arith, refusal_short 1 0 0)
    by p f (cell t d o m) e q =
        lines_short (source_of (cell_in p.rows row f []) (cell t d o m)) d o m t (cell_fits (parted (take 12609 s)) p e row f k t d o m q) (omega (arith, left_short (parted (take 12609 s)) p e row f k t d o m q))

    at : (a : Paper.Answer) → read (parted (take 12609 s)) ≡ a → (g : Option CellField) → length (cell_lines (cell_from a row g k)) ≤ 118
    at (Paper.refusal m j l) e g = omega (arith, refusal_short m j l)
    at (Paper.plan p) e none = omega (arith, refusal_short 1 0 0)
    at (Paper.plan p) e (some f) = by p f (cell_in p.rows row f k) e refl

-- ---- the catalogue's text

-- where the first zero byte stands, or the end of what is left of the input
module _ (row n i : ℕ) (s : List ℕ) (e : ℕ) (found : e ≡ 0 + to_zero s) (inside : e ≤ length s) where
  z : e ≡ to_zero s
  z = omega arith

  -- there is no zero byte
  pub no_end : length s ≤ e → refusal_lines 1 0 0 ≡ cell_behind row n i s
  unfolding cell_behind
  no_end h = rw (le-ltb (to_zero s) (length s) (omega (arith, z)))

  -- there are too many bytes before it
  pub too_long : e < length s → 1000 < e → refusal_lines 1 0 0 ≡ cell_behind row n i s
  unfolding cell_behind
  too_long l h = rw (lt-ltb (to_zero s) (length s) (omega (arith, z)), lt-leb (to_zero s) 1000 (omega (arith, z)))

  -- the text, and the pages behind it
  pub a_catalogue : e < length s → e ≤ 1000 → cell_printed row n i (take e s) (take (length s - (e + 1)) (drop (e + 1) s)) ≡ cell_behind row n i s
  unfolding cell_behind
  a_catalogue l h =
      let behind : e + 1 ≡ suc (to_zero s) = omega (arith, z) in
      let rest : take (length s - (e + 1)) (drop (e + 1) s) ≡ drop (suc (to_zero s)) s = take_all (length s - (e + 1)) (drop (e + 1) s) (omega (arith, length-drop (e + 1) s)) ∙ ap (λ (k : ℕ). drop k s) behind in
      rw (lt-ltb (to_zero s) (length s) (omega (arith, z)), le-leb (to_zero s) 1000 (omega (arith, z)), rest, z)

-- what is printed behind the three numbers fits
pub behind_short : (row n i : ℕ) (s : List ℕ) → length (cell_behind row n i s) ≤ 118
unfolding cell_behind
behind_short row n i s = at (ltb (to_zero s) (length s)) (leb (to_zero s) 1000) refl
  where
    at : (a b : Bool) → leb (to_zero s) 1000 ≡ b → length (if (a && b) (cell_printed row n i (take (to_zero s) s) (drop (suc (to_zero s)) s)) (refusal_lines 1 0 0)) ≤ 118
    at true true e = printed_short row n i (take (to_zero s) s) (drop (suc (to_zero s)) s) (omega (arith, leb-true (to_zero s) 1000 e, length-take (to_zero s) s))
    at true false e = omega (arith, refusal_short 1 0 0)
    at false b e = omega (arith, refusal_short 1 0 0)

-- what is printed behind the row's number
abbrev pub behind_row : ℕ → List ℕ → List ℕ
behind_row row = asked (λ n. asked (cell_behind row n))

pub cell_short : (s : List ℕ) → length (plancell s) ≤ 118
unfolding plancell
cell_short s = asked_short behind_row s 118 (omega arith) (λ row t. asked_short (λ n. asked (cell_behind row n)) t 118 (omega arith) (λ n u. asked_short (cell_behind row n) u 118 (omega arith) (behind_short row n)))

-- ---- what is printed

-- the cell of pages, laid into a room of its own
module _ (row n i : ℕ) (k input room₀ ss ns : List ℕ) (room' : List ℕ) (long : length room₀ ≡ 80) (few : length k ≤ 1000) (handed_in : read_at true input ss ns ≡ read (parted (take 12609 input))) where
  -- a cell: its numbers and its text
  pub cell_listed : (r : CellShown) → Promised (answered room₀ input ss ns k row n i) room₀ (Ok r) room'
      → (r.length ≤ length room') × (r.omitted ≤ 1000) × (shown_lines (source_number r.source) r.more r.omitted r.zero (take r.length room') ≡ cell_printed row n i k input)
  unfolding cell_printed
  cell_listed r P =
      let D = printed room₀ input ss ns k row n i r room' P in
      let plan_is : read (parted (take 12609 input)) ≡ Paper.plan D.plan = sym handed_in ∙ D.is_plan_lem in
      let c = cell_in D.plan.rows row D.field k in
      let s = source_of (cell_in D.plan.rows row D.field []) c in
      let lines : shown_lines (source_number r.source) r.more r.omitted r.zero (take r.length room') ≡ cell_lines (answer_of s c)
      = ap (λ (x : Source). shown_lines (source_number x) r.more r.omitted r.zero (take r.length room')) D.source_is ∙ sym (ap (λ (x : Cell). cell_lines (answer_of s x)) D.is_cell) in
      let given : cell_lines (cell_from (read (parted (take 12609 input))) row (field_of n i) k) ≡ cell_lines (answer_of s c) = ap (λ (a : Paper.Answer). cell_lines (cell_from a row (field_of n i) k)) plan_is
      ∙ ap (λ (g : Option CellField). cell_lines (cell_from (Paper.plan D.plan) row g k)) D.is_field in
      (D.lies, omega (arith, left_short (parted (take 12609 input)) D.plan plan_is row D.field k (take r.length room') r.more r.omitted r.zero D.is_cell), lines ∙ sym given)

  -- a refusal: its lines
  pub refusal_shown : (e : Refused) → Promised (answered room₀ input ss ns k row n i) room₀ (Err e) room' → refusal_lines e.number e.page e.place ≡ cell_printed row n i k input
  unfolding cell_printed
  refusal_shown e P = at (cell_from (read (parted (take 12609 input))) row (field_of n i) k) (subst (λ (a : Paper.Answer). Promised (cell_from a row (field_of n i) k) room₀ (Err e) room') (roomy_call room₀ input ss ns (omega arith) ∙ handed_in) P)
    where
      at : (a : Cells.Answer) → Promised a room₀ (Err e) room' → refusal_lines e.number e.page e.place ≡ cell_lines a
      at (Cells.refusal m j l) Q = let p : e ≡ refused_with m j l = cc (Q.result_is) in ap (λ (x : Refused). refusal_lines x.number x.page x.place) p
      at (Cells.shows s t d o m) Q = unequal (cc (Q.result_is))

-- too little room is refusal 1
pub cell_no_room : (out input : List ℕ) → length out < 118 → cell_answer out input ≡ refusal 1 0 0
unfolding cell_answer
cell_no_room out input h = rw (lt-leb cell_lines_room (length out) h)

-- with room enough, what is printed is laid
pub cell_printed_lem : (out input w : List ℕ) → 118 ≤ length out → w ≡ asked behind_row input → (n : ℕ) (out' : List ℕ) → (n ≡ length w) × (out' ≡ laid out 0 w) → Prints (cell_answer out input) out (Some n) out'
unfolding cell_answer plancell
cell_printed_lem out input w room e = bytes_printed w out (rw (le-leb cell_lines_room (length out) room, e))

-- what is printed is never longer than the room
pub cell_input_fits : (out input : List ℕ) (r : Maybe ℕ) (out' : List ℕ) → Prints (cell_answer out input) out r out' → length_of r ≤ length out
unfolding cell_answer
cell_input_fits out input r out' P = at (leb cell_lines_room (length out)) refl P.length_is
  where
    at : (b : Bool) → leb cell_lines_room (length out) ≡ b → length_of r ≡ length_told (if b (prints (plancell input)) (refusal 1 0 0)) → length_of r ≤ length out
    at true e q = omega (arith, leb-true cell_lines_room (length out) e, cell_short input)
    at false e q = omega arith

-- ---- the first 13,637 bytes decide: three numbers, a catalogue's text, and what counts behind it

behind_counts : (row n i : ℕ) (s : List ℕ) → cell_behind row n i (take 13610 s) ≡ cell_behind row n i s
unfolding cell_behind cell_printed
behind_counts row n i s = at (leb (to_zero s) 1000) refl
  where
    at : (b : Bool) → leb (to_zero s) 1000 ≡ b → cell_behind row n i (take 13610 s) ≡ cell_behind row n i s
    at true e =
        let h = leb-true (to_zero s) 1000 e in
        let z : to_zero (take 13610 s) ≡ to_zero s = zero_among 13610 s (omega arith) in
        rw (z, zero_there 13610 s (omega arith), take-take (to_zero s) 13610 s (omega arith), part_of 12609 (suc (to_zero s)) 13610 s (omega arith))
    at false e =
        let h = leb-false (to_zero s) 1000 e in
        let l = zero_late 1000 13610 s (omega arith) h in
        none (take 13610 s) l ∙ sym (none s h)
      where
        off : (a : Bool) (w : List ℕ) → if (a && false) w (refusal_lines 1 0 0) ≡ refusal_lines 1 0 0
        off true w = refl
        off false w = refl

        none : (t : List ℕ) → 1000 < to_zero t → cell_behind row n i t ≡ refusal_lines 1 0 0
        none t h = rw (lt-leb (to_zero t) 1000 h) (off (ltb (to_zero t) (length t)) (cell_printed row n i (take (to_zero t) t) (drop (suc (to_zero t)) t)))

-- so the program reads no more of its input
pub first_decide : (s : List ℕ) → plancell (take 13637 s) ≡ plancell s
unfolding plancell
first_decide = first_asked behind_row 13628 (λ row. first_asked (λ n. asked (cell_behind row n)) 13619 (λ n. first_asked (cell_behind row n) 13610 (λ i. behind_counts row n i)))
