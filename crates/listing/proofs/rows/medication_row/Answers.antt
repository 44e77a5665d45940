-- `listing::rows::medication_row`: the mark, the package number, the fields and the substances stand one behind the other.
-- Assumes nothing.
use Rattle.std.proofs.Common.{◌≡◌, ℕ, ◌+◌, ◌≤◌, List, [], ◌∷◌, ◌++◌, length, get_or, arith, rules}
use Rattle.paper.specs.Lists.{bytes}
use Rattle.paper.specs.Fields.{M}
use Rattle.paper.specs.Writing.{decimal}
use Rattle.paper.specs.Listing.{Line, line, path, print}
use Rattle.plan.specs.Numbers.{record_at, span_place}
use Rattle.listing.specs.Numbered.{given, lines_of, substance_lines}
use Rattle.room.proofs.Pieces.{Fits, fits}
use Rattle.room.specs.Written.{Wrote}
use Rattle.listing.proofs.Fielded.{first_lines, other_lines, lines_written}
use Rattle.plan.proofs.Numbered.{spans_inside}
use Rattle.listing.proofs.rows.medication_row.Goals as goal

-- the mark, the package number, the fields and the substances
abbrev mark : List Line
mark = line (bytes "row") (bytes "M") ∷ []

abbrev number : List ℕ → ℕ → List Line
number rows i = given (bytes "MP.S.M.p") (decimal (get_or (record_at rows i) 1 0))

abbrev own : List ℕ → List ℕ → ℕ → List Line
own t rows i = lines_of (path M) 34 13 t (span_place i 0) rows

module _ (t rows : List ℕ) (i : ℕ) {o o₁ : List ℕ} {a b : ℕ} (f : a + length (print (mark ++ (number rows i ++ (own t rows i ++ substance_lines t rows i)))) ≤ length o) (u : Wrote o o₁ a b (print mark)) where
  -- the lines behind the mark fit
  behind_mark : Fits o₁ b (print (number rows i ++ (own t rows i ++ substance_lines t rows i)))
  behind_mark = other_lines mark (number rows i ++ (own t rows i ++ substance_lines t rows i)) (fits f) u

  number_fits : {n : ℕ} → n ≡ get_or (record_at rows i) 1 0 → b + length (print (given (bytes "MP.S.M.p") (decimal n))) ≤ length o₁
  number_fits e = rw e (first_lines (number rows i) (own t rows i ++ substance_lines t rows i) behind_mark).inside

  module _ {n : ℕ} {o₂ : List ℕ} {d : ℕ} (e : n ≡ get_or (record_at rows i) 1 0) (v : Wrote o₁ o₂ b d (print (given (bytes "MP.S.M.p") (decimal n)))) where
    number_in : Wrote o₁ o₂ b d (print (number rows i))
    number_in = rw e at v

    -- and those behind the package number
    behind_number : Fits o₂ d (print (own t rows i ++ substance_lines t rows i))
    behind_number = other_lines (number rows i) (own t rows i ++ substance_lines t rows i) behind_mark number_in

    own_fit : d + length (print (own t rows i)) ≤ length o₂
    own_fit = (first_lines (own t rows i) (substance_lines t rows i) behind_number).inside

    substances_fit : {o₃ : List ℕ} {h : ℕ} → Wrote o₂ o₃ d h (print (own t rows i)) → h + length (print (substance_lines t rows i)) ≤ length o₃
    substances_fit w = (other_lines (own t rows i) (substance_lines t rows i) behind_number w).inside

    all_in : {o₃ o₄ : List ℕ} {h r : ℕ} → Wrote o₂ o₃ d h (print (own t rows i)) → Wrote o₃ o₄ h r (print (substance_lines t rows i))
        → Wrote o o₄ a r (print (mark ++ (number rows i ++ (own t rows i ++ substance_lines t rows i))))
    all_in w x = lines_written mark (number rows i ++ (own t rows i ++ substance_lines t rows i)) (fits f) u
        (lines_written (number rows i) (own t rows i ++ substance_lines t rows i) behind_mark number_in (lines_written (own t rows i) (substance_lines t rows i) behind_number w x))

pub number_line-b-requires : goal.number_line-b-requires
number_line-b-requires c = number_fits c.args.text.now c.args.rows.now c.args.i c.requires.2 c.text_line-a.ensures c.package_at.ensures

pub fields-c-requires : goal.fields-c-requires
fields-c-requires c =
    (search rules, omega (arith, c.requires.0), spans_inside c.args.text.now c.args.rows.now c.args.i 13 0 (omega arith) c.requires.1, own_fit c.args.text.now c.args.rows.now c.args.i c.requires.2 c.text_line-a.ensures c.package_at.ensures c.number_line-b.ensures)

pub substance_lines-requires : goal.substance_lines-requires
substance_lines-requires c =
    (c.requires.0, c.requires.1, substances_fit c.args.text.now c.args.rows.now c.args.i c.requires.2 c.text_line-a.ensures c.package_at.ensures c.number_line-b.ensures c.fields-c.ensures)

pub returns : goal.returns
returns c = all_in c.args.text.now c.args.rows.now c.args.i c.requires.2 c.text_line-a.ensures c.package_at.ensures c.number_line-b.ensures c.fields-c.ensures c.substance_lines.ensures
