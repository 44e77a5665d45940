-- The five lines stand one behind the other.
use Rattle.std.proofs.Common.{◌≡◌, Bool, true, false, ℕ, ◌+◌, ◌≤◌, List, [], ◌∷◌, length, take, drop, refl, ap, sym, ◌∙◌, rules, arith}
use mir.Val.{bool_byte}
use Rattle.paper.specs.Lists.{bytes}
use Rattle.paper.specs.Listing.{line, numeral, print}
use Rattle.room.specs.Laid.{laid}
use Rattle.room.specs.Written.{Wrote}
use Rattle.room.proofs.Pieces.{fits_as, fits_whole, Going, going_start, going_done, wrote_as, written_whole}
use Rattle.cell.specs.Answers.{source_number}
use Rattle.tollgilt.specs.Cells.{flag_number}
use Rattle.tollgilt.specs.Printed.{shown_lines}
use Rattle.tollgilt.specs.declared.cells.CellShown.{CellShown}
use Rattle.tollgilt.proofs.CellInput.{five_lines, five_shown, next_fits, next_on}
use Rattle.tollgilt.proofs.input.cell_lines.Goals as goal

flag : (b : Bool) → bool_byte b ≡ flag_number b
flag true = refl
flag false = refl

-- the lines of a cell, and how far they are written
module _ (s : CellShown) (room out : List ℕ) (k : ℕ) (e : k ≡ source_number s.source)
    (h : length (shown_lines (source_number s.source) s.more s.omitted s.zero (take s.length room)) ≤ length out) where
  abbrev text : List ℕ
  text = take s.length room

  abbrev all : List ℕ
  all = print (five_lines k (bool_byte s.more) s.omitted (bool_byte s.zero) text)

  are : shown_lines (source_number s.source) s.more s.omitted s.zero text ≡ all
  are = five_shown (source_number s.source) s.more s.omitted s.zero text (bool_byte s.more) (bool_byte s.zero) (flag s.more) (flag s.zero)
      ∙ ap (λ (n : ℕ). print (five_lines n (bool_byte s.more) s.omitted (bool_byte s.zero) text)) (sym e)

  begun : Going out out 0 0 all all
  begun = going_start (fits_as are (fits_whole out (shown_lines (source_number s.source) s.more s.omitted s.zero text) h))

  fit_1 : 0 + length (print (line (bytes "source") (numeral k) ∷ [])) ≤ length out
  fit_1 = next_fits (line (bytes "source") (numeral k)) (drop 1 (five_lines k (bool_byte s.more) s.omitted (bool_byte s.zero) text)) begun

  module _ {o₁ : List ℕ} {n₁ : ℕ} (w₁ : Wrote out o₁ 0 n₁ (print (line (bytes "source") (numeral k) ∷ []))) where
    going_1 : Going out o₁ 0 n₁ all (print (drop 1 (five_lines k (bool_byte s.more) s.omitted (bool_byte s.zero) text)))
    going_1 = next_on (line (bytes "source") (numeral k)) (drop 1 (five_lines k (bool_byte s.more) s.omitted (bool_byte s.zero) text)) begun w₁

    fit_2 : n₁ + length (print (line (bytes "cut") (numeral (bool_byte s.more)) ∷ [])) ≤ length o₁
    fit_2 = next_fits (line (bytes "cut") (numeral (bool_byte s.more))) (drop 2 (five_lines k (bool_byte s.more) s.omitted (bool_byte s.zero) text)) going_1

    module _ {o₂ : List ℕ} {n₂ : ℕ} (w₂ : Wrote o₁ o₂ n₁ n₂ (print (line (bytes "cut") (numeral (bool_byte s.more)) ∷ []))) where
      going_2 : Going out o₂ 0 n₂ all (print (drop 2 (five_lines k (bool_byte s.more) s.omitted (bool_byte s.zero) text)))
      going_2 = next_on (line (bytes "cut") (numeral (bool_byte s.more))) (drop 2 (five_lines k (bool_byte s.more) s.omitted (bool_byte s.zero) text)) going_1 w₂

      fit_3 : n₂ + length (print (line (bytes "left") (numeral s.omitted) ∷ [])) ≤ length o₂
      fit_3 = next_fits (line (bytes "left") (numeral s.omitted)) (drop 3 (five_lines k (bool_byte s.more) s.omitted (bool_byte s.zero) text)) going_2

      module _ {o₃ : List ℕ} {n₃ : ℕ} (w₃ : Wrote o₂ o₃ n₂ n₃ (print (line (bytes "left") (numeral s.omitted) ∷ []))) where
        going_3 : Going out o₃ 0 n₃ all (print (drop 3 (five_lines k (bool_byte s.more) s.omitted (bool_byte s.zero) text)))
        going_3 = next_on (line (bytes "left") (numeral s.omitted)) (drop 3 (five_lines k (bool_byte s.more) s.omitted (bool_byte s.zero) text)) going_2 w₃

        fit_4 : n₃ + length (print (line (bytes "zero") (numeral (bool_byte s.zero)) ∷ [])) ≤ length o₃
        fit_4 = next_fits (line (bytes "zero") (numeral (bool_byte s.zero))) (drop 4 (five_lines k (bool_byte s.more) s.omitted (bool_byte s.zero) text)) going_3

        module _ {o₄ : List ℕ} {n₄ : ℕ} (w₄ : Wrote o₃ o₄ n₃ n₄ (print (line (bytes "zero") (numeral (bool_byte s.zero)) ∷ []))) where
          going_4 : Going out o₄ 0 n₄ all (print (line (bytes "text") text ∷ []))
          going_4 = next_on (line (bytes "zero") (numeral (bool_byte s.zero))) (line (bytes "text") text ∷ []) going_3 w₄

          fit_5 : n₄ + length (print (line (bytes "text") text ∷ [])) ≤ length o₄
          fit_5 = next_fits (line (bytes "text") text) [] going_4

          done : {o₅ : List ℕ} {n₅ : ℕ} → Wrote o₄ o₅ n₄ n₅ (print (line (bytes "text") text ∷ [])) → (n₅ ≡ length (shown_lines (source_number s.source) s.more s.omitted s.zero text)) × (o₅ ≡ laid out 0 (shown_lines (source_number s.source) s.more s.omitted s.zero text))
          done w₅ = written_whole (wrote_as are (going_done (fits_as are (fits_whole out (shown_lines (source_number s.source) s.more s.omitted s.zero text) h)) (next_on (line (bytes "text") text) [] going_4 w₅) refl))

pub count_line-a-requires : goal.count_line-a-requires
count_line-a-requires c = fit_1 c.args.shown c.args.room.now c.args.out.now c.number.result c.number.ensures c.requires.2

pub count_line-b-requires : goal.count_line-b-requires
count_line-b-requires c = fit_2 c.args.shown c.args.room.now c.args.out.now c.number.result c.number.ensures c.requires.2 c.count_line-a.ensures

pub count_line-c-requires : goal.count_line-c-requires
count_line-c-requires c = fit_3 c.args.shown c.args.room.now c.args.out.now c.number.result c.number.ensures c.requires.2 c.count_line-a.ensures c.count_line-b.ensures

pub count_line-d-requires : goal.count_line-d-requires
count_line-d-requires c = fit_4 c.args.shown c.args.room.now c.args.out.now c.number.result c.number.ensures c.requires.2 c.count_line-a.ensures c.count_line-b.ensures c.count_line-c.ensures

pub text_line-requires : goal.text_line-requires
text_line-requires c = fit_5 c.args.shown c.args.room.now c.args.out.now c.number.result c.number.ensures c.requires.2 c.count_line-a.ensures c.count_line-b.ensures c.count_line-c.ensures c.count_line-d.ensures

pub returns : goal.returns
returns c = done c.args.shown c.args.room.now c.args.out.now c.number.result c.number.ensures c.requires.2 c.count_line-a.ensures c.count_line-b.ensures c.count_line-c.ensures c.count_line-d.ensures c.text_line.ensures
