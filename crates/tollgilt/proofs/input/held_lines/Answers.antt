-- What is to be printed is what is printed and the lines of the rows that are left.
use Rattle.std.proofs.Common.{◌≡◌, ℕ, suc, ◌+◌, ◌≤◌, ◌<◌, List, [], ◌∷◌, ◌++◌, length, take, drop, get_or, add-one, drop-cons, refl, rules, arith}
use Rattle.std.proofs.Math.ListN.{length-take}
use Rattle.paper.specs.Lists.{bytes}
use Rattle.paper.specs.Listing.{line, numeral, print}
use Rattle.listing.proofs.Fielded.{print_append}
use Rattle.room.proofs.Pieces.{wrote_as, first_fits, second_fits, both_written, going_start, going_fits, going_on, going_done, written_whole}
use Rattle.tollgilt.specs.Printed.{row_lines}
use Rattle.tollgilt.proofs.FindInput.{count_first, all_fit, no_line}
use Rattle.tollgilt.proofs.input.held_lines.Goals as goal

-- the line of the next row comes first
each_line : (is : List ℕ) (i : ℕ) → i < length is → print (row_lines (drop i is)) ≡ print (line (bytes "row") (numeral (get_or is i 0)) ∷ []) ++ print (row_lines (drop (i + 1) is))
each_line is i h = rw (add-one i, drop-cons is i 0 h) (print_append (line (bytes "row") (numeral (get_or is i 0)) ∷ []) (row_lines (drop (suc i) is)))

pub count_line-a-requires : goal.count_line-a-requires
count_line-a-requires c =
    let a = c.args in
    (first_fits (print (line (bytes "held") (numeral a.count) ∷ [])) (print (row_lines (take a.count a.list.now))) (all_fit a.list.now a.count c.requires.0 a.out.now c.requires.1)).inside

pub loop-row-init : goal.loop-row-init
loop-row-init c =
    let a = c.args in
    going_start (second_fits (print (row_lines (take a.count a.list.now))) (all_fit a.list.now a.count c.requires.0 a.out.now c.requires.1) c.count_line-a.ensures)

pub row_line-a-requires : goal.row_line-a-requires
row_line-a-requires c =
    let is = take c.args.count c.args.list.now in
    let i = c.loop-row.row-index in
    going_fits c.loop-row.invariant (print (line (bytes "row") (numeral (get_or is i 0)) ∷ [])) (print (row_lines (drop (i + 1) is))) (each_line is i (omega arith))

pub loop-row-preserved : goal.loop-row-preserved
loop-row-preserved c =
    let is = take c.args.count c.args.list.now in
    let i = c.loop-row.row-index in
    going_on c.loop-row.invariant (print (line (bytes "row") (numeral (get_or is i 0)) ∷ [])) (print (row_lines (drop (i + 1) is))) (each_line is i (omega arith)) c.row_line-a.ensures

pub returns : goal.returns
returns c =
    let a = c.args in
    let fit = all_fit a.list.now a.count c.requires.0 a.out.now c.requires.1 in
    written_whole (wrote_as (count_first a.list.now a.count c.requires.0) (both_written fit c.count_line-a.ensures
    (going_done (second_fits (print (row_lines (take a.count a.list.now))) fit c.count_line-a.ensures) c.loop-row.invariant (no_line a.list.now a.count c.requires.0 c.loop-row.row-index (omega (arith, length-take a.count a.list.now))))))
