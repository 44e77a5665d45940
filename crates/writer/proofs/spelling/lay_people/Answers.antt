-- `writer::spelling::lay_people`: P, A and O stand one behind the other.
-- Assumes nothing.
use Rattle.std.proofs.Common.{◌≡◌, List, ℕ, ◌++◌, map, length, arith, rules}
use Rattle.paper.specs.Lists.{bytes}
use Rattle.plan.specs.Numbers.{paper_span}
use Rattle.room.proofs.Pieces.{Fits, fits, fits_as, wrote_as, first_fits, second_fits, both_written}
use Rattle.writer.specs.Tags.{tag_text, measures_part}
use Rattle.writer.proofs.Paged.{spans_counted, people_by, head_inside}
use Rattle.writer.proofs.spelling.lay_people.Goals as goal

pub lay_tag-b-requires : goal.lay_tag-b-requires
lay_tag-b-requires c =
    let a = c.args in
    let l : List ℕ = c.head_numbers-numbers.result in
    let n : length l ≡ 56 = search rules in
    let long = spans_counted (map paper_span a.plan.head) l c.head_numbers-numbers.ensures n in
    let p : List ℕ = tag_text (bytes "<P") 6 8 a.text.now 6 l (bytes "/>") in
    let q : List ℕ = tag_text (bytes "<A") 14 10 a.text.now 22 l (bytes "/>") in
    let m : List ℕ = measures_part a.text.now 42 l in
    let e = people_by a.text.now a.plan l long c.head_numbers-numbers.ensures c.requires.1 in
    let f : Fits a.out.now a.at (p ++ (q ++ m)) = fits_as e (fits c.requires.2) in
    (c.requires.0, omega arith, omega (arith, n), head_inside a.text.now a.plan l long c.head_numbers-numbers.ensures c.requires.1 2 8 (omega arith), (first_fits p (q ++ m) f).inside)

pub lay_tag-o-requires : goal.lay_tag-o-requires
lay_tag-o-requires c =
    let a = c.args in
    let l : List ℕ = c.head_numbers-numbers.result in
    let n : length l ≡ 56 = search rules in
    let long = spans_counted (map paper_span a.plan.head) l c.head_numbers-numbers.ensures n in
    let p : List ℕ = tag_text (bytes "<P") 6 8 a.text.now 6 l (bytes "/>") in
    let q : List ℕ = tag_text (bytes "<A") 14 10 a.text.now 22 l (bytes "/>") in
    let m : List ℕ = measures_part a.text.now 42 l in
    let e = people_by a.text.now a.plan l long c.head_numbers-numbers.ensures c.requires.1 in
    let f : Fits a.out.now a.at (p ++ (q ++ m)) = fits_as e (fits c.requires.2) in
    (c.requires.0, omega arith, omega (arith, n), head_inside a.text.now a.plan l long c.head_numbers-numbers.ensures c.requires.1 10 10 (omega arith), (first_fits q m (second_fits (q ++ m) f c.lay_tag-b.ensures)).inside)

pub lay_measures-requires : goal.lay_measures-requires
lay_measures-requires c =
    let a = c.args in
    let l : List ℕ = c.head_numbers-numbers.result in
    let n : length l ≡ 56 = search rules in
    let long = spans_counted (map paper_span a.plan.head) l c.head_numbers-numbers.ensures n in
    let p : List ℕ = tag_text (bytes "<P") 6 8 a.text.now 6 l (bytes "/>") in
    let q : List ℕ = tag_text (bytes "<A") 14 10 a.text.now 22 l (bytes "/>") in
    let m : List ℕ = measures_part a.text.now 42 l in
    let e = people_by a.text.now a.plan l long c.head_numbers-numbers.ensures c.requires.1 in
    let f : Fits a.out.now a.at (p ++ (q ++ m)) = fits_as e (fits c.requires.2) in
    (c.requires.0, omega (arith, n), head_inside a.text.now a.plan l long c.head_numbers-numbers.ensures c.requires.1 20 7 (omega arith), (second_fits m (second_fits (q ++ m) f c.lay_tag-b.ensures) c.lay_tag-o.ensures).inside)

pub returns : goal.returns
returns c =
    let a = c.args in
    let l : List ℕ = c.head_numbers-numbers.result in
    let n : length l ≡ 56 = search rules in
    let long = spans_counted (map paper_span a.plan.head) l c.head_numbers-numbers.ensures n in
    let p : List ℕ = tag_text (bytes "<P") 6 8 a.text.now 6 l (bytes "/>") in
    let q : List ℕ = tag_text (bytes "<A") 14 10 a.text.now 22 l (bytes "/>") in
    let m : List ℕ = measures_part a.text.now 42 l in
    let e = people_by a.text.now a.plan l long c.head_numbers-numbers.ensures c.requires.1 in
    let f : Fits a.out.now a.at (p ++ (q ++ m)) = fits_as e (fits c.requires.2) in
    wrote_as e (both_written f c.lay_tag-b.ensures (both_written (second_fits (q ++ m) f c.lay_tag-b.ensures) c.lay_tag-o.ensures c.lay_measures.ensures))
