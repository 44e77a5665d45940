-- `writer::spelling::lay_front`: the start tag of MP, and P, A and O behind it as they are given.
-- Assumes nothing.
use Rattle.std.proofs.Common.{◌≡◌, List, ℕ, ◌++◌, map, length, ap, sym, ◌∙◌, arith, rules}
use Rattle.plan.specs.Numbers.{paper_span, show_head}
use Rattle.room.proofs.Pieces.{Fits, fits, fits_as, wrote, wrote_as, first_fits, second_fits, both_written}
use Rattle.writer.specs.Spelling.{head_text}
use Rattle.writer.specs.Tags.{start_text}
use Rattle.writer.proofs.Paged.{spans_counted, front_by, head_inside}
use Rattle.writer.proofs.spelling.lay_front.Goals as goal

pub lay_start-b-requires : goal.lay_start-b-requires
lay_start-b-requires c =
    let a = c.args in
    let l : List ℕ = c.head_numbers-numbers.result in
    let n : length l ≡ 56 = search rules in
    let long = spans_counted (map paper_span a.plan.head) l c.head_numbers-numbers.ensures n in
    let s : List ℕ = start_text a.plan.patch a.a a.z a.text.now l in
    let p : List ℕ = a.people.now in
    let e : head_text (show_head a.text.now a.plan) a.a a.z ≡ s ++ p =
    front_by a.text.now a.plan a.a a.z l long c.requires.2 c.requires.3 c.head_numbers-numbers.ensures ∙ ap (λ (y : List ℕ). s ++ y) (sym c.requires.4) in
    let f : Fits a.out.now a.at (s ++ p) = fits_as e (fits c.requires.5) in
    (c.requires.0, c.requires.2, c.requires.3, omega (arith, n), head_inside a.text.now a.plan l long c.head_numbers-numbers.ensures c.requires.1 0 2 (omega arith), (first_fits s p f).inside)

pub lay-requires : goal.lay-requires
lay-requires c =
    let a = c.args in
    let l : List ℕ = c.head_numbers-numbers.result in
    let n : length l ≡ 56 = search rules in
    let long = spans_counted (map paper_span a.plan.head) l c.head_numbers-numbers.ensures n in
    let s : List ℕ = start_text a.plan.patch a.a a.z a.text.now l in
    let p : List ℕ = a.people.now in
    let e : head_text (show_head a.text.now a.plan) a.a a.z ≡ s ++ p =
    front_by a.text.now a.plan a.a a.z l long c.requires.2 c.requires.3 c.head_numbers-numbers.ensures ∙ ap (λ (y : List ℕ). s ++ y) (sym c.requires.4) in
    let f : Fits a.out.now a.at (s ++ p) = fits_as e (fits c.requires.5) in
    (second_fits p f c.lay_start-b.ensures).inside

pub returns : goal.returns
returns c =
    let a = c.args in
    let l : List ℕ = c.head_numbers-numbers.result in
    let n : length l ≡ 56 = search rules in
    let long = spans_counted (map paper_span a.plan.head) l c.head_numbers-numbers.ensures n in
    let s : List ℕ = start_text a.plan.patch a.a a.z a.text.now l in
    let p : List ℕ = a.people.now in
    let e : head_text (show_head a.text.now a.plan) a.a a.z ≡ s ++ p =
    front_by a.text.now a.plan a.a a.z l long c.requires.2 c.requires.3 c.head_numbers-numbers.ensures ∙ ap (λ (y : List ℕ). s ++ y) (sym c.requires.4) in
    let f : Fits a.out.now a.at (s ++ p) = fits_as e (fits c.requires.5) in
    wrote_as e (both_written f c.lay_start-b.ensures (wrote c.lay.ensures))
