-- A row more is laid, and all are in the end.
use Rattle.std.proofs.Common.{◌≡◌, List, ℕ, ◌+◌, ◌*◌, ◌++◌, length, take, drop, refl, ap, ◌∙◌, arith}
use Rattle.std.proofs.Math.Seq.{take-length}
use Rattle.room.specs.Laid.{laid}
use Rattle.room.proofs.Copied.{stored}
use Rattle.index.specs.Pairs.{pairs_in, rows_of}
use Rattle.index.proofs.AskLaws.{rows_of_long, row_there_lem}
use Rattle.index.proofs.ask.lay_rows.Goals as goal

-- all are laid
finished : (is list₀ list : List ℕ) (k : ℕ) → k ≡ length is → list ≡ take k is ++ drop k list₀ → list ≡ laid list₀ 0 is
finished is list₀ list k e f =
    let z : length is ≡ 0 + length is = omega arith in
    f ∙ ap (λ (n : ℕ). take n is ++ drop n list₀) e ∙ ap (λ (l : List ℕ). l ++ drop (length is) list₀) (take-length is) ∙ ap (λ (n : ℕ). is ++ drop n list₀) z

pub loop-k-preserved : goal.loop-k-preserved
loop-k-preserved c =
    let is = rows_of (pairs_in c.args.count (drop (2 * c.args.at) c.args.index.now)) in
    let n = rows_of_long c.args.count (drop (2 * c.args.at) c.args.index.now) in
    let x = row_there_lem c.args.count c.args.index.now c.args.at c.loop-k.k c.loop-k-test.true in
    stored is c.args.list.now c.loop-k.list c.loop-k.k _ 0 c.loop-k.invariant x (omega (arith, n)) (omega arith)

pub returns : goal.returns
returns c =
    let n = rows_of_long c.args.count (drop (2 * c.args.at) c.args.index.now) in
    finished (rows_of (pairs_in c.args.count (drop (2 * c.args.at) c.args.index.now))) c.args.list.now c.loop-k.list c.loop-k.k (omega (arith, n)) c.loop-k.invariant
