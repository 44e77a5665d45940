-- A digit more leads on, and a number above 255 stays above.
use Rattle.std.proofs.Common.{◌≡◌, ◌+◌, ◌*◌, ◌∙◌, get_or, arith}
use Rattle.markup.specs.Decoding.{digit_in}
use Rattle.markup.proofs.Numerals.{one_digit, too_large, all_read}
use Rattle.markup.proofs.values.numeral.Goals as goal

pub returns-in_err-checked_mul : goal.returns-in_err-checked_mul
returns-in_err-checked_mul c =
    c.from_residual.ensures
    ∙ rw c.loop-b.invariant.1 (too_large c.args.base c.loop-b.n c.loop-b.b-index c.args.digits.now c.loop-b-test.true c.requires (omega (arith, c.in_err-checked_mul.ensures)))

pub returns-in_err-n : goal.returns-in_err-n
returns-in_err-n c =
    c.from_residual-in_err-n.ensures
    ∙ rw c.loop-b.invariant.1
    (too_large c.args.base c.loop-b.n c.loop-b.b-index c.args.digits.now c.loop-b-test.true c.requires
    (omega (arith, c.in_err-n.ensures, c.in_ok-checked_mul.ensures, c.digit.ensures)))

pub loop-b-preserved : goal.loop-b-preserved
loop-b-preserved c =
    let e : c.in_ok-n.n ≡ c.loop-b.n * c.args.base + digit_in c.args.base (get_or c.args.digits.now c.loop-b.b-index 0) =
    omega (arith, c.in_ok-n.ensures, c.in_ok-checked_mul.ensures, c.digit.ensures) in
    (omega (arith, c.in_ok-n.ensures), c.loop-b.invariant.1 ∙ rw e (one_digit c.args.base c.loop-b.n c.loop-b.b-index c.args.digits.now c.loop-b-test.true))

pub returns : goal.returns
returns c = rw c.loop-b.invariant.1 (all_read c.args.base c.loop-b.n c.loop-b.b-index c.args.digits.now c.loop-b-test.false c.loop-b.invariant.0)
