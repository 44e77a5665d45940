-- `listing::lines::numeral`: one digit, or the tenth of the number and its last digit.
-- Assumes nothing.
use Rattle.std.proofs.Common.{[], ◌∷◌, ◌++◌, ◌+◌, ◌/◌, ◌%◌, ◌<◌, length, ap, arith, rules}
use Rattle.paper.specs.Writing.{decimal}
use Rattle.room.proofs.Pieces.{Fits, fits, wrote, second_fits, both_written, byte_written}
use Rattle.listing.proofs.Digits.{one_digit, more_digits}
use Rattle.listing.proofs.lines.numeral.Goals as goal

pub returns-then-n-lt10 : goal.returns-then-n-lt10
returns-then-n-lt10 c =
    let e = ap length (one_digit c.args.n c.if-n-lt10.true) in
    rw (one_digit c.args.n c.if-n-lt10.true) (byte_written c.args.out.now c.args.at (48 + c.args.n) (omega (arith, e, c.requires)))

pub returns : goal.returns
returns c =
    let few : c.args.n < 4294967296 = search rules in
    let both : Fits c.args.out.now c.args.at (decimal (c.args.n / 10) ++ ((48 + c.args.n % 10) ∷ [])) = fits (rw (more_digits c.args.n c.if-n-lt10.false few) at c.requires) in
    let last = second_fits ((48 + c.args.n % 10) ∷ []) both (wrote c.spell-a.ensures) in
    rw (more_digits c.args.n c.if-n-lt10.false few) (both_written both (wrote c.spell-a.ensures) (byte_written c.spell-a.new.out c.spell-a.result (48 + c.args.n % 10) (omega (arith, last.inside))))
