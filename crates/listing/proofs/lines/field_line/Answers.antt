-- `listing::lines::field_line`: an absent value has no line, a present one lies within the text.
-- Assumes nothing.
use Rattle.std.proofs.Common.{length, arith}
use Rattle.room.proofs.Pieces.{none_written}
use Rattle.plan.proofs.Numbered.{span_inside}
use Rattle.listing.proofs.Fielded.{present_line}
use Rattle.listing.proofs.lines.field_line.Goals as goal

pub returns-then-len-eq0 : goal.returns-then-len-eq0
returns-then-len-eq0 c = rw c.if-len-eq0.true (none_written c.args.out.now c.args.at)

pub overflow_add-from : goal.overflow_add-from
overflow_add-from c = omega (arith, span_inside (length c.args.text.now) c.args.from c.args.len c.if-len-eq0.false c.requires.1)

pub slice_bounds-letters_line-end : goal.slice_bounds-letters_line-end
slice_bounds-letters_line-end c = omega (arith, span_inside (length c.args.text.now) c.args.from c.args.len c.if-len-eq0.false c.requires.1)

pub letters_line-requires : goal.letters_line-requires
letters_line-requires c =
    rw (present_line c.args.path.now c.args.text.now c.args.id c.letters_of.result c.args.from c.args.len c.requires.0 c.letters_of.ensures c.if-len-eq0.false c.requires.1) at c.requires.2

pub returns : goal.returns
returns c =
    rw (present_line c.args.path.now c.args.text.now c.args.id c.letters_of.result c.args.from c.args.len c.requires.0 c.letters_of.ensures c.if-len-eq0.false c.requires.1) c.letters_line.ensures
