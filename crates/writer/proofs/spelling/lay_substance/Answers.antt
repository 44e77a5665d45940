-- `writer::spelling::lay_substance`: a W without its w has nothing, another one its tag.
-- Assumes nothing.
use Rattle.std.proofs.Common.{arith, rules}
use Rattle.room.proofs.Pieces.{fits, fits_as, wrote_as, none_written}
use Rattle.writer.proofs.Bodied.{substance_none, substance_some}
use Rattle.writer.proofs.spelling.lay_substance.Goals as goal

pub returns-then-rows-from-eq0 : goal.returns-then-rows-from-eq0
returns-then-rows-from-eq0 c = wrote_as (substance_none c.args.text.now c.args.from c.args.rows.now c.if-rows-from-eq0.true) (none_written c.args.out.now c.args.at)

pub lay_tag-requires : goal.lay_tag-requires
lay_tag-requires c =
    let e = substance_some c.args.text.now c.args.from c.args.rows.now c.if-rows-from-eq0.false in
    (c.requires.0, search rules, omega (arith, c.requires.1), c.requires.2, (fits_as e (fits c.requires.3)).inside)

pub returns : goal.returns
returns c = wrote_as (substance_some c.args.text.now c.args.from c.args.rows.now c.if-rows-from-eq0.false) c.lay_tag.ensures
