-- `writer::spelling::lay_measures`: an O without a field is not there, and another has its tag.
-- Assumes nothing.
use Rattle.std.proofs.Common.{sym, ◌∙◌, arith, rules}
use Rattle.room.proofs.Pieces.{fits, fits_as, wrote_as, none_written}
use Rattle.writer.proofs.Paged.{measures_by}
use Rattle.writer.proofs.spelling.lay_measures.Goals as goal

pub returns-then-all_absent : goal.returns-then-all_absent
returns-then-all_absent c = wrote_as (measures_by c.args.text.now c.args.numbers.now (sym c.all_absent.ensures ∙ c.if-all_absent.true)) (none_written c.args.out.now c.args.at)

pub lay_tag-requires : goal.lay_tag-requires
lay_tag-requires c =
    let e = measures_by c.args.text.now c.args.numbers.now (sym c.all_absent.ensures ∙ c.if-all_absent.false) in
    (c.requires.0, search rules, omega (arith, c.requires.1), c.requires.2, (fits_as e (fits c.requires.3)).inside)

pub returns : goal.returns
returns c = wrote_as (measures_by c.args.text.now c.args.numbers.now (sym c.all_absent.ensures ∙ c.if-all_absent.false)) c.lay_tag.ensures
