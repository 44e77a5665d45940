-- `writer::tags::lay_field`: a present value lies within the text, and has its attribute.
-- Assumes nothing.
use Rattle.std.proofs.Common.{length, rules}
use Rattle.fields.specs.Places.{name_of}
use Rattle.plan.specs.Numbers.{paper_span}
use Rattle.plan.proofs.Numbered.{span_inside}
use Rattle.room.proofs.Pieces.{wrote_as}
use Rattle.writer.proofs.Spelled.{span_quoted}
use Rattle.writer.proofs.tags.lay_field.Goals as goal

pub lay_attribute-requires : goal.lay_attribute-requires
lay_attribute-requires c =
    let a = c.args in
    let e = span_quoted (name_of a.letters) a.text.now (paper_span a.s) c.if-s-eq0.false c.requires.0 in
    (search rules, span_inside (length a.text.now) a.s.at a.s.len c.if-s-eq0.false c.requires.0, rw e at c.requires.1)

pub returns : goal.returns
returns c = wrote_as (span_quoted (name_of c.args.letters) c.args.text.now (paper_span c.args.s) c.if-s-eq0.false c.requires.0) c.lay_attribute.ensures
