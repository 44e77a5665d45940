-- `listing::elements::fields`: the next field is printed, and at the end none is left.
-- Assumes nothing.
use Rattle.room.proofs.Pieces.{fits, going_done}
use Rattle.listing.proofs.Fielded.{fields_start, fields_asked, fields_turn, no_field_lem}
use Rattle.listing.proofs.elements.fields.Goals as goal

pub loop-i-init : goal.loop-i-init
loop-i-init c = fields_start c.requires.2 (fits c.requires.3)

pub field_line-a-requires : goal.field_line-a-requires
field_line-a-requires c = fields_asked c.loop-i.invariant c.requires.0 c.loop-i-test.true _ _ c.wide-start.ensures c.wide-len.ensures

pub loop-i-preserved : goal.loop-i-preserved
loop-i-preserved c = fields_turn c.loop-i.invariant c.requires.0 c.loop-i-test.true _ _ c.wide-start.ensures c.wide-len.ensures c.field_line-a.ensures

pub returns : goal.returns
returns c =
    going_done (fits c.requires.3) c.loop-i.invariant.going (no_field_lem c.args.path.now c.args.text.now c.args.numbers.now c.args.first c.args.count c.args.from c.loop-i.i c.loop-i-test.false)
