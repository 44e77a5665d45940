-- `writer::tags::lay_fields`: what is to be spelled is what is spelled and the attributes of the fields that are left.
-- Assumes nothing.
use Rattle.room.proofs.Pieces.{Going}
use Rattle.writer.specs.Tags.{fields_text}
use Rattle.writer.proofs.Spelled.{fields_left}
use Rattle.writer.proofs.tags.lay_fields.Given as goal

abbrev pub invariant-loop-i : goal.invariant-loop-i
invariant-loop-i l = Going l.fn.out l.out l.at l.a (fields_text l.first l.count l.text l.from l.numbers) (fields_left l.first l.count l.text l.from l.numbers l.i)
