-- `writer::tags::lay_fields`: the next field's value lies in the text, and its attribute fits and is spelled.
-- Assumes nothing.
use Rattle.std.proofs.Common.{ℕ, List, ◌+◌, ◌*◌, get_or, arith}
use Rattle.paper.specs.Layout.{shown}
use Rattle.fields.specs.Places.{name_of}
use Rattle.room.proofs.Pieces.{going_fits, going_on, going_done}
use Rattle.writer.specs.Tags.{attribute}
use Rattle.writer.proofs.Spelled.{fields_left, no_field_lem, keys_long, span_of, field_next, field_inside}
use Rattle.writer.proofs.tags.lay_fields.Goals as goal

pub bounds-keys-first : goal.bounds-keys-first
bounds-keys-first c = omega (arith, keys_long c.args.keys.now c.requires.0, c.requires.1, c.loop-i-test.true)

pub lay_field-a-requires : goal.lay_field-a-requires
lay_field-a-requires c =
    let a = c.args in
    let i : ℕ = c.loop-i.i in
    let this : List ℕ = attribute (name_of (get_or a.keys.now (a.first + i) 0)) (shown a.text.now (span_of a.numbers.now (a.from + 2 * i))) in
    let rest : List ℕ = fields_left a.first a.count a.text.now a.from a.numbers.now (i + 1) in (
      field_inside a.keys.now a.text.now a.numbers.now a.first a.count a.from i c.requires.0 c.requires.1 c.loop-i-test.true c.requires.3,
      going_fits c.loop-i.invariant this rest (field_next a.keys.now a.text.now a.numbers.now a.first a.count a.from i c.requires.0 c.requires.1 c.loop-i-test.true),
    )

pub loop-i-preserved : goal.loop-i-preserved
loop-i-preserved c =
    let a = c.args in
    let i : ℕ = c.loop-i.i in
    let this : List ℕ = attribute (name_of (get_or a.keys.now (a.first + i) 0)) (shown a.text.now (span_of a.numbers.now (a.from + 2 * i))) in
    let rest : List ℕ = fields_left a.first a.count a.text.now a.from a.numbers.now (i + 1) in
    going_on c.loop-i.invariant this rest (field_next a.keys.now a.text.now a.numbers.now a.first a.count a.from i c.requires.0 c.requires.1 c.loop-i-test.true) c.lay_field-a.ensures

pub returns : goal.returns
returns c =
    let a = c.args in
    going_done (record { inside = c.requires.4 }) c.loop-i.invariant (no_field_lem a.text.now a.numbers.now a.first a.count a.from c.loop-i.i c.loop-i-test.false)
