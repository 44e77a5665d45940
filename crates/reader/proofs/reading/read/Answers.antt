use Rattle.std.proofs.Common.{◌∙◌, arith, refl, sym}
use Rattle.reader.proofs.CallFacts.{call_fits_lem}
use Rattle.reader.proofs.ReadingLaws.{no_room, no_call}
use Rattle.reader.proofs.TakenLaws.{blank_new}
use Rattle.reader.proofs.reading.read.Goals as goal
use Rattle.reader.proofs.reading.read.Goals.{then-not-room_fits-via-then-not-room_fits, then-not-room_fits-via-else-not-room_fits+then-not-call_fits}

pub returns-then-not-room_fits : goal.returns-then-not-room_fits
returns-then-not-room_fits c =
    let s = c.args in
    elim c.then-not-room_fits.branch [
      | then-not-room_fits-via-then-not-room_fits w ↦ record { answer_is = no_room s.rows.now s.text.now _ _ _ (sym c.room_fits.ensures ∙ w.if-not-room_fits.true); rows_are = refl; text_is = refl }
      | then-not-room_fits-via-else-not-room_fits+then-not-call_fits w ↦ record { answer_is = no_call s.rows.now s.text.now _ _ _ (sym w.call_fits.ensures ∙ w.if-not-call_fits.true); rows_are = refl; text_is = refl }
    ]

pub read_on-requires : goal.read_on-requires
read_on-requires c =
    (sym c.room_fits.ensures ∙ c.if-not-room_fits.false, sym c.call_fits.ensures ∙ c.if-not-call_fits.false, blank_new 4420 (omega arith), omega (arith, c.if-starts-eq1.true), omega arith, omega (arith, c.if-starts-eq1.true), omega arith)

pub read_on-requires-2 : goal.read_on-requires-2
read_on-requires-2 c =
    let call = sym c.call_fits.ensures ∙ c.if-not-call_fits.false in
    let F = call_fits_lem c.args.buffer.now c.args.starts.now c.args.lens.now call in
    (sym c.room_fits.ensures ∙ c.if-not-room_fits.false, call, blank_new 39620 (omega arith), omega (arith, F.nine), omega arith, omega (arith, F.nine), omega arith)
