use Rattle.std.proofs.Common.{rules}
use Rattle.paper.specs.Calls.{pages_at}
use Rattle.reader.specs.Joining.{sheets_of}
use Rattle.reader.proofs.JoiningLaws.{Place, next_room, next_records, filling_more}
use Rattle.reader.proofs.joining.fill_pages.Goals as goal

pub fill_number-filled-requires : goal.fill_number-filled-requires
fill_number-filled-requires c =
    let placed : Place (sheets_of (pages_at c.args.buffer.now c.args.starts.now c.args.lens.now)) c.args.z c.args.text.now c.args.rows.now c.args.n = record { room = c.requires.4; records = c.requires.5 } in
    let F = c.loop-k.invariant in
    (c.requires.0, c.requires.1, c.requires.2, next_room F placed c.loop-k-test.true, next_records F placed c.loop-k-test.true)

pub loop-k-preserved : goal.loop-k-preserved
loop-k-preserved c =
    let placed : Place (sheets_of (pages_at c.args.buffer.now c.args.starts.now c.args.lens.now)) c.args.z c.args.text.now c.args.rows.now c.args.n = record { room = c.requires.4; records = c.requires.5 } in
    let F = c.fill_number-filled in
    filling_more c.loop-k.invariant placed c.loop-k-test.true F.auto.text F.auto.rows F.ensures
