use Rattle.std.proofs.Common.{◌+◌, ◌*◌, ◌≤◌, get_or}
use Rattle.paper.specs.Calls.{pages_at}
use Rattle.tape.specs.Rooms.{tape_room, side_room}
use Rattle.page.specs.Walking.{blanks}
use Rattle.reader.proofs.TakenLaws.{Going}
use Rattle.reader.proofs.taping.lay_all.Given as goal

-- the first k pages are laid, each in the room of one page
abbrev pub invariant-loop-k : goal.invariant-loop-k
invariant-loop-k l = record {
  going : Going (pages_at l.buffer l.starts l.lens) l.tape l.side l.firsts l.used l.k;
  tape_used : get_or l.firsts l.k 0 ≤ blanks + l.k * tape_room;
  side_used : l.used ≤ l.k * side_room;
}
