use Rattle.std.proofs.Common.{◌≡◌, ◌+◌, drop}
use Rattle.paper.specs.Reading.{judge_all}
use Rattle.paper.specs.Calls.{pages_at}
use Rattle.reader.specs.Answers.{told_of}
use Rattle.reader.proofs.reading.judge_all.Given as goal

-- no page is refused so far: what is left decides
abbrev pub invariant-loop-i : goal.invariant-loop-i
invariant-loop-i l = told_of (judge_all 1 (pages_at l.buffer l.starts l.lens)) ≡ told_of (judge_all (l.i + 1) (drop l.i (pages_at l.buffer l.starts l.lens)))
