use Rattle.std.proofs.Common.{◌≡◌, ◌+◌, take, drop}
use Rattle.reader.proofs.PageLaws.{place_in}
use Rattle.reader.proofs.pages.page_of.Given as goal

-- the place in the whole is what was passed and the place in what is left
abbrev pub invariant-loop-place : goal.invariant-loop-place
invariant-loop-place l = place_in l.k (take l.n l.nos) ≡ l.place + place_in l.k (drop l.place (take l.n l.nos))
