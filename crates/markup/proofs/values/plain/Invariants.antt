-- While no byte is odd, the bytes are their own value if those to come are.
use Rattle.std.proofs.Common.{◌≡◌, false, List, ℕ}
use Rattle.std.proofs.Math.Seq.{slice}
use Rattle.paper.specs.Values.{value}
use Rattle.markup.proofs.values.plain.Given as goal

-- the bytes of w from i up to `to` are their own value
abbrev Own : List ℕ → ℕ → ℕ → Type 0
Own w to i = value (slice i to w) ≡ slice i to w

abbrev pub invariant-loop-i : goal.invariant-loop-i
invariant-loop-i l = l.odds ≡ false → Own l.page l.to l.i → Own l.page l.to l.from
