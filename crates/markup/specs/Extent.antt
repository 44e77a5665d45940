-- Extent: document 01, refusal 4. Whether a page is well-formed, and the length of the longest beginning that some well-formed page shares.
-- `extent_of` is the interface; `behind_at` serves the scan. Assumes nothing.
use Rattle.std.proofs.Math.Option.{Option, none, some}
use Rattle.std.specs.Prelude.{List, ℕ, eqb, Result, Ok, Err}
use Rattle.paper.specs.Lists.{if}
use Rattle.paper.specs.Grammar.{Tag}
use Rattle.paper.specs.Machine.{before, scan, eaten}

-- a page with tags is whole; one without is good for so many bytes
abbrev pub extent_by : Option (List Tag) → ℕ → Result (Unit {0}) ℕ
extent_by (some t) n = Ok tt
extent_by none n = Err n

-- Ok exactly if the page is well-formed (paper's law `exact`); else the longest beginning that some well-formed page shares (`longest`)
unfoldable pub extent_of : List ℕ → Result (Unit {0}) ℕ
extent_of w = extent_by (scan before w) (eaten before w)

-- the scan's mode behind an element's end: after the page's element, or between tags
abbrev pub behind_at : ℕ → ℕ
behind_at depth = if (eqb depth 0) 14 11
