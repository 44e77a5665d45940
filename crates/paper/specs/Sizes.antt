-- Sizes: document 01, "A page has 1 to 1,400 bytes".
-- Assumes nothing.
use Rattle.std.specs.Prelude.{ℕ}

-- the bytes that a page has at most
abbrev pub page_bytes : ℕ
page_bytes = 1400
