-- Fit: what a page must keep to be laid out.
-- Assumes nothing.
use Rattle.std.specs.Prelude.{true, false, ◌≡◌, List, [], ◌∷◌, ◌≤◌, length}
use Rattle.paper.specs.Grammar.{Attr, Tag, start, end}
use Rattle.paper.specs.Fields.{Kind, M, is, fields_of}
use Rattle.paper.specs.Judging.{names, slots_of, broken}
use Rattle.sheet.specs.Fold.{strange}
use Rattle.sheet.specs.Content.{kind_named, ws_from}

-- a start tag without a fault: no attribute is unknown or stands twice, and no value breaks its field
pub record Sound (k : Kind) (l : List Attr) : Type 0 where
  pub known : strange k (names l) ≡ false
  pub kept : broken (fields_of k) (slots_of (fields_of k) l) ≡ false

-- every start tag is sound, and no M has more than three W
abbrev pub Fit : List Tag → Type 0
Fit [] = Unit {0}
Fit (end ∷ ts) = Fit ts
Fit (start i n l ∷ ts) = Sound (kind_named n) l × (is (kind_named n) M ≡ true → length (ws_from ts) ≤ 3) × Fit ts
