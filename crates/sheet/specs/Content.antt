-- Content: what a page without faults says, by the names of its start tags alone. By the theorems of proofs/FoldContent this is exactly
-- document 01's content of the page.
-- Assumes nothing.
use Rattle.std.proofs.Math.Option.{Option, none, some}
use Rattle.std.specs.Prelude.{List, [], ◌∷◌, ◌++◌, ℕ, drop}
use Rattle.paper.specs.Lists.{bytes, if, number}
use Rattle.paper.specs.Grammar.{Attr, Tag, start, end}
use Rattle.paper.specs.Fields.{Kind, MP, P, A, O, W, is, fields_of, named, kinds}
use Rattle.paper.specs.Plan.{Slots, Head, Row, slot, blank}
use Rattle.paper.specs.Judging.{slots_of, item, row_of, or, Sheet}

-- the kind of a name, wherever it stands: the nine names are distinct
unfoldable pub kind_named : List ℕ → Kind
kind_named n = named n (drop 1 kinds)

-- the attributes of the first start tag of that kind, if there is one
unfoldable pub attrs_of_first : Kind → List Tag → Option (List Attr)
attrs_of_first k [] = none
attrs_of_first k (end ∷ ts) = attrs_of_first k ts
attrs_of_first k (start i n l ∷ ts) = if (is (kind_named n) k) (some l) (attrs_of_first k ts)

-- the slots of an element with those attributes; blank if it is not there
abbrev pub slots_from : Kind → Option (List Attr) → Slots
slots_from k none = blank (fields_of k)
slots_from k (some l) = slots_of (fields_of k) l

-- the slots of the first element of a kind
unfoldable pub part_from : Kind → List Tag → Slots
part_from k ts = slots_from k (attrs_of_first k ts)

-- the slots of the W that follow, before the next start tag of another kind
unfoldable pub ws_from : List Tag → List Slots
ws_from [] = []
ws_from (end ∷ ts) = ws_from ts
ws_from (start i n l ∷ ts) = if (is (kind_named n) W) (slots_of (fields_of W) l ∷ ws_from ts) []

-- the rows: an S with c or t gives a heading row, an M one with its W, an R and an X one each, any other start tag none
unfoldable pub rows_from : List Tag → List Row
rows_from [] = []
rows_from (end ∷ ts) = rows_from ts
rows_from (start i n l ∷ ts) = row_of (item (kind_named n) (slots_of (fields_of (kind_named n)) l) (ws_from ts)) ++ rows_from ts

-- the head
unfoldable pub head_from : List Tag → Head
head_from ts = record {
  patch = number 0 (slot (bytes "p") (fields_of MP) (part_from MP ts));
  ident = slot (bytes "U") (fields_of MP) (part_from MP ts);
  lang = or (slot (bytes "l") (fields_of MP) (part_from MP ts)) (bytes "de-DE");
  person = part_from P ts;
  author = part_from A ts;
  measures = part_from O ts;
}

-- a page's content
unfoldable pub content_of : List Tag → Sheet
content_of ts = record {
  no = number 0 (or (slot (bytes "a") (fields_of MP) (part_from MP ts)) (bytes "1"));
  of = number 0 (or (slot (bytes "z") (fields_of MP) (part_from MP ts)) (bytes "1"));
  head = head_from ts;
  rows = rows_from ts;
}
