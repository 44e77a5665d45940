-- Valued: one value of an attribute, judged by its field, and where it lies.
-- Assumes nothing.
use Rattle.std.specs.Prelude.{◌≡◌, false, List, ℕ, ◌≤◌, ◌<◌, length, take}
use Rattle.std.proofs.Math.Seq.{slice}
use Rattle.paper.specs.Values.{value}
use Rattle.paper.specs.Rules.{settle}
use Rattle.paper.specs.Judging.{breaks}
use Rattle.fields.specs.Places.{field_at}
use Rattle.fields.specs.Columns.{limit_column}
use Rattle.quoted.specs.Plain.{odd_table}
use Rattle.quoted.specs.Raws.{RawAt}
use Rattle.tape.specs.Tape.{shown_in, Span}

-- the tables that are copied once and handed down: odd bytes, and the limits of the fields
pub record Tables (odd limits : List ℕ) : Type 0 where
  pub odd_is : odd ≡ odd_table
  pub limits_are : limits ≡ limit_column

-- the value in quotes q from `at` on ends at the quote z; by the field of that place it is fine; the numbers a and b tell what counts of it, and m bytes of the side room are in use
pub record Valued (w side : List ℕ) (at q id z a b m : ℕ) : Type 0 where
  pub raw : RawAt w at q z
  pub shown : shown_in w side a b ≡ settle (field_at id) (value (slice at z w))
  pub kept : breaks (field_at id) (settle (field_at id) (value (slice at z w))) ≡ false
  pub span : Span w m a b
  pub stands : 0 < a
  pub room : m ≤ length side

-- the side room behind one value more: what was in use is as it was
pub record Grown (side side' : List ℕ) (m m' : ℕ) : Type 0 where
  pub same : take m side' ≡ take m side
  pub up : m ≤ m'
