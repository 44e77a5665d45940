-- Worked: the medication of document 01's listing example as numbers, and a record whose row is refused.
-- Assumes nothing.
use mathlib.Core.Path.{◌≡◌, refl}
use mathlib.Core.Bool.{false}
use mathlib.Core.List.{[], ◌∷◌, ◌++◌}
use lib.ListN.{replicate}
use Rattle.paper.specs.Lists.{bytes}
use Rattle.paper.specs.Fields.{M, fields_of}
use Rattle.paper.specs.Plan.{Row}
use Rattle.paper.specs.Writing.{good_element, sound_row}
use Rattle.paper.proofs.Rows.{row}
use Rattle.plan.specs.Numbers.{spans_in, show_row, record_with, row_numbers}
use Rattle.plan.proofs.Spans.{none}

-- ---- the medication of the listing example

-- m="1" v="0,5" p="02394428"; d="0" is absent
abbrev pill : Row
pill = row M 2394428 ([] ∷ [] ∷ [] ∷ bytes "1" ∷ [] ∷ bytes "0,5" ∷ [] ∷ [] ∷ [] ∷ [] ∷ [] ∷ [] ∷ [] ∷ []) []

-- its record, with its values laid from place 5 on: spans 3 and 5 are present
laid_out : row_numbers 5 pill ≡ 2 ∷ 2394428 ∷ (replicate 6 0 ++ (5 ∷ 1 ∷ 0 ∷ 0 ∷ 6 ∷ 3 ∷ replicate 34 0))
unfolding record_with
laid_out = refl

-- the row that it shows
pill_shown : show_row (bytes "de-DE10,5") (row_numbers 5 pill) ≡ pill
unfolding show_row record_with spans_in
pill_shown = refl

-- ---- records that are refused

-- a substance in the second place alone shows a first W without its w
gap_shown : show_row (bytes "ASS") (record_with 2 0 (replicate 15 none ++ (record { at = 0; len = 3 } ∷ []))) ≡ row M 0 (replicate 13 []) (([] ∷ [] ∷ []) ∷ (bytes "ASS" ∷ [] ∷ []) ∷ [])
unfolding show_row record_with spans_in
gap_shown = refl

-- such a row is not sound
gap_refused : sound_row (row M 0 (replicate 13 []) (([] ∷ [] ∷ []) ∷ (bytes "ASS" ∷ [] ∷ []) ∷ [])) ≡ false
unfolding sound_row good_element fields_of
gap_refused = refl
