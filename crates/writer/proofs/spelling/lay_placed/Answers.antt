-- `writer::spelling::lay_placed`: what stands before the row, and the row.
-- Assumes nothing.
use Rattle.std.proofs.Common.{◌≡◌, List, ℕ, ◌++◌, ap, sym, ◌∙◌}
use Rattle.paper.specs.Fields as Paper
use Rattle.paper.specs.Plan.{Row}
use Rattle.paper.specs.Writing.{heading}
use Rattle.plan.specs.Numbers.{record_at, show_row}
use Rattle.room.proofs.Pieces.{Fits, fits, wrote_as, first_fits, second_fits, both_written}
use Rattle.writer.specs.Spelling.{row_text}
use Rattle.writer.specs.Tags.{gap_text, placed_text}
use Rattle.writer.proofs.Bodied.{kind_told}
use Rattle.writer.proofs.spelling.lay_placed.Goals as goal

pub lay_gap-a-requires : goal.lay_gap-a-requires
unfolding placed_text
lay_gap-a-requires c =
    let a = c.args in
    let r : Row = show_row a.text.now (record_at a.rows.now a.i) in
    let k = kind_told a.text.now (record_at a.rows.now a.i) c.kind_at-kind.result c.kind_at-kind.ensures in
    let h : c.heads-heading.result ≡ heading r = c.heads-heading.ensures ∙ ap (λ (x : Paper.Kind). Paper.is x Paper.S) k in
    let g : List ℕ = gap_text a.inside (heading r) in
    let f : Fits a.out.now a.at (g ++ row_text r) = fits c.requires.3 in
    rw h (first_fits g (row_text r) f).inside

pub lay_kind-requires : goal.lay_kind-requires
unfolding placed_text
lay_kind-requires c =
    let a = c.args in
    let r : Row = show_row a.text.now (record_at a.rows.now a.i) in
    let k = kind_told a.text.now (record_at a.rows.now a.i) c.kind_at-kind.result c.kind_at-kind.ensures in
    let h : c.heads-heading.result ≡ heading r = c.heads-heading.ensures ∙ ap (λ (x : Paper.Kind). Paper.is x Paper.S) k in
    let g : List ℕ = gap_text a.inside (heading r) in
    let f : Fits a.out.now a.at (g ++ row_text r) = fits c.requires.3 in
    (c.requires.0, c.requires.1, c.requires.2, k, (second_fits (row_text r) f (wrote_as (ap (gap_text a.inside) (sym h)) c.lay_gap-a.ensures)).inside)

pub returns : goal.returns
unfolding placed_text
returns c =
    let a = c.args in
    let r : Row = show_row a.text.now (record_at a.rows.now a.i) in
    let k = kind_told a.text.now (record_at a.rows.now a.i) c.kind_at-kind.result c.kind_at-kind.ensures in
    let h : c.heads-heading.result ≡ heading r = c.heads-heading.ensures ∙ ap (λ (x : Paper.Kind). Paper.is x Paper.S) k in
    let g : List ℕ = gap_text a.inside (heading r) in
    let f : Fits a.out.now a.at (g ++ row_text r) = fits c.requires.3 in
    both_written f (wrote_as (ap (gap_text a.inside) (sym h)) c.lay_gap-a.ensures) c.lay_kind.ensures
