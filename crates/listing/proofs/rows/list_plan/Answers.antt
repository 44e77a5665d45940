-- `listing::rows::list_plan`: the head's lines, the rows' and the row count stand one behind the other.
-- Assumes nothing.
use Rattle.std.proofs.Common.{◌++◌}
use Rattle.plan.specs.Numbers.{head_in_text}
use Rattle.room.proofs.Pieces.{fits_as, fits_whole, wrote_as, written_whole}
use Rattle.listing.proofs.Fielded.{first_lines, other_lines, lines_written}
use Rattle.listing.proofs.Whole.{head_part, rows_part, count_part, listing_is}
use Rattle.listing.proofs.rows.list_plan.Goals as goal

pub head_lines-a-requires : goal.head_lines-a-requires
unfolding head_in_text
head_lines-a-requires c =
    let t = c.args.text.now in
    let p = c.args.plan in
    let rows = c.args.rows.now in
    let all = fits_as (listing_is t p rows) (fits_whole c.args.out.now _ c.requires.3) in
    (c.requires.1, (first_lines (head_part t p) (rows_part t p rows ++ count_part p) all).inside)

pub rows_lines-b-requires : goal.rows_lines-b-requires
rows_lines-b-requires c =
    let t = c.args.text.now in
    let p = c.args.plan in
    let rows = c.args.rows.now in
    let all = fits_as (listing_is t p rows) (fits_whole c.args.out.now _ c.requires.3) in
    let behind = other_lines (head_part t p) (rows_part t p rows ++ count_part p) all c.head_lines-a.ensures in
    (c.requires.0, c.requires.2, (first_lines (rows_part t p rows) (count_part p) behind).inside)

pub count_line-requires : goal.count_line-requires
count_line-requires c =
    let t = c.args.text.now in
    let p = c.args.plan in
    let rows = c.args.rows.now in
    let all = fits_as (listing_is t p rows) (fits_whole c.args.out.now _ c.requires.3) in
    let behind = other_lines (head_part t p) (rows_part t p rows ++ count_part p) all c.head_lines-a.ensures in
    (other_lines (rows_part t p rows) (count_part p) behind c.rows_lines-b.ensures).inside

pub returns : goal.returns
returns c =
    let t = c.args.text.now in
    let p = c.args.plan in
    let rows = c.args.rows.now in
    let all = fits_as (listing_is t p rows) (fits_whole c.args.out.now _ c.requires.3) in
    let behind = other_lines (head_part t p) (rows_part t p rows ++ count_part p) all c.head_lines-a.ensures in
    written_whole (wrote_as (listing_is t p rows)
    (lines_written (head_part t p) (rows_part t p rows ++ count_part p) all c.head_lines-a.ensures (lines_written (rows_part t p rows) (count_part p) behind c.rows_lines-b.ensures c.count_line.ensures)))
