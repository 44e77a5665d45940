-- `writer::writing::lay_pages`: the next page's rows are a stretch of those that are spelled, and the page fits, and is laid.
-- Assumes nothing.
use Rattle.std.proofs.Common.{◌≡◌, ◌≤◌, ◌<◌, ℕ, zero, suc, ◌+◌, ◌*◌, ◌-◌, Bool, List, ◌++◌, map, length, take, drop, get_or, refl, ap, sym, ◌∙◌, subst, arith, rules}
use Rattle.std.proofs.Math.Seq.{slice}
use Rattle.paper.specs.Plan.{Head, Row}
use Rattle.paper.specs.Fields as Paper
use Rattle.paper.specs.Writing.{heading, page}
use Rattle.plan.specs.Numbers.{record_at, kind_shown, show_row, show_rows, show_head}
use Rattle.plan.specs.Records.{paper_kind, code_kind}
use Rattle.plan.proofs.Shown.{rows_shown}
use Rattle.sound.proofs.SoundLaws.{head_shown}
use Rattle.room.proofs.Pieces.{wrote_as}
use Rattle.writer.specs.Cutting.{measure_of, sizes_in}
use Rattle.writer.specs.Spelling.{head_text, rows_between}
use Rattle.writer.specs.Tags.{rows_placed, rows_page, Opened}
use Rattle.writer.proofs.MeasureLaws.{people_short, heading_told}
use Rattle.writer.proofs.PageLaws.{laid_start, next_rows, next_fits, next_short, laid_next, laid_all}
use Rattle.writer.proofs.Placed.{headed, page_placed, page_opened, stretch_sizes, stretch_within, stretch_bytes, all_there, written_first}
use Rattle.writer.proofs.writing.lay_pages.Goals as goal

-- the first of some rows, by its record
first-told : (t rows : List ℕ) (from to : ℕ) (b : Bool) → (from < to → b ≡ Paper.is (paper_kind (code_kind (kind_shown (get_or (record_at rows from) 0 0)))) Paper.S) → 1 ≤ length (rows_between t rows from to) → b ≡ headed (rows_between t rows from to)
first-told t rows from to b h l =
    let n = rows_shown t (to - from) (drop (from * 48) rows) in
    h (omega arith) ∙ heading_told t (record_at rows from) ∙ at (to - from) (omega arith)
  where
    at : (k : ℕ) → 1 ≤ k → heading (show_row t (record_at rows from)) ≡ headed (show_rows t k (drop (from * 48) rows))
    at zero i = absurd (omega arith)
    at (suc k) i = refl

-- the rows of a page among all as they are spelled
module _ (t rows ms spelt : List ℕ) (n from to begin size : ℕ) (r : (from ≤ to) × (to ≤ n)) (m : take n ms ≡ map measure_of (show_rows t n rows))
    (s : take (length (rows_placed (show_rows t n rows))) spelt ≡ rows_placed (show_rows t n rows)) (b : begin ≡ length (rows_placed (show_rows t from rows))) (e : size ≡ sizes_in (slice from to ms)) where
  -- how many bytes they have
  size_is : size ≡ length (rows_placed (rows_between t rows from to))
  size_is = e ∙ stretch_sizes t rows n from to r.0 r.1 ms m

  -- they end within
  within_all : begin + size ≤ length spelt
  within_all = omega (arith, size_is, b, stretch_within t rows n from to r.0 r.1, all_there spelt _ s)

  -- they stand there
  part_is : take (begin + size - begin) (drop begin spelt) ≡ rows_placed (rows_between t rows from to)
  part_is =
      let long : begin + size - begin ≡ length (rows_placed (rows_between t rows from to)) = omega (arith, size_is) in
      ap (λ (k : ℕ). take k (drop begin spelt)) long
      ∙ ap (λ (k : ℕ). take (length (rows_placed (rows_between t rows from to))) (drop k spelt)) b
      ∙ stretch_bytes t rows n from to r.0 r.1 spelt s

-- the page as it is laid
laid_as : (h : Head) (rs : List Row) (a z : ℕ) (b : Bool) (w : List ℕ) → (1 ≤ length rs → b ≡ headed rs) → w ≡ rows_placed rs → page h rs a z ≡ head_text h a z ++ rows_page b w
laid_as h rs a z b w f e = page_placed h rs a z b f ∙ ap (λ (x : List ℕ). head_text h a z ++ rows_page b x) (sym e)

pub lay_people-p-requires : goal.lay_people-p-requires
lay_people-p-requires c =
    let h : Head = show_head c.args.text.now c.args.plan in
    let short = people_short h (head_shown c.args.text.now c.args.plan c.requires.0) in
    (c.keys-keys.ensures, c.requires.0, omega (arith, short))

pub loop-k-init : goal.loop-k-init
loop-k-init c =
    let a = c.args in
    let l : length a.ends ≡ 9 = search rules in
    laid_start (show_head a.text.now a.plan) a.text.now a.rows.now a.ends a.n a.z a.out.now c.requires.3 l c.requires.4 c.requires.5 c.requires.6

pub sizes_between-requires : goal.sizes_between-requires
sizes_between-requires c =
    let r = next_rows _ _ _ _ _ _ c.loop-k.invariant c.loop-k-test.true in
    let l : length c.args.measures ≡ 256 = search rules in
    (r.0, omega (arith, r.1, c.requires.2), omega (arith, r.1, c.requires.2, l))

pub overflow_add-end : goal.overflow_add-end
overflow_add-end c =
    let a = c.args in
    let r = next_rows _ _ _ _ _ _ c.loop-k.invariant c.loop-k-test.true in
    let w = within_all a.text.now a.rows.now a.measures a.spelt.now a.n c.loop-k.from (get_or a.ends c.loop-k.k 0) c.loop-k.begin c.sizes_between.result r c.requires.7 c.requires.8 c.loop-k.invariant.begins c.sizes_between.ensures in
    search rules

pub begins_section-heading-requires : goal.begins_section-heading-requires
begins_section-heading-requires c =
    let r = next_rows _ _ _ _ _ _ c.loop-k.invariant c.loop-k-test.true in
    (r.0, omega (arith, r.1, c.requires.1))

pub slice_bounds-lay_page-end-in-loop-k-2 : goal.slice_bounds-lay_page-end-in-loop-k-2
slice_bounds-lay_page-end-in-loop-k-2 c =
    let a = c.args in
    let r = next_rows _ _ _ _ _ _ c.loop-k.invariant c.loop-k-test.true in
    within_all a.text.now a.rows.now a.measures a.spelt.now a.n c.loop-k.from (get_or a.ends c.loop-k.k 0) c.loop-k.begin c.sizes_between.result r c.requires.7 c.requires.8 c.loop-k.invariant.begins c.sizes_between.ensures

pub lay_page-e-requires : goal.lay_page-e-requires
lay_page-e-requires c =
    let a = c.args in
    let L = c.loop-k in
    let i = c.loop-k-test.true in
    let to : ℕ = get_or a.ends L.k 0 in
    let r = next_rows _ _ _ _ _ _ L.invariant i in
    let w = part_is a.text.now a.rows.now a.measures a.spelt.now a.n L.from to L.begin c.sizes_between.result r c.requires.7 c.requires.8 L.invariant.begins c.sizes_between.ensures in
    let f = first-told a.text.now a.rows.now L.from to c.begins_section-heading.result c.begins_section-heading.ensures in
    let rs : List Row = rows_between a.text.now a.rows.now L.from to in
    let p = laid_as (show_head a.text.now a.plan) rs (L.k + 1) a.z c.begins_section-heading.result _ f w in
    let e : L.k + 1 ≤ 9 = omega (arith, i, c.requires.3) in (
      c.keys-keys.ensures,
      c.requires.0,
      e,
      c.requires.3,
      written_first c.lay_people-p.ensures,
      subst (Opened c.begins_section-heading.result) (sym w) (page_opened rs c.begins_section-heading.result f),
      omega (arith, ap length p, next_fits _ _ _ _ _ _ L.invariant i),
    )

pub overflow_cast-lens : goal.overflow_cast-lens
overflow_cast-lens c =
    let a = c.args in
    let L = c.loop-k in
    let i = c.loop-k-test.true in
    let to : ℕ = get_or a.ends L.k 0 in
    let r = next_rows _ _ _ _ _ _ L.invariant i in
    let w = part_is a.text.now a.rows.now a.measures a.spelt.now a.n L.from to L.begin c.sizes_between.result r c.requires.7 c.requires.8 L.invariant.begins c.sizes_between.ensures in
    let f = first-told a.text.now a.rows.now L.from to c.begins_section-heading.result c.begins_section-heading.ensures in
    let rs : List Row = rows_between a.text.now a.rows.now L.from to in
    let p = laid_as (show_head a.text.now a.plan) rs (L.k + 1) a.z c.begins_section-heading.result _ f w in
    omega (arith, c.lay_page-e.ensures.behind, ap length p, next_short _ _ _ _ _ _ L.invariant i)

pub loop-k-preserved : goal.loop-k-preserved
loop-k-preserved c =
    let a = c.args in
    let L = c.loop-k in
    let i = c.loop-k-test.true in
    let to : ℕ = get_or a.ends L.k 0 in
    let r = next_rows _ _ _ _ _ _ L.invariant i in
    let w = part_is a.text.now a.rows.now a.measures a.spelt.now a.n L.from to L.begin c.sizes_between.result r c.requires.7 c.requires.8 L.invariant.begins c.sizes_between.ensures in
    let f = first-told a.text.now a.rows.now L.from to c.begins_section-heading.result c.begins_section-heading.ensures in
    let rs : List Row = rows_between a.text.now a.rows.now L.from to in
    let p = laid_as (show_head a.text.now a.plan) rs (L.k + 1) a.z c.begins_section-heading.result _ f w in
    let s = size_is a.text.now a.rows.now a.measures a.spelt.now a.n L.from to L.begin c.sizes_between.result r c.requires.7 c.requires.8 L.invariant.begins c.sizes_between.ensures in
    laid_next _ _ _ _ _ _ L.invariant i _ _ (wrote_as p c.lay_page-e.ensures) refl (ap (λ (x : ℕ). L.begin + x) s)

pub returns : goal.returns
returns c = laid_all _ _ _ _ _ _ c.loop-k.invariant c.loop-k-test.false c.requires.6
