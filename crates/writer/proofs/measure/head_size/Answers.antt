-- `writer::measure::head_size`: a page of a sound head without rows fits into the scratch room.
-- Assumes nothing.
use Rattle.std.proofs.Common.{◌≡◌, false, [], ◌++◌, length, ap, arith}
use Rattle.paper.specs.Plan.{Head}
use Rattle.paper.specs.Writing.{page}
use Rattle.plan.specs.Numbers.{show_head}
use Rattle.sound.proofs.SoundLaws.{head_shown}
use Rattle.writer.specs.Spelling.{head_text}
use Rattle.writer.specs.Tags.{rows_placed, rows_page}
use Rattle.writer.proofs.MeasureLaws.{page_short, people_short}
use Rattle.writer.proofs.Placed.{page_placed, written_first}
use Rattle.writer.proofs.measure.head_size.Goals as goal

-- the page without rows
alone : (h : Head) → page h [] 1 1 ≡ head_text h 1 1 ++ rows_page false []
unfolding rows_placed
alone h = page_placed h [] 1 1 false (λ e. absurd (omega (arith, e)))

pub lay_people-p-requires : goal.lay_people-p-requires
lay_people-p-requires c =
    let s = people_short (show_head c.args.text.now c.args.plan) (head_shown c.args.text.now c.args.plan c.requires.0) in
    (c.keys-keys.ensures, c.requires.0, omega (arith, s))

pub lay_page-requires : goal.lay_page-requires
lay_page-requires c =
    let h : Head = show_head c.args.text.now c.args.plan in
    let s = page_short h (head_shown c.args.text.now c.args.plan c.requires.0) in
    (c.keys-keys.ensures, c.requires.0, omega arith, omega arith, written_first c.lay_people-p.ensures, tt, omega (arith, ap length (alone h), s, c.requires.1))

pub returns : goal.returns
returns c = omega (arith, c.lay_page.ensures.behind, ap length (alone (show_head c.args.text.now c.args.plan)))
