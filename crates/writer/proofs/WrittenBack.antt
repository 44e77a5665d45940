-- WrittenBack: numbers that were laid out for a plan, as the reader lays them out, are sound, and are written as that plan.
-- Assumes nothing.
use mathlib.Core.Path.{◌≡◌, ap, ◌∙◌}
use mathlib.Core.Bool.{true}
use mathlib.Core.List.{List, ◌++◌}
use Prim.Native.Nat.{ℕ, ◌*◌, ◌≤◌}
use native.Mathlib.Omega.{arith}
use lib.ListN.{length, length-append}
use Rattle.paper.specs.Lists.{concat}
use Rattle.paper.specs.Plan as Said
use Rattle.paper.specs.Layout.{text_of, head_values}
use Rattle.paper.specs.Reading as Reading
use Rattle.paper.specs.Writing.{sound, fresh}
use Rattle.paper.proofs.ReadSound.{read_sound}
use Rattle.plan.specs.Numbers.{plan_numbers, plan_rows}
use Rattle.plan.proofs.Shown.{sound_back, plan_fit, rows_size}
use Rattle.sound.specs.Sound.{numbers_sound}
use Rattle.sound.proofs.Causes.{Fit, fit, fit_decides}
use Rattle.writer.specs.Promise.{answered}
use Rattle.writer.proofs.Answered.{fit_is}

-- numbers that were laid out for a sound plan point nowhere outside their text and hold nothing to spare
laid_fit : (p : Said.Plan) (rest more : List ℕ) → sound p ≡ true → Fit (text_of p ++ rest) (plan_numbers p) (plan_rows p ++ more)
laid_fit p rest more s = let (a, b) = plan_fit p rest more s in fit (text_of p ++ rest) (plan_numbers p) (plan_rows p ++ more) a b

-- they are sound
pub laid_sound : (p : Said.Plan) (rest more : List ℕ) → sound p ≡ true → numbers_sound (text_of p ++ rest) (plan_numbers p) (plan_rows p ++ more) ≡ true
laid_sound p rest more s = (fit_decides (text_of p ++ rest) (plan_numbers p) (plan_rows p ++ more) (laid_fit p rest more s)).0 ∙ (ap sound (sound_back p rest more s) ∙ s)

-- a sound plan of at most 256 rows, laid out and written, is written as itself
pub laid_written : (p : Said.Plan) (rest more out : List ℕ) → sound p ≡ true → length p.rows ≤ 256 → 12600 ≤ length out
    → answered out (plan_numbers p) (plan_rows p ++ more) (text_of p ++ rest) ≡ fresh p
laid_written p rest more out s f r =
    let lent : length p.rows * 48 ≤ length (plan_rows p ++ more) = omega (arith, length-append (plan_rows p) more, rows_size (length (concat (head_values p.head))) p.rows) in
    fit_is out (plan_numbers p) (plan_rows p ++ more) (text_of p ++ rest) (record { room = r; few = f; lent = lent }) (laid_fit p rest more s) ∙ ap fresh (sound_back p rest more s)

-- so writing what was read is writing the plan that was read
pub read_written : (f : List (List ℕ)) (p : Said.Plan) (rest more out : List ℕ) → Reading.read f ≡ Reading.plan p → 12600 ≤ length out
    → answered out (plan_numbers p) (plan_rows p ++ more) (text_of p ++ rest) ≡ fresh p
read_written f p rest more out e r = let (s, n) = read_sound f p e in laid_written p rest more out s n r
