-- `writer::tags::lay_value`: a copy that is spelled so is the value's spelling, and another is laid over by it.
-- Assumes nothing.
use Rattle.std.proofs.Common.{◌≡◌, ◌≤◌, ℕ, List, ◌+◌, length, ap, ◌∙◌, arith}
use Rattle.std.proofs.Math.Seq.{slice}
use lib.Seq.{length-slice}
use Rattle.paper.specs.Values.{escape}
use Rattle.room.specs.Laid.{laid}
use Rattle.room.specs.Written.{Wrote}
use Rattle.writer.proofs.Spelled.{escape_long, laid_over}
use Rattle.writer.proofs.tags.lay_value.Goals as goal

-- a copy that is laid over
over : (o o₁ o₂ v : List ℕ) (a r : ℕ) → a + length (escape v) ≤ length o → o₁ ≡ laid o a v → r ≡ a + length (escape v) → o₂ ≡ laid o₁ a (escape v) → Wrote o o₂ a r (escape v)
over o o₁ o₂ v a r h w q u = record { behind = q; room = u ∙ ap (λ (x : List ℕ). laid x a (escape v)) w ∙ laid_over o v (escape v) a h (escape_long v) }

pub lay_plain-requires : goal.lay_plain-requires
lay_plain-requires c =
    let a = c.args in
    let v : List ℕ = slice a.from a.to a.text.now in
    (c.requires.0, c.requires.1, omega (arith, length-slice a.from a.to a.text.now c.requires.1, escape_long v, c.requires.2))

pub returns : goal.returns
returns c = over _ _ _ (slice c.args.from c.args.to c.args.text.now) c.args.at _ c.requires.2 c.lay_plain.ensures.1 c.spell.ensures.0 c.spell.ensures.1
