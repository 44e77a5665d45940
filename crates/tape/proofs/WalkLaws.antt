-- WalkLaws: the tags of a page one at a time, as the walk answers them.
-- Assumes nothing.
use mathlib.Core.Path.{◌≡◌}
use mathlib.Core.List.{List, ◌∷◌}
use Prim.Native.Nat.{ℕ, ◌+◌, ◌≤◌, ◌<◌}
use lib.ListN.{length}
use lib.Seq.{slice}
use Rattle.std.specs.Prelude.{Some}
use Rattle.paper.specs.Grammar.{end}
use Rattle.markup.specs.Walk.{inside_at, tags_at, tag_of, opened, Outer}
use Rattle.markup.specs.declared.walk.Mark.TheVariants.{Start, End}

-- an end tag stands next, its `<` at p
pub record Ends (w : List ℕ) (at p : ℕ) : Type 0 where
  pub tags : tags_at w at ≡ end ∷ tags_at w (p + 1)
  pub low : at ≤ p
  pub inner : p < length w

-- a start tag stands next, its `<` at p, its name behind that up to e
pub record Starts (w : List ℕ) (at p e : ℕ) : Type 0 where
  pub tags : tags_at w at ≡ opened p (slice (p + 1) e w) (inside_at w e) (tags_at w (p + 1))
  pub low : at ≤ p
  pub high : p < e
  pub inner : e ≤ length w

pub ends : {w : List ℕ} {at p : ℕ} → (tags_at w at ≡ tag_of w (Some (End p))) × Outer at (length w) (Some (End p)) → Ends w at p
ends h = let o = h.1 in record { tags = h.0; low = o.0; inner = o.1 }

pub starts : {w : List ℕ} {at p e : ℕ} → (tags_at w at ≡ tag_of w (Some (Start p e))) × Outer at (length w) (Some (Start p e)) → Starts w at p e
starts h = let o = h.1 in record { tags = h.0; low = o.0; high = o.1; inner = o.2 }
