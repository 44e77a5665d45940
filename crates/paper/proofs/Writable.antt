-- What was read is never refused with 1 or 13 by the writer; and written afresh twice it is the same.
use mathlib.Core.Path.{◌≡◌, refl, sym, ◌∙◌}
use mathlib.Core.Logic.{◌⊎◌, inl, inr}
use mathlib.Core.Bool.{Bool, true, false}
use mathlib.Core.Option.{Option, none, some}
use mathlib.Core.List.{List, [], ◌∷◌}
use Prim.Native.Nat.{ℕ, suc, ◌≤◌}
use lib.Dec.{leb}
use lib.ListN.{length}
use borrow.Author.Tests.{le-leb}
use Rattle.paper.specs.Lists.{if}
use Rattle.paper.proofs.Small.{no}
use Rattle.paper.specs.Plan.{Plan, Row}
use Rattle.paper.specs.Reading.{plan, read}
use Rattle.paper.specs.Writing.{written, too_long, sound, pages}
use Rattle.paper.proofs.BySize.{sized, lay_sized, greedy, none_cut}
use Rattle.paper.proofs.Fewest.{Way, way, many, bad, long, laid}
use Rattle.paper.proofs.ReadSound.{read_sound}

lay_ends : (p : Plan) (o : Option (List (List Row))) → ((g : List (List ℕ)) × (lay_sized p o ≡ written g)) ⊎ ((r : ℕ) × (lay_sized p o ≡ too_long r))
lay_ends p none = inr (suc _, refl)
lay_ends p (some []) = inl (pages p.head 1 1 ([] ∷ []), refl)
lay_ends p (some (q ∷ qs)) = at (leb (length (q ∷ qs)) 9)
  where
    at : (b : Bool) → ((g : List (List ℕ)) × (if b (written (pages p.head (length (q ∷ qs)) 1 (q ∷ qs))) (none_cut p) ≡ written g)) ⊎ ((r : ℕ) × (if b (written (pages p.head (length (q ∷ qs)) 1 (q ∷ qs))) (none_cut p) ≡ too_long r))
    at true = inl (pages p.head (length (q ∷ qs)) 1 (q ∷ qs), refl)
    at false = inr (suc _, refl)

pub writable : (f : List (List ℕ)) (p : Plan) → read f ≡ plan p → ((g : List (List ℕ)) × (sized p ≡ written g)) ⊎ ((r : ℕ) × (sized p ≡ too_long r))
writable f p e = at (way p) (read_sound f p e)
  where
    at : Way p (sized p) → (sound p ≡ true) × (length p.rows ≤ 256) → ((g : List (List ℕ)) × (sized p ≡ written g)) ⊎ ((r : ℕ) × (sized p ≡ too_long r))
    at (many n g) s = no (sym (le-leb (length p.rows) 256 s.1) ∙ n)
    at (bad n r g) s = no (sym s.0 ∙ n)
    at (long l g) s = inr (0, g)
    at (laid b v g) s = go (lay_ends p (greedy p))
      where
        go : ((h : List (List ℕ)) × (lay_sized p (greedy p) ≡ written h)) ⊎ ((r : ℕ) × (lay_sized p (greedy p) ≡ too_long r)) → ((h : List (List ℕ)) × (sized p ≡ written h)) ⊎ ((r : ℕ) × (sized p ≡ too_long r))
        go (inl (h, q)) = inl (h, g ∙ q)
        go (inr (r, q)) = inr (r, g ∙ q)
