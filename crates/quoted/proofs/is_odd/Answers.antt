-- The table's entry tells whether a byte is ordinary.
use mathlib.Core.Path.{◌≡◌, ap, ◌∙◌}
use mathlib.Core.Bool.{not}
use mathlib.Core.List.{List}
use Prim.Native.Nat.{ℕ, ◌<◌}
use lib.Dec.{eqb}
use lib.ListN.{get_or}
use borrow.Author.Rules.{rules}
use Rattle.quoted.specs.Plain.{ordinary, odd_table}
use Rattle.quoted.proofs.PlainLaws.{entry, told}
use Rattle.quoted.proofs.is_odd.Goals as goal

tells : (l : List ℕ) (b : ℕ) → l ≡ odd_table → b < 256 → eqb (get_or l b 0) 1 ≡ not (ordinary b)
tells l b e h = ap (λ (s : List ℕ). eqb (get_or s b 0) 1) e ∙ ap (λ (x : ℕ). eqb x 1) (entry b h) ∙ told (ordinary b)

pub returns : goal.returns
returns c = tells c.args.odd.now c.args.b c.requires (search rules)
