-- CallFacts: pages that lie in the buffer, one after the other; and what a caller may rely on once they all do.
-- Assumes nothing.
use mathlib.Core.Path.{◌≡◌, refl, ap, sym, ◌∙◌}
use mathlib.Core.Bool.{Bool, true, false, ◌&&◌}
use mathlib.Core.List.{List, [], ◌∷◌}
use Prim.Native.Nat.{ℕ, zero, suc, ◌+◌, ◌≤◌, ◌<◌}
use native.Mathlib.Numerals.{add-one}
use native.Mathlib.Omega.{arith}
use lib.Dec.{leb}
use lib.ListN.{length, take, drop, get_or, drop_of_length-le}
use lib.Seq.{drop-cons}
use borrow.Author.Tests.{leb-true}
use Rattle.paper.specs.Calls.{inside, pages_at, roomy, row_room, text_room}
use Rattle.paper.proofs.Small.{both, and_false}
use Rattle.paper.proofs.CallLaws.{inside_true}
use Rattle.plan.specs.Numbers.{rows_lent}

-- ---- the loop over the pages

-- the lists of starts and lengths differ in length
pub unlike : (b ss ns : List ℕ) → (length ns ≡ length ss → ⊥) → inside b ss ns ≡ false
unlike b [] [] h = absurd (h refl)
unlike b [] (n ∷ ns) h = refl
unlike b (s ∷ ss) [] h = refl
unlike b (s ∷ ss) (n ∷ ns) h = rw (unlike b ss ns (λ e. h (ap suc e))) (and_false (leb (s + n) (length b)))

-- the pages from the i-th on
abbrev pub inside_from : List ℕ → List ℕ → List ℕ → ℕ → Bool
inside_from b ss ns i = inside b (drop i ss) (drop i ns)

module _ (b ss ns : List ℕ) (i : ℕ) (alike : length ns ≡ length ss) where
  -- a page, and those behind it
  next_page : i < length ss → inside_from b ss ns i ≡ (leb (get_or ss i 0 + get_or ns i 0) (length b) && inside_from b ss ns (i + 1))
  next_page h = let g : i < length ns = omega arith in rw (add-one, drop-cons ss i 0, drop-cons ns i 0)

  -- a page that does not lie in the buffer
  pub outside : i < length ss → leb (get_or ss i 0 + get_or ns i 0) (length b) ≡ false → inside_from b ss ns i ≡ false
  outside h e = next_page h ∙ ap (λ (x : Bool). x && inside_from b ss ns (i + 1)) e

  -- a page that does
  pub within : i < length ss → leb (get_or ss i 0 + get_or ns i 0) (length b) ≡ true → inside_from b ss ns i ≡ inside_from b ss ns (i + 1)
  within h e = next_page h ∙ ap (λ (x : Bool). x && inside_from b ss ns (i + 1)) e

  -- no page is left
  pub none_left : length ss ≤ i → inside_from b ss ns i ≡ true
  none_left h = rw (drop_of_length-le ss h, drop_of_length-le ns {i = i} (omega arith))

-- ---- what a caller may rely on

-- a call that is well made
pub record Fits (b ss ns : List ℕ) : Type 0 where
  pub some : 1 ≤ length ss
  pub nine : length ss ≤ 9
  pub alike : length ss ≡ length ns
  pub ends : (j : ℕ) → j < length ss → get_or ss j 0 + get_or ns j 0 ≤ length b
  pub lie : inside b ss ns ≡ true

-- what the test of a call says where it holds
pub call_fits_lem : (b ss ns : List ℕ) → (leb 1 (length ss) && (leb (length ss) 9 && inside b ss ns)) ≡ true → Fits b ss ns
call_fits_lem b ss ns e =
    let (x, e₁) = both (leb 1 (length ss)) (leb (length ss) 9 && inside b ss ns) e in
    let (y, z) = both (leb (length ss) 9) (inside b ss ns) e₁ in
    let I = inside_true b ss ns z in
    record { some = leb-true 1 (length ss) x; nine = leb-true (length ss) 9 y; alike = I.alike; ends = I.ends; lie = z }

-- each page is its part of the buffer
pub page_at_lem : (b ss ns : List ℕ) (i : ℕ) → i < length ss → i < length ns → get_or (pages_at b ss ns) i [] ≡ take (get_or ns i 0) (drop (get_or ss i 0) b)
page_at_lem b [] ns i h g = absurd (omega arith)
page_at_lem b (s ∷ ss) [] i h g = absurd (omega arith)
page_at_lem b (s ∷ ss) (n ∷ ns) zero h g = refl
page_at_lem b (s ∷ ss) (n ∷ ns) (suc i) h g = page_at_lem b ss ns i (omega arith) (omega arith)

-- the pages from the i-th on: that part of the buffer, and those behind it
pub pages_from : (b ss ns : List ℕ) (i : ℕ) → i < length ss → i < length ns → drop i (pages_at b ss ns) ≡ take (get_or ns i 0) (drop (get_or ss i 0) b) ∷ drop (suc i) (pages_at b ss ns)
pages_from b [] ns i h g = absurd (omega arith)
pages_from b (s ∷ ss) [] i h g = absurd (omega arith)
pages_from b (s ∷ ss) (n ∷ ns) zero h g = refl
pages_from b (s ∷ ss) (n ∷ ns) (suc i) h g = pages_from b ss ns i (omega arith) (omega arith)

-- ---- the room

-- the room that a caller may rely on
pub room_fits : (numbers text : ℕ) → roomy (rows_lent numbers) text ≡ true → (12288 ≤ numbers) × (12600 ≤ text)
room_fits numbers text e =
    let (x, y) = both (leb row_room (rows_lent numbers)) (leb text_room text) e in
    let h = leb-true row_room (rows_lent numbers) x in
    (omega arith, leb-true text_room text y)
