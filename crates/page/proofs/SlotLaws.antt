-- SlotLaws: the spans of a tape one at a time, and their values laid.
-- Assumes nothing.
use mathlib.Core.Path.{◌≡◌, refl, ap, ◌∙◌}
use mathlib.Core.Bool.{Bool, true, false, not, ◌&&◌}
use mathlib.Core.List.{List, [], ◌∷◌}
use Prim.Native.Nat.{ℕ, zero, suc, ◌+◌, ◌*◌, ◌-◌, ◌≤◌, ◌<◌}
use native.Mathlib.Omega.{arith}
use lib.ListN.{length, take, drop, get_or}
use lib.Dec.{eqb}
use lib.Pointwise.{pointwise}
use lib.Seq.{slice, take-length}
use borrow.Author.Tests.{lt-ltb, le-ltb}
use Rattle.paper.specs.Lists.{same, number}
use Rattle.paper.specs.Plan.{Slots, same_slots}
use Rattle.page.specs.Laying.{Room, Lays}
use Rattle.page.proofs.ContentLaws.{Going, turn, room_left, room_first, regoing}
use Rattle.room.proofs.Compared.{pointwise_same}
use Rattle.room.proofs.Parts.{part_is}
use Rattle.room.proofs.PairLaws.{pairs_long, pairs_at_lem, each_at}
use Rattle.tape.specs.Tape.{shown_in, values_at, Span, Spans}

-- a value in the page, and one in the side room
pub shown_page : (w x : List ℕ) (a b : ℕ) → a < 32768 → take (b - a) (drop a w) ≡ shown_in w x a b
unfolding shown_in
shown_page w x a b h = rw (lt-ltb a 32768 h) (part_is w a b)

pub shown_side : (w x : List ℕ) (a b : ℕ) → 32768 ≤ a → take (b - (a - 32768)) (drop (a - 32768) x) ≡ shown_in w x a b
unfolding shown_in
shown_side w x a b h = rw (le-ltb a 32768 h) (part_is x (a - 32768) b)

-- the whole of a value
pub whole : (v : List ℕ) → slice 0 (length v) v ≡ v
whole v = take-length v

-- two values compared item by item
pub same_values : (v u a b : List ℕ) → v ≡ a → u ≡ b → pointwise eqb v u ≡ same a b
same_values v u a b e f = pointwise_same v u ∙ rw (e, f)

pub other_values : (r : Bool) (v u a b : List ℕ) → r ≡ not (pointwise eqb v u) → v ≡ a → u ≡ b → same a b ≡ not r
other_values r v u a b h e f = rw (h, same_values v u a b e f) (twice (same a b))
  where
    twice : (b : Bool) → b ≡ not (not b)
    twice true = refl
    twice false = refl

pub number_whole : (v u : List ℕ) → v ≡ u → number 0 (take (length v - 0) (drop 0 v)) ≡ number 0 u
number_whole v u e = let z : length v - 0 ≡ length v = omega arith in rw z (ap (number 0) (take-length v ∙ e))

-- as many values as pairs
pub values_long : (w x : List ℕ) (n : ℕ) (t : List ℕ) (i : ℕ) → length (values_at w x n t i) ≡ n
values_long w x n t i = pairs_long (shown_in w x) n t i

module _ (w x t : List ℕ) where
  -- the value that the next two numbers tell
  abbrev pub shown_at : ℕ → List ℕ
  shown_at i = shown_in w x (get_or t i 0) (get_or t (i + 1) 0)

  pub values_next : (i n : ℕ) → 0 < n → values_at w x n t i ≡ shown_at i ∷ values_at w x (n - 1) t (i + 2)
  values_next i zero h = absurd (omega arith)
  values_next i (suc n) h = let e : suc n - 1 ≡ n = omega arith in rw e

  pub spans_next : (m i n : ℕ) → 0 < n → Spans w m n t i → Span w m (get_or t i 0) (get_or t (i + 1) 0) × Spans w m (n - 1) t (i + 2)
  spans_next m i zero h L = absurd (omega arith)
  spans_next m i (suc n) h L = let e : suc n - 1 ≡ n = omega arith in rw e L

  -- one of the values by its place
  pub values_at_lem : (i n j : ℕ) → j < n → get_or (values_at w x n t i) j [] ≡ shown_at (i + 2 * j)
  values_at_lem i n j h = pairs_at_lem (shown_in w x) n t i j [] h

  pub span_at_lem : (m i n j : ℕ) → j < n → Spans w m n t i → Span w m (get_or t (i + 2 * j) 0) (get_or t (i + 2 * j + 1) 0)
  span_at_lem m i n j h L = each_at (Span w m) n t i j h L

-- values are being laid: the next one
module _ {all : Slots} {text₀ text : List ℕ} {n m : ℕ} {numbers₀ numbers : List ℕ} {at b : ℕ} (w x t : List ℕ) (i k : ℕ)
    (G : Going all (values_at w x k t i) text₀ text n m numbers₀ numbers at b) (Q : Room all text₀ n) (h : 0 < k) where
  left : Going all (shown_at w x t i ∷ values_at w x (k - 1) t (i + 2)) text₀ text n m numbers₀ numbers at b
  left = regoing (values_next w x t i k h) G

  pub next_room : Room (shown_at w x t i ∷ []) text m
  next_room = room_first (shown_at w x t i ∷ []) (values_at w x (k - 1) t (i + 2)) text m (room_left left Q)

  pub next_laid : {text' : List ℕ} {e : ℕ} {numbers' : List ℕ} → Lays (shown_at w x t i ∷ []) text text' m e numbers numbers' b → b + 2 ≤ length numbers₀
      → Going all (values_at w x (k - 1) t (i + 2)) text₀ text' n e numbers₀ numbers' at (b + 2)
  next_laid L q =
      let v : List ℕ = shown_at w x t i in
      let f = next_room.fits in
      let g = G.text_so.long in
      turn {us = v ∷ []} left L (omega arith) q

-- two runs of values, one at a time
module _ (w v x t : List ℕ) (p q n : ℕ) (h : 0 < n) where
  slots_next : same_slots (values_at w x n t p) (values_at v x n t q)
      ≡ (same (shown_at w x t p) (shown_at v x t q) && same_slots (values_at w x (n - 1) t (p + 2)) (values_at v x (n - 1) t (q + 2)))
  slots_next = rw (values_next w x t p n h, values_next v x t q n h)

  pub slots_other : same (shown_at w x t p) (shown_at v x t q) ≡ false → same_slots (values_at w x n t p) (values_at v x n t q) ≡ false
  slots_other e = slots_next ∙ rw e

  pub slots_same : same (shown_at w x t p) (shown_at v x t q) ≡ true
      → same_slots (values_at w x n t p) (values_at v x n t q) ≡ same_slots (values_at w x (n - 1) t (p + 2)) (values_at v x (n - 1) t (q + 2))
  slots_same e = slots_next ∙ rw e

pub slots_none : (w v x t : List ℕ) (p q n : ℕ) → n ≡ 0 → same_slots (values_at w x n t p) (values_at v x n t q) ≡ true
slots_none w v x t p q n e = rw e
