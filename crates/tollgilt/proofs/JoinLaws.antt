-- JoinLaws: pages that lie one behind the other, laid anew with a zero byte between each and the next.
-- Assumes nothing.
use mathlib.Core.Path.{◌≡◌, refl, ap, sym, ◌∙◌, subst}
use mathlib.Core.List.{List, [], ◌∷◌, ◌++◌}
use Prim.Native.Nat.{ℕ, zero, suc, ◌+◌, ◌-◌, ◌≤◌, ◌<◌}
use native.Mathlib.Numerals.{add-one}
use native.Mathlib.Omega.{arith}
use lib.ListN.{length, take, drop, get_or, set, length-append, length-drop, drop_of_length-le}
use lib.Seq.{drop-cons, get_or-take, length-take-le}
use Rattle.paper.specs.Lists.{concat}
use Rattle.paper.specs.Calls.{pages_at}
use Rattle.room.specs.Laid.{laid}
use Rattle.room.proofs.LaidLaws.{Laying, start, told, next_piece, next_byte, all_laid}
use Rattle.room.proofs.Pieces.{fits, wrote, room_kept, both_written, written_whole}
use Rattle.tollgilt.specs.Fresh.{behind, total}
use Rattle.tollgilt.specs.Printed.{zero_then, separated}

-- the pages of these lengths that lie in b from a place on
abbrev from : List ℕ → ℕ → List ℕ → List (List ℕ)
from b at l = pages_at b (behind at l) l

-- Of `count` pages with these lengths in b, k are laid, the first of them before the room was out₀: the next one begins at `at`, and is to be laid behind place n.
pub record Joining (b lens : List ℕ) (count : ℕ) (out₀ : List ℕ) (at₀ n₀ : ℕ) (out : List ℕ) (at n k : ℕ) : Type 0 where
  pub within : k ≤ count
  pub few : count ≤ length lens
  pub lie : total (take count lens) ≤ length b
  pub room : total (take count lens) + count ≤ length out₀ + 1
  pub bytes : at + total (drop k (take count lens)) ≡ total (take count lens)
  pub place : n + 1 ≡ at + k
  pub laying : Laying out₀ out n₀ n (zero_then (from b at₀ (drop 1 (take count lens)))) (zero_then (from b at (drop k (take count lens))))

-- the first page
module _ (b lens : List ℕ) (count : ℕ) (out : List ℕ) (s : 1 ≤ count) (few : count ≤ length lens) (f : total (take count lens) ≤ length b) (g : total (take count lens) + count ≤ length out + 1) where
  first_most : (c : ℕ) (l : List ℕ) → 1 ≤ c → c ≤ length l → total (take c l) ≡ get_or l 0 0 + total (drop 1 (take c l))
  first_most zero l h e = absurd (omega arith)
  first_most (suc c) [] h e = absurd (omega arith)
  first_most (suc c) (x ∷ l) h e = refl

  -- it lies in b
  pub first_inside : get_or lens 0 0 ≤ length b
  first_inside = omega (arith, first_most count lens s few)

  first_long : length (take (get_or lens 0 0) b) ≡ get_or lens 0 0
  first_long = length-take-le (get_or lens 0 0) b first_inside

  -- there is room for it
  pub first_fits : 0 + length (take (get_or lens 0 0) b) ≤ length out
  first_fits = omega (arith, first_most count lens s few, first_long)

  -- laying it keeps the room's length
  first_kept : (n₀ : ℕ) (out₀ : List ℕ) → (n₀ ≡ 0 + length (take (get_or lens 0 0) b)) × (out₀ ≡ laid out 0 (take (get_or lens 0 0) b)) → length out₀ ≡ length out
  first_kept n₀ out₀ w = room_kept {o = out} {p = take (get_or lens 0 0) b} {a = 0} {r = n₀} (fits first_fits) (wrote w)

  -- it is laid
  pub join_first : (n₀ : ℕ) (out₀ : List ℕ) → (n₀ ≡ 0 + length (take (get_or lens 0 0) b)) × (out₀ ≡ laid out 0 (take (get_or lens 0 0) b))
      → Joining b lens count out₀ (get_or lens 0 0) n₀ out₀ (get_or lens 0 0) n₀ 1
  join_first n₀ out₀ (u, v) =
      let long = first_kept n₀ out₀ (u, v) in
      let n : n₀ ≡ get_or lens 0 0 = omega (arith, u, first_long) in
      record {
        within = s;
        few = few;
        lie = f;
        room = omega arith;
        bytes = sym (first_most count lens s few);
        place = omega arith;
        laying = start out₀ n₀ (zero_then (from b (get_or lens 0 0) (drop 1 (take count lens)))) (omega (arith, u, first_fits));
      }

module _ {b lens : List ℕ} {count : ℕ} {out₀ : List ℕ} {at₀ n₀ : ℕ} {out : List ℕ} {at n k : ℕ} (J : Joining b lens count out₀ at₀ n₀ out at n k) where
  long : length (take count lens) ≡ count
  long = length-take-le count lens J.few

  module _ (h : k < count) where
    next : drop k (take count lens) ≡ get_or lens k 0 ∷ drop (suc k) (take count lens)
    next = drop-cons (take count lens) k 0 (omega (arith, long)) ∙ ap (λ (x : ℕ). x ∷ drop (suc k) (take count lens)) (get_or-take count lens k 0 h)

    -- the next page lies in b
    pub next_inside : at + get_or lens k 0 ≤ length b
    next_inside = omega (arith, J.bytes, ap total next, J.lie)

    -- there is room for a zero byte
    pub zero_fits : n < length out₀
    zero_fits = omega (arith, J.bytes, J.place, J.room)

    page_is : take (at + get_or lens k 0 - at) (drop at b) ≡ take (get_or lens k 0) (drop at b)
    page_is = let e : at + get_or lens k 0 - at ≡ get_or lens k 0 = omega arith in ap (λ (x : ℕ). take x (drop at b)) e

    page_long : length (take (get_or lens k 0) (drop at b)) ≡ get_or lens k 0
    page_long = length-take-le (get_or lens k 0) (drop at b) (omega (arith, length-drop at b, next_inside))

    -- and for the page behind it
    pub page_fits : n + 1 + length (take (at + get_or lens k 0 - at) (drop at b)) ≤ length out₀
    page_fits = omega (arith, J.bytes, ap total next, J.place, J.room, ap length page_is, page_long)

    -- a zero byte and the next page are laid
    pub join_next : (n' : ℕ) (out' : List ℕ)
        → (n' ≡ n + 1 + length (take (at + get_or lens k 0 - at) (drop at b))) × (out' ≡ laid (set out n 0) (n + 1) (take (at + get_or lens k 0 - at) (drop at b)))
        → Joining b lens count out₀ at₀ n₀ out' (at + get_or lens k 0) n' (k + 1)
    join_next n' out' (u, v) =
        let l : List ℕ = take count lens in
        let w : List ℕ = take (at + get_or lens k 0 - at) (drop at b) in
        let t : List ℕ = zero_then (from b (at + get_or lens k 0) (drop (suc k) l)) in
        let L = told J.laying (ap (λ (d : List ℕ). zero_then (from b at d)) next ∙ ap (λ (y : List ℕ). 0 ∷ (y ++ t)) (sym page_is)) in
        let L₂ = next_piece (next_byte L zero_fits) w t refl page_fits in
        let e : at + get_or lens k 0 + total (drop (suc k) l) ≡ total l = omega (arith, J.bytes, ap total next) in
        record {
          within = omega arith;
          few = J.few;
          lie = J.lie;
          room = J.room;
          bytes = subst (λ (j : ℕ). at + get_or lens k 0 + total (drop j l) ≡ total l) (sym (add-one k)) e;
          place = omega (arith, u, ap length page_is, page_long, J.place);
          laying = subst (λ (j : ℕ). Laying out₀ out' n₀ n' (zero_then (from b at₀ (drop 1 l))) (zero_then (from b (at + get_or lens k 0) (drop j l)))) (sym (add-one k)) (rw (u, v) L₂);
        }

-- all pages are laid
pub join_done : (b lens : List ℕ) (count : ℕ) (out : List ℕ) → 1 ≤ count → count ≤ length lens → total (take count lens) ≤ length b → total (take count lens) + count ≤ length out + 1
    → (n₀ : ℕ) (out₀ : List ℕ) → (n₀ ≡ 0 + length (take (get_or lens 0 0) b)) × (out₀ ≡ laid out 0 (take (get_or lens 0 0) b))
    → (at n k : ℕ) (out' : List ℕ) → Joining b lens count out₀ (get_or lens 0 0) n₀ out' at n k → count ≤ k
    → (n ≡ length (separated (from b 0 (take count lens)))) × (out' ≡ laid out 0 (separated (from b 0 (take count lens))))
join_done b lens count out s few f g n₀ out₀ w at n k out' H h =
    let l : List ℕ = take count lens in
    let p : List ℕ = take (get_or lens 0 0) b in
    let q : List ℕ = zero_then (from b (get_or lens 0 0) (drop 1 l)) in
    let all : separated (from b 0 l) ≡ p ++ q = whole count lens s few in
    let over : length l ≤ k = omega (arith, length-take-le count lens few) in
    let none : drop k l ≡ [] = drop_of_length-le l over in
    let L = told H.laying (ap (λ (d : List ℕ). zero_then (from b at d)) none) in
    let (x, y) = all_laid (omega (arith, H.laying.inside, w.0, first_fits b lens count out s few f g, first_kept b lens count out s few f g n₀ out₀ w)) L in
    let size : 0 + length (p ++ q) ≤ length out = omega (arith, x, H.laying.inside, length-append p q, w.0, first_kept b lens count out s few f g n₀ out₀ w) in
    rw all (written_whole (both_written {o = out} {o₁ = out₀} {p = p} {q = q} {a = 0} {b = n₀} (fits size) (wrote w) (wrote (x, y))))
  where
    whole : (c : ℕ) (l : List ℕ) → 1 ≤ c → c ≤ length l → separated (from b 0 (take c l)) ≡ take (get_or l 0 0) b ++ zero_then (from b (get_or l 0 0) (drop 1 (take c l)))
    whole zero l h e = absurd (omega arith)
    whole (suc c) [] h e = absurd (omega arith)
    whole (suc c) (x ∷ l) h e = let z : 0 + x ≡ x = omega arith in ap (λ (y : ℕ). take x b ++ zero_then (from b y (take c l))) z

-- ---- how many bytes that is

zero_then_long : (f : List (List ℕ)) → length (zero_then f) ≡ length f + length (concat f)
zero_then_long [] = refl
zero_then_long (w ∷ f) = omega (arith, length-append w (zero_then f), length-append w (concat f), zero_then_long f)

-- at most nine pages of 12,600 bytes have at most eight zero bytes between them
pub separated_short : (f : List (List ℕ)) → length f ≤ 9 → length (concat f) ≤ 12600 → length (separated f) ≤ 12608
separated_short [] h g = omega arith
separated_short (w ∷ f) h g = omega (arith, length-append w (zero_then f), length-append w (concat f), zero_then_long f)
