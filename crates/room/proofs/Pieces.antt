-- Pieces: bytes that are written one piece behind the other into a lent room.
-- Assumes nothing.
use mathlib.Core.Path.{◌≡◌, refl, sym, ap, ◌∙◌, subst}
use mathlib.Core.List.{List, [], ◌∷◌, ◌++◌, append-nil}
use Prim.Native.Nat.{ℕ, ◌+◌, ◌≤◌, ◌<◌}
use native.Mathlib.Nat.{add-zero}
use native.Mathlib.Omega.{arith}
use lib.ListN.{length, set, length-append, take-append-drop}
use Rattle.room.specs.Laid.{laid}
use Rattle.room.proofs.LaidLaws.{Laying, start, told, next_piece, all_laid, set_laid}
use Rattle.room.specs.Written.{Wrote}

-- bytes that fit into the room from a place on
pub record Fits (o : List ℕ) (a : ℕ) (p : List ℕ) : Type 0 where
  pub inside : a + length p ≤ length o

-- what fits, by its length
pub fits : {o p : List ℕ} {a : ℕ} → a + length p ≤ length o → Fits o a p
fits h = record { inside = h }

-- what is written, by the place behind it and the room
pub wrote : {o o' p : List ℕ} {a r : ℕ} → (r ≡ a + length p) × (o' ≡ laid o a p) → Wrote o o' a r p
wrote u = record { behind = u.0; room = u.1 }

-- bytes told in other words fit as well
pub fits_as : {o p q : List ℕ} {a : ℕ} → p ≡ q → Fits o a p → Fits o a q
fits_as {o} {p} {q} {a} e f = subst (λ (l : List ℕ). Fits o a l) e f

-- and so for what is written
pub wrote_as : {o o' p q : List ℕ} {a r : ℕ} → p ≡ q → Wrote o o' a r q → Wrote o o' a r p
wrote_as {o} {o'} {p} {q} {a} {r} e w = subst (λ (l : List ℕ). Wrote o o' a r l) (sym e) w

-- nothing written leaves the room as it is
pub none_written : (o : List ℕ) (a : ℕ) → Wrote o o a a []
none_written o a = record { behind = sym (add-zero a); room = sym (rw (add-zero a) (take-append-drop a o)) }

-- a piece that is written keeps the room's length
pub room_kept : {o o' p : List ℕ} {a r : ℕ} → Fits o a p → Wrote o o' a r p → length o' ≡ length o
room_kept {o} {o'} {p} {a} {r} f u =
    let h = f.inside in
    ap length u.room ∙ (next_piece (start o a p (omega arith)) p [] (sym (append-nil p)) h).long

-- where two pieces fit, the first fits
pub first_fits : {o : List ℕ} {a : ℕ} (p q : List ℕ) → Fits o a (p ++ q) → Fits o a p
first_fits {o} {a} p q f = record { inside = omega (arith, length-append p q, f.inside) }

-- and once it is written, the second
pub second_fits : {o o₁ p : List ℕ} {a b : ℕ} (q : List ℕ) → Fits o a (p ++ q) → Wrote o o₁ a b p → Fits o₁ b q
second_fits {o} {o₁} {p} {a} {b} q f u =
    let k = room_kept (first_fits p q f) u in
    record { inside = omega (arith, length-append p q, f.inside, u.behind) }

-- a piece and another one behind it
pub both_written : {o o₁ o₂ p q : List ℕ} {a b c : ℕ} → Fits o a (p ++ q) → Wrote o o₁ a b p → Wrote o₁ o₂ b c q → Wrote o o₂ a c (p ++ q)
both_written {o} {o₁} {o₂} {p} {q} {a} {b} {c} f u v =
    let l = length-append p q in
    let h = f.inside in
    let L = next_piece (start o a (p ++ q) (omega arith)) p q refl (omega arith) in
    let M = next_piece L q [] (sym (append-nil q)) (omega arith) in
    let W = all_laid (omega arith) M in
    record { behind = v.behind ∙ rw (u.behind, l) (omega arith); room = v.room ∙ rw (u.behind, u.room) W.1 }

-- a byte that is stored
pub byte_written : (o : List ℕ) (a x : ℕ) → a < length o → Wrote o (set o a x) a (a + 1) (x ∷ [])
byte_written o a x h = record { behind = refl; room = set_laid o a x h }

-- ---- pieces in a loop

-- the room o has become o': `all` is to be written from place a on, n is the place reached, and `rest` is still to come and fits
pub record Going (o o' : List ℕ) (a n : ℕ) (all rest : List ℕ) : Type 0 where
  pub laying : Laying o o' a n all rest
  pub room : n + length rest ≤ length o

-- nothing is written yet
pub going_start : {o all : List ℕ} {a : ℕ} → Fits o a all → Going o o a a all all
going_start {o} {all} {a} f = record { laying = start o a all (omega (arith, f.inside)); room = f.inside }

module _ {o o₁ all rest : List ℕ} {a n : ℕ} (G : Going o o₁ a n all rest) (p t : List ℕ) (e : rest ≡ p ++ t) where
  split_room : n + (length p + length t) ≤ length o
  split_room = omega (arith, G.room, ap length e, length-append p t)

  -- the next piece fits
  pub going_fits : n + length p ≤ length o₁
  going_fits = let h = split_room in let l = G.laying.long in omega arith

  -- the next piece is written
  pub going_on : {o₂ : List ℕ} {m : ℕ} → Wrote o₁ o₂ n m p → Going o o₂ a m all t
  going_on {o₂} {m} w =
      let h = split_room in
      rw (w.behind, w.room) (record { laying = next_piece G.laying p t e (omega arith); room = omega arith })

-- all is written
pub going_done : {o o₁ all rest : List ℕ} {a n : ℕ} → Fits o a all → Going o o₁ a n all rest → rest ≡ [] → Wrote o o₁ a n all
going_done {o} {o₁} {all} {rest} {a} {n} f G e = wrote (all_laid (omega (arith, f.inside)) (told G.laying e))

-- ---- from the room's beginning on

-- what is not longer than the room fits from its beginning on
pub fits_whole : (o p : List ℕ) → length p ≤ length o → Fits o 0 p
fits_whole o p h = record { inside = omega arith }

-- what is written from the room's beginning on ends at its length
pub written_whole : {o o' p : List ℕ} {r : ℕ} → Wrote o o' 0 r p → (r ≡ length p) × (o' ≡ laid o 0 p)
written_whole w = (omega (arith, w.behind), w.room)
