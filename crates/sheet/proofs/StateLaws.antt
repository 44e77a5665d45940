-- StateLaws: the elements by their numbers, as the state knows them.
-- Assumes nothing.
use mathlib.Core.Path.{◌≡◌, refl, ap, sym, ◌∙◌}
use mathlib.Core.Bool.{Bool, true, false, ◌&&◌, ◌||◌}
use mathlib.Core.List.{List}
use Prim.Native.Nat.{ℕ, suc, ◌-◌, ◌<◌}
use native.Mathlib.Omega.{arith}
use lib.Dec.{eqb, leb}
use borrow.Author.Tests.{eqb-true, ne_eqb, le-ltb, leb-false}
use Rattle.paper.specs.Lists.{if}
use Rattle.paper.specs.Causes.{cause_number}
use Rattle.paper.specs.declared.Cause.{Cause}
use Rattle.paper.specs.declared.Cause.TheVariants.{Size, Byte, Malformed, OutOfPlace, Edition, Value, Incomplete}
use Rattle.paper.specs.Fields.{Kind, code, named, fields_of, rank_of}
use Rattle.paper.specs.Grammar.{Attr}
use Rattle.paper.specs.Plan.{Slots}
use Rattle.paper.specs.Judging.{Fault, names, slots_of, lower, mp_version}
use Rattle.paper.proofs.Small.{below_at}
use Rattle.paper.proofs.ByKind.{by_kind_lem}
use Rattle.fields.specs.Places.{kind_at, under}
use Rattle.fields.proofs.TableLaws.{code_back}
use Rattle.sheet.specs.Fold.{St, given, kids_of, kind_under, full, barred, parent, amiss, unfit, flaw, needs_w, opened}
use Rattle.sheet.specs.Judged.{fault_of}
use Rattle.sheet.specs.declared.state.Refusal.{Refusal}
use Rattle.std.specs.Prelude.{Option, None, Some}

-- what may stand in the innermost open element, by the table
pub kids_under : (c : ℕ) (n : List ℕ) → c < 10 → (c ≡ 0 → ⊥) → kind_under c n ≡ named n (under c)
unfolding kind_under kids_of under
kids_under c n h z = rw (ne_eqb c 0 z, ne_eqb c 10 (omega arith))

-- what may stand outside of all elements
pub kids_outside : (c : ℕ) (n : List ℕ) → c ≡ 0 → kind_under c n ≡ named n (under 10)
unfolding kind_under kids_of under
kids_outside c n z = rw z

-- the numbers of the elements that are refused
abbrev pub barred_by : St → ℕ → Bool
barred_by s k = if (eqb k 0) true (if (eqb k 2) (leb 1 s.rank) (if (eqb k 3) (leb 2 s.rank) (if (eqb k 4) (leb 3 s.rank) (if (eqb k 7) (leb 3 s.ws) false))))

-- an element is refused by its number
pub barred_number : (s : St) (k : ℕ) → k < 10 → barred s (kind_at k) ≡ barred_by s k
unfolding barred full
barred_number s k h = by_code (kind_at k) ∙ ap (barred_by s) (code_back k h)
  where
    by_code : (j : Kind) → barred s j ≡ barred_by s (code j)
    by_code j = by_kind_lem (λ j. barred s j ≡ barred_by s (code j)) (refl, refl, refl, refl, refl, refl, refl, refl, refl, refl) j

-- a W that is not refused is at most the third
pub fourth : (s : St) (k : ℕ) → barred s (kind_at k) ≡ false → k ≡ 7 → s.ws < 3
fourth s k b e = leb-false 3 s.ws (sym (barred_number s 7 (omega arith)) ∙ ap (λ (j : ℕ). barred s (kind_at j)) (sym e) ∙ b)

-- an element's rank by its number: P, A, O, S are 1 to 4
pub rank_number : (k : ℕ) → k < 10 → rank_of (kind_at k) ≡ if (leb 2 k && leb k 5) (k - 1) 0
unfolding kind_at
rank_number k h = eqb-true (rank_of (kind_at k)) (if (leb 2 k && leb k 5) (k - 1) 0) (below_at 10 (λ n. eqb (rank_of (kind_at n)) (if (leb 2 n && leb n 5) (n - 1) 0)) refl k h)

-- the element around an element by its number
pub parent_number : (k : ℕ) → k < 10 → parent k ≡ if (leb k 1) 0 (if (leb k 5) 1 (if (eqb k 7) 6 5))
unfolding parent kind_at
parent_number k h = eqb-true (parent k) (if (leb k 1) 0 (if (leb k 5) 1 (if (eqb k 7) 6 5))) (below_at 10 (λ n. eqb (parent n) (if (leb n 1) 0 (if (leb n 5) 1 (if (eqb n 7) 6 5)))) refl k h)

-- where an element has no fault of its own, the least so far stays
pub best_none : (b : Option Refusal) (i : ℕ) → lower (fault_of b) (given 9 i) ≡ fault_of b
best_none None i = rw (le-ltb i 0 (omega arith))
best_none (Some f) i = at f.cause
  where
    at : (c : Cause) → lower (given (cause_number c) f.place) (given 9 i) ≡ given (cause_number c) f.place
    at Size = refl
    at Byte = refl
    at Malformed = refl
    at OutOfPlace = refl
    at Edition = refl
    at Value = refl
    at Incomplete = refl

-- the state behind a start tag, part by part
pub opened_by : (s : St) (k i : ℕ) (l : List Attr) (n : ℕ) (needs : Bool) (rank ws from root : ℕ) (p a : Bool) (f : Fault) → k < 10
    → n ≡ flaw (kind_at k) (names l) (slots_of (fields_of (kind_at k)) l) → needs ≡ needs_w (kind_at k) (slots_of (fields_of (kind_at k)) l)
    → rank ≡ if (eqb (rank_of (kind_at k)) 0) s.rank (rank_of (kind_at k)) → p ≡ (eqb k 2 || s.has_p) → a ≡ (eqb k 3 || s.has_a)
    → ws ≡ if (eqb k 6) 0 (if (eqb k 7) (suc s.ws) s.ws) → from ≡ if (eqb k 6) i s.from → root ≡ if (eqb k 1) i s.root → f ≡ lower s.best (given n i)
    → record { cur = k; rank = rank; has_p = p; has_a = a; ws = ws; waits = needs; from = from; root = root; best = f } ≡ opened s (kind_at k) i l
unfolding opened
opened_by s k i l n needs rank ws from root p a f h x y r P A w m o b = rw (code_back k h, ← x, ← y, r, P, A, w, m, o, b)

-- the fault of an element's own tag by its three tests
abbrev flaw_tests : Bool → Bool → Bool → ℕ
flaw_tests a b c = if a 6 (if b 7 (if c 8 9))

-- it is 6, 7, 8 or 9, so the cause of its number has that number
pub flaw_caused : (k : Kind) (ns : List (List ℕ)) (vs : Slots) (n : ℕ) → n ≡ flaw k ns vs → if (leb 2 n && leb n 8) n 9 ≡ flaw k ns vs
unfolding flaw
flaw_caused k ns vs n e = rw e (go (mp_version k vs) (amiss k vs) (unfit k ns vs))
  where
    go : (a b c : Bool) → (if (leb 2 (flaw_tests a b c) && leb (flaw_tests a b c) 8) (flaw_tests a b c) 9) ≡ flaw_tests a b c
    go true b c = refl
    go false true c = refl
    go false false true = refl
    go false false false = refl
