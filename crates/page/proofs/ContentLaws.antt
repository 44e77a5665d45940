-- ContentLaws: values laid one run behind the other, which elements give rows, and spans made from their numbers.
-- Assumes nothing.
use mathlib.Core.Path.{◌≡◌, refl, sym, ap, ◌∙◌, subst}
use mathlib.Core.Bool.{Bool, true, false, not, ◌&&◌, ◌||◌}
use mathlib.Core.List.{List, [], ◌∷◌, ◌++◌, append_assoc, append-nil}
use Prim.Native.Nat.{ℕ, suc, ◌+◌, ◌*◌, ◌-◌, ◌≤◌, ◌<◌}
use native.Mathlib.Nat.{add-zero}
use native.Mathlib.Numerals.{add-one}
use native.Mathlib.Omega.{arith}
use lib.Dec.{eqb, leb}
use lib.ListN.{length, take, drop, get_or, set, length-append, length-take}
use lib.Seq.{slice, slice-cons, take_all, drop-drop, get_or-drop, take-suc-set}
use borrow.Author.Tests.{ne_eqb, eqb-true, leb-true}
use Rattle.paper.specs.Lists.{if, concat}
use Rattle.paper.specs.Fields.{Kind, M, R, S, X, is, fields_of}
use Rattle.paper.specs.Plan.{Slots}
use Rattle.paper.specs.Judging.{all_empty, item, row_of}
use Rattle.paper.proofs.Small.{no, below_at}
use Rattle.paper.specs.Layout.{span_at, spans_from}
use Rattle.room.specs.Laid.{laid}
use Rattle.room.proofs.LaidLaws.{Laying, start, next_piece, next_byte, all_laid, laid_long}
use Rattle.fields.specs.Places.{count_of, kind_at}
use Rattle.fields.proofs.TableLaws.{code_back}
use Rattle.plan.specs.Numbers.{flat, kind_number}
use Rattle.plan.proofs.Shown.{concat_append}
use Rattle.plan.specs.declared.Span as Code
use Rattle.page.specs.Laying.{Room, start_of, Lays, pairs, gives_row, row_from}

-- ---- lists of values

spans_append : (n : ℕ) (us vs : Slots) → flat (spans_from n (us ++ vs)) ≡ flat (spans_from n us) ++ flat (spans_from (n + length (concat us)) vs)
spans_append n [] vs = rw (add-zero n)
spans_append n (u ∷ us) vs =
    let e : n + length u + length (concat us) ≡ n + length (u ++ concat us) = omega (arith, length-append u (concat us)) in
    ap (λ (l : List ℕ). (span_at n u).at ∷ (span_at n u).len ∷ l)
    (spans_append (n + length u) us vs ∙ ap (λ (k : ℕ). flat (spans_from (n + length u) us) ++ flat (spans_from k vs)) e)

pub flat_long : (n : ℕ) (vs : Slots) → length (flat (spans_from n vs)) ≡ 2 * length vs
flat_long n [] = refl
flat_long n (v ∷ vs) = let e = flat_long (n + length v) vs in omega arith

-- the span of a value, by its length
span_is : (n : ℕ) (v : List ℕ) → span_at n v ≡ record { at = start_of n (length v); len = length v }
span_is n [] = refl
span_is n (c ∷ v) = let e : eqb (suc (length v)) 0 ≡ false = ne_eqb (suc (length v)) 0 (λ z. omega arith) in rw e

-- ---- runs of values laid one behind the other

-- values are being laid: what is to be laid is what is laid and what is left to lay, of their bytes and of their spans
pub record Going (all rest : Slots) (text₀ text : List ℕ) (n m : ℕ) (numbers₀ numbers : List ℕ) (at b : ℕ) : Type 0 where
  pub text_so : Laying text₀ text n m (concat all) (concat rest)
  pub numbers_so : Laying numbers₀ numbers at b (flat (spans_from n all)) (flat (spans_from m rest))

-- nothing is laid yet
pub begin : (all : Slots) (text : List ℕ) (n : ℕ) (numbers : List ℕ) (at : ℕ) → n ≤ length text → at ≤ length numbers → Going all all text text n n numbers numbers at at
begin all text n numbers at h g = record { text_so = start text n (concat all) h; numbers_so = start numbers at (flat (spans_from n all)) g }

-- what is reached and what is left make up the whole
pub summed : {out₀ out : List ℕ} {at n : ℕ} {all rest : List ℕ} → Laying out₀ out at n all rest → at ≤ length out₀ → n + length rest ≡ at + length all
summed {out₀} {out} {at} {n} {all} {rest} L h =
    let l = L.long in
    let i = L.inside in
    let e : length (take at out₀ ++ all) ≡ length (take n out ++ rest) = ap length L.right in
    omega (arith, simp (length-append, length-take) at e)

module _ {all us rest : Slots} {text₀ text text' : List ℕ} {n m e : ℕ} {numbers₀ numbers numbers' : List ℕ} {at b : ℕ} where
  -- the next run of values is laid
  pub turn : Going all (us ++ rest) text₀ text n m numbers₀ numbers at b → Lays us text text' m e numbers numbers' b
      → m + length (concat us) ≤ length text₀ → b + 2 * length us ≤ length numbers₀ → Going all rest text₀ text' n e numbers₀ numbers' at (b + 2 * length us)
  turn G L h g =
      let long = flat_long m us in
      record {
        text_so = rw (L.text_is, L.end_is) (next_piece G.text_so (concat us) (concat rest) (concat_append us rest) h);
        numbers_so = rw (L.numbers_are, L.end_is, ← long) (next_piece G.numbers_so (flat (spans_from m us)) (flat (spans_from (m + length (concat us)) rest)) (spans_append m us rest) (omega arith));
      }

-- all values are laid
pub finish : {all : Slots} {text₀ text : List ℕ} {n m : ℕ} {numbers₀ numbers : List ℕ} {at b : ℕ} → Going all [] text₀ text n m numbers₀ numbers at b → n ≤ length text₀ → at ≤ length numbers₀
    → Lays all text₀ text n m numbers₀ numbers at
finish G h g = record { end_is = (all_laid h G.text_so).0; text_is = (all_laid h G.text_so).1; numbers_are = (all_laid g G.numbers_so).1 }

-- the room for what is left
pub room_left : {all rest : Slots} {text₀ text : List ℕ} {n m : ℕ} {numbers₀ numbers : List ℕ} {at b : ℕ} → Going all rest text₀ text n m numbers₀ numbers at b → Room all text₀ n → Room rest text m
room_left {all} {rest} {text₀} {text} {n} {m} G Q =
    let l = G.text_so.long in
    let f = Q.fits in
    let s = Q.short in
    let e = summed G.text_so (omega arith) in
    record { fits = omega arith; short = omega arith }

-- the room for the first run of two
pub room_first : (us vs : Slots) (text : List ℕ) (n : ℕ) → Room (us ++ vs) text n → Room us text n
room_first us vs text n Q =
    let f = Q.fits in
    let s = Q.short in
    let e : length (concat (us ++ vs)) ≡ length (concat us) + length (concat vs) = ap length (concat_append us vs) ∙ length-append (concat us) (concat vs) in
    record { fits = omega arith; short = omega arith }

-- what is left, in other words; and the place reached
pub regoing : {all rest rest' : Slots} {text₀ text : List ℕ} {n m : ℕ} {numbers₀ numbers : List ℕ} {at b : ℕ} → rest ≡ rest' → Going all rest text₀ text n m numbers₀ numbers at b
    → Going all rest' text₀ text n m numbers₀ numbers at b
regoing {all} {rest} {rest'} {text₀} {text} {n} {m} {numbers₀} {numbers} {at} {b} e G = subst (λ (l : Slots). Going all l text₀ text n m numbers₀ numbers at b) e G

pub replaced : {all rest : Slots} {text₀ text : List ℕ} {n m : ℕ} {numbers₀ numbers : List ℕ} {at b d : ℕ} → b ≡ d → Going all rest text₀ text n m numbers₀ numbers at b → Going all rest text₀ text n m numbers₀ numbers at d
replaced {all} {rest} {text₀} {text} {n} {m} {numbers₀} {numbers} {at} e G = subst (λ (k : ℕ). Going all rest text₀ text n m numbers₀ numbers at k) e G

-- the same values, or the same place, in other words
pub relay : {us vs : Slots} {text text₁ : List ℕ} {n m : ℕ} {numbers numbers₁ : List ℕ} {at : ℕ} → us ≡ vs → Lays us text text₁ n m numbers numbers₁ at → Lays vs text text₁ n m numbers numbers₁ at
relay {us} {vs} {text} {text₁} {n} {m} {numbers} {numbers₁} {at} e L = subst (λ (l : Slots). Lays l text text₁ n m numbers numbers₁ at) e L

pub reroom : {us vs : Slots} {text : List ℕ} {n : ℕ} → us ≡ vs → Room us text n → Room vs text n
reroom {us} {vs} {text} {n} e Q = subst (λ (l : Slots). Room l text n) e Q

pub placed_at : {us : Slots} {text text₁ : List ℕ} {n m : ℕ} {numbers numbers₁ : List ℕ} {at b : ℕ} → at ≡ b → Lays us text text₁ n m numbers numbers₁ at → Lays us text text₁ n m numbers numbers₁ b
placed_at {us} {text} {text₁} {n} {m} {numbers} {numbers₁} e L = subst (λ (k : ℕ). Lays us text text₁ n m numbers numbers₁ k) e L

-- the numbers keep their length
pub numbers_kept : {us : Slots} {text text₁ : List ℕ} {n m : ℕ} {numbers numbers₁ : List ℕ} {at : ℕ} → Lays us text text₁ n m numbers numbers₁ at → at + 2 * length us ≤ length numbers
    → length numbers₁ ≡ length numbers
numbers_kept {us} {text} {text₁} {n} {m} {numbers} {numbers₁} {at} L h =
    let e = flat_long n us in
    ap length L.numbers_are ∙ laid_long numbers (flat (spans_from n us)) at (omega arith)

-- the room for the second run of two, once the first is laid
pub room_behind : (us vs : Slots) {text text₁ : List ℕ} {n m : ℕ} {numbers numbers₁ : List ℕ} {at : ℕ} → Room (us ++ vs) text n → Lays us text text₁ n m numbers numbers₁ at → Room vs text₁ m
room_behind us vs {text} {text₁} {n} {m} Q L =
    let f = Q.fits in
    let s = Q.short in
    let g = L.end_is in
    let e : length (concat (us ++ vs)) ≡ length (concat us) + length (concat vs) = ap length (concat_append us vs) ∙ length-append (concat us) (concat vs) in
    let l : length text₁ ≡ length text = ap length L.text_is ∙ laid_long text (concat us) n (omega arith) in
    record { fits = omega arith; short = omega arith }

-- two runs laid one behind the other are one run
pub behind : {us vs : Slots} {text text₁ text₂ : List ℕ} {n m e : ℕ} {numbers numbers₁ numbers₂ : List ℕ} {at : ℕ} → Lays us text text₁ n m numbers numbers₁ at
    → Lays vs text₁ text₂ m e numbers₁ numbers₂ (at + 2 * length us) → Room (us ++ vs) text n → at + 2 * length (us ++ vs) ≤ length numbers → Lays (us ++ vs) text text₂ n e numbers numbers₂ at
behind {us} {vs} {text} {text₁} {text₂} {n} {m} {e} {numbers} {numbers₁} {numbers₂} {at} L K Q h =
    let f = Q.fits in
    let q = L.end_is in
    let s : length (concat (us ++ vs)) ≡ length (concat us) + length (concat vs) = ap length (concat_append us vs) ∙ length-append (concat us) (concat vs) in
    let l = length-append us vs in
    let G : Going (us ++ vs) (us ++ vs) text text n n numbers numbers at at = begin (us ++ vs) text n numbers at (omega arith) (omega arith) in
    let G₁ : Going (us ++ vs) vs text text₁ n m numbers numbers₁ at (at + 2 * length us) = turn {us = us} G L (omega arith) (omega arith) in
    let G₂ : Going (us ++ vs) (vs ++ []) text text₁ n m numbers numbers₁ at (at + 2 * length us) =
    subst (λ (l : Slots). Going (us ++ vs) l text text₁ n m numbers numbers₁ at (at + 2 * length us)) (sym (append-nil vs)) G₁ in
    finish (turn {us = vs} {rest = []} G₂ K (omega arith) (omega arith)) (omega arith) (omega arith)

-- the text reaches as far as the next run
pub going_room : (us rest : Slots) {all : Slots} {text₀ text : List ℕ} {n m : ℕ} {numbers₀ numbers : List ℕ} {at b : ℕ} → Going all (us ++ rest) text₀ text n m numbers₀ numbers at b → Room all text₀ n
    → m + length (concat us) ≤ length text₀
going_room us rest {all} {text₀} {text} {n} {m} G Q =
    let f = (room_first us rest text m (room_left G Q)).fits in
    let l = G.text_so.long in
    omega arith

-- the room for one value
pub room_one : (v text : List ℕ) (n : ℕ) → Room (v ∷ []) text n → (n + length v ≤ length text) × (n + length v ≤ 12600)
room_one v text n Q = (rw (append-nil v) at Q.fits, rw (append-nil v) at Q.short)

-- ---- one value

pub two_stored : (N : List ℕ) (b s l : ℕ) → b + 2 ≤ length N → set (set N b s) (b + 1) l ≡ laid N b (s ∷ l ∷ [])
two_stored N b s l h =
    let L0 = start N b (s ∷ l ∷ []) (omega arith) in
    let L1 = next_byte L0 (omega arith) in
    let L2 = next_byte L1 (omega arith) in
    (all_laid (omega arith) L2).1

-- a value and its span are laid
pub one_laid : (v text text' : List ℕ) (m e len s : ℕ) (numbers : List ℕ) (b : ℕ) → e ≡ m + length v → text' ≡ laid text m v → len ≡ length v → s ≡ start_of m len → b + 2 ≤ length numbers
    → Lays (v ∷ []) text text' m e numbers (set (set numbers b s) (b + 1) len) b
one_laid v text text' m e len s numbers b he ht hl hs h =
    record {
      end_is = rw (append-nil v) he;
      text_is = rw (append-nil v) ht;
      numbers_are = two_stored numbers b s len h ∙ rw (hs, hl, span_is m v);
    }

-- ---- the values from one field up to another

module _ {text₀ text : List ℕ} {n m : ℕ} {numbers₀ numbers : List ℕ} {at b : ℕ} (vs : Slots) (from to j : ℕ)
    (G : Going (slice from to vs) (slice j to vs) text₀ text n m numbers₀ numbers at b) (Q : Room (slice from to vs) text₀ n) (h : j < to) (l : to ≤ length vs) where
  left : Going (slice from to vs) (get_or vs j [] ∷ slice (suc j) to vs) text₀ text n m numbers₀ numbers at b
  left = subst (λ (rest : Slots). Going (slice from to vs) rest text₀ text n m numbers₀ numbers at b) (slice-cons j to vs [] h l) G

-- ---- what the spans of a tag tell

-- no element has more fields than a tag has spans
pub count_small : (k : ℕ) → k < 10 → count_of (kind_at k) ≤ 16
unfolding count_of kind_at fields_of
count_small k h = leb-true (count_of (kind_at k)) 16 (below_at 10 (λ (n : ℕ). leb (count_of (kind_at n)) 16) refl k h)

-- ---- which tags give rows

chosen : {A : Type 0} (b d : Bool) (x y : A) → (b || d) ≡ true → if b (x ∷ []) (if d (y ∷ []) []) ≡ if b x y ∷ []
chosen true d x y e = refl
chosen false true x y e = refl
chosen false false x y e = no (sym e)

neither_row : {A : Type 0} (b d : Bool) (x y : A) → (b || d) ≡ false → if b (x ∷ []) (if d (y ∷ []) []) ≡ []
neither_row true d x y e = no e
neither_row false true x y e = no e
neither_row false false x y e = refl

-- the row of a tag that gives one
pub row_given : (k : Kind) (vs : Slots) (ws : List Slots) → gives_row k vs ≡ true → row_of (item k vs ws) ≡ row_from k vs ws ∷ []
unfolding gives_row row_from
row_given k vs ws e = chosen (is k M) (is k R || is k X || (is k S && not (all_empty vs))) _ _ e

-- no other tag gives a row
pub row_none : (k : Kind) (vs : Slots) (ws : List Slots) → gives_row k vs ≡ false → row_of (item k vs ws) ≡ []
unfolding gives_row
row_none k vs ws e = neither_row (is k M) (is k R || is k X || (is k S && not (all_empty vs))) _ _ e

-- a kind that is no row's has no number
pub no_row_kind : (k : ℕ) → k < 10 → (k ≡ 5 → ⊥) → (k ≡ 6 → ⊥) → (k ≡ 8 → ⊥) → (k ≡ 9 → ⊥) → kind_number (kind_at k) ≡ 0
unfolding kind_at
no_row_kind k h a b d e =
    let t : (eqb k 5 || (eqb k 6 || (eqb k 8 || (eqb k 9 || eqb (kind_number (kind_at k)) 0)))) ≡ true =
    below_at 10 (λ (n : ℕ). eqb n 5 || (eqb n 6 || (eqb n 8 || (eqb n 9 || eqb (kind_number (kind_at n)) 0)))) refl k h in
    eqb-true (kind_number (kind_at k)) 0 (rw (ne_eqb k 5 a, ne_eqb k 6 b, ne_eqb k 8 d, ne_eqb k 9 e) at t)

pub no_row : (k : ℕ) (vs : Slots) → k < 10 → (k ≡ 6 → ⊥) → (k ≡ 8 → ⊥) → (k ≡ 9 → ⊥) → (k ≡ 5 → ⊥) → gives_row (kind_at k) vs ≡ false
unfolding gives_row
no_row k vs h a b d e = rw (code_back k h, ne_eqb k 6 a, ne_eqb k 8 b, ne_eqb k 9 d, ne_eqb k 5 e)

-- ---- spans from their numbers

-- one span more is made
pub pair_turn : (l : List ℕ) (spans : List Code.Span) (j : ℕ) (all : List Code.Span) → j < 27 → length spans ≡ 27 → all ≡ take j spans ++ pairs (27 - j) (drop (2 * j) l)
    → all ≡ take (j + 1) (set spans j (record { at = get_or l (2 * j) 0; len = get_or l (2 * j + 1) 0 })) ++ pairs (27 - (j + 1)) (drop (2 * (j + 1)) l)
pair_turn l spans j all h w e =
    let a : 27 - j ≡ suc (27 - (j + 1)) = omega arith in
    let b : 2 * suc j ≡ 2 * j + 2 = omega arith in
    let s : Code.Span = record { at = get_or l (2 * j) 0; len = get_or l (2 * j + 1) 0 } in
    let g : get_or (drop (2 * j) l) 0 0 ≡ get_or l (2 * j) 0 = get_or-drop (2 * j) l 0 0 ∙ ap (λ (i : ℕ). get_or l i 0) (add-zero (2 * j)) in
    let f : take (suc j) (set spans j s) ≡ take j spans ++ (s ∷ []) = take-suc-set spans j s (omega arith) in
    e ∙ rw (a, add-one j, f, b, ← drop-drop 2 (2 * j) l, g, get_or-drop (2 * j) l 1 0) (sym (append_assoc (take j spans) (s ∷ []) (pairs (27 - suc j) (drop 2 (drop (2 * j) l)))))

-- all spans are made
pub pairs_made : (l : List ℕ) (spans : List Code.Span) (j : ℕ) (all : List Code.Span) → j ≡ 27 → length spans ≡ 27 → all ≡ take j spans ++ pairs (27 - j) (drop (2 * j) l) → spans ≡ all
pairs_made l spans j all h w e =
    let a : 27 - j ≡ 0 = omega arith in
    let b : take j spans ≡ spans = take_all j spans (omega arith) in
    sym (e ∙ rw (a, b) (append-nil spans))
