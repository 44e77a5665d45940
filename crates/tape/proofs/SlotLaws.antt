-- SlotLaws: one value laid, values laid behind values, and an element from its header and its values.
-- Assumes nothing.
use mathlib.Core.Path.{◌≡◌, refl, sym, ap, ◌∙◌}
use mathlib.Core.List.{List, [], ◌∷◌, ◌++◌, append-nil}
use Prim.Native.Nat.{ℕ, zero, suc, ◌+◌, ◌*◌, ◌-◌, ◌≤◌, ◌<◌}
use native.Mathlib.Numerals.{add-one}
use native.Mathlib.Omega.{arith}
use lib.ListN.{length, take, get_or, set, length-append, length-set}
use lib.Seq.{slice_empty, length-take-le, take-suc, get_or-set_same, get_or-set_other, take-set-le}
use borrow.Author.Tests.{lt-ltb, le-ltb}
use Rattle.paper.specs.Lists.{concat}
use Rattle.paper.specs.Fields.{Kind, code, fields_of}
use Rattle.paper.specs.Plan.{Slots}
use Rattle.room.specs.Laid.{laid}
use Rattle.plan.proofs.Shown.{concat_append}
use Rattle.room.proofs.LaidLaws.{laid_before}
use Rattle.tape.specs.Tape.{elem, header, aside, shown_in, values_at, Span, Spans}
use Rattle.tape.specs.Making.{LaysSlots, LaysElem}
use Rattle.tape.proofs.TapeLaws.{spans_more, values_more}
use Rattle.room.proofs.Alike.{same_before, agree, take_more}
use Rattle.tape.proofs.ValueLaws.{laid_shown, concat_room}

-- ---- one value

module _ (w v t side side' : List ℕ) (i m e : ℕ) (room : i + 2 ≤ length t) (fits : m + length v ≤ length side) (end_is : e ≡ m + length v) (side-is : side' ≡ laid side m v) where
  one_laid : (a b : ℕ) → Span w e a b → shown_in w side' a b ≡ v → LaysSlots w (v ∷ []) t (set (set t i a) (i + 1) b) i side side' m e
  one_laid a b S q =
      let x : get_or (set (set t i a) (i + 1) b) i 0 ≡ a = get_or-set_other (set t i a) (i + 1) i b 0 (λ z. omega arith) ∙ get_or-set_same t i a 0 (omega arith) in
      let y : get_or (set (set t i a) (i + 1) b) (i + 1) 0 ≡ b = get_or-set_same (set t i a) (i + 1) b 0 (rw (length-set t i a) (omega arith)) in
      record {
        lie = (rw (x, y) S, tt);
        slots_are = rw (x, y, q);
        kept = record {
          tape = take-set-le i (set t i a) (i + 1) b (omega arith) ∙ take-set-le i t i a (omega arith);
          aside_too = rw side-is (laid_before side v m fits);
        };
        used_is = rw (append-nil v) end_is;
      }

  -- a value that is absent
  pub one_absent : (a : ℕ) → a ≤ length w → length w ≤ 1400 → e ≡ m → LaysSlots w (v ∷ []) t (set (set t i a) (i + 1) a) i side side' m e
  unfolding shown_in
  one_absent a h g z =
      one_laid a a (record { inner = λ l. (omega arith, h); outer = λ l. absurd (omega arith) })
      (rw (lt-ltb a aside (omega arith)) (slice_empty a w ∙ sym (empty v (omega arith))))
    where
      empty : (u : List ℕ) → length u ≡ 0 → u ≡ []
      empty [] q = refl
      empty (c ∷ u) q = absurd (omega arith)

  -- one that is present
  pub one_there : length side < aside → (e ≡ m → ⊥) → LaysSlots w (v ∷ []) t (set (set t i (m + aside)) (i + 1) e) i side side' m e
  unfolding shown_in
  one_there h z =
      let b : m + aside - aside ≡ m = omega arith in
      one_laid (m + aside) e (record { inner = λ l. absurd (omega arith); outer = λ l. (omega (arith, z), omega arith, omega arith) })
      (rw (le-ltb (m + aside) aside (omega arith), b, end_is, side-is) (laid_shown side v m fits))

-- ---- values behind values

spans_append : (w : List ℕ) (m a b : ℕ) (t : List ℕ) (i : ℕ) → Spans w m a t i → Spans w m b t (i + 2 * a) → Spans w m (a + b) t i
spans_append w m zero b t i S R =
    let e : i + 2 * 0 ≡ i = omega arith in
    let z : 0 + b ≡ b = omega arith in
    rw (z) (rw e at R)
spans_append w m (suc a) b t i S R =
    let e : i + 2 * suc a ≡ i + 2 + 2 * a = omega arith in
    let z : suc a + b ≡ suc (a + b) = omega arith in
    rw (z) (S.0, spans_append w m a b t (i + 2) S.1 (rw e at R))

values_append : (w side : List ℕ) (a b : ℕ) (t : List ℕ) (i : ℕ) → values_at w side (a + b) t i ≡ values_at w side a t i ++ values_at w side b t (i + 2 * a)
values_append w side zero b t i =
    let e : i + 2 * 0 ≡ i = omega arith in
    let z : 0 + b ≡ b = omega arith in
    rw (z, e)
values_append w side (suc a) b t i =
    let e : i + 2 * suc a ≡ i + 2 + 2 * a = omega arith in
    let z : suc a + b ≡ suc (a + b) = omega arith in
    rw (z, e) (ap (λ (l : Slots). shown_in w side (get_or t i 0) (get_or t (i + 1) 0) ∷ l) (values_append w side a b t (i + 2)))

-- nothing is laid yet
pub slots_none : (w t : List ℕ) (i : ℕ) (side : List ℕ) (m : ℕ) → LaysSlots w [] t t i side side m m
slots_none w t i side m = record { lie = tt; slots_are = refl; kept = record { tape = refl; aside_too = refl }; used_is = omega arith }

pub slots_behind : {w : List ℕ} {us vs : Slots} {t t₁ t₂ : List ℕ} {i : ℕ} {side side₁ side₂ : List ℕ} {m m₁ m₂ : ℕ} → LaysSlots w us t t₁ i side side₁ m m₁
    → LaysSlots w vs t₁ t₂ (i + 2 * length us) side₁ side₂ m₁ m₂ → LaysSlots w (us ++ vs) t t₂ i side side₂ m m₂
slots_behind {w} {us} {vs} {t} {t₁} {t₂} {i} {side} {side₁} {side₂} {m} {m₁} {m₂} L K =
    let u = L.used_is in
    let x = K.used_is in
    let up : m₁ ≤ m₂ = omega arith in
    let g = agree t₁ t₂ i (i + 2 * length us) K.kept.tape in
    let more = spans_more w side₁ side₂ m₁ m₂ K.kept.aside_too up (length us) t₁ t₂ i g L.lie in
    let same = values_more w side₁ side₂ m₁ m₂ K.kept.aside_too up (length us) t₁ t₂ i g L.lie in
    record {
      lie = rw (length-append us vs) (spans_append w m₂ (length us) (length vs) t₂ i more K.lie);
      slots_are = rw (length-append us vs) (values_append w side₂ (length us) (length vs) t₂ i ∙ rw (same, L.slots_are, K.slots_are));
      kept = record {
        tape = take_more t₁ t₂ (i + 2 * length us) i (omega arith) K.kept.tape ∙ L.kept.tape;
        aside_too = take_more side₁ side₂ m₁ m (omega arith) K.kept.aside_too ∙ L.kept.aside_too;
      };
      used_is = omega (arith, ap length (concat_append us vs), length-append (concat us) (concat vs));
    }

module _ {w : List ℕ} (vs : Slots) (j : ℕ) (h : j < length vs) {t t₁ : List ℕ} {i : ℕ} {side side₁ : List ℕ} {m m₁ : ℕ} (L : LaysSlots w (take j vs) t t₁ i side side₁ m m₁) where
  -- there is room for the next value
  pub next_room : (n : ℕ) → m + length (concat vs) ≤ n → m₁ + length (get_or vs j []) ≤ n
  next_room n g = let u = L.used_is in omega (arith, concat_room vs j h)

  -- the next value is laid
  pub next_slot : {t₂ side₂ : List ℕ} {m₂ : ℕ} → LaysSlots w (get_or vs j [] ∷ []) t₁ t₂ (i + 2 * j) side₁ side₂ m₁ m₂ → LaysSlots w (take (j + 1) vs) t t₂ i side side₂ m m₂
  next_slot K = let l : length (take j vs) ≡ j = length-take-le j vs (omega arith) in rw (add-one j, take-suc vs j [] h) (slots_behind L (rw l K))

-- ---- an element

pub elem_laid : {w : List ℕ} (k : Kind) (p : ℕ) {vs : Slots} {t t' : List ℕ} (i next kind : ℕ) {side side' : List ℕ} {m m' : ℕ} → kind ≡ code k → next ≡ i + header + 2 * length (fields_of k)
    → next ≤ length t → length vs ≡ length (fields_of k) → LaysSlots w vs (set (set (set t i kind) (i + 1) p) (i + 2) next) t' (i + header) side side' m m' → LaysElem w (elem k p vs) t t' i next side side' m m'
elem_laid {w} k p {vs} {t} {t'} i next kind {side} {side'} {m} {m'} q n room long L =
    let t₁ : List ℕ = set t i kind in
    let t₂ : List ℕ = set t₁ (i + 1) p in
    let t₃ : List ℕ = set t₂ (i + 2) next in
    let l₁ : length t₁ ≡ length t = length-set t i kind in
    let l₂ : length t₂ ≡ length t = length-set t₁ (i + 1) p ∙ l₁ in
    let b = L.kept.tape in
    record {
      element = record {
        kind_is = same_before t₃ t' (i + header) i b (omega arith)
            ∙ get_or-set_other t₂ (i + 2) i next 0 (λ z. omega arith) ∙ get_or-set_other t₁ (i + 1) i p 0 (λ z. omega arith) ∙ get_or-set_same t i kind 0 (omega arith) ∙ q;
        place_is = same_before t₃ t' (i + header) (i + 1) b (omega arith)
            ∙ get_or-set_other t₂ (i + 2) (i + 1) next 0 (λ z. omega arith) ∙ get_or-set_same t₁ (i + 1) p 0 (omega (arith, l₁));
        next_is = same_before t₃ t' (i + header) (i + 2) b (omega arith) ∙ get_or-set_same t₂ (i + 2) next 0 (omega (arith, l₂));
        wide = n;
        lie = rw (← long) L.lie;
        slots_are = rw (← long) L.slots_are;
      };
      kept = record {
        tape = take_more t₃ t' (i + header) i (omega arith) b
            ∙ take-set-le i t₂ (i + 2) next (omega arith) ∙ take-set-le i t₁ (i + 1) p (omega arith) ∙ take-set-le i t i kind (omega arith);
        aside_too = L.kept.aside_too;
      };
      used_is = L.used_is;
    }
