-- SlotLaws: one attribute more on the tape.
-- Assumes nothing.
use mathlib.Core.Path.{◌≡◌, refl, sym, ap, ◌∙◌, subst}
use mathlib.Core.Bool.{Bool, true, false, not}
use mathlib.Core.List.{List, [], ◌∷◌, ◌++◌, append_assoc, append-nil}
use Prim.Native.Nat.{ℕ, zero, suc, ◌+◌, ◌*◌, ◌≤◌, ◌<◌}
use native.Mathlib.Omega.{arith}
use lib.Dec.{ltb}
use lib.ListN.{length, get_or, set, take, drop, length-set}
use lib.Seq.{slice, slice_empty, slice-cons, take-set-le}
use borrow.Author.Tests.{eq-eqb, lt-ltb, ltb-true, ltb-false}
use Rattle.paper.specs.Lists.{until, All, elem, twice, every}
use Rattle.paper.specs.Bytes.{is_space}
use Rattle.paper.specs.Grammar.{Attr, Attrs, space, Space}
use Rattle.paper.specs.Values.{value}
use Rattle.paper.specs.Fields.{Kind, Field, fields_of}
use Rattle.paper.specs.Rules.{is_zero, settle}
use Rattle.paper.specs.Plan.{Slots}
use Rattle.paper.specs.Judging.{names, slots_of, breaks, broken}
use Rattle.paper.proofs.Small.{no, neither, if_same}
use Rattle.paper.proofs.Element.{distinct}
use Rattle.fields.specs.Places.{no_field, place_in, first_of, field_at, count_of}
use Rattle.fields.proofs.TableLaws.{known, field_at_lem}
use Rattle.sheet.specs.Fold.{strange}
use Rattle.sheet.specs.Found.{raws_in, settled_in}
use Rattle.sheet.proofs.FoundLaws.{slots_found, names_append, raws_more, there_more, every_seam, once_more, fits, there_place, standing_at, standing_put, standing_none}
use Rattle.tape.specs.Tape.{aside, shown_in, values_at, Span, Holds}
use Rattle.quoted.specs.Valued.{Valued, Grown}
use Rattle.quick.specs.Taken.{attr, AttrIn, InsideIn}
use Rattle.tape.proofs.TapeLaws.{values_more, spans_more}
use Rattle.room.proofs.Alike.{take_more}
use Rattle.room.proofs.PairLaws.{pairs_put, each_put, each_none}
use Rattle.quoted.proofs.Pieces.{part, all_run}
use Rattle.quick.proofs.PassedLaws.{spaced, last}

-- ---- the values that count, with one attribute more

settled_put : (fs : List Field) (rs : List (List ℕ)) (j : ℕ) (r : List ℕ) → settled_in fs (set rs j r) ≡ set (settled_in fs rs) j (settle (get_or fs j no_field) (value r))
settled_put [] rs j r = refl
settled_put (f ∷ fs) [] j r = refl
settled_put (f ∷ fs) (x ∷ rs) zero r = refl
settled_put (f ∷ fs) (x ∷ rs) (suc j) r = rw (settled_put fs rs j r)

broken_put : (fs : List Field) (vs : Slots) (j : ℕ) (v : List ℕ) → broken fs vs ≡ false → breaks (get_or fs j no_field) v ≡ false → broken fs (set vs j v) ≡ false
broken_put [] vs j v b e = refl
broken_put (f ∷ fs) [] j v b e = refl
broken_put (f ∷ fs) (x ∷ vs) zero v b e = let (p, q) = neither (breaks f x) (broken fs vs) b in rw (e, q)
broken_put (f ∷ fs) (x ∷ vs) (suc j) v b e = let (p, q) = neither (breaks f x) (broken fs vs) b in rw (p, broken_put fs vs j v q e)

module _ (k : Kind) (l : List Attr) (n r : List ℕ) (new : elem n (names l) ≡ false) where
  slots_more : slots_of (fields_of k) (l ++ attr n r ∷ []) ≡ set (slots_of (fields_of k) l) (place_in n (fields_of k)) (settle (get_or (fields_of k) (place_in n (fields_of k)) no_field) (value r))
  slots_more =
      slots_found (fields_of k) (l ++ attr n r ∷ []) ∙ ap (settled_in (fields_of k)) (raws_more (fields_of k) l n r (distinct k) new)
      ∙ settled_put (fields_of k) (raws_in (fields_of k) l) (place_in n (fields_of k)) r
      ∙ ap (λ (vs : Slots). set vs (place_in n (fields_of k)) (settle (get_or (fields_of k) (place_in n (fields_of k)) no_field) (value r))) (sym (slots_found (fields_of k) l))

  strange_more : strange k (names l) ≡ false → place_in n (fields_of k) < length (fields_of k) → strange k (names (l ++ attr n r ∷ [])) ≡ false
  unfolding strange
  strange_more s h =
      let (a, b) = neither (not (every (fits k) (names l))) (twice (names l)) s in
      let y : fits k n ≡ true = known n (fields_of k) ∙ lt-ltb (place_in n (fields_of k)) (length (fields_of k)) h in
      let e : every (fits k) (names l) ≡ true = back (every (fits k) (names l)) a in
      rw (names_append l (attr n r ∷ []), every_seam (fits k) (names l) (n ∷ []), e, y, once_more (names l) n b new)
    where
      back : (b : Bool) → not b ≡ false → b ≡ true
      back true q = refl
      back false q = no q

-- a field by another name of its place
pub valued_by : {w side : List ℕ} {at q x y z a b m : ℕ} → x ≡ y → Valued w side at q x z a b m → Valued w side at q y z a b m
valued_by {w} {side} {at} {q} {x} {y} {z} {a} {b} {m} e h = subst (λ (k : ℕ). Valued w side at q k z a b m) e h

-- the numbers of a value fit the tape
pub small_span : (w : List ℕ) (m a b : ℕ) → length w ≤ 1400 → Span w m a b → (a < 65536) × (b < 65536)
small_span w m a b h S = go (ltb a aside) refl
  where
    go : (t : Bool) → ltb a aside ≡ t → (a < 65536) × (b < 65536)
    go true e = let x = ltb-true a aside e in let y = S.inner x in (omega arith, omega (arith, y.0, y.1))
    go false e = let x = ltb-false a aside e in let y = S.outer x in (omega (arith, y.0, y.2), omega (arith, y.2))

pub so_many : (k : Kind) → count_of k ≡ length (fields_of k)
unfolding count_of
so_many k = refl

pub uncounted : (k : Kind) (j c : ℕ) → c ≡ count_of k → j < c → j < length (fields_of k)
unfolding count_of
uncounted k j c e h = omega arith

pub counted : (k : Kind) (j : ℕ) → j < length (fields_of k) → j < count_of k
unfolding count_of
counted k j h = h

-- ---- attributes behind each other

-- the attributes up to i, from the tape t₀ and the side room side₀ on, of which m₀ bytes were in use
pub record HeldIn (w : List ℕ) (k : Kind) (base from i : ℕ) (t₀ t side₀ side : List ℕ) (m₀ m : ℕ) : Type 0 where
  pub said : List Attr
  pub within : (from ≤ i) × (i ≤ length w)
  pub so_far : (x : List ℕ) (l : List Attr) → Attrs false x l → Attrs false (slice from i w ++ x) (said ++ l)
  pub holds : Holds w side m k t base said
  pub near : m + from ≤ m₀ + i
  pub before : take base t ≡ take base t₀
  pub grown : Grown side₀ side m₀ m
  pub room : (m ≤ length side) × (length side ≡ length side₀)
  pub wide : (base + 2 * length (fields_of k) ≤ length t) × (length t ≡ length t₀)

-- a tag without attributes
values_none : (w side : List ℕ) (fs : List Field) (t : List ℕ) (i : ℕ) → ((j : ℕ) → i ≤ j → j < i + 2 * length fs → get_or t j 0 ≡ 0) → values_at w side (length fs) t i ≡ slots_of fs []
unfolding shown_in
values_none w side [] t i h = refl
values_none w side (f ∷ fs) t i h =
    rw (
      h i (omega arith) (omega arith),
      h (i + 1) (omega arith) (omega arith),
      slice_empty 0 w,
      if_same {A = List ℕ} (is_zero f.rule []) [],
      values_none w side fs t (i + 2) (λ j a b. h j (omega arith) (omega arith)),
    )

broken_none : (fs : List Field) → broken fs (slots_of fs []) ≡ false
broken_none [] = refl
broken_none (f ∷ fs) = rw (if_same {A = List ℕ} (is_zero f.rule []) [], broken_none fs)

pub held_none : (w : List ℕ) (k : Kind) (base from : ℕ) (t₀ t side : List ℕ) (m : ℕ) → from ≤ length w → ((j : ℕ) → base ≤ j → j < base + 2 * length (fields_of k) → get_or t j 0 ≡ 0)
    → take base t ≡ take base t₀ → m ≤ length side → base + 2 * length (fields_of k) ≤ length t → length t ≡ length t₀ → HeldIn w k base from from t₀ t side side m m
unfolding strange
held_none w k base from t₀ t side m h z e r b q = record {
  said = [];
  within = (omega arith, h);
  so_far = λ x l d. rw (slice_empty from w) d;
  holds = record {
    lie = each_none (Span w m) (length (fields_of k)) t base (record { inner = λ x. (omega arith, omega arith); outer = λ x. absurd (omega arith) }) z;
    slots = values_none w side (fields_of k) t base z;
    there = standing_none (fields_of k) t base z;
    known = refl;
    kept = broken_none (fields_of k);
  };
  near = omega arith;
  before = e;
  grown = record { same = refl; up = omega arith };
  room = (r, refl);
  wide = (b, q);
}

module _ {w : List ℕ} {k : Kind} {base from i : ℕ} {t₀ t side₀ side : List ℕ} {m₀ m : ℕ} (H : HeldIn w k base from i t₀ t side₀ side m₀ m) (a : ℕ) (ha : a ≡ i + until is_space (drop i w)) where
  -- one attribute more behind spaces
  pub again_in_lem : (r : ℕ) (t' side' : List ℕ) (m' : ℕ) → i < a → length side' ≡ length side → AttrIn w k base a r t t' side side' m m' → HeldIn w k base from r t₀ t' side₀ side' m₀ m'
  again_in_lem r t' side' m' h long A =
      let q = H.within in
      let g = A.within in
      let G = A.grown in
      let l = H.said in
      let n = A.name in
      let fs = fields_of k in
      let j = place_in n fs in
      let s = base + 2 * j in
      let val = A.value in
      let al : a ≤ length w = omega (arith, g.0, g.1) in
      let c : slice i a w ≡ get_or w i 0 ∷ slice (suc i) a w = slice-cons i a w 0 h al in
      let sp : All Space (get_or w i 0 ∷ slice (suc i) a w) = rw c at (all_run is_space w i a ha) in
      let new : elem n (names l) ≡ false =
      sym (there_place fs l n A.known) ∙ ap (λ (x : List Bool). get_or x j false) (sym H.holds.there) ∙ standing_at (length fs) t base j A.known ∙ ap not (eq-eqb (get_or t s 0) 0 A.free) in
      let f : get_or fs j no_field ≡ field_at (first_of k + j) = field_at_lem k j (counted k j A.known) in
      let shown : shown_in w side' A.from A.to ≡ settle (get_or fs j no_field) (value A.raw) = rw (f, A.raw_is) val.shown in
      let lie = spans_more w side side' m m' G.same G.up (length fs) t t base (λ u x y. refl) H.holds.lie in
      let was = values_more w side side' m m' G.same G.up (length fs) t t base (λ u x y. refl) H.holds.lie in
      let more : slots_of fs (l ++ attr n A.raw ∷ []) ≡ set (slots_of fs l) j (settle (get_or fs j no_field) (value A.raw)) = slots_more k l n A.raw new in
      record {
        said = l ++ attr n A.raw ∷ [];
        within = (omega (arith, q.0, g.0), g.1);
        so_far = λ x z d.
            let y = slice a r w ++ x in
            let d1 : Attrs true y (attr n A.raw ∷ z) = A.derives x z d in
            let d2 : Attrs false (get_or w i 0 ∷ (slice (suc i) a w ++ y)) (attr n A.raw ∷ z) = space sp.0 (spaced (slice (suc i) a w) sp.1 y (attr n A.raw ∷ z) d1) in
            let e : slice i r w ++ x ≡ get_or w i 0 ∷ (slice (suc i) a w ++ y) = part w x i a r (omega arith) (omega (arith, g.0)) g.1 ∙ ap (λ (u : List ℕ). u ++ y) c in
            let d3 : Attrs false (slice i r w ++ x) (attr n A.raw ∷ z) = rw e d2 in
            rw (part w x from i r q.0 (omega (arith, g.0)) g.1, append_assoc l (attr n A.raw ∷ []) z) (H.so_far (slice i r w ++ x) (attr n A.raw ∷ z) d3);
        holds = rw A.tape_is (record {
          lie = each_put (Span w m') t A.from A.to (length fs) base j s A.known refl H.wide.0 val.span lie;
          slots = pairs_put (shown_in w side') t A.from A.to (length fs) base j s A.known refl H.wide.0
              ∙ rw (was, H.holds.slots, shown) (sym more);
          there = standing_put t A.from A.to (length fs) base j s A.known refl H.wide.0 val.stands
              ∙ rw H.holds.there (sym (there_more fs l n A.raw (distinct k)));
          known = strange_more k l n A.raw new H.holds.known A.known;
          kept = rw more (broken_put fs (slots_of fs l) j (settle (get_or fs j no_field) (value A.raw)) H.holds.kept (rw (f, A.raw_is) val.kept));
        });
        near = omega (arith, H.near, A.near);
        before = ap (take base) A.tape_is ∙ take-set-le base (set t s A.from) (s + 1) A.to (omega arith) ∙ take-set-le base t s A.from (omega arith) ∙ H.before;
        grown = record { same = take_more side side' m m₀ H.grown.up G.same ∙ H.grown.same; up = omega (arith, H.grown.up, G.up) };
        room = (val.room, long ∙ H.room.1);
        wide = rw (A.tape_is, length-set (set t s A.from) (s + 1) A.to, length-set t s A.from) H.wide;
      }

  -- the tag's end behind spaces
  pub inside_in : i ≤ a → a < length w → InsideIn w k base from a t₀ t side₀ side m₀ m
  inside_in h l =
      let q = H.within in
      let e : slice from i w ++ slice i a w ≡ slice from a w =
      sym (sym (append-nil (slice from a w)) ∙ part w [] from i a q.0 h (omega arith) ∙ ap (λ (z : List ℕ). slice from i w ++ z) (append-nil (slice i a w))) in
      record {
        said = H.said;
        within = (omega (arith, q.0), l);
        derives = rw (e, append-nil H.said) at (H.so_far (slice i a w) [] (last false (slice i a w) (all_run is_space w i a ha)));
        holds = H.holds;
        near = omega (arith, H.near);
        before = H.before;
        grown = H.grown;
        room = H.room.0;
      }
