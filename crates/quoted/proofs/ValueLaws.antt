-- ValueLaws: a value by its field: absent, kept as it stands in the page, or kept in the side room.
-- Assumes nothing.
use mathlib.Core.Path.{◌≡◌, refl, sym, ap, ◌∙◌}
use mathlib.Core.Bool.{Bool, true, false, not, ◌&&◌}
use mathlib.Core.List.{List, [], ◌∷◌}
use Prim.Native.Nat.{ℕ, ◌+◌, ◌-◌, ◌≤◌, ◌<◌}
use native.Mathlib.Omega.{arith}
use lib.Dec.{ltb}
use lib.ListN.{length}
use lib.Seq.{slice, slice_empty}
use borrow.Author.Tests.{lt-ltb, le-ltb, ltb-true, ltb-false}
use Rattle.paper.specs.Lists.{if, every, count, is_empty, All}
use Rattle.paper.specs.Bytes.{is_decoded}
use Rattle.paper.specs.Grammar.{Pass}
use Rattle.paper.specs.Values.{value}
use Rattle.paper.specs.Fields.{Field}
use Rattle.paper.specs.Rules.{keeps, is_zero, settle}
use Rattle.paper.specs.Judging.{breaks}
use Rattle.paper.proofs.Small.{no}
use Rattle.fields.specs.Places.{field_at}
use Rattle.room.proofs.Parts.{part_empty}
use Rattle.quoted.specs.Plain.{ordinary, Plainly}
use Rattle.quoted.specs.Raws.{RawAt}
use Rattle.tape.specs.Tape.{aside, shown_in}
use Rattle.quoted.specs.Valued.{Valued}
use Rattle.quoted.proofs.PlainLaws.{ordinary_text}

-- ---- absent or not

module _ (f : Field) where
  -- nothing counts as absent
  pub absent_empty : is_empty (settle f []) ≡ true
  absent_empty = go (is_zero f.rule [])
    where
      go : (b : Bool) → is_empty (if b [] []) ≡ true
      go true = refl
      go false = refl

  -- of what is there only a dose of 0
  pub absent_zero : (v : List ℕ) → is_empty v ≡ false → is_zero f.rule v ≡ is_empty (settle f v)
  absent_zero v e = go (is_zero f.rule v)
    where
      go : (b : Bool) → b ≡ is_empty (if b [] v)
      go true = refl
      go false = sym e

  -- an absent value
  pub settled_none : (v : List ℕ) → is_empty (settle f v) ≡ true → [] ≡ settle f v
  settled_none v = go (settle f v)
    where
      go : (u : List ℕ) → is_empty u ≡ true → [] ≡ u
      go [] q = refl
      go (c ∷ u) q = no (sym q)

  -- a present one is what counts
  pub settled_some : (v : List ℕ) → is_empty (settle f v) ≡ false → v ≡ settle f v
  settled_some v = go (is_zero f.rule v)
    where
      go : (b : Bool) → is_empty (if b [] v) ≡ false → v ≡ if b [] v
      go true q = no q
      go false q = refl

  -- and has a byte
  pub not_empty : (w : List ℕ) (i e : ℕ) → i ≤ e → is_empty (settle f (slice i e w)) ≡ false → i < e
  not_empty w i e h q = go (ltb i e) refl
    where
      go : (b : Bool) → ltb i e ≡ b → i < e
      go true p = ltb-true i e p
      go false p =
          let x = ltb-false i e p in
          let y : i ≡ e = omega arith in
          no (sym absent_empty ∙ ap (λ (v : List ℕ). is_empty (settle f v)) (part_empty w i e y) ∙ q)

-- ---- a value of ordinary bytes

pub ordinary_decoded : (v : List ℕ) → All (Pass ordinary) v → every is_decoded v ≡ true
ordinary_decoded [] a = refl
ordinary_decoded (c ∷ v) a = rw (ordinary_text c a.0).0 (ordinary_decoded v a.1)

pub ordinary_whole : (v : List ℕ) → All (Pass ordinary) v → count 126 v ≡ 0
ordinary_whole [] a = refl
ordinary_whole (c ∷ v) a = rw (ordinary_text c a.0).1 (ordinary_whole v a.1)

-- the raw bytes of a plain value
pub plain_raw : {w : List ℕ} {at q e t : ℕ} → Plainly w at q e t → RawAt w at q e
plain_raw P = record { within = (omega (arith, P.within.0, P.within.1), P.within.2); closes = P.closes; raw = P.raw }

-- ---- what is told of a value

unbroken : (f : Field) (v : List ℕ) → keeps f v ≡ true → breaks f v ≡ false
unbroken f v e = rw e (go (is_empty v))
  where
    go : (b : Bool) → not b && false ≡ false
    go true = refl
    go false = refl

module _ (w : List ℕ) (at q id z : ℕ) (R : RawAt w at q z) (up : 0 < at) (short : length w ≤ 1400) where
  -- an absent one
  pub none_there : (side : List ℕ) (m : ℕ) → m ≤ length side → [] ≡ settle (field_at id) (value (slice at z w)) → Valued w side at q id z at at m
  unfolding shown_in
  none_there side m r e =
      let h = R.within in
      let l : at < aside = omega (arith, h.0, h.1) in
      record {
        raw = R;
        shown = rw (lt-ltb at aside l) (slice_empty at w ∙ e);
        kept = ap (breaks (field_at id)) (sym e);
        span = record { inner = λ x. (omega arith, omega (arith, h.0, h.1)); outer = λ x. absurd (omega arith) };
        stands = up;
        room = r;
      }

  -- one that stands for itself
  pub in_page : (side : List ℕ) (t m : ℕ) → m ≤ length side → at ≤ t → t ≤ z → slice at t w ≡ value (slice at z w) → slice at t w ≡ settle (field_at id) (slice at t w)
      → keeps (field_at id) (slice at t w) ≡ true → Valued w side at q id z at t m
  unfolding shown_in
  in_page side t m r a b v e k =
      let h = R.within in
      let l : at < aside = omega (arith, h.0, h.1) in
      let s : slice at t w ≡ settle (field_at id) (value (slice at z w)) = e ∙ ap (settle (field_at id)) v in
      record {
        raw = R;
        shown = rw (lt-ltb at aside l) s;
        kept = ap (breaks (field_at id)) (sym s) ∙ unbroken (field_at id) (slice at t w) k;
        span = record { inner = λ x. (a, omega (arith, h.1)); outer = λ x. absurd (omega arith) };
        stands = up;
        room = r;
      }

  -- one that lies in the side room
  pub in_side : (side : List ℕ) (m e : ℕ) → m < e → e ≤ length side → length side < aside → slice m e side ≡ value (slice at z w)
      → slice m e side ≡ settle (field_at id) (slice m e side) → keeps (field_at id) (slice m e side) ≡ true → Valued w side at q id z (m + aside) e e
  unfolding shown_in
  in_side side m e h l n v s k =
      let b : m + aside - aside ≡ m = omega arith in
      let s' : slice m e side ≡ settle (field_at id) (value (slice at z w)) = s ∙ ap (settle (field_at id)) v in
      record {
        raw = R;
        shown = rw (le-ltb (m + aside) aside (omega arith), b) s';
        kept = ap (breaks (field_at id)) (sym s') ∙ unbroken (field_at id) (slice m e side) k;
        span = record { inner = λ x. absurd (omega arith); outer = λ x. (omega arith, omega arith, omega arith) };
        stands = omega arith;
        room = l;
      }
