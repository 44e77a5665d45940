-- ElemLaws: an element on the tape, from its header and its values.
-- Assumes nothing.
use mathlib.Core.Path.{◌≡◌, refl, sym, ◌∙◌}
use mathlib.Core.Bool.{Bool}
use mathlib.Core.List.{List}
use Prim.Native.Nat.{ℕ, ◌+◌, ◌*◌, ◌≤◌}
use native.Mathlib.Omega.{arith}
use lib.ListN.{length, get_or, set, length-set}
use lib.Seq.{get_or-set_same, get_or-set_other, take-set-le}
use Rattle.paper.specs.Grammar.{Attr}
use Rattle.paper.specs.Fields.{Kind, code, fields_of}
use Rattle.paper.specs.Judging.{slots_of}
use Rattle.sheet.specs.Fold.{needs_w}
use Rattle.tape.specs.Tape.{header, Holds}
use Rattle.quick.specs.Taken.{InsideIn, TagIn}
use Rattle.quick.specs.Fits.{Fits}
use Rattle.tape.proofs.TapeLaws.{spans_more}
use Rattle.room.proofs.Alike.{same_before, take_more}

-- what was in use of the side room lies in it
pub holds_wide : {w side : List ℕ} {m : ℕ} {k : Kind} {t : List ℕ} {i : ℕ} {l : List Attr} → m ≤ length side → Holds w side m k t i l → Holds w side (length side) k t i l
holds_wide {w} {side} {m} {k} {t} {i} {l} h H = record {
  lie = spans_more w side side m (length side) refl h (length (fields_of k)) t t i (λ j a b. refl) H.lie;
  slots = H.slots;
  there = H.there;
  known = H.known;
  kept = H.kept;
}

module _ (w : List ℕ) (k : Kind) (f p from r : ℕ) (t t₁ t' side side' : List ℕ) (m m' next kind : ℕ) (q : kind ≡ code k)
    (e : t₁ ≡ set (set (set t f kind) (f + 1) p) (f + 2) next) (n : next ≡ f + header + 2 * length (fields_of k)) (l : next ≤ length t) (long : length t' ≡ length t) where
  set_long : length (set (set t f kind) (f + 1) p) ≡ length t
  set_long = length-set (set t f kind) (f + 1) p ∙ length-set t f kind

  head_kind : get_or t₁ f 0 ≡ kind
  head_kind = rw e (get_or-set_other (set (set t f kind) (f + 1) p) (f + 2) f next 0 (λ z. omega arith) ∙ get_or-set_other (set t f kind) (f + 1) f p 0 (λ z. omega arith) ∙ get_or-set_same t f kind 0 (omega arith))

  head_place : get_or t₁ (f + 1) 0 ≡ p
  head_place = rw e (get_or-set_other (set (set t f kind) (f + 1) p) (f + 2) (f + 1) next 0 (λ z. omega arith) ∙ get_or-set_same (set t f kind) (f + 1) p 0 (rw (length-set t f kind) (omega arith)))

  head_next : get_or t₁ (f + 2) 0 ≡ next
  head_next = rw e (get_or-set_same (set (set t f kind) (f + 1) p) (f + 2) next 0 (rw set_long (omega arith)))

  pub tag_in : (needs : Bool) (I : InsideIn w k (f + header) from r t₁ t' side side' m m') → Fits w side' k t' (f + header)
      → ((l : List Attr) → Holds w side' (length side') k t' (f + header) l → needs ≡ needs_w k (slots_of (fields_of k) l))
      → TagIn w k f p from r t t' side side' m m' next needs
  tag_in needs I fit need =
      let H = holds_wide I.room I.holds in
      record {
        said = I.said;
        within = I.within;
        derives = I.derives;
        known = I.holds.known;
        fine = sym (fit I.said H);
        near = I.near;
        needy = need I.said H;
        next_is = n;
        element = record {
          kind_is = same_before t₁ t' (f + header) f I.before (omega arith) ∙ head_kind ∙ q;
          place_is = same_before t₁ t' (f + header) (f + 1) I.before (omega arith) ∙ head_place;
          next_is = same_before t₁ t' (f + header) (f + 2) I.before (omega arith) ∙ head_next;
          wide = n;
          lie = I.holds.lie;
          slots_are = I.holds.slots;
        };
        before = take_more t₁ t' (f + header) f (omega arith) I.before
            ∙ rw e (take-set-le f (set (set t f kind) (f + 1) p) (f + 2) next (omega arith) ∙ take-set-le f (set t f kind) (f + 1) p (omega arith) ∙ take-set-le f t f kind (omega arith));
        grown = I.grown;
        room = (I.room, omega (arith, long));
      }
