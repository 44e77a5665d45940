-- WalkLaws: the walk's definitions unroll by one: a run of bytes, one attribute, one tag.
-- Assumes nothing.
use mathlib.Core.Path.{◌≡◌, refl, sym, ap, ◌∙◌}
use mathlib.Core.Bool.{Bool, true, false}
use mathlib.Core.List.{List, [], ◌∷◌}
use Prim.Native.Nat.{ℕ, zero, suc, ◌+◌, ◌≤◌, ◌<◌}
use native.Mathlib.Nat.{add-zero, zero-add, suc-add, add_assoc}
use native.Mathlib.Numerals.{add-one}
use native.Mathlib.Omega.{arith}
use lib.Dec.{eqb}
use lib.ListN.{length, take, get_or, drop, drop_of_length-le, length-drop}
use lib.Seq.{slice, drop-cons, drop-drop, get_or-drop, take-nil}
use borrow.Author.Tests.{eq-eqb, ne_eqb, lt-ltb, le-ltb}
use Rattle.paper.specs.Lists.{if, until}
use Rattle.paper.specs.Bytes.{is_space}
use Rattle.paper.specs.Grammar.{Tag, end}
use Rattle.markup.specs.declared.walk.Set.TheVariants.{Spaces, Names, Middle, Not}
use Rattle.markup.specs.Walk.{passes, within, stops, more, name_end, quote_at, raw_end, form, inside, inside_at, opened, tag_before, tags_from, tags_at}

-- ---- runs of bytes

-- a place i of s is the place x of its part from `at` on; the run from there ends at the like place
along : (p : ℕ → Bool) (s : List ℕ) (at x i j : ℕ) → i ≡ at + x → j ≡ i + until p (drop i s) → j ≡ at + (x + until p (drop x (drop at s)))
along p s at x i j e f = f ∙ rw (e, ← drop-drop x at s) (add_assoc at x _)

-- a run ends at a byte outside the set; behind the last byte too, if the set lacks 0
stop_at : (p : ℕ → Bool) → p 0 ≡ false → (s : List ℕ) → p (get_or s (until p s) 0) ≡ false
stop_at p z [] = z
stop_at p z (b ∷ s) = go (p b) refl (stop_at p z s)
  where
    go : (t : Bool) → p b ≡ t → p (get_or s (until p s) 0) ≡ false → p (get_or (b ∷ s) (if t (suc (until p s)) 0) 0) ≡ false
    go true e h = h
    go false e h = e

stop_in : (p : ℕ → Bool) (s : List ℕ) → until p s < length s → p (get_or s (until p s) 0) ≡ false
stop_in p [] h = absurd (omega arith)
stop_in p (b ∷ s) h = go (p b) refl h (stop_in p s)
  where
    go : (t : Bool) → p b ≡ t → if t (suc (until p s)) 0 < suc (length s) → (until p s < length s → p (get_or s (until p s) 0) ≡ false) → p (get_or (b ∷ s) (if t (suc (until p s)) 0) 0) ≡ false
    go true e h f = f (omega arith)
    go false e h f = e

-- a part of what is left is a part of the whole
-- what is left of a beginning is a beginning of what is left
pub take_drop : (at e : ℕ) (s : List ℕ) → take e (drop at s) ≡ drop at (take (at + e) s)
take_drop zero e s = rw (zero-add e)
take_drop (suc at) e [] = rw (take-nil {A = ℕ} e, take-nil {A = ℕ} (suc at + e))
take_drop (suc at) e (x ∷ s) = rw (suc-add at e) (take_drop at e s)

slice_drop : (at a e : ℕ) (s : List ℕ) → slice a e (drop at s) ≡ slice (at + a) (at + e) s
slice_drop at a e s = rw (take_drop at e s) (drop-drop a at (take (at + e) s))

-- ---- the inside of a tag

skip : (s : List ℕ) (k : ℕ) → inside s k ≡ inside (drop k s) 0
unfolding inside
skip [] zero = refl
skip [] (suc k) = refl
skip (b ∷ s) zero = refl
skip (b ∷ s) (suc k) = skip s k

-- spaces before an attribute say nothing
spaces : (s : List ℕ) → inside s 0 ≡ inside (drop (until is_space s) s) 0
unfolding inside
spaces [] = refl
spaces (b ∷ s) = go (is_space b) refl (spaces s)
  where
    go : (t : Bool) → is_space b ≡ t → inside s 0 ≡ inside (drop (until is_space s) s) 0
        → if t (inside s 0) (form (b ∷ s) (inside s (raw_end (b ∷ s)))) ≡ inside (drop (if t (suc (until is_space s)) 0) (b ∷ s)) 0
    go true e h = h
    go false e h = rw e

-- where no space stands, an attribute begins, or the tag ends
pub unroll : (t : List ℕ) → is_space (get_or t 0 0) ≡ false → inside t 0 ≡ form t (inside (drop (suc (raw_end t)) t) 0)
unfolding inside form
unroll [] e = refl
unroll (b ∷ s) e = rw e (ap (form (b ∷ s)) (skip s (raw_end (b ∷ s))))

module _ (s : List ℕ) (at a e : ℕ) (ha : a ≡ at + until (passes Spaces) (drop at s)) (he : e ≡ a + until (passes Names) (drop a s)) where
  here : inside_at s at ≡ form (drop a s) (inside (drop (suc (raw_end (drop a s))) (drop a s)) 0)
  here =
      let q : is_space (get_or (drop a s) 0 0) ≡ false = rw (ha, ← drop-drop (until is_space (drop at s)) at s, get_or-drop (until is_space (drop at s)) (drop at s) 0 0, add-zero) (stop_at is_space refl (drop at s)) in
      spaces (drop at s) ∙ rw (drop-drop (until is_space (drop at s)) at s, ← ha) (unroll (drop a s) q)

  -- no name begins here: the tag's end
  pub no_name : e ≡ a → inside_at s at ≡ stops (eqb (get_or s a 0) 47)
  unfolding form
  no_name z =
      let w : name_end (drop a s) ≡ 0 = omega arith in
      here ∙ rw (eq-eqb (name_end (drop a s)) 0 w, get_or-drop a s 0 0, add-zero)

  module _ (q k re : ℕ) (hq : q ≡ e + until (passes Middle) (drop e s)) (hk : k ≡ get_or s q 0) (hr : re ≡ q + 1 + until (passes (within k)) (drop (q + 1) s)) (n : e ≡ a → ⊥) where
    t : List ℕ
    t = drop a s

    q_is : q ≡ a + quote_at t
    unfolding t
    q_is = along (passes Middle) s a (name_end (drop a s)) e q he hq

    re_is : re ≡ a + raw_end t
    unfolding t raw_end
    re_is =
        let w : q + 1 ≡ a + (quote_at (drop a s) + 1) = omega (arith, q_is) in
        let v : k ≡ get_or (drop a s) (quote_at (drop a s)) 0 = hk ∙ rw (get_or-drop a s (quote_at (drop a s)) 0, ← q_is) in
        along (passes (within k)) s a (quote_at (drop a s) + 1) (q + 1) re w hr ∙ rw v

    named : eqb (name_end t) 0 ≡ false
    unfolding t
    named = ne_eqb (name_end (drop a s)) 0 (λ z. n (omega arith))

    -- an attribute, and the rest behind its quote
    pub field : re < length s → inside_at s at ≡ more (slice a e s) (slice (q + 1) re s) (inside_at s (re + 1))
    unfolding form t
    field h =
        let l : raw_end (drop a s) < length (drop a s) = rw length-drop (omega (arith, re_is)) in
        let w : a + suc (raw_end (drop a s)) ≡ re + 1 = omega (arith, re_is) in
        let v : a + (quote_at (drop a s) + 1) ≡ q + 1 = omega (arith, q_is) in
        here ∙ rw (
          named,
          lt-ltb _ _ l,
          drop-drop (suc (raw_end (drop a s))) a s,
          w,
          slice_drop a 0 (name_end (drop a s)) s,
          add-zero a,
          ← he,
          slice_drop a (quote_at (drop a s) + 1) (raw_end (drop a s)) s,
          v,
          ← re_is,
        )

    -- a value that no quote ends
    pub cut_off : length s ≤ re → inside_at s at ≡ stops false
    unfolding form t
    cut_off h =
        let l : length (drop a s) ≤ raw_end (drop a s) = rw length-drop (omega (arith, re_is)) in
        here ∙ rw (named, le-ltb _ _ l)

-- ---- tags

-- bytes other than `<` say nothing
over : (i : ℕ) (s : List ℕ) → tags_from i s ≡ tags_from (i + until (passes (Not 60)) s) (drop (until (passes (Not 60)) s) s)
unfolding tags_from
over i [] = refl
over i (b ∷ s) = go (passes (Not 60) b) refl (over (suc i) s)
  where
    go : (t : Bool) → passes (Not 60) b ≡ t → tags_from (suc i) s ≡ tags_from (suc i + until (passes (Not 60)) s) (drop (until (passes (Not 60)) s) s)
        → if t (tags_from (suc i) s) (tag_before i s (tags_from (suc i) s)) ≡ tags_from (i + if t (suc (until (passes (Not 60)) s)) 0) (drop (if t (suc (until (passes (Not 60)) s)) 0) (b ∷ s))
    go true e h = let w : i + suc (until (passes (Not 60)) s) ≡ suc i + until (passes (Not 60)) s = omega arith in rw w h
    go false e h = rw (add-zero i, e)

module _ (s : List ℕ) (at i : ℕ) (hi : i ≡ at + until (passes (Not 60)) (drop at s)) where
  there : tags_at s at ≡ tags_at s i
  there = over at (drop at s) ∙ rw (← hi, drop-drop (until (passes (Not 60)) (drop at s)) at s, ← hi)

  -- no `<` is left
  pub no_tag : length s ≤ i → tags_at s at ≡ []
  unfolding tags_from
  no_tag h = there ∙ rw (drop_of_length-le s h)

  -- the tag at the next `<`, and the rest behind it
  pub tag_at : i < length s → tags_at s at ≡ tag_before i (drop (i + 1) s) (tags_at s (i + 1))
  unfolding tags_from
  tag_at h =
      let l : until (passes (Not 60)) (drop at s) < length (drop at s) = rw length-drop (omega (arith, hi)) in
      let b : passes (Not 60) (get_or s i 0) ≡ false = rw hi (rw (get_or-drop at s (until (passes (Not 60)) (drop at s)) 0) at (stop_in (passes (Not 60)) (drop at s) l)) in
      there ∙ rw (add-one, drop-cons s i 0 h, b)

-- a `/` behind the `<`: an end tag
pub ending : (s : List ℕ) (i b : ℕ) (ts : List Tag) → b ≡ get_or s (i + 1) 0 → b ≡ 47 → tag_before i (drop (i + 1) s) ts ≡ end ∷ ts
unfolding tag_before
ending s i b ts e h = rw (get_or-drop (i + 1) s 0 0, add-zero, eq-eqb (get_or s (i + 1) 0) 47 (sym e ∙ h))

-- anything else: a start tag, its name and its inside
pub starting : (s : List ℕ) (i b e : ℕ) (ts : List Tag) → b ≡ get_or s (i + 1) 0 → (b ≡ 47 → ⊥) → e ≡ i + 1 + until (passes Names) (drop (i + 1) s)
    → tag_before i (drop (i + 1) s) ts ≡ opened i (slice (i + 1) e s) (inside_at s e) ts
unfolding tag_before
starting s i b e ts f h g =
    rw (get_or-drop (i + 1) s 0 0, add-zero, ne_eqb (get_or s (i + 1) 0) 47 (λ z. h (f ∙ z)), drop-drop (until (passes Names) (drop (i + 1) s)) (i + 1) s, take_drop (i + 1) (until (passes Names) (drop (i + 1) s)) s, ← g)
