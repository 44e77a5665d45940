-- FoundLaws: the attributes of a tag one after another, by the fields of its element, and the slots that their raw bytes give.
-- Assumes nothing.
use mathlib.Core.Path.{◌≡◌, refl, ap, sym, ◌∙◌, subst}
use mathlib.Core.Bool.{Bool, true, false, not, ◌&&◌, ◌||◌}
use mathlib.Core.List.{List, [], ◌∷◌, ◌++◌, append-nil, append_assoc}
use Prim.Native.Nat.{ℕ, zero, suc, ◌+◌, ◌*◌, ◌≤◌, ◌<◌}
use native.Mathlib.Omega.{arith}
use lib.Dec.{eqb}
use lib.ListN.{length, get_or, set}
use lib.Seq.{slice, slice_empty}
use borrow.Author.Tests.{ne_eqb, eq-eqb, lt-ltb, le-ltb}
use Rattle.paper.specs.Lists.{if, same, elem, twice, every}
use Rattle.paper.specs.Grammar.{Attr}
use Rattle.paper.specs.Fields.{Kind, Field, fields_of}
use Rattle.paper.specs.Values.{value}
use Rattle.paper.specs.Judging.{names, found, slots_of, letters_of}
use Rattle.paper.proofs.Small.{no, neither, and_false, same_comm, same_self, same_eq}
use Rattle.paper.proofs.Element.{distinct}
use Rattle.markup.specs.Walk.{Inside, more, stops, inside_at}
use Rattle.fields.specs.Places.{no_field, place_in, count_of}
use Rattle.fields.proofs.TableLaws.{known, found_letters}
use Rattle.room.specs.Paired.{pairs_at}
use Rattle.room.proofs.PairLaws.{put, put_long, pairs_at_lem, pairs_put, each_put, each_none}
use Rattle.sheet.specs.Fold.{strange}
use Rattle.sheet.specs.Found.{raw_of, raws_in, settled_in, there_in, raw_at, raws_at, standing, Tells}

-- ---- the slots of raw bytes

found_raw : (l : List Attr) (n : List ℕ) → found l n ≡ value (raw_of l n)
found_raw [] n = refl
found_raw (a ∷ l) n = go (same a.name n) (found_raw l n)
  where
    go : (b : Bool) → found l n ≡ value (raw_of l n) → if b (value a.raw) (found l n) ≡ value (if b a.raw (raw_of l n))
    go true e = refl
    go false e = e

-- an element's slots are the values that count of its fields' raw bytes
pub slots_found : (fs : List Field) (l : List Attr) → slots_of fs l ≡ settled_in fs (raws_in fs l)
slots_found [] l = refl
slots_found (f ∷ fs) l = rw (found_raw l f.letters, slots_found fs l)

-- ---- one attribute more

-- an attribute by its name and its raw bytes
abbrev pub attr : List ℕ → List ℕ → Attr
attr n r = record { name = n; raw = r }

pub names_append : (l m : List Attr) → names (l ++ m) ≡ names l ++ names m
names_append [] m = refl
names_append (a ∷ l) m = rw (names_append l m)

elem_append : (n : List ℕ) (l m : List (List ℕ)) → elem n (l ++ m) ≡ elem n l || elem n m
elem_append n [] m = refl
elem_append n (x ∷ l) m = go (same n x) (elem_append n l m)
  where
    go : (b : Bool) → elem n (l ++ m) ≡ elem n l || elem n m → b || elem n (l ++ m) ≡ (b || elem n l) || elem n m
    go true e = refl
    go false e = e

raw_other : (l : List Attr) (n r m : List ℕ) → same n m ≡ false → raw_of (l ++ (attr n r ∷ [])) m ≡ raw_of l m
raw_other [] n r m e = rw e
raw_other (a ∷ l) n r m e = rw (raw_other l n r m e)

raw_own : (l : List Attr) (n r : List ℕ) → elem n (names l) ≡ false → raw_of (l ++ (attr n r ∷ [])) n ≡ r
raw_own [] n r e = rw (same_self n)
raw_own (a ∷ l) n r e = let (x, y) = neither (same n a.name) (elem n (names l)) e in rw (same_comm a.name n, x) (raw_own l n r y)

there_other : (l : List Attr) (n r m : List ℕ) → same n m ≡ false → elem m (names (l ++ (attr n r ∷ []))) ≡ elem m (names l)
there_other [] n r m e = rw (same_comm m n, e)
there_other (a ∷ l) n r m e = rw (there_other l n r m e)

there_own : (l : List Attr) (n r : List ℕ) → elem n (names (l ++ (attr n r ∷ []))) ≡ true
there_own [] n r = rw (same_self n)
there_own (a ∷ l) n r = go (same n a.name) (there_own l n r)
  where
    go : (b : Bool) → elem n (names (l ++ (attr n r ∷ []))) ≡ true → b || elem n (names (l ++ (attr n r ∷ []))) ≡ true
    go true e = refl
    go false e = e

-- the fields that have not those letters
raws_skip : (fs : List Field) (l : List Attr) (n r : List ℕ) → elem n (letters_of fs) ≡ false → raws_in fs (l ++ (attr n r ∷ [])) ≡ raws_in fs l
raws_skip [] l n r e = refl
raws_skip (f ∷ fs) l n r e = let (x, y) = neither (same n f.letters) (elem n (letters_of fs)) e in rw (raw_other l n r f.letters x, raws_skip fs l n r y)

there_skip : (fs : List Field) (l : List Attr) (n r : List ℕ) → elem n (letters_of fs) ≡ false → there_in fs (l ++ (attr n r ∷ [])) ≡ there_in fs l
there_skip [] l n r e = refl
there_skip (f ∷ fs) l n r e = let (x, y) = neither (same n f.letters) (elem n (letters_of fs)) e in rw (there_other l n r f.letters x, there_skip fs l n r y)

-- the raw bytes of one attribute more stand at the place of its field
pub raws_more : (fs : List Field) (l : List Attr) (n r : List ℕ) → twice (letters_of fs) ≡ false → elem n (names l) ≡ false
    → raws_in fs (l ++ (attr n r ∷ [])) ≡ set (raws_in fs l) (place_in n fs) r
raws_more [] l n r d e = refl
raws_more (f ∷ fs) l n r d e =
    let (x, y) = neither (elem f.letters (letters_of fs)) (twice (letters_of fs)) d in
    go (same n f.letters) refl x (raws_more fs l n r y e)
  where
    go : (b : Bool) → same n f.letters ≡ b → elem f.letters (letters_of fs) ≡ false → raws_in fs (l ++ (attr n r ∷ [])) ≡ set (raws_in fs l) (place_in n fs) r
        → raws_in (f ∷ fs) (l ++ (attr n r ∷ [])) ≡ set (raws_in (f ∷ fs) l) (if b 0 (suc (place_in n fs))) r
    go true q x ih = let z = same_eq n f.letters q in rw (← z, raw_own l n r e, raws_skip fs l n r (rw (z) x))
    go false q x ih = rw (raw_other l n r f.letters q, ih)

pub there_more : (fs : List Field) (l : List Attr) (n r : List ℕ) → twice (letters_of fs) ≡ false
    → there_in fs (l ++ (attr n r ∷ [])) ≡ set (there_in fs l) (place_in n fs) true
there_more [] l n r d = refl
there_more (f ∷ fs) l n r d =
    let (x, y) = neither (elem f.letters (letters_of fs)) (twice (letters_of fs)) d in
    go (same n f.letters) refl x (there_more fs l n r y)
  where
    go : (b : Bool) → same n f.letters ≡ b → elem f.letters (letters_of fs) ≡ false → there_in fs (l ++ (attr n r ∷ [])) ≡ set (there_in fs l) (place_in n fs) true
        → there_in (f ∷ fs) (l ++ (attr n r ∷ [])) ≡ set (there_in (f ∷ fs) l) (if b 0 (suc (place_in n fs))) true
    go true q x ih = let z = same_eq n f.letters q in rw (← z, there_own l n r, there_skip fs l n r (rw (z) x))
    go false q x ih = rw (there_other l n r f.letters q, ih)

-- ---- raw values

-- those of a field
pub shown_at_lem : (w : List ℕ) (n : ℕ) (t : List ℕ) (j : ℕ) → j < n → get_or (raws_at w n t) j [] ≡ raw_at w t j
shown_at_lem w n t j h = let z : 0 + 2 * j ≡ 2 * j = omega arith in rw z at (pairs_at_lem (λ (a b : ℕ). slice a b w) n t 0 j [] h)

-- whether it stands in the tag
pub standing_at : (n : ℕ) (t : List ℕ) (i j : ℕ) → j < n → get_or (standing n t i) j false ≡ not (eqb (get_or t (i + 2 * j) 0) 0)
standing_at n t i j h = pairs_at_lem (λ (a b : ℕ). not (eqb a 0)) n t i j false h

pub standing_put : (t : List ℕ) (a b n i j s : ℕ) → j < n → s ≡ i + 2 * j → i + 2 * n ≤ length t → 0 < a → standing n (put t s a b) i ≡ set (standing n t i) j true
standing_put t a b n i j s h e l p =
    pairs_put (λ (x y : ℕ). not (eqb x 0)) t a b n i j s h e l ∙ ap (λ (c : Bool). set (standing n t i) j (not c)) (ne_eqb a 0 (λ q. omega arith))

-- a tag without attributes
raws_none : (w : List ℕ) (fs : List Field) (t : List ℕ) (i : ℕ) → ((j : ℕ) → i ≤ j → j < i + 2 * length fs → get_or t j 0 ≡ 0)
    → pairs_at (λ (a b : ℕ). slice a b w) (length fs) t i ≡ raws_in fs []
raws_none w [] t i h = refl
raws_none w (f ∷ fs) t i h =
    rw (h i (omega arith) (omega arith), h (i + 1) (omega arith) (omega arith), slice_empty 0 w, raws_none w fs t (i + 2) (λ j a b. h j (omega arith) (omega arith)))

pub standing_none : (fs : List Field) (t : List ℕ) (i : ℕ) → ((j : ℕ) → i ≤ j → j < i + 2 * length fs → get_or t j 0 ≡ 0) → standing (length fs) t i ≡ there_in fs []
standing_none [] t i h = refl
standing_none (f ∷ fs) t i h = rw (h i (omega arith) (omega arith), standing_none fs t (i + 2) (λ j a b. h j (omega arith) (omega arith)))

-- ---- a field that stands in the tag

-- whether the field at a place stands in the tag
there_in_lem : (fs : List Field) (l : List Attr) (j : ℕ) → j < length fs → get_or (there_in fs l) j false ≡ elem (get_or fs j no_field).letters (names l)
there_in_lem [] l j h = absurd (omega arith)
there_in_lem (f ∷ fs) l zero h = refl
there_in_lem (f ∷ fs) l (suc j) h = there_in_lem fs l j (omega arith)

-- whether letters that are known stand in the tag
pub there_place : (fs : List Field) (l : List Attr) (n : List ℕ) → place_in n fs < length fs → get_or (there_in fs l) (place_in n fs) false ≡ elem n (names l)
there_place fs l n h = there_in_lem fs l (place_in n fs) h ∙ ap (λ (m : List ℕ). elem m (names l)) (sym (same_eq n (get_or fs (place_in n fs) no_field).letters (found_letters n fs h)))

pub count_is : (k : Kind) → count_of k ≡ length (fields_of k)
unfolding count_of
count_is k = refl

-- ---- strange attributes

abbrev pub fits : Kind → List ℕ → Bool
fits k n = elem n (letters_of (fields_of k))

pub every_seam : (p : List ℕ → Bool) (l m : List (List ℕ)) → every p (l ++ m) ≡ every p l && every p m
every_seam p [] m = refl
every_seam p (x ∷ l) m = go (p x) (every_seam p l m)
  where
    go : (b : Bool) → every p (l ++ m) ≡ every p l && every p m → b && every p (l ++ m) ≡ (b && every p l) && every p m
    go true e = e
    go false e = refl

pub or_true : (b : Bool) → b || true ≡ true
or_true true = refl
or_true false = refl

twice_seam : (l m : List (List ℕ)) (n : List ℕ) → elem n l ≡ true → twice (l ++ n ∷ m) ≡ true
twice_seam [] m n e = no (sym e)
twice_seam (x ∷ l) m n e = go (same n x) refl e (twice_seam l m n)
  where
    go : (b : Bool) → same n x ≡ b → b || elem n l ≡ true → (elem n l ≡ true → twice (l ++ n ∷ m) ≡ true) → elem x (l ++ n ∷ m) || twice (l ++ n ∷ m) ≡ true
    go true q h ih = rw (elem_append x l (n ∷ m), same_comm x n, q, or_true (elem x l))
    go false q h ih = rw (ih h) (or_true (elem x (l ++ n ∷ m)))

pub once_more : (l : List (List ℕ)) (n : List ℕ) → twice l ≡ false → elem n l ≡ false → twice (l ++ (n ∷ [])) ≡ false
once_more [] n d e = refl
once_more (x ∷ l) n d e =
    let (a, b) = neither (elem x l) (twice l) d in
    let (p, q) = neither (same n x) (elem n l) e in
    rw (elem_append x l (n ∷ []), a, same_comm x n, p, once_more l n b q)

-- ---- along the attributes of a tag

-- behind some attributes of a tag, up to place i of the page: they are known, none stands twice, and the raw values tell them
pub record Held (w : List ℕ) (k : Kind) (at i : ℕ) (t : List ℕ) : Type 0 where
  pub within : i ≤ length w
  pub wide : 2 * length (fields_of k) ≤ length t
  pub done : List Attr
  pub whole : (inside_at w at).attrs ≡ done ++ (inside_at w i).attrs
  pub closing : (inside_at w at).shut ≡ (inside_at w i).shut
  pub fitting : every (fits k) (names done) ≡ true
  pub once : twice (names done) ≡ false
  pub tells : Tells w k t done

-- before the first, where all numbers are 0
pub at_start : (w : List ℕ) (k : Kind) (at : ℕ) (t : List ℕ) → at ≤ length w → 2 * length (fields_of k) ≤ length t → ((j : ℕ) → j < 2 * length (fields_of k) → get_or t j 0 ≡ 0) → Held w k at at t
at_start w k at t h l e =
    let z : (j : ℕ) → 0 ≤ j → j < 0 + 2 * length (fields_of k) → get_or t j 0 ≡ 0 = λ j a b. e j (omega arith) in record {
      within = h;
      wide = l;
      done = [];
      whole = refl;
      closing = refl;
      fitting = refl;
      once = refl;
      tells = record {
        lie = each_none (λ (a b : ℕ). (a ≤ b) × (b ≤ length w)) (length (fields_of k)) t 0 (omega arith, omega arith) z;
        raws = raws_none w (fields_of k) t 0 z;
        there = standing_none (fields_of k) t 0 z;
      };
    }

module _ {w : List ℕ} {k : Kind} {at i : ℕ} {t : List ℕ} (H : Held w k at i t) where
  -- the tag's end
  pub at_stop : (c : Bool) → inside_at w i ≡ stops c
      → (strange k (names (inside_at w at).attrs) ≡ false) × (c ≡ (inside_at w at).shut) × Tells w k t (inside_at w at).attrs
  unfolding strange
  at_stop c e =
      let all : (inside_at w at).attrs ≡ H.done = H.whole ∙ rw e (append-nil H.done) in
      (rw (all, H.fitting, H.once), sym (H.closing ∙ ap (λ (x : Inside). x.shut) e), rw all H.tells)

  module _ (n r : List ℕ) (I : Inside) (e : inside_at w i ≡ more n r I) where
    all_names : names (inside_at w at).attrs ≡ names H.done ++ n ∷ names I.attrs
    all_names = rw (H.whole, e) (names_append H.done (attr n r ∷ I.attrs))

    -- j is the place of its field among the element's c fields
    module _ (j c : ℕ) (p : j ≡ place_in n (fields_of k)) (q : c ≡ count_of k) where
      -- an attribute that is unknown
      pub at_unknown : c ≤ j → strange k (names (inside_at w at).attrs) ≡ true
      unfolding strange count_of
      at_unknown h =
          let x : fits k n ≡ false = known n (fields_of k) ∙ le-ltb (place_in n (fields_of k)) (length (fields_of k)) (omega arith) in
          rw (all_names, every_seam (fits k) (names H.done) (n ∷ names I.attrs), x, and_false (every (fits k) (names H.done)))

      module _ (h : j < c) where
        inside : place_in n (fields_of k) < length (fields_of k)
        unfolding count_of
        inside = omega arith

        place : 0 + 2 * place_in n (fields_of k) ≡ 2 * j
        place = omega arith

        stands : elem n (names H.done) ≡ not (eqb (get_or t (2 * j) 0) 0)
        stands =
            sym (there_place (fields_of k) H.done n inside)
            ∙ ap (λ (l : List Bool). get_or l (place_in n (fields_of k)) false) (sym H.tells.there)
            ∙ standing_at (length (fields_of k)) t 0 (place_in n (fields_of k)) inside
            ∙ ap (λ (m : ℕ). not (eqb (get_or t m 0) 0)) place

        -- an attribute that stands twice
        pub at_twice : (get_or t (2 * j) 0 ≡ 0 → ⊥) → strange k (names (inside_at w at).attrs) ≡ true
        unfolding strange
        at_twice z =
            let x : elem n (names H.done) ≡ true = stands ∙ ap not (ne_eqb (get_or t (2 * j) 0) 0 z) in
            let y = twice_seam (names H.done) (names I.attrs) n x in
            rw (all_names, y) (or_true (not (every (fits k) (names H.done ++ n ∷ names I.attrs))))

        -- an attribute more, whose raw bytes lie from a up to b
        pub at_next : get_or t (2 * j) 0 ≡ 0 → (a b : ℕ) → r ≡ slice a b w → I ≡ inside_at w (b + 1) → 0 < a → a ≤ b → b < length w
            → Held w k at (b + 1) (put t (2 * j) a b)
        at_next z a b v g up le lt =
            let x : elem n (names H.done) ≡ false = stands ∙ ap not (eq-eqb (get_or t (2 * j) 0) 0 z) in
            let y : fits k n ≡ true = known n (fields_of k) ∙ lt-ltb (place_in n (fields_of k)) (length (fields_of k)) inside in
            let l : j < length (fields_of k) = subst (λ (m : ℕ). m < length (fields_of k)) (sym p) inside in
            let first : 2 * j ≡ 0 + 2 * j = omega arith in
            let long : 0 + 2 * length (fields_of k) ≤ length t = omega (arith, H.wide) in
            record {
              within = omega arith;
              wide = rw (put_long t (2 * j) a b) H.wide;
              done = H.done ++ (attr n r ∷ []);
              whole = H.whole ∙ rw (e, g) (sym (append_assoc H.done (attr n r ∷ []) (inside_at w (b + 1)).attrs));
              closing = H.closing ∙ ap (λ (x : Inside). x.shut) e ∙ ap (λ (x : Inside). x.shut) g;
              fitting = rw (names_append H.done (attr n r ∷ []), every_seam (fits k) (names H.done) (n ∷ []), H.fitting, y);
              once = rw (names_append H.done (attr n r ∷ [])) (once_more (names H.done) n H.once x);
              tells = record {
                lie = each_put (λ (x y : ℕ). (x ≤ y) × (y ≤ length w)) t a b (length (fields_of k)) 0 j (2 * j) l first long (le, omega arith) H.tells.lie;
                raws = pairs_put (λ (x y : ℕ). slice x y w) t a b (length (fields_of k)) 0 j (2 * j) l first long
                    ∙ rw (H.tells.raws, ← v, p) (sym (raws_more (fields_of k) H.done n r (distinct k) x));
                there = standing_put t a b (length (fields_of k)) 0 j (2 * j) l first long up
                    ∙ rw (H.tells.there, p) (sym (there_more (fields_of k) H.done n r (distinct k)));
              };
            }
