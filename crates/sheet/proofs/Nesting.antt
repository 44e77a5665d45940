-- Nesting: as long as no element is unknown, the open elements stand in one another as document 01 has them.
-- Assumes nothing.
use mathlib.Core.Path.{◌≡◌, refl}
use mathlib.Core.Bool.{Bool, true, false}
use mathlib.Core.List.{List, [], ◌∷◌}
use Prim.Native.Nat.{ℕ}
use Rattle.paper.specs.Lists.{bytes, if, same}
use Rattle.paper.specs.Fields.{Kind, unknown, MP, P, A, O, S, M, W, R, X, code, is, tag_name, named, children}
use Rattle.paper.specs.Plan.{Slots}
use Rattle.paper.specs.Judging.{Frame, frame, Stack, note}
use Rattle.paper.proofs.Small.{no, same_eq}
use Rattle.paper.proofs.Told.{is_eq}
use Rattle.fields.proofs.TableLaws.{kind_back}
use Rattle.sheet.specs.Fold.{kids_of}

-- the second kind may stand in the first
pub data Kid : Kind → Kind → Type 0 where
  as_p : Kid MP P
  as_a : Kid MP A
  as_o : Kid MP O
  as_s : Kid MP S
  as_m : Kid S M
  as_r : Kid S R
  as_x : Kid S X
  as_w : Kid M W

-- an open element
abbrev pub box : Kind → ℕ → List Kind → Slots → List Slots → Frame
box k i js vs us = record { kind = k; at = i; seen = js; slots = vs; ws = us }

-- the outermost open element is an MP, and each other one may stand in the one around it
pub data Shape : Stack → Type 0 where
  top : {i : ℕ} {js : List Kind} {vs : Slots} {us : List Slots} → Shape (box MP i js vs us ∷ [])
  in_it : {K k : Kind} {i j : ℕ} {js ks : List Kind} {vs ys : Slots} {us xs : List Slots} {st : Stack}
      → Kid K k → Shape (box K j ks ys xs ∷ st) → Shape (box k i js vs us ∷ box K j ks ys xs ∷ st)

shape_note : (K k : Kind) (i : ℕ) (js : List Kind) (vs ys : Slots) (us : List Slots) (st : Stack) → Shape (box K i js vs us ∷ st) → Shape (note (box K i js vs us) k ys ∷ st)
shape_note X k i js vs ys us [] x10 = elim x10 [ ]
shape_note R k i js vs ys us [] x9 = elim x9 [ ]
shape_note W k i js vs ys us [] x8 = elim x8 [ ]
shape_note M k i js vs ys us [] x7 = elim x7 [ ]
shape_note S k i js vs ys us [] x6 = elim x6 [ ]
shape_note O k i js vs ys us [] x5 = elim x5 [ ]
shape_note A k i js vs ys us [] x4 = elim x4 [ ]
shape_note P k i js vs ys us [] x3 = elim x3 [ ]
shape_note unknown k i js vs ys us [] x'' = elim x'' [ ]
shape_note MP k i js vs ys us [] top = top
shape_note K k i js vs ys us (F ∷ st) (in_it c sh) = in_it c sh

-- behind the start tag of an element that may stand here
pub shape_enter : (F : Frame) (st : Stack) (k : Kind) (i : ℕ) (ys : Slots) → Kid F.kind k → Shape (F ∷ st) → Shape (frame k i ys ∷ note F k ys ∷ st)
shape_enter F st k i ys c sh = in_it c (shape_note F.kind k F.at F.seen F.slots ys F.ws st sh)

-- behind an end tag
pub shape_leave : (F G : Frame) (st : Stack) → Shape (F ∷ G ∷ st) → Shape (G ∷ st)
shape_leave F G st (in_it c sh) = sh

-- what stands in another element is known, and no MP
kid_not : {K k : Kind} → Kid K k → (is k unknown ≡ false) × (is k MP ≡ false)
kid_not as_p = (refl, refl)
kid_not as_a = (refl, refl)
kid_not as_o = (refl, refl)
kid_not as_s = (refl, refl)
kid_not as_m = (refl, refl)
kid_not as_r = (refl, refl)
kid_not as_x = (refl, refl)
kid_not as_w = (refl, refl)

-- MP is the outermost element
pub alone : (i : ℕ) (js : List Kind) (vs : Slots) (us : List Slots) (st : Stack) → Shape (box MP i js vs us ∷ st) → st ≡ []
alone i js vs us [] top = refl
alone i js vs us (G ∷ st) (in_it c sh) = no (kid_not c).1

known_top : (F : Frame) (st : Stack) → Shape (F ∷ st) → is F.kind unknown ≡ false
known_top F [] top = refl
known_top F (G ∷ st) (in_it c sh) = (kid_not c).0

-- ---- names

kid_mp : (b c d e : Bool) → is (if b P (if c A (if d O (if e S unknown)))) unknown ≡ false → Kid MP (if b P (if c A (if d O (if e S unknown))))
kid_mp true c d e q = as_p
kid_mp false true d e q = as_a
kid_mp false false true e q = as_o
kid_mp false false false true q = as_s
kid_mp false false false false q = no q

kid_s : (b c d : Bool) → is (if b M (if c R (if d X unknown))) unknown ≡ false → Kid S (if b M (if c R (if d X unknown)))
kid_s true c d q = as_m
kid_s false true d q = as_r
kid_s false false true q = as_x
kid_s false false false q = no q

kid_m : (b : Bool) → is (if b W unknown) unknown ≡ false → Kid M (if b W unknown)
kid_m true q = as_w
kid_m false q = no q

-- a name that is known in an element is that of a kind that may stand in it
pub kid_of : (K : Kind) (n : List ℕ) → is (named n (children K)) unknown ≡ false → Kid K (named n (children K))
kid_of unknown n q = no q
kid_of MP n q = kid_mp (same n (bytes "P")) (same n (bytes "A")) (same n (bytes "O")) (same n (bytes "S")) q
kid_of P n q = no q
kid_of A n q = no q
kid_of O n q = no q
kid_of S n q = kid_s (same n (bytes "M")) (same n (bytes "R")) (same n (bytes "X")) q
kid_of M n q = kid_m (same n (bytes "W")) q
kid_of W n q = no q
kid_of R n q = no q
kid_of X n q = no q

-- a name is that of the kind it is known as
pub known_name : (n : List ℕ) (ks : List Kind) → is (named n ks) unknown ≡ false → n ≡ tag_name (named n ks)
known_name n [] e = no e
known_name n (k ∷ ks) e = at (same n (tag_name k)) refl e (known_name n ks)
  where
    at : (b : Bool) → same n (tag_name k) ≡ b → is (if b k (named n ks)) unknown ≡ false → (is (named n ks) unknown ≡ false → n ≡ tag_name (named n ks)) → n ≡ tag_name (if b k (named n ks))
    at true q e ih = same_eq n (tag_name k) q
    at false q e ih = ih e

kids_known : (K : Kind) → is K unknown ≡ false → kids_of (code K) ≡ children K
unfolding kids_of
kids_known K e = rw (kind_back K, e)

-- the code of the innermost open element says what may stand in it
pub kids_top : (F : Frame) (st : Stack) → Shape (F ∷ st) → kids_of (code F.kind) ≡ children F.kind
kids_top F st sh = kids_known F.kind (known_top F st sh)

-- ---- the outermost element

-- an MP is all that is open behind its start tag
pub root_shape : (k : Kind) (i : ℕ) (vs : Slots) → is k MP ≡ true → Shape (frame k i vs ∷ [])
root_shape k i vs e = rw (is_eq k MP e) top
