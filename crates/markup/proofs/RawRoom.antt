-- RawRoom: the raw values of a well-formed page take no more bytes than the page, and a value no more than its raw bytes; so a room of the page's
-- length holds all its values.
-- Assumes nothing.
use mathlib.Core.Path.{◌≡◌, refl, ap}
use mathlib.Core.Bool.{Bool, false}
use mathlib.Core.Option.{some}
use mathlib.Core.List.{List, [], ◌∷◌, ◌++◌}
use Prim.Native.Nat.{ℕ, ◌+◌, ◌≤◌}
use native.Mathlib.Omega.{arith}
use lib.ListN.{length, length-append}
use Rattle.paper.specs.Grammar.{Attr, Tag, start, end, space, attr, done, bare, full, close, Attrs, Rest, Page, placed}
use Rattle.paper.specs.Machine.{before, scan}
use Rattle.paper.proofs.Exact.{exact}
use Rattle.markup.specs.Walk.{tags_at}
use Rattle.markup.proofs.Walked.{walked}

-- the bytes of the raw values of a tag
abbrev pub weigh : List Attr → ℕ
weigh [] = 0
weigh (a ∷ l) = length a.raw + weigh l

-- the bytes of the raw values of a page's tags
abbrev pub weighs : List Tag → ℕ
weighs [] = 0
weighs (start i n l ∷ t) = weigh l + weighs t
weighs (end ∷ t) = weighs t

attrs_room : {b : Bool} {a : List ℕ} {l : List Attr} → Attrs b a l → weigh l ≤ length a
attrs_room end = omega arith
attrs_room (space e q) = let h = attrs_room q in omega arith
attrs_room (attr n u v q r {w = w} hn us vs k p o) =
    let h = attrs_room o in simp length-append (omega arith)

-- a start tag that closes itself, or not, before a rest whose raw values take m bytes
module _ {a : List ℕ} {l : List Attr} (n w : List ℕ) (A : Attrs false a l) (m : ℕ) (h : m ≤ length w) where
  bare_room : weigh l + m ≤ length (60 ∷ (n ++ (a ++ 47 ∷ 62 ∷ w)))
  bare_room = let k = attrs_room A in simp length-append (omega arith)

  full_room : weigh l + m ≤ length (60 ∷ (n ++ (a ++ 62 ∷ w)))
  full_room = let k = attrs_room A in simp length-append (omega arith)

rest_room : {ns : List (List ℕ)} {w : List ℕ} {t : List Tag} → Rest ns w t → weighs t ≤ length w
rest_room done = omega arith
rest_room (space e r) = let h = rest_room r in omega arith
rest_room (bare n a {w = w} hn A r) = bare_room n w A _ (rest_room r)
rest_room (full n a {w = w} hn A r) = full_room n w A _ (rest_room r)
rest_room (close n u {w = w} us r) = let h = rest_room r in simp length-append (omega arith)

page_room_lem : {w : List ℕ} {t : List Tag} → Page w t → weighs t ≤ length w
page_room_lem (space e r) = let h = page_room_lem r in omega arith
page_room_lem (bare n a {w = w} hn A r) = bare_room n w A _ (rest_room r)
page_room_lem (full n a {w = w} hn A r) = full_room n w A _ (rest_room r)

-- a tag's place weighs nothing
placed_weighs : (k : ℕ) (t : List Tag) → weighs (placed k t) ≡ weighs t
placed_weighs k [] = refl
placed_weighs k (start i n l ∷ t) = ap (λ (m : ℕ). weigh l + m) (placed_weighs k t)
placed_weighs k (end ∷ t) = placed_weighs k t

-- the raw values that the walk finds on a well-formed page take no more bytes than the page
pub raws_fit : (w : List ℕ) (t : List Tag) → scan before w ≡ some t → weighs (tags_at w 0) ≤ length w
raws_fit w t e = rw (walked w t e, placed_weighs (length w) t) (page_room_lem ((exact w t).1 e))
