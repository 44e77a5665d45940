-- Weights: what a page says is never longer than the page: each present value costs a space, its letters, `=`, two quotes and its bytes, each element three more.
-- Assumes nothing.
use mathlib.Core.Path.{◌≡◌, refl, ap, ◌∙◌}
use mathlib.Core.Bool.{Bool, true, false}
use mathlib.Core.List.{List, [], ◌∷◌, ◌++◌}
use Prim.Native.Nat.{ℕ, ◌+◌, ◌-◌, ◌≤◌}
use native.Mathlib.Omega.{arith}
use lib.ListN.{length, length-append}
use Rattle.paper.specs.Lists.{if, same, elem, twice}
use Rattle.paper.specs.Grammar.{Attr, Tag, start, end, Attrs, space, attr, Name, Rest, Page, done, bare, full, close, placed}
use Rattle.paper.specs.Values.{value}
use Rattle.paper.specs.Fields.{Kind, M, W, is, Field, fields_of}
use Rattle.paper.specs.Rules.{is_zero, settle}
use Rattle.paper.specs.Plan.{Slots}
use Rattle.paper.specs.Judging.{found, slots_of, letters_of, Frame, frame, Stack, kind_in, note, enter, next, Item, item, early, says, items}
use Rattle.paper.proofs.Small.{neither, same_eq}
use Rattle.paper.proofs.ValueLaws.{value_short}
use Rattle.paper.proofs.Element.{settled_nil, slots_skip, distinct}
use Rattle.paper.proofs.ByKind.{by_kind_lem}

settle_short : (f : Field) (v : List ℕ) → length (settle f v) ≤ length v
settle_short f v = at (is_zero f.rule v)
  where
    at : (b : Bool) → length (if b [] v) ≤ length v
    at true = omega arith
    at false = omega arith

-- ---- what values and elements cost at least

-- the least that a value costs in a page: a space, its letters, `=`, two quotes and its bytes; nothing if it is absent
abbrev pub slot_weight : Field → List ℕ → ℕ
slot_weight f [] = 0
slot_weight f (c ∷ v) = 4 + (length f.letters + length (c ∷ v))

-- the least that the values of an element cost
abbrev pub slots_weight : List Field → Slots → ℕ
slots_weight [] vs = 0
slots_weight (f ∷ fs) [] = 0
slots_weight (f ∷ fs) (v ∷ vs) = slot_weight f v + slots_weight fs vs

-- the least that an element costs: its values, and a start tag of one letter
abbrev pub element_weight : Kind → Slots → ℕ
element_weight k vs = 3 + slots_weight (fields_of k) vs

-- the W of an M
abbrev pub ws_weight : List Slots → ℕ
ws_weight [] = 0
ws_weight (w ∷ ws) = element_weight W w + ws_weight ws

-- an element with its W
abbrev pub item_weight : Item → ℕ
item_weight x = element_weight x.kind x.slots + ws_weight x.ws

-- the elements of a page
abbrev pub items_weight : List Item → ℕ
items_weight [] = 0
items_weight (x ∷ xs) = item_weight x + items_weight xs

items_weight_append : (xs ys : List Item) → items_weight (xs ++ ys) ≡ items_weight xs + items_weight ys
items_weight_append [] ys = omega arith
items_weight_append (x ∷ xs) ys = omega (arith, items_weight_append xs ys)

-- ---- one tag

-- what attributes cost at least
abbrev pub attrs_size : List Attr → ℕ
attrs_size [] = 0
attrs_size (a ∷ l) = 4 + (length a.name + length a.raw) + attrs_size l

weight_up : (f : Field) (v : List ℕ) (n : ℕ) → length v ≤ n → slot_weight f v ≤ 4 + (length f.letters + n)
weight_up f [] n h = omega arith
weight_up f (c ∷ v) n h = omega arith

none_weight : (fs : List Field) → slots_weight fs (slots_of fs []) ≡ 0
none_weight [] = refl
none_weight (f ∷ fs) = omega (arith, ap (slot_weight f) (settled_nil f), none_weight fs)

-- one attribute more costs at least what the fields gain by it
one_attr : (a : Attr) (l : List Attr) (fs : List Field) → twice (letters_of fs) ≡ false
    → slots_weight fs (slots_of fs (a ∷ l)) ≤ 4 + (length a.name + length a.raw) + slots_weight fs (slots_of fs l)
one_attr a l [] d = omega arith
one_attr a l (f ∷ fs) d = let (x, y) = neither (elem f.letters (letters_of fs)) (twice (letters_of fs)) d in at (same a.name f.letters) refl x (one_attr a l fs y)
  where
    at : (b : Bool) → same a.name f.letters ≡ b → elem f.letters (letters_of fs) ≡ false
        → slots_weight fs (slots_of fs (a ∷ l)) ≤ 4 + (length a.name + length a.raw) + slots_weight fs (slots_of fs l)
        → slot_weight f (settle f (if b (value a.raw) (found l f.letters))) + slots_weight fs (slots_of fs (a ∷ l))
        ≤ 4 + (length a.name + length a.raw) + (slot_weight f (settle f (found l f.letters)) + slots_weight fs (slots_of fs l))
    at true q x ih =
        let e : a.name ≡ f.letters = same_eq a.name f.letters q in
        let skip : slots_of fs (a ∷ l) ≡ slots_of fs l = slots_skip a.name a.raw l fs (ap (λ (n : List ℕ). elem n (letters_of fs)) e ∙ x) in
        let v : List ℕ = settle f (value a.raw) in
        omega (arith, weight_up f v (length a.raw) (omega (arith, settle_short f (value a.raw), value_short a.raw)), ap length e, ap (slots_weight fs) skip)
    at false q x ih = omega (arith, ih)

pub tag_weight : (fs : List Field) (l : List Attr) → twice (letters_of fs) ≡ false → slots_weight fs (slots_of fs l) ≤ attrs_size l
tag_weight fs [] d = omega (arith, none_weight fs)
tag_weight fs (a ∷ l) d = omega (arith, one_attr a l fs d, tag_weight fs l d)

-- the space that stands before counts for the attribute behind it
abbrev pub flag : Bool → ℕ
flag true = 1
flag false = 0

pub attrs_long : {b : Bool} {w : List ℕ} {l : List Attr} → Attrs b w l → attrs_size l ≤ length w + flag b
attrs_long end = omega arith
attrs_long (space {w = w} e p) = omega (arith, attrs_long p)
attrs_long (attr n u v q r {w = w} h i j k m p) =
    omega (arith, attrs_long p, length-append n (u ++ 61 ∷ (v ++ q ∷ (r ++ q ∷ w))), length-append u (61 ∷ (v ++ q ∷ (r ++ q ∷ w))), length-append v (q ∷ (r ++ q ∷ w)), length-append r (q ∷ w))

pub name_long : (n : List ℕ) → Name n → 1 ≤ length n
name_long [] h = absurd h
name_long (c ∷ n) h = omega arith

-- ---- the tags, one after another

-- what an open M will say
abbrev held : Frame → ℕ
held F = if (is F.kind M) (element_weight M F.slots + ws_weight F.ws) 0

-- what all open elements will say
abbrev pending : Stack → ℕ
pending [] = 0
pending (F ∷ st) = held F + pending st

ws_weight_append : (ws : List Slots) (w : Slots) → ws_weight (ws ++ w ∷ []) ≡ ws_weight ws + element_weight W w
ws_weight_append [] w = omega arith
ws_weight_append (v ∷ ws) w = omega (arith, ws_weight_append ws w)

-- what a child adds to its parent
abbrev added : Kind → Slots → ℕ
added k vs = if (is k W) (element_weight W vs) 0

noted : (F : Frame) (k : Kind) (vs : Slots) → held (note F k vs) ≤ held F + added k vs
noted F k vs = at (is F.kind M) (is k W)
  where
    at : (b c : Bool) → if b (element_weight M F.slots + ws_weight (if c (F.ws ++ vs ∷ []) F.ws)) 0 ≤ if b (element_weight M F.slots + ws_weight F.ws) 0 + if c (element_weight W vs) 0
    at true true = omega (arith, ws_weight_append F.ws vs)
    at true false = omega arith
    at false true = omega arith
    at false false = omega arith

-- an element is said at its start, or held, or held by its parent
once : (k : Kind) (i : ℕ) (vs : Slots) → items_weight (if (early k) (item k vs [] ∷ []) []) + held (frame k i vs) + added k vs ≤ element_weight k vs
once k i vs =
    by_kind_lem (λ k. items_weight (if (early k) (item k vs [] ∷ []) []) + held (frame k i vs) + added k vs ≤ element_weight k vs)
    (omega arith, omega arith, omega arith, omega arith, omega arith, omega arith, omega arith, omega arith, omega arith, omega arith) k

entered : (st : Stack) (k : Kind) (i : ℕ) (vs : Slots) → items_weight (if (early k) (item k vs [] ∷ []) []) + pending (enter st k i vs) ≤ pending st + element_weight k vs
entered [] k i vs = omega (arith, once k i vs)
entered (F ∷ st) k i vs = omega (arith, once k i vs, noted F k vs)

begun : (st : Stack) (i : ℕ) (n : List ℕ) (l : List Attr) (t : List Tag) (m : ℕ) → items_weight (items (next st (start i n l)) t) ≤ pending (next st (start i n l)) + m
    → items_weight (items st (start i n l ∷ t)) ≤ pending st + (3 + attrs_size l + m)
begun st i n l t m h =
    let k : Kind = kind_in st n in
    let vs : Slots = slots_of (fields_of k) l in
    omega (arith, items_weight_append (says st (start i n l)) (items (next st (start i n l)) t), entered st k i vs, tag_weight (fields_of k) l (distinct k))

over : (st : Stack) → items_weight (says st end) + pending (next st end) ≤ pending st
over [] = omega arith
over (F ∷ st) = at (is F.kind M)
  where
    at : (b : Bool) → items_weight (if b (item M F.slots F.ws ∷ []) []) + pending st ≤ if b (element_weight M F.slots + ws_weight F.ws) 0 + pending st
    at true = omega arith
    at false = omega arith

ended : (st : Stack) (t : List Tag) (m : ℕ) → items_weight (items (next st end) t) ≤ pending (next st end) + m → items_weight (items st (end ∷ t)) ≤ pending st + m
ended st t m h = omega (arith, items_weight_append (says st end) (items (next st end) t), over st)

bare_long : (n a w : List ℕ) {l : List Attr} → Name n → Attrs false a l → 3 + attrs_size l + length w ≤ length (60 ∷ (n ++ (a ++ 47 ∷ 62 ∷ w)))
bare_long n a w h p = omega (arith, name_long n h, attrs_long p, length-append n (a ++ 47 ∷ 62 ∷ w), length-append a (47 ∷ 62 ∷ w))

full_long : (n a w : List ℕ) {l : List Attr} → Name n → Attrs false a l → 3 + attrs_size l + length w ≤ length (60 ∷ (n ++ (a ++ 62 ∷ w)))
full_long n a w h p = omega (arith, name_long n h, attrs_long p, length-append n (a ++ 62 ∷ w), length-append a (62 ∷ w))

close_long : (n u w : List ℕ) → length w ≤ length (60 ∷ 47 ∷ (n ++ (u ++ 62 ∷ w)))
close_long n u w = omega (arith, length-append n (u ++ 62 ∷ w), length-append u (62 ∷ w))

-- the rest of a page pays for all that it says, but what the open elements hold
rest_weight : {ns : List (List ℕ)} {w : List ℕ} {t : List Tag} → Rest ns w t → (L : ℕ) (st : Stack) → items_weight (items st (placed L t)) ≤ pending st + length w
rest_weight done L st = omega arith
rest_weight (space e r) L st = omega (arith, rest_weight r L st)
rest_weight (bare n a {l} {w} {t} h p r) L st =
    let i : ℕ = L - length (60 ∷ (n ++ (a ++ 47 ∷ 62 ∷ w))) in
    let inner : Stack = next st (start i n l) in
    omega (arith, bare_long n a w h p, begun st i n l (end ∷ placed L t) (length w) (ended inner (placed L t) (length w) (rest_weight r L (next inner end))))
rest_weight (full n a {l} {w} {t} h p r) L st =
    let i : ℕ = L - length (60 ∷ (n ++ (a ++ 62 ∷ w))) in
    omega (arith, full_long n a w h p, begun st i n l (placed L t) (length w) (rest_weight r L (next st (start i n l))))
rest_weight (close n u {w} {t} h r) L st =
    omega (arith, close_long n u w, ended st (placed L t) (length w) (rest_weight r L (next st end)))

-- A page is at least as long as the least spelling of what it says.
pub page_weight : {w : List ℕ} {t : List Tag} → Page w t → (L : ℕ) → items_weight (items [] (placed L t)) ≤ length w
page_weight (space e r) L = omega (arith, page_weight r L)
page_weight (bare n a {l} {w} {t} h p r) L =
    let i : ℕ = L - length (60 ∷ (n ++ (a ++ 47 ∷ 62 ∷ w))) in
    let inner : Stack = next [] (start i n l) in
    omega (arith, bare_long n a w h p, begun [] i n l (end ∷ placed L t) (length w) (ended inner (placed L t) (length w) (rest_weight r L (next inner end))))
page_weight (full n a {l} {w} {t} h p r) L =
    let i : ℕ = L - length (60 ∷ (n ++ (a ++ 62 ∷ w))) in
    omega (arith, full_long n a w h p, begun [] i n l (placed L t) (length w) (rest_weight r L (next [] (start i n l))))
