-- A page without faults says only good elements, and it says an MP, a P and an A.
use mathlib.Core.Path.{◌≡◌, refl, ap, sym, ◌∙◌}
use mathlib.Core.Bool.{Bool, true, false, ◌&&◌, ◌||◌}
use mathlib.Core.List.{List, [], ◌∷◌, ◌++◌}
use Prim.Native.Nat.{ℕ, zero, suc, ◌+◌, ◌≤◌}
use native.Mathlib.Omega.{arith}
use lib.Dec.{eqb, leb, ltb}
use lib.ListN.{length, length-append, get_or}
use borrow.Author.Tests.{eqb-true, eqb-false, eq-eqb, ne_eqb, leb-false}
use Rattle.paper.specs.Lists.{bytes, if, every, is_empty, some_of}
use Rattle.paper.proofs.Small.{no, both, neither}
use Rattle.paper.specs.Grammar.{Attr, Tag, start, end, Rest, Page, done, space, bare, full, close, placed}
use Rattle.paper.specs.Fields.{Kind, unknown, MP, P, A, M, W, code, is, fields_of, later, kinds}
use Rattle.paper.specs.Plan.{Slots, slot, blank}
use Rattle.paper.specs.Judging.{own, slots_of, Frame, frame, Stack, kind_in, misplaced, how_many, enter, note, here, faults, lacks, Item, item, early, items, part}
use Rattle.paper.specs.Writing.{good_element, none_of}
use Rattle.paper.proofs.Given.{own_good, OwnFine, fault_nil, append_nil_both}
use Rattle.paper.proofs.ByKind.{kind_at_lem}

-- ---- the tags close what they open, and nothing comes after

abbrev pub Bal : List Tag → ℕ → Type 0
Bal [] zero = Unit {0}
Bal [] (suc d) = ⊥
Bal (start i n l ∷ t) zero = ⊥
Bal (start i n l ∷ t) (suc d) = Bal t (suc (suc d))
Bal (end ∷ t) zero = ⊥
Bal (end ∷ t) (suc d) = Bal t d

rest_bal : {ns : List (List ℕ)} {w : List ℕ} {t : List Tag} → Rest ns w t → Bal t (length ns)
rest_bal done = tt
rest_bal (space e r) = rest_bal r
rest_bal (bare n a h p r) = rest_bal r
rest_bal (full n a h p r) = rest_bal r
rest_bal (close n u h r) = rest_bal r

bal_placed : (L : ℕ) (t : List Tag) (d : ℕ) → Bal t d → Bal (placed L t) d
bal_placed L [] zero b = b
bal_placed L [] (suc d) b = b
bal_placed L (start i n l ∷ t) zero b = b
bal_placed L (start i n l ∷ t) (suc d) b = bal_placed L t (suc (suc d)) b
bal_placed L (end ∷ t) zero b = b
bal_placed L (end ∷ t) (suc d) b = bal_placed L t d b

abbrev pub Root : List Tag → Type 0
Root [] = ⊥
Root (start i n l ∷ t) = Bal t 1
Root (end ∷ t) = ⊥

page_root : {w : List ℕ} {t : List Tag} → Page w t → Root t
page_root (space e r) = page_root r
page_root (bare n a h p r) = rest_bal r
page_root (full n a h p r) = rest_bal r

root_placed : (L : ℕ) (t : List Tag) → Root t → Root (placed L t)
root_placed L [] r = r
root_placed L (start i n l ∷ t) r = bal_placed L t 1 r
root_placed L (end ∷ t) r = r

pub page_placed : {w : List ℕ} {t : List Tag} (L : ℕ) → Page w t → Root (placed L t)
page_placed {t = t} L p = root_placed L t (page_root p)

-- ---- kinds

pub is_eq : (j k : Kind) → is j k ≡ true → j ≡ k
is_eq j k e = sym (kind_at_lem j) ∙ ap (λ n. get_or kinds n unknown) (eqb-true (code j) (code k) e) ∙ kind_at_lem k

-- ---- frames and items

abbrev pub nothing : Slots → List Slots → Bool
nothing vs ws = none_of ws && (is_empty (slot (bytes "p") (fields_of M) vs) && is_empty (slot (bytes "a") (fields_of M) vs))

pub record FrameOk (F : Frame) : Type 0 where
  pub good : good_element F.kind F.slots ≡ true
  pub inner : every (good_element W) F.ws ≡ true
  pub counted : how_many W F.seen ≡ length F.ws
  pub three : length F.ws ≤ 3

abbrev pub StackOk : Stack → Type 0
StackOk [] = Unit {0}
StackOk (F ∷ st) = FrameOk F × StackOk st

pub record ItemOk (x : Item) : Type 0 where
  pub good : good_element x.kind x.slots ≡ true
  pub inner : every (good_element W) x.ws ≡ true
  pub three : length x.ws ≤ 3
  pub enough : is x.kind M ≡ true → nothing x.slots x.ws ≡ false

abbrev pub ItemsOk : List Item → Type 0
ItemsOk [] = Unit {0}
ItemsOk (x ∷ xs) = ItemOk x × ItemsOk xs

items_append : (xs ys : List Item) → ItemsOk xs → ItemsOk ys → ItemsOk (xs ++ ys)
items_append [] ys a b = b
items_append (x ∷ xs) ys a b = (a.0, items_append xs ys a.1 b)

pub frame_ok : (k : Kind) (i : ℕ) (vs : Slots) → good_element k vs ≡ true → FrameOk (frame k i vs)
frame_ok k i vs g = record { good = g; inner = refl; counted = refl; three = omega arith }

every_snoc : (ws : List Slots) (w : Slots) → every (good_element W) ws ≡ true → good_element W w ≡ true → every (good_element W) (ws ++ w ∷ []) ≡ true
every_snoc [] w a b = rw b
every_snoc (v ∷ ws) w a b = let (x, y) = both (good_element W v) (every (good_element W) ws) a in rw (x, every_snoc ws w y b)

note_ok : (F : Frame) (st : Stack) (k : Kind) (vs : Slots) → FrameOk F → good_element k vs ≡ true → misplaced (F ∷ st) k ≡ false → FrameOk (note F k vs)
note_ok F st k vs f g m = at (is k W) refl
  where
    at : (b : Bool) → is k W ≡ b → FrameOk (note F k vs)
    at true e =
        let q : k ≡ W = is_eq k W e in
        let room : misplaced (F ∷ st) W ≡ false = ap (misplaced (F ∷ st)) (sym q) ∙ m in
        let (a, b) = neither (some_of (later W) F.seen) (ltb 0 3 && leb 3 (how_many W F.seen)) room in
        let few = leb-false 3 (how_many W F.seen) b in
        record {
          good = f.good;
          inner = rw e (every_snoc F.ws vs f.inner (ap (λ (j : Kind). good_element j vs) (sym q) ∙ g));
          counted = rw (e, length-append F.ws (vs ∷ [])) (omega (arith, f.counted));
          three = rw (e, length-append F.ws (vs ∷ [])) (omega (arith, f.counted, few));
        }
    at false e = record { good = f.good; inner = rw e f.inner; counted = rw e f.counted; three = rw e f.three }

early_not_m : (k : Kind) → early k ≡ true → is k M ≡ true → ⊥
early_not_m k a b = no (let q : k ≡ M = is_eq k M b in sym a ∙ ap early q)

-- a start without faults
pub record Started (st : Stack) (i : ℕ) (n : List ℕ) (l : List Attr) : Type 0 where
  pub fine : OwnFine (kind_in st n) (slots_of (fields_of (kind_in st n)) l)
  pub known : is (kind_in st n) unknown ≡ false
  pub right : misplaced st (kind_in st n) ≡ false

pub started : (st : Stack) (i : ℕ) (n : List ℕ) (l : List Attr) → here st (start i n l) ≡ [] → Started st i n l
started st i n l e =
    let k : Kind = kind_in st n in
    let (a, b) = fault_nil (is k unknown || misplaced st k) 5 i (own k i l) e in
    let (c, d) = neither (is k unknown) (misplaced st k) a in
    record { fine = own_good k i l b; known = c; right = d }

enter_ok : (st : Stack) (k : Kind) (i : ℕ) (vs : Slots) → StackOk st → good_element k vs ≡ true → misplaced st k ≡ false → StackOk (enter st k i vs)
enter_ok [] k i vs s g m = (frame_ok k i vs g, tt)
enter_ok (F ∷ st) k i vs s g m = (frame_ok k i vs g, (note_ok F st k vs s.0 g m, s.1))

early_items : (k : Kind) (vs : Slots) → good_element k vs ≡ true → ItemsOk (if (early k) (item k vs [] ∷ []) [])
early_items k vs g = at (early k) refl
  where
    at : (b : Bool) → early k ≡ b → ItemsOk (if b (item k vs [] ∷ []) [])
    at true e = (record { good = g; inner = refl; three = omega arith; enough = λ q. absurd (early_not_m k e q) }, tt)
    at false e = tt

none_count : (ws : List Slots) (n : ℕ) → n ≡ length ws → none_of ws ≡ eqb n 0
none_count [] n e = sym (eq-eqb n 0 e)
none_count (w ∷ ws) n e = sym (ne_eqb n 0 (omega arith))

end_items_lem : (F : Frame) → FrameOk F → lacks F.kind F.seen F.slots ≡ false → ItemsOk (if (is F.kind M) (item M F.slots F.ws ∷ []) [])
end_items_lem F f e = at (is F.kind M) refl
  where
    at : (b : Bool) → is F.kind M ≡ b → ItemsOk (if b (item M F.slots F.ws ∷ []) [])
    at true q =
        let m : F.kind ≡ M = is_eq F.kind M q in
        let l : lacks M F.seen F.slots ≡ false = ap (λ (k : Kind). lacks k F.seen F.slots) (sym m) ∙ e in (
          record {
            good = ap (λ (k : Kind). good_element k F.slots) (sym m) ∙ f.good;
            inner = f.inner;
            three = f.three;
            enough = λ z. ap (λ (b : Bool). b && (is_empty (slot (bytes "p") (fields_of M) F.slots) && is_empty (slot (bytes "a") (fields_of M) F.slots))) (none_count F.ws (how_many W F.seen) f.counted) ∙ l;
          },
          tt,
        )
    at false q = tt

pub items_ok : (t : List Tag) (st : Stack) → StackOk st → faults st t ≡ [] → ItemsOk (items st t)
items_ok [] st s e = tt
items_ok (start i n l ∷ t) st s e =
    let k : Kind = kind_in st n in
    let vs : Slots = slots_of (fields_of k) l in
    let (a, b) = append_nil_both (here st (start i n l)) (faults (enter st k i vs) t) e in
    let S = started st i n l a in
    items_append (if (early k) (item k vs [] ∷ []) []) (items (enter st k i vs) t) (early_items k vs S.fine.good)
    (items_ok t (enter st k i vs) (enter_ok st k i vs s S.fine.good S.right) b)
items_ok (end ∷ t) [] s e = items_ok t [] s e
items_ok (end ∷ t) (F ∷ st) s e =
    let (a, b) = fault_nil (lacks F.kind F.seen F.slots) 8 F.at (faults st t) e in
    items_append (if (is F.kind M) (item M F.slots F.ws ∷ []) []) (items st t) (end_items_lem F s.0 a) (items_ok t st s.1 b)

-- ---- an MP without faults has said P and A

abbrev bottom_seen : Kind → Stack → ℕ
bottom_seen k [] = 0
bottom_seen k (F ∷ []) = how_many k F.seen
bottom_seen k (F ∷ G ∷ st) = bottom_seen k (G ∷ st)

abbrev Bottom : Stack → Type 0
Bottom [] = ⊥
Bottom (F ∷ []) = F.kind ≡ MP
Bottom (F ∷ G ∷ st) = Bottom (G ∷ st)

abbrev told : Kind → List Item → ℕ
told k [] = 0
told k (x ∷ xs) = if (is x.kind k) (suc (told k xs)) (told k xs)

told_append : (k : Kind) (xs ys : List Item) → told k (xs ++ ys) ≡ told k xs + told k ys
told_append k [] ys = omega arith
told_append k (x ∷ xs) ys = at (is x.kind k) (told_append k xs ys)
  where
    at : (b : Bool) → told k (xs ++ ys) ≡ told k xs + told k ys → if b (suc (told k (xs ++ ys))) (told k (xs ++ ys)) ≡ if b (suc (told k xs)) (told k xs) + told k ys
    at true ih = omega (arith, ih)
    at false ih = ih

module _ (k : Kind) (e : early k ≡ true) (must : (js : List Kind) (vs : Slots) → lacks MP js vs ≡ false → 1 ≤ how_many k js) where
  told_start : (j : Kind) (vs : Slots) → is j k ≡ true → told k (if (early j) (item j vs [] ∷ []) []) ≡ 1
  told_start j vs q = let r : j ≡ k = is_eq j k q in let a : early j ≡ true = ap early r ∙ e in rw (a, q)

  claim : (t : List Tag) (st : Stack) → Bal t (length st) → Bottom st → faults st t ≡ [] → 1 ≤ bottom_seen k st + told k (items st t)
  claim [] [] b o f = absurd o
  claim [] (F ∷ st) b o f = absurd b
  claim (start i n l ∷ t) [] b o f = absurd o
  claim (start i n l ∷ t) (F ∷ []) b o f =
      let j : Kind = kind_in (F ∷ []) n in
      let vs : Slots = slots_of (fields_of j) l in
      let (x, y) = append_nil_both (here (F ∷ []) (start i n l)) (faults (enter (F ∷ []) j i vs) t) f in
      let ih = claim t (enter (F ∷ []) j i vs) b o y in
      at (is j k) j vs (items (enter (F ∷ []) j i vs) t) refl ih
    where
      at : (d : Bool) (j : Kind) (vs : Slots) (ys : List Item) → is j k ≡ d → 1 ≤ (if d (suc (how_many k F.seen)) (how_many k F.seen)) + told k ys → 1 ≤ how_many k F.seen + told k ((if (early j) (item j vs [] ∷ []) []) ++ ys)
      at true j vs ys q ih = omega (arith, told_append k (if (early j) (item j vs [] ∷ []) []) ys, told_start j vs q)
      at false j vs ys q ih = omega (arith, told_append k (if (early j) (item j vs [] ∷ []) []) ys, ih)
  claim (start i n l ∷ t) (F ∷ G ∷ st) b o f =
      let j : Kind = kind_in (F ∷ G ∷ st) n in
      let vs : Slots = slots_of (fields_of j) l in
      let (x, y) = append_nil_both (here (F ∷ G ∷ st) (start i n l)) (faults (enter (F ∷ G ∷ st) j i vs) t) f in
      let ih = claim t (enter (F ∷ G ∷ st) j i vs) b o y in
      omega (arith, told_append k (if (early j) (item j vs [] ∷ []) []) (items (enter (F ∷ G ∷ st) j i vs) t), ih)
  claim (end ∷ t) [] b o f = absurd o
  claim (end ∷ t) (F ∷ []) b o f =
      let (x, y) = fault_nil (lacks F.kind F.seen F.slots) 8 F.at (faults [] t) f in
      let z = must F.seen F.slots (ap (λ (m : Kind). lacks m F.seen F.slots) (sym o) ∙ x) in
      omega arith
  claim (end ∷ t) (F ∷ G ∷ st) b o f =
      let (x, y) = fault_nil (lacks F.kind F.seen F.slots) 8 F.at (faults (G ∷ st) t) f in
      let ih = claim t (G ∷ st) b o y in
      omega (arith, told_append k (if (is F.kind M) (item M F.slots F.ws ∷ []) []) (items (G ∷ st) t), ih)

found_one : (k : Kind) (xs : List Item) → ItemsOk xs → 1 ≤ told k xs → good_element k (part k xs) ≡ true
found_one k [] s h = absurd (omega arith)
found_one k (x ∷ xs) s h = at (is x.kind k) refl h (found_one k xs s.1)
  where
    at : (b : Bool) → is x.kind k ≡ b → 1 ≤ if b (suc (told k xs)) (told k xs) → (1 ≤ told k xs → good_element k (part k xs) ≡ true) → good_element k (if b x.slots (part k xs)) ≡ true
    at true q h ih = ap (λ (j : Kind). good_element j x.slots) (sym (is_eq x.kind k q)) ∙ s.0.good
    at false q h ih = ih h

pub found_any : (k : Kind) (xs : List Item) → ItemsOk xs → good_element k (blank (fields_of k)) ≡ true → good_element k (part k xs) ≡ true
found_any k [] s g = g
found_any k (x ∷ xs) s g = at (is x.kind k) refl (found_any k xs s.1 g)
  where
    at : (b : Bool) → is x.kind k ≡ b → good_element k (part k xs) ≡ true → good_element k (if b x.slots (part k xs)) ≡ true
    at true q ih = ap (λ (j : Kind). good_element j x.slots) (sym (is_eq x.kind k q)) ∙ s.0.good
    at false q ih = ih

must_p : (js : List Kind) (vs : Slots) → lacks MP js vs ≡ false → 1 ≤ how_many P js
must_p js vs e = let (a, b) = neither (eqb (how_many P js) 0 || eqb (how_many A js) 0) false e in let ne = eqb-false (how_many P js) 0 (neither (eqb (how_many P js) 0) (eqb (how_many A js) 0) a).0 in omega arith

must_a : (js : List Kind) (vs : Slots) → lacks MP js vs ≡ false → 1 ≤ how_many A js
must_a js vs e = let (a, b) = neither (eqb (how_many P js) 0 || eqb (how_many A js) 0) false e in let ne = eqb-false (how_many A js) 0 (neither (eqb (how_many P js) 0) (eqb (how_many A js) 0) a).1 in omega arith

-- under an MP frame with nothing seen yet: P and A come, and are good
pub both_there : (t : List Tag) (i : ℕ) (mp : Slots) → good_element MP mp ≡ true → Bal t 1 → faults (frame MP i mp ∷ []) t ≡ []
    → (good_element P (part P (items (frame MP i mp ∷ []) t)) ≡ true) × (good_element A (part A (items (frame MP i mp ∷ []) t)) ≡ true)
both_there t i mp g b f =
    let s = items_ok t (frame MP i mp ∷ []) (frame_ok MP i mp g, tt) f in (
      found_one P (items (frame MP i mp ∷ []) t) s (omega (arith, claim P refl must_p t (frame MP i mp ∷ []) b refl f)),
      found_one A (items (frame MP i mp ∷ []) t) s (omega (arith, claim A refl must_a t (frame MP i mp ∷ []) b refl f)),
    )
