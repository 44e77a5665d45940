-- FoldContent: what a page without faults says is told by the names of its start tags alone, since the nine names are distinct: the head by
-- the first element of each kind, the rows one after another, an M with the W that follow it.
-- Assumes nothing.
use mathlib.Core.Path.{◌≡◌, refl, ap, sym, ◌∙◌}
use mathlib.Core.Logic.{◌↔◌, ◌≢◌}
use mathlib.Core.Bool.{Bool, true, false}
use mathlib.Core.Option.{Option, some}
use mathlib.Core.List.{List, [], ◌∷◌, ◌++◌, append_assoc, append-nil}
use Prim.Native.Nat.{ℕ, suc, ◌≤◌}
use native.Mathlib.Omega.{arith}
use lib.Dec.{eqb}
use lib.ListN.{length}
use borrow.Author.Tests.{eqb-true, eqb-false, eq-eqb, ne_eqb}
use Rattle.paper.specs.Lists.{if, every}
use Rattle.paper.specs.Bytes.{is_allowed}
use Rattle.paper.specs.Grammar.{Attr, Tag, start, end, Page, placed}
use Rattle.paper.specs.Fields.{Kind, unknown, MP, P, A, O, S, M, W, R, X, is, tag_name, fields_of, named, children}
use Rattle.paper.specs.Plan.{Slots, Row}
use Rattle.paper.specs.Judging.{Fault, slots_of, Frame, frame, Stack, kind_in, note, next, lacks, here, faults, Item, item, early, items, part, row_of, rows_of, Sheet, sheet_of, refused, sheet, judge}
use Rattle.paper.proofs.Small.{no}
use Rattle.paper.proofs.Given.{fault_nil, append_nil_both}
use Rattle.paper.proofs.Told.{Bal, Root, page_placed, is_eq, started}
use Rattle.paper.proofs.ReadSound.{root_mp}
use Rattle.paper.proofs.ByKind.{each}
use Rattle.sheet.specs.Fold.{given, fold_page, answer}
use Rattle.sheet.specs.Content.{kind_named, attrs_of_first, slots_from, part_from, ws_from, rows_from, head_from, content_of}
use Rattle.sheet.proofs.Nesting.{Kid, as_p, as_a, as_o, as_s, as_m, as_r, as_x, as_w, box, Shape, top, in_it, shape_enter, shape_leave, alone, kid_of, known_name, root_shape}
use Rattle.sheet.proofs.FoldJudge.{after_last, fold_judge, fold_spotless}

-- ---- names

own_name : (k : Kind) → kind_named (tag_name k) ≡ k
unfolding kind_named
own_name k = is_eq (kind_named (tag_name k)) k (each (λ k. is (kind_named (tag_name k)) k) refl k)

-- a name that is known in its place has that kind wherever it stands
pub kind_named_lem : (n : List ℕ) (ks : List Kind) → is (named n ks) unknown ≡ false → kind_named n ≡ named n ks
kind_named_lem n ks e = ap kind_named (known_name n ks e) ∙ own_name (named n ks)

-- on a page without faults the name alone says the kind
pub kind_in_lem : (st : Stack) (i : ℕ) (n : List ℕ) (l : List Attr) → here st (start i n l) ≡ [] → kind_named n ≡ kind_in st n
kind_in_lem [] i n l e = kind_named_lem n (MP ∷ []) (started [] i n l e).known
kind_in_lem (F ∷ st) i n l e = kind_named_lem n (children F.kind) (started (F ∷ st) i n l e).known

-- ---- the first element of a kind

module _ (q : Kind) (e : early q ≡ true) (o : is M q ≡ false) where
  part_start : (k : Kind) (l : List Attr) (xs : List Item) (t : Option (List Attr)) → part q xs ≡ slots_from q t
      → part q ((if (early k) (item k (slots_of (fields_of k) l) [] ∷ []) []) ++ xs) ≡ slots_from q (if (is k q) (some l) t)
  part_start k l xs t ih = at (is k q) refl (early k) refl
    where
      at : (b : Bool) → is k q ≡ b → (c : Bool) → early k ≡ c → part q ((if c (item k (slots_of (fields_of k) l) [] ∷ []) []) ++ xs) ≡ slots_from q (if b (some l) t)
      at true g true h = rw (g, is_eq k q g)
      at true g false h = no (sym e ∙ ap early (sym (is_eq k q g)) ∙ h)
      at false g true h = rw g ih
      at false g false h = ih

  -- the slots of the first element of the kind
  pub part_is : (ts : List Tag) (st : Stack) → faults st ts ≡ [] → part q (items st ts) ≡ part_from q ts
  unfolding part_from attrs_of_first
  part_is [] st f = refl
  part_is (start i n l ∷ ts) st f =
      let (x, y) = append_nil_both (here st (start i n l)) (faults (next st (start i n l)) ts) f in
      rw (kind_in_lem st i n l x) (part_start (kind_in st n) l (items (next st (start i n l)) ts) (attrs_of_first q ts) (part_is ts (next st (start i n l)) y))
  part_is (end ∷ ts) [] f = part_is ts [] f
  part_is (end ∷ ts) (F ∷ st) f =
      let (x, y) = fault_nil (lacks F.kind F.seen F.slots) 8 F.at (faults st ts) f in
      at (is F.kind M) (part_is ts st y)
    where
      at : (b : Bool) → part q (items st ts) ≡ slots_from q (attrs_of_first q ts) → part q ((if b (item M F.slots F.ws ∷ []) []) ++ items st ts) ≡ slots_from q (attrs_of_first q ts)
      at true ih = rw o ih
      at false ih = ih

-- ---- no W stands outside an M

-- no M is open
abbrev Calm : Stack → Type 0
Calm [] = Unit {0}
Calm (F ∷ st) = (is F.kind M ≡ false) × Calm st

not_w : (K k : Kind) → Kid K k → is K M ≡ false → is k W ≡ false
not_w X k x11 e = elim x11 [ ]
not_w R k x10 e = elim x10 [ ]
not_w W k x9 e = elim x9 [ ]
not_w M X x18 e = elim x18 [ ]
not_w M R x17 e = elim x17 [ ]
not_w M M x16 e = elim x16 [ ]
not_w M S x15 e = elim x15 [ ]
not_w M O x14 e = elim x14 [ ]
not_w M A x13 e = elim x13 [ ]
not_w M P x12 e = elim x12 [ ]
not_w M MP x11 e = elim x11 [ ]
not_w M unknown x10 e = elim x10 [ ]
not_w S W x15 e = elim x15 [ ]
not_w S S x14 e = elim x14 [ ]
not_w S O x13 e = elim x13 [ ]
not_w S A x12 e = elim x12 [ ]
not_w S P x11 e = elim x11 [ ]
not_w S MP x10 e = elim x10 [ ]
not_w S unknown x9 e = elim x9 [ ]
not_w O k x6 e = elim x6 [ ]
not_w A k x5 e = elim x5 [ ]
not_w P k x4 e = elim x4 [ ]
not_w MP X x10 e = elim x10 [ ]
not_w MP R x9 e = elim x9 [ ]
not_w MP W x8 e = elim x8 [ ]
not_w MP M x7 e = elim x7 [ ]
not_w MP MP x6 e = elim x6 [ ]
not_w MP unknown x5 e = elim x5 [ ]
not_w unknown k x'' e = elim x'' [ ]
not_w MP P as_p e = refl
not_w MP A as_a e = refl
not_w MP O as_o e = refl
not_w MP S as_s e = refl
not_w S M as_m e = refl
not_w S R as_r e = refl
not_w S X as_x e = refl
not_w M W as_w e = no e

no_ws : (ts : List Tag) (st : Stack) → Bal ts (length st) → Calm st → faults st ts ≡ [] → ws_from ts ≡ []
unfolding ws_from
no_ws [] st b c f = refl
no_ws (start i n l ∷ ts) [] b c f = absurd b
no_ws (start i n l ∷ ts) (F ∷ st) b c f =
    let (x, y) = append_nil_both (here (F ∷ st) (start i n l)) (faults (next (F ∷ st) (start i n l)) ts) f in
    let h = not_w F.kind (kind_in (F ∷ st) n) (kid_of F.kind n (started (F ∷ st) i n l x).known) c.0 in
    rw (kind_in_lem (F ∷ st) i n l x, h)
no_ws (end ∷ ts) [] b c f = absurd b
no_ws (end ∷ ts) (F ∷ st) b c f = no_ws ts st b c.1 (fault_nil (lacks F.kind F.seen F.slots) 8 F.at (faults st ts) f).1

calm_mp : (i : ℕ) (js : List Kind) (vs : Slots) (us : List Slots) (st : Stack) → Shape (box MP i js vs us ∷ st) → Calm st
calm_mp i js vs us st sh = rw (alone i js vs us st sh) tt

calm_s : (i : ℕ) (js : List Kind) (vs : Slots) (us : List Slots) (st : Stack) → Shape (box S i js vs us ∷ st) → Calm st
calm_s i js vs us [] x' = elim x' [ ]
calm_s i js vs us (G ∷ st) (in_it as_s sh) = (refl, calm_mp G.at G.seen G.slots G.ws st sh)

-- ---- the rows

-- the row of an open M, if those W still follow
abbrev row_m : Frame → List Slots → List Row
row_m F vs = row_of (item M F.slots (F.ws ++ vs))

-- the same for the M around a W
abbrev around : Stack → List Slots → List Row
around [] vs = []
around (F ∷ st) vs = row_m F vs

-- the row that is still to come of the open M, if the innermost element is one or a W
abbrev pend : Kind → Frame → Stack → List Slots → List Row
pend unknown F st vs = []
pend MP F st vs = []
pend P F st vs = []
pend A F st vs = []
pend O F st vs = []
pend S F st vs = []
pend M F st vs = row_m F vs
pend W F st vs = around st vs
pend R F st vs = []
pend X F st vs = []

row_start : (K k : Kind) (i j : ℕ) (js : List Kind) (us : Slots) (xs : List Slots) (st : Stack) (l : List Attr) (ys : List Item) (rs : List Row) (zs : List Slots) → Kid K k
    → rows_of ys ≡ pend k (frame k i (slots_of (fields_of k) l)) (note (box K j js us xs) k (slots_of (fields_of k) l) ∷ st) zs ++ rs
    → rows_of ((if (early k) (item k (slots_of (fields_of k) l) [] ∷ []) []) ++ ys)
    ≡ pend K (box K j js us xs) st (if (is k W) (slots_of (fields_of W) l ∷ zs) []) ++ (row_of (item k (slots_of (fields_of k) l) zs) ++ rs)
row_start X k i j js us xs st l ys rs zs x11 h = elim x11 [ ]
row_start R k i j js us xs st l ys rs zs x10 h = elim x10 [ ]
row_start W k i j js us xs st l ys rs zs x9 h = elim x9 [ ]
row_start M X i j js us xs st l ys rs zs x18 h = elim x18 [ ]
row_start M R i j js us xs st l ys rs zs x17 h = elim x17 [ ]
row_start M M i j js us xs st l ys rs zs x16 h = elim x16 [ ]
row_start M S i j js us xs st l ys rs zs x15 h = elim x15 [ ]
row_start M O i j js us xs st l ys rs zs x14 h = elim x14 [ ]
row_start M A i j js us xs st l ys rs zs x13 h = elim x13 [ ]
row_start M P i j js us xs st l ys rs zs x12 h = elim x12 [ ]
row_start M MP i j js us xs st l ys rs zs x11 h = elim x11 [ ]
row_start M unknown i j js us xs st l ys rs zs x10 h = elim x10 [ ]
row_start S W i j js us xs st l ys rs zs x15 h = elim x15 [ ]
row_start S S i j js us xs st l ys rs zs x14 h = elim x14 [ ]
row_start S O i j js us xs st l ys rs zs x13 h = elim x13 [ ]
row_start S A i j js us xs st l ys rs zs x12 h = elim x12 [ ]
row_start S P i j js us xs st l ys rs zs x11 h = elim x11 [ ]
row_start S MP i j js us xs st l ys rs zs x10 h = elim x10 [ ]
row_start S unknown i j js us xs st l ys rs zs x9 h = elim x9 [ ]
row_start O k i j js us xs st l ys rs zs x6 h = elim x6 [ ]
row_start A k i j js us xs st l ys rs zs x5 h = elim x5 [ ]
row_start P k i j js us xs st l ys rs zs x4 h = elim x4 [ ]
row_start MP X i j js us xs st l ys rs zs x10 h = elim x10 [ ]
row_start MP R i j js us xs st l ys rs zs x9 h = elim x9 [ ]
row_start MP W i j js us xs st l ys rs zs x8 h = elim x8 [ ]
row_start MP M i j js us xs st l ys rs zs x7 h = elim x7 [ ]
row_start MP MP i j js us xs st l ys rs zs x6 h = elim x6 [ ]
row_start MP unknown i j js us xs st l ys rs zs x5 h = elim x5 [ ]
row_start unknown k i j js us xs st l ys rs zs x'' h = elim x'' [ ]
row_start MP P i j js us xs st l ys rs zs as_p h = h
row_start MP A i j js us xs st l ys rs zs as_a h = h
row_start MP O i j js us xs st l ys rs zs as_o h = h
row_start MP S i j js us xs st l ys rs zs as_s h = ap (λ (r : List Row). row_of (item S (slots_of (fields_of S) l) []) ++ r) h
row_start S M i j js us xs st l ys rs zs as_m h = h
row_start S R i j js us xs st l ys rs zs as_r h = ap (λ (r : List Row). row_of (item R (slots_of (fields_of R) l) []) ++ r) h
row_start S X i j js us xs st l ys rs zs as_x h = ap (λ (r : List Row). row_of (item X (slots_of (fields_of X) l) []) ++ r) h
row_start M W i j js us xs st l ys rs zs as_w h = h ∙ ap (λ (r : List Slots). row_of (item M us r) ++ rs) (append_assoc xs (slots_of (fields_of W) l ∷ []) zs)

row_end : (F G : Frame) (st : Stack) (its : List Item) (rs : List Row) (zs : List Slots) → Shape (F ∷ G ∷ st) → (is G.kind S ≡ true → zs ≡ [])
    → rows_of its ≡ pend G.kind G st zs ++ rs
    → rows_of ((if (is F.kind M) (item M F.slots F.ws ∷ []) []) ++ its) ≡ pend F.kind F (G ∷ st) zs ++ rs
row_end F G st its rs zs (in_it as_p sh) z h = h
row_end F G st its rs zs (in_it as_a sh) z h = h
row_end F G st its rs zs (in_it as_o sh) z h = h
row_end F G st its rs zs (in_it as_s sh) z h = h
row_end F G st its rs zs (in_it as_r sh) z h = h
row_end F G st its rs zs (in_it as_x sh) z h = h
row_end F G st its rs zs (in_it as_w sh) z h = h
row_end F G st its rs zs (in_it as_m sh) z h = rw (z refl, append-nil F.ws, h)

section_calm : (G : Frame) (st : Stack) → Shape (G ∷ st) → is G.kind S ≡ true → Calm (G ∷ st)
section_calm G st sh e =
    let q = is_eq G.kind S e in
    (ap (λ (K : Kind). is K M) q, calm_s G.at G.seen G.slots G.ws st (rw q at sh))

rows_rest : (ts : List Tag) (F : Frame) (st : Stack) → Shape (F ∷ st) → Bal ts (suc (length st)) → faults (F ∷ st) ts ≡ []
    → rows_of (items (F ∷ st) ts) ≡ pend F.kind F st (ws_from ts) ++ rows_from ts
unfolding rows_from ws_from
rows_rest [] F st sh b f = absurd b
rows_rest (end ∷ ts) F [] top b f = rw (after_last ts b)
rows_rest (end ∷ ts) F (G ∷ st) sh b f =
    let (x, y) = fault_nil (lacks F.kind F.seen F.slots) 8 F.at (faults (G ∷ st) ts) f in
    let below = shape_leave F G st sh in
    row_end F G st (items (G ∷ st) ts) (rows_from ts) (ws_from ts) sh (λ e. no_ws ts (G ∷ st) b (section_calm G st below e) y) (rows_rest ts G st below b y)
rows_rest (start i n l ∷ ts) F st sh b f =
    let k : Kind = kind_in (F ∷ st) n in
    let vs : Slots = slots_of (fields_of k) l in
    let (x, y) = append_nil_both (here (F ∷ st) (start i n l)) (faults (next (F ∷ st) (start i n l)) ts) f in
    let c = kid_of F.kind n (started (F ∷ st) i n l x).known in
    rw (kind_in_lem (F ∷ st) i n l x)
    (row_start F.kind k i F.at F.seen F.slots F.ws st l (items (next (F ∷ st) (start i n l)) ts) (rows_from ts) (ws_from ts) c
    (rows_rest ts (frame k i vs) (note F k vs ∷ st) (shape_enter F st k i vs c sh) b y))

-- the rows of a page without faults
pub rows_is : (ts : List Tag) → Root ts → faults [] ts ≡ [] → rows_of (items [] ts) ≡ rows_from ts
unfolding rows_from
rows_is [] r f = absurd r
rows_is (end ∷ ts) r f = absurd r
rows_is (start i n l ∷ ts) r f =
    let k : Kind = kind_in [] n in
    let vs : Slots = slots_of (fields_of k) l in
    let (x, y) = append_nil_both (here [] (start i n l)) (faults (next [] (start i n l)) ts) f in
    let q : is k MP ≡ true = root_mp n (started [] i n l x).known in
    rw (kind_in_lem [] i n l x) (at k (is_eq k MP q) vs (items (frame k i vs ∷ []) ts) (rows_rest ts (frame k i vs) [] (root_shape k i vs q) r y))
  where
    at : (k : Kind) → k ≡ MP → (vs : Slots) (xs : List Item) → rows_of xs ≡ pend k (frame k i vs) [] (ws_from ts) ++ rows_from ts
        → rows_of ((if (early k) (item k vs [] ∷ []) []) ++ xs) ≡ row_of (item k vs (ws_from ts)) ++ rows_from ts
    at k e vs xs h = rw e (rw e at h)

-- what a page without faults says
pub content_is : (ts : List Tag) → Root ts → faults [] ts ≡ [] → sheet_of (items [] ts) ≡ content_of ts
unfolding content_of head_from
content_is ts r f =
    rw (part_is MP refl refl ts [] f, part_is P refl refl ts [] f, part_is A refl refl ts [] f, part_is O refl refl ts [] f, rows_is ts r f)

-- ---- the answer for a page

-- a page of 1 to 1,400 allowed bytes that is well-formed is answered by the pass alone: its least fault, or what its start tags say
pub fold_answer : (w : List ℕ) (t : List Tag) → 1 ≤ length w → length w ≤ 1400 → every is_allowed w ≡ true → Page w t
    → judge w ≡ answer (fold_page (placed (length w) t)) (content_of (placed (length w) t))
fold_answer w t g h c d =
    let ts : List Tag = placed (length w) t in
    fold_judge w t g h c d ∙ at (eqb (fold_page ts).no 9) refl
  where
    at : (b : Bool) → eqb (fold_page (placed (length w) t)).no 9 ≡ b
        → answer (fold_page (placed (length w) t)) (sheet_of (items [] (placed (length w) t))) ≡ answer (fold_page (placed (length w) t)) (content_of (placed (length w) t))
    at true e = ap (answer (fold_page (placed (length w) t))) (content_is (placed (length w) t) (page_placed (length w) d) ((fold_spotless w t d).0 (eqb-true (fold_page (placed (length w) t)).no 9 e)))
    at false e = rw e

answer_refused : (f : Fault) (s : Sheet) (n i : ℕ) → (answer f s ≡ refused n i) ↔ ((f ≡ given n i) × (n ≢ 9))
answer_refused f s n i = (there (eqb f.no 9) refl, back)
  where
    there : (b : Bool) → eqb f.no 9 ≡ b → if b (sheet s) (refused f.no f.place) ≡ refused n i → (f ≡ given n i) × (n ≢ 9)
    there true q e = let y : ◌≡◌ {A = ℕ} 0 1 = cc in absurd (omega arith)
    there false q e =
        let x : f.no ≡ n = cc in
        let y : f.place ≡ i = cc in
        (rw (sym x, sym y), let h = eqb-false f.no 9 q in omega arith)

    back : (f ≡ given n i) × (n ≢ 9) → answer f s ≡ refused n i
    back (e, h) = rw (e, ne_eqb n 9 h)

answer_sheet : (f : Fault) (s : Sheet) → (answer f s ≡ sheet s) ↔ (f.no ≡ 9)
answer_sheet f s = (there (eqb f.no 9) refl, λ e. rw (eq-eqb f.no 9 e))
  where
    there : (b : Bool) → eqb f.no 9 ≡ b → if b (sheet s) (refused f.no f.place) ≡ sheet s → f.no ≡ 9
    there true q e = eqb-true f.no 9 q
    there false q e = let y : ◌≡◌ {A = ℕ} 0 1 = cc in absurd (omega arith)

-- such a page is refused with a number and a place exactly if the pass says these
pub fold_refused : (w : List ℕ) (t : List Tag) (n i : ℕ) → 1 ≤ length w → length w ≤ 1400 → every is_allowed w ≡ true → Page w t
    → (judge w ≡ refused n i) ↔ ((fold_page (placed (length w) t) ≡ given n i) × (n ≢ 9))
fold_refused w t n i g h c d = rw (fold_answer w t g h c d) (answer_refused (fold_page (placed (length w) t)) (content_of (placed (length w) t)) n i)

-- and read with its content exactly if the pass says none
pub fold_sheet : (w : List ℕ) (t : List Tag) → 1 ≤ length w → length w ≤ 1400 → every is_allowed w ≡ true → Page w t
    → (judge w ≡ sheet (content_of (placed (length w) t))) ↔ ((fold_page (placed (length w) t)).no ≡ 9)
fold_sheet w t g h c d = rw (fold_answer w t g h c d) (answer_sheet (fold_page (placed (length w) t)) (content_of (placed (length w) t)))
