-- RoomLaws: a page that is judged to a sheet takes at most `tape_room` numbers and at most `side_room` bytes of values: its bytes pay for its elements, and
-- an element that is open owes one byte of its end tag.
-- Assumes nothing.
use mathlib.Core.Path.{◌≡◌, refl, ap}
use mathlib.Core.Bool.{false}
use mathlib.Core.List.{List, [], ◌∷◌, ◌++◌}
use Prim.Native.Nat.{ℕ, ◌+◌, ◌*◌, ◌-◌, ◌≤◌}
use native.Mathlib.Omega.{arith}
use lib.ListN.{length, length-append}
use Rattle.paper.specs.Lists.{concat}
use Rattle.paper.specs.Grammar.{Attr, Tag, start, end, Attrs, Name, Rest, Page, done, space, bare, full, close, placed}
use Rattle.paper.specs.Fields.{Field, fields_of}
use Rattle.paper.specs.Rules.{settle}
use Rattle.paper.specs.Judging.{found, slots_of, Sheet, sheet, judge}
use Rattle.paper.proofs.Element.{distinct}
use Rattle.paper.proofs.Exact.{exact}
use Rattle.paper.proofs.ReadSound.{judges}
use Rattle.paper.proofs.Weights.{slot_weight, slots_weight, attrs_size, tag_weight, attrs_long, name_long}
use Rattle.markup.specs.Walk.{tags_at}
use Rattle.markup.proofs.Walked.{walked}
use Rattle.sheet.specs.Fold.{St, outside, opened, closed, judge_fold, fold_page}
use Rattle.sheet.specs.Content.{kind_named}
use Rattle.sheet.proofs.FoldJudge.{fold_spotless}
use Rattle.tape.specs.Tape.{Elem, header, starts_of, elems_of, sheet_by, Lies, Makes}
use Rattle.tape.specs.Rooms.{tape_room, side_room, width, values_length}
use Rattle.tape.proofs.CleanLaws.{begins, ends_clean}
use Rattle.tape.proofs.PayLaws.{owed, lent, Tidy, tidy_opened, tidy_closed, start_step, end_step}

-- ---- the bytes of a tag

bare_size : (n a w : List ℕ) {l : List Attr} → Name n → Attrs false a l → 3 + attrs_size l + (1 + length w) ≤ length (60 ∷ (n ++ (a ++ 47 ∷ 62 ∷ w)))
bare_size n a w h p = omega (arith, name_long n h, attrs_long p, length-append n (a ++ 47 ∷ 62 ∷ w), length-append a (47 ∷ 62 ∷ w))

full_size : (n a w : List ℕ) {l : List Attr} → Name n → Attrs false a l → 3 + attrs_size l + length w ≤ length (60 ∷ (n ++ (a ++ 62 ∷ w)))
full_size n a w h p = omega (arith, name_long n h, attrs_long p, length-append n (a ++ 62 ∷ w), length-append a (62 ∷ w))

close_size : (n u w : List ℕ) → 3 + length w ≤ length (60 ∷ 47 ∷ (n ++ (u ++ 62 ∷ w)))
close_size n u w = omega (arith, length-append n (u ++ 62 ∷ w), length-append u (62 ∷ w))

-- ---- numbers

waits_not : (s : St) → (closed s).waits ≡ false
unfolding closed
waits_not s = refl

nothing : width (starts_of []) ≡ 0
unfolding width starts_of
nothing = refl

-- the bytes of an element that is bare, and what is left behind it
bare_room : (i : ℕ) (s : St) (n a w : List ℕ) {l : List Attr} (ts : List Tag) (o : ℕ) → Name n → Attrs false a l → Tidy s → (judge_fold s (start i n l ∷ end ∷ ts)).no ≡ 9
    → (10 * width (starts_of ts) + owed (closed (opened s (kind_named n) i l)).waits + o ≤ 31 * length w + lent (closed (opened s (kind_named n) i l)).rank)
    → 10 * width (starts_of (start i n l ∷ end ∷ ts)) + owed s.waits + o ≤ 31 * length (60 ∷ (n ++ (a ++ 47 ∷ 62 ∷ w))) + lent s.rank
bare_room i s n a w {l} ts o h p T e q =
    let B = begins s i n l (end ∷ ts) e in
    let x = end_step (opened s (kind_named n) i l) ts (31 + o) (1 + length w) B.rest (omega (arith, q)) in
    omega (arith, bare_size n a w h p, start_step s i n l (end ∷ ts) o (1 + length w) T B x)

-- the bytes of a start tag, and what is left behind it
full_room : (i : ℕ) (s : St) (n a w : List ℕ) {l : List Attr} (ts : List Tag) (o : ℕ) → Name n → Attrs false a l → Tidy s → (judge_fold s (start i n l ∷ ts)).no ≡ 9
    → (10 * width (starts_of ts) + owed (opened s (kind_named n) i l).waits + (31 + o) ≤ 31 * length w + lent (opened s (kind_named n) i l).rank)
    → 10 * width (starts_of (start i n l ∷ ts)) + owed s.waits + o ≤ 31 * length (60 ∷ (n ++ (a ++ 62 ∷ w))) + lent s.rank
full_room i s n a w {l} ts o h p T e q = omega (arith, full_size n a w h p, start_step s i n l ts o (length w) T (begins s i n l ts e) q)

-- the rest of a page pays for its elements
rest_room : {ns : List (List ℕ)} {w : List ℕ} {t : List Tag} → Rest ns w t → (L : ℕ) (s : St) → Tidy s → (length ns ≡ 0 → s.waits ≡ false) → (judge_fold s (placed L t)).no ≡ 9
    → 10 * width (starts_of (placed L t)) + owed s.waits + 31 * length ns ≤ 31 * length w + lent s.rank
rest_room done L s T z e = omega (arith, ap owed (z refl), nothing)
rest_room (space {c = c} {w = w} q r) L s T z e = omega (arith, rest_room r L s T z e)
rest_room (bare {m = m} {ns = ns} n a {l} {w} {t} h p r) L s T z e =
    let i : ℕ = L - length (60 ∷ (n ++ (a ++ 47 ∷ 62 ∷ w))) in
    let s' : St = opened s (kind_named n) i l in
    let c = ends_clean s' (placed L t) (begins s i n l (end ∷ placed L t) e).rest in
    bare_room i s n a w (placed L t) (31 * length (m ∷ ns)) h p T e (rest_room r L (closed s') (tidy_closed s') (λ x. waits_not s') c.0)
rest_room (full {m = m} {ns = ns} n a {l} {w} {t} h p r) L s T z e =
    let i : ℕ = L - length (60 ∷ (n ++ (a ++ 62 ∷ w))) in
    let s' : St = opened s (kind_named n) i l in
    full_room i s n a w (placed L t) (31 * length (m ∷ ns)) h p T e
    (omega (arith, rest_room r L s' (tidy_opened s (kind_named n) i l) (λ x. absurd (omega arith)) (begins s i n l (placed L t) e).rest))
rest_room (close {ns = ns} n u {w} {t} h r) L s T z e =
    let c = ends_clean s (placed L t) e in
    let x = rest_room r L (closed s) (tidy_closed s) (λ y. waits_not s) c.0 in
    omega (arith, close_size n u w, end_step s (placed L t) (31 * length ns) (length w) e x)

tidy_outside : Tidy outside
tidy_outside e = absurd (let y : ◌≡◌ {A = ℕ} 0 1 = cc in omega arith)

page_room_lem : {w : List ℕ} {t : List Tag} → Page w t → (L : ℕ) → (judge_fold outside (placed L t)).no ≡ 9 → 10 * width (starts_of (placed L t)) ≤ 31 * length w + 46
page_room_lem (space {c = c} {w = w} q r) L e = omega (arith, page_room_lem r L e)
page_room_lem (bare n a {l} {w} {t} h p r) L e =
    let i : ℕ = L - length (60 ∷ (n ++ (a ++ 47 ∷ 62 ∷ w))) in
    let s' : St = opened outside (kind_named n) i l in
    let c = ends_clean s' (placed L t) (begins outside i n l (end ∷ placed L t) e).rest in
    omega (arith, bare_room i outside n a w (placed L t) 0 h p tidy_outside e (rest_room r L (closed s') (tidy_closed s') (λ x. waits_not s') c.0))
page_room_lem (full n a {l} {w} {t} h p r) L e =
    let i : ℕ = L - length (60 ∷ (n ++ (a ++ 62 ∷ w))) in
    let s' : St = opened outside (kind_named n) i l in
    omega (
      arith,
      full_room i outside n a w (placed L t) 0 h p tidy_outside e
          (omega (arith, rest_room r L s' (tidy_opened outside (kind_named n) i l) (λ x. absurd (omega arith)) (begins outside i n l (placed L t) e).rest)),
    )

-- ---- values

-- values have no more bytes than they cost
concat_weight : (fs : List Field) (l : List Attr) → length (concat (slots_of fs l)) ≤ slots_weight fs (slots_of fs l)
concat_weight [] l = omega arith
concat_weight (f ∷ fs) l = at (settle f (found l f.letters)) (concat_weight fs l)
  where
    at : (v : List ℕ) → length (concat (slots_of fs l)) ≤ slots_weight fs (slots_of fs l) → length (v ++ concat (slots_of fs l)) ≤ slot_weight f v + slots_weight fs (slots_of fs l)
    at [] ih = omega arith
    at (c ∷ v) ih = omega (arith, length-append v (concat (slots_of fs l)))

start_values : (i : ℕ) (n : List ℕ) (l : List Attr) (ts : List Tag) → values_length (starts_of (start i n l ∷ ts)) ≤ attrs_size l + values_length (starts_of ts)
unfolding values_length starts_of
start_values i n l ts = omega (arith, concat_weight (fields_of (kind_named n)) l, tag_weight (fields_of (kind_named n)) l (distinct (kind_named n)))

end_values : (ts : List Tag) → values_length (starts_of (end ∷ ts)) ≡ values_length (starts_of ts)
unfolding starts_of
end_values ts = refl

no_values : values_length (starts_of []) ≡ 0
unfolding values_length starts_of
no_values = refl

rest_values : {ns : List (List ℕ)} {w : List ℕ} {t : List Tag} → Rest ns w t → (L : ℕ) → values_length (starts_of (placed L t)) ≤ length w
rest_values done L = omega (arith, no_values)
rest_values (space {c = c} {w = w} q r) L = omega (arith, rest_values r L)
rest_values (bare n a {l} {w} {t} h p r) L =
    omega (arith, start_values (L - length (60 ∷ (n ++ (a ++ 47 ∷ 62 ∷ w)))) n l (end ∷ placed L t), end_values (placed L t), bare_size n a w h p, rest_values r L)
rest_values (full n a {l} {w} {t} h p r) L = omega (arith, start_values (L - length (60 ∷ (n ++ (a ++ 62 ∷ w)))) n l (placed L t), full_size n a w h p, rest_values r L)
rest_values (close n u {w} {t} h r) L = omega (arith, end_values (placed L t), close_size n u w, rest_values r L)

page_values : {w : List ℕ} {t : List Tag} → Page w t → (L : ℕ) → values_length (starts_of (placed L t)) ≤ length w
page_values (space {c = c} {w = w} q r) L = omega (arith, page_values r L)
page_values (bare n a {l} {w} {t} h p r) L =
    omega (arith, start_values (L - length (60 ∷ (n ++ (a ++ 47 ∷ 62 ∷ w)))) n l (end ∷ placed L t), end_values (placed L t), bare_size n a w h p, rest_values r L)
page_values (full n a {l} {w} {t} h p r) L = omega (arith, start_values (L - length (60 ∷ (n ++ (a ++ 62 ∷ w)))) n l (placed L t), full_size n a w h p, rest_values r L)

-- ---- a page that is judged to a sheet

pass_is : (ts : List Tag) → fold_page ts ≡ judge_fold outside ts
unfolding fold_page
pass_is ts = refl

module _ (w : List ℕ) (s : Sheet) (e : judge w ≡ sheet s) where
  -- its tags are those of the grammar
  pub page_tags : tags_at w 0 ≡ placed (length w) (judges w s e).tags
  page_tags = walked w (judges w s e).tags ((exact w (judges w s e).tags).0 (judges w s e).taken)

  -- the pass over its tags finds no fault
  pub page_clean : (judge_fold outside (tags_at w 0)).no ≡ 9
  page_clean =
      let j = judges w s e in
      rw (page_tags, ← pass_is (placed (length w) j.tags)) ((fold_spotless w j.tags j.taken).1 j.clean)

  -- A tape has room for its elements.
  pub tape_enough : width (elems_of w) ≤ tape_room
  tape_enough =
      let j = judges w s e in
      let c : (judge_fold outside (placed (length w) j.tags)).no ≡ 9 = rw (← page_tags) page_clean in
      rw page_tags (omega (arith, page_room_lem j.taken (length w) c, j.short))

  -- A side room has room for its values.
  pub side_enough : values_length (elems_of w) ≤ side_room
  side_enough = let j = judges w s e in rw page_tags (omega (arith, page_values j.taken (length w), j.short))

-- ---- elements on a tape

-- elements on a tape reach as far as they are wide
pub lies_wide : (w side : List ℕ) (m : ℕ) (t : List ℕ) (i j : ℕ) (es : List Elem) → Lies w side m t i j es → j ≡ i + width es
unfolding width
lies_wide w side m t i j [] L = omega arith
lies_wide w side m t i j (x ∷ es) L = omega (arith, lies_wide w side m t (i + header + 2 * length (fields_of x.kind)) j es L.1)

-- A page that a maker has taken reaches no further than a page may.
pub made_width : {w t t' : List ℕ} {i j : ℕ} {side side' : List ℕ} {m m' : ℕ} → Makes w t t' i j side side' m m' → j ≤ i + tape_room
made_width {w} {t} {t'} {i} {j} {side} {side'} {m} {m'} X =
    omega (arith, lies_wide w side' m' t' i j (elems_of w) X.taped.lies, tape_enough w (sheet_by (elems_of w)) X.taped.judged)
