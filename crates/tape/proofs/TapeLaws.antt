-- TapeLaws: what elements say is what their tags say; elements on the tape stay what they are where the tape and the side room only grow.
-- Assumes nothing.
use mathlib.Core.Path.{◌≡◌, refl, ap, ◌∙◌}
use mathlib.Core.Bool.{Bool, true, false}
use mathlib.Core.Option.{some}
use mathlib.Core.List.{List, [], ◌∷◌, ◌++◌}
use Prim.Native.Nat.{ℕ, zero, suc, ◌+◌, ◌*◌, ◌-◌, ◌≤◌}
use native.Mathlib.Omega.{arith}
use lib.Dec.{ltb}
use lib.ListN.{length, take, drop, get_or}
use lib.Seq.{slice}
use borrow.Author.Tests.{ltb-false}
use Rattle.paper.specs.Lists.{if}
use Rattle.paper.specs.Grammar.{Tag, start, end}
use Rattle.paper.specs.Fields.{Kind, MP, P, A, O, W, is, fields_of}
use Rattle.paper.specs.Judging.{slots_of}
use Rattle.paper.proofs.Told.{is_eq}
use Rattle.room.proofs.Alike.{Agree, take_more}
use Rattle.sheet.specs.Content.{kind_named, attrs_of_first, slots_from, part_from, ws_from, rows_from, head_from, content_of}
use Rattle.tape.specs.Tape.{Elem, starts_of, part_by, ws_by, rows_by, head_by, sheet_by, header, aside, shown_in, values_at, Span, Spans, ElemAt, Lies}

-- ---- what elements say

pub part_by_lem : (k : Kind) (ts : List Tag) → part_by k (starts_of ts) ≡ part_from k ts
unfolding part_by starts_of part_from attrs_of_first
part_by_lem k [] = refl
part_by_lem k (end ∷ ts) = part_by_lem k ts
part_by_lem k (start i n l ∷ ts) = go (is (kind_named n) k) refl (part_by_lem k ts)
  where
    go : (b : Bool) → is (kind_named n) k ≡ b → part_by k (starts_of ts) ≡ slots_from k (attrs_of_first k ts)
        → if b (slots_of (fields_of (kind_named n)) l) (part_by k (starts_of ts)) ≡ slots_from k (if b (some l) (attrs_of_first k ts))
    go true e h = rw (is_eq (kind_named n) k e)
    go false e h = h

pub ws_by_lem : (ts : List Tag) → ws_by (starts_of ts) ≡ ws_from ts
unfolding ws_by starts_of ws_from
ws_by_lem [] = refl
ws_by_lem (end ∷ ts) = ws_by_lem ts
ws_by_lem (start i n l ∷ ts) = go (is (kind_named n) W) refl (ws_by_lem ts)
  where
    go : (b : Bool) → is (kind_named n) W ≡ b → ws_by (starts_of ts) ≡ ws_from ts
        → if b (slots_of (fields_of (kind_named n)) l ∷ ws_by (starts_of ts)) [] ≡ if b (slots_of (fields_of W) l ∷ ws_from ts) []
    go true e h = rw (is_eq (kind_named n) W e, h)
    go false e h = refl

pub rows_by_lem : (ts : List Tag) → rows_by (starts_of ts) ≡ rows_from ts
unfolding rows_by starts_of rows_from
rows_by_lem [] = refl
rows_by_lem (end ∷ ts) = rows_by_lem ts
rows_by_lem (start i n l ∷ ts) = rw (ws_by_lem ts, rows_by_lem ts)

-- what the elements of some tags say is what the tags say
pub sheet_by_lem : (ts : List Tag) → sheet_by (starts_of ts) ≡ content_of ts
unfolding sheet_by head_by content_of head_from
sheet_by_lem ts = rw (part_by_lem MP ts, part_by_lem P ts, part_by_lem A ts, part_by_lem O ts, rows_by_lem ts)

-- ---- elements behind each other

pub starts_append : (ts us : List Tag) → starts_of (ts ++ us) ≡ starts_of ts ++ starts_of us
unfolding starts_of
starts_append [] us = refl
starts_append (end ∷ ts) us = starts_append ts us
starts_append (start i n l ∷ ts) us = rw (starts_append ts us)

-- ---- what does not change

pub shown_same : (w s s' : List ℕ) (m a b : ℕ) → take m s' ≡ take m s → Span w m a b → shown_in w s' a b ≡ shown_in w s a b
unfolding shown_in
shown_same w s s' m a b e S = go (ltb a aside) refl
  where
    go : (t : Bool) → ltb a aside ≡ t → if t (slice a b w) (slice (a - aside) b s') ≡ if t (slice a b w) (slice (a - aside) b s)
    go true q = refl
    go false q = let o = S.outer (ltb-false a aside q) in ap (drop (a - aside)) (take_more s s' m b o.1 e)

module _ (w s s' : List ℕ) (m m' : ℕ) (e : take m s' ≡ take m s) (up : m ≤ m') where
  span_more : (a b : ℕ) → Span w m a b → Span w m' a b
  span_more a b S = record { inner = S.inner; outer = λ h. let o = S.outer h in (o.0, omega (arith, o.1), o.2) }

  pub spans_more : (n : ℕ) (t u : List ℕ) (i : ℕ) → Agree t u i (i + 2 * n) → Spans w m n t i → Spans w m' n u i
  spans_more zero t u i h S = tt
  spans_more (suc n) t u i h S = (
    rw (h i (omega arith) (omega arith), h (i + 1) (omega arith) (omega arith)) (span_more (get_or t i 0) (get_or t (i + 1) 0) S.0),
    spans_more n t u (i + 2) (λ k a b. h k (omega arith) (omega arith)) S.1,
  )

  pub values_more : (n : ℕ) (t u : List ℕ) (i : ℕ) → Agree t u i (i + 2 * n) → Spans w m n t i → values_at w s' n u i ≡ values_at w s n t i
  values_more zero t u i h S = refl
  values_more (suc n) t u i h S = rw (
    h i (omega arith) (omega arith),
    h (i + 1) (omega arith) (omega arith),
    shown_same w s s' m (get_or t i 0) (get_or t (i + 1) 0) e S.0,
    values_more n t u (i + 2) (λ k a b. h k (omega arith) (omega arith)) S.1,
  )

  pub elem_more : (t u : List ℕ) (i next : ℕ) (x : Elem) → Agree t u i next → ElemAt w s m t i next x → ElemAt w s' m' u i next x
  elem_more t u i next x h E =
      let z = E.wide in
      let h' : Agree t u (i + header) (i + header + 2 * length (fields_of x.kind)) = λ k a b. h k (omega arith) (omega arith) in
      record {
        kind_is = h i (omega arith) (omega arith) ∙ E.kind_is;
        place_is = h (i + 1) (omega arith) (omega arith) ∙ E.place_is;
        next_is = h (i + 2) (omega arith) (omega arith) ∙ E.next_is;
        wide = z;
        lie = spans_more (length (fields_of x.kind)) t u (i + header) h' E.lie;
        slots_are = values_more (length (fields_of x.kind)) t u (i + header) h' E.lie ∙ E.slots_are;
      }

  -- elements lie in order
  pub lies_up : (t : List ℕ) (i j : ℕ) (es : List Elem) → Lies w s m t i j es → i ≤ j
  lies_up t i j [] L = omega arith
  lies_up t i j (x ∷ es) L = let h = lies_up t (i + header + 2 * length (fields_of x.kind)) j es L.1 in omega arith

  pub lies_more : (t u : List ℕ) (i j : ℕ) (es : List Elem) → Agree t u i j → Lies w s m t i j es → Lies w s' m' u i j es
  lies_more t u i j [] h L = L
  lies_more t u i j (x ∷ es) h L =
      let o = lies_up t (i + header + 2 * length (fields_of x.kind)) j es L.1 in (
        elem_more t u i (i + header + 2 * length (fields_of x.kind)) x (λ k a b. h k a (omega arith)) L.0,
        lies_more t u (i + header + 2 * length (fields_of x.kind)) j es (λ k a b. h k (omega arith) b) L.1,
      )

-- one element more
pub lies_one : (w s : List ℕ) (m : ℕ) (t : List ℕ) (i j next : ℕ) (es : List Elem) (x : Elem) → Lies w s m t i j es → ElemAt w s m t j next x → Lies w s m t i next (es ++ x ∷ [])
lies_one w s m t i j next [] x L E = rw (L, ← E.wide) (E, refl)
lies_one w s m t i j next (y ∷ es) x L E = (L.0, lies_one w s m t (i + header + 2 * length (fields_of y.kind)) j next es x L.1 E)
