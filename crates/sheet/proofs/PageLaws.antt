-- PageLaws: a page that is judged to a sheet can be laid out: its tags are fit, they say the sheet, and there is room for what they say.
-- Assumes nothing.
use mathlib.Core.Path.{◌≡◌, refl, sym, ap, ◌∙◌, subst}
use mathlib.Core.Bool.{Bool, true, ◌||◌}
use mathlib.Core.List.{List, [], ◌∷◌, ◌++◌}
use Prim.Native.Nat.{ℕ, ◌+◌, ◌≤◌}
use native.Mathlib.Omega.{arith}
use lib.Dec.{leb}
use lib.ListN.{length, length-append}
use borrow.Author.Tests.{leb-true}
use Rattle.paper.specs.Lists.{bytes, every, concat, number}
use Rattle.paper.specs.Grammar.{Attr, Tag, start, end, placed}
use Rattle.paper.specs.Fields.{Kind, unknown, M, is, fields_of}
use Rattle.paper.specs.Plan.{Slots, Row, Plan, slot}
use Rattle.paper.specs.Judging.{slots_of, own, Stack, kind_in, misplaced, next, lacks, here, faults, item, row_of, tail, Sheet, sheet, judge}
use Rattle.paper.specs.Layout.{head_values, rows_values, text_of, plan_values}
use Rattle.paper.specs.Writing.{sound_row, sound_head, needs, good_element, row_slots}
use Rattle.paper.proofs.Small.{both, and_intro}
use Rattle.paper.proofs.Given.{fault_nil, append_nil_both, own_clear}
use Rattle.paper.proofs.Told.{is_eq, page_placed}
use Rattle.paper.proofs.Exact.{exact}
use Rattle.paper.proofs.ReadSound.{judges, judge_ok}
use Rattle.paper.proofs.Rooms.{sheet_weight, text_weight}
use Rattle.markup.specs.Walk.{tags_at}
use Rattle.markup.proofs.Walked.{walked}
use Rattle.plan.proofs.Shown.{concat_append}
use Rattle.sheet.specs.Fold.{strange}
use Rattle.sheet.specs.Content.{kind_named, ws_from, rows_from, head_from, content_of}
use Rattle.sheet.specs.Fit.{Sound, Fit}
use Rattle.sheet.proofs.FoldContent.{kind_in_lem, content_is}

-- ---- tags without faults

every_parts : (p : Row → Bool) (a b : List Row) → every p (a ++ b) ≡ true → (every p a ≡ true) × (every p b ≡ true)
every_parts p [] b e = (refl, e)
every_parts p (r ∷ a) b e =
    let (x, y) = both (p r) (every p (a ++ b)) e in
    let (u, v) = every_parts p a b y in
    (and_intro (p r) (every p a) x u, v)

-- a tag without a fault of its own is sound
own_sound : (k : Kind) (i : ℕ) (l : List Attr) → own k i l ≡ [] → Sound k l
unfolding strange
own_sound k i l e = let C = own_clear k i l e in record { known = C.known; kept = C.kept }

-- a sound medication row has at most three W
few_ws : (k : Kind) (vs : Slots) (ws : List Slots) → is k M ≡ true → every sound_row (row_of (item k vs ws)) ≡ true → length ws ≤ 3
unfolding sound_row
few_ws k vs ws q e =
    let h : every sound_row (row_of (item M vs ws)) ≡ true = subst (λ (x : Kind). every sound_row (row_of (item x vs ws)) ≡ true) (is_eq k M q) e in
    let r : Row = record { kind = M; pzn = number 0 (slot (bytes "p") (fields_of M) vs); slots = tail vs; ws = ws } in
    let a = (both (sound_row r) true h).0 in
    let b = (both (needs M r) (good_element M (row_slots r)) a).0 in
    leb-true (length ws) 3 (both (leb (length ws) 3) _ b).0

-- tags without faults, whose rows are sound, can be laid out
fit_rest : (ts : List Tag) (st : Stack) → faults st ts ≡ [] → every sound_row (rows_from ts) ≡ true → Fit ts
unfolding rows_from
fit_rest [] st f r = tt
fit_rest (end ∷ ts) [] f r = fit_rest ts [] f r
fit_rest (end ∷ ts) (F ∷ st) f r = fit_rest ts st (fault_nil (lacks F.kind F.seen F.slots) 8 F.at (faults st ts) f).1 r
fit_rest (start i n l ∷ ts) st f r =
    let k : Kind = kind_in st n in
    let (x, y) = append_nil_both (here st (start i n l)) (faults (next st (start i n l)) ts) f in
    let q : kind_named n ≡ k = kind_in_lem st i n l x in
    let o : own k i l ≡ [] = (fault_nil (is k unknown || misplaced st k) 5 i (own k i l) x).1 in
    let (a, b) = every_parts sound_row (row_of (item (kind_named n) (slots_of (fields_of (kind_named n)) l) (ws_from ts))) (rows_from ts) r in (
      subst (λ (z : Kind). Sound z l) (sym q) (own_sound k i l o),
      λ m. few_ws (kind_named n) (slots_of (fields_of (kind_named n)) l) (ws_from ts) m a,
      fit_rest ts (next st (start i n l)) y b,
    )

-- ---- a page that is judged to a sheet

module _ (w : List ℕ) (s : Sheet) (e : judge w ≡ sheet s) where
  tags_are : tags_at w 0 ≡ placed (length w) (judges w s e).tags
  tags_are = walked w (judges w s e).tags ((exact w (judges w s e).tags).0 (judges w s e).taken)

  -- its tags say the sheet
  pub page_content : content_of (tags_at w 0) ≡ s
  page_content =
      let j = judges w s e in
      ap content_of tags_are ∙ sym (content_is (placed (length w) j.tags) (page_placed (length w) j.taken) j.clean) ∙ j.told

  pub page_head : head_from (tags_at w 0) ≡ s.head
  unfolding content_of
  page_head = ap (λ (x : Sheet). x.head) page_content

  pub page_rows : rows_from (tags_at w 0) ≡ s.rows
  unfolding content_of
  page_rows = ap (λ (x : Sheet). x.rows) page_content

  -- Its tags can be laid out.
  pub page_fit : Fit (tags_at w 0)
  page_fit =
      let j = judges w s e in
      let ts : List Tag = placed (length w) j.tags in
      let r : every sound_row (rows_from ts) ≡ true = ap (λ (t : List Tag). every sound_row (rows_from t)) (sym tags_are) ∙ ap (every sound_row) page_rows ∙ (judge_ok w s e).rows_ok in
      subst (λ (t : List Tag). Fit t) (sym tags_are) (fit_rest ts [] j.clean r)

  -- What it says, head and rows together, is not longer than 1,400 bytes.
  pub page_short : length (concat (head_values (head_from (tags_at w 0)))) + length (concat (rows_values (rows_from (tags_at w 0)))) ≤ 1400
  unfolding text_of plan_values
  page_short =
      let k = judge_ok w s e in
      let p : Plan = record { head = s.head; rows = s.rows } in
      let t = text_weight p (and_intro (sound_head s.head) (every sound_row s.rows) k.head_ok k.rows_ok) in
      let c : length (concat (head_values s.head ++ rows_values s.rows)) ≡ length (concat (head_values s.head)) + length (concat (rows_values s.rows)) =
      ap length (concat_append (head_values s.head) (rows_values s.rows)) ∙ length-append (concat (head_values s.head)) (concat (rows_values s.rows)) in
      rw (page_head, page_rows) (omega (arith, t, c, sheet_weight w s e))
