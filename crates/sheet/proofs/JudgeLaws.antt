-- JudgeLaws: one tag of the pass, as the walk tells it; and the answer for each way in which a page is refused before its tags are looked at.
-- Assumes nothing.
use mathlib.Core.Path.{◌≡◌, refl, ap, sym, ◌∙◌}
use mathlib.Core.Bool.{Bool, true, false}
use mathlib.Core.Option.{Option, none, some}
use mathlib.Core.List.{List, [], ◌∷◌}
use Prim.Native.Nat.{ℕ, ◌+◌, ◌-◌, ◌≤◌, ◌<◌}
use native.Mathlib.Omega.{arith}
use lib.Dec.{eqb}
use lib.ListN.{length, take, drop}
use lib.Seq.{slice}
use Rattle.std.specs.Prelude.{Some, Result, Ok, Err, MatchResult}
use borrow.Author.Tests.{ne_eqb, lt-ltb, le-ltb, le-leb, lt-leb}
use Rattle.paper.specs.Lists.{if, every}
use Rattle.paper.specs.Bytes.{is_allowed, first_refused}
use Rattle.paper.specs.Grammar.{Attr, Tag, start, end, placed}
use Rattle.paper.specs.Fields.{code}
use Rattle.paper.specs.Machine.{before, scan, eaten}
use Rattle.paper.specs.Causes.{cause_number}
use Rattle.paper.specs.declared.Cause.{Cause}
use Rattle.paper.specs.declared.Cause.TheVariants.{Size, Byte, Malformed, OutOfPlace, Edition, Value, Incomplete}
use Rattle.paper.specs.Judging.{Fault, names, Sheet, Judged, refused, sheet, judge_tags, judge}
use Rattle.paper.proofs.Small.{unequal}
use Rattle.paper.proofs.Exact.{exact}
use Rattle.markup.specs.Extent.{extent_by, extent_of}
use Rattle.markup.specs.Walk.{tags_at, tag_of, inside_at, ended}
use Rattle.markup.specs.declared.walk.Mark.TheVariants.{Start}
use Rattle.markup.proofs.Walked.{walked}
use Rattle.fields.specs.Places.{kind_at}
use Rattle.fields.proofs.TableLaws.{kind_back}
use Rattle.fields.proofs.SetLaws.{every_run}
use Rattle.room.proofs.Parts.{part_is}
use Rattle.sheet.specs.Fold.{St, given, kind_under, barred, strange, opened, closed, finished, judge_fold, fold_page, answer}
use Rattle.sheet.specs.Content.{content_of}
use Rattle.sheet.specs.Judged.{fault_at, left, is_fine}
use Rattle.sheet.specs.declared.state.Refusal.{Refusal}
use Rattle.sheet.proofs.FoldJudge.{fold_start}
use Rattle.sheet.proofs.FoldContent.{fold_answer}

-- ---- one tag of the pass

behind_end : (s : St) (ts : List Tag) → judge_fold s (end ∷ ts) ≡ judge_fold (closed s) ts
unfolding judge_fold
behind_end s ts = refl

module _ (s : St) (T ts : List Tag) where
  -- no tag is left
  pub on_nothing : T ≡ [] → judge_fold s T ≡ finished s
  unfolding judge_fold
  on_nothing e = rw e

  -- an end tag
  pub on_end : T ≡ end ∷ ts → judge_fold s T ≡ judge_fold (closed s) ts
  on_end e = rw e (behind_end s ts)

  -- a start tag whose element has the number k there: 5 if the element or an attribute is refused; else the tag counts, and with it the element's
  -- end if the tag closes itself
  pub on_start : (i : ℕ) (n : List ℕ) (l : List Attr) (b : Bool) (k : ℕ) → T ≡ start i n l ∷ ended b ts → k ≡ code (kind_under s.cur n)
      → judge_fold s T ≡ if (barred s (kind_at k)) (given 5 i) (if (strange (kind_at k) (names l)) (given 5 i) (judge_fold (left b (opened s (kind_at k) i l)) ts))
  on_start i n l b k e h =
      rw e
      (fold_start s i n l (ended b ts) (kind_at k) (sym (ap kind_at h ∙ kind_back (kind_under s.cur n)))
      ∙ ap (λ (f : Fault). if (barred s (kind_at k)) (given 5 i) (if (strange (kind_at k) (names l)) (given 5 i) f)) (at b))
    where
      at : (c : Bool) → judge_fold (opened s (kind_at k) i l) (ended c ts) ≡ judge_fold (left c (opened s (kind_at k) i l)) ts
      at true = behind_end (opened s (kind_at k) i l) ts
      at false = refl

-- the same of a tag that the walk finds: its `<` stands at place i of the page, its name ends at e
pub on_tag : (w : List ℕ) (s : St) (at i e k : ℕ) → tags_at w at ≡ tag_of w (Some (Start i e)) → k ≡ code (kind_under s.cur (take (e - (i + 1)) (drop (i + 1) w)))
    → judge_fold s (tags_at w at)
    ≡ if (barred s (kind_at k)) (given 5 i)
    (if (strange (kind_at k) (names (inside_at w e).attrs)) (given 5 i)
    (judge_fold (left (inside_at w e).shut (opened s (kind_at k) i (inside_at w e).attrs)) (tags_at w (i + 1))))
on_tag w s at i e k t h =
    on_start s (tags_at w at) (tags_at w (i + 1)) i (slice (i + 1) e w) (inside_at w e).attrs (inside_at w e).shut k t
    (h ∙ ap (λ (n : List ℕ). code (kind_under s.cur n)) (part_is w (i + 1) e))

-- ---- the answer for a page

-- a refusal as the least fault is the answer
refused_by : (c : Cause) (i : ℕ) (s : Sheet) → answer (given (cause_number c) i) s ≡ refused (cause_number c) i
refused_by Size i s = refl
refused_by Byte i s = refl
refused_by Malformed i s = refl
refused_by OutOfPlace i s = refl
refused_by Edition i s = refl
refused_by Value i s = refl
refused_by Incomplete i s = refl

-- what a least fault answers, by what is told of it
told_by : (f : Fault) (s : Sheet) (r : Result (Unit {0}) Refusal) → MatchResult r (λ u. f.no ≡ 9) (λ g. f ≡ fault_at g)
    → MatchResult r (λ u. is_fine (answer f s) ≡ true) (λ g. answer f s ≡ refused (cause_number g.cause) g.place)
told_by f s (Ok u) e = rw e
told_by f s (Err g) e = rw e (refused_by g.cause g.place s)

-- a page without bytes is refused
pub page_empty : (w : List ℕ) → length w ≡ 0 → judge w ≡ refused 2 0
unfolding judge
page_empty w e = rw e

-- a page above 1,400 bytes is refused
pub page_long : (w : List ℕ) → (length w ≡ 0 → ⊥) → 1400 < length w → judge w ≡ refused 2 0
unfolding judge
page_long w z h = rw (ne_eqb (length w) 0 z, lt-ltb 1400 (length w) h)

module _ (w : List ℕ) (z : length w ≡ 0 → ⊥) (h : length w ≤ 1400) where
  -- a byte that is not allowed is refused
  pub page_bytes_lem : (i : ℕ) → i ≡ first_refused w → i < length w → judge w ≡ refused 3 i
  unfolding judge
  page_bytes_lem i e g = rw (ne_eqb (length w) 0 z, le-ltb 1400 (length w) h, every_run is_allowed w, ← e, lt-leb (length w) i g)

  module _ (i : ℕ) (e : i ≡ first_refused w) (g : length w ≤ i) where
    allowed : every is_allowed w ≡ true
    allowed = every_run is_allowed w ∙ rw (← e) (le-leb (length w) i g)

    -- a malformed page is refused where its longest good beginning ends
    pub page_malformed : (k : ℕ) → Err k ≡ extent_of w → judge w ≡ refused 4 k
    unfolding judge extent_of
    page_malformed k q = rw (ne_eqb (length w) 0 z, le-ltb 1400 (length w) h, allowed) (at (scan before w) q)
      where
        at : (o : Option (List Tag)) → Err k ≡ extent_by o (eaten before w) → judge_tags o w ≡ refused 4 k
        at none q = let e : k ≡ eaten before w = cc in rw (← e)
        at (some t) q = let y : ◌≡◌ {A = ℕ} 0 1 = cc in unequal y

    -- a well-formed page is answered by its tags
    page_folded : Ok tt ≡ extent_of w → (s : Sheet) × (judge w ≡ answer (fold_page (tags_at w 0)) s)
    unfolding extent_of
    page_folded q = at (scan before w) refl q
      where
        at : (o : Option (List Tag)) → scan before w ≡ o → Ok tt ≡ extent_by o (eaten before w) → (s : Sheet) × (judge w ≡ answer (fold_page (tags_at w 0)) s)
        at none p q = let y : ◌≡◌ {A = ℕ} 0 1 = cc in unequal y
        at (some t) p q = (
          content_of (placed (length w) t),
          fold_answer w t (omega arith) h allowed ((exact w t).1 p) ∙ ap (λ (ts : List Tag). answer (fold_page ts) (content_of (placed (length w) t))) (sym (walked w t p)),
        )

    pub page_whole : Ok tt ≡ extent_of w → (r : Result (Unit {0}) Refusal) → MatchResult r (λ u. (fold_page (tags_at w 0)).no ≡ 9) (λ g. fold_page (tags_at w 0) ≡ fault_at g)
        → MatchResult r (λ u. is_fine (judge w) ≡ true) (λ g. judge w ≡ refused (cause_number g.cause) g.place)
    page_whole q r t = let (s, e) = page_folded q in rw e (told_by (fold_page (tags_at w 0)) s r t)
