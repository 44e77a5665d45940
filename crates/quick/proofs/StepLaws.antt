-- StepLaws: one start tag more: in the grammar, in the state, and on the tape.
-- Assumes nothing.
use mathlib.Core.Path.{◌≡◌, refl, sym, ap, ◌∙◌, subst}
use mathlib.Core.Bool.{Bool, true, false}
use mathlib.Core.List.{List, [], ◌∷◌, ◌++◌}
use Prim.Native.Nat.{ℕ, ◌+◌, ◌-◌, ◌≤◌, ◌<◌}
use native.Mathlib.Omega.{arith}
use lib.Dec.{eqb}
use lib.ListN.{length, get_or, drop, length-drop}
use lib.Seq.{slice}
use borrow.Author.Tests.{eqb-true}
use Rattle.paper.specs.Lists.{if, until}
use Rattle.paper.specs.Bytes.{is_space}
use Rattle.paper.specs.Grammar.{Attr, Tag, start, end, Rest, Name, placed}
use Rattle.paper.specs.Fields.{Kind, code, fields_of}
use Rattle.paper.specs.Judging.{slots_of}
use Rattle.paper.proofs.Small.{below_at}
use Rattle.fields.specs.Places.{kind_at}
use Rattle.fields.proofs.TableLaws.{code_back}
use Rattle.sheet.specs.Fold.{St, kind_under, barred, opened, closed, parent, judge_fold}
use Rattle.sheet.specs.Judged.{st_of, Sound, left}
use Rattle.sheet.specs.Content.{kind_named}
use Rattle.sheet.specs.declared.state.State.{State}
use Rattle.sheet.proofs.FoldJudge.{fold_start}
use Rattle.sheet.proofs.JudgeLaws.{on_end}
use Rattle.quoted.proofs.Pieces.{in_it}
use Rattle.quick.specs.Passed.{InsideAt, parent_of, Kid}
use Rattle.tape.specs.Tape.{Elem, elem, starts_of, ElemAt, Lies}
use Rattle.quick.specs.Taken.{TagIn}
use Rattle.quick.specs.Stepped.{StepIn}
use Rattle.quick.proofs.TagLaws.{behind, byte_at, letter_at, opens, shuts}

-- the element around, as the state tells it
pub parents : (c : ℕ) → c < 10 → parent c ≡ parent_of c
unfolding parent kind_at
parents c h = eqb-true (parent c) (parent_of c) (below_at 10 (λ (n : ℕ). eqb (parent n) (parent_of n)) refl c h)

-- the place of a tag by what stands from it on
pub place_of : (w y : List ℕ) (s : ℕ) → s ≤ length w → drop s w ≡ y → length w - length y ≡ s
place_of w y s h e = let n : length y ≡ length w - s = ap length (sym e) ∙ length-drop s w in omega arith

pub starts_one : (i : ℕ) (n : List ℕ) (l : List Attr) (k : Kind) (s : ℕ) → kind_named n ≡ k → i ≡ s → starts_of (start i n l ∷ []) ≡ elem k s (slots_of (fields_of k) l) ∷ []
unfolding starts_of
starts_one i n l k s e q = rw (e, q)

starts_two : (i : ℕ) (n : List ℕ) (l : List Attr) (k : Kind) (s : ℕ) → kind_named n ≡ k → i ≡ s → starts_of (start i n l ∷ end ∷ []) ≡ elem k s (slots_of (fields_of k) l) ∷ []
unfolding starts_of
starts_two i n l k s e q = rw (e, q)

pub opened_cur : (s : St) (k : Kind) (i : ℕ) (l : List Attr) → (opened s k i l).cur ≡ code k
unfolding opened
opened_cur s k i l = refl

pub closed_cur : (s : St) → (closed s).cur ≡ parent s.cur
unfolding closed
closed_cur s = refl

module _ (st : State) {w : List ℕ} {i s x b k f next : ℕ} {t t' side side' : List ℕ} {m m' : ℕ} {needs : Bool} (hs : s ≡ i + until is_space (drop i w)) (is : i ≤ s) (sl : s < length w) (lt : get_or w s 0 ≡ 60)
    (sl' : s + 1 < length w) (eb : get_or w (s + 1) 0 ≡ b) (K : Kid st.cur b k) (free : barred (st_of st) (kind_at k) ≡ false)
    (T : TagIn w (kind_at k) f s (s + 2) x t t' side side' m m' next needs) where
  letter : slice (s + 1) (s + 2) w ≡ b ∷ []
  letter = let z : s + 1 + 1 ≡ s + 2 = omega arith in ap (λ (n : ℕ). slice (s + 1) n w) (sym z) ∙ letter_at w (s + 1) b sl' eb

  name : Name (slice (s + 1) (s + 2) w)
  name = rw letter (K.letter, tt)

  abbrev inside : InsideAt w (s + 2) x
  inside = record { said = T.said; within = T.within; derives = T.derives }

  known_as : kind_named (slice (s + 1) (s + 2) w) ≡ kind_at k
  known_as = ap kind_named letter ∙ K.named

  shape : (y : List ℕ) → drop x w ≡ y → drop s w ≡ 60 ∷ (slice (s + 1) (s + 2) w ++ (slice (s + 2) x w ++ y))
  shape y q =
      byte_at w s 60 sl lt ∙ ap (λ (z : List ℕ). 60 ∷ z)
      (behind w (s + 1) (s + 2) (omega arith) (omega (arith, T.within.0, T.within.1)) ∙ ap (λ (z : List ℕ). slice (s + 1) (s + 2) w ++ z)
      (behind w (s + 2) x T.within.0 (omega (arith, T.within.1)) ∙ ap (λ (z : List ℕ). slice (s + 2) x w ++ z) q))

  -- the state behind the start tag
  start_judged : (p : ℕ) → p ≡ s → (ts : List Tag) → judge_fold (st_of st) (start p (slice (s + 1) (s + 2) w) T.said ∷ ts) ≡ judge_fold (opened (st_of st) (kind_at k) s T.said) ts
  start_judged p e ts =
      fold_start (st_of st) p (slice (s + 1) (s + 2) w) T.said ts (kind_at k) (ap (kind_under st.cur) letter ∙ K.kind)
      ∙ rw (free, T.known, e)

  lies_by : (es : List Elem) → es ≡ elem (kind_at k) s (slots_of (fields_of (kind_at k)) T.said) ∷ [] → Lies w side' m' t' f next es
  lies_by es e = rw e (subst (λ (n : ℕ). ElemAt w side' m' t' f n (elem (kind_at k) s (slots_of (fields_of (kind_at k)) T.said))) T.next_is T.element, sym T.next_is)

  -- a tag that opens its element
  pub step_open : (st' : State) → get_or w x 0 ≡ 62 → st_of st' ≡ opened (st_of st) (kind_at k) s T.said → Sound st' → StepIn w i (x + 1) st st' t t' f next side side' m m'
  step_open st' q e so =
      let y : List ℕ = 62 ∷ drop (x + 1) w in
      let n = slice (s + 1) (s + 2) w in
      let full : List ℕ = 60 ∷ (n ++ (slice (s + 2) x w ++ y)) in
      let pl : length w - length full ≡ s = place_of w full s (omega arith) (shape y (byte_at w x 62 T.within.1 q)) in
      let cu : st'.cur ≡ k = ap (λ (z : St). z.cur) e ∙ opened_cur (st_of st) (kind_at k) s T.said ∙ code_back k K.low in
      record {
        tags = start (length full) n T.said ∷ [];
        within = (omega (arith, T.within.0), omega (arith, T.within.1));
        derives = λ u d.
            let d1 : Rest (n ∷ K.top ∷ K.rest) (drop (x + 1) w) u = rw (letter, ← K.around, ← K.names, ← cu) d in
            rw K.around (opens w i s (s + 2) x hs is sl lt (omega arith) name inside q K.top K.rest u d1);
        judged = λ u. start_judged (length w - length full) pl (placed (length w) u) ∙ ap (λ (z : St). judge_fold z (placed (length w) u)) (sym e);
        sound = so;
        lies = lies_by _ (starts_one (length w - length full) n T.said (kind_at k) s known_as pl);
        near = omega (arith, T.near);
        before = T.before;
        grown = T.grown;
        room = T.room;
      }

  -- a tag that closes itself
  pub step_shut : (st' : State) → get_or w x 0 ≡ 47 → x + 1 < length w → get_or w (x + 1) 0 ≡ 62 → st_of st' ≡ closed (opened (st_of st) (kind_at k) s T.said) → Sound st'
      → StepIn w i (x + 2) st st' t t' f next side side' m m'
  step_shut st' q l r e so =
      let z : x + 1 + 1 ≡ x + 2 = omega arith in
      let y : List ℕ = 47 ∷ 62 ∷ drop (x + 2) w in
      let n = slice (s + 1) (s + 2) w in
      let full : List ℕ = 60 ∷ (n ++ (slice (s + 2) x w ++ y)) in
      let yy : drop x w ≡ y = byte_at w x 47 T.within.1 q ∙ ap (λ (u : List ℕ). 47 ∷ u) (byte_at w (x + 1) 62 l r ∙ ap (λ (j : ℕ). 62 ∷ drop j w) z) in
      let pl : length w - length full ≡ s = place_of w full s (omega arith) (shape y yy) in
      let cu : st'.cur ≡ st.cur =
      ap (λ (z : St). z.cur) e ∙ closed_cur (opened (st_of st) (kind_at k) s T.said) ∙ ap parent (opened_cur (st_of st) (kind_at k) s T.said ∙ code_back k K.low) ∙ parents k K.low ∙ K.outer in
      record {
        tags = start (length full) n T.said ∷ end ∷ [];
        within = (omega (arith, T.within.0), omega arith);
        derives = λ u d.
            let d1 : Rest (K.top ∷ K.rest) (drop (x + 2) w) u = rw (← K.around, ← cu) d in
            rw K.around (shuts w i s (s + 2) x hs is sl lt (omega arith) name inside q l r K.top K.rest u d1);
        judged = λ u. start_judged (length w - length full) pl (end ∷ placed (length w) u) ∙ on_end (opened (st_of st) (kind_at k) s T.said) (end ∷ placed (length w) u) (placed (length w) u) refl
            ∙ ap (λ (z : St). judge_fold z (placed (length w) u)) (sym e);
        sound = so;
        lies = lies_by _ (starts_two (length w - length full) n T.said (kind_at k) s known_as pl);
        near = omega (arith, T.near);
        before = T.before;
        grown = T.grown;
        room = T.room;
      }

  -- a tag that closes itself or not, as `shut` tells
  pub step_either : (shut : Bool) (y : ℕ) (st' : State) → eqb (get_or w x 0) 47 ≡ shut → y ≡ if shut (x + 1) x → get_or w y 0 ≡ 62
      → st_of st' ≡ left shut (opened (st_of st) (kind_at k) s T.said) → Sound st' → StepIn w i (y + 1) st st' t t' f next side side' m m'
  step_either true y st' c h q e so =
      let l : x + 1 < length w = in_it w (x + 1) (λ z. omega (arith, z, rw h at q)) in
      let z : x + 1 + 1 ≡ x + 2 = omega arith in
      rw (h, z) (step_shut st' (eqb-true (get_or w x 0) 47 c) l (rw h at q) e so)
  step_either false y st' c h q e so = rw h (step_open st' (rw h at q) e so)
