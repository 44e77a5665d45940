-- MadeLaws: the tags of a page up to a place: in the grammar, in the state, and on the tape; and the page at its end.
-- Assumes nothing.
use mathlib.Core.Path.{◌≡◌, refl, sym, ap, ◌∙◌, subst}
use mathlib.Core.Bool.{Bool, false}
use mathlib.Core.List.{List, [], ◌∷◌, ◌++◌, append_assoc, append-nil}
use Prim.Native.Nat.{ℕ, ◌+◌, ◌*◌, ◌-◌, ◌≤◌, ◌<◌}
use native.Mathlib.Omega.{arith}
use lib.ListN.{length, get_or, drop}
use lib.Seq.{slice}
use Rattle.paper.specs.Lists.{until}
use Rattle.paper.specs.Bytes.{is_space}
use Rattle.paper.specs.Grammar.{Tag, start, end, Rest, Page, placed}
use Rattle.paper.specs.Fields.{fields_of}
use Rattle.paper.specs.Judging.{Fault, slots_of, sheet, judge}
use Rattle.fields.specs.Places.{kind_at}
use Rattle.fields.proofs.TableLaws.{code_back}
use Rattle.markup.specs.Walk.{tags_at}
use Rattle.sheet.specs.Fold.{St, outside, kind_under, kids_of, barred, full, opened, closed, finished, judge_fold, fold_page}
use Rattle.sheet.specs.Judged.{st_of, Sound}
use Rattle.sheet.specs.Content.{kind_named, content_of}
use Rattle.sheet.specs.declared.state.State.{State}
use Rattle.sheet.proofs.FoldJudge.{fold_start}
use Rattle.sheet.proofs.FoldContent.{fold_sheet}
use Rattle.sheet.proofs.JudgeLaws.{on_end, on_nothing}
use Rattle.quick.specs.Passed.{InsideAt, parent_of, open_names, NameAt, PageAt}
use Rattle.tape.specs.Tape.{header, Elem, elem, starts_of, elems_of, sheet_by, ElemAt, Lies, Makes}
use Rattle.quick.specs.Taken.{TagIn}
use Rattle.quick.specs.Stepped.{StepIn, EndAt, On}
use Rattle.tape.proofs.TapeLaws.{lies_more, lies_up, starts_append, sheet_by_lem}
use Rattle.room.proofs.Alike.{agree, take_more}
use Rattle.quick.proofs.TagLaws.{behind, byte_at, begins, closes, rest_end}
use Rattle.quick.proofs.Scanned.{found}
use Rattle.quick.proofs.Allowed.{page_allowed}
use Rattle.quick.proofs.StepLaws.{parents, place_of, starts_one, opened_cur, closed_cur}

-- ---- elements behind elements

pub lies_append : (w s : List ℕ) (m : ℕ) (t : List ℕ) (i j k : ℕ) (es us : List Elem) → Lies w s m t i j es → Lies w s m t j k us → Lies w s m t i k (es ++ us)
lies_append w s m t i j k [] us L R = rw L R
lies_append w s m t i j k (x ∷ es) us L R = (L.0, lies_append w s m t (i + header + 2 * length (fields_of x.kind)) j k es us L.1 R)

placed_append : (n : ℕ) (a b : List Tag) → placed n (a ++ b) ≡ placed n a ++ placed n b
placed_append n [] b = refl
placed_append n (start i x l ∷ a) b = rw (placed_append n a b)
placed_append n (end ∷ a) b = rw (placed_append n a b)

none_more : (w s : List ℕ) (m : ℕ) (t : List ℕ) (f : ℕ) → Lies w s m t f f (starts_of (end ∷ []))
unfolding starts_of
none_more w s m t f = refl

all_fold : (ts : List Tag) → fold_page ts ≡ judge_fold outside ts
unfolding fold_page
all_fold ts = refl

-- what may follow when nothing is open
none_open : (w : List ℕ) (i c : ℕ) → c ≡ 0 → Rest [] (drop i w) [] → Rest (open_names c) (drop i w) []
unfolding open_names
none_open w i c e d = rw e d

-- ---- the tags up to i

module _ {w t₀ t side₀ side : List ℕ} {m₀ m first f i : ℕ} {st : State} (H : On w t₀ t side₀ side m₀ m first f i st) where
  -- a start tag more
  pub on_step : {r f' m' : ℕ} {st' : State} {t' side' : List ℕ} → StepIn w i r st st' t t' f f' side side' m m' → length t' ≡ length t → length side' ≡ length side
      → On w t₀ t' side₀ side' m₀ m' first f' r st'
  on_step {r} {f'} {m'} {st'} {t'} {side'} X lt ls =
      let G = X.grown in
      let more : Lies w side' m' t' first f (starts_of (placed (length w) H.said)) =
      lies_more w side side' m m' G.same G.up t t' first f (starts_of (placed (length w) H.said)) (agree t t' first f X.before) H.lies in
      let both = lies_append w side' m' t' first f f' (starts_of (placed (length w) H.said)) (starts_of (placed (length w) X.tags)) more X.lies in
      let e : starts_of (placed (length w) (H.said ++ X.tags)) ≡ starts_of (placed (length w) H.said) ++ starts_of (placed (length w) X.tags) =
      ap starts_of (placed_append (length w) H.said X.tags) ∙ starts_append (placed (length w) H.said) (placed (length w) X.tags) in
      let step-up : f ≤ f' = lies_up w side' side' m' m' refl (omega arith) t' f f' (starts_of (placed (length w) X.tags)) X.lies in
      record {
        said = H.said ++ X.tags;
        within = X.within.1;
        so_far = λ u d. rw (append_assoc H.said X.tags u) (H.so_far (X.tags ++ u) (X.derives u d));
        judged = λ u. rw (append_assoc H.said X.tags u) (H.judged (X.tags ++ u) ∙ X.judged u);
        sound = X.sound;
        lies = rw e both;
        near = omega (arith, H.near, X.near);
        before = take_more t t' f first (omega (arith, H.up)) X.before ∙ H.before;
        grown = record { same = take_more side side' m m₀ H.grown.up G.same ∙ H.grown.same; up = omega (arith, H.grown.up, G.up) };
        room = X.room;
        up = omega (arith, H.up, step-up);
        long = (lt ∙ H.long.0, ls ∙ H.long.1);
      }

  -- the open element ends
  pub on_close : {s r : ℕ} {st' : State} → s ≡ i + until is_space (drop i w) → i ≤ s → s < length w → get_or w s 0 ≡ 60 → s + 1 < length w → get_or w (s + 1) 0 ≡ 47 → EndAt w s st.cur r
      → st_of st' ≡ closed (st_of st) → Sound st' → On w t₀ t side₀ side m₀ m first f r st'
  on_close {s} {r} {st'} hs is sl lt sl' e47 E q so =
      let N = E.name in
      let cu : st'.cur ≡ parent_of st.cur = ap (λ (z : St). z.cur) q ∙ closed_cur (st_of st) ∙ parents st.cur H.sound.known in
      let e : placed (length w) (H.said ++ end ∷ []) ≡ placed (length w) H.said ++ end ∷ [] = placed_append (length w) H.said (end ∷ []) in
      record {
        said = H.said ++ end ∷ [];
        within = omega (arith, E.behind, E.within.1);
        so_far = λ u d.
            let d0 : Rest (open_names (parent_of st.cur)) (drop (E.close_at + 1) w) u = rw (← E.behind, ← cu) d in
            let d1 = closes w i s E.name_end_at E.close_at hs is sl lt sl' e47 (omega (arith, N.within.0)) E.within.0 E.spaces E.within.1 E.closes (open_names (parent_of st.cur)) u d0 in
            let d2 : Rest (open_names st.cur) (drop i w) (end ∷ u) = rw N.names d1 in
            rw (append_assoc H.said (end ∷ []) u) (H.so_far (end ∷ u) d2);
        judged = λ u. rw (append_assoc H.said (end ∷ []) u) (H.judged (end ∷ u) ∙ on_end (st_of st) (end ∷ placed (length w) u) (placed (length w) u) refl ∙ ap (λ (z : St). judge_fold z (placed (length w) u)) (sym q));
        sound = so;
        lies = rw (e, starts_append (placed (length w) H.said) (end ∷ [])) (lies_append w side m t first f f (starts_of (placed (length w) H.said)) (starts_of (end ∷ [])) H.lies (none_more w side m t f));
        near = omega (arith, H.near, E.behind, E.within.0, N.within.0);
        before = H.before;
        grown = H.grown;
        room = H.room;
        up = H.up;
        long = H.long;
      }

  -- the page's end
  pub on_done : {e : ℕ} → st.cur ≡ 0 → e ≡ i + until is_space (drop i w) → e ≡ length w → (finished (st_of st)).no ≡ 9 → 1 ≤ length w → length w ≤ 1400 → Makes w t₀ t first f side₀ side m₀ m
  on_done {e} z he el fin low high =
      let ts = H.said ++ [] in
      let d : Page w ts = H.so_far [] (none_open w i st.cur z (rest_end w i e H.within he el)) in
      let P : PageAt w = record { said = ts; derives = d } in
      let tags : tags_at w 0 ≡ placed (length w) ts = found w P in
      let nine : (fold_page (placed (length w) ts)).no ≡ 9 = ap (λ (x : Fault). x.no) (all_fold (placed (length w) ts) ∙ H.judged [] ∙ on_nothing (st_of st) [] [] refl) ∙ fin in
      let j : judge w ≡ sheet (content_of (placed (length w) ts)) = (fold_sheet w ts low high (page_allowed w ts d) d).1 nine in
      let els : elems_of w ≡ starts_of (placed (length w) ts) = ap starts_of tags in
      record {
        taped = record {
          judged = j ∙ ap sheet (sym (ap sheet_by els ∙ sheet_by_lem (placed (length w) ts)));
          lies = rw (els, append-nil H.said) H.lies;
          some = H.up;
          within = (H.room.1, H.room.0);
        };
        kept = record { tape = H.before; aside_too = H.grown.same };
        up = H.grown.up;
      }

-- ---- the page's element begins

pub root_free : barred outside (kind_at 1) ≡ false
unfolding barred full kind_at
root_free = refl

root_kind : (n : List ℕ) → n ≡ 77 ∷ 80 ∷ [] → (kind_under 0 n ≡ kind_at 1) × (kind_named n ≡ kind_at 1)
unfolding kind_under kids_of kind_at kind_named
root_kind n e = rw e (refl, refl)

root_name : (n : List ℕ) (ns : List (List ℕ)) → open_names 1 ≡ n ∷ ns → n ≡ 77 ∷ 80 ∷ []
unfolding open_names
root_name n ns e = sym (ap (λ (l : List (List ℕ)). get_or l 0 []) e)

root_open : (n : List ℕ) → open_names 1 ≡ n ∷ open_names (parent_of 1) → open_names 1 ≡ n ∷ []
unfolding open_names
root_open n e = e

module _ {w : List ℕ} {p e x first f : ℕ} {t₀ t side₀ side : List ℕ} {m₀ m : ℕ} {needs : Bool} (hp : p ≡ 0 + until is_space (drop 0 w)) (pl : p < length w) (lt : get_or w p 0 ≡ 60)
    (N : NameAt w (p + 1) 1 e) (T : TagIn w (kind_at 1) first p e x t₀ t side₀ side m₀ m f needs) where
  pub on_first : (st₀ st : State) → get_or w x 0 ≡ 62 → st_of st₀ ≡ outside → st_of st ≡ opened (st_of st₀) (kind_at 1) p T.said → Sound st → length t ≡ length t₀ → length side ≡ length side₀
      → On w t₀ t side₀ side m₀ m first f (x + 1) st
  on_first st₀ st q z₀ z so lt₁ ls₁ =
      let y : List ℕ = 62 ∷ drop (x + 1) w in
      let n : List ℕ = slice (p + 1) e w in
      let tag : List ℕ = 60 ∷ (n ++ (slice e x w ++ y)) in
      let I : InsideAt w e x = record { said = T.said; within = T.within; derives = T.derives } in
      let mp : n ≡ 77 ∷ 80 ∷ [] = root_name n (open_names (parent_of 1)) N.names in
      let k = root_kind n mp in
      let sh : drop p w ≡ tag =
      byte_at w p 60 pl lt ∙ ap (λ (u : List ℕ). 60 ∷ u)
      (behind w (p + 1) e (omega (arith, N.within.0)) (omega (arith, T.within.0, T.within.1)) ∙ ap (λ (u : List ℕ). n ++ u)
      (behind w e x T.within.0 (omega (arith, T.within.1)) ∙ ap (λ (u : List ℕ). slice e x w ++ u) (byte_at w x 62 T.within.1 q))) in
      let at_p : length w - length tag ≡ p = place_of w tag p (omega arith) sh in
      let z₁ : st_of st ≡ opened outside (kind_at 1) p T.said = z ∙ ap (λ (v : St). opened v (kind_at 1) p T.said) z₀ in
      let cu : st.cur ≡ 1 = ap (λ (v : St). v.cur) z₁ ∙ opened_cur outside (kind_at 1) p T.said ∙ code_back 1 (omega arith) in
      record {
        said = start (length tag) n T.said ∷ [];
        within = omega (arith, T.within.1);
        so_far = λ u d.
            let d1 : Rest (n ∷ []) (drop (x + 1) w) u = subst (λ (ns : List (List ℕ)). Rest ns (drop (x + 1) w) u) (ap open_names cu ∙ root_open n N.names) d in
            begins w 0 p e x hp (omega arith) pl lt (omega (arith, N.within.0)) N.name I q u d1;
        judged = λ u. fold_start outside (length w - length tag) n T.said (placed (length w) u) (kind_at 1) k.0 ∙ rw (root_free, T.known, at_p) (ap (λ (v : St). judge_fold v (placed (length w) u)) (sym z₁));
        sound = so;
        lies = rw (starts_one (length w - length tag) n T.said (kind_at 1) p k.1 at_p)
            (subst (λ (j : ℕ). ElemAt w side m t first j (elem (kind_at 1) p (slots_of (fields_of (kind_at 1)) T.said))) T.next_is T.element, sym T.next_is);
        near = omega (arith, T.near);
        before = T.before;
        grown = T.grown;
        room = T.room;
        up = omega (arith, T.next_is);
        long = (lt₁, ls₁);
      }
