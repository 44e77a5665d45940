-- PageLaws: a page laid element by element: those before a place lie on the tape, those of the tags from it on are still to come.
-- Assumes nothing.
use mathlib.Core.Path.{◌≡◌, refl, sym, ap, ◌∙◌, subst}
use mathlib.Core.Bool.{Bool, true, false}
use mathlib.Core.List.{List, [], ◌∷◌, ◌++◌, append_assoc, append-nil}
use Prim.Native.Nat.{ℕ, ◌+◌, ◌*◌, ◌≤◌, ◌<◌}
use native.Mathlib.Omega.{arith}
use lib.ListN.{length}
use lib.Seq.{slice}
use Rattle.std.specs.Prelude.{Option, None, Some, MatchOption}
use Rattle.paper.specs.Lists.{concat}
use Rattle.paper.specs.Grammar.{Tag, start, end, placed}
use Rattle.paper.specs.Fields.{code, fields_of}
use Rattle.paper.specs.Judging.{names, slots_of, Sheet, Judged, refused, sheet, judge}
use Rattle.paper.proofs.Small.{no}
use Rattle.paper.proofs.Told.{Root, page_placed}
use Rattle.paper.proofs.ReadSound.{judges}
use Rattle.markup.specs.Walk.{Inside, inside_at, tags_at, opened, ended}
use Rattle.fields.specs.Places.{kind_at, count_of}
use Rattle.fields.proofs.TableLaws.{kind_back}
use Rattle.sheet.specs.Fold.{strange}
use Rattle.sheet.specs.Judged.{is_fine}
use Rattle.sheet.specs.Found.{Lie, Tells, told}
use Rattle.sheet.specs.Content.{kind_named, content_of}
use Rattle.sheet.proofs.FoldContent.{content_is}
use Rattle.sheet.proofs.FoundLaws.{count_is}
use Rattle.sheet.proofs.FlawLaws.{told_slots}
use Rattle.tape.specs.Tape.{Elem, elem, header, starts_of, elems_of, sheet_by, Lies, Kept, Makes}
use Rattle.tape.specs.Rooms.{tape_room, side_room, width, values_length}
use Rattle.tape.specs.Making.{IsSheet, LaysElem}
use Rattle.tape.proofs.TapeLaws.{sheet_by_lem, lies_more, lies_one}
use Rattle.room.proofs.Alike.{take_more, agree}
use Rattle.tape.proofs.CleanLaws.{Known, known_tags}
use Rattle.tape.proofs.RoomLaws.{page_tags, page_clean, tape_enough, side_enough, lies_wide}
use Rattle.tape.proofs.WalkLaws.{Ends, Starts}

-- ---- a page that is judged to a sheet

-- It is judged to what its elements say.
pub is_sheet_lem : (w : List ℕ) (s : Sheet) → judge w ≡ sheet s → IsSheet w
is_sheet_lem w s e =
    let j = judges w s e in
    let ts : List Tag = placed (length w) j.tags in
    let c : content_of ts ≡ s = sym (content_is ts (page_placed (length w) j.taken) j.clean) ∙ j.told in
    e ∙ ap sheet (sym (ap (λ (x : List Tag). sheet_by (starts_of x)) (page_tags w s e) ∙ sheet_by_lem ts ∙ c))

-- so is a page that the judge of crate `sheet` finds fine
pub fine_sheet : (w : List ℕ) → is_fine (judge w) ≡ true → IsSheet w
fine_sheet w e = at (judge w) refl e
  where
    at : (j : Judged) → judge w ≡ j → is_fine j ≡ true → IsSheet w
    at (refused n i) q h = no (sym h)
    at (sheet s) q h = is_sheet_lem w s q

-- it has an element
some_width : (ts : List Tag) → Root ts → 0 < width (starts_of ts)
unfolding width starts_of
some_width [] r = absurd r
some_width (end ∷ ts) r = absurd r
some_width (start i n l ∷ ts) r = omega arith

pub page_width : (w : List ℕ) (s : Sheet) → judge w ≡ sheet s → 0 < width (elems_of w)
page_width w s e = let j = judges w s e in rw (page_tags w s e) (some_width (placed (length w) j.tags) (page_placed (length w) j.taken))

-- ---- elements behind elements

width_append : (es us : List Elem) → width (es ++ us) ≡ width es + width us
unfolding width
width_append [] us = omega arith
width_append (e ∷ es) us = omega (arith, width_append es us)

values_append : (es us : List Elem) → values_length (es ++ us) ≡ values_length es + values_length us
unfolding values_length
values_append [] us = omega arith
values_append (e ∷ es) us = omega (arith, values_append es us)

width_one : (e : Elem) (es : List Elem) → width (e ∷ es) ≡ header + 2 * length (fields_of e.kind) + width es
unfolding width
width_one e es = refl

values_one : (e : Elem) (es : List Elem) → values_length (e ∷ es) ≡ length (concat e.slots) + values_length es
unfolding values_length
values_one e es = refl

no_elems : (values_length [] ≡ 0) × (starts_of [] ≡ [])
unfolding values_length starts_of
no_elems = (refl, refl)

-- ---- the next tag

-- no end tag gives an element
pub elems_end : (ts : List Tag) → starts_of (end ∷ ts) ≡ starts_of ts
unfolding starts_of
elems_end ts = refl

elems_ended : (b : Bool) (ts : List Tag) → starts_of (ended b ts) ≡ starts_of ts
unfolding starts_of
elems_ended true ts = refl
elems_ended false ts = refl

elems_start : (i : ℕ) (n : List ℕ) (I : Inside) (ts : List Tag) → starts_of (opened i n I ts) ≡ elem (kind_named n) i (slots_of (fields_of (kind_named n)) I.attrs) ∷ starts_of ts
unfolding starts_of
elems_start i n I ts = rw (elems_ended I.shut ts)

known_ended : (b : Bool) (ts : List Tag) → Known (ended b ts) → Known ts
known_ended true ts K = K
known_ended false ts K = K

-- what is known of the start tag that stands next, and of its raw values: k is its kind's number
pub record Here (w : List ℕ) (at p e k : ℕ) (rs : List ℕ) : Type 0 where
  pub elems : starts_of (tags_at w at) ≡ elem (kind_at k) p (told w (kind_at k) rs) ∷ starts_of (tags_at w (p + 1))
  pub lie : Lie w (count_of (kind_at k)) rs
  pub known : Known (tags_at w (p + 1))

module _ {w : List ℕ} {at p e : ℕ} (B : Starts w at p e) (K : Known (tags_at w at)) (k : ℕ) (q : k ≡ code (kind_named (slice (p + 1) e w))) where
  kind_is : kind_named (slice (p + 1) e w) ≡ kind_at k
  kind_is = sym (ap kind_at q ∙ kind_back (kind_named (slice (p + 1) e w)))

  opened_known : Known (opened p (slice (p + 1) e w) (inside_at w e) (tags_at w (p + 1)))
  opened_known = subst (λ (ts : List Tag). Known ts) B.tags K

  -- it has no attribute that is strange
  pub not_strange : strange (kind_at k) (names (inside_at w e).attrs) ≡ false
  not_strange = rw (← kind_is) opened_known.0

  -- what was found in it is told
  pub found_told : (r : Option Bool) (rs : List ℕ)
      → MatchOption r (strange (kind_at k) (names (inside_at w e).attrs) ≡ true)
      (λ b. (strange (kind_at k) (names (inside_at w e).attrs) ≡ false) × (b ≡ (inside_at w e).shut) × Tells w (kind_at k) rs (inside_at w e).attrs)
      → Tells w (kind_at k) rs (inside_at w e).attrs
  found_told None rs h = no (sym h ∙ not_strange)
  found_told (Some b) rs h = h.2

  pub here : {rs : List ℕ} → Tells w (kind_at k) rs (inside_at w e).attrs → Here w at p e k rs
  here {rs} T = record {
    elems = ap starts_of B.tags ∙ elems_start p (slice (p + 1) e w) (inside_at w e) (tags_at w (p + 1))
        ∙ rw (kind_is, told_slots T);
    lie = rw (count_is (kind_at k)) T.lie;
    known = known_ended (inside_at w e).shut (tags_at w (p + 1)) opened_known.1;
  }

-- ---- the elements before a place

-- they lie on the tape from i up to f, with their values in the side room from m₀ up to m
pub record On (w t₀ t : List ℕ) (i f : ℕ) (side₀ side : List ℕ) (m₀ m at : ℕ) : Type 0 where
  pub inner : at ≤ length w
  pub done : List Elem
  pub all : elems_of w ≡ done ++ starts_of (tags_at w at)
  pub known : Known (tags_at w at)
  pub lies : Lies w side m t i f done
  pub kept : Kept t₀ t i side₀ side m₀
  pub used_is : m ≡ m₀ + values_length done
  pub tape_long : length t ≡ length t₀
  pub side_long : length side ≡ length side₀

-- none lies there yet
pub on_begin : (w t : List ℕ) (i : ℕ) (side : List ℕ) (m : ℕ) → IsSheet w → On w t t i i side side m m 0
on_begin w t i side m e = record {
  inner = omega arith;
  done = [];
  all = refl;
  known = known_tags (tags_at w 0) _ (page_clean w (sheet_by (elems_of w)) e);
  lies = refl;
  kept = record { tape = refl; aside_too = refl };
  used_is = omega (arith, no_elems.0);
  tape_long = refl;
  side_long = refl;
}

module _ {w t₀ t : List ℕ} {i f : ℕ} {side₀ side : List ℕ} {m₀ m at : ℕ} (H : On w t₀ t i f side₀ side m₀ m at) where
  -- an end tag is passed
  pub on_end : {p : ℕ} → Ends w at p → On w t₀ t i f side₀ side m₀ m (p + 1)
  on_end {p} E = record {
    inner = omega (arith, E.inner);
    done = H.done;
    all = H.all ∙ ap (λ (ts : List Tag). H.done ++ starts_of ts) E.tags ∙ ap (λ (es : List Elem). H.done ++ es) (elems_end (tags_at w (p + 1)));
    known = rw E.tags at H.known;
    lies = H.lies;
    kept = H.kept;
    used_is = H.used_is;
    tape_long = H.tape_long;
    side_long = H.side_long;
  }

  wide : f ≡ i + width H.done
  wide = lies_wide w side m t i f H.done H.lies

  module _ {p e k : ℕ} {rs : List ℕ} (N : Here w at p e k rs) where
    x : Elem
    x = elem (kind_at k) p (told w (kind_at k) rs)

    all_here : elems_of w ≡ H.done ++ x ∷ starts_of (tags_at w (p + 1))
    unfolding x
    all_here = H.all ∙ ap (λ (es : List Elem). H.done ++ es) N.elems

    -- there is room for the next element
    pub elem_room : IsSheet w → f + header + 2 * count_of (kind_at k) ≤ i + tape_room
    unfolding x
    elem_room s = omega (
      arith,
      wide,
      tape_enough w (sheet_by (elems_of w)) s,
      ap width all_here,
      width_append H.done (x ∷ starts_of (tags_at w (p + 1))),
      width_one x (starts_of (tags_at w (p + 1))),
      count_is (kind_at k),
    )

    -- and for its values
    pub value_room : IsSheet w → m + length (concat (told w (kind_at k) rs)) ≤ m₀ + side_room
    unfolding x
    value_room s = omega (
      arith,
      H.used_is,
      side_enough w (sheet_by (elems_of w)) s,
      ap values_length all_here,
      values_append H.done (x ∷ starts_of (tags_at w (p + 1))),
      values_one x (starts_of (tags_at w (p + 1))),
    )

    -- the next element is laid
    pub on_elem : {t' : List ℕ} {f' : ℕ} {side' : List ℕ} {m' : ℕ} → p < length w → LaysElem w (elem (kind_at k) p (told w (kind_at k) rs)) t t' f f' side side' m m'
        → length t' ≡ length t → length side' ≡ length side → On w t₀ t' i f' side₀ side' m₀ m' (p + 1)
    unfolding x
    on_elem {t'} {f'} {side'} {m'} h L lt ls =
        let u = L.used_is in
        let v = H.used_is in
        let up : m ≤ m' = omega arith in
        let far : i ≤ f = omega (arith, wide) in
        record {
          inner = omega arith;
          done = H.done ++ x ∷ [];
          all = all_here ∙ sym (append_assoc H.done (x ∷ []) (starts_of (tags_at w (p + 1))));
          known = N.known;
          lies = lies_one w side' m' t' i f f' H.done x (lies_more w side side' m m' L.kept.aside_too up t t' i f H.done (agree t t' i f L.kept.tape) H.lies) L.element;
          kept = record {
            tape = take_more t t' f i far L.kept.tape ∙ H.kept.tape;
            aside_too = take_more side side' m m₀ (omega arith) L.kept.aside_too ∙ H.kept.aside_too;
          };
          used_is = omega (arith, values_append H.done (x ∷ []), values_one x [], no_elems.0);
          tape_long = lt ∙ H.tape_long;
          side_long = ls ∙ H.side_long;
        }

  -- no tag is left
  pub on_done : IsSheet w → tags_at w at ≡ [] → i + tape_room ≤ length t₀ → m₀ + side_room ≤ length side₀ → Makes w t₀ t i f side₀ side m₀ m × (f ≤ i + tape_room) × (m ≤ m₀ + side_room)
  on_done s e g h =
      let a : elems_of w ≡ H.done = H.all ∙ ap (λ (ts : List Tag). H.done ++ starts_of ts) e ∙ ap (λ (es : List Elem). H.done ++ es) no_elems.1 ∙ append-nil H.done in
      let u = H.used_is in
      let r : f ≤ i + tape_room = omega (arith, wide, ap width a, tape_enough w (sheet_by (elems_of w)) s) in
      let q : m ≤ m₀ + side_room = omega (arith, ap values_length a, side_enough w (sheet_by (elems_of w)) s) in (
        record {
          taped = record {
            judged = s;
            lies = rw a H.lies;
            some = omega (arith, wide, ap width a, page_width w (sheet_by (elems_of w)) s);
            within = (omega (arith, H.tape_long), omega (arith, H.side_long));
          };
          kept = H.kept;
          up = omega arith;
        },
        r,
        q,
      )
