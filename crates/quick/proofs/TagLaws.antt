-- TagLaws: tags behind each other, by the grammar's constructors.
-- Assumes nothing.
use mathlib.Core.Path.{◌≡◌, refl, sym, ap, ◌∙◌}
use mathlib.Core.List.{List, [], ◌∷◌, ◌++◌}
use Prim.Native.Nat.{ℕ, suc, ◌+◌, ◌≤◌, ◌<◌}
use native.Mathlib.Numerals.{add-one}
use native.Mathlib.Omega.{arith}
use lib.ListN.{length, get_or, take, drop, take-append-drop, drop_of_length-le}
use lib.Seq.{slice, slice_empty, slice-cons, drop-cons, drop-append-le, length-take-le}
use Rattle.paper.specs.Lists.{until, All}
use Rattle.paper.specs.Bytes.{is_space}
use Rattle.paper.specs.Grammar.{Tag, start, end, Rest, Page, space, bare, full, close, done, Space, Name}
use Rattle.fields.specs.Places.{kind_at}
use Rattle.sheet.specs.Fold.{kind_under, kids_of}
use Rattle.sheet.specs.Content.{kind_named}
use Rattle.quick.specs.Passed.{InsideAt, open_names, Kid, NameAt}
use Rattle.quoted.proofs.Pieces.{all_run}

-- ---- the rest of a page from a place on

module _ (w : List ℕ) where
  pub behind : (i j : ℕ) → i ≤ j → j ≤ length w → drop i w ≡ slice i j w ++ drop j w
  behind i j h l =
      let m : length (take j w) ≡ j = length-take-le j w l in
      ap (drop i) (sym (take-append-drop j w)) ∙ drop-append-le i (take j w) (drop j w) (omega arith)

  pub byte_at : (i c : ℕ) → i < length w → get_or w i 0 ≡ c → drop i w ≡ c ∷ drop (i + 1) w
  byte_at i c h e = drop-cons w i 0 h ∙ rw (e, add-one i)

-- ---- spaces

spaces_rest : (ns : List (List ℕ)) (s : List ℕ) → All Space s → (x : List ℕ) (t : List Tag) → Rest ns x t → Rest ns (s ++ x) t
spaces_rest ns [] a x t d = d
spaces_rest ns (c ∷ s) a x t d = space a.0 (spaces_rest ns s a.1 x t d)

spaces_page : (s : List ℕ) → All Space s → (x : List ℕ) (t : List Tag) → Page x t → Page (s ++ x) t
spaces_page [] a x t d = d
spaces_page (c ∷ s) a x t d = space a.0 (spaces_page s a.1 x t d)

-- ---- the parts of a start tag

module _ (w : List ℕ) (i p e x : ℕ) (hp : p ≡ i + until is_space (drop i w)) (ip : i ≤ p) (pl : p < length w) (lt : get_or w p 0 ≡ 60) (pe : p + 1 ≤ e)
    (na : Name (slice (p + 1) e w)) (I : InsideAt w e x) where
  shape : (y : List ℕ) → drop x w ≡ y → drop i w ≡ slice i p w ++ (60 ∷ (slice (p + 1) e w ++ (slice e x w ++ y)))
  shape y q =
      let h = I.within in
      behind w i p ip (omega arith) ∙ ap (λ (z : List ℕ). slice i p w ++ z)
      (byte_at w p 60 pl lt ∙ ap (λ (z : List ℕ). 60 ∷ z)
      (behind w (p + 1) e pe (omega (arith, h.0, h.1)) ∙ ap (λ (z : List ℕ). slice (p + 1) e w ++ z)
      (behind w e x h.0 (omega (arith, h.1)) ∙ ap (λ (z : List ℕ). slice e x w ++ z) q)))

  abbrev opened : Tag
  opened = start (length (60 ∷ (slice (p + 1) e w ++ (slice e x w ++ 62 ∷ drop (x + 1) w)))) (slice (p + 1) e w) I.said

  abbrev shut : Tag
  shut = start (length (60 ∷ (slice (p + 1) e w ++ (slice e x w ++ 47 ∷ 62 ∷ drop (x + 2) w)))) (slice (p + 1) e w) I.said

  pub opens : get_or w x 0 ≡ 62 → (m : List ℕ) (ns : List (List ℕ)) (t : List Tag) → Rest (slice (p + 1) e w ∷ m ∷ ns) (drop (x + 1) w) t → Rest (m ∷ ns) (drop i w) (opened ∷ t)
  opens q m ns t d =
      let f : Rest (m ∷ ns) (60 ∷ (slice (p + 1) e w ++ (slice e x w ++ 62 ∷ drop (x + 1) w))) (opened ∷ t) = full (slice (p + 1) e w) (slice e x w) na I.derives d in
      rw (shape (62 ∷ drop (x + 1) w) (byte_at w x 62 I.within.1 q)) (spaces_rest (m ∷ ns) (slice i p w) (all_run is_space w i p hp) _ (opened ∷ t) f)

  pub begins : get_or w x 0 ≡ 62 → (t : List Tag) → Rest (slice (p + 1) e w ∷ []) (drop (x + 1) w) t → Page (drop i w) (opened ∷ t)
  begins q t d =
      let f : Page (60 ∷ (slice (p + 1) e w ++ (slice e x w ++ 62 ∷ drop (x + 1) w))) (opened ∷ t) = full (slice (p + 1) e w) (slice e x w) na I.derives d in
      rw (shape (62 ∷ drop (x + 1) w) (byte_at w x 62 I.within.1 q)) (spaces_page (slice i p w) (all_run is_space w i p hp) _ (opened ∷ t) f)

  pub shuts : get_or w x 0 ≡ 47 → x + 1 < length w → get_or w (x + 1) 0 ≡ 62 → (m : List ℕ) (ns : List (List ℕ)) (t : List Tag) → Rest (m ∷ ns) (drop (x + 2) w) t
      → Rest (m ∷ ns) (drop i w) (shut ∷ end ∷ t)
  shuts q l r m ns t d =
      let z : x + 1 + 1 ≡ x + 2 = omega arith in
      let y : drop x w ≡ 47 ∷ 62 ∷ drop (x + 2) w = byte_at w x 47 I.within.1 q ∙ ap (λ (u : List ℕ). 47 ∷ u) (byte_at w (x + 1) 62 l r ∙ ap (λ (k : ℕ). 62 ∷ drop k w) z) in
      let f : Rest (m ∷ ns) (60 ∷ (slice (p + 1) e w ++ (slice e x w ++ 47 ∷ 62 ∷ drop (x + 2) w))) (shut ∷ end ∷ t) = bare (slice (p + 1) e w) (slice e x w) na I.derives d in
      rw (shape (47 ∷ 62 ∷ drop (x + 2) w) y) (spaces_rest (m ∷ ns) (slice i p w) (all_run is_space w i p hp) _ (shut ∷ end ∷ t) f)

-- ---- an end tag

pub closes : (w : List ℕ) (i s e g : ℕ) → s ≡ i + until is_space (drop i w) → i ≤ s → s < length w → get_or w s 0 ≡ 60 → s + 1 < length w → get_or w (s + 1) 0 ≡ 47
    → s + 2 ≤ e → e ≤ g → g ≡ e + until is_space (drop e w) → g < length w → get_or w g 0 ≡ 62
    → (ns : List (List ℕ)) (t : List Tag) → Rest ns (drop (g + 1) w) t → Rest (slice (s + 2) e w ∷ ns) (drop i w) (end ∷ t)
closes w i s e g hs is sl lt sl' sl47 se eg hg gl gt ns t d =
    let z : s + 1 + 1 ≡ s + 2 = omega arith in
    let y : drop (s + 2) w ≡ slice (s + 2) e w ++ (slice e g w ++ 62 ∷ drop (g + 1) w) =
    behind w (s + 2) e se (omega arith) ∙ ap (λ (u : List ℕ). slice (s + 2) e w ++ u) (behind w e g eg (omega arith) ∙ ap (λ (u : List ℕ). slice e g w ++ u) (byte_at w g 62 gl gt)) in
    let q : drop i w ≡ slice i s w ++ (60 ∷ 47 ∷ (slice (s + 2) e w ++ (slice e g w ++ 62 ∷ drop (g + 1) w))) =
    behind w i s is (omega arith) ∙ ap (λ (u : List ℕ). slice i s w ++ u)
    (byte_at w s 60 sl lt ∙ ap (λ (u : List ℕ). 60 ∷ u) (byte_at w (s + 1) 47 sl' sl47 ∙ ap (λ (u : List ℕ). 47 ∷ u) (ap (λ (k : ℕ). drop k w) z ∙ y))) in
    let f : Rest (slice (s + 2) e w ∷ ns) (60 ∷ 47 ∷ (slice (s + 2) e w ++ (slice e g w ++ 62 ∷ drop (g + 1) w))) (end ∷ t) = close (slice (s + 2) e w) (slice e g w) (all_run is_space w e g hg) d in
    rw q (spaces_rest (slice (s + 2) e w ∷ ns) (slice i s w) (all_run is_space w i s hs) _ (end ∷ t) f)

-- ---- names and the page's end

-- one letter
pub letter_at : (w : List ℕ) (i b : ℕ) → i < length w → get_or w i 0 ≡ b → slice i (i + 1) w ≡ b ∷ []
letter_at w i b h e =
    let z : slice (suc i) (i + 1) w ≡ [] = rw (add-one i) (slice_empty (suc i) w) in
    slice-cons i (i + 1) w 0 (omega arith) (omega arith) ∙ rw (e, z)

-- nothing but spaces is left
pub rest_end : (w : List ℕ) (i e : ℕ) → i ≤ length w → e ≡ i + until is_space (drop i w) → e ≡ length w → Rest [] (drop i w) []
rest_end w i e il he el =
    let f : e ≤ length w = omega arith in
    let f' : length w ≤ e = omega arith in
    let q : drop i w ≡ slice i e w ++ [] = behind w i e (omega arith) f ∙ ap (λ (u : List ℕ). slice i e w ++ u) (drop_of_length-le w f') in
    rw q (spaces_rest [] (slice i e w) (all_run is_space w i e he) [] [] done)

-- ---- names

pub kid_p : (c b : ℕ) → c ≡ 1 → b ≡ 80 → Kid c b 2
unfolding open_names kind_under kids_of kind_at kind_named
kid_p c b e f = rw (e, f) (record { letter = refl; top = 77 ∷ 80 ∷ []; rest = []; around = refl; names = refl; outer = refl; kind = refl; named = refl; low = omega arith })

pub kid_a : (c b : ℕ) → c ≡ 1 → b ≡ 65 → Kid c b 3
unfolding open_names kind_under kids_of kind_at kind_named
kid_a c b e f = rw (e, f) (record { letter = refl; top = 77 ∷ 80 ∷ []; rest = []; around = refl; names = refl; outer = refl; kind = refl; named = refl; low = omega arith })

pub kid_o : (c b : ℕ) → c ≡ 1 → b ≡ 79 → Kid c b 4
unfolding open_names kind_under kids_of kind_at kind_named
kid_o c b e f = rw (e, f) (record { letter = refl; top = 77 ∷ 80 ∷ []; rest = []; around = refl; names = refl; outer = refl; kind = refl; named = refl; low = omega arith })

pub kid_s_lem : (c b : ℕ) → c ≡ 1 → b ≡ 83 → Kid c b 5
unfolding open_names kind_under kids_of kind_at kind_named
kid_s_lem c b e f = rw (e, f) (record { letter = refl; top = 77 ∷ 80 ∷ []; rest = []; around = refl; names = refl; outer = refl; kind = refl; named = refl; low = omega arith })

pub kid_m_lem : (c b : ℕ) → c ≡ 5 → b ≡ 77 → Kid c b 6
unfolding open_names kind_under kids_of kind_at kind_named
kid_m_lem c b e f = rw (e, f) (record { letter = refl; top = 83 ∷ []; rest = (77 ∷ 80 ∷ []) ∷ []; around = refl; names = refl; outer = refl; kind = refl; named = refl; low = omega arith })

pub kid_r : (c b : ℕ) → c ≡ 5 → b ≡ 82 → Kid c b 8
unfolding open_names kind_under kids_of kind_at kind_named
kid_r c b e f = rw (e, f) (record { letter = refl; top = 83 ∷ []; rest = (77 ∷ 80 ∷ []) ∷ []; around = refl; names = refl; outer = refl; kind = refl; named = refl; low = omega arith })

pub kid_x : (c b : ℕ) → c ≡ 5 → b ≡ 88 → Kid c b 9
unfolding open_names kind_under kids_of kind_at kind_named
kid_x c b e f = rw (e, f) (record { letter = refl; top = 83 ∷ []; rest = (77 ∷ 80 ∷ []) ∷ []; around = refl; names = refl; outer = refl; kind = refl; named = refl; low = omega arith })

pub kid_w : (c b : ℕ) → c ≡ 6 → b ≡ 87 → Kid c b 7
unfolding open_names kind_under kids_of kind_at kind_named
kid_w c b e f = rw (e, f) (record { letter = refl; top = 77 ∷ []; rest = (83 ∷ []) ∷ (77 ∷ 80 ∷ []) ∷ []; around = refl; names = refl; outer = refl; kind = refl; named = refl; low = omega arith })

-- MP stands here
pub name_mp : (w : List ℕ) (i c : ℕ) → c ≡ 1 → i + 1 < length w → get_or w i 0 ≡ 77 → get_or w (i + 1) 0 ≡ 80 → NameAt w i c (i + 2)
unfolding open_names
name_mp w i c z h e f =
    let y : i + 1 + 1 ≡ i + 2 = omega arith in
    let v : slice (i + 1) (i + 2) w ≡ 80 ∷ [] = ap (λ (m : ℕ). slice (i + 1) m w) (sym y) ∙ letter_at w (i + 1) 80 h f in
    let u : slice i (i + 2) w ≡ 77 ∷ 80 ∷ [] = slice-cons i (i + 2) w 0 (omega arith) (omega arith) ∙ rw (e, ← add-one i, v) in
    record { within = (omega arith, omega arith); name = rw u (refl, (refl, tt)); names = rw (z, u) }
