-- PageLaws: pages by the ends of their rows: the rows of each page, and the pages laid one behind the other with their lengths.
-- Assumes nothing.
use mathlib.Core.Path.{◌≡◌, refl, ap, sym, ◌∙◌, subst}
use mathlib.Core.List.{List, [], ◌∷◌, ◌++◌, map, append_assoc, append-nil}
use Prim.Native.Nat.{ℕ, zero, suc, ◌+◌, ◌*◌, ◌-◌, ◌≤◌, ◌<◌}
use native.Mathlib.Numerals.{add-one}
use native.Mathlib.Omega.{arith}
use lib.ListN.{length, take, drop, get_or, set, replicate, length-append, length-set, drop_of_length-le}
use lib.Seq.{drop-drop, drop-cons, take_at, drop_at, get_or-take, length-take-le, take-suc-set, drop-set-lt}
use Rattle.paper.specs.Lists.{concat}
use Rattle.paper.specs.Plan.{Head, Row}
use Rattle.paper.specs.Writing.{page, pages}
use Rattle.plan.specs.Numbers.{show_rows, padded}
use Rattle.plan.proofs.Shown.{rows_shown}
use Rattle.room.specs.Laid.{laid}
use Rattle.room.specs.Written.{Wrote}
use Rattle.room.proofs.Pieces.{Going, going_start, going_fits, going_on, going_done, fits_whole}
use Rattle.writer.specs.Spelling.{rows_between}
use Rattle.writer.specs.Tags.{rows_placed}
use Rattle.writer.specs.Cutting.{Rising, parted}
use Rattle.writer.proofs.CutLaws.{offsets}
use Rattle.writer.proofs.Placed.{stretch_end}
use Rattle.writer.proofs.Stretches.{rows_split}

-- ---- the rows of each page

-- the ends of pages do not fall
pub rising : (qs : List (List Row)) (from n : ℕ) → from + length (concat qs) ≤ n → Rising from (offsets from qs) n
rising [] from n h = tt
rising (q ∷ qs) from n h = let l = length-append q (concat qs) in (omega arith, (omega arith, rising qs (from + length q) n (omega arith)))

-- parted at the ends of their pages, the rows are those pages
pub parted_are : (t rows : List ℕ) (qs : List (List Row)) (from k : ℕ) → concat qs ≡ show_rows t k (drop (from * 48) rows) → parted t rows from (offsets from qs) ≡ qs
parted_are t rows [] from k e = refl
parted_are t rows (q ∷ qs) from k e =
    let r : List ℕ = drop (from * 48) rows in
    let n : ℕ = length q in
    let count : length q + length (concat qs) ≡ k = sym (length-append q (concat qs)) ∙ ap length e ∙ rows_shown t k r in
    let here : n ≡ from + n - from = omega arith in
    let one : List Row = show_rows t n r in
    let two : List Row = show_rows t (k - n) (drop (n * 48) r) in
    let split : q ++ concat qs ≡ one ++ two = e ∙ rows_split t n (k - n) k r (omega arith) in
    let long : length one ≡ n = rows_shown t n r in
    let first : one ≡ q = sym (take_at one two n long) ∙ ap (take n) (sym split) ∙ take_at q (concat qs) n refl in
    let others : concat qs ≡ two = sym (drop_at q (concat qs) n refl) ∙ ap (drop n) split ∙ drop_at one two n long in
    let place : from * 48 + n * 48 ≡ (from + n) * 48 = omega arith in
    let there : drop (n * 48) r ≡ drop ((from + n) * 48) rows = drop-drop (n * 48) (from * 48) rows ∙ ap (λ (j : ℕ). drop j rows) place in
    ap (λ (j : ℕ). show_rows t j r ∷ parted t rows (from + n) (offsets (from + n) qs)) (sym here)
    ∙ ap (λ (x : List Row). x ∷ parted t rows (from + n) (offsets (from + n) qs)) first
    ∙ ap (λ (x : List (List Row)). q ∷ x) (parted_are t rows qs (from + n) (k - n) (others ∙ ap (show_rows t (k - n)) there))

-- ---- lengths, 0 for the pages that are not there

padded_none : (k d : ℕ) → padded k d [] ≡ replicate k d
padded_none zero d = refl
padded_none (suc k) d = ap (λ (l : List ℕ). d ∷ l) (padded_none k d)

padded_split : (k d m : ℕ) (l : List ℕ) → length l ≡ k → drop m l ≡ replicate (k - m) d → m ≤ k → padded k d (take m l) ≡ l
padded_split k d zero l e f h = let z : k ≡ k - 0 = omega arith in padded_none k d ∙ ap (λ (j : ℕ). replicate j d) z ∙ sym f
padded_split zero d (suc m) l e f h = absurd (omega arith)
padded_split (suc k) d (suc m) [] e f h = absurd (omega arith)
padded_split (suc k) d (suc m) (x ∷ l) e f h =
    let n : suc k - suc m ≡ k - m = omega arith in
    ap (λ (r : List ℕ). x ∷ r) (padded_split k d m l (omega arith) (f ∙ ap (λ (j : ℕ). replicate j d) n) (omega arith))

-- ---- the loop

module _ (h : Head) (t rows ends : List ℕ) (n z : ℕ) where
  -- the pages from page k on, whose rows begin at `from`
  abbrev pub left : ℕ → ℕ → List (List ℕ)
  left k from = pages h z (suc k) (parted t rows from (drop k (take z ends)))

  -- k pages are laid, and end at place `at`; the rows up to `from` stand on them, and those behind them begin at place `begin` of the rows as they are spelled
  pub record Laid (out₀ out lens : List ℕ) (at from begin k : ℕ) : Type 0 where
    pub begins : begin ≡ length (rows_placed (show_rows t from rows))
    pub within : k ≤ z
    pub nine : z ≤ 9
    pub ends_long : length ends ≡ 9
    pub going : Going out₀ out 0 at (concat (left 0 0)) (concat (left k from))
    pub short : length (concat (left k from)) ≤ 12600
    pub all_short : length (concat (left 0 0)) ≤ 12600
    pub rises : Rising from (drop k (take z ends)) n
    pub long : length lens ≡ 9
    pub told : take k lens ++ map length (left k from) ≡ map length (left 0 0)
    pub unset : drop k lens ≡ replicate (9 - k) 0

  -- none is laid
  pub laid_start : (out : List ℕ) → z ≤ 9 → length ends ≡ 9 → Rising 0 (take z ends) n → length (concat (left 0 0)) ≤ 12600 → 12600 ≤ length out → Laid out out (replicate 9 0) 0 0 0 0
  unfolding rows_placed
  laid_start out l e r s o = record { begins = refl; within = omega arith; nine = l; ends_long = e; going = going_start (fits_whole out (concat (left 0 0)) (omega arith)); short = s; all_short = s; rises = r; long = refl; told = refl; unset = refl }

  module _ {out₀ out lens : List ℕ} {at from begin k : ℕ} (L : Laid out₀ out lens at from begin k) (i : k < z) where
    abbrev to : ℕ
    to = get_or ends k 0

    next_end : drop k (take z ends) ≡ to ∷ drop (k + 1) (take z ends)
    next_end =
        let e = L.ends_long in
        let w = L.nine in
        drop-cons (take z ends) k 0 (omega (arith, length-take-le z ends (omega arith))) ∙ rw (get_or-take z ends k 0 i, add-one k)

    -- the next page
    abbrev pub this : List ℕ
    this = page h (rows_between t rows from to) (k + 1) z

    next_page : left k from ≡ this ∷ left (k + 1) to
    next_page = ap (λ (es : List ℕ). pages h z (suc k) (parted t rows from es)) next_end ∙ rw (add-one k)

    -- its rows are behind those laid, and among those that there are
    pub next_rows : (from ≤ to) × (to ≤ n)
    next_rows = let r : Rising from (to ∷ drop (k + 1) (take z ends)) n = subst (λ (es : List ℕ). Rising from es n) next_end L.rises in (r.0, r.1.0)

    parts : concat (left k from) ≡ this ++ concat (left (k + 1) to)
    parts = ap concat next_page

    -- it fits into the room
    pub next_fits : at + length this ≤ length out
    next_fits = going_fits L.going this (concat (left (k + 1) to)) parts

    pub next_short : length this ≤ 12600
    next_short = omega (arith, L.short, ap length parts, length-append this (concat (left (k + 1) to)))

    -- it is laid
    pub laid_next : {out' : List ℕ} {e : ℕ} (len end : ℕ) → Wrote out out' at e this → len ≡ e - at → end ≡ begin + length (rows_placed (rows_between t rows from to)) → Laid out₀ out' (set lens k len) e to end (k + 1)
    laid_next {out'} {e} len end w q b =
        let nine = L.nine in
        let long = L.long in
        let r : Rising from (to ∷ drop (k + 1) (take z ends)) n = subst (λ (es : List ℕ). Rising from es n) next_end L.rises in
        let is : len ≡ length this = omega (arith, w.behind) in
        let more : take (k + 1) (set lens k len) ≡ take k lens ++ len ∷ [] = rw (add-one k) (take-suc-set lens k len (omega arith)) in
        let others : List ℕ = map length (left (k + 1) to) in
        let fewer : 9 - k ≡ suc (9 - (k + 1)) = omega arith in
        let tail : drop (k + 1) lens ≡ replicate (9 - (k + 1)) 0 = unset_next L.unset fewer in
        record {
          begins = omega (arith, b, L.begins, stretch_end t rows to from to r.0 (omega arith));
          within = omega arith;
          nine = nine;
          ends_long = L.ends_long;
          going = going_on L.going this (concat (left (k + 1) to)) parts w;
          short = omega (arith, L.short, ap length parts, length-append this (concat (left (k + 1) to)));
          all_short = L.all_short;
          rises = r.1.1;
          long = length-set lens k len ∙ long;
          told = ap (λ (x : List ℕ). x ++ others) more ∙ append_assoc (take k lens) (len ∷ []) others ∙ ap (λ (j : ℕ). take k lens ++ j ∷ others) is
              ∙ ap (λ (x : List (List ℕ)). take k lens ++ map length x) (sym next_page) ∙ L.told;
          unset = drop-set-lt (k + 1) lens k len (omega arith) ∙ tail;
        }
      where
        unset_next : {m : ℕ} → drop k lens ≡ replicate (9 - k) 0 → 9 - k ≡ suc m → drop (k + 1) lens ≡ replicate m 0
        unset_next {m} u f = sym (drop-drop 1 k lens) ∙ ap (drop 1) (u ∙ ap (λ (j : ℕ). replicate j 0) f)

  -- all are laid
  pub laid_all : {out₀ out lens : List ℕ} {at from begin k : ℕ} → Laid out₀ out lens at from begin k → z ≤ k → 12600 ≤ length out₀
      → (lens ≡ padded 9 0 (map length (left 0 0))) × (out ≡ laid out₀ 0 (concat (left 0 0)))
  laid_all {out₀} {out} {lens} {at} {from} {begin} {k} L d o =
      let w = L.within in
      let e = L.ends_long in
      let nine = L.nine in
      let gone : drop k (take z ends) ≡ [] = drop_of_length-le (take z ends) {i = k} (omega (arith, length-take-le z ends (omega arith))) in
      let none : left k from ≡ [] = ap (λ (es : List ℕ). pages h z (suc k) (parted t rows from es)) gone in
      let all : take k lens ≡ map length (left 0 0) = sym (append-nil (take k lens)) ∙ ap (λ (x : List (List ℕ)). take k lens ++ map length x) (sym none) ∙ L.told in
      let whole = going_done (fits_whole out₀ (concat (left 0 0)) (omega (arith, L.all_short))) L.going (ap concat none) in
      (sym (padded_split 9 0 k lens L.long L.unset (omega arith)) ∙ ap (padded 9 0) all, whole.room)
