-- TakenLaws: the pages of a call that lie on a tape, one at a time, as the laws of joining ask for them.
-- Assumes nothing.
use mathlib.Core.Path.{◌≡◌, refl, sym, ap, ◌∙◌, subst}
use mathlib.Core.Bool.{Bool, true, false}
use mathlib.Core.List.{List, [], ◌∷◌}
use Prim.Native.Nat.{ℕ, zero, suc, ◌+◌, ◌≤◌, ◌<◌}
use native.Mathlib.Omega.{arith}
use lib.ListN.{length, get_or, take, set, replicate, length-set, length-replicate}
use lib.Seq.{get_or-set_same, get_or-set_other}
use lib.Dec.{ltb}
use borrow.Author.Tests.{ltb-true, ltb-false}
use Rattle.paper.specs.Judging.{Judged, refused, Sheet, sheet, judge}
use Rattle.paper.proofs.Small.{unequal}
use Rattle.paper.specs.Reading.{Numbers, numbers, Judgement, stopped, sheets, cons, judge_all}
use Rattle.paper.specs.Calls.{inside, pages_at}
use Rattle.paper.proofs.CallLaws.{pages_count}
use Rattle.reader.specs.Joining.{PageFits, AllFit, Called}
use Rattle.reader.proofs.ReadingLaws.{all_said, none_told}
use Rattle.reader.specs.Answers.{told_of}
use Rattle.tape.specs.Tape.{elems_of, Taped, Makes}
use Rattle.tape.specs.Making.{IsSheet}
use Rattle.tape.proofs.PageLaws.{is_sheet_lem}
use Rattle.room.proofs.Alike.{same_before}
use Rattle.tape.proofs.TapeLaws.{lies_more}
use Rattle.page.specs.Walking.{Read, Blank, blanks}
use Rattle.reader.specs.Tapes.{AllSheets, Taken}

pub page_good : (w : List ℕ) (s : Sheet) → judge w ≡ sheet s → PageFits w
page_good w s e = (all_said (w ∷ []) 1 (s ∷ []) (rw e)).0.0

all_good : (ws : List (List ℕ)) → ((k : ℕ) → k < length ws → PageFits (get_or ws k [])) → AllFit ws
all_good [] h = tt
all_good (w ∷ ws) h = (h 0 (omega arith), all_good ws (λ k l. h (suc k) (omega arith)))

module _ {b ss ns x t fs : List ℕ} (T : Taken b ss ns x t fs) where
  pub called : Called b ss ns
  called =
      let c = pages_count b ss ns T.lie in
      record { lie = T.lie; fit = all_good (pages_at b ss ns) (λ k l. page_good (get_or (pages_at b ss ns) k []) _ (T.each k (omega arith)).taped.judged) }

  -- page k, as the code holds it
  pub read_at : (k : ℕ) {w : List ℕ} → k < length ss → w ≡ get_or (pages_at b ss ns) k [] → Read w x t (get_or fs k 0) (get_or fs (k + 1) 0)
  read_at k h e = subst (λ (v : List ℕ). Read v x t (get_or fs k 0) (get_or fs (k + 1) 0)) (sym e) (T.each k h)

-- ---- no page is refused

judged_all : (ws : List (List ℕ)) (k : ℕ) → ((i : ℕ) → i < length ws → (s : Sheet) × (judge (get_or ws i []) ≡ sheet s)) → (l : List Sheet) × (judge_all k ws ≡ sheets l)
judged_all [] k h = ([], refl)
judged_all (w ∷ ws) k h =
    let (s, e) = h 0 (omega arith) in
    let (l, q) = judged_all ws (suc k) (λ i g. h (suc i) (omega arith)) in
    (s ∷ l, rw (e, q))

pub none_refused : {b ss ns x t fs : List ℕ} → Taken b ss ns x t fs → told_of (judge_all 1 (pages_at b ss ns)) ≡ numbers 0 0 0
none_refused {b} {ss} {ns} T =
    let c = pages_count b ss ns T.lie in
    let (l, q) = judged_all (pages_at b ss ns) 1 (λ k g. (_, (T.each k (omega arith)).taped.judged)) in
    rw q

-- ---- pages that are judged, and of which none is refused

each_sheet : (w : List ℕ) (ws : List (List ℕ)) → IsSheet w → AllSheets ws → AllSheets (w ∷ ws)
each_sheet w ws e h zero l = e
each_sheet w ws e h (suc i) l = h i (omega arith)

all_sheets : (ws : List (List ℕ)) (k : ℕ) (l : List Sheet) → judge_all k ws ≡ sheets l → AllSheets ws
all_sheets [] k l e = λ i h. absurd (omega arith)
all_sheets (w ∷ ws) k l e = at (judge w) refl (judge_all (suc k) ws) (all_sheets ws (suc k)) e
  where
    at : (j : Judged) → judge w ≡ j → (J : Judgement) → ((m : List Sheet) → J ≡ sheets m → AllSheets ws) → cons j k J ≡ sheets l → AllSheets (w ∷ ws)
    at (refused n i) p J h e = let y : ◌≡◌ {A = ℕ} 0 1 = cc in unequal y
    at (sheet s) p (stopped n j i) h e = let y : ◌≡◌ {A = ℕ} 0 1 = cc in unequal y
    at (sheet s) p (sheets m) h e = each_sheet w ws (is_sheet_lem w s p) (h m refl)

-- where no refusal is told, every page is a sheet
pub sheets_told : (ws : List (List ℕ)) → told_of (judge_all 1 ws) ≡ numbers 0 0 0 → AllSheets ws
sheets_told ws e =
    let (l, p) = none_told ws 1 (ap (λ (t : Numbers). t.number) e) in
    all_sheets ws 1 l p

-- ---- pages taped one behind the other

-- a page stays taped where the tape and the side room only grow
pub taped_more : {w s s' t u : List ℕ} {m m' i j : ℕ} → Taped w s m t i j → take m s' ≡ take m s → m ≤ m' → ((k : ℕ) → k < j → get_or u k 0 ≡ get_or t k 0) → j ≤ length u → m' ≤ length s' → Taped w s' m' u i j
taped_more {w} {s} {s'} {t} {u} {m} {m'} {i} {j} T e up h l k =
    record { judged = T.judged; lies = lies_more w s s' m m' e up t u i j (elems_of w) (λ q a b. h q b) T.lies; some = T.some; within = (l, k) }

-- the tape still begins with what it began with
blank_more : {w t u x y : List ℕ} {i j m n : ℕ} → Makes w t u i j x y m n → Blank t → blanks ≤ i → length u ≡ length t → Blank u
blank_more {t = t} {u = u} {i = i} M B h l =
    record { long = omega (arith, B.long, l); zeros = λ z g. same_before t u i z M.kept.tape (omega (arith, g, h)) ∙ B.zeros z g }

-- a page that was made can be read
pub made_read : {w t u x y : List ℕ} {i j m n : ℕ} → Makes w t u i j x y m n → Blank t → blanks ≤ i → length u ≡ length t → Read w y u i j
made_read M B h l =
    record { taped = taped_more M.taped refl M.taped.within.1 (λ z q. refl) M.taped.within.0 (omega arith); blank = blank_more M B h l }

-- and still can, once another is made behind it
pub made_still : {v w t u u' x y y' : List ℕ} {i j k m n o : ℕ} → Makes v t u i j x y m n → Makes w u u' j k y y' n o → Blank t → blanks ≤ i → length u ≡ length t → length u' ≡ length u → Read v y' u' i j
made_still {u = u} {u' = u'} {i = i} {j = j} M N B h l l' =
    let up = M.taped.some in
    record {
      taped =
          taped_more {t = u'} {u = u'}
          (taped_more {t = u} {u = u'} M.taped N.kept.aside_too N.up (λ z g. same_before u u' j z N.kept.tape g) (omega (arith, M.taped.within.0, l')) N.taped.within.1)
          refl
          N.taped.within.1
          (λ z q. refl)
          (omega (arith, M.taped.within.0, l'))
          (omega arith);
      blank = blank_more N (blank_more M B h l) (omega (arith, up, h)) l';
    }

-- a number below k + 1 is below k, or is k
below : {A : Type 0} (p k : ℕ) → p < k + 1 → (p < k → A) → (p ≡ k → A) → A
below {A} p k h f g = at (ltb p k) refl
  where
    at : (b : Bool) → ltb p k ≡ b → A
    at true e = f (ltb-true p k e)
    at false e = g (let z = ltb-false p k e in omega arith)

-- the first k pages are taped
pub record Going (ws : List (List ℕ)) (t x fs : List ℕ) (m k : ℕ) : Type 0 where
  pub long : length fs ≡ 10
  pub inner : get_or fs k 0 ≤ length t
  pub low : blanks ≤ get_or fs k 0
  pub used : m ≤ length x
  pub blank : Blank t
  pub each : (p : ℕ) → p < k → Taped (get_or ws p []) x m t (get_or fs p 0) (get_or fs (p + 1) 0) × (get_or fs (p + 1) 0 ≤ get_or fs k 0)

pub begin : (ws : List (List ℕ)) (t x fs : List ℕ) → Blank t → length fs ≡ 10 → get_or fs 0 0 ≡ blanks → Going ws t x fs 0 0
begin ws t x fs B l e = record { long = l; inner = omega (arith, B.long, e); low = omega (arith, e); used = omega arith; blank = B; each = λ p h. absurd (omega arith) }

module _ {ws : List (List ℕ)} {t u x y fs : List ℕ} {m n k j : ℕ} {w : List ℕ} (G : Going ws t x fs m k) (small : k < 9) (q : w ≡ get_or ws k []) (M : Makes w t u (get_or fs k 0) j x y m n)
    (tl : length u ≡ length t) (xl : length y ≡ length x) where
  here : get_or (set fs (k + 1) j) k 0 ≡ get_or fs k 0
  here = get_or-set_other fs (k + 1) k j 0 (λ z. omega arith)

  pub last : get_or (set fs (k + 1) j) (k + 1) 0 ≡ j
  last = get_or-set_same fs (k + 1) j 0 (omega (arith, G.long))

  old : (p : ℕ) → p < k → get_or (set fs (k + 1) j) (p + 1) 0 ≡ get_or fs (p + 1) 0
  old p h = get_or-set_other fs (k + 1) (p + 1) j 0 (λ z. omega arith)

  older : (p : ℕ) → p < k → get_or (set fs (k + 1) j) p 0 ≡ get_or fs p 0
  older p h = get_or-set_other fs (k + 1) p j 0 (λ z. omega arith)

  up_to : get_or fs k 0 < j
  up_to = M.taped.some

  kept_page : (p : ℕ) → p < k → Taped (get_or ws p []) y n u (get_or (set fs (k + 1) j) p 0) (get_or (set fs (k + 1) j) (p + 1) 0) × (get_or (set fs (k + 1) j) (p + 1) 0 ≤ get_or (set fs (k + 1) j) (k + 1) 0)
  kept_page p h =
      let E = G.each p h in
      rw (older p h, old p h, last)
      (taped_more E.0 M.kept.aside_too M.up (λ z g. same_before t u (get_or fs k 0) z M.kept.tape (omega (arith, g, E.1))) (omega (arith, E.1, up_to, M.taped.within.0)) M.taped.within.1, omega (arith, E.1, up_to))

  new_page : Taped (get_or ws k []) y n u (get_or (set fs (k + 1) j) k 0) (get_or (set fs (k + 1) j) (k + 1) 0) × (get_or (set fs (k + 1) j) (k + 1) 0 ≤ get_or (set fs (k + 1) j) (k + 1) 0)
  new_page = (rw (here, last, ← q) M.taped, omega arith)

  -- one page more is taped
  pub again : Going ws u y (set fs (k + 1) j) n (k + 1)
  again = record {
    long = length-set fs (k + 1) j ∙ G.long;
    inner = omega (arith, last, M.taped.within.0);
    low = omega (arith, last, up_to, G.low);
    used = M.taped.within.1;
    blank = record { long = omega (arith, G.blank.long, tl); zeros = λ z g. same_before t u (get_or fs k 0) z M.kept.tape (omega (arith, g, G.low)) ∙ G.blank.zeros z g };
    each = λ p h. below p k h (kept_page p) (λ e. rw e new_page);
  }

-- all pages are taped
pub taken : {b ss ns x t fs : List ℕ} {m k : ℕ} → inside b ss ns ≡ true → length ss ≤ 9 → length ss ≤ k → Going (pages_at b ss ns) t x fs m k → Taken b ss ns x t fs
taken {b} {ss} {ns} {x} {t} {fs} {m} {k} l n h G = record {
  lie = l;
  nine = n;
  each = λ p g.
      let E = G.each p (omega arith) in
      record { taped = taped_more E.0 refl G.used (λ z q. refl) E.0.within.0 (omega arith); blank = G.blank };
}

-- ---- a new tape

zero_at : (n i : ℕ) → get_or (replicate {A = ℕ} n 0) i 0 ≡ 0
zero_at zero i = refl
zero_at (suc n) zero = refl
zero_at (suc n) (suc i) = zero_at n i

-- a tape that was cleared where it begins
pub blank_again : (t : List ℕ) → blanks ≤ length t → ((j : ℕ) → 0 ≤ j → j < blanks → get_or t j 0 ≡ 0) → Blank t
blank_again t l h = record { long = l; zeros = λ i g. h i (omega arith) g }

pub blank_new : (n : ℕ) → blanks ≤ n → Blank (replicate n 0)
blank_new n h = record { long = omega (arith, length-replicate {A = ℕ} n 0, h); zeros = λ i g. zero_at n i }
