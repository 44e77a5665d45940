-- Fresh pages read back to the plan.
use mathlib.Core.Path.{◌≡◌, refl, ap, sym, ◌∙◌}
use mathlib.Core.Logic.{◌↔◌}
use mathlib.Core.Bool.{Bool, true, false}
use mathlib.Core.Option.{Option, none, some}
use mathlib.Core.List.{List, [], ◌∷◌, ◌++◌}
use Prim.Native.Nat.{ℕ, suc, ◌+◌, ◌≤◌}
use native.Mathlib.Omega.{arith}
use lib.Dec.{leb}
use lib.ListN.{length}
use borrow.Author.Tests.{le-leb, leb-true}
use Rattle.paper.specs.Lists.{concat, if, every}
use Rattle.paper.proofs.Small.{no, both}
use Rattle.paper.specs.Plan.{Row, Head, Plan}
use Rattle.paper.specs.Reading.{plan, sheets, judge_all, read}
use Rattle.paper.specs.Writing.{Written, bad_call, unsound, too_long, written, sound, sound_head, sound_row, page, pages, heading, place13}
use Rattle.paper.proofs.BySize.{row_size, base, greedy, lay_sized, none_cut, sized}
use Rattle.paper.proofs.Sheets.{SoundHead, head_sound_lem, page_judged}
use Rattle.paper.proofs.Rows.{AllSound, all_sound}
use Rattle.paper.proofs.Sizes.{page_size, page_base}
use Rattle.paper.proofs.Join.{the_sheets, joins}
use Rattle.paper.proofs.AnyOrder.{plan_of}
use Rattle.paper.proofs.AnyCut as C

-- each page is short enough
abbrev pub Short : Head → List (List Row) → Type 0
Short h [] = Unit {0}
Short h (q ∷ qs) = ((a z : ℕ) → a ≤ 9 → z ≤ 9 → length (page h q a z) ≤ 1400) × Short h qs

abbrev AllSounds : List (List Row) → Type 0
AllSounds [] = Unit {0}
AllSounds (q ∷ qs) = AllSound q × AllSounds qs

sound_split : (p q : List Row) → AllSound (p ++ q) → AllSound p × AllSound q
sound_split [] q h = (tt, h)
sound_split (r ∷ p) q h = let (a, b) = sound_split p q h.1 in ((h.0, a), b)

sounds : (qs : List (List Row)) → AllSound (concat qs) → AllSounds qs
sounds [] h = tt
sounds (q ∷ qs) h = let (a, b) = sound_split q (concat qs) h in (a, sounds qs b)

all_judged : (h : Head) (z k a : ℕ) (qs : List (List Row)) → SoundHead h → AllSounds qs → Short h qs → 1 ≤ a → a + length qs ≤ suc z → z ≤ 9
    → judge_all k (pages h z a qs) ≡ sheets (the_sheets h z a qs)
all_judged h z k a [] s v f a1 az z9 = refl
all_judged h z k a (q ∷ qs) s v f a1 az z9 =
    rw (page_judged h q a z s v.0 a1 (omega arith) z9 (f.0 a z (omega arith) z9), all_judged h z (suc k) (suc a) qs s v.1 f.1 (omega arith) (omega arith) z9)

pub pages_count : (h : Head) (z a : ℕ) (qs : List (List Row)) → length (pages h z a qs) ≡ length qs
pages_count h z a [] = refl
pages_count h z a (q ∷ qs) = ap suc (pages_count h z (suc a) qs)

read_pages : (h : Head) (q : List Row) (qs : List (List Row)) → SoundHead h → AllSounds (q ∷ qs) → Short h (q ∷ qs) → length (q ∷ qs) ≤ 9 → length (concat (q ∷ qs)) ≤ 256
    → read (pages h (length (q ∷ qs)) 1 (q ∷ qs)) ≡ plan (record { head = h; rows = concat (q ∷ qs) })
unfolding read
read_pages h q qs s v f n l =
    let z : ℕ = length (q ∷ qs) in
    rw (pages_count h z 1 (q ∷ qs), le-leb 1 z (omega arith), le-leb z 9 n, all_judged h z 1 1 (q ∷ qs) s v f (omega arith) (omega arith) n) (joins h q qs l)

short_pages : (h : Head) (qs : List (List Row)) → C.Pages row_size heading (base h) 1400 qs → Short h qs
short_pages h [] f = tt
short_pages h ([] ∷ qs) f = absurd f.0
short_pages h ((r ∷ q) ∷ qs) f = ((λ a z p o. omega (arith, page_size h r q a z p o)), short_pages h qs f.1)

-- ---- what it means that the writer gave pages

pub record Gave (p : Plan) (f : List (List ℕ)) : Type 0 where
  pub few : length p.rows ≤ 256
  pub head_ok : SoundHead p.head
  pub rows_ok : AllSound p.rows
  pub first : List Row
  pub others : List (List Row)
  pub whole : concat (first ∷ others) ≡ p.rows
  pub short : Short p.head (first ∷ others)
  pub nine : length (first ∷ others) ≤ 9
  pub are : f ≡ pages p.head (length (first ∷ others)) 1 (first ∷ others)

abbrev pub is_written : Written → Bool
is_written bad_call = false
is_written (unsound r) = false
is_written (too_long r) = false
is_written (written f) = true

abbrev pub theirs : Written → List (List ℕ)
theirs bad_call = []
theirs (unsound r) = []
theirs (too_long r) = []
theirs (written f) = f

laid : (p : Plan) (f : List (List ℕ)) → length p.rows ≤ 256 → SoundHead p.head → AllSound p.rows → base p.head ≤ 1400
    → (o : Option (List (List Row))) → C.Whole row_size heading (base p.head) 1400 p.rows o → lay_sized p o ≡ written f → Gave p f
laid p f n s v l none w e = no (sym (ap is_written e))
laid p f n s v l (some []) w e = record {
  few = n;
  head_ok = s;
  rows_ok = v;
  first = [];
  others = [];
  whole = w.0;
  short = ((λ a z i j. omega (arith, page_base p.head a z i j)), tt);
  nine = omega arith;
  are = ap theirs (sym e);
}
laid p f n s v l (some (q ∷ qs)) w e = at (leb (length (q ∷ qs)) 9) refl e
  where
    at : (b : Bool) → leb (length (q ∷ qs)) 9 ≡ b → if b (written (pages p.head (length (q ∷ qs)) 1 (q ∷ qs))) (none_cut p) ≡ written f → Gave p f
    at true x e = record {
      few = n;
      head_ok = s;
      rows_ok = v;
      first = q;
      others = qs;
      whole = w.0;
      short = short_pages p.head (q ∷ qs) w.1;
      nine = leb-true (length (q ∷ qs)) 9 x;
      are = ap theirs (sym e);
    }
    at false x e = no (sym (ap is_written e))

pub gave : (p : Plan) (f : List (List ℕ)) → sized p ≡ written f → Gave p f
unfolding sized
gave p f e = at (leb (length p.rows) 256) refl (sound p) refl (leb (base p.head) 1400) refl e
  where
    at : (b : Bool) → leb (length p.rows) 256 ≡ b → (c : Bool) → sound p ≡ c → (d : Bool) → leb (base p.head) 1400 ≡ d
        → if b (if c (if d (lay_sized p (greedy p)) (too_long 0)) (unsound (place13 p))) bad_call ≡ written f → Gave p f
    at true x true y true t e =
        let (g, r) = both (sound_head p.head) (every sound_row p.rows) y in
        laid p f (leb-true (length p.rows) 256 x) (head_sound_lem p.head g) (all_sound p.rows r) (leb-true (base p.head) 1400 t)
        (greedy p) (C.greedy_whole row_size heading (base p.head) 1400 p.rows) e
    at true x true y false t e = no (sym (ap is_written e))
    at true x false y d t e = no (sym (ap is_written e))
    at false x c y d t e = no (sym (ap is_written e))

-- 1. sized pages read back to the plan
pub round_trip : (p : Plan) (f : List (List ℕ)) → sized p ≡ written f → read f ≡ plan p
round_trip p f e =
    let G = gave p f e in
    let v = sounds (G.first ∷ G.others) (rw (sym G.whole) at G.rows_ok) in
    let l : length (concat (G.first ∷ G.others)) ≤ 256 = rw (sym G.whole) at G.few in
    ap read G.are ∙ read_pages p.head G.first G.others G.head_ok v G.short G.nine l
    ∙ ap (λ (rs : List Row). plan (record { head = p.head; rows = rs })) G.whole

-- 2. two plans have the same sized pages exactly if they are the same; pages written afresh from what sized pages say are those pages

pub same_plan : (p q : Plan) (f : List (List ℕ)) → sized p ≡ written f → sized q ≡ written f → p ≡ q
same_plan p q f a b = ap (plan_of p) (sym (round_trip p f a) ∙ round_trip q f b)

pub same_pages : (p q : Plan) (f g : List (List ℕ)) → sized p ≡ written f → sized q ≡ written g → (f ≡ g) ↔ (p ≡ q)
same_pages p q f g a b = (λ e. same_plan p q f a (b ∙ ap written (sym e)), λ e. ap theirs (sym a ∙ ap sized e ∙ b))

pub again_same : (p q : Plan) (f : List (List ℕ)) → sized p ≡ written f → read f ≡ plan q → sized q ≡ written f
again_same p q f a b = ap sized (ap (plan_of p) (sym b ∙ round_trip p f a)) ∙ a
