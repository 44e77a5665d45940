-- FoldJudge: the one pass gives exactly the least fault of a well-formed page, and none exactly if the page has no fault. The numbers of the
-- pass stand for the open elements as long as no 5 has come; behind the first 5 no fault is lower.
-- Assumes nothing.
use mathlib.Core.Path.{◌≡◌, refl, ap, sym, ◌∙◌}
use mathlib.Core.Logic.{◌↔◌, inr}
use mathlib.Core.Bool.{Bool, true, false, not, ◌&&◌, ◌||◌}
use mathlib.Core.List.{List, [], ◌∷◌, ◌++◌}
use Prim.Native.Nat.{ℕ, suc, ◌≤◌, ◌<◌}
use native.Mathlib.Omega.{arith}
use lib.Dec.{eqb, leb}
use lib.ListN.{length}
use borrow.Author.Tests.{ne_eqb, le-leb, leb-false, leb-true}
use Rattle.paper.specs.Lists.{bytes, if, same, every, some_of}
use Rattle.paper.specs.Bytes.{is_allowed}
use Rattle.paper.specs.Grammar.{Attr, Tag, start, end, Page, placed}
use Rattle.paper.specs.Fields.{Kind, unknown, MP, P, A, O, S, M, W, R, X, code, is, fields_of, named, later, rank_of}
use Rattle.paper.specs.Plan.{Slots}
use Rattle.paper.specs.Judging.{Fault, fault, names, slots_of, mp_version, Frame, frame, Stack, kind_in, how_many, misplaced, note, next, lacks, faults, items, Item, lower, least, sheet_of, verdict, judge}
use Rattle.paper.proofs.Small.{neither}
use Rattle.paper.proofs.Least.{judged_by_tags}
use Rattle.paper.proofs.Told.{Bal, Root, page_placed, is_eq}
use Rattle.paper.proofs.ReadSound.{root_mp}
use Rattle.paper.proofs.Rows.{latest}
use Rattle.fields.specs.Places.{kind_at}
use Rattle.sheet.specs.Fold.{given, spotless, St, outside, kids_of, kind_under, parent, full, barred, strange, amiss, unfit, flaw, needs_w, opened, closed, finished, judge_fold, fold_page, answer}
use Rattle.sheet.proofs.FoundLaws.{or_true}
use Rattle.sheet.proofs.Nesting.{Kid, as_p, as_a, as_o, as_s, as_m, as_r, as_x, as_w, box, Shape, top, in_it, shape_enter, shape_leave, alone, kid_of, kids_top, root_shape}
use Rattle.sheet.proofs.Places.{From, Ascends, page_ascends}
use Rattle.sheet.proofs.LeastLaws.{least_append, Sound, sound_lower, AllPast, past_faults, sound_flaw, start_least, least_some, least_number}

-- ---- the children of MP, told by their latest rank

-- an element of its own kind, or of a later one, is there
abbrev past : Kind → List Kind → Bool
past q js = some_of (later q) js || leb 1 (how_many q js)

-- a kind that is refused behind itself or a later one
data Single : Kind → Type 0 where
  one_p : Single P
  one_a : Single A
  one_o : Single O

-- the latest rank, and whether a P and an A are there, of MP's children so far
record Ranked (n : ℕ) (b c : Bool) (js : List Kind) : Type 0 where
  small : n ≤ 4
  order : (q : Kind) → Single q → past q js ≡ leb (rank_of q) n
  person : b ≡ not (eqb (how_many P js) 0)
  author : c ≡ not (eqb (how_many A js) 0)

past_cons : (q k : Kind) (js : List Kind) → past q (k ∷ js) ≡ (later q k || is k q) || past q js
past_cons q k js = at (later q k) (is k q) (some_of (later q) js) (how_many q js)
  where
    at : (b c d : Bool) (n : ℕ) → (b || d) || leb 1 (if c (suc n) n) ≡ (b || c) || (d || leb 1 n)
    at true c d n = refl
    at false true d n = rw (le-leb 1 (suc n) (omega arith)) (or_true d)
    at false false d n = refl

-- one kind stands not before another exactly if its rank is not below
ranks : (q k : Kind) → Single q → Kid MP k → (later q k || is k q) ≡ leb (rank_of q) (rank_of k)
ranks X k x11 _ = elim x11 [ ]
ranks R k x10 _ = elim x10 [ ]
ranks W k x9 _ = elim x9 [ ]
ranks M k x8 _ = elim x8 [ ]
ranks S k x7 _ = elim x7 [ ]
ranks O X _ x14 = elim x14 [ ]
ranks O R _ x13 = elim x13 [ ]
ranks O W _ x12 = elim x12 [ ]
ranks O M _ x11 = elim x11 [ ]
ranks O MP _ x10 = elim x10 [ ]
ranks O unknown _ x9 = elim x9 [ ]
ranks A X _ x13 = elim x13 [ ]
ranks A R _ x12 = elim x12 [ ]
ranks A W _ x11 = elim x11 [ ]
ranks A M _ x10 = elim x10 [ ]
ranks A MP _ x9 = elim x9 [ ]
ranks A unknown _ x8 = elim x8 [ ]
ranks P X _ x12 = elim x12 [ ]
ranks P R _ x11 = elim x11 [ ]
ranks P W _ x10 = elim x10 [ ]
ranks P M _ x9 = elim x9 [ ]
ranks P MP _ x8 = elim x8 [ ]
ranks P unknown _ x7 = elim x7 [ ]
ranks MP k x3 _ = elim x3 [ ]
ranks unknown k x'' _ = elim x'' [ ]
ranks P P one_p as_p = refl
ranks P A one_p as_a = refl
ranks P O one_p as_o = refl
ranks P S one_p as_s = refl
ranks A P one_a as_p = refl
ranks A A one_a as_a = refl
ranks A O one_a as_o = refl
ranks A S one_a as_s = refl
ranks O P one_o as_p = refl
ranks O A one_o as_a = refl
ranks O O one_o as_o = refl
ranks O S one_o as_s = refl

leb_either : (i n k : ℕ) → n ≤ k → leb i k || leb i n ≡ leb i k
leb_either i n k h = at (leb i k) refl
  where
    at : (b : Bool) → leb i k ≡ b → b || leb i n ≡ b
    at true e = refl
    at false e = let g = leb-false i k e in below (leb i n) refl g
      where
        below : (c : Bool) → leb i n ≡ c → k < i → c ≡ false
        below true e g = absurd (let y = leb-true i n e in omega arith)
        below false e g = refl

rank_small : (k : Kind) → Kid MP k → rank_of k ≤ 4
rank_small X x6 = elim x6 [ ]
rank_small R x5 = elim x5 [ ]
rank_small W x4 = elim x4 [ ]
rank_small M x3 = elim x3 [ ]
rank_small MP x'' = elim x'' [ ]
rank_small unknown x' = elim x' [ ]
rank_small P as_p = omega arith
rank_small A as_a = omega arith
rank_small O as_o = omega arith
rank_small S as_s = omega arith

there : (b c : Bool) (n : ℕ) → c ≡ not (eqb n 0) → b || c ≡ not (eqb (if b (suc n) n) 0)
there true c n e = rw (ne_eqb (suc n) 0 (omega arith))
there false c n e = e

ranked_next : (n : ℕ) (b c : Bool) (js : List Kind) (k : Kind) → Kid MP k → n ≤ rank_of k → Ranked n b c js → Ranked (rank_of k) (is k P || b) (is k A || c) (k ∷ js)
ranked_next n b c js k d h G = record {
  small = rank_small k d;
  order = λ q e. past_cons q k js ∙ rw (ranks q k e d, G.order q e) (leb_either (rank_of q) n (rank_of k) h);
  person = there (is k P) b (how_many P js) G.person;
  author = there (is k A) c (how_many A js) G.author;
}

-- ---- the pass's numbers stand for the open elements

-- an open M: its W so far, its place, and that it lacks something
record Med (n : ℕ) (b : Bool) (i : ℕ) (F : Frame) : Type 0 where
  count : how_many W F.seen ≡ n
  place : F.at ≡ i
  lack : b ≡ (eqb n 0 && needs_w M F.slots)

-- the M around a W
abbrev MedBelow : ℕ → Bool → ℕ → Stack → Type 0
MedBelow n b i [] = ⊥
MedBelow n b i (F ∷ st) = Med n b i F

-- the open M, if the innermost element is one or a W; else none waits
abbrev MedAt : ℕ → Bool → ℕ → Frame → Kind → Stack → Type 0
MedAt n b i F unknown st = b ≡ false
MedAt n b i F MP st = b ≡ false
MedAt n b i F P st = b ≡ false
MedAt n b i F A st = b ≡ false
MedAt n b i F O st = b ≡ false
MedAt n b i F S st = b ≡ false
MedAt n b i F M st = Med n b i F
MedAt n b i F W st = (b ≡ false) × MedBelow n b i st
MedAt n b i F R st = b ≡ false
MedAt n b i F X st = b ≡ false

-- the outermost element, MP: its children and its place
abbrev Head : ℕ → Bool → Bool → ℕ → Stack → Type 0
Head n b c i [] = ⊥
Head n b c i (F ∷ []) = Ranked n b c F.seen × (F.at ≡ i)
Head n b c i (F ∷ G ∷ st) = Head n b c i (G ∷ st)

-- the numbers stand for the open elements
record Sim (t : St) (F : Frame) (st : Stack) : Type 0 where
  inner : t.cur ≡ code F.kind
  head : Head t.rank t.has_p t.has_a t.root (F ∷ st)
  med : MedAt t.ws t.waits t.from F F.kind st

-- ---- a start tag

never : (k : Kind) → ((j : Kind) → later k j ≡ false) → (js : List Kind) → some_of (later k) js ≡ false
never k h [] = refl
never k h (j ∷ js) = rw (h j) (never k h js)

head_mp : (t : St) (j : ℕ) (js : List Kind) (vs : Slots) (us : List Slots) (st : Stack) → Shape (box MP j js vs us ∷ st) → Sim t (box MP j js vs us) st
    → Ranked t.rank t.has_p t.has_a js × (j ≡ t.root)
head_mp t j js vs us st sh H = rw (alone j js vs us st sh) at H.head

-- misplaced or too many by the numbers exactly if by the open elements
full_is : (t : St) (F : Frame) (st : Stack) (k : Kind) → Kid F.kind k → Shape (F ∷ st) → Sim t F st → full t k ≡ misplaced (F ∷ st) k
unfolding full
full_is t F st k c sh H = at F.kind k F.at F.seen F.slots F.ws st c sh H
  where
    at : (K k : Kind) (j : ℕ) (js : List Kind) (vs : Slots) (us : List Slots) (st : Stack) → Kid K k → Shape (box K j js vs us ∷ st) → Sim t (box K j js vs us) st
        → full t k ≡ misplaced (box K j js vs us ∷ st) k
    at X _ j js vs us st x12 sh H = elim x12 [ ]
    at R _ j js vs us st x11 sh H = elim x11 [ ]
    at W _ j js vs us st x10 sh H = elim x10 [ ]
    at M X j js vs us st x20 sh H = elim x20 [ ]
    at M R j js vs us st x19 sh H = elim x19 [ ]
    at M M j js vs us st x18 sh H = elim x18 [ ]
    at M S j js vs us st x17 sh H = elim x17 [ ]
    at M O j js vs us st x16 sh H = elim x16 [ ]
    at M A j js vs us st x15 sh H = elim x15 [ ]
    at M P j js vs us st x14 sh H = elim x14 [ ]
    at M MP j js vs us st x13 sh H = elim x13 [ ]
    at M unknown j js vs us st x12 sh H = elim x12 [ ]
    at S W j js vs us st x17 sh H = elim x17 [ ]
    at S S j js vs us st x16 sh H = elim x16 [ ]
    at S O j js vs us st x15 sh H = elim x15 [ ]
    at S A j js vs us st x14 sh H = elim x14 [ ]
    at S P j js vs us st x13 sh H = elim x13 [ ]
    at S MP j js vs us st x12 sh H = elim x12 [ ]
    at S unknown j js vs us st x11 sh H = elim x11 [ ]
    at O _ j js vs us st x7 sh H = elim x7 [ ]
    at A _ j js vs us st x6 sh H = elim x6 [ ]
    at P _ j js vs us st x5 sh H = elim x5 [ ]
    at MP X j js vs us st x12 sh H = elim x12 [ ]
    at MP R j js vs us st x11 sh H = elim x11 [ ]
    at MP W j js vs us st x10 sh H = elim x10 [ ]
    at MP M j js vs us st x9 sh H = elim x9 [ ]
    at MP MP j js vs us st x8 sh H = elim x8 [ ]
    at MP unknown j js vs us st x7 sh H = elim x7 [ ]
    at unknown _ j js vs us st x3 sh H = elim x3 [ ]
    at MP P j js vs us st as_p sh H = sym ((head_mp t j js vs us st sh H).0.order P one_p)
    at MP A j js vs us st as_a sh H = sym ((head_mp t j js vs us st sh H).0.order A one_a)
    at MP O j js vs us st as_o sh H = sym ((head_mp t j js vs us st sh H).0.order O one_o)
    at MP S j js vs us st as_s sh H = rw (never S latest js)
    at S M j js vs us st as_m sh H = rw (never M (λ i. refl) js)
    at S R j js vs us st as_r sh H = rw (never R (λ i. refl) js)
    at S X j js vs us st as_x sh H = rw (never X (λ i. refl) js)
    at M W j js vs us st as_w sh H = rw (never W (λ i. refl) js, H.med.count)

bar_is : (t : St) (F : Frame) (st : Stack) (n : List ℕ) → Shape (F ∷ st) → Sim t F st
    → barred t (kind_in (F ∷ st) n) ≡ (is (kind_in (F ∷ st) n) unknown || misplaced (F ∷ st) (kind_in (F ∷ st) n))
unfolding barred
bar_is t F st n sh H = at (is (kind_in (F ∷ st) n) unknown) refl
  where
    at : (b : Bool) → is (kind_in (F ∷ st) n) unknown ≡ b → b || full t (kind_in (F ∷ st) n) ≡ b || misplaced (F ∷ st) (kind_in (F ∷ st) n)
    at true e = refl
    at false e = full_is t F st (kind_in (F ∷ st) n) (kid_of F.kind n e) sh H

rank_room : (q : Kind) (n : ℕ) (b c : Bool) (js : List Kind) → Single q → Ranked n b c js → past q js ≡ false → n ≤ rank_of q
rank_room q n b c js e G f = let g = leb-false (rank_of q) n (sym (G.order q e) ∙ f) in omega arith

-- the numbers behind the start tag of an element that may stand here
enters : (t : St) (F : Frame) (st : Stack) (k : Kind) (i : ℕ) (l : List Attr) → Kid F.kind k → Shape (F ∷ st) → Sim t F st → misplaced (F ∷ st) k ≡ false
    → Sim (opened t k i l) (frame k i (slots_of (fields_of k) l)) (note F k (slots_of (fields_of k) l) ∷ st)
unfolding opened needs_w
enters t F st k i l c sh H f = at F.kind k F.at F.seen F.slots F.ws st c sh H f
  where
    under : (j : ℕ) (js : List Kind) (vs : Slots) (us : List Slots) (st : Stack) (k : Kind) → Kid MP k → Shape (box MP j js vs us ∷ st) → Sim t (box MP j js vs us) st → t.rank ≤ rank_of k
        → Head (rank_of k) (is k P || t.has_p) (is k A || t.has_a) t.root (note (box MP j js vs us) k (slots_of (fields_of k) l) ∷ st)
    under j js vs us st k c sh H h =
        let (G, e) = head_mp t j js vs us st sh H in
        rw (alone j js vs us st sh) (ranked_next t.rank t.has_p t.has_a js k c h G, e)

    room : (q : Kind) (j : ℕ) (js : List Kind) (vs : Slots) (us : List Slots) (st : Stack) → Single q → Shape (box MP j js vs us ∷ st) → Sim t (box MP j js vs us) st → past q js ≡ false → t.rank ≤ rank_of q
    room q j js vs us st e sh H f = rank_room q t.rank t.has_p t.has_a js e (head_mp t j js vs us st sh H).0 f

    at : (K k : Kind) (j : ℕ) (js : List Kind) (vs : Slots) (us : List Slots) (st : Stack) → Kid K k → Shape (box K j js vs us ∷ st) → Sim t (box K j js vs us) st
        → misplaced (box K j js vs us ∷ st) k ≡ false → Sim (opened t k i l) (frame k i (slots_of (fields_of k) l)) (note (box K j js vs us) k (slots_of (fields_of k) l) ∷ st)
    at X _ j js vs us st x13 sh H f = elim x13 [ ]
    at R _ j js vs us st x12 sh H f = elim x12 [ ]
    at W _ j js vs us st x11 sh H f = elim x11 [ ]
    at M X j js vs us st x23 sh H f = elim x23 [ ]
    at M R j js vs us st x22 sh H f = elim x22 [ ]
    at M W j js vs us [] _ sh H f = elim sh [ ]
    at M M j js vs us st x20 sh H f = elim x20 [ ]
    at M S j js vs us st x19 sh H f = elim x19 [ ]
    at M O j js vs us st x18 sh H f = elim x18 [ ]
    at M A j js vs us st x17 sh H f = elim x17 [ ]
    at M P j js vs us st x16 sh H f = elim x16 [ ]
    at M MP j js vs us st x15 sh H f = elim x15 [ ]
    at M unknown j js vs us st x14 sh H f = elim x14 [ ]
    at S X j js vs us [] _ sh H f = elim sh [ ]
    at S R j js vs us [] _ sh H f = elim sh [ ]
    at S W j js vs us st x20 sh H f = elim x20 [ ]
    at S M j js vs us [] _ sh H f = elim sh [ ]
    at S S j js vs us st x18 sh H f = elim x18 [ ]
    at S O j js vs us st x17 sh H f = elim x17 [ ]
    at S A j js vs us st x16 sh H f = elim x16 [ ]
    at S P j js vs us st x15 sh H f = elim x15 [ ]
    at S MP j js vs us st x14 sh H f = elim x14 [ ]
    at S unknown j js vs us st x13 sh H f = elim x13 [ ]
    at O _ j js vs us st x8 sh H f = elim x8 [ ]
    at A _ j js vs us st x7 sh H f = elim x7 [ ]
    at P _ j js vs us st x6 sh H f = elim x6 [ ]
    at MP X j js vs us st x14 sh H f = elim x14 [ ]
    at MP R j js vs us st x13 sh H f = elim x13 [ ]
    at MP W j js vs us st x12 sh H f = elim x12 [ ]
    at MP M j js vs us st x11 sh H f = elim x11 [ ]
    at MP MP j js vs us st x10 sh H f = elim x10 [ ]
    at MP unknown j js vs us st x9 sh H f = elim x9 [ ]
    at unknown _ j js vs us st x4 sh H f = elim x4 [ ]
    at MP P j js vs us st as_p sh H f = record { inner = refl; head = under j js vs us st P as_p sh H (room P j js vs us st one_p sh H f); med = refl }
    at MP A j js vs us st as_a sh H f = record { inner = refl; head = under j js vs us st A as_a sh H (room A j js vs us st one_a sh H f); med = refl }
    at MP O j js vs us st as_o sh H f = record { inner = refl; head = under j js vs us st O as_o sh H (room O j js vs us st one_o sh H f); med = refl }
    at MP S j js vs us st as_s sh H f = record { inner = refl; head = under j js vs us st S as_s sh H (head_mp t j js vs us st sh H).0.small; med = refl }
    at S M j js vs us (G ∷ st) as_m (in_it c sh) H f = record { inner = refl; head = H.head; med = record { count = refl; place = refl; lack = refl } }
    at S R j js vs us (G ∷ st) as_r (in_it c sh) H f = record { inner = refl; head = H.head; med = refl }
    at S X j js vs us (G ∷ st) as_x (in_it c sh) H f = record { inner = refl; head = H.head; med = refl }
    at M W j js vs us (G ∷ st) as_w (in_it c sh) H f = record {
      inner = refl;
      head = H.head;
      med = (refl, record { count = ap suc H.med.count; place = H.med.place; lack = rw (ne_eqb (suc t.ws) 0 (omega arith)) });
    }

-- ---- an end tag

join_eight : (b : Bool) (f : Fault) (i : ℕ) → if b (lower f (given 8 i)) f ≡ least f (fault b 8 i)
join_eight true f i = refl
join_eight false f i = refl

-- what an end tag leaves: the numbers of the element around, and the fault of the one that ends
record Left (t : St) (F G : Frame) (st : Stack) : Type 0 where
  sim : Sim (closed t) G st
  worst : (closed t).best ≡ least t.best (fault (lacks F.kind F.seen F.slots) 8 F.at)

-- the numbers behind the end tag of an element that stands in another
leaves : (t : St) (F G : Frame) (st : Stack) → Shape (F ∷ G ∷ st) → Sim t F (G ∷ st) → Left t F G st
unfolding closed parent kind_at needs_w
leaves t F G st sh H = at F G sh H
  where
    -- an element that waits for nothing
    plain : (F G : Frame) → Sim t F (G ∷ st) → parent (code F.kind) ≡ code G.kind → MedAt t.ws false t.from G G.kind st
        → lacks F.kind F.seen F.slots ≡ false → t.waits ≡ false → Left t F G st
    plain F G H e d c q = record {
      sim = record { inner = ap parent H.inner ∙ e; head = H.head; med = d };
      worst = join_eight t.waits t.best t.from ∙ rw (q, c);
    }

    at : (F G : Frame) → Shape (F ∷ G ∷ st) → Sim t F (G ∷ st) → Left t F G st
    at F G (in_it as_p sh) H = plain F G H refl refl refl H.med
    at F G (in_it as_a sh) H = plain F G H refl refl refl H.med
    at F G (in_it as_o sh) H = plain F G H refl refl refl H.med
    at F G (in_it as_s sh) H = plain F G H refl refl refl H.med
    at F G (in_it as_r sh) H = plain F G H refl refl refl H.med
    at F G (in_it as_x sh) H = plain F G H refl refl refl H.med
    at F G (in_it as_w sh) H = plain F G H refl (record { count = H.med.1.count; place = H.med.1.place; lack = sym H.med.0 ∙ H.med.1.lack }) refl H.med.0
    at F G (in_it as_m sh) H =
        let e : lacks M F.seen F.slots ≡ t.waits = rw H.med.count (sym H.med.lack) in
        record {
          sim = record { inner = ap parent H.inner; head = H.head; med = refl };
          worst = join_eight t.waits t.best t.from ∙ rw (e, H.med.place);
        }

-- the end tag of MP is the page's last tag
last_end : (t : St) (F : Frame) → Shape (F ∷ []) → Sim t F [] → finished (closed t) ≡ least t.best (fault (lacks F.kind F.seen F.slots) 8 F.at ++ [])
unfolding finished closed
last_end t F top H = rw (H.med, H.head.0.person, H.head.0.author, H.head.1) (at (eqb (how_many P F.seen) 0) (eqb (how_many A F.seen) 0))
  where
    at : (b c : Bool) → if (not b && not c) t.best (lower t.best (given 8 t.root)) ≡ least t.best (fault ((b || c) || false) 8 t.root ++ [])
    at true c = refl
    at false true = refl
    at false false = refl

-- ---- the pass from an open element on

sound_closed : (t : St) → Sound t.best → Sound (closed t).best
unfolding closed
sound_closed t B = at t.waits
  where
    at : (b : Bool) → Sound (if b (lower t.best (given 8 t.from)) t.best)
    at true = sound_lower t.best 8 t.from (omega arith) (omega arith) B
    at false = B

sound_opened : (t : St) (k : Kind) (i : ℕ) (l : List Attr) → Sound t.best → Sound (opened t k i l).best
unfolding opened flaw
sound_opened t k i l B = sound_flaw t.best (mp_version k (slots_of (fields_of k) l)) (amiss k (slots_of (fields_of k) l)) (unfit k (names l) (slots_of (fields_of k) l)) i B

-- a start tag, once the kind of its name is known
pub fold_start : (t : St) (i : ℕ) (n : List ℕ) (l : List Attr) (ts : List Tag) (k : Kind) → kind_under t.cur n ≡ k
    → judge_fold t (start i n l ∷ ts) ≡ if (barred t k) (given 5 i) (if (strange k (names l)) (given 5 i) (judge_fold (opened t k i l) ts))
unfolding judge_fold
fold_start t i n l ts k e = ap (λ (j : Kind). if (barred t j) (given 5 i) (if (strange j (names l)) (given 5 i) (judge_fold (opened t j i l) ts))) e

-- a start tag among the tags: the least of its faults and of those behind it
fold_least : (t : St) (st : Stack) (i : ℕ) (n : List ℕ) (l : List Attr) (ts : List Tag) → kind_under t.cur n ≡ kind_in st n
    → barred t (kind_in st n) ≡ (is (kind_in st n) unknown || misplaced st (kind_in st n)) → Sound t.best → From i ts
    → ((is (kind_in st n) unknown || misplaced st (kind_in st n)) ≡ false
    → judge_fold (opened t (kind_in st n) i l) ts ≡ least (opened t (kind_in st n) i l).best (faults (next st (start i n l)) ts))
    → judge_fold t (start i n l ∷ ts) ≡ least t.best (faults st (start i n l ∷ ts))
unfolding opened flaw strange
fold_least t st i n l ts e b B f h =
    let k : Kind = kind_in st n in
    let vs : Slots = slots_of (fields_of k) l in
    let y : Fault = judge_fold (opened t k i l) ts in
    fold_start t i n l ts k e ∙ ap (λ (c : Bool). if c (given 5 i) (if (strange k (names l)) (given 5 i) y)) b
    ∙ start_least (is k unknown || misplaced st k) (strange k (names l)) (mp_version k vs) (amiss k vs) (unfit k (names l) vs) t.best i (faults (next st (start i n l)) ts) y B
    (past_faults ts (next st (start i n l)) i f) (λ u v. h u)

-- nothing comes behind the end tag of MP
pub after_last : (ts : List Tag) → Bal ts 0 → ts ≡ []
after_last [] b = refl
after_last (start i n l ∷ ts) b = absurd b
after_last (end ∷ ts) b = absurd b

fold_rest : (ts : List Tag) (F : Frame) (st : Stack) (t : St) → Shape (F ∷ st) → Sim t F st → Bal ts (suc (length st)) → Ascends ts → Sound t.best
    → judge_fold t ts ≡ least t.best (faults (F ∷ st) ts)
unfolding judge_fold kind_under
fold_rest [] F st t sh H b up B = absurd b
fold_rest (end ∷ ts) F [] t sh H b up B = rw (after_last ts b) (last_end t F sh H)
fold_rest (end ∷ ts) F (G ∷ st) t sh H b up B =
    let E = leaves t F G st sh H in
    fold_rest ts G st (closed t) (shape_leave F G st sh) E.sim b up (sound_closed t B)
    ∙ ap (λ (f : Fault). least f (faults (G ∷ st) ts)) E.worst
    ∙ sym (least_append t.best (fault (lacks F.kind F.seen F.slots) 8 F.at) (faults (G ∷ st) ts))
fold_rest (start i n l ∷ ts) F st t sh H b up B =
    let k : Kind = kind_in (F ∷ st) n in
    let vs : Slots = slots_of (fields_of k) l in
    fold_least t (F ∷ st) i n l ts (ap (λ (c : ℕ). kind_under c n) H.inner ∙ ap (named n) (kids_top F st sh)) (bar_is t F st n sh H) B up.0
    (λ u.
    let (known, right) = neither (is k unknown) (misplaced (F ∷ st) k) u in
    let c = kid_of F.kind n known in
    fold_rest ts (frame k i vs) (note F k vs ∷ st) (opened t k i l) (shape_enter F st k i vs c sh) (enters t F st k i l c sh H right) b up.1 (sound_opened t k i l B))

-- ---- a whole page

root_sim : (k : Kind) (i : ℕ) (l : List Attr) → is k MP ≡ true → Sim (opened outside k i l) (frame k i (slots_of (fields_of k) l)) []
unfolding opened needs_w
root_sim k i l e = rw (is_eq k MP e) (record { inner = refl; head = (record { small = omega arith; order = none; person = refl; author = refl }, refl); med = refl })
  where
    none : (q : Kind) → Single q → past q [] ≡ leb (rank_of q) 0
    none X x7 = elim x7 [ ]
    none R x6 = elim x6 [ ]
    none W x5 = elim x5 [ ]
    none M x4 = elim x4 [ ]
    none S x3 = elim x3 [ ]
    none MP x'' = elim x'' [ ]
    none unknown x' = elim x' [ ]
    none P one_p = refl
    none A one_a = refl
    none O one_o = refl

-- the first tag is MP's, or its 5 is the answer
fold_root : (ts : List Tag) → Root ts → Ascends ts → fold_page ts ≡ least spotless (faults [] ts)
unfolding fold_page kind_under kids_of barred full
fold_root [] r up = absurd r
fold_root (end ∷ ts) r up = absurd r
fold_root (start i n l ∷ ts) r up =
    let k : Kind = kind_in [] n in
    let clear : Sound spotless = (omega arith, inr (refl, omega arith)) in
    fold_least outside [] i n l ts refl (mp_bar (same n (bytes "MP"))) clear up.0
    (λ u. let mp = root_mp n (neither (is k unknown) false u).0 in fold_rest ts (frame k i (slots_of (fields_of k) l)) [] (opened outside k i l) (root_shape k i (slots_of (fields_of k) l) mp) (root_sim k i l mp) r up.1 (sound_opened outside k i l clear))
  where
    mp_bar : (b : Bool) → barred outside (if b MP unknown) ≡ (is (if b MP unknown) unknown || false)
    mp_bar true = refl
    mp_bar false = refl

-- the pass gives the least fault of a well-formed page; spotless stands for none
pub fold_least_fault : (w : List ℕ) (t : List Tag) → Page w t → fold_page (placed (length w) t) ≡ least spotless (faults [] (placed (length w) t))
fold_least_fault w t d = fold_root (placed (length w) t) (page_placed (length w) d) (page_ascends (length w) d)

from_zero : (ts : List Tag) → From 0 ts
from_zero [] = tt
from_zero (start i n l ∷ ts) = (omega arith, from_zero ts)
from_zero (end ∷ ts) = from_zero ts

-- the least fault, or the page's content
least_answer : (fs : List Fault) (xs : List Item) → AllPast 0 fs → verdict fs xs ≡ answer (least spotless fs) (sheet_of xs)
least_answer [] xs q = refl
least_answer (f ∷ fs) xs q = let h = least_number 0 f fs q in rw (least_some 0 f fs q, ne_eqb (least f fs).no 9 (omega arith))

-- a page of 1 to 1,400 allowed bytes that is well-formed is answered with the least fault that the pass finds, and with its content if it finds none
pub fold_judge : (w : List ℕ) (t : List Tag) → 1 ≤ length w → length w ≤ 1400 → every is_allowed w ≡ true → Page w t
    → judge w ≡ answer (fold_page (placed (length w) t)) (sheet_of (items [] (placed (length w) t)))
fold_judge w t g h c d =
    let ts : List Tag = placed (length w) t in
    judged_by_tags w t g h c d ∙ least_answer (faults [] ts) (items [] ts) (past_faults ts [] 0 (from_zero ts)) ∙ ap (λ (f : Fault). answer f (sheet_of (items [] ts))) (sym (fold_least_fault w t d))

-- the pass finds no fault exactly if there is none
pub fold_spotless : (w : List ℕ) (t : List Tag) → Page w t → ((fold_page (placed (length w) t)).no ≡ 9) ↔ (faults [] (placed (length w) t) ≡ [])
fold_spotless w t d =
    let ts : List Tag = placed (length w) t in
    rw (fold_least_fault w t d) (at (faults [] ts) (past_faults ts [] 0 (from_zero ts)))
  where
    at : (fs : List Fault) → AllPast 0 fs → ((least spotless fs).no ≡ 9) ↔ (fs ≡ [])
    at [] q = (λ e. refl, λ e. refl)
    at (f ∷ fs) q =
        let h = least_number 0 f fs q in
        (λ e. absurd (let g = sym (ap (λ (z : Fault). z.no) (least_some 0 f fs q)) ∙ e in omega arith), λ e. rw e)
