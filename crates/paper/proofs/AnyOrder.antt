-- The order in which pages are handed in does not matter to what is accepted.
-- Assumes nothing.
use mathlib.Core.Path.{◌≡◌, refl, ap, sym, ◌∙◌}
use mathlib.Core.Logic.{◌↔◌}
use mathlib.Core.Bool.{Bool, true, false, ◌&&◌, ◌||◌}
use mathlib.Core.List.{List, [], ◌∷◌}
use Prim.Native.Nat.{ℕ, zero, suc, ◌+◌, ◌≤◌, ◌<◌}
use native.Mathlib.Omega.{arith}
use lib.Dec.{eqb, leb}
use lib.ListN.{length}
use borrow.Author.Tests.{eqb-true, eqb-false, eq-eqb, ne_eqb, le-leb, leb-true}
use Rattle.paper.specs.Lists.{if, same}
use Rattle.paper.proofs.Small.{unequal, no, both, neither, same_eq, eqb_comm, and_intro}
use Rattle.paper.specs.Plan.{Slots, Row, Head, Plan, same_head, same_slots}
use Rattle.paper.specs.Judging.{Sheet, Judged, sheet, refused, judge}
use Rattle.paper.specs.Reading.{Answer, refusal, plan, Judgement, stopped, sheets, judge_all, cons, page9, has, page10, number11, rows_at, joined, refuse_at, enough, join, decide, read}
use Rattle.paper.proofs.Join.{none_lowest, head_self}

-- the same list in another order
pub data Perm {A : Type 0} : List A → List A → Type 0 where
  nil : Perm [] []
  skip : (x : A) {l m : List A} → Perm l m → Perm (x ∷ l) (x ∷ m)
  swap : (x y : A) (l : List A) → Perm (x ∷ y ∷ l) (y ∷ x ∷ l)
  trans : {l m n : List A} → Perm l m → Perm m n → Perm l n

pub perm_length : {A : Type 0} {l m : List A} → Perm l m → length l ≡ length m
perm_length nil = refl
perm_length (skip x p) = ap suc (perm_length p)
perm_length (swap x y l) = refl
perm_length (trans p q) = perm_length p ∙ perm_length q

-- ---- equal tests

pub slots_eq : (a b : Slots) → same_slots a b ≡ true → a ≡ b
slots_eq [] [] e = refl
slots_eq [] (y ∷ t) e = no (sym e)
slots_eq (x ∷ s) [] e = no (sym e)
slots_eq (x ∷ s) (y ∷ t) e = let (a, b) = both (same x y) (same_slots s t) e in rw (same_eq x y a, slots_eq s t b)

pub head_eq : (a b : Head) → same_head a b ≡ true → a ≡ b
head_eq a b e =
    let (e₅, f₆) = both (eqb a.patch b.patch && same a.ident b.ident && same a.lang b.lang && same_slots a.person b.person && same_slots a.author b.author) (same_slots a.measures b.measures) e in
    let (e₄, f₅) = both (eqb a.patch b.patch && same a.ident b.ident && same a.lang b.lang && same_slots a.person b.person) (same_slots a.author b.author) e₅ in
    let (e₃, f₄) = both (eqb a.patch b.patch && same a.ident b.ident && same a.lang b.lang) (same_slots a.person b.person) e₄ in
    let (e₂, f₃) = both (eqb a.patch b.patch && same a.ident b.ident) (same a.lang b.lang) e₃ in
    let (f₁, f₂) = both (eqb a.patch b.patch) (same a.ident b.ident) e₂ in
    make a.patch b.patch a.ident b.ident a.lang b.lang a.person b.person a.author b.author a.measures b.measures
    (eqb-true a.patch b.patch f₁) (same_eq a.ident b.ident f₂) (same_eq a.lang b.lang f₃) (slots_eq a.person b.person f₄) (slots_eq a.author b.author f₅) (slots_eq a.measures b.measures f₆)
  where
    make : (p p' : ℕ) (i i' l l' : List ℕ) (x x' y y' z z' : Slots) → p ≡ p' → i ≡ i' → l ≡ l' → x ≡ x' → y ≡ y' → z ≡ z'
        → ◌≡◌ {A = Head} (record { patch = p; ident = i; lang = l; person = x; author = y; measures = z }) (record { patch = p'; ident = i'; lang = l'; person = x'; author = y'; measures = z' })
    make p p' i i' l l' x x' y y' z z' a b c d e f = rw (a, b, c, d, e, f)

pub same_test : (t s : Sheet) → t.of ≡ s.of → t.head ≡ s.head → (eqb t.of s.of && same_head t.head s.head) ≡ true
same_test t s p q = and_intro (eqb t.of s.of) (same_head t.head s.head) (eq-eqb t.of s.of p) (ap (λ (h : Head). same_head h s.head) q ∙ head_self s.head)

-- ---- what it takes to be accepted, whatever the order

abbrev pub Alike : ℕ → Head → List Sheet → Type 0
Alike z h [] = Unit {0}
Alike z h (s ∷ l) = (s.of ≡ z) × (s.head ≡ h) × Alike z h l

abbrev pub Distinct : List Sheet → Type 0
Distinct [] = Unit {0}
Distinct (s ∷ l) = (has s.no l ≡ false) × Distinct l

pub record Accept (l : List Sheet) (p : Plan) : Type 0 where
  pub count : ℕ
  pub some : 1 ≤ length l
  pub alike : Alike count p.head l
  pub distinct : Distinct l
  pub full : (m : ℕ) → 1 ≤ m → m < 1 + count → has m l ≡ true
  pub rows : joined l 1 count ≡ p.rows
  pub few : length p.rows ≤ 256

-- the tests of join, both ways

pub other_alike : (s : Sheet) (k : ℕ) (l : List Sheet) → 1 ≤ k → page9 s k l ≡ 0 → Alike s.of s.head l
other_alike s k [] h e = tt
other_alike s k (t ∷ l) h e = at (eqb t.of s.of && same_head t.head s.head) refl e (other_alike s (suc k) l (omega arith))
  where
    at : (b : Bool) → (eqb t.of s.of && same_head t.head s.head) ≡ b → if b (page9 s (suc k) l) k ≡ 0 → (page9 s (suc k) l ≡ 0 → Alike s.of s.head l) → Alike s.of s.head (t ∷ l)
    at true x e ih = let (a, b) = both (eqb t.of s.of) (same_head t.head s.head) x in (eqb-true t.of s.of a, head_eq t.head s.head b, ih e)
    at false x e ih = absurd (omega arith)

pub alike_other : (s : Sheet) (z : ℕ) (h : Head) (k : ℕ) (l : List Sheet) → s.of ≡ z → s.head ≡ h → Alike z h l → page9 s k l ≡ 0
alike_other s z h k [] p q a = refl
alike_other s z h k (t ∷ l) p q a = rw (same_test t s (a.0 ∙ sym p) (a.1 ∙ sym q)) (alike_other s z h (suc k) l p q a.2)

again_fresh : (n : ℕ) (was : List Sheet) (k : ℕ) (l : List Sheet) → 1 ≤ k → has n was ≡ true → page10 was k l ≡ 0 → has n l ≡ false
again_fresh n was k [] h u e = refl
again_fresh n was k (t ∷ l) h u e = at (has t.no was) refl e (λ v f. again_fresh n (t ∷ was) (suc k) l (omega arith) v f)
  where
    or_right : (a b : Bool) → b ≡ true → a || b ≡ true
    or_right true b e = refl
    or_right false b e = e

    at : (b : Bool) → has t.no was ≡ b → if b k (page10 (t ∷ was) (suc k) l) ≡ 0 → (has n (t ∷ was) ≡ true → page10 (t ∷ was) (suc k) l ≡ 0 → has n l ≡ false) → (eqb t.no n || has n l) ≡ false
    at true x e ih = absurd (omega arith)
    at false x e ih =
        let ne : eqb t.no n ≡ false = ne_eqb t.no n (λ q. no (sym u ∙ (ap (λ (m : ℕ). has m was) (sym q) ∙ x))) in
        rw (ne, ih (or_right (eqb t.no n) (has n was) u) e)

pub again_distinct : (was : List Sheet) (k : ℕ) (l : List Sheet) → 1 ≤ k → page10 was k l ≡ 0 → Distinct l
again_distinct was k [] h e = tt
again_distinct was k (t ∷ l) h e = at (has t.no was) e (λ f. again_distinct (t ∷ was) (suc k) l (omega arith) f)
  where
    self : has t.no (t ∷ was) ≡ true
    self = rw (eq-eqb t.no t.no refl)

    at : (b : Bool) → if b k (page10 (t ∷ was) (suc k) l) ≡ 0 → (page10 (t ∷ was) (suc k) l ≡ 0 → Distinct l) → Distinct (t ∷ l)
    at true e ih = absurd (omega arith)
    at false e ih = (again_fresh t.no (t ∷ was) (suc k) l (omega arith) self e, ih e)

abbrev pub NoneIn : List Sheet → List Sheet → Type 0
NoneIn was [] = Unit {0}
NoneIn was (t ∷ l) = (has t.no was ≡ false) × NoneIn was l

pub none_more : (t : Sheet) (was l : List Sheet) → NoneIn was l → has t.no l ≡ false → NoneIn (t ∷ was) l
none_more t was [] n h = tt
none_more t was (u ∷ l) n h = let (a, b) = neither (eqb u.no t.no) (has t.no l) h in (rw (eqb_comm t.no u.no, a, n.0), none_more t was l n.1 b)

pub none_nil : (l : List Sheet) → NoneIn [] l
none_nil [] = tt
none_nil (t ∷ l) = (refl, none_nil l)

pub distinct_again : (was : List Sheet) (k : ℕ) (l : List Sheet) → NoneIn was l → Distinct l → page10 was k l ≡ 0
distinct_again was k [] n d = refl
distinct_again was k (t ∷ l) n d = rw n.0 (distinct_again (t ∷ was) (suc k) l (none_more t was l n.1 d.0) d.1)

lowest_full : (l : List Sheet) (k n : ℕ) → 1 ≤ n → number11 l n k ≡ 0 → (m : ℕ) → n ≤ m → m < n + k → has m l ≡ true
lowest_full l zero n h e m p q = absurd (omega arith)
lowest_full l (suc k) n h e m p q = at (has n l) refl e (λ f g. lowest_full l k (suc n) (omega arith) f m g (omega arith))
  where
    at : (b : Bool) → has n l ≡ b → if b (number11 l (suc n) k) n ≡ 0 → (number11 l (suc n) k ≡ 0 → suc n ≤ m → has m l ≡ true) → has m l ≡ true
    at true x e ih = go (eqb n m) refl
      where
        go : (c : Bool) → eqb n m ≡ c → has m l ≡ true
        go true y = ap (λ (j : ℕ). has j l) (sym (eqb-true n m y)) ∙ x
        go false y = let ne = eqb-false n m y in ih e (omega arith)
    at false x e ih = absurd (omega arith)

abbrev pub is_plan : Answer → Bool
is_plan (refusal n k i) = false
is_plan (plan p) = true

none_at : (n k : ℕ) (x : Answer) (p : Plan) → refuse_at n k x ≡ plan p → (k ≡ 0) × (x ≡ plan p)
none_at n zero x p e = (refl, e)
none_at n (suc k) x p e = no (sym (ap is_plan e))

abbrev pub plan_of : Plan → Answer → Plan
plan_of d (refusal n k i) = d
plan_of d (plan p) = p

-- few enough rows are a plan
pub enough_few : (q p : Plan) → enough q ≡ plan p → (length q.rows ≤ 256) × (q ≡ p)
enough_few q p e = at (leb (length q.rows) 256) refl e
  where
    at : (b : Bool) → leb (length q.rows) 256 ≡ b → if b (plan q) (refusal 12 0 0) ≡ plan p → (length q.rows ≤ 256) × (q ≡ p)
    at true x e = (leb-true (length q.rows) 256 x, ap (plan_of q) e)
    at false x e = no (sym (ap is_plan e))

pub accepts : (l : List Sheet) (p : Plan) → join l ≡ plan p → Accept l p
accepts [] p e = no (sym (ap is_plan e))
accepts (s ∷ l) p e =
    let q : Plan = record { head = s.head; rows = joined (s ∷ l) 1 s.of } in
    let x₂ : Answer = refuse_at 11 (number11 (s ∷ l) 1 s.of) (enough q) in
    let x₁ : Answer = refuse_at 10 (page10 [] 1 (s ∷ l)) x₂ in
    let (o, e₁) = none_at 9 (page9 s 2 l) x₁ p e in
    let (g, e₂) = none_at 10 (page10 [] 1 (s ∷ l)) x₂ p e₁ in
    let (w, e₃) = none_at 11 (number11 (s ∷ l) 1 s.of) (enough q) p e₂ in
    let (f, r) = enough_few q p e₃ in
    let hd : s.head ≡ p.head = ap (λ (x : Plan). x.head) r in
    let rs : joined (s ∷ l) 1 s.of ≡ p.rows = ap (λ (x : Plan). x.rows) r in
    record {
      count = s.of;
      some = omega arith;
      alike = (refl, hd, subst_head s.of s.head p.head l hd (other_alike s 2 l (omega arith) o));
      distinct = again_distinct [] 1 (s ∷ l) (omega arith) g;
      full = λ m a b. lowest_full (s ∷ l) s.of 1 (omega arith) w m a (omega arith);
      rows = rs;
      few = rw (sym rs) f;
    }
  where
    subst_head : (z : ℕ) (h h' : Head) (l : List Sheet) → h ≡ h' → Alike z h l → Alike z h' l
    subst_head z h h' [] e a = tt
    subst_head z h h' (t ∷ l) e a = (a.0, a.1 ∙ e, subst_head z h h' l e a.2)

pub accepted : (l : List Sheet) (p : Plan) → Accept l p → join l ≡ plan p
accepted [] p a = absurd (let h = a.some in omega arith)
accepted (s ∷ l) p a =
    let z : ℕ = a.count in
    let e : s.of ≡ z = a.alike.0 in
    let low : number11 (s ∷ l) 1 s.of ≡ 0 = none_lowest (s ∷ l) s.of 1 (λ m x y. a.full m x (omega arith)) in
    let rs : joined (s ∷ l) 1 s.of ≡ p.rows = ap (λ (k : ℕ). joined (s ∷ l) 1 k) e ∙ a.rows in
    let pl : ◌≡◌ {A = Plan} (record { head = s.head; rows = joined (s ∷ l) 1 s.of }) p = make s.head p.head (joined (s ∷ l) 1 s.of) p.rows a.alike.1 rs in
    ap (λ (k : ℕ). refuse_at 9 k (refuse_at 10 (page10 [] 1 (s ∷ l)) (refuse_at 11 (number11 (s ∷ l) 1 s.of) (enough (record { head = s.head; rows = joined (s ∷ l) 1 s.of })))))
    (alike_other s z p.head 2 l e a.alike.1 a.alike.2)
    ∙ (ap (λ (k : ℕ). refuse_at 10 k (refuse_at 11 (number11 (s ∷ l) 1 s.of) (enough (record { head = s.head; rows = joined (s ∷ l) 1 s.of }))))
    (distinct_again [] 1 (s ∷ l) (none_nil (s ∷ l)) a.distinct)
    ∙ (ap (λ (k : ℕ). refuse_at 11 k (enough (record { head = s.head; rows = joined (s ∷ l) 1 s.of }))) low
    ∙ (ap enough pl ∙ ap (λ (b : Bool). if b (plan p) (refusal 12 0 0)) (le-leb (length p.rows) 256 a.few))))
  where
    make : (h h' : Head) (r r' : List Row) → h ≡ h' → r ≡ r' → ◌≡◌ {A = Plan} (record { head = h; rows = r }) (record { head = h'; rows = r' })
    make h h' r r' a b = rw (a, b)

-- ---- in another order

pub perm_alike : (z : ℕ) (h : Head) {l m : List Sheet} → Perm l m → Alike z h l → Alike z h m
perm_alike z h nil a = a
perm_alike z h (skip x p) a = (a.0, a.1, perm_alike z h p a.2)
perm_alike z h (swap x y l) a = (a.2.0, a.2.1, (a.0, a.1, a.2.2))
perm_alike z h (trans p q) a = perm_alike z h q (perm_alike z h p a)

pub or_swap : (a b c : Bool) → a || (b || c) ≡ b || (a || c)
or_swap true true c = refl
or_swap true false c = refl
or_swap false true c = refl
or_swap false false c = refl

pub perm_has : (n : ℕ) {l m : List Sheet} → Perm l m → has n l ≡ has n m
perm_has n nil = refl
perm_has n (skip x p) = ap (λ (b : Bool). eqb x.no n || b) (perm_has n p)
perm_has n (swap x y l) = or_swap (eqb x.no n) (eqb y.no n) (has n l)
perm_has n (trans p q) = perm_has n p ∙ perm_has n q

pub perm_distinct : {l m : List Sheet} → Perm l m → Distinct l → Distinct m
perm_distinct nil d = d
perm_distinct (skip x p) d = (sym (perm_has x.no p) ∙ d.0, perm_distinct p d.1)
perm_distinct (swap x y l) d =
    let (a, b) = neither (eqb y.no x.no) (has x.no l) d.0 in
    (rw (eqb_comm x.no y.no, a, d.1.0), (b, d.1.1))
perm_distinct (trans p q) d = perm_distinct q (perm_distinct p d)

pub perm_rows : (n : ℕ) {l m : List Sheet} → Perm l m → Distinct l → rows_at n l ≡ rows_at n m
perm_rows n nil d = refl
perm_rows n (skip x p) d = ap (λ (r : List Row). if (eqb x.no n) x.rows r) (perm_rows n p d.1)
perm_rows n (swap x y l) d = at (eqb x.no n) refl (eqb y.no n) refl
  where
    at : (b : Bool) → eqb x.no n ≡ b → (c : Bool) → eqb y.no n ≡ c → if b x.rows (if c y.rows (rows_at n l)) ≡ if c y.rows (if b x.rows (rows_at n l))
    at true e true f =
        let (a, b) = neither (eqb y.no x.no) (has x.no l) d.0 in
        let ne = eqb-false y.no x.no a in
        absurd (ne (eqb-true y.no n f ∙ sym (eqb-true x.no n e)))
    at true e false f = refl
    at false e true f = refl
    at false e false f = refl
perm_rows n (trans p q) d = perm_rows n p d ∙ perm_rows n q (perm_distinct p d)

pub same_joined : (l m : List Sheet) → ((n : ℕ) → rows_at n l ≡ rows_at n m) → (k n : ℕ) → joined l n k ≡ joined m n k
same_joined l m h zero n = refl
same_joined l m h (suc k) n = rw (h n, same_joined l m h k (suc n))

pub perm_accept : {l m : List Sheet} {p : Plan} → Perm l m → Accept l p → Accept m p
perm_accept {l} {m} {p} q a = record {
  count = a.count;
  some = omega (arith, perm_length q, a.some);
  alike = perm_alike a.count p.head q a.alike;
  distinct = perm_distinct q a.distinct;
  full = λ n x y. sym (perm_has n q) ∙ a.full n x y;
  rows = sym (same_joined l m (λ n. perm_rows n q a.distinct) a.count 1) ∙ a.rows;
  few = a.few;
}

-- ---- pages and sheets

abbrev pub Each : List (List ℕ) → List Sheet → Type 0
Each [] [] = Unit {0}
Each [] (s ∷ l) = ⊥
Each (w ∷ ws) [] = ⊥
Each (w ∷ ws) (s ∷ l) = (judge w ≡ sheet s) × Each ws l

pub each_judged : (k : ℕ) (ws : List (List ℕ)) (l : List Sheet) → Each ws l → judge_all k ws ≡ sheets l
each_judged k [] [] e = refl
each_judged k [] (s ∷ l) e = absurd e
each_judged k (w ∷ ws) [] e = absurd e
each_judged k (w ∷ ws) (s ∷ l) e = rw (e.0, each_judged (suc k) ws l e.1)

-- pages that are judged to sheets are judged to these one by one
pub judged_sheets : (k : ℕ) (ws : List (List ℕ)) (l : List Sheet) → judge_all k ws ≡ sheets l → Each ws l
judged_sheets k [] [] e = tt
judged_sheets k [] (s ∷ l) e = unequal (cc)
judged_sheets k (w ∷ ws) l e = at (judge w) refl (judge_all (suc k) ws) refl e (λ m f. judged_sheets (suc k) ws m f)
  where
    at : (x : Judged) → judge w ≡ x → (y : Judgement) → judge_all (suc k) ws ≡ y → cons x k y ≡ sheets l → ((m : List Sheet) → judge_all (suc k) ws ≡ sheets m → Each ws m) → Each (w ∷ ws) l
    at (refused n i) q y r e ih = unequal (cc)
    at (sheet s) q (stopped n a i) r e ih = unequal (cc)
    at (sheet s) q (sheets m) r e ih = let f : s ∷ m ≡ l = cc in rw (sym f) (q, ih m r)

-- all pages are sheets, or the answer is a refusal
pub judged_each : (k : ℕ) (ws : List (List ℕ)) (p : Plan) → decide (judge_all k ws) ≡ plan p → (l : List Sheet) × Each ws l
judged_each k ws p e = at (judge_all k ws) refl e
  where
    at : (y : Judgement) → judge_all k ws ≡ y → decide y ≡ plan p → (l : List Sheet) × Each ws l
    at (stopped n a i) r e = no (sym (ap is_plan e))
    at (sheets l) r e = (l, judged_sheets k ws l r)

pub perm_each : {f g : List (List ℕ)} → Perm f g → (l : List Sheet) → Each f l → (m : List Sheet) × Each g m × Perm l m
perm_each nil [] e = ([], tt, nil)
perm_each nil (s ∷ l) e = absurd e
perm_each (skip x p) [] e = absurd e
perm_each (skip x p) (s ∷ l) e = let (m, d, q) = perm_each p l e.1 in (s ∷ m, (e.0, d), skip s q)
perm_each (swap x y w) [] e = absurd e
perm_each (swap x y w) (s ∷ []) e = absurd e.1
perm_each (swap x y w) (s ∷ t ∷ l) e = (t ∷ s ∷ l, (e.1.0, (e.0, e.1.1)), swap s t l)
perm_each (trans p q) l e = let (m, d, r) = perm_each p l e in let (n, c, s) = perm_each q m d in (n, c, trans r s)

-- handing the same pages in another order is accepted alike and gives the same plan
pub any_order : (f g : List (List ℕ)) (p : Plan) → Perm f g → read f ≡ plan p → read g ≡ plan p
unfolding read
any_order f g p q e = at (leb 1 (length f) && leb (length f) 9) refl e
  where
    at : (b : Bool) → (leb 1 (length f) && leb (length f) 9) ≡ b → if b (decide (judge_all 1 f)) (refusal 1 0 0) ≡ plan p → read g ≡ plan p
    at false x e = no (sym (ap is_plan e))
    at true x e =
        let (l, d) = judged_each 1 f p e in
        let a = accepts l p (sym (ap decide (each_judged 1 f l d)) ∙ e) in
        let (m, c, r) = perm_each q l d in
        rw (sym (perm_length q), x, each_judged 1 g m c) (accepted m p (perm_accept r a))

-- the way back from another order
pub perm_sym : {A : Type 0} {l m : List A} → Perm l m → Perm m l
perm_sym nil = nil
perm_sym (skip x p) = skip x (perm_sym p)
perm_sym (swap x y l) = swap y x l
perm_sym (trans p q) = trans (perm_sym q) (perm_sym p)

-- pages in two orders are accepted alike: what the one gives is what the other gives
pub accepted_alike : (f g : List (List ℕ)) → Perm f g → (p : Plan) → (read f ≡ plan p) ↔ (read g ≡ plan p)
accepted_alike f g q p = (any_order f g p q, any_order g f p (perm_sym q))

-- pages that are refused in one order are refused in every order
pub refused_any_order : (f g : List (List ℕ)) → Perm f g → ((p : Plan) → read f ≡ plan p → ⊥) → ((p : Plan) → read g ≡ plan p → ⊥)
refused_any_order f g q n p e = n p ((accepted_alike f g q p).1 e)
