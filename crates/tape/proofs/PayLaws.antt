-- PayLaws: what the tags of a page without faults pay for the numbers of their elements. A byte pays 31 tenths of a number, a tag has four bytes and its
-- attributes. An M that has neither p nor a owes 186 until its W comes, and an O, which may be as short as `<O/>`, is lent 46 once.
-- Assumes nothing.
use mathlib.Core.Path.{◌≡◌, refl, sym, ap, ◌∙◌}
use mathlib.Core.Bool.{Bool, true, false, ◌&&◌, ◌||◌}
use mathlib.Core.List.{List, [], ◌∷◌}
use Prim.Native.Nat.{ℕ, ◌+◌, ◌*◌, ◌≤◌, ◌<◌}
use native.Mathlib.Omega.{arith}
use lib.Dec.{ltb}
use lib.ListN.{length}
use borrow.Author.Tests.{eqb-true, leb-false, lt-ltb}
use Rattle.paper.specs.Lists.{if, same, is_empty}
use Rattle.paper.specs.Grammar.{Attr, Tag, start, end}
use Rattle.paper.specs.Fields.{Kind, unknown, MP, P, A, O, S, M, W, R, X, code, is, tag_name, Field, fields_of}
use Rattle.paper.specs.Plan.{Slots}
use Rattle.paper.specs.Rules.{settle}
use Rattle.paper.specs.Judging.{found, slots_of, missing}
use Rattle.paper.proofs.Small.{no, both}
use Rattle.paper.proofs.Element.{distinct}
use Rattle.paper.proofs.Weights.{slot_weight, slots_weight, attrs_size, tag_weight}
use Rattle.paper.proofs.ByKind.{equal}
use Rattle.fields.specs.Places.{kind_at}
use Rattle.sheet.specs.Fold.{St, kids_of, kind_under, full, barred, needs_w, opened, closed, judge_fold}
use Rattle.sheet.specs.Content.{kind_named}
use Rattle.tape.specs.Tape.{header, starts_of}
use Rattle.tape.specs.Rooms.{width}
use Rattle.tape.proofs.CleanLaws.{Begins, ends_clean}

-- ---- what present values cost

-- some field is marked *
abbrev any_must : List Field → Bool
any_must [] = false
any_must (f ∷ fs) = f.must || any_must fs

-- where a field marked * is not missing, the attributes have five bytes or more
must_weight : (fs : List Field) (l : List Attr) → any_must fs ≡ true → missing fs (slots_of fs l) ≡ false → 5 ≤ slots_weight fs (slots_of fs l)
must_weight [] l a m = no (sym a)
must_weight (f ∷ fs) l a m = at f.must (settle f (found l f.letters)) a m (must_weight fs l)
  where
    at : (b : Bool) (v : List ℕ) → b || any_must fs ≡ true → (b && is_empty v) || missing fs (slots_of fs l) ≡ false
        → (any_must fs ≡ true → missing fs (slots_of fs l) ≡ false → 5 ≤ slots_weight fs (slots_of fs l)) → 5 ≤ slot_weight f v + slots_weight fs (slots_of fs l)
    at true [] a m ih = no m
    at true (c ∷ v) a m ih = omega arith
    at false v a m ih = omega (arith, ih a m)

-- an M that needs no W has p or a, so its attributes have six bytes or more
fed_weight : (vs : Slots) → length vs ≡ length (fields_of M) → needs_w M vs ≡ false → 6 ≤ slots_weight (fields_of M) vs
unfolding needs_w fields_of
fed_weight [] e n = absurd (omega arith)
fed_weight (p ∷ []) e n = absurd (omega arith)
fed_weight ([] ∷ [] ∷ vs) e n = no n
fed_weight ([] ∷ (c ∷ a) ∷ vs) e n = omega arith
fed_weight ((c ∷ p) ∷ a ∷ vs) e n = omega arith

slots_long : (fs : List Field) (l : List Attr) → length (slots_of fs l) ≡ length fs
slots_long [] l = refl
slots_long (f ∷ fs) l = let e = slots_long fs l in omega arith

-- ---- what an element takes and owes

-- the numbers of an element, in tenths
abbrev tenths : Kind → ℕ
tenths unknown = 30
tenths MP = 150
tenths P = 190
tenths A = 230
tenths O = 170
tenths S = 70
tenths M = 310
tenths W = 70
tenths R = 70
tenths X = 50

tenths_are : (k : Kind) → 10 * (header + 2 * length (fields_of k)) ≡ tenths k
unfolding fields_of
tenths_are k = equal (λ k. 10 * (header + 2 * length (fields_of k))) tenths refl k

-- the kinds that have a field marked * and are wide
mp_must : any_must (fields_of MP) ≡ true
unfolding fields_of
mp_must = refl

p_must : any_must (fields_of P) ≡ true
unfolding fields_of
p_must = refl

a_must : any_must (fields_of A) ≡ true
unfolding fields_of
a_must = refl

w_must : any_must (fields_of W) ≡ true
unfolding fields_of
w_must = refl

-- what the open M owes
abbrev pub owed : Bool → ℕ
owed true = 186
owed false = 0

-- what is lent while no O has come
abbrev lent_if : Bool → ℕ
lent_if true = 46
lent_if false = 0

abbrev pub lent : ℕ → ℕ
lent r = lent_if (ltb r 3)

owed_few : (b : Bool) → owed b ≤ 186
owed_few true = omega arith
owed_few false = omega arith

lent_small : (r : ℕ) → r < 3 → lent r ≡ 46
lent_small r h = ap lent_if (lt-ltb r 3 h)

-- only an M waits for a W
abbrev pub Tidy : St → Type 0
Tidy s = s.waits ≡ true → s.cur ≡ 6

pub tidy_opened : (s : St) (k : Kind) (i : ℕ) (l : List Attr) → Tidy (opened s k i l)
unfolding opened needs_w
tidy_opened s k i l e = eqb-true (code k) 6 (both (is k M) _ e).0

pub tidy_closed : (s : St) → Tidy (closed s)
unfolding closed
tidy_closed s e = no (sym e)

-- in an M there may be nothing but W
in_m : (s : St) (n : List ℕ) → barred s (kind_under 6 n) ≡ false → kind_under 6 n ≡ W
unfolding kind_under kids_of kind_at barred
in_m s n e = at (same n (tag_name W)) e
  where
    at : (b : Bool) → is (if b W unknown) unknown || full s (if b W unknown) ≡ false → if b W unknown ≡ W
    at true q = refl
    at false q = no q

-- ---- one start tag

-- a start tag pays for its element, for what the M around it owes, and for what is lent no longer
abbrev Pays : St → Kind → ℕ → List Attr → Type 0
Pays s k i l =
    tenths k + owed s.waits + lent (opened s k i l).rank
    ≤ 124 + 31 * slots_weight (fields_of k) (slots_of (fields_of k) l) + owed (opened s k i l).waits + lent s.rank

pays_w : (s : St) (i : ℕ) (l : List Attr) → missing (fields_of W) (slots_of (fields_of W) l) ≡ false → Pays s W i l
unfolding opened needs_w
pays_w s i l m = omega (arith, must_weight (fields_of W) l w_must m, owed_few s.waits)

pays_m : (s : St) (i : ℕ) (l : List Attr) → s.waits ≡ false → Pays s M i l
unfolding opened
pays_m s i l z = at (needs_w M (slots_of (fields_of M) l)) refl
  where
    at : (b : Bool) → needs_w M (slots_of (fields_of M) l) ≡ b
        → 310 + owed s.waits + lent s.rank ≤ 124 + 31 * slots_weight (fields_of M) (slots_of (fields_of M) l) + owed b + lent s.rank
    at true e = omega (arith, ap owed z)
    at false e = omega (arith, fed_weight (slots_of (fields_of M) l) (slots_long (fields_of M) l) e, ap owed z)

pays : (s : St) (k : Kind) (i : ℕ) (l : List Attr) → s.waits ≡ false → barred s k ≡ false → missing (fields_of k) (slots_of (fields_of k) l) ≡ false → Pays s k i l
unfolding opened needs_w barred full
pays s unknown i l z b m = no b
pays s MP i l z b m = omega (arith, ap owed z, must_weight (fields_of MP) l mp_must m)
pays s P i l z b m = omega (arith, ap owed z, must_weight (fields_of P) l p_must m, lent_small s.rank (omega (arith, leb-false 1 s.rank b)))
pays s A i l z b m = omega (arith, ap owed z, must_weight (fields_of A) l a_must m, lent_small s.rank (omega (arith, leb-false 2 s.rank b)))
pays s O i l z b m = omega (arith, ap owed z, lent_small s.rank (leb-false 3 s.rank b))
pays s S i l z b m = omega (arith, ap owed z)
pays s M i l z b m = pays_m s i l z
pays s W i l z b m = pays_w s i l m
pays s R i l z b m = omega (arith, ap owed z)
pays s X i l z b m = omega (arith, ap owed z)

start_pays : (s : St) (i : ℕ) (n : List ℕ) (l : List Attr) (ts : List Tag) → Tidy s → Begins s i n l ts → Pays s (kind_named n) i l
start_pays s i n l ts T B = at s.waits refl
  where
    under : s.cur ≡ 6 → kind_named n ≡ W
    under c =
        let q : kind_under 6 n ≡ kind_named n = ap (λ (x : ℕ). kind_under x n) (sym c) ∙ B.kind_is in
        sym q ∙ in_m s n (rw q B.free)

    at : (b : Bool) → s.waits ≡ b → Pays s (kind_named n) i l
    at true e = let k = under (T e) in rw k (pays_w s i l (rw k at B.whole))
    at false e = pays s (kind_named n) i l e B.free B.whole

-- ---- one tag before others

-- a start tag; o is what the elements owe that are open before it, and it owes a byte of its end
pub start_step : (s : St) (i : ℕ) (n : List ℕ) (l : List Attr) (ts : List Tag) (o m : ℕ) → Tidy s → Begins s i n l ts
    → 10 * width (starts_of ts) + owed (opened s (kind_named n) i l).waits + (31 + o) ≤ 31 * m + lent (opened s (kind_named n) i l).rank
    → 10 * width (starts_of (start i n l ∷ ts)) + owed s.waits + o ≤ 31 * (3 + attrs_size l + m) + lent s.rank
unfolding width starts_of
start_step s i n l ts o m T B h =
    omega (arith, h, start_pays s i n l ts T B, tenths_are (kind_named n), tag_weight (fields_of (kind_named n)) l (distinct (kind_named n)))

-- an end tag
pub end_step : (s : St) (ts : List Tag) (o m : ℕ) → (judge_fold s (end ∷ ts)).no ≡ 9
    → 10 * width (starts_of ts) + owed (closed s).waits + o ≤ 31 * m + lent (closed s).rank → 10 * width (starts_of (end ∷ ts)) + owed s.waits + o ≤ 31 * m + lent s.rank
unfolding width starts_of closed
end_step s ts o m e h = omega (arith, h, ap owed (ends_clean s ts e).1)
