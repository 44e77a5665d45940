-- TableLaws: the tables give at each mode and byte what the machine does there, by a test that is computed over all modes and all bytes; and
-- what else the scan leans on, by tests over the entries.
-- Assumes nothing.
use mathlib.Core.Path.{◌≡◌, refl, sym, ap, ◌∙◌}
use mathlib.Core.Bool.{Bool, true, false, ◌||◌}
use mathlib.Core.List.{List, [], ◌∷◌, ◌++◌, map}
use Prim.Native.Nat.{ℕ, ◌+◌, ◌*◌, ◌/◌, ◌≤◌, ◌<◌}
use native.Mathlib.Nat.{add-zero, mul-add-div_right, div-eq_of_lt}
use native.Mathlib.Omega.{arith}
use lib.Dec.{T, eqb, leb, leb→le, ltb, eqb→eq, eqb_refl, ltb→lt, lt→ltb, lit<}
use lib.ListN.{get_or, drop, replicate}
use lib.Seq.{get_or-drop}
use Rattle.paper.specs.Lists.{if, same}
use Rattle.paper.specs.Machine as Mc
use Rattle.paper.specs.Machine.{InRef, amp0, ampa, num0, hex0, word}
use Rattle.paper.proofs.Small.{same_eq}
use Rattle.paper.proofs.Table.{at, every}
use Rattle.markup.proofs.TableLists.{kinds, nexts}
use Rattle.markup.proofs.Control.{Mode, before, first, tag, slash, name, equals, quote, inside, less, closing, after, gap, val, ref, Act, go, push, grow, close, bare, rise, wrong, next, is_done}

-- ---- the modes and acts by their numbers

-- what stands in a reference
abbrev refs : List InRef
refs = amp0 ∷ ampa ∷ num0 ∷ hex0 ∷ Mc.dec ∷ Mc.hex ∷ word 116 (59 ∷ []) ∷ word 117 (111 ∷ 116 ∷ 59 ∷ []) ∷ word 111 (116 ∷ 59 ∷ []) ∷ word 112 (59 ∷ [])
    ∷ word 111 (115 ∷ 59 ∷ []) ∷ word 115 (59 ∷ []) ∷ word 59 [] ∷ []

-- the modes as the table numbers them
abbrev modes : List Mode
modes = before ∷ first ∷ tag ∷ gap false ∷ gap true ∷ slash ∷ name ∷ equals ∷ quote ∷ val 34 ∷ val 39 ∷ inside ∷ less ∷ closing ∷ after
    ∷ map (λ r. ref r 34) refs ++ map (λ r. ref r 39) refs

-- the mode of a number
unfoldable pub mode_of : ℕ → Mode
mode_of n = get_or modes n before

-- the act of a number
unfoldable pub act_of : ℕ → Act
act_of r = if (ltb r 48) (go (mode_of r)) (if (eqb r 48) push (if (eqb r 49) grow (if (eqb r 50) close (if (eqb r 51) bare (if (eqb r 52) rise wrong)))))

-- ---- acts told apart by computing: each is spelled as numbers, and read back

-- a place in a reference as numbers
abbrev spell_ref : InRef → List ℕ
spell_ref amp0 = 0 ∷ []
spell_ref ampa = 1 ∷ []
spell_ref num0 = 2 ∷ []
spell_ref hex0 = 3 ∷ []
spell_ref Mc.dec = 4 ∷ []
spell_ref Mc.hex = 5 ∷ []
spell_ref (word d m) = 6 ∷ d ∷ m

-- and back
abbrev read_ref : List ℕ → InRef
read_ref [] = amp0
read_ref (x ∷ s) = if (eqb x 0) amp0 (if (eqb x 1) ampa (if (eqb x 2) num0 (if (eqb x 3) hex0 (if (eqb x 4) Mc.dec (if (eqb x 5) Mc.hex (word (get_or s 0 0) (drop 1 s)))))))

ref_back : (r : InRef) → read_ref (spell_ref r) ≡ r
ref_back amp0 = refl
ref_back ampa = refl
ref_back num0 = refl
ref_back hex0 = refl
ref_back Mc.dec = refl
ref_back Mc.hex = refl
ref_back (word d m) = refl

-- a flag as a number
abbrev spell_gap : Bool → ℕ
spell_gap true = 1
spell_gap false = 0

-- an act as numbers
abbrev spell_act : Act → List ℕ
spell_act push = 0 ∷ []
spell_act grow = 1 ∷ []
spell_act close = 2 ∷ []
spell_act bare = 3 ∷ []
spell_act rise = 4 ∷ []
spell_act wrong = 5 ∷ []
spell_act (go before) = 6 ∷ []
spell_act (go first) = 7 ∷ []
spell_act (go tag) = 8 ∷ []
spell_act (go slash) = 9 ∷ []
spell_act (go name) = 10 ∷ []
spell_act (go equals) = 11 ∷ []
spell_act (go quote) = 12 ∷ []
spell_act (go inside) = 13 ∷ []
spell_act (go less) = 14 ∷ []
spell_act (go closing) = 15 ∷ []
spell_act (go after) = 16 ∷ []
spell_act (go (gap b)) = 17 ∷ spell_gap b ∷ []
spell_act (go (val q)) = 18 ∷ q ∷ []
spell_act (go (ref r q)) = 19 ∷ q ∷ spell_ref r

-- the acts without a quote, by their first number
abbrev plain_acts : List Act
plain_acts = push ∷ grow ∷ close ∷ bare ∷ rise ∷ wrong ∷ go before ∷ go first ∷ go tag ∷ go slash ∷ go name ∷ go equals ∷ go quote ∷ go inside ∷ go less
    ∷ go closing ∷ go after ∷ []

-- and back
abbrev read_act : List ℕ → Act
read_act [] = wrong
read_act (x ∷ s) = if (eqb x 17) (go (gap (eqb (get_or s 0 0) 1))) (if (eqb x 18) (go (val (get_or s 0 0))) (if (eqb x 19) (go (ref (read_ref (drop 1 s)) (get_or s 0 0))) (get_or plain_acts x wrong)))

act_back : (a : Act) → read_act (spell_act a) ≡ a
act_back push = refl
act_back grow = refl
act_back close = refl
act_back bare = refl
act_back rise = refl
act_back wrong = refl
act_back (go before) = refl
act_back (go first) = refl
act_back (go tag) = refl
act_back (go slash) = refl
act_back (go name) = refl
act_back (go equals) = refl
act_back (go quote) = refl
act_back (go inside) = refl
act_back (go less) = refl
act_back (go closing) = refl
act_back (go after) = refl
act_back (go (gap true)) = refl
act_back (go (gap false)) = refl
act_back (go (val q)) = refl
act_back (go (ref r q)) = ap (λ (x : InRef). go (ref x q)) (ref_back r)

true_from : (b : Bool) → T b → b ≡ true
true_from true t = refl
true_from false t = absurd t

same_act : (a b : Act) → T (same (spell_act a) (spell_act b)) → a ≡ b
same_act a b t = sym (act_back a) ∙ ap read_act (same_eq (spell_act a) (spell_act b) (true_from (same (spell_act a) (spell_act b)) t)) ∙ act_back b

-- ---- the table's rule, at every mode and every byte

-- the test of one mode's row at a byte b of kind k
right_at : ℕ → List ℕ → ℕ → ℕ → Bool
right_at m row b k = same (spell_act (next (mode_of m) b)) (spell_act (act_of (get_or row k 0)))

-- the test of one mode
right : ℕ → ℕ → Bool
right m x = every (right_at m (drop (m * 26) nexts)) 0 kinds

-- the table's entry at a mode and a byte is what the machine does there
pub rule : (m b : ℕ) → m < 41 → b < 256 → next (mode_of m) b ≡ act_of (get_or nexts (m * 26 + get_or kinds b 0) 0)
unfolding kinds nexts right right_at next mode_of act_of
rule m b h l =
    rw (get_or-drop (m * 26) nexts (get_or kinds b 0) 0) at
    (same_act (next (mode_of m) b) (act_of (get_or (drop (m * 26) nexts) (get_or kinds b 0) 0)) (at (right_at m (drop (m * 26) nexts)) kinds (at right (replicate 41 0) tt m h) b l))

-- ---- what else the entries keep

-- how many bytes more than three for each open element were read in a mode, plus one
unfoldable pub weight : ℕ → ℕ
weight m = if (eqb m 1 || eqb m 12) 2 (if (eqb m 0 || eqb m 11) 1 0)

-- the modes in which some element is open
unfoldable pub is_inner : ℕ → Bool
is_inner m = if (ltb m 2 || eqb m 5 || eqb m 13 || eqb m 14) false true

-- what the entry r of mode m keeps besides its rule
pub record Moved (m r : ℕ) : Type 0 where
  pub low : r < 48 → r < 41
  pub no_tag : r ≡ 2 → ⊥
  pub grows : r ≡ 49 → m ≡ 2
  pub weighs : r < 48 → weight r ≤ weight m + 1
  pub opens : r ≡ 48 → weight m ≡ 2
  pub inner : r < 48 → is_inner r ≡ true → is_inner m ≡ true
  pub inside : 48 < r → r < 52 → is_inner m ≡ true

-- one test, if another holds
imp : Bool → Bool → Bool
imp true b = b
imp false b = true

then : (a b : Bool) → T (imp a b) → T a → T b
unfolding imp
then true b t u = t
then false b t u = absurd u

true_to : {b : Bool} → b ≡ true → T b
true_to e = rw e tt

equal_to : {a b : ℕ} → a ≡ b → T (eqb a b)
equal_to {a} {b} e = rw e (eqb_refl b)

low_test : ℕ → ℕ → Bool
low_test k x = imp (ltb x 48) (ltb x 41)

name_test : ℕ → ℕ → Bool
name_test k x = imp (eqb x 2) false

grow_test : ℕ → ℕ → Bool
grow_test k x = imp (eqb x 49) (eqb (k / 26) 2)

weigh_test : ℕ → ℕ → Bool
weigh_test k x = imp (ltb x 48) (leb (weight x) (weight (k / 26) + 1))

open_test : ℕ → ℕ → Bool
open_test k x = imp (eqb x 48) (eqb (weight (k / 26)) 2)

inner_test : ℕ → ℕ → Bool
inner_test k x = imp (ltb x 48) (imp (is_inner x) (is_inner (k / 26)))

inside_test : ℕ → ℕ → Bool
inside_test k x = imp (ltb 48 x) (imp (ltb x 52) (is_inner (k / 26)))

-- the mode of an entry
row_of : (m k : ℕ) → k < 26 → (m * 26 + k) / 26 ≡ m
row_of m k h = mul-add-div_right (lit< tt) m k ∙ rw (div-eq_of_lt h) (add-zero m)

kind_test : ℕ → ℕ → Bool
kind_test b k = ltb k 26

-- a byte's kind is one of 26
pub kind_low : (b : ℕ) → b < 256 → get_or kinds b 0 < 26
unfolding kinds kind_test
kind_low b h = ltb→lt (get_or kinds b 0) 26 (at kind_test kinds tt b h)

-- and it keeps what the scan leans on
pub moved : (m b : ℕ) → m < 41 → b < 256 → Moved m (get_or nexts (m * 26 + get_or kinds b 0) 0)
unfolding nexts low_test name_test grow_test weigh_test open_test inner_test inside_test imp weight is_inner
moved m b h l =
    let q = kind_low b l in
    let n = m * 26 + get_or kinds b 0 in
    let r = get_or nexts n 0 in
    let w : n < 1066 = omega arith in
    let p = row_of m (get_or kinds b 0) (omega arith) in
    record {
      low = λ u. ltb→lt r 41 (then (ltb r 48) _ (at low_test nexts tt n w) (lt→ltb _ _ u));
      no_tag = λ u. then (eqb r 2) false (at name_test nexts tt n w) (equal_to u);
      grows = λ u. sym p ∙ eqb→eq (n / 26) 2 (then (eqb r 49) _ (at grow_test nexts tt n w) (equal_to u));
      weighs = λ u. rw p at (leb→le (weight r) (weight (n / 26) + 1) (then (ltb r 48) _ (at weigh_test nexts tt n w) (lt→ltb _ _ u)));
      opens = λ u. rw p at (eqb→eq (weight (n / 26)) 2 (then (eqb r 48) _ (at open_test nexts tt n w) (equal_to u)));
      inner = λ u v. ap is_inner (sym p) ∙ true_from (is_inner (n / 26)) (then (is_inner r) _ (then (ltb r 48) _ (at inner_test nexts tt n w) (lt→ltb _ _ u)) (true_to v));
      inside = λ u v. ap is_inner (sym p) ∙ true_from (is_inner (n / 26)) (then (ltb r 52) _ (then (ltb 48 r) _ (at inside_test nexts tt n w) (lt→ltb _ _ u)) (lt→ltb _ _ v));
    }

-- ---- the modes in which a page may end

same_bool : Bool → Bool → Bool
same_bool true b = b
same_bool false true = false
same_bool false false = true

same_bool_eq : (a b : Bool) → T (same_bool a b) → a ≡ b
unfolding same_bool
same_bool_eq true true t = refl
same_bool_eq true false t = absurd t
same_bool_eq false true t = absurd t
same_bool_eq false false t = refl

done_test : ℕ → ℕ → Bool
done_test m x = same_bool (is_done (mode_of m)) (eqb m 14)

-- a page may end in mode 14 alone
pub done_is : (m : ℕ) → m < 41 → is_done (mode_of m) ≡ eqb m 14
unfolding same_bool done_test mode_of
done_is m h = same_bool_eq (is_done (mode_of m)) (eqb m 14) (at done_test (replicate 41 0) tt m h)
