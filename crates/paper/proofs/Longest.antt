-- The place of refusal 4: what the machine eats is the longest beginning that some well-formed page shares.
use mathlib.Core.Path.{◌≡◌, refl, ap, sym, ◌∙◌}
use mathlib.Core.Logic.{◌↔◌}
use mathlib.Core.Bool.{Bool, true, false, not, ◌&&◌, ◌||◌}
use mathlib.Core.Option.{Option, none, some}
use mathlib.Core.List.{List, [], ◌∷◌, ◌++◌}
use Prim.Native.Nat.{ℕ, suc, ◌≤◌}
use native.Mathlib.Omega.{arith}
use lib.Dec.{eqb}
use lib.ListN.{length, take}
use borrow.Author.Tests.{eq-eqb}
use Rattle.paper.specs.Lists.{if}
use Rattle.paper.specs.Bytes.{is_space, is_letter, is_allowed}
use Rattle.paper.proofs.Small.{no}
use Rattle.paper.specs.Grammar.{Tag, Page, ref, dec, hex, is_name_byte, is_plain}
use Rattle.paper.specs.Machine.{InRef, RefMove, bad, on, over, State, Open, Half, Move, go, say, stop, before, after, less, tag, gap, slash, name, equals, quote, val, ref, inside, closing, amp0, ampa, num0, hex0, word, dec, hex, more, shut, up, gap_step, step, ref_step, ref_goes, prefix, follow, scan, is_after, one_more, eaten}
use Rattle.paper.proofs.Exact.{exact}
use Rattle.paper.proofs.AnyMachine as Mc

-- ---- the machine without its numbers

abbrev zero_o : Open → Open
zero_o T = record { from = 0; tag = T.tag; ats = T.ats; out = T.out }

abbrev zero_h : Half → Half
zero_h H = record { top = zero_o H.top; name = H.name; quote = H.quote; raw = H.raw }

abbrev erase : State → State
erase before = before
erase after = after
erase (less i ns) = less 0 ns
erase (tag i n ns) = tag 0 n ns
erase (gap b T) = gap b (zero_o T)
erase (slash T) = slash (zero_o T)
erase (name T n) = name (zero_o T) n
erase (equals T n) = equals (zero_o T) n
erase (quote T n) = quote (zero_o T) n
erase (val H) = val (zero_h H)
erase (ref r H) = ref r (zero_h H)
erase (inside n ns) = inside n ns
erase (closing m ns) = closing m ns

abbrev target : Move → Option State
target stop = none
target (go t) = some t
target (say ts t) = some t

abbrev cstep : State → ℕ → Option State
cstep s c = target (step s 0 c)

data Like : Move → Move → Type 0 where
  stops : Like stop stop
  gos : {t t' : State} → erase t ≡ t' → Like (go t) (go t')
  says : {ts ts' : List Tag} {t t' : State} → erase t ≡ t' → Like (say ts t) (say ts' t')

like_if : {x x' y y' : Move} (b : Bool) → Like x x' → Like y y' → Like (if b x y) (if b x' y')
like_if true p q = p
like_if false p q = q

erase_up : (ns : List (List ℕ)) → erase (up ns) ≡ up ns
erase_up [] = refl
erase_up (n ∷ ns) = refl

like_gap : (b : Bool) (T : Open) (c : ℕ) → Like (gap_step b T c) (gap_step b (zero_o T) c)
like_gap b T c = like_if (is_space c) (gos refl) (like_if (eqb c 62) (says refl) (like_if (eqb c 47) (gos refl) (like_if (b && is_letter c) (gos refl) stops)))

like_ref : (m : RefMove) (H : Half) → Like (ref_goes m H) (ref_goes m (zero_h H))
like_ref bad H = stops
like_ref (on r) H = gos refl
like_ref over H = gos refl

like : (s : State) (k c : ℕ) → Like (step s k c) (step (erase s) 0 c)
like before k c = like_if (is_space c) (gos refl) (like_if (eqb c 60) (gos refl) stops)
like after k c = like_if (is_space c) (gos refl) stops
like (less i []) k c = like_if (is_letter c) (gos refl) stops
like (less i (n ∷ ns)) k c = like_if (is_letter c) (gos refl) (like_if (eqb c 47) (gos refl) stops)
like (tag i n ns) k c = like_if (is_name_byte c) (gos refl) (like_gap false (record { from = i; tag = n; ats = []; out = ns }) c)
like (gap b T) k c = like_gap b T c
like (slash T) k c = like_if (eqb c 62) (says (erase_up T.out)) stops
like (name T n) k c = like_if (is_name_byte c) (gos refl) (like_if (is_space c) (gos refl) (like_if (eqb c 61) (gos refl) stops))
like (equals T n) k c = like_if (is_space c) (gos refl) (like_if (eqb c 61) (gos refl) stops)
like (quote T n) k c = like_if (is_space c) (gos refl) (like_if (eqb c 34 || eqb c 39) (gos refl) stops)
like (val H) k c = like_if (is_plain H.quote c) (gos refl) (like_if (eqb c H.quote) (gos refl) (like_if (eqb c 38) (gos refl) stops))
like (ref r H) k c = like_ref (ref_step r c) (more H c)
like (inside n ns) k c = like_if (is_space c) (gos refl) (like_if (eqb c 60) (gos refl) stops)
like (closing [] ns) k c = like_if (is_space c) (gos refl) (like_if (eqb c 62) (says (erase_up ns)) stops)
like (closing (d ∷ m) ns) k c = like_if (eqb c d) (gos refl) stops

eaten_like : (w : List ℕ) (s : State) → eaten s w ≡ Mc.eaten cstep (erase s) w
eaten_like [] s = refl
eaten_like (c ∷ w) s = at (like s (suc (length w)) c) (λ t. eaten_like w t)
  where
    at : {x y : Move} → Like x y → ((t : State) → eaten t w ≡ Mc.eaten cstep (erase t) w) → one_more x (λ t. eaten t w) ≡ Mc.one_more (target y) (λ t. Mc.eaten cstep t w)
    at stops ih = refl
    at (gos {t = t} q) ih = ap suc (ih t ∙ ap (λ (u : State). Mc.eaten cstep u w) q)
    at (says {t = t} q) ih = ap suc (ih t ∙ ap (λ (u : State). Mc.eaten cstep u w) q)

none_some : {A B : Type 0} {b : B} → none ≡ some b → A
none_some e = let z : ◌≡◌ {A = ℕ} 0 1 = cc in absurd (omega arith)

-- a scan that succeeds runs, and a run to the end is a scan
runs : (w : List ℕ) (s : State) (T : List Tag) → scan s w ≡ some T → (u : State) × (Mc.run cstep (erase s) w ≡ some u)
runs [] s T e = (erase s, refl)
runs (c ∷ w) s T e = at (like s (suc (length w)) c) e (λ t U. runs w t U)
  where
    said : (us : List Tag) (o : Option (List Tag)) → prefix us o ≡ some T → (U : List Tag) × (o ≡ some U)
    said us none e = none_some e
    said us (some U) e = (U, refl)

    at : {x y : Move} → Like x y → follow x (λ t. scan t w) ≡ some T → ((t : State) (U : List Tag) → scan t w ≡ some U → (u : State) × (Mc.run cstep (erase t) w ≡ some u)) → (u : State) × (Mc.bind (target y) (λ t. Mc.run cstep t w) ≡ some u)
    at stops e ih = none_some e
    at (gos {t = t} q) e ih = let (u, r) = ih t T e in (u, ap (λ (v : State). Mc.run cstep v w) (sym q) ∙ r)
    at (says {ts = ts} {t = t} q) e ih = let (U, p) = said ts (scan t w) e in let (u, r) = ih t U p in (u, ap (λ (v : State). Mc.run cstep v w) (sym q) ∙ r)

abbrev is_end : State → Bool
is_end after = true
is_end before = false
is_end (less i ns) = false
is_end (tag i n ns) = false
is_end (gap b T) = false
is_end (slash T) = false
is_end (name T n) = false
is_end (equals T n) = false
is_end (quote T n) = false
is_end (val H) = false
is_end (ref r H) = false
is_end (inside n ns) = false
is_end (closing m ns) = false

at_end_lem : (s : State) → is_end (erase s) ≡ true → (T : List Tag) × (is_after s ≡ some T)
at_end_lem after e = ([], refl)
at_end_lem before e = no (sym e)
at_end_lem (less i ns) e = no (sym e)
at_end_lem (tag i n ns) e = no (sym e)
at_end_lem (gap b T) e = no (sym e)
at_end_lem (slash T) e = no (sym e)
at_end_lem (name T n) e = no (sym e)
at_end_lem (equals T n) e = no (sym e)
at_end_lem (quote T n) e = no (sym e)
at_end_lem (val H) e = no (sym e)
at_end_lem (ref r H) e = no (sym e)
at_end_lem (inside n ns) e = no (sym e)
at_end_lem (closing m ns) e = no (sym e)

scans : (w : List ℕ) (s : State) → Mc.run cstep (erase s) w ≡ some after → (T : List Tag) × (scan s w ≡ some T)
scans [] s e = let q : erase s ≡ after = cc in at_end_lem s (ap is_end q)
scans (c ∷ w) s e = at (like s (suc (length w)) c) e (λ t. scans w t)
  where
    at : {x y : Move} → Like x y → Mc.bind (target y) (λ t. Mc.run cstep t w) ≡ some after → ((t : State) → Mc.run cstep (erase t) w ≡ some after → (T : List Tag) × (scan t w ≡ some T)) → (T : List Tag) × (follow x (λ t. scan t w) ≡ some T)
    at stops e ih = none_some e
    at (gos {t = t} q) e ih = ih t (ap (λ (v : State). Mc.run cstep v w) q ∙ e)
    at (says {ts = ts} {t = t} q) e ih = let (T, r) = ih t (ap (λ (v : State). Mc.run cstep v w) q ∙ e) in (ts ++ T, ap (prefix ts) r)

-- ---- each state can be finished

abbrev Ends : State → Type 0
Ends s = (z : List ℕ) × (Mc.run cstep s z ≡ some after)

ahead : {s t : State} (y : List ℕ) → ((z : List ℕ) → Mc.run cstep s (y ++ z) ≡ Mc.run cstep t z) → Ends t → Ends s
ahead y f (z, e) = (y ++ z, f z ∙ e)

c_closing : (m : List ℕ) (ns : List (List ℕ)) (x : List ℕ) → Mc.run cstep (closing m ns) (m ++ 62 ∷ x) ≡ Mc.run cstep (up ns) x
c_closing [] ns x = refl
c_closing (c ∷ m) ns x = rw (eq-eqb c c refl, Mc.run) (c_closing m ns x)

shut_all : (ns : List (List ℕ)) → Ends (up ns)
shut_all [] = ([], refl)
shut_all (n ∷ ns) = let (z, e) = shut_all ns in (60 ∷ 47 ∷ (n ++ 62 ∷ z), c_closing n ns z ∙ e)

fin_closing : (m : List ℕ) (ns : List (List ℕ)) → Ends (closing m ns)
fin_closing m ns = let (z, e) = shut_all ns in (m ++ 62 ∷ z, c_closing m ns z ∙ e)

fin_gap : (b : Bool) (T : Open) → Ends (gap b T)
fin_gap b T = ahead (47 ∷ 62 ∷ []) (λ z. refl) (shut_all T.out)

and_off : (a b c : Bool) → a && false && b && c ≡ false
and_off true b c = refl
and_off false b c = refl

plain_quote : (q : ℕ) → is_plain q q ≡ false
plain_quote q = rw (eq-eqb q q refl) (and_off (is_allowed q) (not (eqb q 60)) (not (eqb q 38)))

fin_val : (H : Half) → Ends (val H)
fin_val H = ahead (H.quote ∷ []) (λ z. rw (plain_quote H.quote, Mc.run, eq-eqb H.quote H.quote refl)) (fin_gap false (shut H))

fin_word : (m : List ℕ) (d : ℕ) (H : Half) → Ends (ref (word d m) H)
fin_word [] d H = ahead (d ∷ []) (λ z. rw (eq-eqb d d refl, Mc.run)) (fin_val (more H d))
fin_word (e ∷ m) d H = ahead (d ∷ []) (λ z. rw (eq-eqb d d refl, Mc.run)) (fin_word m e (more H d))

fin_ref : (r : InRef) (H : Half) → Ends (ref r H)
fin_ref amp0 H = ahead (108 ∷ 116 ∷ 59 ∷ []) (λ z. refl) (fin_val (more (more (more H 108) 116) 59))
fin_ref ampa H = ahead (109 ∷ 112 ∷ 59 ∷ []) (λ z. refl) (fin_val (more (more (more H 109) 112) 59))
fin_ref num0 H = ahead (48 ∷ 59 ∷ []) (λ z. refl) (fin_val (more (more H 48) 59))
fin_ref hex0 H = ahead (48 ∷ 59 ∷ []) (λ z. refl) (fin_val (more (more H 48) 59))
fin_ref dec H = ahead (59 ∷ []) (λ z. refl) (fin_val (more H 59))
fin_ref hex H = ahead (59 ∷ []) (λ z. refl) (fin_val (more H 59))
fin_ref (word d m) H = fin_word m d H

fin_quote : (T : Open) (n : List ℕ) → Ends (quote T n)
fin_quote T n = ahead (34 ∷ []) (λ z. refl) (fin_val (record { top = T; name = n; quote = 34; raw = [] }))

finish : (s : State) → Ends s
finish before = ahead (60 ∷ 97 ∷ 47 ∷ 62 ∷ []) (λ z. refl) (shut_all [])
finish after = ([], refl)
finish (less i []) = ahead (97 ∷ 47 ∷ 62 ∷ []) (λ z. refl) (shut_all [])
finish (less i (n ∷ ns)) = ahead (47 ∷ []) (λ z. refl) (fin_closing n ns)
finish (tag i n ns) = ahead (47 ∷ 62 ∷ []) (λ z. refl) (shut_all ns)
finish (gap b T) = fin_gap b T
finish (slash T) = ahead (62 ∷ []) (λ z. refl) (shut_all T.out)
finish (name T n) = ahead (61 ∷ []) (λ z. refl) (fin_quote T n)
finish (equals T n) = ahead (61 ∷ []) (λ z. refl) (fin_quote T n)
finish (quote T n) = fin_quote T n
finish (val H) = fin_val H
finish (ref r H) = fin_ref r H
finish (inside n ns) = ahead (60 ∷ 47 ∷ []) (λ z. refl) (fin_closing n ns)
finish (closing m ns) = fin_closing m ns

-- the bytes are a well-formed page, of whatever length
abbrev pub IsPage : List ℕ → Type 0
IsPage w = (t : List Tag) × Page w t

-- the first n bytes of w begin some well-formed page exactly if the machine eats them
pub longest : (w : List ℕ) (n : ℕ) → n ≤ length w → ((z : List ℕ) × IsPage (take n w ++ z)) ↔ (n ≤ eaten before w)
longest w n h =
    let v = Mc.viable' cstep before IsPage (λ w (t, d). runs w before t ((exact w t).0 d))
    (λ p s e. let (z, f) = finish s in let (T, g) = scans (p ++ z) before (Mc.run_append cstep p z before s e ∙ f) in (z, (T, (exact (p ++ z) T).1 g))) w n h in
    (λ x. rw (eaten_like w before) (v.0 x), λ y. v.1 (rw (eaten_like w before) at y))
