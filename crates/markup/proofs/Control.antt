-- Control: paper's machine less what it builds. Its state is a mode, what an end tag's name must still spell, and the names of the open elements;
-- it goes step by step with paper's, so it gives the same extent of a page.
-- Assumes nothing.
use mathlib.Core.Path.{◌≡◌, refl, sym, ap, ◌∙◌}
use mathlib.Core.Bool.{Bool, true, false, ◌&&◌, ◌||◌}
use mathlib.Core.Option.{Option, none, some}
use mathlib.Core.List.{List, [], ◌∷◌, ◌++◌}
use Prim.Native.Nat.{ℕ, suc, ◌+◌}
use native.Mathlib.Nat.{add-zero}
use native.Mathlib.Omega.{arith}
use lib.Dec.{eqb}
use lib.ListN.{length}
use Rattle.paper.specs.Lists.{if}
use Rattle.paper.specs.Bytes.{is_space, is_letter}
use Rattle.paper.specs.Grammar.{Tag, is_name_byte, is_plain}
use Rattle.paper.specs.Machine as Mc
use Rattle.paper.specs.Machine.{InRef, amp0, RefMove, bad, on, over, ref_step, Open, Half, State, Move, up, gap_step, step, ref_goes, more}
use Rattle.markup.specs.Extent.{extent_by, extent_of}
use Rattle.std.specs.Prelude.{Result, Ok, Err}

-- where in a page: paper's states without what they hold; `first` is behind the `<` of the page's element, `less` behind a later one
pub data Mode : Type 0 where
  before first tag slash name equals quote inside less closing after : Mode
  gap : Bool → Mode
  val : ℕ → Mode
  ref : InRef → ℕ → Mode

-- what a byte does: on to a mode; a start tag's name begins, or has one byte more; an end tag begins; the tag closes itself; an element ends; wrong
pub data Act : Type 0 where
  go : Mode → Act
  push grow close bare rise wrong : Act

-- between a tag's attributes
abbrev pub gap_next : Bool → ℕ → Act
gap_next b c = if (is_space c) (go (gap true)) (if (eqb c 62) (go inside) (if (eqb c 47) bare (if (b && is_letter c) (go name) wrong)))

-- in a reference
abbrev pub ref_next : RefMove → ℕ → Act
ref_next bad q = wrong
ref_next (on r) q = go (ref r q)
ref_next over q = go (val q)

-- what a byte does in a mode
unfoldable pub next : Mode → ℕ → Act
next before c = if (is_space c) (go before) (if (eqb c 60) (go first) wrong)
next after c = if (is_space c) (go after) wrong
next first c = if (is_letter c) push wrong
next less c = if (is_letter c) push (if (eqb c 47) close wrong)
next tag c = if (is_name_byte c) grow (gap_next false c)
next (gap b) c = gap_next b c
next slash c = if (eqb c 62) rise wrong
next name c = if (is_name_byte c) (go name) (if (is_space c) (go equals) (if (eqb c 61) (go quote) wrong))
next equals c = if (is_space c) (go equals) (if (eqb c 61) (go quote) wrong)
next quote c = if (is_space c) (go quote) (if (eqb c 34 || eqb c 39) (go (val c)) wrong)
next (val q) c = if (is_plain q c) (go (val q)) (if (eqb c q) (go (gap false)) (if (eqb c 38) (go (ref amp0 q)) wrong))
next (ref r q) c = ref_next (ref_step r c) q
next inside c = if (is_space c) (go inside) (if (eqb c 60) (go less) wrong)
next closing c = if (is_space c) (go closing) (if (eqb c 62) rise wrong)

-- the mode, what an end tag's name must still spell, the names of the open elements, innermost first
pub data Ctl : Type 0 where
  ctl : Mode → List ℕ → List (List ℕ) → Ctl

-- behind an element's end
abbrev pub upper : List (List ℕ) → Mode
upper [] = after
upper (n ∷ ns) = inside

-- an act on the open names
unfoldable pub act : Act → ℕ → List (List ℕ) → Option Ctl
act (go m) b ns = some (ctl m [] ns)
act push b ns = some (ctl tag [] ((b ∷ []) ∷ ns))
act grow b [] = none
act grow b (n ∷ ns) = some (ctl tag [] ((n ++ b ∷ []) ∷ ns))
act close b [] = none
act close b (n ∷ ns) = some (ctl closing n ns)
act bare b [] = none
act bare b (n ∷ ns) = some (ctl slash [] ns)
act rise b ns = some (ctl (upper ns) [] ns)
act wrong b ns = none

-- one byte
unfoldable pub turn : Ctl → ℕ → Option Ctl
turn (ctl m [] ns) b = act (next m b) b ns
turn (ctl m (x ∷ xs) ns) b = if (eqb b x) (some (ctl m xs ns)) none

-- paper's state, less what it has built
abbrev pub shape : State → Ctl
shape Mc.before = ctl before [] []
shape Mc.after = ctl after [] []
shape (Mc.less i []) = ctl first [] []
shape (Mc.less i (n ∷ ns)) = ctl less [] (n ∷ ns)
shape (Mc.tag i n ns) = ctl tag [] (n ∷ ns)
shape (Mc.gap b T) = ctl (gap b) [] (T.tag ∷ T.out)
shape (Mc.slash T) = ctl slash [] T.out
shape (Mc.name T n) = ctl name [] (T.tag ∷ T.out)
shape (Mc.equals T n) = ctl equals [] (T.tag ∷ T.out)
shape (Mc.quote T n) = ctl quote [] (T.tag ∷ T.out)
shape (Mc.val H) = ctl (val H.quote) [] (H.top.tag ∷ H.top.out)
shape (Mc.ref r H) = ctl (ref r H.quote) [] (H.top.tag ∷ H.top.out)
shape (Mc.inside n ns) = ctl inside [] (n ∷ ns)
shape (Mc.closing m ns) = ctl closing m ns

-- a move of paper's machine and one of this
data Like : Move → Option Ctl → Type 0 where
  stops : Like Mc.stop none
  gos : {t : State} {u : Ctl} → shape t ≡ u → Like (Mc.go t) (some u)
  says : {ts : List Tag} {t : State} {u : Ctl} → shape t ≡ u → Like (Mc.say ts t) (some u)

-- a move of paper's machine, and the act that it is on the open names
data Does (b : ℕ) (ns : List (List ℕ)) : Move → Act → Type 0 where
  does : {x : Move} {a : Act} → Like x (act a b ns) → Does b ns x a

done : {b : ℕ} {ns : List (List ℕ)} {x : Move} {a : Act} → Does b ns x a → Like x (act a b ns)
done (does l) = l

-- both look at the same test
test : {b : ℕ} {ns : List (List ℕ)} {x y : Move} {p q : Act} (t : Bool) → Does b ns x p → Does b ns y q → Does b ns (if t x y) (if t p q)
test true f g = f
test false f g = g

shape_up : (ns : List (List ℕ)) → shape (up ns) ≡ ctl (upper ns) [] ns
shape_up [] = refl
shape_up (n ∷ ns) = refl

gap_does : (g : Bool) (T : Open) (c : ℕ) → Does c (T.tag ∷ T.out) (gap_step g T c) (gap_next g c)
unfolding act
gap_does g T c =
    test (is_space c) (does (gos refl)) (test (eqb c 62) (does (says refl)) (test (eqb c 47) (does (gos refl)) (test (g && is_letter c) (does (gos refl)) (does stops))))

ref_does : (m : RefMove) (H : Half) (c : ℕ) → Does c (H.top.tag ∷ H.top.out) (ref_goes m H) (ref_next m H.quote)
unfolding act
ref_does bad H c = does stops
ref_does (on r) H c = does (gos refl)
ref_does over H c = does (gos refl)

-- the two machines go step by step
like : (s : State) (k c : ℕ) → Like (step s k c) (turn (shape s) c)
unfolding act turn next
like Mc.before k c = done (test (is_space c) (does (gos refl)) (test (eqb c 60) (does (gos refl)) (does stops)))
like Mc.after k c = done (test (is_space c) (does (gos refl)) (does stops))
like (Mc.less i []) k c = done (test (is_letter c) (does (gos refl)) (does stops))
like (Mc.less i (n ∷ ns)) k c = done (test (is_letter c) (does (gos refl)) (test (eqb c 47) (does (gos refl)) (does stops)))
like (Mc.tag i n ns) k c = done (test (is_name_byte c) (does (gos refl)) (gap_does false (record { from = i; tag = n; ats = []; out = ns }) c))
like (Mc.gap b T) k c = done (gap_does b T c)
like (Mc.slash T) k c = done (test (eqb c 62) (does (says (shape_up T.out))) (does stops))
like (Mc.name T n) k c = done (test (is_name_byte c) (does (gos refl)) (test (is_space c) (does (gos refl)) (test (eqb c 61) (does (gos refl)) (does stops))))
like (Mc.equals T n) k c = done (test (is_space c) (does (gos refl)) (test (eqb c 61) (does (gos refl)) (does stops)))
like (Mc.quote T n) k c = done (test (is_space c) (does (gos refl)) (test (eqb c 34 || eqb c 39) (does (gos refl)) (does stops)))
like (Mc.val H) k c = done (test (is_plain H.quote c) (does (gos refl)) (test (eqb c H.quote) (does (gos refl)) (test (eqb c 38) (does (gos refl)) (does stops))))
like (Mc.ref r H) k c = done (ref_does (ref_step r c) (more H c) c)
like (Mc.inside n ns) k c = done (test (is_space c) (does (gos refl)) (test (eqb c 60) (does (gos refl)) (does stops)))
like (Mc.closing [] ns) k c = done (test (is_space c) (does (gos refl)) (test (eqb c 62) (does (says (shape_up ns))) (does stops)))
like (Mc.closing (d ∷ m) ns) k c = named (eqb c d)
  where
    named : (t : Bool) → Like (if t (Mc.go (Mc.closing m ns)) Mc.stop) (if t (some (ctl closing m ns)) none)
    named true = gos refl
    named false = stops

-- a page may end only behind its element
abbrev pub is_done : Mode → Bool
is_done before = false
is_done first = false
is_done tag = false
is_done slash = false
is_done name = false
is_done equals = false
is_done quote = false
is_done inside = false
is_done less = false
is_done closing = false
is_done after = true
is_done (gap b) = false
is_done (val q) = false
is_done (ref r q) = false

-- the extent of a page that ends in this state, behind n bytes
abbrev pub at_end : Ctl → ℕ → Result (Unit {0}) ℕ
at_end (ctl m xs ns) n = if (is_done m) (Ok tt) (Err n)

-- after a turn
abbrev pub onward : Option Ctl → Result (Unit {0}) ℕ → (Ctl → Result (Unit {0}) ℕ) → Result (Unit {0}) ℕ
onward none x f = x
onward (some u) x f = f u

-- the extent of the bytes from a state on, behind n bytes
unfoldable pub verdict : List ℕ → Ctl → ℕ → Result (Unit {0}) ℕ
verdict [] t n = at_end t n
verdict (b ∷ s) t n = onward (turn t b) (Err n) (λ u. verdict s u (suc n))

at_end_lem : (s : State) (n : ℕ) → at_end (shape s) n ≡ extent_by (Mc.is_after s) n
at_end_lem Mc.before n = refl
at_end_lem Mc.after n = refl
at_end_lem (Mc.less i []) n = refl
at_end_lem (Mc.less i (m ∷ ns)) n = refl
at_end_lem (Mc.tag i m ns) n = refl
at_end_lem (Mc.gap b T) n = refl
at_end_lem (Mc.slash T) n = refl
at_end_lem (Mc.name T m) n = refl
at_end_lem (Mc.equals T m) n = refl
at_end_lem (Mc.quote T m) n = refl
at_end_lem (Mc.val H) n = refl
at_end_lem (Mc.ref r H) n = refl
at_end_lem (Mc.inside m ns) n = refl
at_end_lem (Mc.closing m ns) n = refl

prefixed : (ts : List Tag) (o : Option (List Tag)) (n : ℕ) → extent_by o n ≡ extent_by (Mc.prefix ts o) n
prefixed ts none n = refl
prefixed ts (some us) n = refl

same_extent : (w : List ℕ) (s : State) (n : ℕ) → verdict w (shape s) n ≡ extent_by (Mc.scan s w) (n + Mc.eaten s w)
unfolding verdict
same_extent [] s n = at_end_lem s n ∙ ap (extent_by (Mc.is_after s)) (sym (add-zero n))
same_extent (c ∷ w) s n = go (like s (suc (length w)) c) (λ t. same_extent w t (suc n))
  where
    later : (t : State) (u : Ctl) → shape t ≡ u → ((t : State) → verdict w (shape t) (suc n) ≡ extent_by (Mc.scan t w) (suc n + Mc.eaten t w))
        → verdict w u (suc n) ≡ extent_by (Mc.scan t w) (n + suc (Mc.eaten t w))
    later t u q ih =
        let e : suc n + Mc.eaten t w ≡ n + suc (Mc.eaten t w) = omega arith in
        ap (λ (v : Ctl). verdict w v (suc n)) (sym q) ∙ ih t ∙ ap (extent_by (Mc.scan t w)) e

    go : {x : Move} {o : Option Ctl} → Like x o → ((t : State) → verdict w (shape t) (suc n) ≡ extent_by (Mc.scan t w) (suc n + Mc.eaten t w))
        → onward o (Err n) (λ u. verdict w u (suc n)) ≡ extent_by (Mc.follow x (λ t. Mc.scan t w)) (n + Mc.one_more x (λ t. Mc.eaten t w))
    go stops ih = ap Err (sym (add-zero n))
    go (gos {t = t} {u = u} q) ih = later t u q ih
    go (says {ts = ts} {t = t} {u = u} q) ih = later t u q ih ∙ prefixed ts (Mc.scan t w) (n + suc (Mc.eaten t w))

-- the extent of a page is what this machine says of it
pub extent_is : (w : List ℕ) → extent_of w ≡ verdict w (ctl before [] []) 0
unfolding extent_of
extent_is w = let e : 0 + Mc.eaten Mc.before w ≡ Mc.eaten Mc.before w = omega arith in sym (same_extent w Mc.before 0 ∙ ap (extent_by (Mc.scan Mc.before w)) e)
