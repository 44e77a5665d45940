-- An element without faults is good: what reading gives of it keeps every rule of the writer.
use mathlib.Core.Path.{◌≡◌, refl, ap, sym, ◌∙◌}
use mathlib.Core.Bool.{Bool, true, false, not, ◌&&◌, ◌||◌}
use mathlib.Core.List.{List, [], ◌∷◌, ◌++◌}
use Prim.Native.Nat.{ℕ}
use native.Mathlib.Omega.{arith}
use lib.Dec.{eqb}
use Rattle.paper.specs.Lists.{if, same, elem, twice, every, is_empty}
use Rattle.paper.proofs.Small.{no, neither, same_eq, same_comm, same_self, and_intro}
use Rattle.paper.specs.Grammar.{Attr}
use Rattle.paper.specs.Values.{cut, keep, value, decode, text}
use Rattle.paper.specs.Fields.{Kind, Field, fields_of, excluded, Pair}
use Rattle.paper.specs.Rules.{keeps, is_zero, settle}
use Rattle.paper.specs.Plan.{Slots, names_of}
use Rattle.paper.specs.Judging.{Fault, names, found, slots_of, letters_of, breaks, broken, missing, clash, own, fault, mp_version, mp_over, mp_half}
use Rattle.paper.specs.Writing.{good_slot, good_slots, good_element}
use Rattle.paper.proofs.Element.{settled_nil}

cut_keep : (c : ℕ) (s : List ℕ) → cut s ≡ s → cut (keep c s) ≡ keep c s
cut_keep c [] e = at (eqb c 32) refl
  where
    at : (b : Bool) → eqb c 32 ≡ b → cut (if b [] (c ∷ [])) ≡ if b [] (c ∷ [])
    at true q = refl
    at false q = rw q
cut_keep c (d ∷ s) e = ap (keep c) e

cut_cut : (s : List ℕ) → cut (cut s) ≡ cut s
cut_cut [] = refl
cut_cut (c ∷ s) = cut_keep c (cut s) (cut_cut s)

found_cut : (l : List Attr) (n : List ℕ) → cut (found l n) ≡ found l n
found_cut [] n = refl
found_cut (a ∷ l) n = at (same a.name n) (found_cut l n)
  where
    at : (b : Bool) → cut (found l n) ≡ found l n → cut (if b (value a.raw) (found l n)) ≡ if b (value a.raw) (found l n)
    at true ih = cut_cut (decode text a.raw)
    at false ih = ih

not_both : (a b : Bool) → not a && not b ≡ false → a ≡ false → b ≡ true
not_both true b e f = no f
not_both false true e f = refl
not_both false false e f = no e

good_settled : (f : Field) (x : List ℕ) → cut x ≡ x → breaks f (settle f x) ≡ false → good_slot f (settle f x) ≡ true
good_settled f x c e = at (is_zero f.rule x) refl x refl e
  where
    at : (b : Bool) → is_zero f.rule x ≡ b → (y : List ℕ) → x ≡ y → breaks f (if b [] x) ≡ false → good_slot f (if b [] x) ≡ true
    at true q y r e = refl
    at false q [] r e = rw r
    at false q (d ∷ y) r e =
        let full : is_empty x ≡ false = rw r in
        let k : keeps f x ≡ true = not_both (is_empty x) (keeps f x) e full in
        let s : same (cut x) x ≡ true = ap (λ (z : List ℕ). same z x) c ∙ same_self x in
        rw (full, k, s, q)

good_read : (fs : List Field) (l : List Attr) → broken fs (slots_of fs l) ≡ false → good_slots fs (slots_of fs l) ≡ true
good_read [] l e = refl
good_read (f ∷ fs) l e =
    let v : List ℕ = settle f (found l f.letters) in
    let (a, b) = neither (breaks f v) (broken fs (slots_of fs l)) e in
    and_intro (good_slot f v) (good_slots fs (slots_of fs l)) (good_settled f (found l f.letters) (found_cut l f.letters) a) (good_read fs l b)

-- ---- names that are not there

found_absent : (l : List Attr) (n : List ℕ) → elem n (names l) ≡ false → found l n ≡ []
found_absent [] n e = refl
found_absent (a ∷ l) n e = let (x, y) = neither (same n a.name) (elem n (names l)) e in rw (same_comm a.name n, x) (found_absent l n y)

elem_less : (x : List ℕ) (fs : List Field) (l : List Attr) → elem x (names l) ≡ false → elem x (names_of fs (slots_of fs l)) ≡ false
elem_less x [] l e = refl
elem_less x (f ∷ fs) l e = at (settle f (found l f.letters)) refl (elem_less x fs l e)
  where
    empty : x ≡ f.letters → settle f (found l f.letters) ≡ []
    empty q = ap (λ (n : List ℕ). settle f (found l n)) (sym q) ∙ ap (settle f) (found_absent l x e) ∙ settled_nil f

    at : (v : List ℕ) → settle f (found l f.letters) ≡ v → elem x (names_of fs (slots_of fs l)) ≡ false → elem x (names_of (f ∷ fs) (v ∷ slots_of fs l)) ≡ false
    at [] q ih = ih
    at (c ∷ v) q ih = go (same x f.letters) refl
      where
        go : (b : Bool) → same x f.letters ≡ b → (b || elem x (names_of fs (slots_of fs l))) ≡ false
        go true s = let z : c ∷ v ≡ [] = sym q ∙ empty (same_eq x f.letters s) in let y : ◌≡◌ {A = ℕ} 0 1 = cc in absurd (omega arith)
        go false s = ih

clash_less : (ps : List Pair) (ns ms : List (List ℕ)) → ((x : List ℕ) → elem x ns ≡ false → elem x ms ≡ false) → clash ps ns ≡ false → clash ps ms ≡ false
clash_less [] ns ms h e = refl
clash_less (p ∷ ps) ns ms h e =
    let (a, b) = neither (elem p.0 ns && elem p.1 ns) (clash ps ns) e in
    rw (at (elem p.0 ns) refl a, clash_less ps ns ms h b)
  where
    and_right : (a b : Bool) → b ≡ false → a && b ≡ false
    and_right true b e = e
    and_right false b e = refl

    at : (b : Bool) → elem p.0 ns ≡ b → (b && elem p.1 ns) ≡ false → (elem p.0 ms && elem p.1 ms) ≡ false
    at true q e = and_right (elem p.0 ms) (elem p.1 ms) (h p.1 e)
    at false q e = ap (λ (b : Bool). b && elem p.1 ms) (h p.0 q)

-- ---- no faults

pub fault_nil : (b : Bool) (n i : ℕ) (r : List Fault) → fault b n i ++ r ≡ [] → (b ≡ false) × (r ≡ [])
fault_nil true n i r e = let y : ◌≡◌ {A = ℕ} 0 1 = cc in absurd (omega arith)
fault_nil false n i r e = (refl, e)

pub append_nil_both : (a b : List Fault) → a ++ b ≡ [] → (a ≡ []) × (b ≡ [])
append_nil_both [] b e = (refl, e)
append_nil_both (x ∷ a) b e = let y : ◌≡◌ {A = ℕ} 0 1 = cc in absurd (omega arith)

pub fault_off : (b : Bool) (n i : ℕ) → fault b n i ≡ [] → b ≡ false
fault_off true n i e = let y : ◌≡◌ {A = ℕ} 0 1 = cc in absurd (omega arith)
fault_off false n i e = refl

-- what it takes that an element's own tag has no fault
pub record Clear (k : Kind) (ns : List (List ℕ)) (vs : Slots) : Type 0 where
  pub known : (not (every (λ n. elem n (letters_of (fields_of k))) ns) || twice ns) ≡ false
  pub edition : mp_version k vs ≡ false
  pub kept : broken (fields_of k) vs ≡ false
  pub over : mp_over k vs ≡ false
  pub full : missing (fields_of k) vs ≡ false
  pub apart : clash (excluded k) ns ≡ false
  pub half : mp_half k vs ≡ false

pub own_clear : (k : Kind) (i : ℕ) (l : List Attr) → own k i l ≡ [] → Clear k (names l) (slots_of (fields_of k) l)
own_clear k i l e =
    let (a, e₁) = fault_nil _ 5 i _ e in
    let (b, e₂) = fault_nil _ 6 i _ e₁ in
    let (c, e₃) = fault_nil _ 7 i _ e₂ in
    let (c₁, c₂) = neither _ _ c in
    let (d, d₃) = neither _ _ (fault_off _ 8 i e₃) in
    let (d₁, d₂) = neither _ _ d in
    record { known = a; edition = b; kept = c₁; over = c₂; full = d₁; apart = d₂; half = d₃ }

pub record OwnFine (k : Kind) (vs : Slots) : Type 0 where
  pub good : good_element k vs ≡ true
  pub version : mp_version k vs ≡ false

pub own_good : (k : Kind) (i : ℕ) (l : List Attr) → own k i l ≡ [] → OwnFine k (slots_of (fields_of k) l)
unfolding good_element
own_good k i l e =
    let fs : List Field = fields_of k in
    let C = own_clear k i l e in
    let n = clash_less (excluded k) (names l) (names_of fs (slots_of fs l)) (λ x. elem_less x fs l) C.apart in
    record { good = rw (good_read fs l C.kept, C.full, n); version = C.edition }
