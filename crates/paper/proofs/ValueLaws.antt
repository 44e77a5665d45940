-- Reading a value's spelling gives the value; the spelling is in the grammar.
-- Assumes nothing.
use mathlib.Core.Path.{◌≡◌, refl, ap, sym, ◌∙◌}
use mathlib.Core.Bool.{Bool, true, false, ◌||◌}
use mathlib.Core.Logic.{◌≢◌}
use mathlib.Core.List.{List, [], ◌∷◌, ◌++◌}
use Prim.Native.Nat.{ℕ, suc, ◌≤◌}
use native.Mathlib.Omega.{arith}
use lib.Dec.{eqb}
use lib.ListN.{length, length-append}
use borrow.Author.Tests.{eqb-true, eqb-false, ne_eqb}
use Rattle.paper.specs.Lists.{bytes, if, same, every, All}
use Rattle.paper.specs.Bytes.{is_decoded, is_allowed}
use Rattle.paper.proofs.Small.{no, both, same_eq, every_append}
use Rattle.paper.specs.Grammar.{Raw, end, plain, ref, amp, lt, quot, is_plain}
use Rattle.paper.specs.Values.{At, text, cr, ref, put, plainly, vstep, decode, keep, cut, value, esc, escape, refers}

pub data Esc : ℕ → Type 0 where
  and : Esc 38
  less : Esc 60
  mark : Esc 34
  other : {c : ℕ} → eqb c 38 ≡ false → eqb c 60 ≡ false → eqb c 34 ≡ false → Esc c

pub escaping : (c : ℕ) → Esc c
escaping c = go (eqb c 38) refl (eqb c 60) refl (eqb c 34) refl
  where
    go : (a : Bool) → eqb c 38 ≡ a → (b : Bool) → eqb c 60 ≡ b → (d : Bool) → eqb c 34 ≡ d → Esc c
    go true e b f d g = rw (eqb-true c 38 e) and
    go false e true f d g = rw (eqb-true c 60 f) less
    go false e false f true g = rw (eqb-true c 34 g) mark
    go false e false f false g = other e f g

esc_other : (c : ℕ) → eqb c 38 ≡ false → eqb c 60 ≡ false → eqb c 34 ≡ false → esc c ≡ c ∷ []
esc_other c e f g = simp (e, f, g, esc)

-- no decoded byte is 9, 10 or 13
not_decoded : (c d : ℕ) → is_decoded c ≡ true → is_decoded d ≡ false → eqb c d ≡ false
not_decoded c d e f = ne_eqb c d (λ g. no (sym e ∙ ap is_decoded g ∙ f))

plain_other : (c : ℕ) → is_decoded c ≡ true → eqb c 38 ≡ false → plainly c ≡ put (c ∷ []) text
plain_other c o e = simp (plainly, e, not_decoded c 13 o refl, not_decoded c 10 o refl, not_decoded c 9 o refl)

one : {c : ℕ} → Esc c → is_decoded c ≡ true → (s : List ℕ) → decode text (esc c ++ s) ≡ c ∷ decode text s
one and o s = refl
one less o s = refl
one mark o s = refl
one {c} (other e f g) o s = simp (esc_other c e f g, plain_other c o e)

pub decode_escape : (v : List ℕ) → every is_decoded v ≡ true → decode text (escape v) ≡ v
decode_escape [] h = refl
decode_escape (c ∷ v) h = let (o, r) = both (is_decoded c) (every is_decoded v) h in one (escaping c) o (escape v) ∙ ap (λ (r : List ℕ). c ∷ r) (decode_escape v r)

pub value_escape : (v : List ℕ) → every is_decoded v ≡ true → same (cut v) v ≡ true → value (escape v) ≡ v
value_escape v h e = ap cut (decode_escape v h) ∙ same_eq (cut v) v e

plain_byte : (c : ℕ) → is_decoded c ≡ true → eqb c 38 ≡ false → eqb c 60 ≡ false → eqb c 34 ≡ false → is_plain 34 c ≡ true
plain_byte c o e f g = simp (o, e, f, g, is_plain)

pub escaped_raw : (v : List ℕ) → every is_decoded v ≡ true → Raw 34 (escape v)
escaped_raw [] h = end
escaped_raw (c ∷ v) h = let (o, r) = both (is_decoded c) (every is_decoded v) h in at (escaping c) o (escaped_raw v r)
  where
    at : {c : ℕ} → Esc c → is_decoded c ≡ true → Raw 34 (escape v) → Raw 34 (esc c ++ escape v)
    at and o q = ref (bytes "amp;") amp q
    at less o q = ref (bytes "lt;") lt q
    at mark o q = ref (bytes "quot;") quot q
    at {c} (other e f g) o q = rw (esc_other c e f g) (plain (plain_byte c o e f g) q)

esc_allowed : {c : ℕ} → Esc c → is_decoded c ≡ true → every is_allowed (esc c) ≡ true
esc_allowed and o = refl
esc_allowed less o = refl
esc_allowed mark o = refl
esc_allowed {c} (other e f g) o = rw (esc_other c e f g, o)

pub escape_allowed : (v : List ℕ) → every is_decoded v ≡ true → every is_allowed (escape v) ≡ true
escape_allowed [] h = refl
escape_allowed (c ∷ v) h = let (o, r) = both (is_decoded c) (every is_decoded v) h in every_append is_allowed (esc c) (escape v) (esc_allowed (escaping c) o) (escape_allowed v r)

-- ---- lengths

plainly_short : (c : ℕ) → length (plainly c).out ≤ 1
plainly_short c = at (eqb c 38) (eqb c 13) (eqb c 10 || eqb c 9)
  where
    at : (a b d : Bool) → length (if a (put [] (ref [])) (if b (put (32 ∷ []) cr) (if d (put (32 ∷ []) text) (put (c ∷ []) text)))).out ≤ 1
    at true b d = omega arith
    at false true d = omega arith
    at false false true = omega arith
    at false false false = omega arith

step_short : (v : At) (c : ℕ) → length (vstep v c).out ≤ 1
step_short text c = plainly_short c
step_short cr c = at (eqb c 10)
  where
    at : (b : Bool) → length (if b (put [] text) (plainly c)).out ≤ 1
    at true = omega arith
    at false = plainly_short c
step_short (ref s) c = at (eqb c 59)
  where
    at : (b : Bool) → length (if b (put (refers s ∷ []) text) (put [] (ref (s ++ c ∷ [])))).out ≤ 1
    at true = omega arith
    at false = omega arith

decode_short : (r : List ℕ) (v : At) → length (decode v r) ≤ length r
decode_short [] v = omega arith
decode_short (c ∷ r) v = omega (arith, length-append (vstep v c).out (decode (vstep v c).to r), step_short v c, decode_short r (vstep v c).to)

cut_short : (s : List ℕ) → length (cut s) ≤ length s
cut_short [] = omega arith
cut_short (c ∷ s) = at (cut s) (cut_short s)
  where
    space : (b : Bool) → length (if b [] (c ∷ [])) ≤ 1
    space true = omega arith
    space false = omega arith

    at : (t : List ℕ) → length t ≤ length s → length (keep c t) ≤ suc (length s)
    at [] n = omega (arith, space (eqb c 32))
    at (d ∷ t) n = omega arith

-- a value is never longer than the bytes between its quotes
pub value_short : (r : List ℕ) → length (value r) ≤ length r
value_short r = omega (arith, cut_short (decode text r), decode_short r text)

-- ---- the bytes of a spelling

-- neither a double quote nor a raw `<`
abbrev pub Clean : ℕ → Type 0
Clean c = (c ≢ 34) × (c ≢ 60)

all_append : (s t : List ℕ) → All Clean s → All Clean t → All Clean (s ++ t)
all_append [] t a b = b
all_append (x ∷ s) t a b = (a.0, all_append s t a.1 b)

esc_clean : {c : ℕ} → Esc c → All Clean (esc c)
esc_clean and = omega arith
esc_clean less = omega arith
esc_clean mark = omega arith
esc_clean {c} (other e f g) = rw (esc_other c e f g) ((eqb-false c 34 g, eqb-false c 60 f), tt)

-- the spelling of a value holds no double quote and no `<`
pub escape_clean : (v : List ℕ) → All Clean (escape v)
escape_clean [] = tt
escape_clean (c ∷ v) = all_append (esc c) (escape v) (esc_clean (escaping c)) (escape_clean v)
