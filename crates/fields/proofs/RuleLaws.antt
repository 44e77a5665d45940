-- RuleLaws: text byte by byte, lines byte by byte, rules and their numbers, and a field's tests one after the other.
-- Assumes nothing.
use mathlib.Core.Path.{◌≡◌, refl, sym, ap, ◌∙◌}
use mathlib.Core.Bool.{Bool, true, false, ◌&&◌}
use mathlib.Core.List.{List, []}
use Prim.Native.Nat.{ℕ, suc, ◌+◌, ◌≤◌, ◌<◌}
use native.Mathlib.Nat.{add-zero, zero-add}
use native.Mathlib.Numerals.{add-one}
use native.Mathlib.Omega.{arith}
use lib.Dec.{leb}
use lib.ListN.{length, drop, get_or, drop_of_length-le}
use lib.Seq.{drop-cons}
use borrow.Author.Tests.{ne_eqb, le-leb, lt-leb}
use Rattle.std.specs.Prelude.{Option}
use Rattle.std.specs.Bool.{then_some}
use Rattle.paper.specs.declared.Cause.{Cause}
use Rattle.paper.specs.declared.Cause.TheVariants.{Incomplete}
use Rattle.paper.specs.Causes.{flaw_number}
use Rattle.paper.specs.Lists.{if, every, count, is_empty}
use Rattle.paper.specs.Bytes.{is_decoded}
use Rattle.paper.specs.Fields.{Field, Rule, text, version, digits, hexes, language, page_no, birthday, sex, insured, stamp, one, lines, pzn, code3, dose, sign}
use Rattle.paper.specs.Rules.{lines_ok, keeps, obeys}
use Rattle.paper.proofs.Small.{both}
use Rattle.fields.specs.Places.{rule_at, rule_number, formed, field_flaw}

-- ---- text

-- what is left of a text of which n line breaks are passed
abbrev pub text_from : ℕ → ℕ → List ℕ → Bool
text_from t n s = every is_decoded s && leb (n + count 126 s) t

-- a line break
pub text_break : (t n : ℕ) (s : List ℕ) (i : ℕ) → i < length s → get_or s i 0 ≡ 126 → text_from t n (drop i s) ≡ text_from t (n + 1) (drop (i + 1) s)
text_break t n s i h e =
    let k = count 126 (drop (suc i) s) in
    let f : n + suc k ≡ n + 1 + k = omega arith in
    rw (add-one i, drop-cons s i 0 h, e, f)

-- another byte that may stand in a value
pub text_mark : (t n : ℕ) (s : List ℕ) (i : ℕ) → i < length s → (get_or s i 0 ≡ 126 → ⊥) → is_decoded (get_or s i 0) ≡ true
    → text_from t n (drop i s) ≡ text_from t n (drop (i + 1) s)
text_mark t n s i h e d = rw (add-one, drop-cons s i 0, d, ne_eqb (get_or s i 0) 126 e, count)

-- a byte that may not
pub text_bad : (t n : ℕ) (s : List ℕ) (i : ℕ) → i < length s → is_decoded (get_or s i 0) ≡ false → text_from t n (drop i s) ≡ false
text_bad t n s i h d = rw (drop-cons s i 0, d)

-- no byte is left
pub text_done : (t n : ℕ) (s : List ℕ) (i : ℕ) → length s ≤ i → text_from t n (drop i s) ≡ leb n t
text_done t n s i h = rw (drop_of_length-le s h) (ap (λ (k : ℕ). leb k t) (add-zero n))

-- no byte is left, and none was a line break
pub line_all : (t : ℕ) (s : List ℕ) (i : ℕ) → length s ≤ i → text_from t 0 s ≡ text_from t 0 (drop i s) → (every is_decoded s && leb (count 126 s) t) ≡ true
line_all t s i h e = ap (λ (k : ℕ). every is_decoded s && leb k t) (sym (zero-add (count 126 s))) ∙ e ∙ text_done t 0 s i h ∙ le-leb 0 t (omega arith)

-- ---- lines

-- a byte of this line
pub line_mark : (n : ℕ) (s : List ℕ) (i : ℕ) → i < length s → (get_or s i 0 ≡ 126 → ⊥) → lines_ok n (drop i s) ≡ lines_ok (n + 1) (drop (i + 1) s)
line_mark n s i h e = rw (add-one i, add-one n, drop-cons s i 0 h, ne_eqb (get_or s i 0) 126 e, lines_ok)

-- the end of a line that is not too long
pub line_break : (n : ℕ) (s : List ℕ) (i : ℕ) → i < length s → get_or s i 0 ≡ 126 → n ≤ 25 → lines_ok n (drop i s) ≡ lines_ok 0 (drop (i + 1) s)
line_break n s i h e l = rw (add-one i, drop-cons s i 0 h, e, le-leb n 25 l)

-- the end of a line that is
pub line_long : (n : ℕ) (s : List ℕ) (i : ℕ) → i < length s → get_or s i 0 ≡ 126 → 25 < n → lines_ok n (drop i s) ≡ false
line_long n s i h e l = rw (drop-cons s i 0 h, e, lt-leb n 25 l)

-- no byte is left
pub line_done : (n : ℕ) (s : List ℕ) (i : ℕ) → length s ≤ i → lines_ok n (drop i s) ≡ leb n 25
line_done n s i h = rw (drop_of_length-le s h)

-- ---- rules and their numbers

-- the rule of a rule's number
pub rule_back : (r : Rule) → rule_at (rule_number r) ≡ r
rule_back text = refl
rule_back version = refl
rule_back digits = refl
rule_back hexes = refl
rule_back language = refl
rule_back page_no = refl
rule_back birthday = refl
rule_back sex = refl
rule_back insured = refl
rule_back stamp = refl
rule_back one = refl
rule_back lines = refl
rule_back pzn = refl
rule_back code3 = refl
rule_back dose = refl
rule_back sign = refl

-- ---- a field's tests

module _ (f : Field) (v : List ℕ) where
  -- a value of a length that the field allows, by the number of its rule
  pub fitting : (r : ℕ) → f.least ≤ length v → length v ≤ f.most → r ≡ rule_number f.rule → obeys (rule_at r) v ≡ formed f v
  fitting r l m e = ap (λ (n : ℕ). obeys (rule_at n) v) e ∙ ap (λ (q : Rule). obeys q v) (rule_back f.rule) ∙ sym (rw (le-leb f.least (length v) l, le-leb (length v) f.most m))

-- a field is kept by a text that has its length and its form
pub keeps_by : (f : Field) (v : List ℕ) → (every is_decoded v && leb (count 126 v) f.tildes) ≡ true → formed f v ≡ keeps f v
keeps_by f v e = let (x, y) = both (every is_decoded v) (leb (count 126 v) f.tildes) e in rw (x, y)

-- ---- what is wrong with a value

module _ (f : Field) (v : List ℕ) where
  -- absent
  pub flaw_absent : (o : Option Cause) (b : Bool) → [] ≡ v → o ≡ then_some b Incomplete → b ≡ f.must → flaw_number o ≡ field_flaw f v
  unfolding field_flaw
  flaw_absent o b e p q = rw (p, q, ← e) (go f.must)
    where
      go : (m : Bool) → flaw_number (then_some m Incomplete) ≡ if (m && true) 8 9
      go true = refl
      go false = refl

  -- present, and it keeps its field
  pub flaw_kept : is_empty v ≡ false → keeps f v ≡ true → 9 ≡ field_flaw f v
  unfolding field_flaw
  flaw_kept e k = rw (e, k) (go f.must)
    where
      go : (b : Bool) → ◌≡◌ {A = ℕ} 9 (if (b && false) 8 9)
      go true = refl
      go false = refl

  -- present, and it breaks its field
  pub flaw_broken : is_empty v ≡ false → keeps f v ≡ false → 7 ≡ field_flaw f v
  unfolding field_flaw
  flaw_broken e k = rw (e, k)
