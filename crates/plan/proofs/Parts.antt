-- Parts: what the code takes from a record: its texts one by one, and its kind.
-- Assumes nothing.
use mathlib.Core.Path.{◌≡◌, refl, sym, ap, ◌∙◌}
use mathlib.Core.Bool.{Bool, true, false}
use mathlib.Core.List.{List}
use Prim.Native.Nat.{ℕ, zero, suc, ◌+◌, ◌<◌}
use native.Mathlib.Nat.{not-suc-le-zero, le_of_suc-le-suc, add-zero}
use native.Mathlib.Omega.{arith}
use lib.Dec.{eqb}
use lib.ListN.{length, get_or}
use Rattle.paper.specs.Lists.{if}
use Rattle.paper.specs.Fields.{unknown, S, M, R, X}
use Rattle.plan.specs.Numbers.{kind_shown}
use Rattle.plan.specs.Records.{no_span, code_span_in, text_span, texts_in, paper_kind, code_kind}

-- ---- the texts of a record

-- there are as many as were asked for
pub texts_long : (n k : ℕ) (l : List ℕ) → length (texts_in n k l) ≡ n
unfolding texts_in
texts_long zero k l = refl
texts_long (suc n) k l = ap suc (texts_long n (suc k) l)

-- text j of those from text k on
pub text_at : (n k : ℕ) (l : List ℕ) (j : ℕ) → j < n → get_or (texts_in n k l) j no_span ≡ code_span_in l (text_span (k + j))
unfolding texts_in
text_at zero k l j h = absurd (not-suc-le-zero h)
text_at (suc n) k l zero h = ap (λ (m : ℕ). code_span_in l (text_span m)) (sym (add-zero k))
text_at (suc n) k l (suc j) h = let e : suc k + j ≡ k + suc j = omega arith in text_at n (suc k) l j (le_of_suc-le-suc h) ∙ ap (λ (m : ℕ). code_span_in l (text_span m)) e

-- ---- the kind of a record

kind_told : (a b c d : Bool) → paper_kind (code_kind (if a S (if b M (if c R (if d X unknown))))) ≡ if a S (if b M (if c R (if d X unknown)))
kind_told true b c d = refl
kind_told false true c d = refl
kind_told false false true d = refl
kind_told false false false true = refl
kind_told false false false false = refl

-- the kind that a number shows is told by the code's
pub kind_is : (n : ℕ) → kind_shown n ≡ paper_kind (code_kind (kind_shown n))
kind_is n = sym (kind_told (eqb n 1) (eqb n 2) (eqb n 3) (eqb n 4))
